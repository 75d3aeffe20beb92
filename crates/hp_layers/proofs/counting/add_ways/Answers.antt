use Rattle.std.proofs.Common.{◌≡◌, ◌∙◌, ℕ, ◌+◌, ◌<◌, List, length, get_or, inl, inr, refl, sym, ap, subst, arith}
use Rattle.std.specs.Prelude.{◌==◌, Some, cond, min}
use Rattle.std.specs.HashMap.{get}
use Rattle.std.proofs.lemmas.Grind.{common_steps}
use Rattle.std.proofs.lemmas.List.{get_or_default}
use Rattle.hp_layers.specs.Named.{PutsAtEnd}
use Rattle.hp_layers.specs.Weighed.{IsAsMany, most}
use Rattle.hp_layers.proofs.Indexing.{push_way, set_way}
use Rattle.hp_layers.proofs.Weighing.{place_within}
use Rattle.hp_layers.proofs.counting.add_ways.Goals as goal

pub index-requires : goal.index-requires
index-requires g c =
    let place = sym c.get.ensures.value ∙ (sym c.copied-place.ensures ∙ c.in-Some.is) in
    let within = place_within (get g.K.PartialEq.eq c.args.places.now) (length c.args.counts.now.states.items) c.args.key c.in-Some.at
    c.requires.within place in
    grind (arith, common_steps, within, c.requires.long)

pub index_mut-requires : goal.index_mut-requires
index_mut-requires g c =
    let place = sym c.get.ensures.value ∙ (sym c.copied-place.ensures ∙ c.in-Some.is) in
    let within = place_within (get g.K.PartialEq.eq c.args.places.now) (length c.args.counts.now.states.items) c.args.key c.in-Some.at
    c.requires.within place in
    grind (arith, common_steps, within, c.requires.long)

pub returns-in-Some-clause-added : goal.returns-in-Some-clause-added
unfolding PutsAtEnd
returns-in-Some-clause-added g c =
    let ns = c.args.counts.now.ways.items in
    let at = c.in-Some.at in
    let place = sym c.get.ensures.value ∙ (sym c.copied-place.ensures ∙ c.in-Some.is) in
    let within = place_within (get g.K.PartialEq.eq c.args.places.now) (length c.args.counts.now.states.items) c.args.key at
    c.requires.within place in
    let there : at < length ns = omega (arith, within, c.requires.long) in
    let read = c.index.ensures ∙ get_or_default ns at c.index.result.now 0 there in
    record {
      at = at;
      is = place;
      puts = inl (refl, λ k. refl);
      ways = set_way ns at c.args.more c.saturating_add.result there
          (c.saturating_add.ensures ∙ ap (λ (k : ℕ). min (k + c.args.more) most) read);
    }

pub returns-in_ok-push-in-None-2-clause-added : goal.returns-in_ok-push-in-None-2-clause-added
unfolding PutsAtEnd
returns-in_ok-push-in-None-2-clause-added g c =
    let eq = g.K.PartialEq.eq in
    let ns = c.args.counts.now.ways.items in
    let states = c.args.counts.now.states.items in
    let long : c.len.result ≡ length states = grind (arith, common_steps, c.len.ensures) in
    let own = c.in_ok-insert-in-None.ensures.updates.1 ∙ ap (λ (n : ℕ). Some n) long in
    record {
      at = length states;
      is = own;
      puts = inr (
        c.in_ok-push-in-None.ensures.items,
        sym c.get.ensures.value ∙ (sym c.copied-place.ensures ∙ c.in-None.is),
        own,
        λ q. c.in_ok-insert-in-None.ensures.updates.0 q
            ∙ ap (λ (n : ℕ). cond (eq c.args.key q) (Some n) (get eq c.args.places.now q)) long,
      );
      ways = λ j. subst (λ (l : List ℕ). IsAsMany (get_or l j 0) (get_or ns j 0 + cond (length states == j) c.args.more 0))
          (sym c.in_ok-push-in-None-2.ensures.items) (push_way ns (length states) c.args.more c.requires.long j);
    }
