use Rattle.std.proofs.Common.{◌≤◌, ℕ, List, ap, arith, subst, sym, length}
use Rattle.hp_search.specs.Searching.{place_of}
use Rattle.hp_search.proofs.Made.{ListsUpTo, listed_all, listed_more, listed_none}
use Rattle.hp_every.specs.declared.turn.Turn.{Turn}
use Rattle.hp_layers.specs.Named.{AreApart}
use Rattle.hp_layers.proofs.Naming.{apart_none}
use Rattle.hp_search.proofs.position.Position.next_turns.Goals as goal

pub returns-clause-all : goal.returns-clause-all
returns-clause-all c =
    let long = ap (λ (made : List ℕ). length made) c.made-tasks.ensures.made in
    listed_all c.args.plan.now (place_of c.args.self.now) c.loop-place.turns.items c.loop-place.place
    (subst (λ (n : ℕ). n ≤ c.loop-place.place) long c.loop-place-test.false) c.loop-place.invariant.listed

pub loop-place-init : goal.loop-place-init
loop-place-init c =
    let plan = c.args.plan.now in
    let p = place_of c.args.self.now in
    record {
      listed = subst (λ (turns : List Turn). ListsUpTo plan p turns 0) (sym c.new-turns.ensures.items) (listed_none plan p);
      apart = subst AreApart (sym c.new-turns.ensures.items) (apart_none Turn);
    }

pub loop-place-preserved : goal.loop-place-preserved
loop-place-preserved c =
    let plan = c.args.plan.now in
    let p = place_of c.args.self.now in
    let was = c.loop-place.invariant in
    record {
      listed = listed_more plan p c.loop-place.place _ c.loop-place.turns.items c.push_turns.new.turns.items
          (omega (arith, c.loop-place-test.true, c.made-tasks.ensures.few)) was.listed c.in_ok-push_turns.ensures.listed;
      apart = c.in_ok-push_turns.ensures.apart was.apart
          (λ t x. (let low = ((was.listed t).0 x).0 in omega (arith, low, c.loop-place-test.true, c.made-tasks.ensures.few)));
    }
