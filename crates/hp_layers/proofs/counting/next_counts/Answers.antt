use Rattle.std.proofs.Common.{◌≡◌, ◌≤◌, ◌⊎◌, ◌∙◌, [], List, ap, arith, length, refl, subst, sym, take, ℕ}
use Rattle.std.specs.Prelude.{None, map}
use Rattle.std.specs.HashMap.{get}
use Rattle.std.specs.Map.{lookup}
use Rattle.std.proofs.lemmas.List.{take_all}
use Rattle.hp_layers.specs.Layers.{AreNext, LacksBytes, LacksRoom}
use Rattle.hp_layers.specs.Named.{MoveSo}
use Rattle.hp_layers.proofs.Bytes.{no_bytes, nothing_fits}
use Rattle.hp_layers.proofs.Covering.{next_of_none, none_valid}
use Rattle.hp_layers.proofs.Indexing.{have_one_place, indexed_keys, none_indexed}
use Rattle.hp_layers.proofs.Spreading.{goes_on, no_moves}
use Rattle.hp_layers.proofs.counting.next_counts.Goals as goal

pub loop-begin-init : goal.loop-begin-init
loop-begin-init g c =
    let m = c.args.system.now in
    let eq = g.M.Key.PartialEq.eq in
    let none : (q : _) → get eq c.new-seats.result q ≡ None = λ q. ap (lookup (eq q)) c.new-seats.ensures.empty in
    record {
      within = omega arith;
      tallied = record {
        are_valid = none_valid (g.M.Turns.valid m) c.no_counts.result.states.items c.no_counts.ensures.states;
        long = ap (λ (l : List ℕ). length l) c.no_counts.ensures.ways ∙ sym (ap (λ (l : List _). length l) c.no_counts.ensures.states);
        indexed = none_indexed eq (λ s k. g.M.Turns.key_of m s ≡ k) (get eq c.new-seats.result) c.no_counts.result.states.items none
            c.no_counts.ensures.states;
        next_of = subst (λ (l : List _). AreNext (g.M.Turns.turn m) (g.M.Turns.alike m) [] l) (sym c.no_counts.ensures.states)
            (next_of_none (g.M.Turns.turn m) (g.M.Turns.alike m));
        moves = no_moves (g.M.Ends.step m) (g.M.Turns.key_of m) (get eq c.new-seats.result) c.no_counts.result.ways.items c.no_counts.ensures.ways;
        fits = nothing_fits c.no_counts.result.states.items 0 c.args.room.states c.args.room.bytes c.no_counts.ensures.states refl;
        are_bytes = no_bytes (g.M.Turns.bytes_of m) c.no_counts.result.states.items 0 c.no_counts.ensures.states refl;
      };
      own = c.in_ok-made.ensures.own;
    }

pub returns-then-not-fits-clause-none : goal.returns-then-not-fits-clause-none
returns-then-not-fits-clause-none g c =
    let m = c.args.system.now in
    let eq = g.M.Key.PartialEq.eq in
    let key_of = g.M.Turns.key_of m in
    let turn = g.M.Turns.turn m in
    subst (λ (l : List _). LacksRoom eq key_of turn l c.args.room.states ⊎ LacksBytes eq key_of turn (g.M.Turns.bytes_of m) l c.args.room.bytes)
    c.as_slice-states.ensures.value (c.in_ok-ahead.ensures.none c.if-not-fits.true)

pub returns-clause-keys : goal.returns-clause-keys
returns-clause-keys g c =
    let key_eq = g.met.M.Key.Eq g.world.𝓛 g.world.𝓜 g.world.𝓡 ((λ s x. x), (λ x. x), (λ x. x), λ x. x) in
    let m = c.args.system.now in
    let eq = g.M.Key.PartialEq.eq in
    let laws = key_eq.laws in
    let states = c.loop-begin.next.counts.states.items in (
      map (g.M.Turns.key_of m) states,
      indexed_keys eq (g.M.Turns.key_of m) laws.symm (get eq c.loop-begin.seats) states
          (have_one_place eq c.loop-begin.seats.entries laws.congr) c.loop-begin.invariant.tallied.indexed,
    )

pub returns-clause-goes : goal.returns-clause-goes
returns-clause-goes g c =
    let turns = g.met.M.Turns g.world.𝓛 g.world.𝓜 g.world.𝓡 ((λ s x. x), (λ x. x), (λ x. x), λ x. x) in
    let ends_so = g.met.M.Ends g.world.𝓛 g.world.𝓜 g.world.𝓡 ((λ s x. x), (λ x. x), (λ x. x), λ x. x) in
    let m = c.args.system.now in
    let eq = g.M.Key.PartialEq.eq in
    let good = turns.as_good m in
    let ns = c.args.layer.now.ways.items in
    let states = c.args.layer.now.states.items in
    let k = c.loop-begin.begin in
    let next = c.loop-begin.next.counts in
    let was = c.loop-begin.invariant.tallied in
    let is = c.as_slice-states.ensures.value in
    let all : length states ≤ k = subst (λ (l : List _). length l ≤ k) is c.loop-begin-test.false in
    let whole : length ns ≤ k = omega (arith, all, c.requires.long) in
    let so = subst (λ (l : List _). MoveSo (g.M.Ends.step m) (g.M.Turns.key_of m) (get eq c.loop-begin.seats) (take k l) (take k ns) next.ways.items)
    is was.moves in
    goes_on eq (g.M.Turns.key_of m) (g.M.Turns.valid m) (g.M.Turns.turn m) (g.M.Turns.alike m) (g.M.Ends.step m) (turns.same_key m) good.stays
    (ends_so.are_named m) (get eq c.loop-begin.seats) c.args.layer.now next c.requires.valid was.are_valid was.indexed
    (subst (λ (l : List _). MoveSo (g.M.Ends.step m) (g.M.Turns.key_of m) (get eq c.loop-begin.seats) l ns next.ways.items) (take_all k states all)
    (subst (λ (l : List ℕ). MoveSo (g.M.Ends.step m) (g.M.Turns.key_of m) (get eq c.loop-begin.seats) (take k states) l next.ways.items)
    (take_all k ns whole) so))
