use Rattle.std.proofs.Common.{ℕ, ◌≡◌, ◌<◌, ◌≤◌, ◌-◌, ◌++◌, List, take, not, ap, sym, ◌∙◌, refl, length, true, false, get_or, arith}
use Rattle.std.specs.Prelude.{nat_eq}
use Rattle.std.proofs.lemmas.List.{get_or_default}
use Rattle.hp_region.proofs.Compared.{le_false, same_number, other_number}
use Rattle.hp_region.specs.declared.region.Region.{Region}
use Rattle.hp_region.proofs.Lists.{meets, with_range, ended_by}
use Rattle.hp_region.proofs.Walked.{meets_past, absorb_past}
use Rattle.hp_region.proofs.Sets.{with_range_is, meets-touches}
use Rattle.hp_region.proofs.Sought.{ended_by-count_by, sought_above, with_range-sought, meets-sought}
use Rattle.hp_region.proofs.walk.add.Goals as goal
use Rattle.hp_region.proofs.walk.add.Goals.{then-loop-end-test+else-le, else-loop-end-test}

-- the place from which `seek` was asked
sought : (c : goal.After-seek-at) → c.seek-at.result.0 ≡ ended_by c.args.regions.now.items (c.args.from - 1)
sought c =
    c.seek-at.ensures.ended
    ∙ (sym (ended_by-count_by c.deref.result.now c.new-before.result)
    ∙ ap (λ (rs : _). ended_by rs c.new-before.result) c.deref.ensures.value ∙ ap (ended_by c.args.regions.now.items) (omega arith))

pub loop-end-init : goal.loop-end-init
loop-end-init c =
    let rs = c.args.regions.now.items in
    let d : Region = record { from = c.args.from; to = c.args.to } in
    let place = sought c in
    let above : c.seek-at.result.0 < length rs → c.args.from - 1 < (get_or rs c.seek-at.result.0 d).to =
    rw place (sought_above 0 rs (c.args.from - 1) d c.requires.apart) in
    let ends : (to : ℕ) → c.args.from - 1 < to → c.args.from ≤ to = λ to h. omega arith in
    let whole = with_range-sought 0 rs c.args.from c.args.to c.requires.apart in
    let met = meets-sought 0 rs c.args.from c.args.to c.requires.apart in
    record {
      in_order = omega arith;
      in_range = rw (← c.deref.ensures.value) c.seek-at.ensures.in_range;
      left = rw place whole;
      first = λ same. (refl, rw place met, λ within. ends (get_or rs c.seek-at.result.0 d).to (above within));
      later = λ less. absurd (omega arith);
    }

-- the walk stopped at a region past what was merged
beyond : (c : goal.After-replace) → c.loop-end.end < length c.args.regions.now.items
    → c.loop-end.merged.to < (get_or c.args.regions.now.items c.loop-end.end c.loop-end.merged).from
beyond c within = elim c.loop-end-test.branch [
  | then-loop-end-test+else-le w ↦
      let read = ap (λ (r : Region). r.from)
      (w.index.ensures ∙ get_or_default c.args.regions.now.items c.loop-end.end w.index.result.now c.loop-end.merged within) in
      omega (arith, le_false w.index.result.now.from c.loop-end.merged.to (w.if-le.ensures {u = tt}), read)
  | else-loop-end-test w ↦ absurd (omega arith)
]

items : (c : goal.After-replace) → c.replace.new.regions.items ≡ with_range c.args.regions.now.items c.args.from c.args.to
items c =
    let rs = c.args.regions.now.items in
    let last = ap (λ (xs : List Region). take c.seek-at.result.0 rs ++ xs) (absorb_past rs c.loop-end.end c.loop-end.merged (beyond c)) in
    c.replace.ensures.items ∙ sym (c.loop-end.invariant.left ∙ last)

pub returns-clause-apart : goal.returns-clause-apart
returns-clause-apart c =
    (with_range_is c.args.regions.now.items c.replace.new.regions.items c.args.from c.args.to c.requires.apart
    c.requires.in_order c.requires.in_limit (items c)).0

pub returns-clause-members : goal.returns-clause-members
returns-clause-members c =
    (with_range_is c.args.regions.now.items c.replace.new.regions.items c.args.from c.args.to c.requires.apart
    c.requires.in_order c.requires.in_limit (items c)).1

-- where nothing was merged, the region there begins past the range
alone : (c : goal.After-replace) → c.loop-end.end ≡ c.seek-at.result.0 → meets c.args.regions.now.items c.args.from c.args.to ≡ false
alone c same =
    let rs = c.args.regions.now.items in
    let first = c.loop-end.invariant.first same in
    let past : c.seek-at.result.0 < length rs → c.args.to < (get_or rs c.seek-at.result.0 c.loop-end.merged).from =
    λ within.
    let there = beyond c (omega arith) in
    let read = ap (λ (i : ℕ). (get_or rs i c.loop-end.merged).from) same in
    omega (arith, there, read, first.0) in
    first.1 ∙ meets_past 0 rs c.seek-at.result.0 c.args.from c.args.to c.loop-end.merged c.requires.apart past

pub returns-clause-alone : goal.returns-clause-alone
returns-clause-alone c =
    let touched = meets-touches c.args.regions.now.items c.args.from c.args.to c.requires.apart c.requires.in_order in
    rw (← touched) (elim (nat_eq c.loop-end.end c.seek-at.result.0) as
    (λ b. nat_eq c.loop-end.end c.seek-at.result.0 ≡ b → b ≡ not (meets c.args.regions.now.items c.args.from c.args.to)) [
      | true ↦ λ e. ap not (sym (alone c (same_number c.loop-end.end c.seek-at.result.0 e)))
      | false ↦ λ e. ap not (sym
          (c.loop-end.invariant.later (other_number c.loop-end.end c.seek-at.result.0 e c.loop-end.invariant.in_order)))
    ] refl)
