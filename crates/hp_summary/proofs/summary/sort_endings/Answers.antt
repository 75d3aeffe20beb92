-- The key is how many runs, the most first, and then the first of them.
use Rattle.std.proofs.Common.{rules, ◌≡◌, ◌+◌, ◌<◌, ◌≤◌, ℕ, arith}
use Rattle.std.specs.Prelude.{◌⊎◌, false, slice_index_or}
use Rattle.std.specs.Ordering.{is_lt, nat_cmp, ordering_then}
use Rattle.std.proofs.lemmas.Bool.Decides.{nat_tests}
use Rattle.std.proofs.lemmas.List.Sorted.{answers_always}
use Rattle.std.specs.Prelude.{Result, OnOk}
use Rattle.hp_summary.specs.Summaries.{AreInOrder}
use Rattle.hp_summary.specs.declared.tally.Ending.{Ending}
use Rattle.hp_summary.proofs.Gathered.{on_ok}
use Rattle.hp_summary.proofs.summary.sort_endings.Goals as goal

in_order : (a b f g : ℕ) → is_lt (ordering_then (nat_cmp a b) (nat_cmp g f)) ≡ false → (b < a) ⊎ ((b ≡ a) × (f ≤ g))
in_order a b f g h = grind (arith, nat_tests)

more : {V E : Type 0} (r : Result V E) {A : Type 0} (B : Type 0) → OnOk r A → (A → B) → OnOk r B
more r B a f = on_ok r _ B f a

pub returns-clause-order : goal.returns-clause-order
returns-clause-order c =
    more c.sort_by_key.result (AreInOrder c.sort_by_key.new.self.items) c.sort_by_key.ensures.sorted (λ sorted k d lt.
    let one = slice_index_or c.sort_by_key.new.self.items k d in
    let next = slice_index_or c.sort_by_key.new.self.items (k + 1) d in
    in_order one.runs next.runs one.first next.first
    (sorted (λ (e : Ending). (record { 0 = e.runs }, e.first)) (answers_always _ _ _ (λ f a r q h. search rules)) k d (omega arith) lt))
