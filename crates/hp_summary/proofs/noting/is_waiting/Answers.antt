use Rattle.std.proofs.Common.{◌≡◌, ◌+◌, ◌-◌, ◌<◌, ◌∙◌, ℕ, List, length, ap, sym, arith}
use Rattle.std.specs.Prelude.{None, Option, Some, slice_index_or, true}
use Rattle.hp_machine.specs.declared.phase.Phase.{Phase}
use Rattle.hp_core.specs.Passing.{may_wait}
use Rattle.hp_core.specs.State.{CoreState}
use Rattle.hp_watch.specs.Phases.{ArePhases}
use Rattle.hp_summary.specs.Facts.{IsHeldUp}
use Rattle.hp_summary.proofs.Noted.{at_place, held_stands}
use Rattle.hp_summary.proofs.noting.is_waiting.Goals as goal

-- the call of a task that is held up stands, by these words, where it may wait
waits_there : (core : CoreState) (phases : List (Option Phase)) (place : ℕ) → ArePhases core phases → place < length phases
    → IsHeldUp core (place + 1) → (w : Phase) × (slice_index_or phases place None ≡ Some w) × (may_wait w ≡ true)
waits_there core phases place are there held =
    let h = held_stands core (place + 1) held in
    let back : place + 1 - 1 ≡ place = omega arith in (
      h.0,
      ap (λ (n : ℕ). slice_index_or phases n None) (sym back)
          ∙ at_place core phases (place + 1) h.0 are (omega arith) (omega (arith, there)) h.1,
      h.2,
    )

pub returns-then-may_wait : goal.returns-then-may_wait
unfolding IsHeldUp
returns-then-may_wait c = rw (sym c.new.ensures) c.is_held_up.ensures

pub returns-else-may_wait : goal.returns-else-may_wait
returns-else-may_wait c = (
  λ yes. let bad : ⊥ = cc in absurd bad,
  λ held. (
      let h = waits_there c.args.core.now c.args.phases.now c.args.place c.requires.phases c.requires.there held in
      let at : slice_index_or c.args.phases.now c.args.place None ≡ Some c.in-Some.at = c.in-Some.is in
      let bad : ⊥ = cc (h.1, h.2, at, c.may_wait.ensures) in
      absurd bad
      ),
)

pub returns-in-None : goal.returns-in-None
returns-in-None c = (
  λ yes. let bad : ⊥ = cc in absurd bad,
  λ held. (
      let h = waits_there c.args.core.now c.args.phases.now c.args.place c.requires.phases c.requires.there held in
      let none : slice_index_or c.args.phases.now c.args.place None ≡ None = c.in-None.is in
      let bad : ⊥ = cc (h.1, none) in
      absurd bad
      ),
)
