-- What another task's step leaves to a task: its mappings, and each page without a translation.
use Rattle.std.proofs.Common.{◌≡◌, ◌≢◌, ◌∙◌, ℕ, ◌+◌, ◌<◌, refl, ap, sym, subst, inl, inr, arith, List}
use Rattle.std.specs.Prelude.{Bool, true, false, Option, None, Some, if◌then◌else◌}
use Rattle.hp_base.specs.Numbers.{put}
use Rattle.hp_base.specs.Mappings.{find, is_there, without_index, without_mapping}
use Rattle.hp_base.proofs.Puts.{put_other, put_same, same_or_other}
use Rattle.hp_base.specs.declared.event.Op.{Op}
use Rattle.hp_base.specs.declared.mapping.Mapping.{Mapping}
use Rattle.hp_machine.specs.Events.{BeginRow, IsReached, StepRow}
use Rattle.hp_machine.specs.State.{Pool, State, is_killed, pool_of}
use Rattle.hp_machine.specs.declared.call.Call.{Call}
use Rattle.hp_machine.specs.declared.outcome.Outcome.{Outcome}
use Rattle.hp_laws.proofs.ByWrite.{changes}
use Rattle.hp_laws.proofs.Did.{Stepped, Wrote, Over, Waits}
use Rattle.hp_laws.proofs.Reading.{begin_cases, step_cases}
use Rattle.hp_laws.proofs.Runs.{always}
use Rattle.hp_laws.proofs.Steps.{call_did}
use Rattle.hp_laws.proofs.Writes as write
use Rattle.hp_laws.proofs.Writes.{Write, written}

-- the task has as many mappings, and no page of it that had no translation has one
pub record Lacks (s n : Pool) (t : ℕ) : Type 0 where
  pub mappings : n.mappings t ≡ s.mappings t
  pub entries : (v : ℕ) → s.entries t v ≡ None → n.entries t v ≡ None

-- entries that go leave none where none was
gone : (mappings : List Mapping) (entries : ℕ → Option ℕ) (f i v : ℕ) → entries v ≡ None → without_index mappings entries f i v ≡ None
unfolding without_index
gone mappings entries f i v none = either (is_there (find mappings v) f i)
  where
    either : (b : Bool) → (if b then None else entries v) ≡ None
    either true = refl
    either false = none

-- another task's entries
put_apart : (entries : ℕ → ℕ → Option ℕ) (u t v : ℕ) (new : ℕ → Option ℕ) → t ≢ u → entries t v ≡ None → put entries u new t v ≡ None
put_apart entries u t v new other none = ap (λ (e : ℕ → Option ℕ). e v) (put_other entries u new t other) ∙ none

-- any task's, where some go
put_gone : (s : Pool) (k f i t v : ℕ) → s.entries t v ≡ None
    → put s.entries k (without_index (s.mappings k) (s.entries k) f i) t v ≡ None
put_gone s k f i t v none = elim (same_or_other t k) [
  | inl same ↦ ap (λ (u : ℕ). put s.entries k (without_index (s.mappings k) (s.entries k) f i) u v) same
      ∙ (ap (λ (e : ℕ → Option ℕ). e v) (put_same s.entries k (without_index (s.mappings k) (s.entries k) f i))
      ∙ gone (s.mappings k) (s.entries k) f i v (ap (λ (u : ℕ). s.entries u v) (sym same) ∙ none))
  | inr other ↦ put_apart s.entries k t v (without_index (s.mappings k) (s.entries k) f i) other none
]

-- what another task writes
written_none : (s : Pool) (u t v : ℕ) (w : Write) → t ≢ u → s.entries t v ≡ None → (written s u w).entries t v ≡ None
written_none s u t v write.Nothing other none = none
written_none s u t v (write.TakesLock f) other none = none
written_none s u t v (write.LeavesLock f) other none = none
written_none s u t v (write.TakesSlot f i) other none = none
written_none s u t v (write.LeavesSlot f i) other none = none
written_none s u t v (write.Opens f) other none = none
written_none s u t v (write.Aborts f) other none = none
written_none s u t v (write.Commits f change) other none = none
written_none s u t v (write.TakesReserved x) other none = none
written_none s u t v (write.TakesFree x) other none = none
written_none s u t v (write.Settles n m) other none = none
written_none s u t v (write.Places f i x) other none = none
written_none s u t v (write.Restores x) other none = none
written_none s u t v (write.Enters page x access) other none = put_apart s.entries u t v (put (s.entries u) page (Some x)) other none
written_none s u t v (write.Accesses x access) other none = none
written_none s u t v (write.Grows f end) other none = none
written_none s u t v (write.Clears k f i) other none = put_gone s k f i t v none
written_none s u t v (write.Evicts f i x) other none = none
written_none s u t v (write.Deletes f i) other none = none
written_none s u t v (write.FreesUnreserved x) other none = none
written_none s u t v (write.Frees x) other none = none
written_none s u t v (write.Cuts f new) other none = none
written_none s u t v (write.Passes f i new) other none = none
written_none s u t v (write.CutsTail f new) other none = none
written_none s u t v write.Prepares other none = none
written_none s u t v (write.Accounts n) other none = none
written_none s u t v (write.EntersArea a) other none = none
written_none s u t v (write.Empties base) other none = put_apart s.entries u t v (without_mapping (s.mappings u) (s.entries u) base) other none
written_none s u t v (write.Drops base) other none = none

stepped_lacks : (s : State) (u t : ℕ) (c : Call) (o : Outcome) (new : Pool) (next : Option Call) → t ≢ u → Stepped s u c o new next
    → Lacks (pool_of s) new t
stepped_lacks s u t c o new next other (Wrote w d near y) = record {
  mappings = (changes s u (Some c) (Some d) w y).mappings t other;
  entries = λ v none. written_none (pool_of s) u t v w other none;
}
stepped_lacks s u t c o new next other (Over w a near y) = record {
  mappings = (changes s u (Some c) None w y).mappings t other;
  entries = λ v none. written_none (pool_of s) u t v w other none;
}
stepped_lacks s u t c o new next other (Waits holder y) = record { mappings = refl; entries = λ v none. none }

-- a step of another task
pub step_lacks : (s n : State) (u t : ℕ) (grant : Bool) (o : Outcome) → IsReached s → t ≢ u → StepRow s u grant o n
    → Lacks (pool_of s) (pool_of n) t
step_lacks s n u t grant o reached other row = step_cases s u grant o n (Lacks (pool_of s) (pool_of n) t) row
    (λ why e same. subst (λ (m : State). Lacks (pool_of s) (pool_of m) t) (sym same) (record { mappings = refl; entries = λ v none. none }))
    (λ c lives e pool next r d.
    let h = always s reached in
    let there = h.lives.there u lives in
    let in_range : u < s.geometry.tasks + 1 = omega (arith, there.1) in
    subst (λ (m : State). Lacks (pool_of s) (pool_of m) t) (sym d)
    (stepped_lacks s u t c o pool next other
    (call_did s u (is_killed (s.life u)) grant c o pool next h.inv there.0 in_range e r)))

-- a begin changes nothing of the kind
pub begin_lacks : (s n : State) (u : ℕ) (op : Op) (o : Outcome) (t : ℕ) → BeginRow s u op o n → Lacks (pool_of s) (pool_of n) t
begin_lacks s n u op o t row = begin_cases s u op o n (Lacks (pool_of s) (pool_of n) t) row
    (λ why e same. subst (λ (m : State). Lacks (pool_of s) (pool_of m) t) (sym same) (record { mappings = refl; entries = λ v none. none }))
    (λ lives none may e is. subst (λ (m : State). Lacks (pool_of s) (pool_of m) t) (sym is) (record { mappings = refl; entries = λ v none. none }))
