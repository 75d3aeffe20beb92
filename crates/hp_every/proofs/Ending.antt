-- Where a run of an explorer finishes no turn may be made.
use Rattle.std.proofs.Common.{◌≡◌, ℕ, zero, suc, ◌+◌, ◌≤◌, ◌<◌, sym, subst, refl, inl, inr, arith, List, [], ◌∷◌, length}
use Rattle.std.specs.Prelude.{Bool, true, false, not, ◌&&◌, Option, None, Some, MatchBool, is_none, is_some, if◌then◌else◌}
use Rattle.std.specs.List.{list_all, range_with_len}
use Rattle.std.proofs.lemmas.Bool.{cases_lt}
use Rattle.hp_base.specs.declared.event.Op.{Op}
use Rattle.hp_laws.proofs.Deciding.{clash, never}
use Rattle.hp_explore.specs.Schedule.{Plan, World, next_call, in_call}
use Rattle.hp_explore.specs.Explored.{all_done, idle_finish, is_done, last_finish}
use Rattle.hp_explore.specs.declared.line.Finish.TheVariants.{Finished, Stuck}
use Rattle.hp_every.specs.declared.turn.Turn.TheVariants as turn
use Rattle.hp_every.specs.Schedules.{Ends, Place, world}

-- of two tests that both pass
pub first_true : (a b : Bool) → (a && b) ≡ true → a ≡ true
first_true true b e = refl
first_true false b e = never e

pub second_true : (a b : Bool) → (a && b) ≡ true → b ≡ true
second_true true b e = e
second_true false b e = never e

-- what all of a range pass, each passes
in_range : (p : ℕ → Bool) (from n : ℕ) → list_all p (range_with_len from n) ≡ true → (t : ℕ) → from ≤ t → t < from + n → p t ≡ true
in_range p from zero h t low high = absurd (omega (arith, low, high))
in_range p from (suc n) h t low high = elim (cases_lt from t) [
  | inl more ↦ in_range p (from + 1) n (second_true _ _ h) t (omega (arith, more)) (omega (arith, high))
  | inr least ↦ (let is : t ≡ from = omega (arith, low, least) in
      subst (λ (k : ℕ). p k ≡ true) (sym is) (first_true _ _ h))
]

-- a task isn't both busy and done
not_busy : {P : Type 0} (busy : Bool) → busy ≡ true → not busy ≡ true → P
not_busy true e d = never d
not_busy false e d = never e

-- a task without a call in flight and without one left begins none
none_begins : {P : Type 0} (o : Option Op) (b : Bool) → is_none o ≡ true → (is_some o && b) ≡ true → P
none_begins None b none begins = never begins
none_begins (Some op) b none begins = never none

idle_turns : (P Q R : Type 0) (busy : Bool) → busy ≡ false → (Q → R) → MatchBool busy P Q → R
idle_turns P Q R false e on h = on h
idle_turns P Q R true e on h = never (sym e)

idle : (busy : Bool) → not busy ≡ true → busy ≡ false
idle false e = refl
idle true e = never e

-- where all tasks are done no turn may be made
pub done_ends : (plan : Plan) (p : Place) → all_done plan (world p) ≡ true → Ends plan p
done_ends plan p all = by
  where
    done : (t : ℕ) → (1 ≤ t) × (t ≤ length p.made) → is_done plan (world p) t ≡ true
    done t there = in_range (is_done plan (world p)) 1 (length p.made) all t there.0 (let l = there.1 in omega (arith, l))

    by : Ends plan p
    by (turn.Next t) (there, can) =
        idle_turns _ _ ⊥ (in_call (world p) t) (idle _ (first_true _ _ (done t there)))
        (none_begins (next_call plan p.made t) _ (second_true _ _ (done t there))) can
    by (turn.Denied t) (there, can, busy, wants, left) = not_busy (in_call (world p) t) busy (first_true _ _ (done t there))
    by (turn.Killed t) (there, alive, more, left) = clash (is_done plan (world p) t) (done t there) more

-- a run finishes only where all are done
pub idle_done : (plan : Plan) (w : World) → idle_finish plan w ≡ Finished → all_done plan w ≡ true
idle_done plan w e = by (all_done plan w) e
  where
    by : (b : Bool) → (if b then Finished else Stuck) ≡ Finished → b ≡ true
    by true e = refl
    by false e = absurd (cc)

pub last_done : (plan : Plan) (w : World) (tasks : List ℕ) → last_finish plan w tasks ≡ Finished → all_done plan w ≡ true
last_done plan w [] e = idle_done plan w e
last_done plan w (t ∷ ts) e = absurd (cc)
