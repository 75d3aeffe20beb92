-- Whether a call's next step wants memory is decided.
use Rattle.std.proofs.Common.{◌≡◌, ◌⊎◌, ℕ, ◌<◌, ◌≤◌, refl, inl, inr, arith}
use Rattle.std.specs.Prelude.{Bool, true, false, Option, Some, None}
use Rattle.std.proofs.lemmas.Bool.{cases_lt}
use Rattle.hp_base.specs.Indices.{splits}
use Rattle.hp_base.specs.Mappings.{IsRoom}
use Rattle.hp_base.proofs.Puts.{same_or_other}
use Rattle.hp_base.proofs.Searches.{some_room}
use Rattle.hp_laws.proofs.Deciding.{clash}
use Rattle.hp_machine.specs.State.{Pool}
use Rattle.hp_machine.specs.Wants.{Wants, touch_wants, map_wants, alloc_wants, punch_wants}
use Rattle.hp_machine.specs.declared.touch.TouchPhase.{TouchPhase}
use Rattle.hp_machine.specs.declared.touch.TouchPhase.TheVariants as touch
use Rattle.hp_machine.specs.declared.map.MapPhase.{MapPhase}
use Rattle.hp_machine.specs.declared.map.MapPhase.TheVariants as map
use Rattle.hp_machine.specs.declared.alloc.AllocPhase.{AllocPhase}
use Rattle.hp_machine.specs.declared.alloc.AllocPhase.TheVariants as alloc
use Rattle.hp_machine.specs.declared.punch.PunchPhase.{PunchPhase}
use Rattle.hp_machine.specs.declared.punch.PunchPhase.TheVariants as punch
use Rattle.hp_machine.specs.declared.call.Call.{Call}
use Rattle.hp_machine.specs.declared.call.Call.TheVariants as call

-- a statement holds or doesn't
abbrev pub Decided : Type 0 → Type 0
Decided P = P ⊎ ¬ P

below_or_not : (i n : ℕ) → Decided (i < n)
below_or_not i n = elim (cases_lt i n) [
  | inl low ↦ inl low
  | inr high ↦ inr (λ low. omega (arith, low, high))
]

touch_decided : (s : Pool) (p : TouchPhase) → Decided (touch_wants s p)
touch_decided s (touch.Missing p) = same_or_other (s.spare p.touch.file) (s.pending p.touch.file)
touch_decided s (touch.Committed p) = below_or_not p.touch.index (s.size p.touch.file)
touch_decided s (touch.Found p) = below_or_not p.touch.index (s.size p.touch.file)
touch_decided s p = inr (λ wants. wants)

-- room is found or isn't
room_decided : (I : Option ℕ → Type 0) → ((base : ℕ) → I (Some base) → I None → ⊥) → (found : Option ℕ) × I found
    → Decided ((base : ℕ) × I (Some base))
room_decided I never (Some base, is) = inl (base, is)
room_decided I never (None, is) = inr (λ room. never room.0 room.1 is)

map_decided : (s : Pool) (t : ℕ) (p : MapPhase) → Decided (map_wants s t p)
map_decided s t (map.Room p) =
    room_decided (IsRoom s.geometry.space (s.mappings t) p.map.len) (λ base room none. clash _ room.0 (none base))
    (some_room s.geometry.space (s.mappings t) p.map.len)
map_decided s t (map.Missing p) = same_or_other (s.spare p.map.file) (s.pending p.map.file)
map_decided s t p = inr (λ wants. wants)

alloc_decided : (s : Pool) (p : AllocPhase) → Decided (alloc_wants s p)
alloc_decided s (alloc.Missing p) = same_or_other (s.spare p.allocation.file) (s.pending p.allocation.file)
alloc_decided s (alloc.Committed p) = inl tt
alloc_decided s p = inr (λ wants. wants)

-- a split wants a descriptor where none is spare
split_decided : (b : Bool) (spare pending : ℕ) → Decided ((b ≡ true) × (spare ≤ pending))
split_decided false spare pending = inr (λ both. clash false both.0 refl)
split_decided true spare pending = elim (cases_lt pending spare) [
  | inl more ↦ inr (λ both. let low = both.1 in omega (arith, more, low))
  | inr few ↦ inl (refl, few)
]

punch_decided : (s : Pool) (p : PunchPhase) → Decided (punch_wants s p)
punch_decided s (punch.Delete p) =
    split_decided (splits (s.reserved p.hole.file) p.index) (s.spare p.hole.file) (s.pending p.hole.file)
punch_decided s p = inr (λ wants. wants)

-- the whole
pub wants_or_not : (s : Pool) (t : ℕ) (c : Call) → Decided (Wants s t c)
wants_or_not s t (call.Touch p) = touch_decided s p
wants_or_not s t (call.Map p) = map_decided s t p
wants_or_not s t (call.Alloc p) = alloc_decided s p
wants_or_not s t (call.Punch p) = punch_decided s p
wants_or_not s t (call.Truncate p) = inr (λ wants. wants)
wants_or_not s t (call.Unmap p) = inr (λ wants. wants)
wants_or_not s t (call.Exit p) = inr (λ wants. wants)
