-- From the row of a turn that names no phase, the row of an operation; what is known where an error is mapped.
use Rattle.std.proofs.Common.{◌≡◌, ℕ, Result, Ok, Err, ap, refl}
use Rattle.std.specs.Prelude.{Bool, true, false, Option, Some, None, MatchBool, MatchOption, MatchResult, IfOk, is_ok, nat_le}
use Rattle.hp_base.specs.declared.answer.Answer.{Answer}
use Rattle.hp_machine.specs.State.{Pool, slot_of}
use Rattle.hp_machine.specs.Parts.{StartRow, WantSlotRow}
use Rattle.hp_machine.specs.declared.call.Turn.{Turn}
use Rattle.hp_machine.specs.declared.call.Turn.TheVariants.{Moved, Blocked, Ended}
use Rattle.hp_parts.specs.Turns.{carried, IfBlocked}

-- which way a test goes, there and here
map_test : {P Q X Y : Type 0} (b : Bool) → (P → X) → (Q → Y) → MatchBool b P Q → MatchBool b X Y
map_test true first second m = first m
map_test false first second m = second m

map_option : {A P X : Type 0} {Q Y : A → Type 0} (o : Option A) → (P → X) → ((x : A) → Q x → Y x) → MatchOption o P Q → MatchOption o X Y
map_option None none some m = none m
map_option (Some x) none some m = some x m

carry_leaf : {P : Type 0} (here next : P) (turn wanted : Turn (Unit {0})) (new after : Pool) → (turn ≡ wanted) × (new ≡ after)
    → (carried here next turn ≡ carried here next wanted) × (new ≡ after)
carry_leaf here next turn wanted new after e = (ap (carried here next) e.0, e.1)

pub carry_want : {P : Type 0} (s : Pool) (t f i : ℕ) (here next : P) (turn : Turn (Unit {0})) (new : Pool)
    → WantSlotRow s t f i tt tt turn new → WantSlotRow s t f i here next (carried here next turn) new
carry_want s t f i here next turn new row =
    map_option (s.slots (slot_of s.geometry f i)) (carry_leaf here next turn _ new _) (λ _. carry_leaf here next turn _ new _) row

pub carry_start : {P : Type 0} (s : Pool) (t : ℕ) (killed : Bool) (f : ℕ) (bad : Bool) (at_kill : Answer)
    (here next : P) (turn : Turn (Unit {0})) (new : Pool)
    → StartRow s t killed f bad at_kill tt tt turn new → StartRow s t killed f bad at_kill here next (carried here next turn) new
carry_start s t killed f bad at_kill here next turn new row =
    map_test (nat_le s.geometry.files f) (carry_leaf here next turn _ new _)
    (map_test bad (carry_leaf here next turn _ new _)
    (map_test killed (carry_leaf here next turn _ new _)
    (map_option (s.locks f) (carry_leaf here next turn _ new _) (λ _. carry_leaf here next turn _ new _)))) row

-- a blocked call stands again where it stood
pub carry_blocked : {P : Type 0} (here next : P) (turn : Turn (Unit {0})) (Q : Type 0) → IfBlocked turn (λ _. Q)
    → IfBlocked (carried here next turn) (λ again. (again ≡ here) × Q)
carry_blocked here next (Moved u) Q h = tt
carry_blocked here next (Blocked u holder) Q h = (refl, h)
carry_blocked here next (Ended a) Q h = tt

-- what is known of a value stays known where the error is mapped
pub ok_kept : {T D E : Type 0} (r : Result T D) (mapped : Result T E) (P : T → Type 0) (Q : D → Type 0)
    → MatchResult r (λ x. mapped ≡ Ok x) Q → is_ok mapped ≡ is_ok r → IfOk r P → IfOk mapped P
ok_kept (Ok x) mapped P Q cases same known = rw cases known
ok_kept (Err d) (Ok x) P Q cases same known = cc
ok_kept (Err d) (Err e) P Q cases same known = tt
