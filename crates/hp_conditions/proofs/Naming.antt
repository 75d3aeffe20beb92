-- Words, and what they name.
use Rattle.std.proofs.Common.{arith, ◌≡◌, ◌<◌, ◌≤◌, ◌+◌, suc, List, [], ◌∷◌, ℕ, Bool, true, false, drop, get_or, length, refl, sym, subst, ◌∙◌, ap}
use Rattle.std.proofs.Math.ListN.{drop_of_length-le}
use Rattle.std.proofs.Math.Seq.{drop-cons}
use Rattle.std.specs.Prelude.{Option, Some, None, IfSome}
use Rattle.std.specs.Str.{bytes_eq}
use Rattle.std.proofs.lemmas.Slice.Eq.{bytes_eq-Decides}
use Rattle.hp_machine.specs.Text.{phase_word}
use Rattle.hp_machine.specs.declared.phase.Phase.{Phase}
use Rattle.hp_machine.specs.declared.phase.Phase.TheVariants as phase
use Rattle.hp_phases.specs.Phases.{all_phases}
use Rattle.hp_conditions.specs.Words.{named}

some_is : {A : Type 0} (x y : A) → Some x ≡ Some y → x ≡ y
some_is x y e = cc

-- what is found has the text for its word
named_right : {A : Type 0} (word : A → List ℕ) (xs : List A) (text : List ℕ) (x : A) → named word xs text ≡ Some x → word x ≡ text
named_right word [] text x is = absurd (cc)
named_right word (y ∷ ys) text x is = by (bytes_eq text (word y)) refl (named_right word ys text x)
  where
    by : (c : Bool) → bytes_eq text (word y) ≡ c → (named word ys text ≡ Some x → word x ≡ text) → word x ≡ text
    by true e more =
        let same : text ≡ word y = (bytes_eq-Decides text (word y)).0 e in
        let one : y ≡ x = some_is y x (rw e at is) in
        ap word (sym one) ∙ sym same
    by false e more = more (rw e at is)

-- each phase is found by its word
phase_found : (p : Phase) → named phase_word all_phases (phase_word p) ≡ Some p
phase_found phase.Start = refl
phase_found phase.Look = refl
phase_found phase.Want = refl
phase_found phase.Locked = refl
phase_found phase.Missing = refl
phase_found phase.Changed = refl
phase_found phase.Abort = refl
phase_found phase.Taken = refl
phase_found phase.Settle = refl
phase_found phase.Committed = refl
phase_found phase.Restore = refl
phase_found phase.Found = refl
phase_found phase.Leave = refl
phase_found phase.Room = refl
phase_found phase.Accounted = refl
phase_found phase.Enter = refl
phase_found phase.Head = refl
phase_found phase.Unslot = refl
phase_found phase.Extend = refl
phase_found phase.Unmap = refl
phase_found phase.Evict = refl
phase_found phase.Delete = refl
phase_found phase.Free = refl
phase_found phase.Size = refl
phase_found phase.Tail = refl
phase_found phase.Clear = refl
phase_found phase.Drop = refl

pub phase_is : (word : List ℕ) (o : Option Phase) → IfSome o (λ p. phase_word p ≡ word)
    → (o ≡ None → (p : Phase) → phase_word p ≡ word → ⊥) → o ≡ named phase_word all_phases word
phase_is word (Some p) is none = sym (subst (λ (w : List ℕ). named phase_word all_phases w ≡ Some p) is (phase_found p))
phase_is word None is none = by (named phase_word all_phases word) refl
  where
    by : (o : Option Phase) → named phase_word all_phases word ≡ o → None ≡ named phase_word all_phases word
    by None e = sym e
    by (Some p) e = absurd (none refl p (named_right phase_word all_phases word p e))

-- ---- a search among some

drop_one : {A : Type 0} (all : List A) (i : ℕ) (x : A) → i < length all → x ≡ get_or all i x → drop i all ≡ x ∷ drop (i + 1) all
drop_one {A} all i x within is =
    let next : suc i ≡ i + 1 = omega arith in
    drop-cons all i x within ∙ ap (λ (y : A). y ∷ drop (suc i) all) (sym is) ∙ ap (λ (n : ℕ). x ∷ drop n all) next

-- one that has another word is passed over
pub named_next : {A : Type 0} (word : A → List ℕ) (all : List A) (i : ℕ) (x : A) (text : List ℕ) → i < length all → x ≡ get_or all i x
    → bytes_eq text (word x) ≡ false → named word (drop i all) text ≡ named word (drop (i + 1) all) text
named_next word all i x text within is other = rw (drop_one all i x within is, other) refl

-- one that has it is found
pub named_here : {A : Type 0} (word : A → List ℕ) (all : List A) (i : ℕ) (x : A) (text : List ℕ) → i < length all → x ≡ get_or all i x
    → bytes_eq text (word x) ≡ true → named word (drop i all) text ≡ Some x
named_here word all i x text within is same = rw (drop_one all i x within is, same) refl

-- behind the last there is none
pub named_end : {A : Type 0} (word : A → List ℕ) (all : List A) (i : ℕ) (text : List ℕ) → length all ≤ i → named word (drop i all) text ≡ None
named_end word all i text behind = rw (drop_of_length-le all behind) refl
