-- The end of the bytes: what is said there, and that no line follows.
use Rattle.std.proofs.Common.{◌≡◌, ℕ, zero, suc, ◌<◌, List, [], ◌∷◌, ◌++◌, length, take, Option, Some, None, refl, sym, ap}
use Rattle.std.proofs.Common.{subst, ◌∙◌, arith, inl, inr, ◌⊎◌}
use Rattle.std.specs.Prelude.{IfSome, Result, Ok, Err}
use Rattle.std.specs.Io.KnownBytes.{Consumes, IsAtEnd}
use Rattle.std.proofs.lemmas.List.{append-nil}
use Rattle.hp_text.specs.declared.fault.ReplayFault.{ReplayFault}
use Rattle.hp_text.specs.Lines.{FeedState, fault_at, end_of, end_at}
use Rattle.hp_text.proofs.BadLines.{NoLine}

pub for_some : (o : Option (List ℕ)) (P : List ℕ → Type 0) → ((xs : List ℕ) → P xs) → IfSome o P
for_some None P all = tt
for_some (Some xs) P all = all xs

-- a read of nothing
pub read_none : (mid to : Option (List ℕ)) (buf : List ℕ) (n : ℕ) → n ≡ 0 → Consumes mid to (take n buf) → Consumes mid to []
read_none mid to buf n none read = subst (λ (k : ℕ). Consumes mid to (take k buf)) none read

abbrev pub good : Result (Unit {0}) ReplayFault
good = Ok tt

abbrev pub with_error : ReplayFault → Result (Unit {0}) ReplayFault
with_error fault = Err fault

pub err_ok : (f : ReplayFault) → with_error f ≡ Ok tt → ⊥
err_ok f e = cc

pub err_is : (f g : ReplayFault) → with_error f ≡ Err g → f ≡ g
err_is f g e = cc

pub ok_err : (g : ReplayFault) → good ≡ Err g → ⊥
ok_err g e = cc

-- what the end says where no fault is held
pub end_cases : (h : FeedState) (r : Result (Unit {0}) ReplayFault) → h.fault ≡ None → end_of h ≡ r
    → ((r ≡ Ok tt) × (h.rest ≡ []) × (0 < h.lines)) ⊎ ((r ≡ Err (fault_at h.lines)) × (0 < h.lines → 0 < length h.rest))
end_cases h r ok e = by h.fault h.lines h.rest refl refl refl ok e
  where
    some_none : (f : ReplayFault) → Some f ≡ None → ⊥
    some_none f e = cc

    by : (f : Option ReplayFault) (n : ℕ) (rest : List ℕ) → h.fault ≡ f → h.lines ≡ n → h.rest ≡ rest → f ≡ None
        → end_at f n rest ≡ r
        → ((r ≡ Ok tt) × (h.rest ≡ []) × (0 < h.lines)) ⊎ ((r ≡ Err (fault_at h.lines)) × (0 < h.lines → 0 < length h.rest))
    by (Some f) n rest p q s ok e = absurd (some_none f ok)
    by None zero rest p q s ok e = inr (sym e ∙ ap (λ (k : ℕ). (with_error (fault_at k))) (sym q), λ more. absurd (omega arith))
    by None (suc n) [] p q s ok e = inl (sym e, s, omega arith)
    by None (suc n) (b ∷ rest) p q s ok e = inr (sym e ∙ ap (λ (k : ℕ). (with_error (fault_at k))) (sym q), λ _. rw s (omega arith))

-- no line stands at the end
pub cut_at_end : (to : Option (List ℕ)) (n : ℕ) (rest : List ℕ) → IsAtEnd to → NoLine n rest
    → IfSome to (λ left. NoLine n (rest ++ ([] ++ left)))
cut_at_end None n rest e bad = tt
cut_at_end (Some left) n rest e bad =
    subst (λ (x : List ℕ). NoLine n (rest ++ ([] ++ x))) (sym e)
    (subst (λ (x : List ℕ). NoLine n x) (sym (append-nil rest)) bad)
