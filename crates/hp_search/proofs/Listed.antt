-- The place of a call among those that ended.
use Rattle.std.proofs.Common.{◌≡◌, ◌∙◌, ℕ, zero, suc, ◌<◌, ◌≤◌, ◌∷◌, [], List, length, get_or, refl, arith}
use Rattle.std.specs.Prelude.{cond, nat_le}
use Rattle.std.specs.List.{insert}
use Rattle.std.proofs.lemmas.Bool.Decides.{nat_tests}
use Rattle.hp_watch.specs.declared.calls.EndedCall.{EndedCall}
use Rattle.hp_every.specs.Endings.{among}

before_it : (x e : EndedCall) (l r : List EndedCall) → x.task ≤ e.task → l ≡ cond (nat_le x.task e.task) l r
before_it x e l r le = grind (arith, nat_tests)

behind_it : (x e : EndedCall) (l r : List EndedCall) → e.task < x.task → r ≡ cond (nat_le x.task e.task) l r
behind_it x e l r lt = grind (arith, nat_tests)

-- behind those of its task and of the tasks before, and before all others
pub put_among : (e : EndedCall) (xs : List EndedCall) (k : ℕ) → k ≤ length xs
    → ((j : ℕ) (d : EndedCall) → j < k → (get_or xs j d).task ≤ e.task)
    → ((d : EndedCall) → k < length xs → e.task < (get_or xs k d).task) → insert xs k e ≡ among e xs
put_among e [] zero le before behind = refl
put_among e [] (suc k) le before behind = absurd (omega (arith, le))
put_among e (x ∷ xs) zero le before behind = behind_it x e (x ∷ among e xs) (e ∷ x ∷ xs) (behind x (omega arith))
put_among e (x ∷ xs) (suc k) le before behind =
    (λ i. x ∷ put_among e xs k (omega (arith, le)) (λ j d lt. before (suc j) d (omega (arith, lt))) (λ d lt. behind d (omega (arith, lt))) i)
    ∙ before_it x e (x ∷ among e xs) (e ∷ x ∷ xs) (before 0 x (omega arith))
