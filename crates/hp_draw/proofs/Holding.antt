-- The waits for holders, that are listed one by one.
use Rattle.std.proofs.Common.{◌≡◌, ℕ, ◌+◌, ◌-◌, suc, List, [], ◌∷◌, ◌++◌, ap, sym, ◌∙◌, append_assoc, add-one, arith}
use Rattle.std.specs.Prelude.{None, Option, get_or}
use Rattle.std.proofs.lemmas.List.{append-nil}
use Rattle.hp_core.specs.State.{CoreState}
use Rattle.hp_core.specs.Acquiring.{acquired_of}
use Rattle.hp_draw.specs.Lists.{listed}
use Rattle.hp_draw.specs.Waits.{wait_left, waiting_after, waiting_tasks, waits_left}
use Rattle.hp_draw.specs.declared.waits.Wait.{Wait}
use Rattle.hp_draw.specs.declared.waits.Waiting.{Waiting}

-- ---- for whom each task waits

pub no_waiting : (core : CoreState) (at : ℕ) (holders : List (Option ℕ)) (before now : List (Option Waiting)) → now ≡ []
    → now ≡ waiting_tasks core at holders before 0
unfolding waiting_tasks
no_waiting core at holders before now none = none

pub one_waiting : (core : CoreState) (at : ℕ) (holders : List (Option ℕ)) (before : List (Option Waiting)) (n t : ℕ)
    (now new : List (Option Waiting)) (w : Option Waiting) → t ≡ n + 1 → now ≡ waiting_tasks core at holders before n
    → w ≡ waiting_after (get_or before (t - 1) None) at (get_or holders (t - 1) None) (acquired_of core t) → new ≡ now ++ w ∷ []
    → new ≡ waiting_tasks core at holders before (n + 1)
unfolding waiting_tasks
one_waiting core at holders before n t now new w number were is more =
    rw (add-one) (more ∙ ap (λ (x : List (Option Waiting)). x ++ w ∷ []) were
    ∙ ap (λ (v : Option Waiting). waiting_tasks core at holders before n ++ v ∷ []) (is ∙ its_place ∙ its_task))
  where
    place : t - 1 ≡ n
    place = omega (arith, number)

    task : t ≡ suc n
    task = omega (arith, number)

    its : ℕ → ℕ → Option Waiting
    its k u = waiting_after (get_or before k None) at (get_or holders k None) (acquired_of core u)

    its_place : its (t - 1) t ≡ its n t
    its_place = ap (λ (k : ℕ). its k t) place

    its_task : its n t ≡ its n (suc n)
    its_task = ap (its n) task

-- ---- the waits that end

pub no_left : (at : ℕ) (before now : List (Option Waiting)) (old : List Wait) → old ≡ old ++ waits_left at before now 0
unfolding waits_left
no_left at before now old = sym (append-nil old)

pub one_left : (at : ℕ) (before now : List (Option Waiting)) (n : ℕ) (old mid new : List Wait) → mid ≡ old ++ waits_left at before now n
    → new ≡ mid ++ listed (wait_left (n + 1) at (get_or before n None) (get_or now n None)) → new ≡ old ++ waits_left at before now (n + 1)
unfolding waits_left
one_left at before now n old mid new is e =
    let last = listed (wait_left (n + 1) at (get_or before n None) (get_or now n None)) in
    rw (add-one) (rw (add-one) at (e ∙ ap (λ (x : List Wait). x ++ last) is ∙ append_assoc old (waits_left at before now n) last))
