-- The lines of the state, one file or task more.
use Rattle.std.proofs.Common.{◌≡◌, ℕ, suc, ◌+◌, List, ◌++◌, sym, ap, ◌∙◌, append_assoc, add-one}
use Rattle.std.proofs.lemmas.List.{append-nil}
use Rattle.hp_core.specs.State.{CoreState}
use Rattle.hp_replay.specs.Outcomes.{file_line, task_line, files_text, tasks_text}

pub no_file : (core : CoreState) (old : List ℕ) → old ≡ old ++ files_text core 0
unfolding files_text
no_file core old = sym (append-nil old)

pub no_task : (core : CoreState) (old : List ℕ) → old ≡ old ++ tasks_text core 0
unfolding tasks_text
no_task core old = sym (append-nil old)

more_line : (old front line now new : List ℕ) → now ≡ old ++ front → new ≡ now ++ line → new ≡ old ++ (front ++ line)
more_line old front line now new is e = e ∙ ap (λ (x : List ℕ). x ++ line) is ∙ append_assoc old front line

pub one_file : (core : CoreState) (n file : ℕ) (old now new : List ℕ) → file ≡ n → now ≡ old ++ files_text core n
    → new ≡ now ++ file_line core file → new ≡ old ++ files_text core (n + 1)
unfolding files_text
one_file core n file old now new number is e =
    rw (add-one) (more_line old (files_text core n) (file_line core n) now new is
    (e ∙ ap (λ (k : ℕ). now ++ file_line core k) number))

pub one_task : (core : CoreState) (n task : ℕ) (old now new : List ℕ) → task ≡ n + 1 → now ≡ old ++ tasks_text core n
    → new ≡ now ++ task_line core task → new ≡ old ++ tasks_text core (n + 1)
unfolding tasks_text
one_task core n task old now new number is e =
    rw (add-one) (more_line old (tasks_text core n) (task_line core (suc n)) now new is
    (e ∙ ap (λ (k : ℕ). now ++ task_line core k) (number ∙ add-one n)))
