-- Objects that are laid out one by one.
use Rattle.std.proofs.Common.{◌≡◌, ℕ, suc, ◌+◌, List, ◌∷◌, [], ◌++◌, refl, sym, ap, ◌∙◌, append_assoc, add-one}
use Rattle.std.specs.Prelude.{Option, None, slice_index_or}
use Rattle.std.proofs.lemmas.List.{append-nil}
use Rattle.hp_core.specs.State.{CoreState}
use Rattle.hp_explain.specs.JsonCalls.{waits_objects, with_wait}
use Rattle.hp_explain.specs.JsonObjects.{comma_before, file_object, files_objects, task_object, tasks_objects}

-- a part more of a text that is appended, with a comma before it
more_text : (old front comma part now mid new : List ℕ) → now ≡ old ++ front → mid ≡ now ++ comma → new ≡ mid ++ part
    → new ≡ old ++ (front ++ (comma ++ part))
more_text old front comma part now mid new is then last =
    last ∙ ap (λ (x : List ℕ). x ++ part) then ∙ append_assoc now comma part
    ∙ ap (λ (x : List ℕ). x ++ (comma ++ part)) is ∙ append_assoc old front (comma ++ part)

pub no_file : (core : CoreState) (old : List ℕ) → old ≡ old ++ files_objects core 0
unfolding files_objects
no_file core old = sym (append-nil old)

pub one_file : (core : CoreState) (n file : ℕ) (old now mid new : List ℕ) → file ≡ n → now ≡ old ++ files_objects core n
    → mid ≡ now ++ comma_before n → new ≡ mid ++ file_object core file → new ≡ old ++ files_objects core (n + 1)
unfolding files_objects
one_file core n file old now mid new number is then last =
    rw (add-one) (more_text old (files_objects core n) (comma_before n) (file_object core n) now mid new is then
    (last ∙ ap (λ (k : ℕ). mid ++ file_object core k) number))

pub no_task : (core : CoreState) (old : List ℕ) → old ≡ old ++ tasks_objects core 0
unfolding tasks_objects
no_task core old = sym (append-nil old)

pub one_task : (core : CoreState) (n task : ℕ) (old now mid new : List ℕ) → task ≡ n + 1 → now ≡ old ++ tasks_objects core n
    → mid ≡ now ++ comma_before n → new ≡ mid ++ task_object core task → new ≡ old ++ tasks_objects core (n + 1)
unfolding tasks_objects
one_task core n task old now mid new number is then last =
    rw (add-one) (more_text old (tasks_objects core n) (comma_before n) (task_object core (suc n)) now mid new is then
    (last ∙ ap (λ (k : ℕ). mid ++ task_object core k) (number ∙ add-one n)))

pub no_wait : (core : CoreState) (before after : List (Option ℕ)) → [] ≡ waits_objects core before after 0
unfolding waits_objects
no_wait core before after = refl

pub one_wait : (core : CoreState) (before after : List (Option ℕ)) (n task : ℕ) (x y : Option ℕ) (now new : List ℕ)
    → task ≡ n + 1 → x ≡ slice_index_or before n None → y ≡ slice_index_or after n None
    → now ≡ waits_objects core before after n → new ≡ with_wait now core task x y
    → new ≡ waits_objects core before after (n + 1)
unfolding waits_objects
one_wait core before after n task x y now new number is_x is_y is e =
    let waits = waits_objects core before after n in
    rw (add-one) (e ∙ ap (λ (w : List ℕ). with_wait w core task x y) is
    ∙ ap (λ (k : ℕ). with_wait waits core k x y) (number ∙ add-one n)
    ∙ ap (λ (a : Option ℕ). with_wait waits core (suc n) a y) is_x
    ∙ ap (λ (b : Option ℕ). with_wait waits core (suc n) (slice_index_or before n None) b) is_y)
