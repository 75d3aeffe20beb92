-- Columns that are laid out one by one.
use Rattle.std.proofs.Common.{◌≡◌, ℕ, suc, ◌+◌, List, ◌∷◌, [], ◌++◌, sym, ap, ◌∙◌, append_assoc, add-one}
use Rattle.std.specs.Prelude.{◌==◌, Bool, Option, None, Result, Ok, Err, OnOk, codes, slice_index_or}
use Rattle.std.specs.Fmt.{decimal}
use Rattle.std.proofs.lemmas.List.{append-nil}
use Rattle.hp_text.proofs.Writes.{more_text}
use Rattle.hp_core.specs.Acquiring.{acquired_of}
use Rattle.hp_core.specs.Readers.{phase_of}
use Rattle.hp_core.specs.State.{CoreState}
use Rattle.hp_core.specs.declared.acquiring.Acquired.{Acquired}
use Rattle.hp_explain.specs.Layout.{spaces, column, columns, titled, titles}
use Rattle.hp_explain.specs.Rows.{calls_text, if_in_flight}
use Rattle.hp_explain.specs.Waits.{change_text, changes_text, wait_text}
use Rattle.hp_explain.specs.Words.{wanted_text}

pub no_space : (old : List ℕ) → old ≡ old ++ spaces 0
unfolding spaces
no_space old = sym (append-nil old)

pub one_space : (n : ℕ) (old now new : List ℕ) → now ≡ old ++ spaces n → new ≡ now ++ (32 ∷ []) → new ≡ old ++ spaces (n + 1)
unfolding spaces
one_space n old now new is e = rw (add-one) (more_text old (spaces n) (32 ∷ []) now new is e)

pub no_column : (widths : List ℕ) (own : ℕ) (text old : List ℕ) → old ≡ old ++ columns widths own text 0
unfolding columns
no_column widths own text old = sym (append-nil old)

pub one_column : (widths : List ℕ) (own : ℕ) (text : List ℕ) (n : ℕ) (old now new : List ℕ) → now ≡ old ++ columns widths own text n
    → new ≡ now ++ column (slice_index_or widths n 0) (n == own) text → new ≡ old ++ columns widths own text (n + 1)
unfolding columns
one_column widths own text n old now new is e =
    rw (add-one) (more_text old (columns widths own text n) (column (slice_index_or widths n 0) (n == own) text) now new is e)

pub no_title : (compact : Bool) (widths : List ℕ) (old : List ℕ) → old ≡ old ++ titles compact widths 0
unfolding titles
no_title compact widths old = sym (append-nil old)

pub one_title : (compact : Bool) (widths : List ℕ) (n : ℕ) (old now new : List ℕ) → now ≡ old ++ titles compact widths n
    → new ≡ now ++ titled compact (slice_index_or widths n 0) n → new ≡ old ++ titles compact widths (n + 1)
unfolding titles
one_title compact widths n old now new is e =
    rw (add-one) (more_text old (titles compact widths n) (titled compact (slice_index_or widths n 0) n) now new is e)

pub no_call : (core : CoreState) (old : List ℕ) → old ≡ old ++ calls_text core 0
unfolding calls_text
no_call core old = sym (append-nil old)

pub one_call : (core : CoreState) (n task : ℕ) (old now new : List ℕ) → task ≡ n + 1 → now ≡ old ++ calls_text core n
    → new ≡ now ++ if_in_flight core task (phase_of core task) → new ≡ old ++ calls_text core (n + 1)
unfolding calls_text
one_call core n task old now new number is e =
    rw (add-one) (more_text old (calls_text core n) (if_in_flight core (suc n) (phase_of core (suc n))) now new is
    (e ∙ ap (λ (k : ℕ). now ++ if_in_flight core k (phase_of core k)) (number ∙ add-one n)))

pub no_change : (compact : Bool) (core : CoreState) (before after : List (Option ℕ)) (old : List ℕ)
    → old ≡ old ++ changes_text compact core before after 0
unfolding changes_text
no_change compact core before after old = sym (append-nil old)

pub one_change : (compact : Bool) (core : CoreState) (before after : List (Option ℕ)) (n task : ℕ) (x y : Option ℕ) (old now new : List ℕ)
    → task ≡ n + 1 → x ≡ slice_index_or before n None → y ≡ slice_index_or after n None
    → now ≡ old ++ changes_text compact core before after n → new ≡ now ++ change_text compact core task x y
    → new ≡ old ++ changes_text compact core before after (n + 1)
unfolding changes_text
one_change compact core before after n task x y old now new number is_x is_y is e =
    let part : ℕ → Option ℕ → Option ℕ → List ℕ = λ k a b. change_text compact core k a b in
    rw (add-one) (more_text old (changes_text compact core before after n)
    (part (suc n) (slice_index_or before n None) (slice_index_or after n None)) now new is
    (e ∙ ap (λ (k : ℕ). now ++ part k x y) (number ∙ add-one n)
    ∙ ap (λ (a : Option ℕ). now ++ part (suc n) a y) is_x
    ∙ ap (λ (b : Option ℕ). now ++ part (suc n) (slice_index_or before n None) b) is_y))

-- a text behind one of two numbers between words
wait_laid : (row front a mid b back last : List ℕ)
    → (row ++ (front ++ (a ++ (mid ++ (b ++ back))))) ++ last ≡ row ++ (front ++ (a ++ (mid ++ (b ++ (back ++ last)))))
wait_laid row front a mid b back last =
    append_assoc row (front ++ (a ++ (mid ++ (b ++ back)))) last
    ∙ ap (λ (x : List ℕ). row ++ x) (append_assoc front (a ++ (mid ++ (b ++ back))) last
    ∙ ap (λ (x : List ℕ). front ++ x) (append_assoc a (mid ++ (b ++ back)) last
    ∙ ap (λ (x : List ℕ). a ++ x) (append_assoc mid (b ++ back) last
    ∙ ap (λ (x : List ℕ). mid ++ x) (append_assoc b back last))))

pub one_wait : {A E : Type 0} (r : Result A E) (core : CoreState) (task holder : ℕ) (wanted : Acquired) (row now new : List ℕ)
    → wanted ≡ acquired_of core task
    → now ≡ row ++ (codes "task " ++ (decimal task ++ (codes " waits for " ++ (decimal holder ++ codes ": "))))
    → OnOk r (new ≡ now ++ wanted_text core wanted) → OnOk r (new ≡ row ++ wait_text core task holder)
one_wait (Ok said) core task holder wanted row now new its is more =
    let text : Acquired → List ℕ = λ w. wanted_text core w in
    more ∙ ap (λ (x : List ℕ). x ++ text wanted) is
    ∙ wait_laid row (codes "task ") (decimal task) (codes " waits for ") (decimal holder) (codes ": ") (text wanted)
    ∙ ap (λ (w : Acquired). row ++ (codes "task " ++ (decimal task ++ (codes " waits for "
    ++ (decimal holder ++ (codes ": " ++ text w)))))) its
one_wait (Err fault) core task holder wanted row now new its is more = tt
