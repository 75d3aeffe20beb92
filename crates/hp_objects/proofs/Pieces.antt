-- Objects of a text in two pieces.
use Rattle.std.proofs.Common.{◌≡◌, ◌++◌, ◌∷◌, [], ℕ, List, refl, sym, ap, ◌∙◌}
use Rattle.std.proofs.lemmas.List.{append_assoc}
use Rattle.hp_objects.specs.Objects.{Line, line_behind, line_with, objects, opening_line, passed}
use Rattle.hp_objects.specs.declared.places.Output.{Output}

pub in_pieces : (o : Output) (l : Line) (xs ys : List ℕ) → objects o l (xs ++ ys) ≡ objects o l xs ++ objects o (line_behind o l xs) ys
in_pieces o l [] ys = refl
in_pieces o l (b ∷ bs) ys =
    ap (λ t. passed l b ++ t) (in_pieces o (line_with o l b) bs ys)
    ∙ sym (append_assoc (passed l b) (objects o (line_with o l b) bs) (objects o (line_behind o (line_with o l b) bs) ys))

pub behind_pieces : (o : Output) (l : Line) (xs ys : List ℕ) → line_behind o l (xs ++ ys) ≡ line_behind o (line_behind o l xs) ys
behind_pieces o l [] ys = refl
behind_pieces o l (b ∷ bs) ys = behind_pieces o (line_with o l b) bs ys

-- a line's end leaves nothing of the line
pub own_object : (o : Output) (line rest : List ℕ) → objects o (opening_line o) (line ++ 10 ∷ rest)
    ≡ objects o (opening_line o) (line ++ 10 ∷ []) ++ objects o (opening_line o) rest
own_object o line rest =
    ap (objects o (opening_line o)) (sym (append_assoc line (10 ∷ []) rest))
    ∙ (in_pieces o (opening_line o) (line ++ 10 ∷ []) rest
    ∙ ap (λ l. objects o (opening_line o) (line ++ 10 ∷ []) ++ objects o l rest) (behind_pieces o (opening_line o) line (10 ∷ [])))
