-- A picture that is spelled is read as what it was.
use Rattle.std.proofs.Common.{◌≡◌, ℕ, suc, ◌+◌, Bool, true, false, List, [], ◌∷◌, ◌++◌, length, map, Some, refl, sym, ap, ◌∙◌}
use Rattle.std.proofs.Common.{append_assoc, arith}
use Rattle.std.specs.Prelude.{◌==◌, All, not, Ok}
use Rattle.std.specs.List.{list_all}
use Rattle.std.proofs.lemmas.Bool.{and_parts}
use Rattle.std.proofs.lemmas.List.{append-nil}
use Rattle.hp_text.specs.TextLines.{lines_of}
use Rattle.hp_text.specs.Traces.{HasNoEnd, inside}
use Rattle.hp_picture.specs.Pictures.{DraftState, PlacesState, next, next_in, opening, picture_of, taken, with_place}
use Rattle.hp_picture.specs.Text.{AreShortCounts, LineFits, PlacesFit, file_lines, free_lines, hand_lines, line_text, lines_text, page_lines}
use Rattle.hp_picture.specs.Text.{file_line, page_line, region_line, translation_line}
use Rattle.hp_picture.specs.Text.{picture_text, places_text, region_lines, retired_lines, spelled, translation_lines}
use Rattle.hp_picture.specs.declared.line.PictureLine.{PictureLine}
use Rattle.hp_picture.specs.declared.line.PictureLine.TheVariants as says
use Rattle.hp_picture.specs.declared.picture.Counts.{Counts}
use Rattle.hp_picture.proofs.Again.{line_again, line_no_end}

-- the first line of a text
first_line : (line rest : List ℕ) → HasNoEnd line → lines_of (line ++ (10 ∷ rest)) ≡ line ∷ lines_of rest
unfolding lines_of
first_line [] rest no_end = refl
first_line (b ∷ line) rest no_end =
    let p = and_parts (inside b) (list_all inside line) no_end in
    let other : (b == 10) ≡ false = not_true (b == 10) p.0 in
    rw (other, first_line line rest p.1) refl
  where
    not_true : (x : Bool) → not x ≡ true → x ≡ false
    not_true true e = cc
    not_true false e = refl

-- a line is taken
line_taken : (n : ℕ) (d more : DraftState) (line : PictureLine) (rest : List ℕ) → LineFits line → next_in d.head d.ended d line ≡ Some more
    → taken n d (lines_of (spelled line ++ rest)) ≡ taken (n + 1) more (lines_of rest)
unfolding taken next
line_taken n d more line rest fits may =
    let text : spelled line ++ rest ≡ line_text line ++ (10 ∷ rest) = append_assoc (line_text line) (10 ∷ []) rest in
    rw (text, first_line (line_text line) rest (line_no_end line fits), line_again line fits, may) refl

abbrev drafted : Counts → PlacesState → DraftState
drafted c p = record { head = Some c; places = p; ended = false }

-- the places of a kind are: `put` has them beside the others, and each line of the kind adds one
kind_taken : {A : Type 0} (f : A → PictureLine) (put : List A → PlacesState) (c : Counts)
    → ((ys : List A) (x : A) → next_in (Some c) false (drafted c (put ys)) (f x) ≡ Some (drafted c (put (ys ++ x ∷ []))))
    → (xs ys : List A) (n : ℕ) (rest : List ℕ) → All LineFits (map f xs)
    → taken n (drafted c (put ys)) (lines_of (lines_text (map f xs) ++ rest)) ≡ taken (n + length xs) (drafted c (put (ys ++ xs))) (lines_of rest)
unfolding lines_text
kind_taken f put c adds [] ys n rest fits =
    let count : n + 0 ≡ n = omega arith in
    rw (append-nil ys, count) refl
kind_taken f put c adds (x ∷ xs) ys n rest fits =
    let text : lines_text (f x ∷ map f xs) ++ rest ≡ spelled (f x) ++ (lines_text (map f xs) ++ rest) =
    append_assoc (spelled (f x)) (lines_text (map f xs)) rest in
    let one = line_taken n (drafted c (put ys)) (drafted c (put (ys ++ x ∷ []))) (f x) (lines_text (map f xs) ++ rest) (fits 0 (f x) (omega arith))
    (adds ys x) in
    let others = kind_taken f put c adds xs (ys ++ x ∷ []) (n + 1) rest (λ k d l. fits (suc k) d (omega (arith, l))) in
    let behind : (ys ++ x ∷ []) ++ xs ≡ ys ++ x ∷ xs = append_assoc ys (x ∷ []) xs in
    let count : n + 1 + length xs ≡ n + suc (length xs) = omega arith in
    ap (λ (t : List ℕ). taken n (drafted c (put ys)) (lines_of t)) text ∙ one ∙ others ∙ rw (behind, count) refl

regrouped : (a b d e f g h rest : List ℕ)
    → (a ++ (b ++ (d ++ (e ++ (f ++ (g ++ h)))))) ++ rest ≡ a ++ (b ++ (d ++ (e ++ (f ++ (g ++ (h ++ rest))))))
regrouped a b d e f g h rest = simp (append_assoc) refl

abbrev places : List ℕ → List ℕ → List ℕ → List (ℕ × Bool) → List (ℕ × ℕ × ℕ) → List (ℕ × ℕ × ℕ)
    → List (ℕ × ℕ × ℕ × ℕ)
    → PlacesState
places free retired hands files regions pages tables =
    record { free = free; retired = retired; hands = hands; files = files; regions = regions; pages = pages; tables = tables }

-- the end is
end_taken : (n : ℕ) (c : Counts) (p : PlacesState) → taken n (drafted c p) (lines_of (spelled says.End)) ≡ Ok (c, p)
unfolding taken lines_of
end_taken n c p =
    ap (λ (t : List ℕ). taken n (drafted c p) (lines_of t)) (sym (append-nil (spelled says.End)))
    ∙ line_taken n (drafted c p) (record { head = Some c; places = p; ended = true }) says.End [] tt refl

-- a picture's text is read as that picture
pub picture_again : (c : Counts) (p : PlacesState) → AreShortCounts c → PlacesFit p → picture_of (picture_text c p) ≡ Ok (c, p)
unfolding picture_of picture_text places_text with_place
picture_again c p short fits =
    let r7 = lines_text (translation_lines p) ++ spelled says.End in
    let r6 = lines_text (page_lines p) ++ r7 in
    let r5 = lines_text (region_lines p) ++ r6 in
    let r4 = lines_text (file_lines p) ++ r5 in
    let r3 = lines_text (hand_lines p) ++ r4 in
    let r2 = lines_text (retired_lines p) ++ r3 in
    let n1 = 1 + length p.free in
    let n2 = n1 + length p.retired in
    let n3 = n2 + length p.hands in
    let n4 = n3 + length p.files in
    let n5 = n4 + length p.regions in
    let n6 = n5 + length p.pages in
    line_taken 0 opening (drafted c (places [] [] [] [] [] [] [])) (says.Head c) (places_text p ++ spelled says.End) short refl
    ∙ ap (λ (t : List ℕ). taken 1 (drafted c (places [] [] [] [] [] [] [])) (lines_of t))
    (regrouped (lines_text (free_lines p)) (lines_text (retired_lines p)) (lines_text (hand_lines p)) (lines_text (file_lines p))
    (lines_text (region_lines p)) (lines_text (page_lines p)) (lines_text (translation_lines p)) (spelled says.End))
    ∙ kind_taken says.Free (λ ys. places ys [] [] [] [] [] []) c (λ ys x. refl) p.free [] 1 r2 fits.free
    ∙ kind_taken says.Retired (λ ys. places p.free ys [] [] [] [] []) c (λ ys x. refl) p.retired [] n1 r3 fits.retired
    ∙ kind_taken says.Hand (λ ys. places p.free p.retired ys [] [] [] []) c (λ ys x. refl) p.hands [] n2 r4 fits.hands
    ∙ kind_taken file_line (λ ys. places p.free p.retired p.hands ys [] [] []) c (λ ys x. refl) p.files [] n3 r5 fits.files
    ∙ kind_taken region_line (λ ys. places p.free p.retired p.hands p.files ys [] []) c (λ ys x. refl) p.regions []
    n4 r6 fits.regions
    ∙ kind_taken page_line (λ ys. places p.free p.retired p.hands p.files p.regions ys []) c (λ ys x. refl) p.pages []
    n5 r7 fits.pages
    ∙ kind_taken translation_line (λ ys. places p.free p.retired p.hands p.files p.regions p.pages ys) c
    (λ ys x. refl) p.tables [] n6 (spelled says.End) fits.tables
    ∙ end_taken (n6 + length p.tables) c p
