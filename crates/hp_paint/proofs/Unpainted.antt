-- A painted text without its sequences is what was written; and whole words are shown in their colours.
use Rattle.std.proofs.Common.{◌≡◌, ◌≢◌, ◌≤◌, ◌+◌, ℕ, List, [], ◌∷◌, ◌++◌, Bool, true, false, All, Option, Some, None}
use Rattle.std.proofs.Common.{refl, sym, ap, ◌∙◌, nat_lt, length, arith}
use Rattle.std.specs.Prelude.{if◌then◌else◌}
use Rattle.std.proofs.lemmas.Grind.{common_steps}
use Rattle.std.proofs.lemmas.List.{append_assoc, append-nil}
use Rattle.std.proofs.lemmas.List.Elements.{All-head, All-tail, All-push, All-nil}
use Rattle.hp_paint.specs.Painting.{Open, Short, Long, closed, held, in_word, opened, open_behind, painted, passed, unpainted}
use Rattle.hp_paint.specs.Palettes.{colour_of, in_colour, plain, sequence, shown}
use Rattle.hp_paint.specs.declared.palette.Palette.{Palette}
use Rattle.hp_paint.specs.declared.palette.Colour.{Colour}
use Rattle.hp_paint.specs.declared.palette.Colour.TheVariants.{Red, Yellow}

abbrev pub NoEscape : List ℕ → Type 0
NoEscape text = All (λ b. b ≢ 27) text

-- a byte that begins no sequence stays
stays : (b : ℕ) (rest : List ℕ) → b ≢ 27 → unpainted (b ∷ rest) ≡ b ∷ unpainted rest
stays b rest other = grind (arith, common_steps)

-- so does a text without one
text_stays : (text rest : List ℕ) → NoEscape text → unpainted (text ++ rest) ≡ text ++ unpainted rest
text_stays [] rest clear = refl
text_stays (b ∷ bs) rest clear =
    stays b (bs ++ rest) (All-head (λ x. x ≢ 27) b bs clear)
    ∙ ap (λ t. b ∷ t) (text_stays bs rest (All-tail (λ x. x ≢ 27) b bs clear))

-- a sequence goes
sequence_goes : (c : Colour) (rest : List ℕ) → unpainted (sequence c ++ rest) ≡ unpainted rest
sequence_goes Red rest = refl
sequence_goes Yellow rest = refl

-- and a word in a colour loses it
colour_goes : (colour : Option Colour) (w rest : List ℕ) → NoEscape w → unpainted (in_colour colour w ++ rest) ≡ w ++ unpainted rest
colour_goes None w rest clear = text_stays w rest clear
colour_goes (Some c) w rest clear =
    ap unpainted (append_assoc (sequence c ++ w) plain rest ∙ append_assoc (sequence c) w (plain ++ rest))
    ∙ (sequence_goes c (w ++ (plain ++ rest)) ∙ text_stays w (plain ++ rest) clear)

shown_goes : (p : Palette) (w rest : List ℕ) → NoEscape w → unpainted (shown p w ++ rest) ≡ w ++ unpainted rest
shown_goes p w rest clear = colour_goes (colour_of p w) w rest clear

-- What comes of a byte behind a word that goes on, of one behind a word that ends, and of any byte, where the rest is right
goes_on : (w : List ℕ) (b : ℕ) (rest bs : List ℕ) (fits : Bool) → NoEscape w → b ≢ 27
    → unpainted rest ≡ held (if fits then Short (w ++ b ∷ []) else Long) ++ bs
    → unpainted ((if fits then [] else w ++ b ∷ []) ++ rest) ≡ w ++ b ∷ bs
goes_on w b rest bs true clear other is = is ∙ append_assoc w (b ∷ []) bs
goes_on w b rest bs false clear other is =
    ap unpainted (append_assoc w (b ∷ []) rest)
    ∙ (text_stays w (b ∷ rest) clear ∙ ap (λ t. w ++ t) (stays b rest other ∙ ap (λ t. b ∷ t) is))

ends : (p : Palette) (w : List ℕ) (b : ℕ) (rest bs : List ℕ) → NoEscape w → b ≢ 27 → unpainted rest ≡ bs
    → unpainted ((shown p w ++ b ∷ []) ++ rest) ≡ w ++ b ∷ bs
ends p w b rest bs clear other is =
    ap unpainted (append_assoc (shown p w) (b ∷ []) rest)
    ∙ (shown_goes p w (b ∷ rest) clear ∙ ap (λ t. w ++ t) (stays b rest other ∙ ap (λ t. b ∷ t) is))

behind_short : (p : Palette) (w : List ℕ) (b : ℕ) (rest bs : List ℕ) (is_in : Bool) → NoEscape w → b ≢ 27
    → unpainted rest ≡ held (if is_in then (if nat_lt (length w) 11 then Short (w ++ b ∷ []) else Long) else Short []) ++ bs
    → unpainted ((if is_in then (if nat_lt (length w) 11 then [] else w ++ b ∷ []) else (shown p w ++ b ∷ [])) ++ rest) ≡ w ++ b ∷ bs
behind_short p w b rest bs true clear other is = goes_on w b rest bs (nat_lt (length w) 11) clear other is
behind_short p w b rest bs false clear other is = ends p w b rest bs clear other is

behind_long : (b : ℕ) (rest bs : List ℕ) (is_in : Bool) → b ≢ 27 → unpainted rest ≡ held (if is_in then Long else Short []) ++ bs
    → unpainted (b ∷ rest) ≡ b ∷ bs
behind_long b rest bs true other is = stays b rest other ∙ ap (λ t. b ∷ t) is
behind_long b rest bs false other is = stays b rest other ∙ ap (λ t. b ∷ t) is

byte_passes : (p : Palette) (o : Open) (b : ℕ) (rest bs : List ℕ) → NoEscape (held o) → b ≢ 27
    → unpainted rest ≡ held (opened o b) ++ bs → unpainted (passed p o b ++ rest) ≡ held o ++ b ∷ bs
byte_passes p (Short w) b rest bs clear other is = behind_short p w b rest bs (in_word b) clear other is
byte_passes p Long b rest bs clear other is = behind_long b rest bs (in_word b) other is

-- what is held back has no such byte either
short_clear : (w : List ℕ) (b : ℕ) (is_in fits : Bool) → NoEscape w → b ≢ 27
    → NoEscape (held (if is_in then (if fits then Short (w ++ b ∷ []) else Long) else Short []))
short_clear w b true true clear other = All-push (λ x. x ≢ 27) w b clear other
short_clear w b true false clear other = All-nil (λ x. x ≢ 27)
short_clear w b false fits clear other = All-nil (λ x. x ≢ 27)

long_clear : (is_in : Bool) → NoEscape (held (if is_in then Long else Short []))
long_clear true = All-nil (λ x. x ≢ 27)
long_clear false = All-nil (λ x. x ≢ 27)

still_clear : (o : Open) (b : ℕ) → NoEscape (held o) → b ≢ 27 → NoEscape (held (opened o b))
still_clear (Short w) b clear other = short_clear w b (in_word b) (nat_lt (length w) 11) clear other
still_clear Long b clear other = long_clear (in_word b)

-- all that is written of a text, without the sequences
end_again : (p : Palette) (o : Open) → NoEscape (held o) → unpainted (closed p o) ≡ held o ++ []
end_again p (Short w) clear = ap unpainted (sym (append-nil (shown p w))) ∙ shown_goes p w [] clear
end_again p Long clear = refl

pub text_again : (p : Palette) (o : Open) (text : List ℕ) → NoEscape (held o) → NoEscape text
    → unpainted (painted p o text ++ closed p (open_behind o text)) ≡ held o ++ text
text_again p o [] clear none = end_again p o clear
text_again p o (b ∷ bs) clear none =
    let other = All-head (λ x. x ≢ 27) b bs none in
    ap unpainted (append_assoc (passed p o b) (painted p (opened o b) bs) (closed p (open_behind (opened o b) bs)))
    ∙ byte_passes p o b (painted p (opened o b) bs ++ closed p (open_behind (opened o b) bs)) bs clear other
    (text_again p (opened o b) bs (still_clear o b clear other) (All-tail (λ x. x ≢ 27) b bs none))

-- a text in two pieces
pub in_pieces : (p : Palette) (o : Open) (xs ys : List ℕ) → painted p o (xs ++ ys) ≡ painted p o xs ++ painted p (open_behind o xs) ys
in_pieces p o [] ys = refl
in_pieces p o (b ∷ bs) ys =
    ap (λ t. passed p o b ++ t) (in_pieces p (opened o b) bs ys)
    ∙ sym (append_assoc (passed p o b) (painted p (opened o b) bs) (painted p (open_behind (opened o b) bs) ys))

pub behind_pieces : (o : Open) (xs ys : List ℕ) → open_behind o (xs ++ ys) ≡ open_behind (open_behind o xs) ys
behind_pieces o [] ys = refl
behind_pieces o (b ∷ bs) ys = behind_pieces (opened o b) bs ys

-- a whole word that is open as `w`, with `v` to come, and a byte that ends it
pub word_in_colour : (p : Palette) (w v : List ℕ) (b : ℕ) (rest : List ℕ) → All (λ x. in_word x ≡ true) v → length w + length v ≤ 11
    → in_word b ≡ false → painted p (Short w) (v ++ b ∷ rest) ≡ shown p (w ++ v) ++ b ∷ painted p (Short []) rest
word_in_colour p w [] b rest all few not_in =
    rw not_in (rw (append-nil w) (append_assoc (shown p w) (b ∷ []) (painted p (Short []) rest)))
word_in_colour p w (x ∷ v) b rest all few not_in =
    let is_in : in_word x ≡ true = All-head (λ y. in_word y ≡ true) x v all in
    let fits : nat_lt (length w) 11 ≡ true = grind (arith, common_steps) in
    rw (is_in, fits) (word_in_colour p (w ++ x ∷ []) v b rest (All-tail (λ y. in_word y ≡ true) x v all) (grind (arith, common_steps)) not_in
    ∙ ap (λ t. shown p t ++ b ∷ painted p (Short []) rest) (append_assoc w (x ∷ []) v))
