-- What lines give, one line more at the end; and what strict lines give.
use Rattle.std.proofs.Common.{arith, ◌≡◌, ◌+◌, ◌++◌, ◌∷◌, [], ℕ, zero, suc, List, Bool, Option, Some, None, true, false, ◌==◌, map, replicate, refl, sym, ap, subst, ◌∙◌}
use Rattle.std.proofs.Common.{append_assoc, append-nil}
use Rattle.std.specs.Prelude.{All}
use Rattle.std.specs.List.{list_all}
use Rattle.std.proofs.lemmas.Bool.{and_parts}
use Rattle.std.proofs.lemmas.List.{replicate_more}
use Rattle.hp_base.specs.Text.{Sizes, sizes_text, event_text}
use Rattle.hp_base.specs.declared.event.Event.{Event}
use Rattle.hp_text.specs.Fits.{EventFits}
use Rattle.hp_text.specs.Reading.{header_at, event_at}
use Rattle.hp_text.specs.Traces.{HasNoEnd, Spells, events_text, inside, trace_text}
use Rattle.hp_text.proofs.Lines.{event_again, header_again}
use Rattle.hp_text.proofs.OneReading.{first_is}
use Rattle.hp_text.proofs.Widths.{event_width, sizes_width}
use Rattle.hp_format.specs.Asked.{IsAsked, IsAskedOf}
use Rattle.hp_format.specs.Lines.{unmarked}
use Rattle.hp_text.specs.TextLines.{lines_of}
use Rattle.hp_format.specs.Loose.{AreGiven, Gives, HasNoWords, IsHeader, IsHeaderOf, IsLoose, no_line, first_line}
use Rattle.hp_format.specs.declared.asked.Asked.{Asked}
use Rattle.hp_format.specs.declared.asked.Asked.TheVariants.{Times}

-- one line more
pub given_more : {lines : List (List ℕ)} {events : List Event} → AreGiven lines events → (line : List ℕ) (asked : Asked)
    (more : List Event) → IsAsked line asked → Gives asked more → AreGiven (lines ++ line ∷ []) (events ++ more)
given_more no_line line asked more is gives =
    subst (λ (events : List Event). AreGiven (line ∷ []) events) (append-nil more) (first_line line asked more is gives no_line)
given_more (first_line {lines} {events} first other front was gave rest) line asked more is gives =
    subst (λ (all : List Event). AreGiven (first ∷ (lines ++ line ∷ [])) all) (sym (append_assoc front events more))
    (first_line first other front was gave (given_more rest line asked more is gives))

-- one element
pub one_all : {A : Type 0} (P : A → Type 0) (x : A) → P x → All P (x ∷ [])
one_all P x p zero d l = p
one_all P x p (suc k) d l = absurd (omega (arith, l))

-- steps, and one more of them
pub one_step_more : {A : Type 0} (k : ℕ) (x : A) (old now new : List A) → now ≡ old ++ replicate k x → new ≡ now ++ x ∷ []
    → new ≡ old ++ replicate (suc k) x
one_step_more k x old now new so_far added =
    let next : k + 1 ≡ suc k = omega arith in
    added ∙ ap (λ t. t ++ x ∷ []) so_far ∙ append_assoc old (replicate k x) (x ∷ [])
    ∙ ap (λ t. old ++ t) (replicate_more k x ∙ ap (λ n. replicate n x) next)

-- a line that ends
ended : (line rest : List ℕ) → HasNoEnd line → lines_of (line ++ 10 ∷ rest) ≡ line ∷ lines_of rest
unfolding lines_of
ended [] rest no_end = refl
ended (b ∷ line) rest no_end =
    by (b == 10) refl (ended line rest (and_parts (inside b) (list_all inside line) no_end).1)
  where
    by : (c : Bool) → (b == 10) ≡ c → lines_of (line ++ 10 ∷ rest) ≡ line ∷ lines_of rest
        → lines_of ((b ∷ line) ++ 10 ∷ rest) ≡ (b ∷ line) ∷ lines_of rest
    by true e more =
        let here : inside b ≡ true = (and_parts (inside b) (list_all inside line) no_end).0 in
        let gone : inside b ≡ false = rw e refl in
        absurd cc
    by false e more = rw (e, more) refl

strict_lines : (events : List Event) → All EventFits events → lines_of (events_text events) ≡ map event_text events
unfolding lines_of
strict_lines [] each = refl
strict_lines (e ∷ events) each =
    let first = first_is e events each in
    ap lines_of (append_assoc (event_text e) (10 ∷ []) (events_text events))
    ∙ ended (event_text e) (events_text events) (event_width e first.0).no_end
    ∙ ap (λ (lines : List (List ℕ)). event_text e ∷ lines) (strict_lines events first.1)

-- strict lines give their events
strict_given : (events : List Event) {lines : List (List ℕ)} {more : List Event} → All EventFits events → AreGiven lines more
    → lines ≡ map event_text events → more ≡ events
strict_given [] each no_line same = refl
strict_given (e ∷ events) each no_line same = absurd cc
strict_given [] each (first_line line asked front is gives rest) same = absurd cc
strict_given (e ∷ events) each (first_line line asked front is gives rest) same =
    let fits = first_is e events each in
    let text : line ≡ event_text e = cc in
    let read : event_at line ≡ Some e = ap event_at text ∙ event_again e fits.0 in
    let once : asked ≡ Times e 1 = subst (λ (o : Option Event). IsAskedOf o line asked) read is in
    let front_is : front ≡ e ∷ [] = subst (λ (asked : Asked). Gives asked front) once gives in
    rw (front_is, strict_given events fits.1 rest cc) refl

-- the lines of a strict trace
pub strict_text_lines : (text : List ℕ) (s : Sizes) (events : List Event) → Spells text s events
    → lines_of (unmarked text) ≡ sizes_text s ∷ map event_text events
strict_text_lines text s events spells =
    let unmarked_is : unmarked (trace_text s events) ≡ trace_text s events = refl in
    ap (λ (text : List ℕ). lines_of (unmarked text)) spells.text ∙ ap lines_of unmarked_is
    ∙ ap lines_of (append_assoc (sizes_text s) (10 ∷ []) (events_text events))
    ∙ ended (sizes_text s) (events_text events) (sizes_width s spells.trace.within).no_end
    ∙ ap (λ (lines : List (List ℕ)). sizes_text s ∷ lines) (strict_lines events spells.trace.each)

-- the text of a strict trace asks for that trace alone
pub strict_stays : (text : List ℕ) (s : Sizes) (events : List Event) (z : Sizes) (more : List Event) → Spells text s events
    → IsLoose text z more → (z ≡ s) × (more ≡ events)
strict_stays text s events z more spells loose =
    by loose.front loose.header loose.lines (sym loose.parts ∙ strict_text_lines text s events spells) loose.blank loose.sizes loose.given
  where
    read : (line : List ℕ) → line ≡ sizes_text s → header_at line ≡ Some s
    read line same = ap header_at same ∙ header_again s spells.trace.within

    by : (front : List (List ℕ)) (header : List ℕ) (lines : List (List ℕ))
        → front ++ header ∷ lines ≡ sizes_text s ∷ map event_text events → All HasNoWords front → IsHeader header z
        → AreGiven lines more → (z ≡ s) × (more ≡ events)
    by [] header lines same blank is given =
        let sizes_are : s ≡ z = subst (λ (o : Option Sizes). IsHeaderOf o header z) (read header cc) is in
        (sym sizes_are, strict_given events spells.trace.each given cc)
    by (line ∷ front) header lines same blank is given =
        let none : header_at line ≡ None = (blank 0 line (omega arith)).strict in
        let some : header_at line ≡ Some s = read line cc in
        absurd cc
