-- What lines lead to, one line more at the end; and that strict lines have no fault.
use Rattle.std.proofs.Common.{arith, ◌≡◌, ◌<◌, ◌≤◌, ◌+◌, ◌++◌, ◌∷◌, [], ℕ, List, Bool, Option, Some, None, true, false, ◌==◌, map, length, refl, sym, ap, subst, ◌∙◌, inl, inr}
use Rattle.std.proofs.Common.{append_assoc, append-nil, length-append}
use Rattle.std.specs.Prelude.{All}
use Rattle.hp_base.specs.Text.{Sizes, sizes_text, event_text}
use Rattle.hp_base.specs.declared.event.Event.{Event}
use Rattle.hp_core.specs.State.{CoreState}
use Rattle.hp_text.specs.Fits.{EventFits}
use Rattle.hp_text.specs.Reading.{header_at, event_at}
use Rattle.hp_text.specs.TextLines.{glued, lines_of}
use Rattle.hp_text.specs.Traces.{Spells}
use Rattle.hp_text.proofs.Lines.{event_again, header_again}
use Rattle.hp_text.proofs.OneReading.{first_is}
use Rattle.hp_format.specs.Asked.{IsAsked, IsAskedOf}
use Rattle.hp_format.specs.Following.{IsUnadded, Leads}
use Rattle.hp_format.specs.Lines.{unmarked}
use Rattle.hp_format.specs.Loose.{BeginsWithout, HasNoWords, IsWrong, IsWrongAt, LinesLead}
use Rattle.hp_format.specs.declared.asked.Asked.{Asked}
use Rattle.hp_format.specs.declared.asked.Asked.TheVariants.{Times}
use Rattle.hp_format.specs.declared.fault.Reason.{Reason}
use Rattle.hp_format.proofs.Given.{strict_text_lines}

-- a text has no more lines than bytes
pub few_lines : (text : List ℕ) → length (lines_of text) ≤ length text
unfolding lines_of
few_lines [] = omega arith
few_lines (b ∷ text) = by (b == 10) refl (few_lines text)
  where
    one : (lines : List (List ℕ)) → length lines ≤ length text → length (glued b lines) ≤ length (b ∷ text)
    one [] few = omega arith
    one (line ∷ lines) few = omega (arith, few)

    by : (c : Bool) → (b == 10) ≡ c → length (lines_of text) ≤ length text → length (lines_of (b ∷ text)) ≤ length (b ∷ text)
    by true e few = rw e (omega (arith, few))
    by false e few = rw e (one (lines_of text) few)

-- one line more
pub lines_more : (first : CoreState) (lines : List (List ℕ)) (events : List Event) (mid : CoreState) (line : List ℕ) (asked : Asked)
    (more : List Event) (new : CoreState) → LinesLead first lines events mid → IsAsked line asked → Leads mid asked more new
    → LinesLead first (lines ++ line ∷ []) (events ++ more) new
lines_more first [] events mid line asked more new (none, same) is leads =
    let from : Leads first asked more new = subst (λ (core : CoreState). Leads core asked more new) same leads in (
      asked,
      more,
      new,
      [],
      is,
      from,
      (refl, refl),
      ap (λ (t : List Event). t ++ more) none ∙ sym (append-nil more),
    )
lines_more first (line' ∷ lines) events mid line asked more new (other, front, core, behind, was, led, rest, all) is leads = (
  other,
  front,
  core,
  behind ++ more,
  was,
  led,
  lines_more core lines behind mid line asked more new rest is leads,
  ap (λ (t : List Event). t ++ more) all ∙ append_assoc front behind more,
)

-- strict lines before another: each gave one event
pub record IsAmong (done : List (List ℕ)) (line : List ℕ) (events given : List Event) : Type 0 where
  pub event : Event
  pub line_is : line ≡ event_text event
  pub fits : EventFits event
  pub given_are : length given ≡ length done
  pub before : length done < length events

once : (line : List ℕ) (e : Event) (asked : Asked) → EventFits e → line ≡ event_text e → IsAsked line asked → asked ≡ Times e 1
once line e asked fits text is =
    let read : event_at line ≡ Some e = ap event_at text ∙ event_again e fits in
    subst (λ (o : Option Event). IsAskedOf o line asked) read is

among : (first : CoreState) (done : List (List ℕ)) (line : List ℕ) (rest : List (List ℕ)) (events given : List Event) (new : CoreState)
    → All EventFits events → done ++ line ∷ rest ≡ map event_text events → LinesLead first done given new → IsAmong done line events given
among first [] line rest [] given new each same led = absurd cc
among first (d ∷ done) line rest [] given new each same led = absurd cc
among first [] line rest (e ∷ events) given new each same (none, _) =
    record {
      event = e;
      line_is = cc;
      fits = (first_is e events each).0;
      given_are = ap length none;
      before = omega arith;
    }
among first (d ∷ done) line rest (e ∷ events) given new each same (asked, front, mid, behind, is, leads, led, all) =
    let fits = first_is e events each in
    let text : d ≡ event_text e = cc in
    let tail : done ++ line ∷ rest ≡ map event_text events = cc in
    let asked_is = once d e asked fits.0 text is in
    let lead : Leads first (Times e 1) front mid = subst (λ (asked : Asked). Leads first asked front mid) asked_is leads in
    let one : length front ≡ 1 = ap length lead.0 in
    let more = among mid done line rest events behind new fits.1 tail led in
    let sum : length given ≡ length front + length behind = ap length all ∙ length-append front behind in
    record {
      event = more.event;
      line_is = more.line_is;
      fits = more.fits;
      given_are = omega (arith, one, sum, more.given_are);
      before = omega (arith, more.before);
    }

-- so nothing is wrong with that one
fine : (core : CoreState) (done : List (List ℕ)) (line : List ℕ) (events given : List Event) (why : Reason) → length events ≤ 1000000
    → IsAmong done line events given → IsWrong core given line why → ⊥
fine core done line events given why few is (inl (_, none)) =
    let read : event_at line ≡ Some is.event = ap event_at is.line_is ∙ event_again is.event is.fits in
    none (Times is.event 1) is.fits (subst (λ (o : Option Event). IsAskedOf o line (Times is.event 1)) (sym read) refl)
fine core done line events given why few is (inr (asked, was, unadded)) =
    let asked_is = once line is.event asked is.fits is.line_is was in
    let over : IsUnadded core given (Times is.event 1) why = subst (λ (asked : Asked). IsUnadded core given asked why) asked_is unadded in
    omega (arith, over.1, is.given_are, is.before, few)

pub strict_has_no_fault : (text : List ℕ) (s : Sizes) (events : List Event) (n : ℕ) (why : Reason) → Spells text s events
    → IsWrongAt text n why → ⊥
strict_has_no_fault text s events n why spells wrong = by wrong
  where
    lines_are : lines_of (unmarked text) ≡ sizes_text s ∷ map event_text events
    lines_are = strict_text_lines text s events spells

    read : (line : List ℕ) → line ≡ sizes_text s → header_at line ≡ Some s
    read line same = ap header_at same ∙ header_again s spells.trace.within

    some : (line : List ℕ) → line ≡ sizes_text s → header_at line ≡ None → ⊥
    some line same none = let both : Some s ≡ None = sym (read line same) ∙ none in absurd cc

    none_lacks : (front rest : List (List ℕ)) → front ++ rest ≡ sizes_text s ∷ map event_text events → All HasNoWords front
        → BeginsWithout rest → ⊥
    none_lacks [] [] same blank none = absurd cc
    none_lacks [] (line ∷ rest) same blank none = let text : line ≡ sizes_text s = cc in some line text none.strict
    none_lacks (line ∷ front) rest same blank none =
        let text : line ≡ sizes_text s = cc in some line text (blank 0 line (omega arith)).strict

    behind : (front : List (List ℕ)) (header : List ℕ) (lines : List (List ℕ)) → front ++ header ∷ lines ≡ sizes_text s ∷ map event_text events
        → All HasNoWords front → lines ≡ map event_text events
    behind [] header lines same blank = cc
    behind (line ∷ front) header lines same blank =
        let text : line ≡ sizes_text s = cc in absurd (some line text (blank 0 line (omega arith)).strict)

    by : IsWrongAt text n why → ⊥
    by (inl lacks) = none_lacks lacks.front lacks.rest (sym lacks.parts ∙ lines_are) lacks.blank lacks.none
    by (inr w) =
        let b = w.bad in
        let same = behind w.front w.header w.lines (sym w.parts ∙ lines_are) w.blank in
        let is = among w.first b.done b.line b.rest events b.events b.core spells.trace.each (sym b.parts ∙ same) b.led in
        fine b.core b.done b.line events b.events why spells.trace.few is b.wrong
