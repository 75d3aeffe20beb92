-- A trace that is written line by line.
use Rattle.std.proofs.Common.{◌≡◌, ℕ, ◌+◌, ◌<◌, ◌≤◌, List, [], ◌∷◌, ◌++◌, length, take, drop, get_or, Option, sym, ap, subst, ◌∙◌}
use Rattle.std.proofs.Common.{append_assoc, add-one, drop-cons}
use Rattle.std.specs.Prelude.{All}
use Rattle.std.specs.Io.KnownBytes.{Appends}
use Rattle.std.proofs.KnownBytes.{Appends-trans}
use Rattle.std.proofs.lemmas.List.{append-nil, take-append-drop, take_all, take_more}
use Rattle.std.proofs.lemmas.List.Elements.{All-nil, All-cons, All-append}
use Rattle.std.proofs.lemmas.Grind.{flat_map-append}
use Rattle.hp_base.specs.Text.{Sizes}
use Rattle.hp_base.specs.declared.event.Event.{Event}
use Rattle.hp_text.specs.Fits.{EventFits}
use Rattle.hp_text.specs.Traces.{AreWithinLimits, IsTrace, header_line, event_line, events_text, trace_text}
use Rattle.hp_text.specs.Writing.{Wrote}
use Rattle.hp_text.proofs.Writes.{Wrote-more, Wrote-behind}

-- the event at n, and the others
around : (events : List Event) (n : ℕ) (e : Event) → n < length events → e ≡ get_or events n e
    → events ≡ take n events ++ (e ∷ drop (n + 1) events)
around events n e lt is =
    let front : drop n events ≡ get_or events n e ∷ drop (n + 1) events = rw add-one (drop-cons events n e lt) in
    sym (take-append-drop n events)
    ∙ ap (λ (x : List Event). take n events ++ x) (front ∙ ap (λ (x : Event). x ∷ drop (n + 1) events) (sym is))

-- the header and the first n events are written
pub record WritingTrace (o o' : Option (List ℕ)) (s : Sizes) (events : List Event) (n : ℕ) : Type 0 where
  pub wrote : Appends o o' (trace_text s (take n events))
  pub fits : All EventFits (take n events)

pub header_written : (o o' : Option (List ℕ)) (s : Sizes) (events : List Event) → Appends o o' (header_line s)
    → WritingTrace o o' s events 0
header_written o o' s events wrote =
    record { wrote = subst (λ (x : List ℕ). Appends o o' x) (sym (append-nil (header_line s))) wrote; fits = All-nil EventFits }

pub header_stopped : (o o' : Option (List ℕ)) (s : Sizes) (events : List Event) → Wrote o o' (header_line s)
    → Wrote o o' (trace_text s events)
header_stopped o o' s events wrote = Wrote-more o o' (header_line s) (events_text events) wrote

-- one event more
pub event_written : (o o' o'' : Option (List ℕ)) (s : Sizes) (events items : List Event) (n : ℕ) (e : Event)
    → items ≡ events → n < length items → e ≡ get_or items n e → WritingTrace o o' s events n → EventFits e
    → Appends o' o'' (event_line e) → WritingTrace o o'' s events (n + 1)
event_written o o' o'' s events items n e same lt is before fits line =
    let within : n < length events = subst (λ (x : List Event). n < length x) same lt in
    let more : take (n + 1) events ≡ take n events ++ (e ∷ []) =
    take_more events n e within
    ∙ ap (λ (x : Event). take n events ++ (x ∷ [])) (sym (is ∙ ap (λ (x : List Event). get_or x n e) same)) in
    let text : events_text (take (n + 1) events) ≡ events_text (take n events) ++ event_line e =
    ap events_text more ∙ flat_map-append event_line (take n events) (e ∷ [])
    ∙ ap (λ (x : List ℕ). events_text (take n events) ++ x) (append-nil (event_line e)) in
    record {
      wrote =
          subst (λ (x : List ℕ). Appends o o'' x)
          (append_assoc (header_line s) (events_text (take n events)) (event_line e)
          ∙ ap (λ (x : List ℕ). header_line s ++ x) (sym text))
          (Appends-trans o o' o'' (trace_text s (take n events)) (event_line e) before.wrote line);
      fits =
          subst (λ (x : List Event). All EventFits x) (sym more)
          (All-append EventFits (take n events) (e ∷ []) before.fits (All-cons EventFits e [] fits (All-nil EventFits)));
    }

-- one event in part
pub event_stopped : (o o' o'' : Option (List ℕ)) (s : Sizes) (events items : List Event) (n : ℕ) (e : Event)
    → items ≡ events → n < length items → e ≡ get_or items n e → WritingTrace o o' s events n
    → Wrote o' o'' (event_line e) → Wrote o o'' (trace_text s events)
event_stopped o o' o'' s events items n e same lt is before line =
    let within : n < length events = subst (λ (x : List Event). n < length x) same lt in
    let parts = around events n e within (is ∙ ap (λ (x : List Event). get_or x n e) same) in
    let text : events_text events ≡ events_text (take n events)
    ++ (event_line e ++ events_text (drop (n + 1) events)) = ap events_text parts
    ∙ flat_map-append event_line (take n events) (e ∷ drop (n + 1) events) in
    subst (λ (x : List ℕ). Wrote o o'' x)
    (append_assoc (header_line s) (events_text (take n events)) (event_line e ++ events_text (drop (n + 1) events))
    ∙ ap (λ (x : List ℕ). header_line s ++ x) (sym text))
    (Wrote-behind o o' o'' (trace_text s (take n events)) (event_line e ++ events_text (drop (n + 1) events))
    before.wrote (Wrote-more o' o'' (event_line e) (events_text (drop (n + 1) events)) line))

all_taken : (o o' : Option (List ℕ)) (s : Sizes) (events items : List Event) (n : ℕ) → items ≡ events
    → length items ≤ n → take n events ≡ events
all_taken o o' s events items n same le = take_all n events (subst (λ (x : List Event). length x ≤ n) same le)

pub all_written : (o o' : Option (List ℕ)) (s : Sizes) (events items : List Event) (n : ℕ) → items ≡ events
    → length items ≤ n → WritingTrace o o' s events n → Appends o o' (trace_text s events)
all_written o o' s events items n same le w =
    subst (λ (x : List Event). Appends o o' (trace_text s x)) (all_taken o o' s events items n same le) w.wrote

-- what was written spells the trace
pub written_is : (o o' : Option (List ℕ)) (s : Sizes) (events items : List Event) (n : ℕ) → items ≡ events
    → length items ≤ n → WritingTrace o o' s events n → AreWithinLimits s → length events ≤ 1000000 → IsTrace s events
written_is o o' s events items n same le w within few =
    let fits : All EventFits events = subst (λ (x : List Event). All EventFits x) (all_taken o o' s events items n same le) w.fits in
    record { within = within; each = fits; few = few }
