-- A script of the plain form is a trace of begins alone, and the other way round.
use Rattle.std.proofs.Common.{◌≡◌, ℕ, suc, ◌+◌, List, [], ◌∷◌, ◌++◌, length, map, refl, sym, ap, ◌∙◌, arith}
use Rattle.std.specs.Prelude.{All}
use Rattle.std.specs.List.{flat_map}
use Rattle.std.proofs.lemmas.List.Elements.{All-nil, All-cons}
use Rattle.hp_base.specs.Text.{Sizes}
use Rattle.hp_base.specs.declared.event.Op.{Op}
use Rattle.hp_base.specs.declared.event.Event.TheVariants.{Begin}
use Rattle.hp_text.specs.declared.script_lines.ScriptForm.TheVariants.{Plain}
use Rattle.hp_text.specs.declared.script_lines.ScriptLine.{ScriptLine}
use Rattle.hp_text.specs.declared.script_lines.ScriptLine.TheVariants.{Call, After}
use Rattle.hp_text.specs.Fits.{EventFits}
use Rattle.hp_text.specs.Traces.{event_line, events_text, header_line}
use Rattle.hp_text.specs.Scripts.{begin_of, SpellsScript}
use Rattle.hp_text.specs.ScriptLines.{AreStanding, SpellsLines, awaited_after, calls_in, call_line, script_line, waits_from}
use Rattle.hp_text.proofs.OneReading.{first_is}

-- the lines are the begins of their calls, and there are no others
plain_text : (ts : List ℕ) (lines : List ScriptLine) → AreStanding Plain ts lines
    → flat_map script_line lines ≡ events_text (map begin_of (calls_in lines))
plain_text ts [] are = refl
plain_text ts (Call task op ∷ lines) are = ap (λ (x : List ℕ). event_line (Begin task op) ++ x) (plain_text [] lines are.1)
plain_text ts (After task ∷ lines) are = absurd are.0

plain_fits : (ts : List ℕ) (lines : List ScriptLine) → AreStanding Plain ts lines → All EventFits (map begin_of (calls_in lines))
plain_fits ts [] are = All-nil EventFits
plain_fits ts (Call task op ∷ lines) are =
    All-cons EventFits (Begin task op) (map begin_of (calls_in lines)) are.0.0 (plain_fits [] lines are.1)
plain_fits ts (After task ∷ lines) are = absurd are.0

plain_count : (ts : List ℕ) (lines : List ScriptLine) → AreStanding Plain ts lines
    → length (map begin_of (calls_in lines)) ≡ length lines
plain_count ts [] are = refl
plain_count ts (Call task op ∷ lines) are = ap suc (plain_count [] lines are.1)
plain_count ts (After task ∷ lines) are = absurd are.0

no_waits : (n : ℕ) (ts : List ℕ) (lines : List ScriptLine) → AreStanding Plain ts lines → waits_from n lines ≡ []
no_waits n ts [] are = refl
no_waits n ts (Call task op ∷ lines) are = no_waits (n + 1) [] lines are.1
no_waits n ts (After task ∷ lines) are = absurd are.0

pub plain_spells : (bytes : List ℕ) (s : Sizes) (lines : List ScriptLine) → SpellsLines bytes Plain s lines
    → SpellsScript bytes s (calls_in lines)
plain_spells bytes s lines h = record {
  text = h.text ∙ ap (λ (x : List ℕ). header_line s ++ x) (plain_text [] lines h.script.each);
  trace = record {
    within = h.script.within;
    each = plain_fits [] lines h.script.each;
    few = omega (arith, h.script.few, plain_count [] lines h.script.each);
  };
}

pub plain_waits : (bytes : List ℕ) (s : Sizes) (lines : List ScriptLine) → SpellsLines bytes Plain s lines → waits_from 0 lines ≡ []
plain_waits bytes s lines h = no_waits 0 [] lines h.script.each

-- the begins of calls are lines of the plain form
lines_text : (calls : List (ℕ × Op)) → flat_map script_line (map call_line calls) ≡ events_text (map begin_of calls)
lines_text [] = refl
lines_text (c ∷ calls) = ap (λ (x : List ℕ). event_line (begin_of c) ++ x) (lines_text calls)

lines_stand : (calls : List (ℕ × Op)) → All EventFits (map begin_of calls) → AreStanding Plain [] (map call_line calls)
lines_stand [] each = tt
lines_stand (c ∷ calls) each =
    let p = first_is (begin_of c) (map begin_of calls) each in ((p.0, refl), lines_stand calls p.1)

lines_long : (calls : List (ℕ × Op)) → length (map call_line calls) ≡ length (map begin_of calls)
lines_long [] = refl
lines_long (c ∷ calls) = ap suc (lines_long calls)

lines_whole : (calls : List (ℕ × Op)) → awaited_after [] (map call_line calls) ≡ []
lines_whole [] = refl
lines_whole (c ∷ calls) = lines_whole calls

pub trace_spells : (bytes : List ℕ) (s : Sizes) (calls : List (ℕ × Op)) → SpellsScript bytes s calls
    → SpellsLines bytes Plain s (map call_line calls)
trace_spells bytes s calls h = record {
  text = h.text ∙ ap (λ (x : List ℕ). header_line s ++ x) (sym (lines_text calls));
  script = record {
    within = h.trace.within;
    each = lines_stand calls h.trace.each;
    few = omega (arith, h.trace.few, lines_long calls);
  };
  whole = lines_whole calls;
}
