-- A line of a script that is read is spelled so, and what is spelled so is read.
use Rattle.std.proofs.Common.{◌≡◌, ℕ, List, ◌++◌, Option, Some, None, refl, sym, ap}
use Rattle.std.proofs.Common.{subst, ◌∙◌, arith, inl, inr}
use Rattle.std.specs.Prelude.{codes}
use Rattle.std.specs.Option.{option_map}
use Rattle.hp_base.specs.Text.{Sizes, event_text}
use Rattle.hp_base.specs.declared.event.Event.{Event}
use Rattle.hp_base.specs.declared.event.Event.TheVariants.{Begin, Step, Kill, Resize}
use Rattle.hp_text.specs.declared.script_lines.ScriptForm.{ScriptForm}
use Rattle.hp_text.specs.declared.script_lines.ScriptForm.TheVariants.{Plain, Waiting}
use Rattle.hp_text.specs.declared.script_lines.ScriptLine.{ScriptLine}
use Rattle.hp_text.specs.declared.script_lines.ScriptLine.TheVariants.{Call, After}
use Rattle.hp_text.specs.Fits.{IsShort, EventFits}
use Rattle.hp_text.specs.Reading.{◌>>=◌, last_at, event_at, header_behind, option_or}
use Rattle.hp_text.specs.Traces.{AreWithinLimits}
use Rattle.hp_text.specs.ScriptLines.{Head, head_at, head_text, line_text, call_of, call_at, line_in, MayStand}
use Rattle.hp_text.proofs.Options.{none_some, some_is}
use Rattle.hp_text.proofs.Numbers.{bind_some}
use Rattle.hp_text.proofs.Lines.{numbers, numbers_are, behind_takes, behind_again, behind_some, last_takes, last_again, event_takes}
use Rattle.hp_text.proofs.Lines.{event_again}
use Rattle.hp_text.proofs.Widths.{IsInLine, head_width, event_width, short_word, step_width}

-- ---- the header

abbrev pub head_of : ScriptForm → Sizes → Head
head_of form s = record { form = form; sizes = s }

abbrev word_of : ScriptForm → List ℕ
word_of Plain = codes "pool "
word_of Waiting = codes "script "

head_is : (form : ScriptForm) (s : Sizes) → head_text form s ≡ word_of form ++ numbers s
head_is Plain s = ap (λ (t : List ℕ). codes "pool " ++ t) (numbers_are s)
head_is Waiting s = ap (λ (t : List ℕ). codes "script " ++ t) (numbers_are s)

pub head_takes : (bytes : List ℕ) (h : Head) → head_at bytes ≡ Some h → (bytes ≡ head_text h.form h.sizes) × AreWithinLimits h.sizes
head_takes bytes h e =
    by (header_behind (codes "pool ") bytes) (header_behind (codes "script ") bytes) refl refl e
  where
    spelled : (form : ScriptForm) (s : Sizes) → header_behind (word_of form) bytes ≡ Some s → head_of form s ≡ h
        → (bytes ≡ head_text h.form h.sizes) × AreWithinLimits h.sizes
    spelled form s is same =
        let t = behind_takes (word_of form) bytes s is in
        subst (λ (x : Head). (bytes ≡ head_text x.form x.sizes) × AreWithinLimits x.sizes) same
        (t.0 ∙ sym (head_is form s), t.1)

    by : (p q : Option Sizes) → header_behind (codes "pool ") bytes ≡ p → header_behind (codes "script ") bytes ≡ q
        → option_or (option_map (head_of Plain) p) (option_map (head_of Waiting) q) ≡ Some h
        → (bytes ≡ head_text h.form h.sizes) × AreWithinLimits h.sizes
    by (Some s) q is other e = spelled Plain s is (some_is _ _ e)
    by None (Some s) none is e = spelled Waiting s is (some_is _ _ e)
    by None None none other e = absurd (none_some e)

pub head_again : (form : ScriptForm) (s : Sizes) → AreWithinLimits s → head_at (head_text form s) ≡ Some (head_of form s)
unfolding header_behind
head_again Plain s within =
    ap head_at (head_is Plain s)
    ∙ ap (λ (p : Option Sizes). option_or (option_map (head_of Plain) p)
    (option_map (head_of Waiting) (header_behind (codes "script ") (codes "pool " ++ numbers s))))
    (behind_again (codes "pool ") (codes "pool " ++ numbers s) s refl within)
head_again Waiting s within =
    ap head_at (head_is Waiting s)
    ∙ ap (λ (p : Option Sizes). option_or None (option_map (head_of Waiting) p))
    (behind_again (codes "script ") (codes "script " ++ numbers s) s refl within)

pub form_width : (form : ScriptForm) (s : Sizes) → AreWithinLimits s → IsInLine 56 (head_text form s)
form_width Plain s within = head_width (codes "pool") (short_word (codes "pool") (omega arith) refl) s within
form_width Waiting s within = head_width (codes "script") (short_word (codes "script") (omega arith) refl) s within

-- ---- the lines behind it

-- the line's numbers fit, and the form has such lines
abbrev pub LineFits : ScriptForm → ScriptLine → Type 0
LineFits Plain (Call task op) = EventFits (Begin task op)
LineFits Plain (After task) = ⊥
LineFits Waiting (Call task op) = EventFits (Begin task op)
LineFits Waiting (After task) = IsShort task

-- a call that is read is spelled so, in either form
SpellsCall : List ℕ → ScriptLine → Type 0
SpellsCall bytes (Call task op) = (bytes ≡ event_text (Begin task op)) × EventFits (Begin task op)
SpellsCall bytes (After task) = ⊥

call_takes : (bytes : List ℕ) (line : ScriptLine) → call_at bytes ≡ Some line → SpellsCall bytes line
unfolding SpellsCall
call_takes bytes line e =
    let a = bind_some (event_at bytes) call_of line e in
    by a.0 (event_takes bytes a.0 a.1) a.2
  where
    by : (event : Event) → (bytes ≡ event_text event) × EventFits event → call_of event ≡ Some line → SpellsCall bytes line
    by (Begin task op) t is = subst (λ (x : ScriptLine). SpellsCall bytes x) (some_is _ _ is) t
    by (Step task granted) t is = absurd (none_some is)
    by (Kill task) t is = absurd (none_some is)
    by (Resize frames) t is = absurd (none_some is)

of_call : (form : ScriptForm) (bytes : List ℕ) (line : ScriptLine) → SpellsCall bytes line
    → (bytes ≡ line_text line) × LineFits form line
unfolding SpellsCall
of_call Plain bytes (Call task op) t = t
of_call Plain bytes (After task) t = absurd t
of_call Waiting bytes (Call task op) t = t
of_call Waiting bytes (After task) t = absurd t

pub line_takes : (form : ScriptForm) (bytes : List ℕ) (line : ScriptLine) → line_in form bytes ≡ Some line
    → (bytes ≡ line_text line) × LineFits form line
line_takes Plain bytes line e = of_call Plain bytes line (call_takes bytes line e)
line_takes Waiting bytes line e =
    elim (behind_some (codes "after ") bytes (λ rest. last_at rest >>= λ task. Some (After task)) (call_at bytes) line e) [
      | inl found ↦ waits found.0 found.1 found.2
      | inr other ↦ of_call Waiting bytes line (call_takes bytes line other)
    ]
  where
    waits : (rest : List ℕ) → bytes ≡ codes "after " ++ rest → (last_at rest >>= λ task. Some (After task)) ≡ Some line
        → (bytes ≡ line_text line) × LineFits Waiting line
    waits rest is read =
        let a = bind_some (last_at rest) (λ task. Some (After task)) line read in
        let t = last_takes rest a.0 a.1 in
        subst (λ (x : ScriptLine). (bytes ≡ line_text x) × LineFits Waiting x) (some_is _ _ a.2)
        (is ∙ ap (λ (x : List ℕ). codes "after " ++ x) t.0, t.1)

pub line_again : (form : ScriptForm) (awaited : List ℕ) (line : ScriptLine) → MayStand form awaited line
    → line_in form (line_text line) ≡ Some line
line_again Plain awaited (Call task op) is = ap (λ (o : Option Event). o >>= call_of) (event_again (Begin task op) is.0)
line_again Plain awaited (After task) is = absurd is
line_again Waiting awaited (Call task op) is = ap (λ (o : Option Event). o >>= call_of) (event_again (Begin task op) is.0)
line_again Waiting awaited (After task) is =
    ap (λ (o : Option ℕ). o >>= λ task. Some (After task)) (last_again task is)

pub line_width : (form : ScriptForm) (awaited : List ℕ) (line : ScriptLine) → MayStand form awaited line
    → IsInLine 56 (line_text line)
line_width Plain awaited (Call task op) is = event_width (Begin task op) is.0
line_width Plain awaited (After task) is = absurd is
line_width Waiting awaited (Call task op) is = event_width (Begin task op) is.0
line_width Waiting awaited (After task) is = step_width (codes "after") task (short_word (codes "after") (omega arith) refl) is
