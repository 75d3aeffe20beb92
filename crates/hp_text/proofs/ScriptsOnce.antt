-- Bytes that are a script have no bad line.
use Rattle.std.proofs.Common.{◌≡◌, ℕ, ◌+◌, ◌<◌, ◌≤◌, List, [], ◌∷◌, ◌++◌, length, Option, Some, None, sym, ap}
use Rattle.std.proofs.Common.{subst, ◌∙◌, append_assoc, length-append, arith, inl, inr, ◌⊎◌}
use Rattle.std.specs.Prelude.{IfSome}
use Rattle.std.specs.List.{flat_map}
use Rattle.hp_base.specs.Text.{Sizes}
use Rattle.hp_text.specs.declared.fault.ReplayFault.{ReplayFault}
use Rattle.hp_text.specs.declared.fault.ReplayFault.TheVariants.{BadLine, BadHeader, Read, Write, Memory}
use Rattle.hp_text.specs.declared.script_lines.ScriptForm.{ScriptForm}
use Rattle.hp_text.specs.declared.script_lines.ScriptLine.{ScriptLine}
use Rattle.hp_text.specs.Traces.{AreWithinLimits, IsLineFault}
use Rattle.hp_text.specs.ScriptLines.{Head, head_at, line_in, head_text, line_text, head_line, script_line, awaited_behind}
use Rattle.hp_text.specs.ScriptLines.{awaited_after, MayStand, AreStanding, BeginsNoLine, HasLinesFault, SpellsLines, SpellsSomeLines}
use Rattle.hp_text.proofs.Options.{some_is}
use Rattle.hp_text.proofs.Ends.{line_is}
use Rattle.hp_text.proofs.ScriptReadings.{form_width, head_again, head_of, line_again, line_width}

-- equal headers are of one form and size, and what follows them is equal
same_head : (f g : ScriptForm) (s t : Sizes) (xs ys : List ℕ) → AreWithinLimits s → AreWithinLimits t
    → head_line f s ++ xs ≡ head_line g t ++ ys → (head_of f s ≡ head_of g t) × (xs ≡ ys)
same_head f g s t xs ys is of same =
    let l = line_is (head_text f s) (head_text g t) xs ys (form_width f s is).no_end (form_width g t of).no_end
    (sym (append_assoc (head_text f s) (10 ∷ []) xs) ∙ (same ∙ append_assoc (head_text g t) (10 ∷ []) ys)) in
    (some_is _ _ (sym (head_again f s is) ∙ (ap head_at l.0 ∙ head_again g t of)), l.1)

-- and equal lines are one
same_line : (form : ScriptForm) (ts : List ℕ) (l m : ScriptLine) (xs ys : List ℕ) → MayStand form ts l → MayStand form ts m
    → script_line l ++ xs ≡ script_line m ++ ys → (l ≡ m) × (xs ≡ ys)
same_line form ts l m xs ys is of same =
    let t = line_is (line_text l) (line_text m) xs ys (line_width form ts l is).no_end (line_width form ts m of).no_end
    (sym (append_assoc (line_text l) (10 ∷ []) xs) ∙ (same ∙ append_assoc (line_text m) (10 ∷ []) ys)) in
    (some_is _ _ (sym (line_again form ts l is) ∙ (ap (line_in form) t.0 ∙ line_again form ts m of)), t.1)

-- behind n lines these are the last of a bad script, and those of a whole one
no_more : (form : ScriptForm) (ts : List ℕ) (n : ℕ) (ls ms : List ScriptLine) (rest : List ℕ) → AreStanding form ts ls
    → AreStanding form ts ms → awaited_after ts ms ≡ [] → n + length ms ≤ 1000000
    → 0 < length rest + length (awaited_after ts ls) → (n + length ls ≡ 1000000) ⊎ BeginsNoLine form (awaited_after ts ls) rest
    → flat_map script_line ls ++ rest ≡ flat_map script_line ms → ⊥
no_more form ts n [] [] rest each every whole few some bad same =
    let none : length rest ≡ 0 = ap (λ (x : List ℕ). length x) same in
    let free : length ts ≡ 0 = ap (λ (x : List ℕ). length x) whole in
    omega (arith, none, free, some)
no_more form ts n [] (m ∷ ms) rest each every whole few some (inl all) same = omega (arith, all, few)
no_more form ts n [] (m ∷ ms) rest each every whole few some (inr none) same = none m (flat_map script_line ms) every.0 same
no_more form ts n (l ∷ ls) [] rest each every whole few some bad same =
    let first : length (script_line l) ≡ length (line_text l) + 1 = length-append (line_text l) (10 ∷ []) in
    let lines : length (flat_map script_line (l ∷ ls)) ≡ length (script_line l) + length (flat_map script_line ls) =
    length-append (script_line l) (flat_map script_line ls) in
    let all : length (flat_map script_line (l ∷ ls) ++ rest) ≡ length (flat_map script_line (l ∷ ls)) + length rest =
    length-append (flat_map script_line (l ∷ ls)) rest in
    let none : length (flat_map script_line (l ∷ ls) ++ rest) ≡ 0 = ap (λ (x : List ℕ). length x) same in
    omega (arith, first, lines, all, none)
no_more form ts n (l ∷ ls) (m ∷ ms) rest each every whole few some bad same =
    let next = same_line form ts l m (flat_map script_line ls ++ rest) (flat_map script_line ms) each.0 every.0
    (sym (append_assoc (script_line l) (flat_map script_line ls) rest) ∙ same) in
    let back : (x : ScriptLine) → m ≡ x → AreStanding form (awaited_behind ts m) ms → AreStanding form (awaited_behind ts x) ms =
    λ x e h. subst (λ (y : ScriptLine). AreStanding form (awaited_behind ts y) ms) e h in
    no_more form (awaited_behind ts l) (n + 1) ls ms rest each.1 (back l (sym next.0) every.1)
    (ap (λ (x : ScriptLine). awaited_after (awaited_behind ts x) ms) next.0 ∙ whole) (omega (arith, few)) some
    (subst (λ (k : ℕ). (k ≡ 1000000) ⊎ BeginsNoLine form (awaited_after ts (l ∷ ls)) rest) (omega arith) bad) next.1

pub no_lines_fault : (bytes : List ℕ) (fault : ReplayFault) (form : ScriptForm) (s : Sizes) (lines : List ScriptLine) → IsLineFault fault
    → HasLinesFault bytes fault → SpellsLines bytes form s lines → ⊥
no_lines_fault bytes BadHeader form s lines is bad spells = bad form s (flat_map script_line lines) spells.script.within spells.text
no_lines_fault bytes (BadLine n) form s lines is bad spells =
    let h = same_head bad.form form bad.sizes s (flat_map script_line bad.lines ++ bad.rest) (flat_map script_line lines)
    bad.script.within spells.script.within
    (sym (append_assoc (head_line bad.form bad.sizes) (flat_map script_line bad.lines) bad.rest) ∙ (sym bad.parts ∙ spells.text)) in
    let forms : form ≡ bad.form = ap (λ (x : Head). x.form) (sym h.0) in
    no_more bad.form [] 0 bad.lines lines bad.rest bad.script.each
    (subst (λ (f : ScriptForm). AreStanding f [] lines) forms spells.script.each) spells.whole
    (omega (arith, spells.script.few)) bad.bad.0
    (subst (λ (k : ℕ). (k ≡ 1000000) ⊎ BeginsNoLine bad.form (awaited_after [] bad.lines) bad.rest) (omega arith) bad.bad.1) h.1
no_lines_fault bytes Read form s lines is bad spells = absurd is
no_lines_fault bytes Write form s lines is bad spells = absurd is
no_lines_fault bytes Memory form s lines is bad spells = absurd is

pub no_script : (from : Option (List ℕ)) (fault : ReplayFault) → IfSome from (λ bytes. HasLinesFault bytes fault)
    → IsLineFault fault → IfSome from (λ bytes. ¬ (SpellsSomeLines bytes))
no_script None fault bad is = tt
no_script (Some all) fault bad is = λ (s : SpellsSomeLines all). no_lines_fault all fault s.form s.sizes s.lines is bad s.spells
