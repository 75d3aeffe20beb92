-- What bytes of a script were taken: the lines that they are, or their first bad line.
use Rattle.std.proofs.Common.{◌≡◌, ℕ, zero, suc, ◌+◌, ◌<◌, ◌≤◌, true, false, List, [], ◌∷◌, ◌++◌, length, Option, Some, None, refl}
use Rattle.std.proofs.Common.{sym, ap}
use Rattle.std.proofs.Common.{subst, ◌∙◌, append_assoc, length-append, arith, inl, inr, ◌⊎◌}
use Rattle.std.specs.Prelude.{Bool, not, ◌==◌, if◌then◌else◌, slice_index_or, IfSome, Result, Ok, Err, IfOk, IfErr, OnOk}
use Rattle.std.specs.List.{flat_map}
use Rattle.std.specs.List.Sorted.{IsNonDecreasingBy}
use Rattle.std.specs.Option.{option_map}
use Rattle.std.specs.Io.KnownBytes.{Consumes, IsAtEnd}
use Rattle.std.proofs.KnownBytes.{Consumes-nil, Consumes-trans}
use Rattle.std.proofs.lemmas.List.{append-nil}
use Rattle.std.proofs.lemmas.Bool.{eqb-true, eq-eqb}
use Rattle.std.proofs.lemmas.Grind.{flat_map-append}
use Rattle.hp_base.specs.Text.{Sizes}
use Rattle.hp_base.specs.declared.event.Op.{Op}
use Rattle.hp_text.specs.declared.fault.ReplayFault.{ReplayFault}
use Rattle.hp_text.specs.declared.fault.ReplayFault.TheVariants.{BadLine, BadHeader, Read, Write, Memory}
use Rattle.hp_text.specs.declared.script.Wait.{Wait}
use Rattle.hp_text.specs.declared.script_lines.ScriptForm.{ScriptForm}
use Rattle.hp_text.specs.declared.script_lines.ScriptForm.TheVariants.{Plain, Waiting}
use Rattle.hp_text.specs.declared.script_lines.ScriptLine.{ScriptLine}
use Rattle.hp_text.specs.declared.script_lines.ScriptLine.TheVariants.{Call, After}
use Rattle.hp_text.specs.Traces.{HasNoEnd}
use Rattle.hp_text.specs.Streams.{source_at}
use Rattle.hp_text.specs.ScriptLines.{calls_in, wait_of, waits_from, awaited_behind, awaited_after, head_text, line_text, head_line}
use Rattle.hp_text.specs.ScriptLines.{script_line, script_text, is_awaited, MayStand, AreStanding, AreOfScript, ReadsScript, BeginsNoHead}
use Rattle.hp_text.specs.ScriptLines.{BeginsNoLine, HasLinesFault, Head, head_at, line_in, ScriptState, opening_script}
use Rattle.hp_text.specs.ScriptLines.{lines_of, headed_fault, next_fault, may_come, next_line, with_line, with_head, ended_line}
use Rattle.hp_text.specs.ScriptTaking.{TookLines, TookNoLine, Took, Takes, FaultsAt, IsTakeFault, IsCut, IsWholeAs}
use Rattle.hp_text.proofs.Options.{none_some, some_is}
use Rattle.hp_text.proofs.Numbers.{bind_some, chosen}
use Rattle.hp_text.proofs.Ends.{HasNoEnd-append, line_is, no_line_within}
use Rattle.hp_text.proofs.ScriptReadings.{LineFits, form_width, head_again, head_of, head_takes, line_again, line_takes, line_width}

-- ---- what follows of an answer follows of what it says

pub of_ok : {A E : Type 0} {P Q : A → Type 0} (r : Result A E) → ((x : A) → P x → Q x) → IfOk r P → IfOk r Q
of_ok (Ok x) f h = f x h
of_ok (Err e) f h = tt

pub of_err : {A E : Type 0} {P Q : E → Type 0} (r : Result A E) → ((e : E) → P e → Q e) → IfErr r P → IfErr r Q
of_err (Ok x) f h = tt
of_err (Err e) f h = f e h

pub on_ok : {A E : Type 0} {P Q : Type 0} (r : Result A E) → (P → Q) → OnOk r P → OnOk r Q
on_ok (Ok x) f h = f h
on_ok (Err e) f h = tt

-- ---- a line more

calls_more : (lines : List ScriptLine) (line : ScriptLine) → calls_in (lines ++ line ∷ []) ≡ calls_in lines ++ calls_in (line ∷ [])
calls_more [] line = refl
calls_more (Call task op ∷ lines) line = ap (λ (cs : List (ℕ × Op)). (task, op) ∷ cs) (calls_more lines line)
calls_more (After task ∷ lines) line = calls_more lines line

waits_more : (n : ℕ) (lines : List ScriptLine) (line : ScriptLine)
    → waits_from n (lines ++ line ∷ []) ≡ waits_from n lines ++ waits_from (n + length (calls_in lines)) (line ∷ [])
waits_more n [] line = ap (λ (k : ℕ). waits_from k (line ∷ [])) (omega arith)
waits_more n (Call task op ∷ lines) line =
    waits_more (n + 1) lines line
    ∙ ap (λ (k : ℕ). waits_from (n + 1) lines ++ waits_from k (line ∷ [])) (omega arith)
waits_more n (After task ∷ lines) line = ap (λ (ws : List Wait). wait_of n task ∷ ws) (waits_more n lines line)

awaited_more : (ts : List ℕ) (lines : List ScriptLine) (line : ScriptLine)
    → awaited_after ts (lines ++ line ∷ []) ≡ awaited_behind (awaited_after ts lines) line
awaited_more ts [] line = refl
awaited_more ts (l ∷ lines) line = awaited_more (awaited_behind ts l) lines line

standing_more : (form : ScriptForm) (ts : List ℕ) (lines : List ScriptLine) (line : ScriptLine) → AreStanding form ts lines
    → MayStand form (awaited_after ts lines) line → AreStanding form ts (lines ++ line ∷ [])
standing_more form ts [] line before is = (is, tt)
standing_more form ts (l ∷ lines) line before is = (before.0, standing_more form (awaited_behind ts l) lines line before.1 is)

-- as many lines as calls and waits
count : (n : ℕ) (lines : List ScriptLine) → length lines ≡ length (calls_in lines) + length (waits_from n lines)
count n [] = refl
count n (Call task op ∷ lines) = omega (arith, count (n + 1) lines)
count n (After task ∷ lines) = omega (arith, count n lines)

-- the waits are in the order of their calls
above : (n : ℕ) (lines : List ScriptLine) (j : ℕ) (d : Wait) → j < length (waits_from n lines)
    → n ≤ (slice_index_or (waits_from n lines) j d).call
above n [] j d within = absurd (omega (arith, within))
above n (Call task op ∷ lines) j d within = omega (arith, above (n + 1) lines j d within)
above n (After task ∷ lines) zero d within = omega arith
above n (After task ∷ lines) (suc j) d within = above n lines j d (omega (arith, within))

in_order : (n : ℕ) (lines : List ScriptLine) → IsNonDecreasingBy (λ (w : Wait). w.call) (waits_from n lines)
in_order n [] i j d le within = absurd (omega (arith, within))
in_order n (Call task op ∷ lines) i j d le within = in_order (n + 1) lines i j d le within
in_order n (After task ∷ lines) zero zero d le within = omega arith
in_order n (After task ∷ lines) zero (suc j) d le within = above n lines j d (omega (arith, within))
in_order n (After task ∷ lines) (suc i) zero d le within = absurd (omega (arith, le))
in_order n (After task ∷ lines) (suc i) (suc j) d le within = in_order n lines i j d (omega (arith, le)) (omega (arith, within))

-- ---- what was taken

counted : (bytes : List ℕ) (d : ScriptState) (t : TookLines bytes d) → length t.lines ≡ lines_of d
counted bytes d t =
    let calls = ap (λ (cs : List (ℕ × Op)). length cs) t.calls in
    let waits = ap (λ (ws : List Wait). length ws) t.waits in
    omega (arith, count 0 t.lines, calls, waits)

pub begins : Took [] opening_script
begins = (refl, inl (record { headless = refl; text = refl; calls = refl; waits = refl; awaited = refl }))

pub took_in_order : (bytes : List ℕ) (d : ScriptState) → Took bytes d → IsNonDecreasingBy (λ (w : Wait). w.call) d.waits
took_in_order bytes d (no_end, inl t) = subst (λ (ws : List Wait). IsNonDecreasingBy (λ (w : Wait). w.call) ws) (sym t.waits)
    (in_order 0 [])
took_in_order bytes d (no_end, inr t) = subst (λ (ws : List Wait). IsNonDecreasingBy (λ (w : Wait). w.call) ws) t.waits (in_order 0 t.lines)

-- more of a line
pub extends : (d : ScriptState) (more : List ℕ) (e : ScriptState) → HasNoEnd more → e ≡ record d { rest = d.rest ++ more } → Takes d more e
extends d more e inside is bytes (no_end, inl t) =
    subst (λ (x : ScriptState). Took (bytes ++ more) x) (sym is) (
      HasNoEnd-append d.rest more no_end inside,
      inl (record {
        headless = t.headless;
        text = ap (λ (x : List ℕ). x ++ more) t.text;
        calls = t.calls;
        waits = t.waits;
        awaited = t.awaited;
      }),
    )
extends d more e inside is bytes (no_end, inr t) =
    subst (λ (x : ScriptState). Took (bytes ++ more) x) (sym is) (
      HasNoEnd-append d.rest more no_end inside,
      inr (record {
        head = t.head;
        lines = t.lines;
        headed = t.headed;
        text = ap (λ (x : List ℕ). x ++ more) t.text ∙ append_assoc (script_text t.head.form t.head.sizes t.lines) d.rest more;
        script = t.script;
        calls = t.calls;
        waits = t.waits;
        awaited = t.awaited;
      }),
    )

-- the value that was mapped
mapped : {A B : Type 0} (f : A → B) (o : Option A) (y : B) → option_map f o ≡ Some y → (x : A) × (o ≡ Some x) × (f x ≡ y)
mapped f None y e = absurd (none_some e)
mapped f (Some x) y e = (x, refl, some_is _ _ e)

unmapped : {A B : Type 0} (f : A → B) (o : Option A) → option_map f o ≡ None → o ≡ None
unmapped f None e = refl
unmapped f (Some x) e = absurd (none_some (sym e))

-- a header ends
head_ends : (bytes : List ℕ) (d e : ScriptState) → Took bytes d → d.head ≡ None → ended_line None d ≡ Some e → Took (bytes ++ 10 ∷ []) e
head_ends bytes d e (no_end, inr t) none ended = absurd (none_some (sym none ∙ t.headed))
head_ends bytes d e (no_end, inl t) none ended =
    let m = mapped (with_head d) (head_at d.rest) e ended in
    let h = m.0 in
    let read = head_takes d.rest h m.1 in
    subst (λ (x : ScriptState). Took (bytes ++ 10 ∷ []) x) m.2 (
      refl,
      inr (record {
        head = h;
        lines = [];
        headed = refl;
        text =
            ap (λ (x : List ℕ). x ++ 10 ∷ []) (t.text ∙ read.0)
            ∙ (sym (append-nil (head_line h.form h.sizes)) ∙ sym (append-nil (head_line h.form h.sizes ++ [])));
        script = record { within = read.1; each = tt; few = omega arith };
        calls = sym t.calls;
        waits = sym t.waits;
        awaited = sym t.awaited;
      }),
    )

-- the line that comes next
pub record IsNext (d : ScriptState) (form : ScriptForm) (line : ScriptLine) : Type 0 where
  pub few : (lines_of d == 1000000) ≡ false
  pub read : line_in form d.rest ≡ Some line
  pub comes : may_come d.awaited line ≡ true

is_next : (d : ScriptState) (form : ScriptForm) (line : ScriptLine) → next_line d form ≡ Some line → IsNext d form line
is_next d form line e = elim (chosen (lines_of d == 1000000) _ _ _ e) [
  | inl w ↦ absurd (none_some w.1)
  | inr w ↦ reads (bind_some (line_in form d.rest) (λ line. if may_come d.awaited line then Some line else None) line w.1) w.0
]
  where
    reads : (x : ScriptLine) × (line_in form d.rest ≡ Some x) × ((if may_come d.awaited x then Some x else None) ≡ Some line)
        → (lines_of d == 1000000) ≡ false → IsNext d form line
    reads (x, read, test) few = elim (chosen (may_come d.awaited x) _ _ _ test) [
      | inl w ↦ (let same : x ≡ line = some_is _ _ w.1 in record {
        few = few;
        read = read ∙ ap Some same;
        comes = ap (λ (l : ScriptLine). may_come d.awaited l) (sym same) ∙ w.0;
      })
      | inr w ↦ absurd (none_some w.1)
    ]

-- it may stand there
stands : (form : ScriptForm) (awaited : List ℕ) (line : ScriptLine) → LineFits form line → may_come awaited line ≡ true
    → MayStand form awaited line
stands Plain awaited (Call task op) fits comes = (fits, free (is_awaited awaited task) comes)
  where
    free : (b : Bool) → not b ≡ true → b ≡ false
    free false e = refl
    free true e = absurd (cc)
stands Plain awaited (After task) fits comes = absurd fits
stands Waiting awaited (Call task op) fits comes = (fits, free (is_awaited awaited task) comes)
  where
    free : (b : Bool) → not b ≡ true → b ≡ false
    free false e = refl
    free true e = absurd (cc)
stands Waiting awaited (After task) fits comes = fits

-- and where it may, it comes
comes_there : (form : ScriptForm) (awaited : List ℕ) (line : ScriptLine) → MayStand form awaited line → may_come awaited line ≡ true
comes_there Plain awaited (Call task op) is = ap not is.1
comes_there Plain awaited (After task) is = absurd is
comes_there Waiting awaited (Call task op) is = ap not is.1
comes_there Waiting awaited (After task) is = refl

-- what is left of the state with a line more
line_rest : (d : ScriptState) (line : ScriptLine) → (with_line d line).rest ≡ []
line_rest d (Call task op) = refl
line_rest d (After task) = refl

line_head : (d : ScriptState) (line : ScriptLine) → (with_line d line).head ≡ d.head
line_head d (Call task op) = refl
line_head d (After task) = refl

line_calls : (d : ScriptState) (line : ScriptLine) → d.calls ++ calls_in (line ∷ []) ≡ (with_line d line).calls
line_calls d (Call task op) = refl
line_calls d (After task) = append-nil d.calls

line_waits : (d : ScriptState) (line : ScriptLine) → d.waits ++ waits_from (length d.calls) (line ∷ []) ≡ (with_line d line).waits
line_waits d (Call task op) = append-nil d.waits
line_waits d (After task) = refl

line_awaited : (d : ScriptState) (line : ScriptLine) → awaited_behind d.awaited line ≡ (with_line d line).awaited
line_awaited d (Call task op) = refl
line_awaited d (After task) = refl

-- a line ends
line_ends : (bytes : List ℕ) (d : ScriptState) (t : TookLines bytes d) (line : ScriptLine) → IsNext d t.head.form line
    → TookLines (bytes ++ 10 ∷ []) (with_line d line)
line_ends bytes d t line next =
    let form = t.head.form in
    let s = t.head.sizes in
    let read = line_takes form d.rest line next.read in
    let few = t.script.few in
    let not_all = not_eq (lines_of d) 1000000 next.few in
    let long : length (t.lines ++ line ∷ []) ≡ length t.lines + 1 = length-append t.lines (line ∷ []) in
    let lines_text : flat_map script_line (t.lines ++ line ∷ []) ≡ flat_map script_line t.lines ++ script_line line =
    flat_map-append script_line t.lines (line ∷ [])
    ∙ ap (λ (x : List ℕ). flat_map script_line t.lines ++ x) (append-nil (script_line line)) in
    record {
      head = t.head;
      lines = t.lines ++ line ∷ [];
      headed = line_head d line ∙ t.headed;
      text =
          ap (λ (x : List ℕ). x ++ 10 ∷ []) (t.text ∙ ap (λ (x : List ℕ). script_text form s t.lines ++ x) read.0)
          ∙ (append_assoc (script_text form s t.lines) (line_text line) (10 ∷ [])
          ∙ (append_assoc (head_line form s) (flat_map script_line t.lines) (script_line line)
          ∙ (ap (λ (x : List ℕ). head_line form s ++ x) (sym lines_text)
          ∙ (sym (append-nil (script_text form s (t.lines ++ line ∷ [])))
          ∙ ap (λ (x : List ℕ). script_text form s (t.lines ++ line ∷ []) ++ x) (sym (line_rest d line))))));
      script = record {
        within = t.script.within;
        each =
            standing_more form [] t.lines line t.script.each
            (subst (λ (ts : List ℕ). MayStand form ts line) (sym t.awaited) (stands form d.awaited line read.1 next.comes));
        few = omega (arith, few, long, counted bytes d t, not_all);
      };
      calls = calls_more t.lines line ∙ (ap (λ (cs : List (ℕ × Op)). cs ++ calls_in (line ∷ [])) t.calls ∙ line_calls d line);
      waits =
          waits_more 0 t.lines line
          ∙ (ap (λ (ws : List Wait). ws ++ waits_from (0 + length (calls_in t.lines)) (line ∷ [])) t.waits
          ∙ (ap (λ (n : ℕ). d.waits ++ waits_from n (line ∷ [])) (omega arith)
          ∙ (ap (λ (cs : List (ℕ × Op)). d.waits ++ waits_from (length cs) (line ∷ [])) t.calls ∙ line_waits d line)));
      awaited = awaited_more [] t.lines line ∙ (ap (λ (ts : List ℕ). awaited_behind ts line) t.awaited ∙ line_awaited d line);
    }
  where
    differs : {b : Bool} → b ≡ false → b ≡ true → ⊥
    differs e f = cc

    not_eq : (m n : ℕ) → (m == n) ≡ false → (m ≡ n → ⊥)
    not_eq m n e same = differs e (eq-eqb m n same)

pub ends : (d e : ScriptState) → ended_line d.head d ≡ Some e → Takes d (10 ∷ []) e
ends d e ended bytes (no_end, inl t) =
    head_ends bytes d e (no_end, inl t) t.headless (subst (λ (o : Option Head). ended_line o d ≡ Some e) t.headless ended)
ends d e ended bytes (no_end, inr t) =
    let m = mapped (with_line d) (next_line d t.head.form) e (subst (λ (o : Option Head). ended_line o d ≡ Some e) t.headed ended) in
    subst (λ (x : ScriptState). Took (bytes ++ 10 ∷ []) x) m.2
    (subst (λ (x : List ℕ). HasNoEnd x) (sym (line_rest d m.0)) refl, inr (line_ends bytes d t m.0 (is_next d t.head.form m.0 m.1)))

-- ---- where no line comes

-- the fault behind the lines that were taken
fault_here : (bytes : List ℕ) (d : ScriptState) (t : TookLines bytes d) (more : List ℕ)
    → 0 < length (d.rest ++ more) + length d.awaited
    → (lines_of d ≡ 1000000) ⊎ BeginsNoLine t.head.form d.awaited (d.rest ++ more) → HasLinesFault (bytes ++ more) (next_fault d)
fault_here bytes d t more some none =
    subst (λ (o : Option Head). HasLinesFault (bytes ++ more) (headed_fault o (lines_of d))) (sym t.headed)
    (record {
      form = t.head.form;
      sizes = t.head.sizes;
      lines = t.lines;
      rest = d.rest ++ more;
      parts =
          ap (λ (x : List ℕ). x ++ more) t.text ∙ append_assoc (script_text t.head.form t.head.sizes t.lines) d.rest more;
      script = t.script;
      number = omega (arith, counted bytes d t);
      bad = (
        subst (λ (ts : List ℕ). 0 < length (d.rest ++ more) + length ts) (sym t.awaited) some,
        subst (λ (ts : List ℕ). (length t.lines ≡ 1000000) ⊎ BeginsNoLine t.head.form ts (d.rest ++ more)) (sym t.awaited)
            (subst (λ (k : ℕ). (k ≡ 1000000) ⊎ BeginsNoLine t.head.form d.awaited (d.rest ++ more)) (sym (counted bytes d t)) none),
      );
    })

-- or where no header was
fault_before : (bytes : List ℕ) (d : ScriptState) → TookNoLine bytes d → (more : List ℕ) → BeginsNoHead (d.rest ++ more)
    → HasLinesFault (bytes ++ more) (next_fault d)
fault_before bytes d t more none =
    subst (λ (o : Option Head). HasLinesFault (bytes ++ more) (headed_fault o (lines_of d))) (sym t.headless)
    (subst (λ (x : List ℕ). BeginsNoHead (x ++ more)) (sym t.text) none)

-- the text of a line and its end, put together otherwise
line_first : (bytes text more : List ℕ) → bytes ≡ (text ++ 10 ∷ []) ++ more → bytes ≡ text ++ 10 ∷ more
line_first bytes text more e = e ∙ append_assoc text (10 ∷ []) more

-- a whole line that is none
unread_head : (d : ScriptState) (back : List ℕ) → HasNoEnd d.rest → head_at d.rest ≡ None → BeginsNoHead (d.rest ++ 10 ∷ back)
unread_head d back no_end none form s more within same =
    let is = line_is d.rest (head_text form s) back more no_end (form_width form s within).no_end
    (line_first _ (head_text form s) more same) in
    none_some (sym none ∙ (ap head_at is.0 ∙ head_again form s within))

unread_line : (d : ScriptState) (form : ScriptForm) (back : List ℕ) → HasNoEnd d.rest → next_line d form ≡ None
    → (lines_of d ≡ 1000000) ⊎ BeginsNoLine form d.awaited (d.rest ++ 10 ∷ back)
unread_line d form back no_end none = by (lines_of d == 1000000) refl
  where
    by : (all : Bool) → (lines_of d == 1000000) ≡ all → (lines_of d ≡ 1000000) ⊎ BeginsNoLine form d.awaited (d.rest ++ 10 ∷ back)
    by true e = inl (eqb-true _ _ e)
    by false e = inr (λ line more may same.
        let is = line_is d.rest (line_text line) back more no_end (line_width form d.awaited line may).no_end
        (line_first _ (line_text line) more same) in
        let read : line_in form d.rest ≡ Some line = ap (line_in form) is.0 ∙ line_again form d.awaited line may in
        let comes = comes_there form d.awaited line may in
        let next : next_line d form ≡ Some line = rw (e, read, comes) refl in
        none_some (sym none ∙ next))

pub ends_bad : (d : ScriptState) (more : List ℕ) → ended_line d.head d ≡ None → FaultsAt d (10 ∷ more) (next_fault d)
ends_bad d more ended bytes later (no_end, inl t) =
    fault_before bytes d t (10 ∷ (more ++ later))
    (unread_head d (more ++ later) no_end
    (unmapped (with_head d) (head_at d.rest) (subst (λ (o : Option Head). ended_line o d ≡ None) t.headless ended)))
ends_bad d more ended bytes later (no_end, inr t) =
    fault_here bytes d t (10 ∷ (more ++ later))
    (omega (arith, length-append d.rest (10 ∷ (more ++ later))))
    (unread_line d t.head.form (more ++ later) no_end
    (unmapped (with_line d) (next_line d t.head.form) (subst (λ (o : Option Head). ended_line o d ≡ None) t.headed ended)))

-- more bytes than a line has
pub too_long : (d : ScriptState) (more behind : List ℕ) → HasNoEnd more → 56 < length d.rest + length more
    → FaultsAt d (more ++ behind) (next_fault d)
too_long d more behind inside long bytes later (no_end, inl t) =
    fault_before bytes d t ((more ++ behind) ++ later) (λ form s back within same.
    let fits = (form_width form s within).width in
    no_line_within (d.rest ++ more) (behind ++ later) (head_text form s) back (HasNoEnd-append d.rest more no_end inside)
    (omega (arith, fits, long, length-append d.rest more))
    (append_assoc d.rest more (behind ++ later)
    ∙ (ap (λ (x : List ℕ). d.rest ++ x) (sym (append_assoc more behind later)) ∙ line_first _ (head_text form s) back same)))
too_long d more behind inside long bytes later (no_end, inr t) =
    fault_here bytes d t ((more ++ behind) ++ later)
    (omega (arith, long, length-append d.rest ((more ++ behind) ++ later), length-append (more ++ behind) later, length-append more behind))
    (inr (λ line back may same.
    let fits = (line_width t.head.form d.awaited line may).width in
    no_line_within (d.rest ++ more) (behind ++ later) (line_text line) back (HasNoEnd-append d.rest more no_end inside)
    (omega (arith, fits, long, length-append d.rest more))
    (append_assoc d.rest more (behind ++ later)
    ∙ (ap (λ (x : List ℕ). d.rest ++ x) (sym (append_assoc more behind later)) ∙ line_first _ (line_text line) back same))))

-- bytes without an end begin with no line
no_line : (rest text more : List ℕ) → HasNoEnd rest → rest ≡ (text ++ 10 ∷ []) ++ more → ⊥
no_line rest text more no_end same =
    let e = line_first rest text more same in
    let len : length rest ≡ length text + length (10 ∷ more) = ap length e ∙ length-append text (10 ∷ more) in
    no_line_within rest [] text more no_end (omega (arith, len)) (append-nil rest ∙ e)

-- the bytes are over
pub cut : (bytes : List ℕ) (d : ScriptState) → Took bytes d → IsCut d → HasLinesFault bytes (next_fault d)
cut bytes d (no_end, inl t) is =
    subst (λ (x : List ℕ). HasLinesFault x (next_fault d)) (append-nil bytes)
    (fault_before bytes d t [] (subst (λ (x : List ℕ). BeginsNoHead x) (sym (append-nil d.rest))
    (λ form s more within same. no_line d.rest (head_text form s) more no_end same)))
cut bytes d (no_end, inr t) (inl none) = absurd (none_some (sym none ∙ t.headed))
cut bytes d (no_end, inr t) (inr some) =
    subst (λ (x : List ℕ). HasLinesFault x (next_fault d)) (append-nil bytes)
    (fault_here bytes d t [] (omega (arith, some, length-append d.rest []))
    (inr (subst (λ (x : List ℕ). BeginsNoLine t.head.form d.awaited x) (sym (append-nil d.rest))
    (λ line more may same. no_line d.rest (line_text line) more no_end same))))

-- ---- a piece

pub takes_both : (a b c : ScriptState) (x y : List ℕ) → Takes a x b → Takes b y c → Takes a (x ++ y) c
takes_both a b c x y first second bytes took =
    subst (λ (z : List ℕ). Took z c) (append_assoc bytes x y) (second (bytes ++ x) (first bytes took))

pub faults_behind : (a b : ScriptState) (x y : List ℕ) (fault : ReplayFault) → Takes a x b → FaultsAt b y fault → FaultsAt a (x ++ y) fault
faults_behind a b x y fault first second bytes later took =
    subst (λ (z : List ℕ). HasLinesFault z fault)
    (append_assoc bytes x (y ++ later) ∙ ap (λ (z : List ℕ). bytes ++ z) (sym (append_assoc x y later)))
    (second (bytes ++ x) later (first bytes took))

pub no_memory : (d : ScriptState) (piece : List ℕ) (fault : ReplayFault) → fault ≡ Memory → FaultsAt d piece fault
no_memory d piece fault is bytes later took = subst (λ (f : ReplayFault). HasLinesFault (bytes ++ (piece ++ later)) f) (sym is) tt

pub next_kind : (d : ScriptState) → IsTakeFault (next_fault d)
next_kind d = by d.head
  where
    by : (o : Option Head) → IsTakeFault (headed_fault o (lines_of d))
    by None = tt
    by (Some h) = tt

pub memory_kind : (fault : ReplayFault) → fault ≡ Memory → IsTakeFault fault
memory_kind fault is = subst (λ (f : ReplayFault). IsTakeFault f) (sym is) tt

-- what is left of a piece, and what its front did
pub record TakingPiece (old now : ScriptState) (piece left : List ℕ) : Type 0 where
  pub front : List ℕ
  pub parts : piece ≡ front ++ left
  pub takes : Takes old front now

pub piece_begins : (d : ScriptState) (piece : List ℕ) → TakingPiece d d piece piece
piece_begins d piece = record {
  front = [];
  parts = refl;
  takes = λ bytes took. subst (λ (x : List ℕ). Took x d) (sym
      (append-nil bytes)) took;
}

pub piece_goes_on : (old now mid new : ScriptState) (piece left line behind : List ℕ) → TakingPiece old now piece left
    → left ≡ line ++ 10 ∷ behind → HasNoEnd line → mid ≡ record now { rest = now.rest ++ line } → ended_line mid.head mid ≡ Some new
    → TakingPiece old new piece behind
piece_goes_on old now mid new piece left line behind p is inside longer ended = record {
  front = p.front ++ (line ++ 10 ∷ []);
  parts =
      p.parts ∙ (ap (λ (x : List ℕ). p.front ++ x) (is ∙ sym (append_assoc line (10 ∷ []) behind))
      ∙ sym (append_assoc p.front (line ++ 10 ∷ []) behind));
  takes =
      takes_both old now new p.front (line ++ 10 ∷ []) p.takes
      (takes_both now mid new line (10 ∷ []) (extends now line mid inside longer) (ends mid new ended));
}

pub piece_over : (old now new : ScriptState) (piece left : List ℕ) → TakingPiece old now piece left → HasNoEnd left
    → new ≡ record now { rest = now.rest ++ left } → Takes old piece new
piece_over old now new piece left p inside longer =
    subst (λ (x : List ℕ). Takes old x new) (sym p.parts)
    (takes_both old now new p.front left p.takes (extends now left new inside longer))

-- a fault in what is left
pub piece_faults : (old now : ScriptState) (piece left : List ℕ) (fault : ReplayFault) → TakingPiece old now piece left
    → FaultsAt now left fault → FaultsAt old piece fault
piece_faults old now piece left fault p bad =
    subst (λ (x : List ℕ). FaultsAt old x fault) (sym p.parts) (faults_behind old now p.front left fault p.takes bad)

pub faults_long : (now : ScriptState) (left line behind : List ℕ) (fault : ReplayFault) → left ≡ line ++ behind → HasNoEnd line
    → (fault ≡ Memory) ⊎ ((fault ≡ next_fault now) × (56 < length now.rest + length line)) → FaultsAt now left fault
faults_long now left line behind fault is inside (inl none) = no_memory now left fault none
faults_long now left line behind fault is inside (inr (named, long)) =
    subst (λ (x : List ℕ). FaultsAt now x fault) (sym is)
    (subst (λ (f : ReplayFault). FaultsAt now (line ++ behind) f) (sym named) (too_long now line behind inside long))

pub faults_end : (now mid : ScriptState) (left line behind : List ℕ) (fault : ReplayFault) → left ≡ line ++ 10 ∷ behind → HasNoEnd line
    → mid ≡ record now { rest = now.rest ++ line }
    → (fault ≡ Memory) ⊎ ((fault ≡ next_fault mid) × (ended_line mid.head mid ≡ None)) → FaultsAt now left fault
faults_end now mid left line behind fault is inside longer (inl none) = no_memory now left fault none
faults_end now mid left line behind fault is inside longer (inr (named, bad)) =
    subst (λ (x : List ℕ). FaultsAt now x fault) (sym is)
    (subst (λ (f : ReplayFault). FaultsAt now (line ++ 10 ∷ behind) f) (sym named)
    (faults_behind now mid line (10 ∷ behind) (next_fault mid) (extends now line mid inside longer) (ends_bad mid behind bad)))

pub kind_of : {P : Type 0} (d : ScriptState) (fault : ReplayFault) → (fault ≡ Memory) ⊎ ((fault ≡ next_fault d) × P) → IsTakeFault fault
kind_of d fault (inl none) = memory_kind fault none
kind_of d fault (inr (named, p)) = subst (λ (f : ReplayFault). IsTakeFault f) (sym named) (next_kind d)

-- ---- between two reads

-- what was read, and what was taken of it
pub record Reading (from to : Option (List ℕ)) (d : ScriptState) : Type 0 where
  pub bytes : List ℕ
  pub reads : Consumes from to bytes
  pub took : Took bytes d

pub reading_begins : (from : Option (List ℕ)) → Reading from from opening_script
reading_begins from = record { bytes = []; reads = Consumes-nil from; took = begins }

pub reading_goes_on : (from mid to : Option (List ℕ)) (d e : ScriptState) (piece : List ℕ) → Reading from mid d → Consumes mid to piece
    → Takes d piece e → Reading from to e
reading_goes_on from mid to d e piece r read takes = record {
  bytes = r.bytes ++ piece;
  reads = Consumes-trans from mid to r.bytes piece r.reads read;
  took = takes r.bytes r.took;
}

pub in_order_so_far : (from to : Option (List ℕ)) (d : ScriptState) → Reading from to d → IsNonDecreasingBy (λ (w : Wait). w.call) d.waits
in_order_so_far from to d r = took_in_order r.bytes d r.took

-- what is wrong with all bytes of the reader
pub piece_wrong : (from mid to : Option (List ℕ)) (d : ScriptState) (piece : List ℕ) (fault : ReplayFault) → Reading from mid d
    → Consumes mid to piece → FaultsAt d piece fault → IfSome from (λ bytes. HasLinesFault bytes fault)
piece_wrong from mid to d piece fault r read bad =
    by from to (Consumes-trans from mid to r.bytes piece r.reads read)
  where
    by : (from to : Option (List ℕ)) → Consumes from to (r.bytes ++ piece) → IfSome from (λ bytes. HasLinesFault bytes fault)
    by None to reads = tt
    by (Some whole) None reads = absurd reads
    by (Some whole) (Some left) reads =
        subst (λ (x : List ℕ). HasLinesFault x fault) (sym (reads ∙ append_assoc r.bytes piece left)) (bad r.bytes left r.took)

at_end : (from to : Option (List ℕ)) (bytes : List ℕ) (P : List ℕ → Type 0) → Consumes from to bytes → IsAtEnd to
    → P bytes → IfSome from P
at_end None to bytes P reads end is = tt
at_end (Some whole) None bytes P reads end is = absurd reads
at_end (Some whole) (Some left) bytes P reads end is =
    subst P (sym (reads ∙ (ap (λ (x : List ℕ). bytes ++ x) end ∙ append-nil bytes))) is

read_all : (from mid to : Option (List ℕ)) (bytes : List ℕ) → Consumes from mid bytes → Consumes mid to [] → Consumes from to bytes
read_all from mid to bytes reads none =
    subst (λ (x : List ℕ). Consumes from to x) (append-nil bytes) (Consumes-trans from mid to bytes [] reads none)

pub end_wrong : (from mid to : Option (List ℕ)) (d : ScriptState) (fault : ReplayFault) → Reading from mid d → Consumes mid to []
    → IsAtEnd to → (fault ≡ next_fault d) × IsCut d → IfSome from (λ bytes. HasLinesFault bytes fault)
end_wrong from mid to d fault r none end (named, is) =
    at_end from to r.bytes (λ bytes. HasLinesFault bytes fault) (read_all from mid to r.bytes r.reads none) end
    (subst (λ (f : ReplayFault). HasLinesFault r.bytes f) (sym named) (cut r.bytes d r.took is))

pub script_read : (from mid to : Option (List ℕ)) (d : ScriptState) (s : Sizes) (calls : List (ℕ × Op)) (waits : List Wait)
    → Reading from mid d
    → Consumes mid to [] → IsAtEnd to → IsWholeAs d s calls waits → ReadsScript from to s calls waits
script_read from mid to d s calls waits r none end w = by r.took.1
  where
    reads : Consumes from to r.bytes
    reads = read_all from mid to r.bytes r.reads none

    by : TookNoLine r.bytes d ⊎ TookLines r.bytes d → ReadsScript from to s calls waits
    by (inl t) = absurd (none_some (sym t.headless ∙ w.head))
    by (inr t) =
        let head : t.head ≡ head_of w.form s = some_is _ _ (sym t.headed ∙ w.head) in
        let form : t.head.form ≡ w.form = ap (λ (h : Head). h.form) head in
        let sizes : t.head.sizes ≡ s = ap (λ (h : Head). h.sizes) head in
        let script : AreOfScript w.form s t.lines = subst (λ (h : Head). AreOfScript h.form h.sizes t.lines) head t.script in
        let text : r.bytes ≡ script_text w.form s t.lines =
        t.text ∙ (ap (λ (x : List ℕ). script_text t.head.form t.head.sizes t.lines ++ x) w.rest
        ∙ (append-nil (script_text t.head.form t.head.sizes t.lines)
        ∙ ap (λ (h : Head). script_text h.form h.sizes t.lines) head)) in
        record {
          form = w.form;
          lines = t.lines;
          script = script;
          whole = t.awaited ∙ w.awaited;
          calls_are = t.calls ∙ sym w.calls_are;
          waits_are = t.waits ∙ sym w.waits_are;
          reads = subst (λ (x : List ℕ). Consumes from to x) text reads;
          all = end;
        }

-- a fault of a line is none of a stream
pub take_no_read : (fault : ReplayFault) (failures : ℕ) → IsTakeFault fault → failures ≡ source_at fault failures
take_no_read BadHeader failures is = refl
take_no_read (BadLine n) failures is = refl
take_no_read Read failures is = absurd is
take_no_read Write failures is = absurd is
take_no_read Memory failures is = refl
