-- Lines of runs that are laid out one by one, and written a part at a time.
use Rattle.std.proofs.Common.{◌≡◌, ℕ, zero, suc, ◌+◌, ◌<◌, ◌≤◌, List, [], ◌∷◌, ◌++◌, length}
use Rattle.std.proofs.Common.{take, get_or, Option, refl, sym, ap, subst, ◌∙◌, arith}
use Rattle.std.specs.Prelude.{Bool, ◌&&◌}
use Rattle.std.specs.List.{AllZip, list_all, range_with_len}
use Rattle.std.specs.Io.KnownBytes.{Appends}
use Rattle.std.proofs.KnownBytes.{Appends-nil, Appends-trans}
use Rattle.std.proofs.lemmas.List.{append-nil, take_all, take_more}
use Rattle.std.proofs.lemmas.List.Folds.{list_all-append}
use Rattle.std.proofs.lemmas.Grind.{flat_map-append}
use Rattle.hp_explore.specs.Explored.{IsLine}
use Rattle.hp_explore.specs.declared.line.RunLine.{RunLine}
use Rattle.hp_text.specs.declared.script.Script.{Script}
use Rattle.hp_explore.specs.declared.exploration.Exploration.{Exploration}
use Rattle.hp_explore.specs.RunLines.{run_line, lines_text, is_finished, AreLinesOf, WroteRuns, WroteSomeRuns}
use Rattle.hp_text.specs.Writing.{Wrote}
use Rattle.hp_text.proofs.Writes.{Wrote-behind}

-- one line more
pub line_laid : (lines items : List RunLine) (n : ℕ) (l : RunLine) (text more : List ℕ) → items ≡ lines → n < length items
    → l ≡ get_or items n l → text ≡ lines_text (take n lines) → more ≡ text ++ run_line l
    → more ≡ lines_text (take (n + 1) lines)
line_laid lines items n l text more same lt is before added =
    let within : n < length lines = subst (λ (x : List RunLine). n < length x) same lt in
    let next : take (n + 1) lines ≡ take n lines ++ (l ∷ []) =
    take_more lines n l within
    ∙ ap (λ (x : RunLine). take n lines ++ (x ∷ [])) (sym (is ∙ ap (λ (x : List RunLine). get_or x n l) same)) in
    let all : lines_text (take (n + 1) lines) ≡ lines_text (take n lines) ++ run_line l =
    ap lines_text next ∙ (flat_map-append run_line (take n lines) (l ∷ [])
    ∙ ap (λ (x : List ℕ). lines_text (take n lines) ++ x) (append-nil (run_line l))) in
    added ∙ (ap (λ (x : List ℕ). x ++ run_line l) before ∙ sym all)

pub all_laid : (lines items : List RunLine) (n : ℕ) (text : List ℕ) → items ≡ lines → length items ≤ n
    → text ≡ lines_text (take n lines) → text ≡ lines_text lines
all_laid lines items n text same le is =
    is ∙ ap lines_text (take_all n lines (subst (λ (x : List RunLine). length x ≤ n) same le))

-- the lines of the first runs are written, but for those of the last of them, which are kept
pub record AllButKept (script : Script) (e : Exploration) (first : ℕ) (finished : Bool) (before now : Option (List ℕ))
    (kept : List RunLine) : Type 0 where
  pub few : first ≤ e.runs
  pub lines : List RunLine
  pub are : AreLinesOf script e first (lines ++ kept)
  pub wrote : Appends before now (lines_text lines)
  pub ends : finished ≡ list_all is_finished (lines ++ kept)

range_more : (from m n : ℕ) → range_with_len from (m + n) ≡ range_with_len from m ++ range_with_len (from + m) n
range_more from zero n =
    let none : 0 + n ≡ n = omega arith in
    let same : from ≡ from + 0 = omega arith in
    ap (λ (k : ℕ). range_with_len from k) none ∙ ap (λ (k : ℕ). range_with_len k n) same
range_more from (suc m) n =
    let more : suc m + n ≡ suc (m + n) = omega arith in
    let next : from + 1 + m ≡ from + suc m = omega arith in
    ap (λ (k : ℕ). range_with_len from k) more
    ∙ (ap (λ (xs : List ℕ). from ∷ xs) (range_more (from + 1) m n)
    ∙ ap (λ (k : ℕ). from ∷ (range_with_len (from + 1) m ++ range_with_len k n)) next)

both : {X Y : Type 0} (R : X → Y → Type 0) (xs zs : List X) (ys ws : List Y) → AllZip R xs ys → AllZip R zs ws
    → AllZip R (xs ++ zs) (ys ++ ws)
both R [] zs [] ws h k = k
both R [] zs (y ∷ ys) ws h k = absurd h
both R (x ∷ xs) zs [] ws h k = absurd h
both R (x ∷ xs) zs (y ∷ ys) ws h k = (h.0, both R xs zs ys ws h.1 k)

more_lines : (script : Script) (e : Exploration) (first runs : ℕ) (lines next : List RunLine) → AreLinesOf script e first lines
    → AllZip (IsLine script e.seed e.chances.deny e.chances.kill) (range_with_len first runs) next
    → AreLinesOf script e (first + runs) (lines ++ next)
more_lines script e first runs lines next a b =
    let R = IsLine script e.seed e.chances.deny e.chances.kill in
    let here : 0 + first ≡ first = omega arith in
    subst (λ (xs : List ℕ). AllZip R xs (lines ++ next))
    (sym (range_more 0 first runs ∙ ap (λ (k : ℕ). range_with_len 0 first ++ range_with_len k runs) here))
    (both R (range_with_len 0 first) (range_with_len first runs) lines next a b)

behind_lines : (before now then : Option (List ℕ)) (lines kept slice : List RunLine) → Appends before now (lines_text lines) → slice ≡ kept
    → Appends now then (lines_text slice) → Appends before then (lines_text (lines ++ kept))
behind_lines before now then lines kept slice wrote same more =
    subst (λ (x : List ℕ). Appends before then x) (sym (flat_map-append run_line lines kept))
    (Appends-trans before now then (lines_text lines) (lines_text kept) wrote
    (subst (λ (ls : List RunLine). Appends now then (lines_text ls)) same more))

-- nothing is written yet
pub first_kept : (script : Script) (e : Exploration) (runs : ℕ) (finished : Bool) (now : Option (List ℕ)) (kept slice : List RunLine)
    → runs ≤ e.runs → AreLinesOf script e runs kept → finished ≡ list_all is_finished slice → slice ≡ kept
    → AllButKept script e runs finished now now kept
first_kept script e runs finished now kept slice few are ends same =
    record { few = few; lines = []; are = are; wrote = Appends-nil now; ends = ends ∙ ap (list_all is_finished) same }

-- the lines that were kept are written, and those of more runs are kept
pub part_kept : (script : Script) (e : Exploration) (first runs : ℕ) (finished ended done : Bool) (before now then : Option (List ℕ))
    (kept slice next other : List RunLine) → AllButKept script e first finished before now kept → first + runs ≤ e.runs
    → slice ≡ kept → Appends now then (lines_text slice)
    → AllZip (IsLine script e.seed e.chances.deny e.chances.kill) (range_with_len first runs) next
    → done ≡ (finished && ended) → ended ≡ list_all is_finished other → other ≡ next
    → AllButKept script e (first + runs) done before then next
part_kept script e first runs finished ended done before now then kept slice next other s few sliced wrote are is all same =
    record {
      few = few;
      lines = s.lines ++ kept;
      are = more_lines script e first runs (s.lines ++ kept) next s.are are;
      wrote = behind_lines before now then s.lines kept slice s.wrote sliced wrote;
      ends =
          is ∙ ap (λ (b : Bool). finished && b) (all ∙ ap (list_all is_finished) same)
          ∙ ap (λ (b : Bool). b && list_all is_finished next) s.ends ∙ sym (list_all-append is_finished (s.lines ++ kept) next);
    }

-- a front of the lines that were kept is written
pub part_stopped : (script : Script) (e : Exploration) (first : ℕ) (finished : Bool) (before now then : Option (List ℕ))
    (kept slice : List RunLine)
    → AllButKept script e first finished before now kept → slice ≡ kept → Wrote now then (lines_text slice)
    → WroteSomeRuns script e before then
part_stopped script e first finished before now then kept slice s sliced wrote_slice =
    let wrote = subst (λ (ls : List RunLine). Wrote now then (lines_text ls)) sliced wrote_slice in
    record {
      runs = first;
      few = s.few;
      lines = s.lines ++ kept;
      are = s.are;
      wrote =
          subst (λ (x : List ℕ). Wrote before then x) (sym (flat_map-append run_line s.lines kept))
          (Wrote-behind before now then (lines_text s.lines) (lines_text kept) s.wrote wrote);
    }

pub none_written : (script : Script) (e : Exploration) (now : Option (List ℕ)) → WroteSomeRuns script e now now
none_written script e now =
    record {
      runs = 0;
      few = omega arith;
      lines = [];
      are = tt;
      wrote = record { front = []; back = []; parts = refl; appends = Appends-nil now };
    }

-- the lines that were kept are written, and there are no more runs
pub all_written : (script : Script) (e : Exploration) (first : ℕ) (finished : Bool) (before now then : Option (List ℕ))
    (kept slice : List RunLine)
    → AllButKept script e first finished before now kept → e.runs ≤ first → slice ≡ kept → Appends now then (lines_text slice)
    → WroteRuns script e finished before then
all_written script e first finished before now then kept slice s past sliced wrote =
    let same : first ≡ e.runs = omega (arith, past, s.few) in
    record {
      lines = s.lines ++ kept;
      are = subst (λ (n : ℕ). AreLinesOf script e n (s.lines ++ kept)) same s.are;
      wrote = behind_lines before now then s.lines kept slice s.wrote sliced wrote;
      ends = s.ends;
    }
