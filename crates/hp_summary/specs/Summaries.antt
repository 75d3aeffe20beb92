-- What a summary says of runs: a function of the facts of each, in order.
use Rattle.std.specs.Prelude.{◌≡◌, ◌≢◌, ◌+◌, ◌-◌, ◌/◌, ◌<◌, ◌≤◌, ◌^◌, ◌⊎◌, ℕ, true, false, Bool, IsTrue, List, [], ◌∷◌, length, map}
use Rattle.std.specs.Prelude.{All, slice_index_or}
use Rattle.std.specs.List.{AllZip, list_any, range_with_len}
use Rattle.std.specs.List.Sorted.{IsPermutation, IsSorted}
use Rattle.std.specs.Ordering.{nat_cmp}
use Rattle.hp_explore.specs.declared.line.Finish.TheVariants.{Finished}
use Rattle.hp_text.specs.declared.script.Script.{Script}
use Rattle.hp_summary.specs.Facts.{IsFactsOf}
use Rattle.hp_watch.specs.declared.calls.EndedCall.{EndedCall}
use Rattle.hp_summary.specs.declared.facts.RunFacts.{RunFacts}
use Rattle.hp_summary.specs.declared.gathering.Survey.{Survey}
use Rattle.hp_summary.specs.declared.summary.Summary.{Summary}
use Rattle.hp_summary.specs.declared.tally.Ending.{Ending}
use Rattle.hp_summary.specs.declared.tally.Tally.{Tally}

-- so many items of the list meet P
unfoldable pub IsCount : {X : Type 0} → (X → Type 0) → List X → ℕ → Type 0
IsCount P [] n = n ≡ 0
IsCount P (x ∷ xs) n = ((m : ℕ) × P x × (n ≡ m + 1) × IsCount P xs m) ⊎ ((¬ P x) × IsCount P xs n)

-- the run came to its end
abbrev pub IsFinished : RunFacts → Type 0
IsFinished f = f.line.finish ≡ Finished

-- some task was held up in it
abbrev pub IsSomeHeld : RunFacts → Type 0
IsSomeHeld f = IsTrue (list_any (λ held. held) f.held.items)

-- a mark at that place is set
abbrev pub IsSet : (place : ℕ) → List Bool → Type 0
IsSet k marks = slice_index_or marks k false ≡ true

-- the calls of the run ended so
abbrev pub EndsSo : List EndedCall → RunFacts → Type 0
EndsSo ended f = f.ended.items ≡ ended

-- they ended in none of these ways
abbrev pub IsOther : (kept : List (List EndedCall)) → RunFacts → Type 0
IsOther kept f = All (λ ended. f.ended.items ≢ ended) kept

-- the run of that number is the first whose calls ended so
pub record IsFirstSo (facts : List RunFacts) (ended : List EndedCall) (run : ℕ) : Type 0 where
  pub there : run < length facts
  pub so : (d : RunFacts) → EndsSo ended (slice_index_or facts run d)
  pub before : (k : ℕ) (d : RunFacts) → k < run → ¬ EndsSo ended (slice_index_or facts k d)

-- so many runs ended in that way, and that one was the first
pub record IsEndingOf (facts : List RunFacts) (e : Ending) : Type 0 where
  pub runs : IsCount (EndsSo e.ended.items) facts e.runs
  pub first : IsFirstSo facts e.ended.items e.first

abbrev pub kept_of : List Ending → List (List EndedCall)
kept_of endings = map (λ e. e.ended.items) endings

abbrev pub firsts_of : List Ending → List ℕ
firsts_of endings = map (λ e. e.first) endings

-- The ways in which runs ended, in the order of their first runs, 256 at most; so many runs ended in others. A run that did so came
-- behind the first runs of all that are kept.
pub record AreEndings (facts : List RunFacts) (endings : List Ending) (others : ℕ) : Type 0 where
  pub few : length endings ≤ 256
  pub each : All (IsEndingOf facts) endings
  pub apart : (j k d : ℕ) → j < k → k < length endings → slice_index_or (firsts_of endings) j d < slice_index_or (firsts_of endings) k d
  pub other : IsCount (IsOther (kept_of endings)) facts others
  pub full : (k : ℕ) (d : RunFacts) → k < length facts → IsOther (kept_of endings) (slice_index_or facts k d)
      → (length endings ≡ 256) × All (λ first. first < k) (firsts_of endings)

-- the runs have been counted
pub record IsTallyOf (facts : List RunFacts) (t : Tally) : Type 0 where
  pub turns : t.turns.items ≡ map (λ f. f.line.turns) facts
  pub finished : IsCount IsFinished facts t.finished
  pub some_held : IsCount IsSomeHeld facts t.some_held
  pub held : (k : ℕ) → k < length t.held.items → IsCount (λ f. IsSet k f.held.items) facts (slice_index_or t.held.items k 0)
  pub met : (k : ℕ) → k < length t.met.items → IsCount (λ f. IsSet k f.met.items) facts (slice_index_or t.met.items k 0)
  pub endings : AreEndings facts t.endings.items t.other

-- there is room to count for so many tasks
pub record IsSized (t : Tally) (tasks : ℕ) : Type 0 where
  pub held : length t.held.items ≡ tasks
  pub met : length t.met.items ≡ 729

-- fewer than 2^32 - 1 runs have been counted
pub record IsTallied (t : Tally) : Type 0 where
  pub facts : List RunFacts
  pub is : IsTallyOf facts t
  pub few : length facts + 1 < 2 ^ 32

-- the least, the median and the most of these turns; of an even number of runs the median is the lower of the two in the middle
pub record AreTurnsOf (facts : List RunFacts) (least median most : ℕ) : Type 0 where
  pub sorted : List ℕ
  pub same : IsPermutation (map (λ f. f.line.turns) facts) sorted
  pub rising : IsSorted nat_cmp sorted
  pub first : least ≡ slice_index_or sorted 0 0
  pub middle : median ≡ slice_index_or sorted ((length facts - 1) / 2) 0
  pub last : most ≡ slice_index_or sorted (length facts - 1) 0

-- the ending is more frequent than the next, or as frequent and its first run no later
abbrev pub ComesBefore : Ending → Ending → Type 0
ComesBefore one next = (next.runs < one.runs) ⊎ ((next.runs ≡ one.runs) × (one.first ≤ next.first))

abbrev pub AreInOrder : List Ending → Type 0
AreInOrder endings =
    (k : ℕ) (d : Ending) → k + 1 < length endings → ComesBefore (slice_index_or endings k d) (slice_index_or endings (k + 1) d)

-- the summary of runs with these facts
pub record IsSummaryOf (facts : List RunFacts) (s : Summary) : Type 0 where
  pub runs : s.runs ≡ length facts
  pub finished : IsCount IsFinished facts s.finished
  pub turns : AreTurnsOf facts s.least s.median s.most
  pub some_held : IsCount IsSomeHeld facts s.some_held
  pub held : (k : ℕ) → k < length s.held.items → IsCount (λ f. IsSet k f.held.items) facts (slice_index_or s.held.items k 0)
  pub pairs : length s.met.items ≡ 729
  pub met : (k : ℕ) → k < length s.met.items → IsCount (λ f. IsSet k f.met.items) facts (slice_index_or s.met.items k 0)
  pub kept : List Ending
  pub endings : AreEndings facts kept s.other
  pub shown : IsPermutation kept s.endings.items
  pub order : AreInOrder s.endings.items

-- these are the facts of the script's first runs, in order
abbrev pub AreFactsOf : Script → Survey → (runs : ℕ) → List RunFacts → Type 0
AreFactsOf script v runs facts = AllZip (IsFactsOf script v.seed v.chances.deny v.chances.kill) (range_with_len 0 runs) facts

-- the summary of the script's runs
pub record Summarizes (script : Script) (v : Survey) (s : Summary) : Type 0 where
  pub facts : List RunFacts
  pub are : AreFactsOf script v v.runs facts
  pub is : IsSummaryOf facts s
  pub tasks : length s.held.items ≡ script.config.tasks
