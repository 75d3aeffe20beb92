-- What holds behind every run of a machine with a whole-number reserve count.
use Rattle.std.specs.Prelude.{◌≡◌, ℕ, ◌+◌, ◌≤◌, true, Bool, Some, Option, List, is_some, map}
use Rattle.hp_base.specs.Indices.{count_below}
use Rattle.hp_base.specs.Numbers.{total}
use Rattle.hp_base.specs.declared.event.Event.{Event}
use Rattle.hp_machine.specs.State.{Geometry, Pool}
use Rattle.hp_machine.specs.Events.{CallRows, Run, opening}
use Rattle.hp_machine.specs.Headline.{Agrees, OnePlace, all_behind, all_ahead, reserved_in, vacant_in}
use Rattle.hp_machine.specs.State.{State}
use Rattle.hp_machine.specs.Views.{hand}
use Rattle.hp_machine.specs.declared.outcome.Outcome.{Outcome}
use Rattle.hp_machine.specs.declared.call.Call.{Call}
use Rattle.hp_counterexamples.specs.Runs.{with_calls, IsAtRest}
use Rattle.hp_linux.specs.Whole.{Linux, begins}
use Rattle.hp_linux.specs.Late.{Happening, LateRun}
use Rattle.hp_linux.specs.Late.{Does}
use Rattle.hp_accounts.specs.Books.{Books, opens}
use Rattle.hp_accounts.specs.Entries.{Entry, AllMay, ends, ignored_in}
use Rattle.hp_accounts.specs.Laws.{AllCareful}

-- whatever the first rows do, the second may
abbrev pub AreAmong : (some all : CallRows) → Type 0
AreAmong some all =
    (s : Pool) (t : ℕ) (killed grant : Bool) (c : Call) (told : Outcome) (new : Pool) (next : Option Call)
    → some s t killed grant c told new next → all s t killed grant c told new next

-- each run by the first rows, in which frames may become free late, is one by the second
abbrev pub RunsAreAmong : (some all : CallRows) → Type 0
RunsAreAmong some all =
    (l : Linux) (hs : List Happening) (n : Linux) → LateRun (with_calls some) l hs n → LateRun (with_calls all) l hs n

-- what happens in a run of the machine: its events, with what is told of each, and no frame becomes free late
abbrev pub as_happenings : List (Event × Outcome) → List Happening
as_happenings log = map (λ (e : Event × Outcome). Does e.0 e.1) log

-- each run of the machine is one by these rows, in which nothing is owed: no count is lower than what a step takes
abbrev pub HaveTheMachinesRuns : CallRows → Type 0
HaveTheMachinesRuns rows =
    (g : Geometry) (frames : ℕ) (log : List (Event × Outcome)) (s : State) → Run (opening g frames) log s
    → LateRun (with_calls rows) (begins g frames) (as_happenings log) (record { state = s; debt = 0 })

-- behind every run by these rows, of any number of tasks and in any order, with kills, resizes and frames that become free late
abbrev pub Always : CallRows → (Geometry → (frames : ℕ) → Linux → Type 0) → Type 0
Always rows law =
    (g : Geometry) (frames : ℕ) (hs : List Happening) (l : Linux) → LateRun (with_calls rows) (begins g frames) hs l → law g frames l

-- what both the books and a pool have, table by table; and the books' accounts are what the calls in flight owe
pub record Shows (b : Books) (s : State) : Type 0 where
  pub geometry : b.geometry ≡ s.geometry
  pub frames : b.frames ≡ s.frames
  pub frame : b.frame ≡ s.frame
  pub slots : b.slots ≡ s.slots
  pub reserved : b.reserved ≡ s.reserved
  pub pages : b.pages ≡ s.pages
  pub mappings : b.mappings ≡ s.mappings
  pub entries : b.entries ≡ s.entries
  pub hands : (t : ℕ) → t ≤ s.geometry.tasks → b.hands t ≡ hand (s.calls t)
  pub owed : b.owed ≡ all_behind s
  pub promised : b.promised ≡ all_ahead s

-- the count, as a whole number, is that of the books
abbrev pub Counts : Books → Linux → Type 0
Counts b l = b.count + l.debt ≡ l.state.resv + b.debt

-- some list of entries that have what they want leads to books that show the state
abbrev pub IsListed : Geometry → (frames : ℕ) → Linux → Type 0
IsListed g frames l =
    (es : List Entry) × AllMay (opens g frames) es × Shows (ends (opens g frames) es) l.state × Counts (ends (opens g frames) es) l

-- and they are careful, and ignore nothing
abbrev pub IsListedCarefully : Geometry → (frames : ℕ) → Linux → Type 0
IsListedCarefully g frames l =
    (es : List Entry) × AllMay (opens g frames) es × AllCareful (opens g frames) es × (ignored_in es ≡ 0)
    × Shows (ends (opens g frames) es) l.state × Counts (ends (opens g frames) es) l

-- how many indices of all files have a page
abbrev pub paged_in : State → ℕ
paged_in s = total s.geometry.files (λ f. count_below (λ i. is_some (s.pages f i)) s.geometry.limit)

-- ---- laws of Linux's rows

-- each translation lies in a mapping of its task, and names the page of the file at its index
abbrev pub TranslationsAgree : Geometry → (frames : ℕ) → Linux → Type 0
TranslationsAgree g frames l = Agrees l.state

-- each frame is free, in one hand, the page of one index, or retired. The hand of a task is its call's; others have frames that are left
abbrev pub FramesAreInOnePlace : Geometry → (frames : ℕ) → Linux → Type 0
FramesAreInOnePlace g frames l =
    (hands : ℕ → Option ℕ) × ((t : ℕ) → t ≤ l.state.geometry.tasks → hands t ≡ hand (l.state.calls t))
    × OnePlace l.state.frames l.state.frame hands l.state.pages

-- the count with the pages is at most what is reserved, but for what the calls in flight owe
abbrev pub IsNeverTooHigh : Geometry → (frames : ℕ) → Linux → Type 0
IsNeverTooHigh g frames l = l.state.resv + all_behind l.state + paged_in l.state ≤ reserved_in l.state + all_ahead l.state + l.debt

-- at rest it is at most the reserved indices less the pages: it may be lost, and is never leaked
abbrev pub IsOnlyLost : Geometry → (frames : ℕ) → Linux → Type 0
IsOnlyLost g frames l = IsAtRest l.state → l.state.resv + paged_in l.state ≤ reserved_in l.state + l.debt

-- ---- laws of accounted rows

-- the count with the pages is what is reserved, but for what the calls in flight owe
abbrev pub IsBalanced : Geometry → (frames : ℕ) → Linux → Type 0
IsBalanced g frames l = l.state.resv + all_behind l.state + paged_in l.state ≡ reserved_in l.state + all_ahead l.state + l.debt

-- and at rest it is just that
abbrev pub IsBalancedAtRest : Geometry → (frames : ℕ) → Linux → Type 0
IsBalancedAtRest g frames l = IsAtRest l.state → l.state.resv + paged_in l.state ≡ reserved_in l.state + l.debt

-- ---- laws of repaired rows

-- a page's index is in its file's map
abbrev pub PagesAreReserved : Geometry → (frames : ℕ) → Linux → Type 0
PagesAreReserved g frames l = (f i x : ℕ) → l.state.pages f i ≡ Some x → l.state.reserved f i ≡ true

-- the count is how many reserved indices have no page, but for what the calls in flight owe
abbrev pub IsExact : Geometry → (frames : ℕ) → Linux → Type 0
IsExact g frames l = l.state.resv + all_behind l.state ≡ vacant_in l.state + all_ahead l.state + l.debt

-- at rest it is just that number, and not below zero
abbrev pub IsRight : Geometry → (frames : ℕ) → Linux → Type 0
IsRight g frames l = IsAtRest l.state → (l.state.resv ≡ vacant_in l.state) × (l.debt ≡ 0)
