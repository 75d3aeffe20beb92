-- What a run of a trace writes: a line for each outcome, and the lines of the state at its end.
use Rattle.std.specs.Prelude.{◌≡◌, ℕ, zero, suc, Some, None, List, [], ◌∷◌, ◌++◌, codes}
use Rattle.std.specs.List.{flat_map}
use Rattle.std.specs.Fmt.{decimal}
use Rattle.hp_base.specs.Text.{Sizes, sizes}
use Rattle.hp_base.specs.declared.config.Config.{Config}
use Rattle.hp_base.specs.declared.event.Event.{Event}
use Rattle.hp_machine.specs.declared.outcome.Outcome.{Outcome}
use Rattle.hp_machine.specs.Text.{outcome_text, life_word}
use Rattle.hp_core.specs.Runs.{Row, IsOpening}
use Rattle.hp_core.specs.State.{CoreState}
use Rattle.hp_core.specs.Readers.{config_of, free_of, resv_of, used_of, quota_of, calls_of, size_of, reserved_of, regions_of}
use Rattle.hp_core.specs.Readers.{pages_of, changes_of}
use Rattle.hp_core.specs.Readers.{spare_of, life_of, mappings_of, entries_of}

-- the events, one after the other, have these outcomes and lead from old to new
abbrev pub Run : CoreState → List Event → List Outcome → CoreState → Type 0
Run old [] [] new = new ≡ old
Run old (event ∷ events) (outcome ∷ outcomes) new = (mid : CoreState) × Row old event outcome mid × Run mid events outcomes new
Run old [] (outcome ∷ outcomes) new = ⊥
Run old (event ∷ events) [] new = ⊥

-- the same from the opening state of a pool of these sizes
pub record RunOf (s : Sizes) (events : List Event) (outcomes : List Outcome) (new : CoreState) : Type 0 where
  pub config : Config
  pub sizes_are : sizes config ≡ s
  pub first : CoreState
  pub opening : IsOpening config first
  pub run : Run first events outcomes new

abbrev pub outcome_line : Outcome → List ℕ
outcome_line outcome = outcome_text outcome ++ 10 ∷ []

abbrev pub outcomes_text : List Outcome → List ℕ
outcomes_text outcomes = flat_map outcome_line outcomes

-- where there is a quota, ` used U`
abbrev pub used_text : CoreState → List ℕ
used_text core = elim (quota_of core) [ None ↦ [] | Some most ↦ codes " used " ++ decimal (used_of core) ]

-- `free F resv R calls K`, and behind it ` used U` where there is a quota
abbrev pub pool_line : CoreState → List ℕ
pool_line core =
    codes "free " ++ (decimal (free_of core)
    ++ (codes " resv " ++ (decimal (resv_of core)
    ++ (codes " calls " ++ (decimal (calls_of core) ++ (used_text core ++ 10 ∷ []))))))

-- `file I size S reserved N regions G pages P changes C spare D`
abbrev pub file_line : CoreState → ℕ → List ℕ
file_line core file =
    codes "file " ++ (decimal file
    ++ (codes " size " ++ (decimal (size_of core file)
    ++ (codes " reserved " ++ (decimal (reserved_of core file)
    ++ (codes " regions " ++ (decimal (regions_of core file)
    ++ (codes " pages " ++ (decimal (pages_of core file)
    ++ (codes " changes " ++ (decimal (changes_of core file)
    ++ (codes " spare " ++ (decimal (spare_of core file) ++ 10 ∷ [])))))))))))))

-- `task T LIFE mappings M entries E`
abbrev pub task_line : CoreState → ℕ → List ℕ
task_line core task =
    codes "task " ++ (decimal task
    ++ (codes " " ++ (life_word (life_of core task)
    ++ (codes " mappings " ++ (decimal (mappings_of core task)
    ++ (codes " entries " ++ (decimal (entries_of core task) ++ 10 ∷ [])))))))

-- the lines of the first n files, and of the first n tasks
unfoldable pub files_text : CoreState → ℕ → List ℕ
files_text core zero = []
files_text core (suc n) = files_text core n ++ file_line core n

unfoldable pub tasks_text : CoreState → ℕ → List ℕ
tasks_text core zero = []
tasks_text core (suc n) = tasks_text core n ++ task_line core (suc n)

-- the pool's line, one for each file, and one for each task
abbrev pub state_text : CoreState → List ℕ
state_text core = (pool_line core ++ files_text core (config_of core).files) ++ tasks_text core (config_of core).tasks
