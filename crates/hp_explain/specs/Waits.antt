-- What is told where it changes whom a task waits for.
use Rattle.std.specs.Prelude.{ℕ, zero, suc, ◌==◌, Bool, List, [], ◌++◌, Option, None, Some, codes}
use Rattle.std.specs.Prelude.{if◌then◌else◌, slice_index_or}
use Rattle.std.specs.Fmt.{decimal}
use Rattle.hp_core.specs.Acquiring.{acquired_of}
use Rattle.hp_core.specs.State.{CoreState}
use Rattle.hp_explain.specs.Words.{wanted_text}

-- what stands before each change: two spaces, or a line of its own
abbrev pub lead : (compact : Bool) → List ℕ
lead compact = if compact then codes "\n         " else codes "  "

-- `task 2 waits for 1: slot 3, file 0 index 3`
abbrev pub wait_text : CoreState → (task holder : ℕ) → List ℕ
wait_text core task holder =
    codes "task " ++ (decimal task
    ++ (codes " waits for " ++ (decimal holder ++ (codes ": " ++ wanted_text core (acquired_of core task)))))

-- `task 2 waits no more`
abbrev pub end_of_wait_text : (task : ℕ) → List ℕ
end_of_wait_text task = codes "task " ++ (decimal task ++ codes " waits no more")

-- what is told of a task that waited for one holder, and now waits for another: where its wait began, changed or ended
abbrev pub change_text : (compact : Bool) → CoreState → (task : ℕ) → (before after : Option ℕ) → List ℕ
change_text compact core task None None = []
change_text compact core task None (Some holder) = lead compact ++ wait_text core task holder
change_text compact core task (Some holder) None = lead compact ++ end_of_wait_text task
change_text compact core task (Some earlier) (Some holder) =
    if earlier == holder then [] else lead compact ++ wait_text core task holder

-- of the first n tasks
unfoldable pub changes_text : (compact : Bool) → CoreState → (before after : List (Option ℕ)) → (n : ℕ) → List ℕ
changes_text compact core before after zero = []
changes_text compact core before after (suc n) =
    changes_text compact core before after n
    ++ change_text compact core (suc n) (slice_index_or before n None) (slice_index_or after n None)
