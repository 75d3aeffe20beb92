-- What the readers read: a file, a space, a task state of a sound core.
use Rattle.std.proofs.Common.{◌≡◌, ℕ, ◌-◌, ◌<◌, ◌≤◌, length, get_or, ◌∙◌, ap, sym, subst, arith}
use Rattle.std.specs.Prelude.{true, false, ◌==◌}
use Rattle.std.proofs.lemmas.Bool.{ne_eqb}
use Rattle.std.proofs.lemmas.Bool.Decides.{nat_tests}
use Rattle.std.proofs.lemmas.List.{get_or_default}
use Rattle.hp_base.specs.Limits.{IsWithinLimits}
use Rattle.hp_machine.specs.Resizes.{is_size}
use Rattle.hp_parts.specs.declared.parts.FileState.{FileState}
use Rattle.hp_parts.specs.View.{no_file, no_table, table_of}
use Rattle.hp_table.specs.Table.{Table}
use Rattle.hp_core.specs.declared.task_state.TaskState.{TaskState}
use Rattle.hp_core.specs.State.{CoreState, task_state_at, no_task_state}
use Rattle.hp_core.specs.Sound.{IsSound}
use Rattle.hp_core.specs.Readers.{config_of}

-- A reader knows the core's fields, and is asked about the state that the core is seen as: `inside` and `seen`, which are
-- one. A file within the config has its place in the list
pub file_in : {inside seen : CoreState} {n file : ℕ} → inside ≡ seen → IsSound inside → n ≡ file → file < (config_of seen).files
    → n < length inside.parts.files
unfolding IsSound config_of
file_in {inside} {file = file} same h e l =
    let k = h.1.files in
    let low : file < inside.sizes.files = subst (λ (s : CoreState). file < s.sizes.files) (sym same) l in
    omega (arith, k, low, e)

-- and what is read there is the machine's file
pub file_read : {inside seen : CoreState} {n file : ℕ} {y : FileState} → inside ≡ seen → IsSound inside → n ≡ file
    → file < (config_of seen).files → y ≡ get_or inside.parts.files n y → y ≡ get_or seen.parts.files file no_file
file_read {inside} {n = n} {file = file} {y = y} same h e l is =
    is ∙ (get_or_default inside.parts.files n y no_file (file_in same h e l)
    ∙ (ap (λ (k : ℕ). get_or inside.parts.files k no_file) e ∙ ap (λ (s : CoreState). get_or s.parts.files file no_file) same))

-- a task within the config lies within the sizes
task_in : {inside seen : CoreState} {task : ℕ} → inside ≡ seen → task ≤ (config_of seen).tasks → task ≤ inside.sizes.tasks
unfolding config_of
task_in {task = task} same high = subst (λ (s : CoreState). task ≤ s.sizes.tasks) (sym same) high

-- it has a space
pub space_in : {inside seen : CoreState} {n task : ℕ} → inside ≡ seen → IsSound inside → n ≡ task - 1 → 1 ≤ task
    → task ≤ (config_of seen).tasks → n < length inside.parts.spaces
unfolding IsSound
space_in {task = task} same h e low high =
    let k = h.1.spaces in
    let within = task_in {task = task} same high in
    omega (arith, k, low, within, e)

-- and what is read there is the machine's table of the task
pub space_read : {inside seen : CoreState} {n task : ℕ} {y : Table} → inside ≡ seen → IsSound inside → n ≡ task - 1 → 1 ≤ task
    → task ≤ (config_of seen).tasks → y ≡ get_or inside.parts.spaces n y → y ≡ table_of seen.parts.spaces task
space_read {inside} {n = n} {task = task} {y = y} same h e low high is =
    let q : (task == 0) ≡ false = ne_eqb task 0 (λ z. omega (arith, z, low)) in
    rw q (is ∙ (get_or_default inside.parts.spaces n y no_table (space_in same h e low high)
    ∙ (ap (λ (k : ℕ). get_or inside.parts.spaces k no_table) e
    ∙ ap (λ (s : CoreState). get_or s.parts.spaces (task - 1) no_table) same)))

-- it has a task state
pub task_state_in : {inside seen : CoreState} {n task : ℕ} → inside ≡ seen → IsSound inside → n ≡ task - 1 → 1 ≤ task
    → task ≤ (config_of seen).tasks → n < length inside.task_states
unfolding IsSound
task_state_in {task = task} same h e low high =
    let k = h.1.task_states in
    let within = task_in {task = task} same high in
    omega (arith, k, low, within, e)

-- and what is read there is the machine's
pub task_state_read : {inside seen : CoreState} {n task : ℕ} {y : TaskState} → inside ≡ seen → IsSound inside → n ≡ task - 1 → 1 ≤ task
    → task ≤ (config_of seen).tasks → y ≡ get_or inside.task_states n y → y ≡ task_state_at seen.task_states task
task_state_read {inside} {n = n} {task = task} {y = y} same h e low high is =
    let q : (task == 0) ≡ false = ne_eqb task 0 (λ z. omega (arith, z, low)) in
    rw q (is ∙ (get_or_default inside.task_states n y no_task_state (task_state_in same h e low high)
    ∙ (ap (λ (k : ℕ). get_or inside.task_states k no_task_state) e
    ∙ ap (λ (s : CoreState). get_or s.task_states (task - 1) no_task_state) same)))

-- a pool may have so many frames as the limits allow
few_frames : (a b c d : ℕ) → IsWithinLimits a b c d → is_size a ≡ true
few_frames a b c d h = grind (arith, nat_tests, h)

-- so many a sound core was opened with
pub opened_sized : (s : CoreState) → IsSound s → is_size s.sizes.frames ≡ true
unfolding IsSound
opened_sized s h = few_frames s.sizes.frames s.sizes.files s.sizes.slots s.sizes.tasks h.1.limits

-- the limits allow 64 tasks at most
pub few_tasks : (a b c d : ℕ) → IsWithinLimits a b c d → d ≤ 64
few_tasks a b c d h = grind (arith, nat_tests, h)

-- and 16 files
pub few_files_of : (a b c d : ℕ) → IsWithinLimits a b c d → b ≤ 16
few_files_of a b c d h = grind (arith, nat_tests, h)

-- so a sound core has at most 64 task states
pub few_task_states : (s : CoreState) → IsSound s → length s.task_states ≤ 64
unfolding IsSound
few_task_states s h =
    let l = few_tasks s.sizes.frames s.sizes.files s.sizes.slots s.sizes.tasks h.1.limits in
    let k = h.1.task_states in
    omega (arith, k, l)
