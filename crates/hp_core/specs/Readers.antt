-- The numbers of a core, in the machine's words.
use Rattle.std.specs.Prelude.{ℕ, ℤ, pos, ◌-ℤ◌, Option, length, is_some}
use Rattle.std.specs.Option.{option_map}
use Rattle.hp_base.specs.Numbers.{total}
use Rattle.hp_base.specs.Indices.{count_below, region_count}
use Rattle.hp_base.specs.Text.{Sizes}
use Rattle.hp_base.specs.declared.limits.TheConstants.{LIMIT, VPNS}
use Rattle.hp_machine.specs.State.{active_frames, free_frames}
use Rattle.hp_machine.specs.Events.{word_of}
use Rattle.hp_machine.specs.Headline.{all_calls, all_behind, all_ahead, all_used_ahead}
use Rattle.hp_machine.specs.declared.outcome.Life.{Life}
use Rattle.hp_machine.specs.declared.phase.Phase.{Phase}
use Rattle.hp_core.specs.State.{CoreState, as_state}

-- the numbers of its config
unfoldable pub config_of : CoreState → Sizes
config_of s = s.sizes

-- how many frames the pool has, which are those that aren't retired
unfoldable pub frames_of : CoreState → ℕ
frames_of s = active_frames (as_state s).frame (as_state s).frames

-- how many of them are free
unfoldable pub free_of : CoreState → ℕ
free_of s = free_frames (as_state s).frame (as_state s).frames

-- the reserve count
unfoldable pub resv_of : CoreState → ℕ
resv_of s = (as_state s).resv

-- what the calls in flight owe to the reserve count
unfoldable pub owed_of : CoreState → ℤ
owed_of s = pos (all_ahead (as_state s)) -ℤ pos (all_behind (as_state s))

-- the used count
unfoldable pub used_of : CoreState → ℕ
used_of s = (as_state s).used

-- what the calls in flight owe to it
unfoldable pub used_owed_of : CoreState → ℤ
used_owed_of s = pos (all_used_ahead (as_state s))

-- how many pages the files may use, where that is limited
unfoldable pub quota_of : CoreState → Option ℕ
quota_of s = (as_state s).geometry.quota

-- how many calls are in flight
unfoldable pub calls_of : CoreState → ℕ
calls_of s = all_calls (as_state s)

unfoldable pub size_of : CoreState → (file : ℕ) → ℕ
size_of s f = (as_state s).size f

-- how many indices of the file are reserved
unfoldable pub reserved_of : CoreState → (file : ℕ) → ℕ
reserved_of s f = count_below ((as_state s).reserved f) LIMIT

-- how many regions they are
unfoldable pub regions_of : CoreState → (file : ℕ) → ℕ
regions_of s f = region_count LIMIT ((as_state s).reserved f)

-- how many indices of the file have a page
unfoldable pub pages_of : CoreState → (file : ℕ) → ℕ
pages_of s f = count_below (λ i. is_some ((as_state s).pages f i)) LIMIT

-- the changes of the file's map that are in progress
unfoldable pub changes_of : CoreState → (file : ℕ) → ℕ
changes_of s f = (as_state s).pending f

-- its spare descriptors
unfoldable pub spare_of : CoreState → (file : ℕ) → ℕ
spare_of s f = (as_state s).spare f

unfoldable pub life_of : CoreState → (task : ℕ) → Life
life_of s t = (as_state s).life t

unfoldable pub mappings_of : CoreState → (task : ℕ) → ℕ
mappings_of s t = length ((as_state s).mappings t)

-- how many virtual pages of the task are translated
unfoldable pub entries_of : CoreState → (task : ℕ) → ℕ
entries_of s t = count_below (λ v. is_some ((as_state s).entries t v)) VPNS

-- the frame that a virtual page of the task is translated to, if it is
unfoldable pub translation_of : CoreState → (task vpn : ℕ) → Option ℕ
translation_of s t v = (as_state s).entries t v

-- the word of the phase in which the task's call stands, if one is in flight
unfoldable pub phase_of : CoreState → (task : ℕ) → Option Phase
phase_of s t = option_map word_of ((as_state s).calls t)

-- the same, of all files
unfoldable pub all_reserved_of : CoreState → ℕ
all_reserved_of s = total s.sizes.files (reserved_of s)

unfoldable pub all_pages_of : CoreState → ℕ
all_pages_of s = total s.sizes.files (pages_of s)
