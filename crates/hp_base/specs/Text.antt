-- The one spelling of each word of a trace: what Display writes.
use Rattle.std.specs.Prelude.{ℕ, List, [], ◌++◌, ◌&&◌, Bool, true, false, Option, Some, None, codes}
use Rattle.std.specs.Fmt.{decimal}
use Rattle.hp_base.specs.Limits.{within_limits, is_quota}
use Rattle.hp_base.specs.declared.config.Config.{Config}
use Rattle.hp_base.specs.declared.answer.Answer.{Answer}
use Rattle.hp_base.specs.declared.answer.Answer.TheVariants as answer
use Rattle.hp_base.specs.declared.event.Op.{Op}
use Rattle.hp_base.specs.declared.event.Op.TheVariants.{Map, MapNoReserve, Unmap, Load, Store, Alloc, Punch, Truncate, Exit}
use Rattle.hp_base.specs.declared.event.Event.{Event}
use Rattle.hp_base.specs.declared.event.Event.TheVariants.{Begin, Step, Kill, Resize}

-- a space, and the number
abbrev pub field : ℕ → List ℕ
field n = codes " " ++ decimal n

-- the numbers of a Config
pub record Sizes : Type 0 where
  pub frames : ℕ
  pub files : ℕ
  pub slots : ℕ
  pub tasks : ℕ
  pub quota : Option ℕ

abbrev pub sizes : Config → Sizes
sizes c = record { frames = c.frames; files = c.files; slots = c.slots; tasks = c.tasks; quota = c.quota }

-- the numbers are within their limits
abbrev pub are_sizes : Sizes → Bool
are_sizes s = within_limits s.frames s.files s.slots s.tasks && is_quota s.quota

-- a quota, where there is one
abbrev pub quota_field : Option ℕ → List ℕ
quota_field None = []
quota_field (Some pages) = field pages

-- the first line
abbrev pub sizes_text : Sizes → List ℕ
sizes_text s = codes "pool" ++ field s.frames ++ field s.files ++ field s.slots ++ field s.tasks ++ quota_field s.quota

abbrev pub config_text : Config → List ℕ
config_text c = sizes_text (sizes c)

abbrev pub alloc_word : Bool → List ℕ
alloc_word true = codes "allock"
alloc_word false = codes "alloc"

abbrev pub op_text : Op → List ℕ
op_text (Map file from len) = codes "map" ++ field file ++ field from ++ field len
op_text (MapNoReserve file from len) = codes "mapn" ++ field file ++ field from ++ field len
op_text (Unmap base) = codes "unmap" ++ field base
op_text (Load vpn) = codes "load" ++ field vpn
op_text (Store vpn word) = codes "store" ++ field vpn ++ field word
op_text (Alloc file from len keep) = alloc_word keep ++ field file ++ field from ++ field len
op_text (Punch file from len) = codes "punch" ++ field file ++ field from ++ field len
op_text (Truncate file new) = codes "trunc" ++ field file ++ field new
op_text Exit = codes "exit"

abbrev pub step_word : Bool → List ℕ
step_word true = codes "step"
step_word false = codes "deny"

abbrev pub event_text : Event → List ℕ
event_text (Begin task op) = codes "begin" ++ field task ++ codes " " ++ op_text op
event_text (Step task granted) = step_word granted ++ field task
event_text (Kill task) = codes "kill" ++ field task
event_text (Resize frames) = codes "resize" ++ field frames

abbrev pub answer_text : Answer → List ℕ
answer_text (answer.Mapped base) = codes "mapped " ++ decimal base
answer_text (answer.Word word) = codes "word " ++ decimal word
answer_text answer.Done = codes "done"
answer_text answer.Segv = codes "segv"
answer_text answer.Beyond = codes "beyond"
answer_text answer.NoFrame = codes "noframe"
answer_text answer.NoQuota = codes "noquota"
answer_text answer.NoMemory = codes "nomemory"
answer_text answer.Interrupted = codes "interrupted"
answer_text answer.Killed = codes "killed"
answer_text answer.BadFile = codes "badfile"
answer_text answer.BadRange = codes "badrange"
answer_text answer.NotMapped = codes "notmapped"
answer_text answer.NoAddress = codes "noaddress"
