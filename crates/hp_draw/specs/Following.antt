-- What an event changes of what is drawn.
use Rattle.std.specs.Prelude.{ℕ, ◌-◌, ◌==◌, Bool, true, false, not, Option, Some, None, if◌then◌else◌}
use Rattle.hp_base.specs.declared.event.Event.{Event}
use Rattle.hp_base.specs.declared.event.Event.TheVariants.{Begin, Step, Kill, Resize}
use Rattle.hp_base.specs.declared.answer.Answer.{Answer}
use Rattle.hp_base.specs.declared.answer.Answer.TheVariants as answer
use Rattle.hp_machine.specs.declared.outcome.Outcome.{Outcome}
use Rattle.hp_machine.specs.declared.outcome.Outcome.TheVariants as outcome
use Rattle.hp_machine.specs.declared.phase.Phase.{Phase}
use Rattle.hp_core.specs.Readers.{free_of, resv_of, owed_of, all_reserved_of, all_pages_of, quota_of, used_of}
use Rattle.hp_core.specs.State.{CoreState}
use Rattle.hp_draw.specs.declared.following.OpenStay.{OpenStay}
use Rattle.hp_draw.specs.declared.following.Stay.{Stay}
use Rattle.hp_draw.specs.declared.following.Mark.{Mark}
use Rattle.hp_draw.specs.declared.following.Numbers.{Numbers}
use Rattle.hp_draw.specs.declared.following.Next.{Next}
use Rattle.hp_draw.specs.declared.following.Next.TheVariants as next
use Rattle.hp_draw.specs.declared.following.Sign.{Sign}
use Rattle.hp_draw.specs.declared.following.Sign.TheVariants as sign

-- where a call stands that begins
abbrev pub begun : (at : ℕ) → Event → Option Phase → Option OpenStay
begun at (Begin task op) (Some phase) = Some (record { op = op; begun = at; since = at; phase = phase })
begun at (Begin task op) None = None
begun at (Step task granted) phase = None
begun at (Kill task) phase = None
begun at (Resize frames) phase = None

-- where a call stands that moved
abbrev pub moved : Option OpenStay → (at : ℕ) → Phase → Option OpenStay
moved (Some s) at phase = Some (record { op = s.op; begun = s.begun; since = at; phase = phase })
moved None at phase = None

-- where a task's call stands after an event of it, if one is in flight then
abbrev pub open_stay_after : Option OpenStay → (at : ℕ) → Event → Outcome → Option Phase → Option OpenStay
open_stay_after before at event outcome.Begun phase = begun at event phase
open_stay_after before at event (outcome.Moved to) phase = moved before at to
open_stay_after before at event (outcome.Blocked holder) phase = before
open_stay_after before at event (outcome.Ended answer) phase = None
open_stay_after before at event outcome.Marked phase = before
open_stay_after before at event (outcome.Resized frames) phase = before
open_stay_after before at event (outcome.Refused why) phase = before

-- what comes behind a stay that such an outcome ends
abbrev pub next_of : Outcome → Next
next_of outcome.Begun = next.GoesOn
next_of (outcome.Moved to) = next.GoesOn
next_of (outcome.Blocked holder) = next.GoesOn
next_of (outcome.Ended answer) = next.Ended answer
next_of outcome.Marked = next.GoesOn
next_of (outcome.Resized frames) = next.GoesOn
next_of (outcome.Refused why) = next.GoesOn

-- whether the call is over, or stands since another moment
abbrev pub has_moved : OpenStay → Option OpenStay → Bool
has_moved s None = true
has_moved s (Some other) = not (other.since == s.since)

-- the stay of a call that stood so, if it doesn't stand so after the event
abbrev pub stay_of : (column at : ℕ) → OpenStay → (after : Option OpenStay) → Outcome → Option Stay
stay_of column at s after outcome =
    if has_moved s after then Some (record { column = column; open_stay = s; until = at; next = next_of outcome }) else None

-- the stay that an event ends, if it ends one
abbrev pub stay_left : (column at : ℕ) → (before after : Option OpenStay) → Outcome → Option Stay
stay_left column at None after outcome = None
stay_left column at (Some s) after outcome = stay_of column at s after outcome

-- the stay of a call that is in flight at the end
abbrev pub stay_in : (column at : ℕ) → Option OpenStay → Option Stay
stay_in column at None = None
stay_in column at (Some s) = Some (record { column = column; open_stay = s; until = at; next = next.InFlight })

-- what is marked of an event that wasn't refused: a denial, a kill, else what its outcome has
abbrev pub sign_for : Event → Option Sign → Option Sign
sign_for (Begin task op) other = other
sign_for (Step task true) other = other
sign_for (Step task false) other = Some sign.Denied
sign_for (Kill task) other = Some sign.Killed
sign_for (Resize frames) other = other

-- what is marked of an event, if anything
abbrev pub sign_of : Event → Outcome → Option Sign
sign_of event outcome.Begun = sign_for event None
sign_of event (outcome.Moved to) = sign_for event None
sign_of event (outcome.Blocked holder) = sign_for event (Some (sign.Blocked holder))
sign_of event (outcome.Ended answer) = sign_for event None
sign_of event outcome.Marked = sign_for event None
sign_of event (outcome.Resized frames) = sign_for event (Some (sign.Resized frames))
sign_of event (outcome.Refused why) = Some (sign.Refused why)

abbrev pub mark_with : (column at : ℕ) → Option Sign → Option Mark
mark_with column at None = None
mark_with column at (Some s) = Some (record { column = column; at = at; sign = s })

-- the mark of an event, if it has one
abbrev pub mark_of : (column at : ℕ) → Event → Outcome → Option Mark
mark_of column at event outcome = mark_with column at (sign_of event outcome)

-- what is marked of a blocked step beside what is marked of its event: a denied one has a mark of its own
abbrev pub block_behind : Event → (holder : ℕ) → Option Sign
block_behind (Begin task op) holder = None
block_behind (Step task true) holder = None
block_behind (Step task false) holder = Some (sign.Blocked holder)
block_behind (Kill task) holder = None
block_behind (Resize frames) holder = None

-- the mark of a denied step that was blocked, beside the one of its denial
abbrev pub block_of : (column at : ℕ) → Event → Outcome → Option Mark
block_of column at event outcome.Begun = None
block_of column at event (outcome.Moved to) = None
block_of column at event (outcome.Blocked holder) = mark_with column at (block_behind event holder)
block_of column at event (outcome.Ended answer) = None
block_of column at event outcome.Marked = None
block_of column at event (outcome.Resized frames) = None
block_of column at event (outcome.Refused why) = None

-- whether a call that ends so did not do what it was to do
abbrev pub is_failure : Answer → Bool
is_failure (answer.Mapped base) = false
is_failure (answer.Word word) = false
is_failure answer.Done = false
is_failure answer.Segv = true
is_failure answer.Beyond = true
is_failure answer.NoFrame = true
is_failure answer.NoQuota = true
is_failure answer.NoMemory = true
is_failure answer.Interrupted = true
is_failure answer.Killed = true
is_failure answer.BadFile = true
is_failure answer.BadRange = true
is_failure answer.NotMapped = true
is_failure answer.NoAddress = true

abbrev pub failed_with : Answer → Option Sign
failed_with answer = if is_failure answer then Some (sign.Failed answer) else None

-- the mark of a call that ends in a failure by an event
abbrev pub failure_of : (column at : ℕ) → Outcome → Option Mark
failure_of column at outcome.Begun = None
failure_of column at (outcome.Moved to) = None
failure_of column at (outcome.Blocked holder) = None
failure_of column at (outcome.Ended answer) = mark_with column at (failed_with answer)
failure_of column at outcome.Marked = None
failure_of column at (outcome.Resized frames) = None
failure_of column at (outcome.Refused why) = None

-- the used count, and 0 where the pool has no quota
abbrev pub counted_use : (quota : Option ℕ) → CoreState → ℕ
counted_use None core = 0
counted_use (Some quota) core = used_of core

-- the counts of a core; reserved indices without a page are counted, and not made of the others
abbrev pub numbers_of : CoreState → (at : ℕ) → Numbers
numbers_of core at =
    record {
      at = at;
      free = free_of core;
      resv = resv_of core;
      bare = all_reserved_of core - all_pages_of core;
      owed = owed_of core;
      used = counted_use (quota_of core) core;
    }
