-- Each stay and each mark of a run stands in a column.
use Rattle.std.proofs.Common.{◌≡◌, ℕ, zero, suc, ◌+◌, ◌<◌, ◌≤◌, Bool, true, false, List, [], ◌∷◌, ◌++◌, length, Option, All}
use Rattle.std.proofs.Common.{sym, ap, subst, ◌∙◌}
use Rattle.std.proofs.Common.{add-one, arith, length-append, length-set, get_or, refl}
use Rattle.std.specs.Prelude.{Some, None, IfSome, if◌then◌else◌}
use Rattle.std.proofs.lemmas.Bool.Decides.{nat_tests}
use Rattle.std.proofs.lemmas.List.{length-replicate}
use Rattle.std.proofs.lemmas.List.Elements.{All-nil, All-cons, All-append, All-weaker}
use Rattle.hp_base.specs.Limits.{IsWithinLimits}
use Rattle.hp_base.specs.Text.{Sizes, sizes}
use Rattle.hp_base.specs.declared.config.Config.{Config}
use Rattle.hp_base.specs.declared.event.Event.{Event}
use Rattle.hp_base.specs.declared.event.Event.TheVariants.{Begin, Step, Kill, Resize}
use Rattle.hp_core.specs.Readers.{config_of}
use Rattle.hp_core.specs.Runs.{Row, IsOpening}
use Rattle.hp_core.specs.State.{CoreState}
use Rattle.hp_machine.specs.declared.outcome.Outcome.{Outcome}
use Rattle.hp_machine.specs.declared.outcome.Outcome.TheVariants as outcome
use Rattle.hp_text.specs.Columns.{column_of, column_of_task}
use Rattle.hp_watch.specs.Happenings.{Happening, Happens, phase_in}
use Rattle.hp_draw.specs.Following.{open_stay_after, stay_in, stay_left}
use Rattle.hp_draw.specs.Following.{block_behind, block_of, failed_with, failure_of, has_moved, next_of, mark_of, mark_with, sign_of}
use Rattle.hp_draw.specs.Lists.{listed}
use Rattle.hp_draw.specs.Places.{InColumns}
use Rattle.hp_draw.specs.Sketches.{Drawn, IsDrawn, nothing_drawn, after, after_all, stays_in, waiting_then}
use Rattle.hp_draw.specs.Waits.{is_for, wait_left, waiting_tasks, waits_left}
use Rattle.hp_draw.specs.declared.following.Sign.{Sign}
use Rattle.hp_draw.specs.declared.following.OpenStay.{OpenStay}
use Rattle.hp_draw.specs.declared.following.Stay.{Stay}
use Rattle.hp_draw.specs.declared.waits.Wait.{Wait}
use Rattle.hp_draw.specs.declared.waits.Waiting.{Waiting}

-- so many columns, and all stands in one of them
record Inside (n : ℕ) (d : Drawn) : Type 0 where
  count : length d.open_stays ≡ n
  tasks : length d.waiting < n
  stays : All (λ s. s.column < n) d.stays
  marks : All (λ m. m.column < n) d.marks
  waits : All (λ w. w.column < n) d.waits

task_inside : (tasks task : ℕ) → column_of_task tasks task < tasks + 1
task_inside tasks task = grind (arith, nat_tests)

event_inside : (tasks : ℕ) (e : Event) → column_of tasks e < tasks + 1
event_inside tasks (Begin task op) = task_inside tasks task
event_inside tasks (Step task granted) = task_inside tasks task
event_inside tasks (Kill task) = task_inside tasks task
event_inside tasks (Resize frames) = omega arith

-- what is added, if anything is

pub listed_all : {A : Type 0} (P : A → Type 0) (o : Option A) → IfSome o P → All P (listed o)
listed_all P None h = All-nil P
listed_all P (Some x) h = All-cons P x [] h (All-nil P)

if_stay : (n : ℕ) (b : Bool) (s : Stay) → s.column < n → IfSome (if b then Some s else None) (λ x. x.column < n)
if_stay n true s h = h
if_stay n false s h = tt

left_inside : (n column at : ℕ) (before now : Option OpenStay) (outcome : Outcome) → column < n
    → IfSome (stay_left column at before now outcome) (λ x. x.column < n)
left_inside n column at None now outcome h = tt
left_inside n column at (Some s) now outcome h =
    if_stay n (has_moved s now) (record { column = column; open_stay = s; until = at; next = next_of outcome }) h

in_inside : (n column at : ℕ) (open_stay : Option OpenStay) → column < n → IfSome (stay_in column at open_stay) (λ x. x.column < n)
in_inside n column at None h = tt
in_inside n column at (Some s) h = h

mark_inside : (n column at : ℕ) (sign : Option Sign) → column < n → IfSome (mark_with column at sign) (λ x. x.column < n)
mark_inside n column at None h = tt
mark_inside n column at (Some s) h = h

fails_inside : (n column at : ℕ) (outcome : Outcome) → column < n → IfSome (failure_of column at outcome) (λ x. x.column < n)
fails_inside n column at outcome.Begun h = tt
fails_inside n column at (outcome.Moved to) h = tt
fails_inside n column at (outcome.Blocked holder) h = tt
fails_inside n column at (outcome.Ended answer) h = mark_inside n column at (failed_with answer) h
fails_inside n column at outcome.Marked h = tt
fails_inside n column at (outcome.Resized frames) h = tt
fails_inside n column at (outcome.Refused why) h = tt

blocks_inside : (n column at : ℕ) (event : Event) (outcome : Outcome) → column < n → IfSome (block_of column at event outcome) (λ x. x.column < n)
blocks_inside n column at event outcome.Begun h = tt
blocks_inside n column at event (outcome.Moved to) h = tt
blocks_inside n column at event (outcome.Blocked holder) h = mark_inside n column at (block_behind event holder) h
blocks_inside n column at event (outcome.Ended answer) h = tt
blocks_inside n column at event outcome.Marked h = tt
blocks_inside n column at event (outcome.Resized frames) h = tt
blocks_inside n column at event (outcome.Refused why) h = tt

-- the waits of tasks

if_wait : (n : ℕ) (b : Bool) (w : Wait) → w.column < n → IfSome (if b then None else Some w) (λ x. x.column < n)
if_wait n true w h = tt
if_wait n false w h = h

wait_inside : (n column at : ℕ) (before now : Option Waiting) → column < n
    → IfSome (wait_left column at before now) (λ x. x.column < n)
wait_inside n column at None now h = tt
wait_inside n column at (Some w) now h = if_wait n (is_for now w.holder) (record { column = column; waiting = w; until = at }) h

waits_inside : (n at : ℕ) (before now : List (Option Waiting)) (k : ℕ) → k < n → All (λ w. w.column < n) (waits_left at before now k)
unfolding waits_left
waits_inside n at before now zero h = All-nil (λ w. w.column < n)
waits_inside n at before now (suc k) h =
    All-append (λ w. w.column < n) (waits_left at before now k) _ (waits_inside n at before now k (omega (arith, h)))
    (listed_all (λ w. w.column < n) (wait_left (suc k) at (get_or before k None) (get_or now k None))
    (wait_inside n (suc k) at (get_or before k None) (get_or now k None) h))

pub waiting_count : (core : CoreState) (at : ℕ) (holders : List (Option ℕ)) (before : List (Option Waiting)) (n : ℕ)
    → length (waiting_tasks core at holders before n) ≡ n
unfolding waiting_tasks
waiting_count core at holders before zero = refl
waiting_count core at holders before (suc n) =
    length-append (waiting_tasks core at holders before n) _ ∙ ap (λ (k : ℕ). k + 1) (waiting_count core at holders before n)
    ∙ add-one n

-- an event of one of the columns
after_inside : (tasks at : ℕ) (d : Drawn) (h : Happening) → (config_of h.core).tasks ≡ tasks → Inside (tasks + 1) d
    → Inside (tasks + 1) (after at d h)
unfolding after
after_inside tasks at d h same i =
    record {
      count = length-set d.open_stays column now ∙ i.count;
      tasks =
          let counted = waiting_count h.core at h.holders d.waiting (config_of h.core).tasks in
          omega (arith, counted, same);
      stays =
          All-append (λ s. s.column < tasks + 1) d.stays (listed (stay_left column at before now h.outcome)) i.stays
          (listed_all (λ s. s.column < tasks + 1) (stay_left column at before now h.outcome)
          (left_inside (tasks + 1) column at before now h.outcome there));
      marks =
          All-append (λ m. m.column < tasks + 1)
          ((d.marks ++ listed (mark_of column at h.event h.outcome)) ++ listed (block_of column at h.event h.outcome))
          (listed (failure_of column at h.outcome))
          (All-append (λ m. m.column < tasks + 1) (d.marks ++ listed (mark_of column at h.event h.outcome))
          (listed (block_of column at h.event h.outcome))
          (All-append (λ m. m.column < tasks + 1) d.marks (listed (mark_of column at h.event h.outcome)) i.marks
          (listed_all (λ m. m.column < tasks + 1) (mark_of column at h.event h.outcome)
          (mark_inside (tasks + 1) column at (sign_of h.event h.outcome) there)))
          (listed_all (λ m. m.column < tasks + 1) (block_of column at h.event h.outcome)
          (blocks_inside (tasks + 1) column at h.event h.outcome there)))
          (listed_all (λ m. m.column < tasks + 1) (failure_of column at h.outcome)
          (fails_inside (tasks + 1) column at h.outcome there));
      waits =
          All-append (λ w. w.column < tasks + 1) d.waits (waits_left at d.waiting (waiting_then at d h) (length d.waiting)) i.waits
          (waits_inside (tasks + 1) at d.waiting (waiting_then at d h) (length d.waiting) i.tasks);
    }
  where
    column : ℕ
    column = column_of (config_of h.core).tasks h.event

    before : Option OpenStay
    before = get_or d.open_stays column None

    now : Option OpenStay
    now = open_stay_after before at h.event h.outcome (phase_in h.core column)

    there : column < tasks + 1
    there = subst (λ (n : ℕ). column < n + 1) same (event_inside (config_of h.core).tasks h.event)

-- the config stays
pub row_keeps : (old new : CoreState) (e : Event) (outcome : Outcome) → Row old e outcome new → config_of new ≡ config_of old
unfolding Row config_of
row_keeps old new e outcome row = row.1

-- one event after the other
all_inside : (tasks at : ℕ) (d : Drawn) (old new : CoreState) (list : List Happening) → (config_of old).tasks ≡ tasks
    → Happens old list new → Inside (tasks + 1) d → Inside (tasks + 1) (after_all at d list)
unfolding after_all
all_inside tasks at d old new [] same happens i = i
all_inside tasks at d old new (h ∷ more) same happens i =
    all_inside tasks (suc at) (after at d h) h.core new more kept happens.1 (after_inside tasks at d h kept i)
  where
    kept : (config_of h.core).tasks ≡ tasks
    kept = ap (λ (s : Sizes). s.tasks) (row_keeps old h.core h.event h.outcome happens.0.0) ∙ same

-- the calls in flight at the end
flight_inside : (at : ℕ) (open_stays : List (Option OpenStay)) (n : ℕ) → All (λ s. s.column < n) (stays_in at open_stays n)
unfolding stays_in
flight_inside at open_stays zero = All-nil (λ s. s.column < 0)
flight_inside at open_stays (suc n) =
    All-append (λ s. s.column < suc n) (stays_in at open_stays n) _
    (All-weaker (λ s. s.column < n) (λ s. s.column < suc n) (λ s lt. omega (arith, lt)) (stays_in at open_stays n)
    (flight_inside at open_stays n))
    (listed_all (λ s. s.column < suc n) _ (in_inside (suc n) n at _ (omega arith)))

pub opened : (config : Config) (first : CoreState) → IsOpening config first → config_of first ≡ sizes config
unfolding IsOpening config_of
opened config first opening = opening.0

nothing_inside : (tasks : ℕ) → Inside (tasks + 1) (nothing_drawn tasks)
nothing_inside tasks =
    record {
      count = length-replicate (tasks + 1) None;
      tasks = omega arith;
      stays = All-nil (λ s. s.column < tasks + 1);
      marks = All-nil (λ m. m.column < tasks + 1);
      waits = All-nil (λ w. w.column < tasks + 1);
    }

run_inside : (s : Sizes) (events : List Event) (d : Drawn) (r : IsDrawn s events d)
    → Inside (s.tasks + 1) (after_all 0 (nothing_drawn s.tasks) r.happenings)
run_inside s events d r =
    all_inside s.tasks 0 (nothing_drawn s.tasks) r.first r.new r.happenings
    (ap (λ (z : Sizes). z.tasks) (opened r.config r.first r.opening ∙ r.sizes_are)) r.happens (nothing_inside s.tasks)

-- what is drawn of a run has a column for each task, and one for what is of none
pub columns_count : (s : Sizes) (events : List Event) (d : Drawn) → IsDrawn s events d → length d.open_stays ≡ s.tasks + 1
columns_count s events d r = ap (λ (x : Drawn). length x.open_stays) r.is ∙ (run_inside s events d r).count

-- and all stands in them
pub in_columns : (s : Sizes) (events : List Event) (d : Drawn) → IsDrawn s events d → InColumns d
in_columns s events d r = subst InColumns (sym r.is) whole
  where
    ran : Drawn
    ran = after_all 0 (nothing_drawn s.tasks) r.happenings

    i : Inside (s.tasks + 1) ran
    i = run_inside s events d r

    whole : InColumns (record {
      open_stays = ran.open_stays;
      stays = ran.stays ++ stays_in (length r.happenings) ran.open_stays (length ran.open_stays);
      marks = ran.marks;
      numbers = ran.numbers;
      waiting = ran.waiting;
      waits = ran.waits ++ waits_left (length r.happenings) ran.waiting [] (length ran.waiting);
    })
    whole =
        record {
          stays =
              All-append (λ s. s.column < length ran.open_stays) ran.stays _
              (subst (λ (n : ℕ). All (λ s. s.column < n) ran.stays) (sym i.count) i.stays)
              (flight_inside (length r.happenings) ran.open_stays (length ran.open_stays));
          marks = subst (λ (n : ℕ). All (λ m. m.column < n) ran.marks) (sym i.count) i.marks;
          waits =
              All-append (λ w. w.column < length ran.open_stays) ran.waits _
              (subst (λ (n : ℕ). All (λ w. w.column < n) ran.waits) (sym i.count) i.waits)
              (waits_inside (length ran.open_stays) (length r.happenings) ran.waiting [] (length ran.waiting)
              (subst (λ (n : ℕ). length ran.waiting < n) (sym i.count) i.tasks));
        }

-- they are few
pub few_columns : (a b c d n : ℕ) → n ≡ d + 1 → IsWithinLimits a b c d → n ≤ 65
few_columns a b c d n count h = grind (arith, nat_tests, count, h)
