-- No object of a run has a `<`: no name of a key has one, no word, and no number.
use Rattle.std.proofs.Common.{◌≡◌, ◌≢◌, ℕ, ℤ, zero, suc, ◌<◌, Bool, true, false, List, [], ◌∷◌, ◌++◌, Option, All, arith, pos, negsuc}
use Rattle.std.proofs.Common.{refl, rules, subst, sym, ap, ◌∙◌}
use Rattle.std.specs.Prelude.{codes, if◌then◌else◌, ◌==◌, ◌/◌, ◌%◌, ◌&&◌, Some, None, not, slice_index_or}
use Rattle.std.specs.Fmt.{decimal, signed_decimal, digits, digits_onto, digit_glyph}
use Rattle.std.proofs.lemmas.Bool.{and_from, and_parts, eq-eqb, true≢false}
use Rattle.std.proofs.lemmas.Bool.Decides.{nat_tests}
use Rattle.std.proofs.lemmas.List.Elements.{All-nil, All-cons}
use Rattle.hp_base.specs.Text.{Sizes, alloc_word, step_word}
use Rattle.hp_base.specs.declared.answer.Answer.{Answer}
use Rattle.hp_base.specs.declared.answer.Answer.TheVariants as answer
use Rattle.hp_base.specs.declared.event.Event.{Event}
use Rattle.hp_base.specs.declared.event.Event.TheVariants.{Begin, Step, Kill, Resize}
use Rattle.hp_base.specs.declared.event.Op.{Op}
use Rattle.hp_base.specs.declared.event.Op.TheVariants.{Map, MapNoReserve, Unmap, Load, Store, Alloc, Punch, Truncate, Exit}
use Rattle.hp_core.specs.Acquiring.{acquired_of}
use Rattle.hp_core.specs.Holding.{holding_of}
use Rattle.hp_core.specs.Readers.{phase_of}
use Rattle.hp_core.specs.State.{CoreState}
use Rattle.hp_core.specs.declared.acquiring.Acquired.{Acquired}
use Rattle.hp_core.specs.declared.acquiring.Acquired.TheVariants as wanted
use Rattle.hp_machine.specs.Text.{life_word, phase_word, refusal_word}
use Rattle.hp_machine.specs.declared.outcome.Life.{Life}
use Rattle.hp_machine.specs.declared.outcome.Outcome.{Outcome}
use Rattle.hp_machine.specs.declared.outcome.Outcome.TheVariants as outcome
use Rattle.hp_machine.specs.declared.outcome.Refusal.{Refusal}
use Rattle.hp_machine.specs.declared.phase.Phase.{Phase}
use Rattle.hp_phases.specs.Linux.{linux_word}
use Rattle.hp_phases.specs.declared.linux.Kernel.TheVariants.{Linux6_18}
use Rattle.hp_phases.specs.declared.linux.Locks.{Locks}
use Rattle.hp_watch.specs.Happenings.{Happening}
use Rattle.hp_watch.specs.Linux.{locks_in}
use Rattle.hp_explain.specs.Happenings.{texts_of}
use Rattle.hp_explain.specs.JsonCalls.{at_key, awaited_keys, call_keys, call_keys_at, call_keys_in, change_object, comma_behind}
use Rattle.hp_explain.specs.JsonCalls.{count_keys, end_of_wait_object, held_keys, holds_key, is_same, owes_key, slot_keys, used_key}
use Rattle.hp_explain.specs.JsonCalls.{wait_object, waits_key, waits_objects, wanted_keys, wants_key}
use Rattle.hp_explain.specs.JsonEvents.{answer_keys, by_key, event_key, event_keys, frames_key, linux_key, number_key, numbers_text}
use Rattle.hp_explain.specs.JsonEvents.{op_keys, op_word, outcome_key, outcome_keys, phase_key, place_in, place_of}
use Rattle.hp_explain.specs.JsonEvents.{reason_key, task_key}
use Rattle.hp_explain.specs.JsonObjects.{calls_key, comma_before, end_object, file_keys, file_object, files_key, files_objects, object_text}
use Rattle.hp_explain.specs.JsonObjects.{objects_text, page_keys, pool_object, quota_key, shown_object, task_keys, task_object, tasks_key}
use Rattle.hp_explain.specs.JsonObjects.{tasks_objects}
use Rattle.hp_explain.specs.JsonRuns.{Objects, SomeObjects, ObjectsBegun}
use Rattle.hp_explain.specs.Views.{is_shown}
use Rattle.hp_explain.specs.declared.view.View.{View}

-- ---- texts

-- no character is `<`
abbrev is_plain : List ℕ → Bool
is_plain [] = true
is_plain (c ∷ text) = not (c == 60) && is_plain text

record Plain (text : List ℕ) : Type 0 where
  is : is_plain text ≡ true

both : (xs ys : List ℕ) → is_plain xs ≡ true → is_plain ys ≡ true → is_plain (xs ++ ys) ≡ true
both [] ys p q = q
both (x ∷ xs) ys p q =
    let parts = and_parts (not (x == 60)) (is_plain xs) p in
    and_from (not (x == 60)) (is_plain (xs ++ ys)) parts.0 (both xs ys parts.1 q)

joined : (xs ys : List ℕ) → Plain xs → Plain ys → Plain (xs ++ ys)
joined xs ys p q = record { is = both xs ys p.is q.is }

chosen : (b : Bool) (xs ys : List ℕ) → Plain xs → Plain ys → Plain (if b then xs else ys)
chosen true xs ys p q = p
chosen false xs ys p q = q

one_more : (c : ℕ) (text : List ℕ) → not (c == 60) ≡ true → Plain text → Plain (c ∷ text)
one_more c text first p = record { is = and_from (not (c == 60)) (is_plain text) first p.is }

nothing : Plain []
nothing = record { is = refl }

-- ---- numbers

digit : (d : ℕ) → d < 10 → not (digit_glyph false d == 60) ≡ true
digit d lt = grind (arith, nat_tests)

digits_plain : (k n : ℕ) (behind : List ℕ) → Plain behind → Plain (digits_onto k 10 false n behind)
digits_plain zero n behind p = p
digits_plain (suc k) n behind p =
    let more : Plain (digit_glyph false (n % 10) ∷ behind) =
    one_more (digit_glyph false (n % 10)) behind (digit (n % 10) (omega arith)) p in
    chosen (n / 10 == 0) _ _ more (digits_plain k (n / 10) (digit_glyph false (n % 10) ∷ behind) more)

number : (n : ℕ) → Plain (decimal n)
unfolding digits
number n = digits_plain 64 n [] nothing

signed : (z : ℤ) → Plain (signed_decimal z)
signed (pos n) = number n
signed (negsuc n) = one_more 45 (decimal (suc n)) refl (number (suc n))

-- ---- words

linux_plain : (p : Phase) (locks : Locks) → Plain (linux_word Linux6_18 p locks)
linux_plain p locks = search rules

phase_plain : (p : Phase) → Plain (phase_word p)
phase_plain p = search rules

refusal_plain : (r : Refusal) → Plain (refusal_word r)
refusal_plain r = search rules

life_plain : (l : Life) → Plain (life_word l)
life_plain l = search rules

alloc_plain : (keep : Bool) → Plain (alloc_word keep)
alloc_plain true = record { is = refl }
alloc_plain false = record { is = refl }

step_plain : (granted : Bool) → Plain (step_word granted)
step_plain true = record { is = refl }
step_plain false = record { is = refl }

op_plain : (op : Op) → Plain (op_word op)
op_plain (Map file from len) = record { is = refl }
op_plain (MapNoReserve file from len) = record { is = refl }
op_plain (Unmap base) = record { is = refl }
op_plain (Load vpn) = record { is = refl }
op_plain (Store vpn word) = record { is = refl }
op_plain (Alloc file from len keep) = alloc_plain keep
op_plain (Punch file from len) = record { is = refl }
op_plain (Truncate file new) = record { is = refl }
op_plain Exit = record { is = refl }

-- ---- events

numbers_plain : (list : List ℕ) → Plain (numbers_text list)
numbers_plain [] = nothing
numbers_plain (n ∷ []) = number n
numbers_plain (n ∷ m ∷ more) = joined (decimal n) _ (number n) (joined (codes ",") _ (record { is = refl }) (numbers_plain (m ∷ more)))

op_keys_plain : (op : Op) → Plain (op_keys op)
unfolding op_keys
op_keys_plain op = search (joined, op_plain, numbers_plain)

event_plain : (e : Event) → Plain (event_keys e)
unfolding task_key event_key frames_key
event_plain (Begin task op) = search (joined, number, op_keys_plain)
event_plain (Step task granted) = search (joined, number, step_plain)
event_plain (Kill task) = search (joined, number)
event_plain (Resize frames) = search (joined, number)

place_plain : (held : Option (ℕ × ℕ)) (wants : Acquired) → Plain (place_of held wants)
place_plain (Some at) wants = search (joined, number)
place_plain None wanted.Nothing = nothing
place_plain None (wanted.Lock file) = nothing
place_plain None (wanted.Slot file index) = search (joined, number)

place_in_plain : (core : CoreState) (column : ℕ) → Plain (place_in core column)
unfolding place_in
place_in_plain core column =
    chosen (column == 0) [] _ nothing (place_plain (holding_of core column).slot (acquired_of core column))

answer_plain : (a : Answer) → Plain (answer_keys a)
unfolding answer_keys
answer_plain (answer.Mapped base) = search (joined, number)
answer_plain (answer.Word word) = search (joined, number)
answer_plain answer.Done = record { is = refl }
answer_plain answer.Segv = record { is = refl }
answer_plain answer.Beyond = record { is = refl }
answer_plain answer.NoFrame = record { is = refl }
answer_plain answer.NoQuota = record { is = refl }
answer_plain answer.NoMemory = record { is = refl }
answer_plain answer.Interrupted = record { is = refl }
answer_plain answer.Killed = record { is = refl }
answer_plain answer.BadFile = record { is = refl }
answer_plain answer.BadRange = record { is = refl }
answer_plain answer.NotMapped = record { is = refl }
answer_plain answer.NoAddress = record { is = refl }

done_plain : (core : CoreState) (column : ℕ) (from : Option Phase) → Plain (linux_key core column from)
unfolding linux_key
done_plain core column None = nothing
done_plain core column (Some from) =
    joined (codes ",\"linux\":\"") _ (record { is = refl })
    (joined (linux_word Linux6_18 from (locks_in core column)) (codes "\"") (linux_plain from (locks_in core column)) (record { is = refl }))

outcome_plain : (core : CoreState) (e : Event) (from : Option Phase) (o : Outcome) → Plain (outcome_keys core e from o)
unfolding outcome_key by_key number_key reason_key phase_key
outcome_plain core e from outcome.Begun = record { is = refl }
outcome_plain core e from (outcome.Moved phase) = search (joined, phase_plain, done_plain, place_in_plain) depth 30
outcome_plain core e from (outcome.Blocked holder) = search (joined, number)
outcome_plain core e from (outcome.Ended answer) = search (joined, answer_plain)
outcome_plain core e from outcome.Marked = record { is = refl }
outcome_plain core e from (outcome.Resized frames) = search (joined, number)
outcome_plain core e from (outcome.Refused refusal) = search (joined, refusal_plain)

-- ---- calls, counts and waits

slot_plain : (core : CoreState) (file index : ℕ) → Plain (slot_keys core file index)
unfolding slot_keys
slot_plain core file index = search (joined, number) depth 30

held_plain : (core : CoreState) (slot : Option (ℕ × ℕ)) (lock : Option ℕ) → Plain (held_keys core slot lock)
unfolding held_keys
held_plain core None None = nothing
held_plain core None (Some file) = search (joined, number)
held_plain core (Some at) None = slot_plain core at.0 at.1
held_plain core (Some at) (Some file) = search (joined, number, slot_plain)

wanted_plain : (core : CoreState) (wants : Acquired) → Plain (wanted_keys core wants)
unfolding wanted_keys
wanted_plain core wanted.Nothing = nothing
wanted_plain core (wanted.Lock file) = search (joined, number)
wanted_plain core (wanted.Slot file index) = slot_plain core file index

awaited_plain : (core : CoreState) (wants : Acquired) → Plain (awaited_keys core wants)
unfolding awaited_keys
awaited_plain core wanted.Nothing = nothing
awaited_plain core (wanted.Lock file) = search (joined, number)
awaited_plain core (wanted.Slot file index) = search (joined, slot_plain)

call_plain : (core : CoreState) (task : ℕ) (p : Option Phase) → Plain (call_keys_at core task p)
unfolding call_keys at_key holds_key wants_key owes_key
call_plain core task None = nothing
call_plain core task (Some phase) = search (joined, phase_plain, held_plain, wanted_plain, signed) depth 30

call_in_plain : (core : CoreState) (column : ℕ) → Plain (call_keys_in core column)
call_in_plain core column = chosen (column == 0) [] _ nothing (call_plain core column (phase_of core column))

used_plain : (quota : Option ℕ) (core : CoreState) → Plain (used_key quota core)
used_plain None core = nothing
used_plain (Some pages) core = search (joined, number)

counts_plain : (core : CoreState) → Plain (count_keys core)
unfolding count_keys
counts_plain core = search (joined, number, signed, used_plain) depth 30

change_plain : (core : CoreState) (task : ℕ) (holder : Option ℕ) → Plain (change_object core task holder)
unfolding wait_object end_of_wait_object
change_plain core task None = search (joined, number)
change_plain core task (Some holder) = search (joined, number, awaited_plain) depth 30

comma_behind_plain : (text : List ℕ) → Plain text → Plain (comma_behind text)
unfolding comma_behind
comma_behind_plain [] p = nothing
comma_behind_plain (c ∷ text) p = joined (c ∷ text) (codes ",") p (record { is = refl })

waits_plain : (core : CoreState) (before after : List (Option ℕ)) (n : ℕ) → Plain (waits_objects core before after n)
unfolding waits_objects
waits_plain core before after zero = nothing
waits_plain core before after (suc n) =
    chosen (is_same (slice_index_or before n None) (slice_index_or after n None)) _ _ (waits_plain core before after n)
    (joined (comma_behind (waits_objects core before after n)) _
    (comma_behind_plain (waits_objects core before after n) (waits_plain core before after n))
    (change_plain core (suc n) (slice_index_or after n None)))

waits_key_plain : (waits : List ℕ) → Plain waits → Plain (waits_key waits)
unfolding waits_key
waits_key_plain [] p = nothing
waits_key_plain (c ∷ waits) p =
    joined (codes ",\"waits\":[") _ (record { is = refl }) (joined (c ∷ waits) (codes "]") p (record { is = refl }))

-- ---- objects

quota_plain : (quota : Option ℕ) → Plain (quota_key quota)
quota_plain None = nothing
quota_plain (Some pages) = search (joined, number)

pool_plain : (s : Sizes) → Plain (pool_object s)
pool_plain s = search (joined, number, quota_plain) depth 30

object_plain : (line : ℕ) (before : List (Option ℕ)) (h : Happening) → Plain (object_text line before h)
object_plain line before h =
    search (joined, number, event_plain, outcome_plain, call_in_plain, counts_plain, waits_key_plain, waits_plain) depth 30

objects_plain : (v : View) (line : ℕ) (before : List (Option ℕ)) (list : List Happening) → Plain (objects_text v line before list)
unfolding texts_of
objects_plain v line before [] = nothing
objects_plain v line before (h ∷ more) =
    joined (shown_object v line before h) _ (chosen (is_shown v line h.event) _ [] (object_plain line before h) nothing)
    (objects_plain v (suc line) h.holders more)

comma_before_plain : (n : ℕ) → Plain (comma_before n)
comma_before_plain n = chosen (n == 0) [] (codes ",") nothing (record { is = refl })

file_plain : (core : CoreState) (file : ℕ) → Plain (file_object core file)
unfolding file_object file_keys page_keys
file_plain core file = search (joined, number) depth 30

task_plain : (core : CoreState) (task : ℕ) → Plain (task_object core task)
unfolding task_object task_keys
task_plain core task = search (joined, number, life_plain, call_plain) depth 30

files_plain : (core : CoreState) (n : ℕ) → Plain (files_objects core n)
unfolding files_objects
files_plain core zero = nothing
files_plain core (suc n) =
    joined (files_objects core n) _ (files_plain core n) (joined (comma_before n) _ (comma_before_plain n) (file_plain core n))

tasks_plain : (core : CoreState) (n : ℕ) → Plain (tasks_objects core n)
unfolding tasks_objects
tasks_plain core zero = nothing
tasks_plain core (suc n) =
    joined (tasks_objects core n) _ (tasks_plain core n) (joined (comma_before n) _ (comma_before_plain n) (task_plain core (suc n)))

end_plain : (core : CoreState) → Plain (end_object core)
unfolding end_object calls_key files_key tasks_key
end_plain core = search (joined, number, counts_plain, files_plain, tasks_plain) depth 30

-- ---- whole runs

-- each character differs
each_differs : (text : List ℕ) → is_plain text ≡ true → All (λ c. c ≢ 60) text
each_differs [] is = All-nil (λ c. c ≢ 60)
each_differs (c ∷ text) is =
    let parts = and_parts (not (c == 60)) (is_plain text) is in
    All-cons (λ c. c ≢ 60) c text (λ same. true≢false (sym parts.0 ∙ ap not (eq-eqb c 60 same))) (each_differs text parts.1)

begun_plain : (v : View) (s : Sizes) (events rest : List Event) (new : CoreState) (text : List ℕ) → ObjectsBegun v s events rest new text
    → Plain text
begun_plain v s events rest new text b =
    subst Plain (sym b.is)
    (joined (pool_object s) (objects_text v 2 b.waited b.happenings) (pool_plain s) (objects_plain v 2 b.waited b.happenings))

pub no_less_in_some : (v : View) (s : Sizes) (events : List Event) (text : List ℕ) → SomeObjects v s events text → All (λ c. c ≢ 60) text
no_less_in_some v s events text o = each_differs text (begun_plain v s events o.rest o.new text o.begun).is

pub no_less : (v : View) (s : Sizes) (events : List Event) (text : List ℕ) → Objects v s events text → All (λ c. c ≢ 60) text
no_less v s events text o =
    each_differs text
    (subst Plain (sym o.is)
    (joined o.front (end_object o.new) (begun_plain v s events [] o.new o.front o.begun) (end_plain o.new))).is
