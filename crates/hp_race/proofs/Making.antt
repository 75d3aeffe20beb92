-- Calls that are made one after the other.
use Rattle.std.proofs.Common.{◌≡◌, ℕ, suc, ◌+◌, add-one, drop-cons, get_or, ◌<◌, List, [], ◌∷◌, ◌++◌, Bool, refl, sym, ap}
use Rattle.std.proofs.Common.{subst, ◌∙◌, length, length-append, arith, take, drop, ◌≤◌, inl, inr}
use Rattle.std.specs.Prelude.{true, false, not, filter, nat_lt, ◌||◌, ◌&&◌, ◌==◌, All, OnOk, Ok, Err, Result, Some, is_err, slice_get}
use Rattle.std.specs.List.{Any}
use Rattle.std.proofs.lemmas.List.Filters.{length-filter_both}
use Rattle.std.proofs.lemmas.Bool.{and_parts, cases_Bool, eq-eqb, eqb-true, false≢true, ltb-false, or_left, or_right, true≢false}
use Rattle.std.proofs.lemmas.List.{append-nil, drop_all, get_or_append_left, length-map, take_all}
use Rattle.std.proofs.lemmas.List.Folds.{list_any-append}
use Rattle.std.proofs.lemmas.Option.{get_or_from_slice_get}
use Rattle.std.proofs.lemmas.List.Elements.{All-head, All-push, All-tail, All-weaker}
use Rattle.std.proofs.lemmas.List.Quantifiers.{Any-push}
use Rattle.hp_base.specs.declared.event.Op.{Op}
use Rattle.hp_text.specs.Scripts.{calls_of}
use Rattle.hp_text.specs.declared.script.Script.{Script}
use Rattle.hp_shared.specs.declared.entry.Entry.{Entry}
use Rattle.hp_shared.specs.declared.fault.Reply.{Reply}
use Rattle.hp_shared.specs.declared.fault.Reply.TheVariants.{Ended, Refused}
use Rattle.hp_shared.specs.Calls.{AllMoved, BegunThen, Gained}
use Rattle.hp_shared.specs.Replies.{CallRefused, IsCall}
use Rattle.hp_shared.specs.Seats.{new_seat}
use Rattle.hp_shared.specs.States.{SeatState}
use Rattle.hp_machine.specs.Events.{is_exit}
use Rattle.hp_machine.specs.declared.outcome.Refusal.{Refusal}
use Rattle.hp_machine.specs.declared.outcome.Refusal.TheVariants.{NotAlive, InCall, Idle, BadSize}
use Rattle.hp_race.specs.Calls.{CallAnswered, CallEndsBy, CallFailed, CallMade, CallStrayed, CallsLeft, CallsMade, CallsStrayed}
use Rattle.hp_race.specs.Calls.{CallsUpTo, EndsBy, IsLeft, MayKill, ending_of, is_not_alive, may_end, met}
use Rattle.hp_race.specs.Racers.{AreFoundAs, AreFoundInAs, HasLeft, HasLeftIn, HasMadeBut, HasMadeBy, HasMadeIn, HasMadeInBut, HasMadeInBy}
use Rattle.hp_race.specs.Racers.{HasRun, HasStrayed, HasStrayedIn, IsNew, are_gone_in, calls_in, is_among, is_gone, is_gone_in}
use Rattle.hp_core.specs.State.{CoreState}
use Rattle.hp_race.specs.Parts.{call_range}
use Rattle.hp_race.specs.declared.call_range.CallRange.{CallRange}
use Rattle.hp_race.specs.declared.racer.RacerResult.{RacerResult}
use Rattle.hp_race.specs.declared.racer.RacerResult.TheVariants.{Made, Killed, Astray, Late}

-- a list that is no longer gained nothing
gained_none : (task : ℕ) (op : Op) (old new : List Entry) → Gained old new (BegunThen task op (AllMoved task))
    → length new ≡ length old → new ≡ old
gained_none task op old new had same =
    let longer : length new ≡ length old + length had.0 = ap length had.1 ∙ length-append old had.0 in
    let some : length had.0 ≡ length (had.2.0 ∷ had.2.1) = ap length had.2.2 in
    absurd (omega (arith, longer, some, same))

refused_nothing : (task : ℕ) (op : Op) (why : Refusal) (old new : List Entry) → CallRefused task op why old new
    → length new ≡ length old → new ≡ old
refused_nothing task op why old new (inl is) same = is.2
refused_nothing task op why old new (inr (inl is)) same = is.1
refused_nothing task op why old new (inr (inr had)) same = gained_none task op old new had.1 same

-- a call that ended as it may was answered, or refused where its task may have been killed
answered : (task : ℕ) (gone : Bool) (op : Op) (reply : Reply) (old new : List Entry) → IsCall task op reply old new
    → may_end false gone reply (length old) (length new) ≡ true → CallAnswered task gone op old new
answered task false op (Ended answer) old new is may = (answer, is)
answered task false op (Refused why) old new is may = absurd (false≢true may)
answered task true op (Ended answer) old new is may = absurd (false≢true may)
answered task true op (Refused why) old new is may =
    let same = and_parts (is_not_alive why) (length new == length old) may in
    refused_nothing task op why old new is (eqb-true (length new) (length old) same.1)

refused : (task : ℕ) (op : Op) (why : Refusal) (old new : List Entry) → IsCall task op (Refused why) old new
    → (is_not_alive why && length new == length old) ≡ true → IsCall task op (Refused NotAlive) old new × (new ≡ old)
refused task op NotAlive old new is may = (is, refused_nothing task op NotAlive old new is (eqb-true (length new) (length old) may))
refused task op InCall old new is may = absurd (false≢true may)
refused task op Idle old new is may = absurd (false≢true may)
refused task op BadSize old new is may = absurd (false≢true may)

-- a call behind a kill, if there was one, that ended as it may was answered, or refused
met_so : (mortal : Bool) (tasks task : ℕ) (gone : Bool) (op : Op) (reply : Reply) (old mid new : List Entry)
    → (mortal ≡ false → mid ≡ old) → MayKill tasks old mid → IsCall task op reply mid new
    → may_end mortal gone reply (length mid) (length new) ≡ true → CallEndsBy (met gone reply) mortal tasks task gone op old new
met_so false tasks task false op (Ended answer) old mid new never kill is may =
    subst (λ (l : List Entry). CallAnswered task false op l new) (never refl) (answer, is)
met_so false tasks task false op (Refused why) old mid new never kill is may = absurd (false≢true may)
met_so false tasks task true op reply old mid new never kill is may =
    subst (λ (l : List Entry). CallAnswered task true op l new) (never refl) (answered task true op reply mid new is may)
met_so true tasks task false op (Ended answer) old mid new never kill is may = (mid, kill, (answer, is))
met_so true tasks task false op (Refused why) old mid new never kill is may = (mid, kill, inr (refused task op why mid new is may))
met_so true tasks task true op (Ended answer) old mid new never kill is may = absurd (false≢true may)
met_so true tasks task true op (Refused why) old mid new never kill is may = (mid, kill, (refused task op why mid new is may).1)

-- one that didn't strayed
strayed_so : (mortal : Bool) (tasks task : ℕ) (gone : Bool) (op : Op) (reply : Reply) (old mid new : List Entry)
    → (mortal ≡ false → mid ≡ old) → MayKill tasks old mid → IsCall task op reply mid new
    → may_end mortal gone reply (length mid) (length new) ≡ false → CallStrayed mortal tasks task gone op old new
strayed_so false tasks task gone op reply old mid new never kill is may =
    subst (λ (l : List Entry). CallFailed false task gone op l new) (never refl) (reply, is, may)
strayed_so true tasks task gone op reply old mid new never kill is may = (mid, kill, (reply, is, may))

-- without a chance of kills none was made
never_by : (kill : ℕ) (old mid : List Entry) → (kill ≡ 0 → mid ≡ old) → nat_lt 0 kill ≡ false → mid ≡ old
never_by kill old mid never none = never (omega (arith, ltb-false 0 kill none))

-- a call that is made behind a kill, if there was one, by what is known of both
module _ (kill tasks task t : ℕ) (gone mortal may : Bool) (op : Op) (reply : Reply) (old mid new l m : List Entry) (same : t ≡ task)
    (is_mid : l ≡ mid) (is_new : m ≡ new) (is : mortal ≡ nat_lt 0 kill) (never : kill ≡ 0 → mid ≡ old) (killed : MayKill tasks old mid)
    (call : IsCall t op reply mid new) (ends : may ≡ may_end mortal gone reply (length l) (length m)) where
  ends_so : may ≡ may_end (nat_lt 0 kill) gone reply (length mid) (length new)
  ends_so =
      ends ∙ ap (λ (b : Bool). may_end b gone reply (length l) (length m)) is
      ∙ ap (λ (x : List Entry). may_end (nat_lt 0 kill) gone reply (length x) (length m)) is_mid
      ∙ ap (λ (x : List Entry). may_end (nat_lt 0 kill) gone reply (length mid) (length x)) is_new

  call_so : IsCall task op reply mid new
  call_so = subst (λ (n : ℕ). IsCall n op reply mid new) same call

  pub call_made : may ≡ true → (ending : RacerResult) → ending ≡ met gone reply → CallEndsBy ending (nat_lt 0 kill) tasks task gone op old new
  call_made good ending met_is =
      subst (λ (e : RacerResult). CallEndsBy e (nat_lt 0 kill) tasks task gone op old new) (sym met_is)
      (met_so (nat_lt 0 kill) tasks task gone op reply old mid new (never_by kill old mid never) killed call_so (sym ends_so ∙ good))

  pub call_strayed : may ≡ false → CallStrayed (nat_lt 0 kill) tasks task gone op old new
  call_strayed bad =
      strayed_so (nat_lt 0 kill) tasks task gone op reply old mid new (never_by kill old mid never) killed call_so (sym ends_so ∙ bad)

-- a kill that was made, or found nobody to be killed
pub struck : {E : Type 0} (r : Result (Unit {0}) E) (P : Type 0) → is_err r ≡ false → OnOk r P → P
struck (Ok unit) P good had = had
struck (Err fault) P good had = absurd (true≢false good)

-- what is found in a list is found in a longer one
any_before : {X : Type 0} (P : X → Type 0) (xs ys : List X) → Any P xs → Any P (xs ++ ys)
any_before P xs ys had =
    let longer = length-append xs ys in
    let there : had.0 < length (xs ++ ys) = omega (arith, longer, had.2) in
    (had.0, had.1, there, get_or_append_left xs ys had.1 had.0 had.2 ∙ had.3, had.4)

-- what a call made where none was refused, it made where some may be
looser_call : (mortal few more : Bool) (tasks task : ℕ) (gone : Bool) (op : Op) (old new : List Entry) → (few ≡ true → more ≡ true)
    → CallMade mortal few tasks task gone op old new → CallMade mortal more tasks task gone op old new
looser_call false few more tasks task gone op old new so made = made
looser_call true false false tasks task gone op old new so made = made
looser_call true false true tasks task gone op old new so made = (made.0, made.1, inl made.2)
looser_call true true more tasks task gone op old new so made =
    subst (λ (b : Bool). CallMade true b tasks task gone op old new) (sym (so refl)) made

-- so did all calls
pub looser : (mortal few more : Bool) (tasks task : ℕ) (gone : Bool) (ops : List Op) (old new : List Entry) → (few ≡ true → more ≡ true)
    → CallsMade mortal few tasks task gone ops old new → CallsMade mortal more tasks task gone ops old new
looser mortal few more tasks task gone [] old new so made = made
looser mortal few more tasks task gone (op ∷ ops) old new so made = (
  made.0,
  looser_call mortal few more tasks task gone op old made.0 so made.1,
  looser mortal few more tasks task (gone || is_exit op) ops made.0 new so made.2,
)

-- what is among some tasks is among these and more
among_more : (xs ys : List ℕ) (task : ℕ) → is_among xs task ≡ true → is_among (xs ++ ys) task ≡ true
among_more xs ys task is =
    let same = list_any-append (λ (t : ℕ). t == task) xs ys in
    same ∙ or_left (is_among xs task) (is_among ys task) is

among_last : (xs : List ℕ) (task : ℕ) → is_among (xs ++ task ∷ []) task ≡ true
among_last xs task =
    let same = list_any-append (λ (t : ℕ). t == task) xs (task ∷ []) in
    same ∙ or_right (is_among xs task) (is_among (task ∷ []) task) (or_left (task == task) false (eq-eqb task task refl))

-- seats that made their calls, of which some of these tasks were refused, and of more
but_more : (mortal : Bool) (script : Script) (call_range : CallRange) (xs ys : List ℕ) (seats : List SeatState)
    → All (HasMadeInBut mortal script call_range xs) seats → All (HasMadeInBut mortal script call_range (xs ++ ys)) seats
but_more mortal script call_range xs ys seats had =
    All-weaker (HasMadeInBut mortal script call_range xs) (HasMadeInBut mortal script call_range (xs ++ ys))
    (λ s made.
    looser mortal (is_among xs s.task) (is_among (xs ++ ys) s.task) script.config.tasks s.task
    (is_gone call_range (calls_of script.calls.items s.task)) (calls_in call_range (calls_of script.calls.items s.task)) [] s.list
    (among_more xs ys s.task) made) seats had

-- what was found of the racers' seats so far, and of one more
module _ (mortal : Bool) (script : Script) (call_range : CallRange) (tasks : List ℕ) (seats now : List SeatState) (s : SeatState)
    (ending : RacerResult) (ran : HasRun mortal script call_range ending s) (added : now ≡ seats ++ s ∷ []) where
  some_now : (P : SeatState → Type 0) → Any P seats → Any P now
  some_now P some = subst (λ (l : List SeatState). Any P l) (sym added) (any_before P seats (s ∷ []) some)

  one_now : (P : SeatState → Type 0) → P s → Any P now
  one_now P is = subst (λ (l : List SeatState). Any P l) (sym added) (Any-push P seats s is)

  -- that made its calls
  gathered : (more : List ℕ) (astray late : Bool) → AreFoundInAs mortal astray late script call_range tasks seats
      → HasMadeInBut mortal script call_range (tasks ++ more) s
      → AreFoundInAs mortal astray late script call_range (tasks ++ more) now
  gathered more true late some is = some_now (HasStrayedIn mortal script call_range) some
  gathered more false true some is = some_now (HasLeftIn mortal script call_range) some
  gathered more false false all is =
      subst (λ (l : List SeatState). All (HasMadeInBut mortal script call_range (tasks ++ more)) l) (sym added)
      (All-push (HasMadeInBut mortal script call_range (tasks ++ more)) seats s (but_more mortal script call_range tasks more seats all) is)

  own_of : (more : List ℕ) (few : Bool) → (few ≡ true → is_among (tasks ++ more) s.task ≡ true) → HasMadeIn mortal few script call_range s
      → HasMadeInBut mortal script call_range (tasks ++ more) s
  own_of more few so is =
      looser mortal few (is_among (tasks ++ more) s.task) script.config.tasks s.task
      (is_gone call_range (calls_of script.calls.items s.task)) (calls_in call_range (calls_of script.calls.items s.task)) [] s.list so is

  module _ (astray late : Bool) (had : AreFoundInAs mortal astray late script call_range tasks seats) (a l : Bool) (all : List ℕ) where
    as_found : (more : List ℕ) → a ≡ astray → l ≡ late → all ≡ tasks ++ more
        → AreFoundInAs mortal astray late script call_range (tasks ++ more) now → AreFoundInAs mortal a l script call_range all now
    as_found more a_is l_is all_is is =
        subst (λ (x : Bool). AreFoundInAs mortal x l script call_range all now) (sym a_is)
        (subst (λ (x : Bool). AreFoundInAs mortal astray x script call_range all now) (sym l_is)
        (subst (λ (xs : List ℕ). AreFoundInAs mortal astray late script call_range xs now) (sym all_is) is))

    pub made_too : ending ≡ Made → a ≡ astray → l ≡ late → all ≡ tasks → AreFoundInAs mortal a l script call_range all now
    made_too is a_is l_is all_is =
        as_found [] a_is l_is (all_is ∙ sym (append-nil tasks))
        (gathered [] astray late had
        (own_of [] false (λ no. absurd (false≢true no)) (subst (λ (e : RacerResult). HasRun mortal script call_range e s) is ran)))

    -- of which some were refused, and whose task is noted
    pub refused_too : (task : ℕ) → ending ≡ Killed → a ≡ astray → l ≡ late → task ≡ s.task → all ≡ tasks ++ task ∷ []
        → AreFoundInAs mortal a l script call_range all now
    refused_too task is a_is l_is own all_is =
        as_found (s.task ∷ []) a_is l_is (all_is ∙ ap (λ (t : ℕ). tasks ++ t ∷ []) own)
        (gathered (s.task ∷ []) astray late had
        (own_of (s.task ∷ []) true (λ yes. among_last tasks s.task)
        (subst (λ (e : RacerResult). HasRun mortal script call_range e s) is ran)))

    -- that strayed
    pub strayed_too : ending ≡ Astray → a ≡ true → AreFoundInAs mortal a l script call_range all now
    strayed_too is a_is =
        subst (λ (x : Bool). AreFoundInAs mortal x l script call_range all now) (sym a_is)
        (one_now (HasStrayedIn mortal script call_range) (subst (λ (e : RacerResult). HasRun mortal script call_range e s) is ran))

    -- that left some
    pub left_too : ending ≡ Late → a ≡ astray → l ≡ true → AreFoundInAs mortal a l script call_range all now
    left_too is a_is l_is =
        subst (λ (x : Bool). AreFoundInAs mortal a x script call_range all now) (sym l_is) (by a astray a_is had)
      where
        by : (x was : Bool) → x ≡ was → AreFoundInAs mortal was late script call_range tasks seats
            → AreFoundInAs mortal x true script call_range all now
        by true true same some = some_now (HasStrayedIn mortal script call_range) some
        by true false same some = absurd (true≢false same)
        by false was same some =
            one_now (HasLeftIn mortal script call_range) (subst (λ (e : RacerResult). HasRun mortal script call_range e s) is ran)

-- a task among some, of which each is gone, is gone
gone_among : (core : CoreState) (tasks : List ℕ) (task : ℕ) → are_gone_in core tasks ≡ true → is_among tasks task ≡ true
    → is_gone_in core task ≡ true
gone_among core [] task all is = absurd (false≢true is)
gone_among core (t ∷ tasks) task all is =
    let each = and_parts (is_gone_in core t) (are_gone_in core tasks) all in
    elim (cases_Bool (t == task)) [
      | inl here ↦ subst (λ (n : ℕ). is_gone_in core n ≡ true) (eqb-true t task here) each.0
      | inr there ↦ gone_among core tasks task each.1 (sym (ap (λ (b : Bool). b || is_among tasks task) there) ∙ is)
    ]

-- so where all are gone of which calls were refused, each made its calls, and is gone where some were refused
pub made_by_gone : (mortal : Bool) (script : Script) (core : CoreState) (tasks : List ℕ) (seats : List SeatState)
    → are_gone_in core tasks ≡ true → All (HasMadeBut mortal script tasks) seats → All (HasMadeBy mortal script core) seats
made_by_gone mortal script core tasks seats gone had =
    All-weaker (HasMadeBut mortal script tasks) (HasMadeBy mortal script core)
    (λ s made.
    looser mortal (is_among tasks s.task) (is_gone_in core s.task) script.config.tasks s.task false
    (calls_of script.calls.items s.task) [] s.list (gone_among core tasks s.task gone) made) seats had

pub made_in_by_gone : (mortal : Bool) (script : Script) (call_range : CallRange) (core : CoreState) (tasks : List ℕ)
    (seats : List SeatState) → are_gone_in core tasks ≡ true → All (HasMadeInBut mortal script call_range tasks) seats
    → All (HasMadeInBy mortal script call_range core) seats
made_in_by_gone mortal script call_range core tasks seats gone had =
    All-weaker (HasMadeInBut mortal script call_range tasks) (HasMadeInBy mortal script call_range core)
    (λ s made.
    looser mortal (is_among tasks s.task) (is_gone_in core s.task) script.config.tasks s.task
    (is_gone call_range (calls_of script.calls.items s.task)) (calls_in call_range (calls_of script.calls.items s.task)) [] s.list
    (gone_among core tasks s.task gone) made) seats had

-- a call that was made, each answered or refused
pub made_by : (mortal : Bool) (tasks task t : ℕ) (gone : Bool) (op : Op) (ending : RacerResult) (old new : List Entry) → t ≡ task
    → CallEndsBy ending mortal tasks t gone op old new → ending ≡ Made → CallMade mortal false tasks task gone op old new
made_by mortal tasks task t gone op ending old new same call well =
    subst (λ (n : ℕ). CallMade mortal false tasks n gone op old new) same
    (subst (λ (e : RacerResult). CallEndsBy e mortal tasks t gone op old new) well call)

pub refused_by : (mortal : Bool) (tasks task t : ℕ) (gone : Bool) (op : Op) (ending : RacerResult) (old new : List Entry) → t ≡ task
    → CallEndsBy ending mortal tasks t gone op old new → ending ≡ Killed → CallMade mortal true tasks task gone op old new
refused_by mortal tasks task t gone op ending old new same call well =
    subst (λ (n : ℕ). CallMade mortal true tasks n gone op old new) same
    (subst (λ (e : RacerResult). CallEndsBy e mortal tasks t gone op old new) well call)

-- the next of the calls that are left
next_call : (calls : List Op) (k : ℕ) (op : Op) → k < length calls → op ≡ get_or calls k op → drop k calls ≡ op ∷ drop (k + 1) calls
next_call calls k op below is = rw add-one (drop-cons calls k op below ∙ ap (λ (x : Op). x ∷ drop (suc k) calls) (sym is))

-- a call that is made of those that are left
module _ (mortal : Bool) (tasks task : ℕ) (had gone next leaves here was now : Bool) (calls : List Op) (k : ℕ) (op : Op)
    (start old new : List Entry) (below : k < length calls) (is : op ≡ get_or calls k op)
    (made : CallMade mortal here tasks task gone op old new) (exits : leaves ≡ is_exit op) (gone_next : next ≡ (gone || leaves)) where
  after_of : (P : Bool → Type 0) → P next → P (gone || is_exit op)
  after_of P rest = subst P (gone_next ∙ ap (λ (b : Bool). gone || b) exits) rest

  pub made_on : (here ≡ true → now ≡ true) → (was ≡ true → now ≡ true)
      → ((may : Bool) → (was ≡ true → may ≡ true) → (end : List Entry) → CallsMade mortal may tasks task gone (drop k calls) old end
      → CallsMade mortal may tasks task had calls start end)
      → (may : Bool) → (now ≡ true → may ≡ true) → (end : List Entry) → CallsMade mortal may tasks task next (drop (k + 1) calls) new end
      → CallsMade mortal may tasks task had calls start end
  made_on noted kept before may allowed end rest =
      before may (λ so. allowed (kept so)) end
      (subst (λ (ops : List Op). CallsMade mortal may tasks task gone ops old end) (sym (next_call calls k op below is)) (
        new,
        looser_call mortal here may tasks task gone op old new (λ so. allowed (noted so)) made,
        after_of (λ (b : Bool). CallsMade mortal may tasks task b (drop (k + 1) calls) new end) rest,
      ))

  up_to_on : (Next : (gone : Bool) → Op → List Entry → List Entry → Type 0)
      → ((end : List Entry) → CallsUpTo Next mortal tasks task gone (drop k calls) old end
      → CallsUpTo Next mortal tasks task had calls start end)
      → (end : List Entry) → CallsUpTo Next mortal tasks task next (drop (k + 1) calls) new end
      → CallsUpTo Next mortal tasks task had calls start end
  up_to_on Next before end rest =
      before end
      (subst (λ (ops : List Op). CallsUpTo Next mortal tasks task gone ops old end) (sym (next_call calls k op below is)) (inr (
        new,
        looser_call mortal here true tasks task gone op old new (λ so. refl) made,
        after_of (λ (b : Bool). CallsUpTo Next mortal tasks task b (drop (k + 1) calls) new end) rest,
      )))

  pub strayed_on : ((end : List Entry) → CallsStrayed mortal tasks task gone (drop k calls) old end
      → CallsStrayed mortal tasks task had calls start end)
      → (end : List Entry) → CallsStrayed mortal tasks task next (drop (k + 1) calls) new end
      → CallsStrayed mortal tasks task had calls start end
  strayed_on = up_to_on (CallStrayed mortal tasks task)

  pub left_on : ((end : List Entry) → CallsLeft mortal tasks task gone (drop k calls) old end
      → CallsLeft mortal tasks task had calls start end)
      → (end : List Entry) → CallsLeft mortal tasks task next (drop (k + 1) calls) new end
      → CallsLeft mortal tasks task had calls start end
  left_on = up_to_on IsLeft

-- all calls were made
pub made_all : (mortal refused : Bool) (tasks task : ℕ) (had gone : Bool) (calls : List Op) (k : ℕ) (start new : List Entry)
    → length calls ≤ k
    → ((may : Bool) → (refused ≡ true → may ≡ true) → (end : List Entry) → CallsMade mortal may tasks task gone (drop k calls) new end
    → CallsMade mortal may tasks task had calls start end)
    → (ending : RacerResult) → ending ≡ ending_of refused → EndsBy ending mortal tasks task had calls start new
made_all mortal refused tasks task had gone calls k start new past before ending is =
    subst (λ (e : RacerResult). EndsBy e mortal tasks task had calls start new) (sym is) (by refused made)
  where
    made : (may : Bool) → (refused ≡ true → may ≡ true) → CallsMade mortal may tasks task had calls start new
    made may so =
        before may so new
        (subst (λ (ops : List Op). CallsMade mortal may tasks task gone ops new new) (sym (drop_all k calls past)) refl)

    by : (b : Bool) → ((may : Bool) → (b ≡ true → may ≡ true) → CallsMade mortal may tasks task had calls start new)
        → EndsBy (ending_of b) mortal tasks task had calls start new
    by true h = h true (λ so. refl)
    by false h = h false (λ so. so)

-- the next isn't begun
pub left_here : (mortal : Bool) (tasks task : ℕ) (had gone : Bool) (calls : List Op) (k : ℕ) (op : Op) (start old : List Entry)
    → k < length calls → op ≡ get_or calls k op
    → ((end : List Entry) → CallsLeft mortal tasks task gone (drop k calls) old end → CallsLeft mortal tasks task had calls start end)
    → CallsLeft mortal tasks task had calls start old
left_here mortal tasks task had gone calls k op start old below is before =
    before old
    (subst (λ (ops : List Op). CallsLeft mortal tasks task gone ops old old) (sym (next_call calls k op below is)) (inl refl))

-- or that strays
pub strayed_here : (mortal : Bool) (tasks task t : ℕ) (had gone : Bool) (calls : List Op) (k : ℕ) (op : Op) (ending : RacerResult)
    (start old new : List Entry)
    → k < length calls → op ≡ get_or calls k op → t ≡ task
    → ((end : List Entry) → CallsStrayed mortal tasks task gone (drop k calls) old end → CallsStrayed mortal tasks task had calls start end)
    → CallEndsBy ending mortal tasks t gone op old new → ending ≡ Astray → CallsStrayed mortal tasks task had calls start new
strayed_here mortal tasks task t had gone calls k op ending start old new below is same h call bad =
    let own : CallStrayed mortal tasks task gone op old new =
    subst (λ (n : ℕ). CallStrayed mortal tasks n gone op old new) same
    (subst (λ (e : RacerResult). CallEndsBy e mortal tasks t gone op old new) bad call) in
    h new (subst (λ (ops : List Op). CallsStrayed mortal tasks task gone ops old new) (sym (next_call calls k op below is)) (inl own))

-- a list of which a property holds, taken apart
pub taken_apart : {X : Type 0} (P : X → Type 0) (xs rest : List X) (x : X) → xs ≡ x ∷ rest → All P xs → P x × All P rest
taken_apart P xs rest x same all =
    let parts = subst (λ (l : List _). All P l) same all in
    (All-head P x rest parts, All-tail P x rest parts)

-- a list to which one is added that has it too
pub one_more : {X : Type 0} (P : X → Type 0) (xs now : List X) (x : X) → now ≡ xs ++ x ∷ [] → All P xs → P x → All P now
one_more P xs now x same all is = subst (λ (l : List _). All P l) (sym same) (All-push P xs x all is)

pub one_longer : {X : Type 0} (xs now : List X) (x : X) → now ≡ xs ++ x ∷ [] → length now ≡ length xs + 1
one_longer xs now x same = ap length same ∙ length-append xs (x ∷ [])

-- a task without calls in the range has made them all
pub idle_made : (mortal : Bool) (script : Script) (call_range : CallRange) (s : SeatState) (calls : List Op)
    → calls ≡ calls_of script.calls.items s.task
    → length calls ≤ call_range.from → IsNew s → HasMadeIn mortal false script call_range s
idle_made mortal script call_range s calls is few new =
    let mine : List Op = calls_of script.calls.items s.task in
    let short : length mine ≤ call_range.from = omega (arith, ap length is, few) in
    let some : 0 ≤ call_range.most = omega arith in
    let none : calls_in call_range mine ≡ [] =
    ap (λ (ops : List Op). take call_range.most ops) (drop_all call_range.from mine short) ∙ take_all call_range.most [] some in
    subst (λ (ops : List Op). CallsMade mortal false script.config.tasks s.task (is_gone call_range mine) ops [] s.list) (sym none) new

-- no task has more calls than the script
pub few_calls : (lines : List (ℕ × Op)) (task : ℕ) → length (calls_of lines task) ≤ length lines
few_calls lines task =
    let some = length-map (filter (λ (line : ℕ × Op). line.0 == task) lines) (λ (line : ℕ × Op). line.1) in
    let both = length-filter_both (λ (line : ℕ × Op). line.0 == task) (λ (line : ℕ × Op). not (line.0 == task)) (λ line. refl) lines in
    omega (arith, some, both)

-- a range of as many calls as the script has, from the first on, is all of a task's
whole_made : (mortal : Bool) (script : Script) (tasks : List ℕ) (s : SeatState)
    → HasMadeInBut mortal script (call_range 0 (length script.calls.items)) tasks s → HasMadeBut mortal script tasks s
whole_made mortal script tasks s made =
    subst (λ (ops : List Op). CallsMade mortal (is_among tasks s.task) script.config.tasks s.task false ops [] s.list)
    (take_all (length script.calls.items) (calls_of script.calls.items s.task) (few_calls script.calls.items s.task)) made

whole_of : (script : Script) (P : (ℕ → List Op → SeatState → Type 0)) (s : SeatState)
    → P s.task (take (length script.calls.items) (calls_of script.calls.items s.task)) s → P s.task (calls_of script.calls.items s.task) s
whole_of script P s had =
    subst (λ (ops : List Op). P s.task ops s)
    (take_all (length script.calls.items) (calls_of script.calls.items s.task) (few_calls script.calls.items s.task)) had

whole_strayed : (mortal : Bool) (script : Script) (s : SeatState) → HasStrayedIn mortal script (call_range 0 (length script.calls.items)) s
    → HasStrayed mortal script s
whole_strayed mortal script s = whole_of script (λ task ops s. CallsStrayed mortal script.config.tasks task false ops [] s.list) s

whole_left : (mortal : Bool) (script : Script) (s : SeatState) → HasLeftIn mortal script (call_range 0 (length script.calls.items)) s
    → HasLeft mortal script s
whole_left mortal script s = whole_of script (λ task ops s. CallsLeft mortal script.config.tasks task false ops [] s.list) s

any_weaker : {X : Type 0} (P Q : X → Type 0) (xs : List X) → ((x : X) → P x → Q x) → Any P xs → Any Q xs
any_weaker P Q xs weaker had = (had.0, had.1, had.2, had.3, weaker had.1 had.4)

-- so what came of that range, came of all calls
pub whole : (mortal : Bool) (script : Script) (most : ℕ) (astray late : Bool) (tasks : List ℕ) (seats : List SeatState)
    → most ≡ length script.calls.items → AreFoundInAs mortal astray late script (call_range 0 most) tasks seats
    → AreFoundAs mortal astray late script tasks seats
whole mortal script most astray late tasks seats is had =
    by astray late (subst (λ (n : ℕ). AreFoundInAs mortal astray late script (call_range 0 n) tasks seats) is had)
  where
    all : CallRange
    all = call_range 0 (length script.calls.items)

    by : (a l : Bool) → AreFoundInAs mortal a l script all tasks seats → AreFoundAs mortal a l script tasks seats
    by true l found = any_weaker (HasStrayedIn mortal script all) (HasStrayed mortal script) seats (whole_strayed mortal script) found
    by false true found = any_weaker (HasLeftIn mortal script all) (HasLeft mortal script) seats (whole_left mortal script) found
    by false false found =
        All-weaker (HasMadeInBut mortal script all tasks) (HasMadeBut mortal script tasks) (whole_made mortal script tasks) seats found

-- new seats have made nothing
pub all_new : (n : ℕ) (seats : List SeatState) → length seats ≡ n
    → ((k : ℕ) → k < n → slice_get seats k ≡ Some (new_seat (k + 1))) → All IsNew seats
all_new n seats many each k d below =
    let here : k < n = omega (arith, many, below) in
    ap (λ (s : SeatState). s.list) (get_or_from_slice_get seats k (new_seat (k + 1)) d (each k here))
