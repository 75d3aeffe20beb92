-- What is answered, from what was read and written, and whether the output could be flushed.
use Rattle.std.proofs.Common.{◌≡◌, ℕ, List, [], Option, Some, None, Bool, true, false, refl, sym, ap, subst, inl, inr, ◌∙◌}
use Rattle.std.specs.Prelude.{OnOk, OnErr, IfErr, IfOk, IfSome, MatchBool, Result, Ok, Err, ◌⊎◌, nat_lt}
use Rattle.std.specs.Io.KnownBytes.{Keeps, append_known}
use Rattle.std.proofs.KnownBytes.{Appends-kept, Keeps-trans}
use Rattle.hp_text.specs.Collecting.{NotRead}
use Rattle.hp_text.specs.ScriptLines.{HasLinesFault}
use Rattle.hp_text.specs.Streams.{sink_at, source_at, TellsReads, TellsWrites}
use Rattle.hp_text.specs.Traces.{HasFault}
use Rattle.hp_text.specs.Writing.{IsWriteFault, Wrote}
use Rattle.hp_text.specs.declared.fault.ReplayFault.{ReplayFault}
use Rattle.hp_text.specs.declared.fault.ReplayFault.TheVariants.{BadLine, BadHeader, Read, Write, Memory}
use Rattle.hp_program.specs.Answers.{AnsweredHunt, AnsweredRuns, AnsweredText, NotDone, PartAt, TextIn, TextShort}
use Rattle.hp_program.specs.Endings.{HoldsFront, ReaderAt}
use Rattle.hp_program.specs.Output.{Flushed}
use Rattle.hp_program.proofs.Buffered.{holds, none_of, unbuffered}

pub no_lines_fault : (from : Option (List ℕ)) (fault : ReplayFault) → IsWriteFault fault
    → IfSome from (λ bytes. HasLinesFault bytes fault)
no_lines_fault None fault is = tt
no_lines_fault (Some bytes) BadHeader is = absurd is
no_lines_fault (Some bytes) (BadLine n) is = absurd is
no_lines_fault (Some bytes) Read is = absurd is
no_lines_fault (Some bytes) Write is = tt
no_lines_fault (Some bytes) Memory is = tt

pub no_trace_fault : (from : Option (List ℕ)) (fault : ReplayFault) → IsWriteFault fault → IfSome from (λ bytes. HasFault bytes fault)
no_trace_fault None fault is = tt
no_trace_fault (Some bytes) BadHeader is = absurd is
no_trace_fault (Some bytes) (BadLine n) is = absurd is
no_trace_fault (Some bytes) Read is = absurd is
no_trace_fault (Some bytes) Write is = tt
no_trace_fault (Some bytes) Memory is = tt

-- the reader has failed once more where that is told
pub reader_at : (fault : ReplayFault) (old new : ℕ) → new ≡ source_at fault old → ReaderAt fault old new
reader_at BadHeader old new h = h
reader_at (BadLine n) old new h = h
reader_at Read old new h = h
reader_at Write old new h = tt
reader_at Memory old new h = h

-- ---- runs of a script

-- what was written where a fault is told, by an output that has no buffer
part_at : (Partly : Option (List ℕ) → Type 0) (fault : ReplayFault) (old new : ℕ) (before after : Option (List ℕ))
    → NotDone (Partly after) fault old new before after → PartAt Partly fault before after
part_at Partly BadHeader old new before after (inl (none, good)) = none
part_at Partly BadHeader old new before after (inr (is, partly, told)) = absurd is
part_at Partly (BadLine n) old new before after (inl (none, good)) = none
part_at Partly (BadLine n) old new before after (inr (is, partly, told)) = absurd is
part_at Partly Read old new before after (inl (none, good)) = none
part_at Partly Read old new before after (inr (is, partly, told)) = absurd is
part_at Partly Write old new before after (inl (none, good)) = inl none
part_at Partly Write old new before after (inr (is, partly, told)) = inr partly
part_at Partly Memory old new before after (inl (none, good)) = inl none
part_at Partly Memory old new before after (inr (is, partly, told)) = inr partly

-- and where the flush fails behind it
part_unflushed : (Partly : Option (List ℕ) → Type 0) (fault : ReplayFault) (old new : ℕ) (before after : Option (List ℕ))
    → NotDone (Partly after) fault old new before after → PartAt Partly Write before after
part_unflushed Partly fault old new before after (inl (none, good)) = inl none
part_unflushed Partly fault old new before after (inr (is, partly, told)) = inr partly

-- what is answered of runs, once their lines reached the output
pub answered_runs : {E : Type 0} (Done : Bool → Option (List ℕ) → Type 0) (Partly : Option (List ℕ) → Type 0) (Bad : ReplayFault → Type 0)
    (old new unfailed failures : ℕ) (before after : Option (List ℕ))
    (runs : Result Bool ReplayFault) (flushed : Result (Unit {0}) E) (answer : Result Bool ReplayFault)
    → IfOk runs (λ ended. Done ended after) → ((ended : Bool) → Done ended after → Partly after)
    → IfErr runs (λ fault. NotDone (Partly after) fault unfailed failures before after) → IfErr runs Bad → Bad Write
    → TellsReads runs old new → OnOk flushed (answer ≡ runs) → OnErr flushed (answer ≡ Err Write)
    → AnsweredRuns Done Partly Bad answer old new before (Some after)
answered_runs Done Partly Bad old new unfailed failures before after (Ok ended) (Err x) answer done part short bad unwritten reads is not =
    subst (λ (r : Result Bool ReplayFault). AnsweredRuns Done Partly Bad r old new before (Some after)) (sym not)
    (tt, unwritten, inr (part ended done))
answered_runs Done Partly Bad old new unfailed failures before after (Err f) (Err x) answer done part short bad unwritten reads is not =
    subst (λ (r : Result Bool ReplayFault). AnsweredRuns Done Partly Bad r old new before (Some after)) (sym not)
    (tt, unwritten, part_unflushed Partly f unfailed failures before after short)
answered_runs Done Partly Bad old new unfailed failures before after (Ok ended) (Ok y) answer done part short bad unwritten reads is not =
    subst (λ (r : Result Bool ReplayFault). AnsweredRuns Done Partly Bad r old new before (Some after)) (sym is) (reads, done)
answered_runs Done Partly Bad old new unfailed failures before after (Err f) (Ok y) answer done part short bad unwritten reads is not =
    subst (λ (r : Result Bool ReplayFault). AnsweredRuns Done Partly Bad r old new before (Some after)) (sym is)
    (reader_at f old new reads, bad, part_at Partly f unfailed failures before after short)

-- what was done reached the output
pub reached : (P Q : Bool → Type 0) (runs : Result Bool ReplayFault) → ((ended : Bool) → P ended → Q ended) → IfOk runs P → IfOk runs Q
reached P Q (Ok ended) f done = f ended done
reached P Q (Err fault) f done = tt

-- and what was done in part
pub part_reached : (P : Type 0) (Q : Option (List ℕ) → Type 0) (runs : Result Bool ReplayFault) (old new : ℕ)
    (start before mid after : Option (List ℕ))
    → start ≡ before → Keeps mid after → (P → Q after) → IfErr runs (λ fault. NotDone P fault old new start mid)
    → IfErr runs (λ fault. NotDone (Q after) fault old new before after)
part_reached P Q (Ok ended) old new start before mid after same kept f short = tt
part_reached P Q (Err fault) old new start before mid after same kept f (inl (none, good)) =
    inl (subst (λ (b : Option (List ℕ)). Keeps b after) same (Keeps-trans start mid after none kept), good)
part_reached P Q (Err fault) old new start before mid after same kept f (inr (is, partly, told)) = inr (is, f partly, told)

-- a front that was written stays
pub front_kept : (start before mid after : Option (List ℕ)) (text : List ℕ) → start ≡ before → Keeps mid after → Wrote start mid text
    → Wrote before after text
front_kept start before mid after text same kept w =
    subst (λ (b : Option (List ℕ)). Wrote b after text) same
    (record { front = w.front; back = w.back; parts = w.parts; appends = Appends-kept start mid after w.front w.appends kept })

-- ---- a text, through a buffer that may keep some of it

-- what a reader has left at first and in the end, and what a writer holds
abbrev pub Between : Type 1
Between = Option (List ℕ) → Option (List ℕ) → Option (List ℕ) → Option (List ℕ) → Type 0

-- which texts are of what was read
abbrev pub Fronts : Type 1
Fronts = Option (List ℕ) → Option (List ℕ) → List ℕ → Type 0

-- the output holds nothing new, or a front of such a text
abbrev pub HasFront : Fronts → Between
HasFront IsFront from to before after = HoldsFront before after [] ⊎ TextShort IsFront from to before after

-- How such a text passes through a buffer that may keep some of it, where `Done` says that it was written and `Partly` that
-- a front of it was
pub record Passes (Done Partly : Between) (IsFront : Fronts) : Type 0 where
  pub kept : (from to before mid after : Option (List ℕ)) → Keeps mid after → Done from to before mid → Done from to before after
  pub whole : (from to before mid after : Option (List ℕ)) (left : List ℕ) → Keeps mid (append_known after left) → Done from to before mid
      → HasFront IsFront from to before after
  pub part : (from to before mid after : Option (List ℕ)) (left : List ℕ) → Keeps mid (append_known after left) → Partly from to before mid
      → HasFront IsFront from to before after

-- an empty buffer held nothing back
pub all_kept : (mid after : Option (List ℕ)) (left : List ℕ) → left ≡ [] → Keeps mid (append_known after left) → Keeps mid after
all_kept mid after left empty kept =
    subst (λ (x : Option (List ℕ)). Keeps mid x) (unbuffered after)
    (subst (λ (x : List ℕ). Keeps mid (append_known after x)) empty kept)

stopped_short : (Done Partly : Between) (IsFront : Fronts) → Passes Done Partly IsFront
    → (fault : ReplayFault) (first failures : ℕ) (from to before mid after : Option (List ℕ)) (left : List ℕ)
    → NotDone (Partly from to before mid) fault first failures before mid → Keeps mid (append_known after left)
    → HasFront IsFront from to before after
stopped_short Done Partly IsFront passes fault first failures from to before mid after left (inl (none, good)) kept =
    inl (holds before mid after left [] (none_of before mid none) kept)
stopped_short Done Partly IsFront passes fault first failures from to before mid after left (inr (is, partly, told)) kept =
    passes.part from to before mid after left kept partly

-- what was written where the fault is told; a sink that has not failed is flushed
stopped_in : (Done Partly : Between) (IsFront : Fronts) → Passes Done Partly IsFront
    → (fault : ReplayFault) (from to before mid after : Option (List ℕ)) (first failures : ℕ) (left : List ℕ)
    → NotDone (Partly from to before mid) fault first failures before mid → first ≡ 0 → (nat_lt 0 failures ≡ false → left ≡ [])
    → Keeps mid (append_known after left) → TextIn IsFront fault from to before after
stopped_in Done Partly IsFront passes BadHeader from to before mid after first failures left (inl (none, good)) clean empty kept =
    Keeps-trans before mid after none (all_kept mid after left (empty (ap (λ (n : ℕ). nat_lt 0 n) (good ∙ clean))) kept)
stopped_in Done Partly IsFront passes BadHeader from to before mid after first failures left (inr (is, partly, told)) clean empty kept =
    absurd is
stopped_in Done Partly IsFront passes (BadLine n) from to before mid after first failures left (inl (none, good)) clean empty kept =
    Keeps-trans before mid after none (all_kept mid after left (empty (ap (λ (n : ℕ). nat_lt 0 n) (good ∙ clean))) kept)
stopped_in Done Partly IsFront passes (BadLine n) from to before mid after first failures left (inr (is, partly, told)) clean empty
    kept = absurd is
stopped_in Done Partly IsFront passes Read from to before mid after first failures left (inl (none, good)) clean empty kept =
    Keeps-trans before mid after none (all_kept mid after left (empty (ap (λ (n : ℕ). nat_lt 0 n) (good ∙ clean))) kept)
stopped_in Done Partly IsFront passes Read from to before mid after first failures left (inr (is, partly, told)) clean empty kept =
    absurd is
stopped_in Done Partly IsFront passes Write from to before mid after first failures left h clean empty kept =
    stopped_short Done Partly IsFront passes Write first failures from to before mid after left h kept
stopped_in Done Partly IsFront passes Memory from to before mid after first failures left h clean empty kept =
    stopped_short Done Partly IsFront passes Memory first failures from to before mid after left h kept

-- what is answered, through a buffer that may keep some of it
pub answered_text : {E : Type 0} (Done Partly : Between) (IsFront : Fronts)
    (Bad : List ℕ → ReplayFault → Type 0) → Passes Done Partly IsFront
    → (from to : Option (List ℕ)) (old new : ℕ) (start before mid after : Option (List ℕ)) (first failures : ℕ)
    → (wrote answer : Result (Unit {0}) ReplayFault) (flushed : Result (Unit {0}) E)
    → start ≡ before → first ≡ 0 → OnOk wrote (Done from to start mid)
    → IfErr wrote (λ fault. NotDone (Partly from to start mid) fault first failures start mid)
    → IfErr wrote (λ fault. IfSome from (λ bytes. Bad bytes fault)) → IfSome from (λ bytes. Bad bytes Write)
    → TellsReads wrote old new → OnOk wrote (failures ≡ first) → Flushed (nat_lt 0 failures) flushed mid after
    → OnOk flushed (answer ≡ wrote) → OnErr flushed (answer ≡ Err Write)
    → AnsweredText Done IsFront Bad answer from to old new before (Some after)
answered_text Done Partly IsFront Bad passes from to old new start before mid after first failures (Ok x) answer (Ok y) same clean done
    stopped bad unwritten reads good f is not =
    subst (λ (r : Result (Unit {0}) ReplayFault). AnsweredText Done IsFront Bad r from to old new before (Some after)) (sym is) (
      reads,
      subst (λ (b : Option (List ℕ)). Done from to b after) same
          (passes.kept from to start mid after (all_kept mid after f.left (f.all (ap (λ (n : ℕ). nat_lt 0 n) (good ∙ clean))) f.kept) done),
    )
answered_text Done Partly IsFront Bad passes from to old new start before mid after first failures (Ok x) answer (Err e) same clean done
    stopped bad unwritten reads good f is not =
    subst (λ (r : Result (Unit {0}) ReplayFault). AnsweredText Done IsFront Bad r from to old new before (Some after)) (sym not) (
      tt,
      unwritten,
      subst (λ (b : Option (List ℕ)). HasFront IsFront from to b after) same (passes.whole from to start mid after f.left f.kept done),
    )
answered_text Done Partly IsFront Bad passes from to old new start before mid after first failures (Err fault) answer (Ok y) same clean done
    stopped bad unwritten reads good f is not =
    subst (λ (r : Result (Unit {0}) ReplayFault). AnsweredText Done IsFront Bad r from to old new before (Some after)) (sym is) (
      reader_at fault old new reads,
      bad,
      subst (λ (b : Option (List ℕ)). TextIn IsFront fault from to b after) same
          (stopped_in Done Partly IsFront passes fault from to start mid after first failures f.left stopped clean f.all f.kept),
    )
answered_text Done Partly IsFront Bad passes from to old new start before mid after first failures (Err fault) answer (Err e) same clean
    done stopped bad unwritten reads good f is not =
    subst (λ (r : Result (Unit {0}) ReplayFault). AnsweredText Done IsFront Bad r from to old new before (Some after)) (sym not) (
      tt,
      unwritten,
      subst (λ (b : Option (List ℕ)). HasFront IsFront from to b after) same
          (stopped_short Done Partly IsFront passes fault first failures from to start mid after f.left stopped f.kept),
    )

-- a trace that isn't read is no fault of writing
not_done : (Partly : Between) (fault : ReplayFault) (failures : ℕ) (from to before after : Option (List ℕ))
    → (NotRead fault from to × Keeps before after) ⊎ (IsWriteFault fault × Partly from to before after) → failures ≡ sink_at fault 0
    → NotDone (Partly from to before after) fault 0 failures before after
not_done Partly BadHeader failures from to before after (inl (not_read, none)) told = inl (none, told)
not_done Partly (BadLine n) failures from to before after (inl (not_read, none)) told = inl (none, told)
not_done Partly Read failures from to before after (inl (not_read, none)) told = inl (none, told)
not_done Partly Write failures from to before after (inl (not_read, none)) told = absurd not_read
not_done Partly Memory failures from to before after (inl (not_read, none)) told = inl (none, told)
not_done Partly fault failures from to before after (inr (is, partly)) told = inr (is, partly, told)

pub stopped_so : (Partly : Between) (wrote : Result (Unit {0}) ReplayFault) (failures : ℕ) (from to before after : Option (List ℕ))
    → IfErr wrote (λ fault. (NotRead fault from to × Keeps before after) ⊎ (IsWriteFault fault × Partly from to before after))
    → TellsWrites wrote 0 failures → IfErr wrote (λ fault. NotDone (Partly from to before after) fault 0 failures before after)
stopped_so Partly (Ok x) failures from to before after stopped told = tt
stopped_so Partly (Err fault) failures from to before after stopped told = not_done Partly fault failures from to before after stopped told

pub unfailed : (wrote : Result (Unit {0}) ReplayFault) (failures : ℕ) → TellsWrites wrote 0 failures → OnOk wrote (failures ≡ 0)
unfailed (Ok x) failures told = told
unfailed (Err fault) failures told = tt

-- an output without a buffer keeps nothing back
pub flushed_whole : {E : Type 0} (has_failed : Bool) (flushed : Result (Unit {0}) E) (mid after : Option (List ℕ)) → Keeps mid after
    → Flushed has_failed flushed mid after
flushed_whole has_failed flushed mid after kept =
    record {
      left = [];
      kept = subst (λ (x : Option (List ℕ)). Keeps mid x) (sym (unbuffered after)) kept;
      all = whatever flushed (λ unfailed. refl);
    }
  where
    whatever : {A X P : Type 0} (r : Result A X) → P → OnOk r P
    whatever (Ok x) p = p
    whatever (Err e) p = tt

-- ---- what was read is searched

pub answered_hunt : {E : Type 0} (Done Partly : Between) (Misses : Option (List ℕ) → Option (List ℕ) → Type 0)
    (IsFront : Fronts) (Bad : List ℕ → ReplayFault → Type 0) → Passes Done Partly IsFront
    → (from to : Option (List ℕ)) (old new : ℕ) (start before mid after : Option (List ℕ)) (first failures : ℕ)
    (met answer : Result Bool ReplayFault) (flushed : Result (Unit {0}) E) → start ≡ before → first ≡ 0
    → IfOk met (λ b. MatchBool b (Done from to start mid) (Misses from to × Keeps start mid))
    → IfErr met (λ fault. NotDone (Partly from to start mid) fault first failures start mid)
    → IfErr met (λ fault. IfSome from (λ bytes. Bad bytes fault)) → IfSome from (λ bytes. Bad bytes Write)
    → TellsReads met old new → OnOk met (failures ≡ first) → Flushed (nat_lt 0 failures) flushed mid after
    → OnOk flushed (answer ≡ met) → OnErr flushed (answer ≡ Err Write)
    → AnsweredHunt Done Misses IsFront Bad answer from to old new before (Some after)
answered_hunt Done Partly Misses IsFront Bad passes from to old new start before mid after first failures (Ok true) answer (Ok y) same clean
    done stopped bad unwritten reads good f is not =
    subst (λ (r : Result Bool ReplayFault). AnsweredHunt Done Misses IsFront Bad r from to old new before (Some after)) (sym is)
    (answered_text Done Partly IsFront Bad passes from to old new start before mid after first failures (Ok tt) (Ok tt) (Ok y) same clean
    done tt tt unwritten reads good f refl tt)
answered_hunt Done Partly Misses IsFront Bad passes from to old new start before mid after first failures (Ok true) answer (Err e) same clean
    done stopped bad unwritten reads good f is not =
    subst (λ (r : Result Bool ReplayFault). AnsweredHunt Done Misses IsFront Bad r from to old new before (Some after)) (sym not)
    (answered_text Done Partly IsFront Bad passes from to old new start before mid after first failures (Ok tt) (Err Write) (Err e) same
    clean done tt tt unwritten reads good f tt refl)
answered_hunt Done Partly Misses IsFront Bad passes from to old new start before mid after first failures (Ok false) answer (Ok y) same clean
    done stopped bad unwritten reads good f is not =
    subst (λ (r : Result Bool ReplayFault). AnsweredHunt Done Misses IsFront Bad r from to old new before (Some after)) (sym is) (
      reads,
      done.0,
      subst (λ (b : Option (List ℕ)). Keeps b after) same
          (Keeps-trans start mid after done.1
          (all_kept mid after f.left (f.all (ap (λ (n : ℕ). nat_lt 0 n) (good ∙ clean))) f.kept)),
    )
answered_hunt Done Partly Misses IsFront Bad passes from to old new start before mid after first failures (Ok false) answer (Err e) same
    clean done stopped bad unwritten reads good f is not =
    subst (λ (r : Result Bool ReplayFault). AnsweredHunt Done Misses IsFront Bad r from to old new before (Some after)) (sym not) (
      tt,
      unwritten,
      subst (λ (b : Option (List ℕ)). HasFront IsFront from to b after) same
          (inl (holds start mid after f.left [] (none_of start mid done.1) f.kept)),
    )
answered_hunt Done Partly Misses IsFront Bad passes from to old new start before mid after first failures (Err fault) answer (Ok y) same
    clean done stopped bad unwritten reads good f is not =
    subst (λ (r : Result Bool ReplayFault). AnsweredHunt Done Misses IsFront Bad r from to old new before (Some after)) (sym is)
    (answered_text Done Partly IsFront Bad passes from to old new start before mid after first failures (Err fault) (Err fault) (Ok y) same
    clean tt stopped bad unwritten reads tt f refl tt)
answered_hunt Done Partly Misses IsFront Bad passes from to old new start before mid after first failures (Err fault) answer (Err e) same
    clean done stopped bad unwritten reads good f is not =
    subst (λ (r : Result Bool ReplayFault). AnsweredHunt Done Misses IsFront Bad r from to old new before (Some after)) (sym not)
    (answered_text Done Partly IsFront Bad passes from to old new start before mid after first failures (Err fault) (Err Write) (Err e) same
    clean tt stopped bad unwritten reads tt f tt refl)
