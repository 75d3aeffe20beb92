-- Texts about a trace, through a buffer that may keep some of them.
use Rattle.std.proofs.Common.{◌≡◌, ℕ, List, [], Option, Some, refl, ap, inl, inr}
use Rattle.std.specs.Prelude.{OnOk, OnErr, IfErr, IfSome, Result, Ok, Err, nat_lt}
use Rattle.std.specs.Io.KnownBytes.{Keeps, append_known}
use Rattle.std.proofs.KnownBytes.{Appends-kept}
use Rattle.hp_base.specs.Text.{Sizes}
use Rattle.hp_base.specs.declared.event.Event.{Event}
use Rattle.hp_draw.specs.Drawing.{IsDrawing, IsPartOfDrawing, NotDrawn, PartlyDrawn, PictureOf}
use Rattle.hp_explain.specs.Views.{events_until}
use Rattle.hp_explain.specs.declared.view.View.{View}
use Rattle.hp_explain.specs.Explaining.{Explained, ExplainedPartly, NotExplained, PartlyExplained, nothing, some_rows, to_the_end}
use Rattle.hp_explain.specs.JsonRuns.{ExplainedJson, ExplainedSomeJson, NotExplainedJson, WroteSomeObjects}
use Rattle.hp_explain.specs.JsonRuns.{no_objects, some_objects, all_objects}
use Rattle.hp_html.specs.HtmlPages.{IsHtmlPage, IsPartOfHtmlPage, NotPaged, WroteSomeHtmlPage, head_text, in_head, in_objects, in_page}
use Rattle.hp_program.specs.Answers.{NotDone, OfTrace}
use Rattle.hp_program.specs.Output.{Flushed}
use Rattle.hp_program.proofs.Answers.{HasFront, Passes, answered_text, flushed_whole, no_trace_fault, stopped_so, unfailed}
use Rattle.hp_program.proofs.Buffered.{all_of, holds, none_of}
use Rattle.hp_text.specs.Checking.{ReadsEvents, count_line}
use Rattle.hp_text.specs.Collecting.{ReadsTrace}
use Rattle.hp_text.specs.Streams.{TellsReads, TellsWrites}
use Rattle.hp_text.specs.Traces.{HasFault}
use Rattle.hp_text.specs.Writing.{IsWriteFault, Wrote}
use Rattle.hp_text.specs.declared.fault.ReplayFault.{ReplayFault}
use Rattle.hp_text.specs.declared.fault.ReplayFault.TheVariants.{Write}
use Rattle.hp_trace_commands.specs.Traces.{AnsweredCheck, AnsweredDraw, AnsweredExplain, AnsweredJson, AnsweredHtmlPage, AreObjects, Checks}
use Rattle.hp_trace_commands.specs.Traces.{ChecksPartly, IsCount, IsExplaining, IsPaging}

-- how many events a trace has
-- a front of the count
checks_front : (from to before mid after : Option (List ℕ)) (left : List ℕ) (n : ℕ) → ReadsEvents n from to
    → Wrote before mid (count_line n)
    → Keeps mid (append_known after left) → HasFront (OfTrace IsCount) from to before after
checks_front from to before mid after left n reads wrote kept =
    inr (record {
      text = count_line n;
      is_front = record { sizes = reads.sizes; events = reads.events; reads = reads.reads; is = ap count_line reads.count };
      holds = holds before mid after left (count_line n) wrote kept;
    })

pub checks_pass : Passes Checks ChecksPartly (OfTrace IsCount)
checks_pass =
    record {
      kept = λ from to before mid after kept h.
          record { events = h.events; reads = h.reads; wrote = Appends-kept before mid after (count_line h.events) h.wrote kept };
      whole = λ from to before mid after left kept h.
          checks_front from to before mid after left h.events h.reads (all_of before mid (count_line h.events) h.wrote) kept;
      part = λ from to before mid after left kept h. checks_front from to before mid after left h.events h.reads h.wrote kept;
    }

pub counts_short : (from to before after : Option (List ℕ)) (n : ℕ) → ReadsEvents n from to → (counted : Result (Unit {0}) ReplayFault)
    → (old new : ℕ) → IfErr counted (λ fault. IsWriteFault fault × Wrote before after (count_line n)) → TellsWrites counted old new
    → IfErr counted (λ fault. NotDone (ChecksPartly from to before after) fault old new before after)
counts_short from to before after n reads (Ok x) old new short told = tt
counts_short from to before after n reads (Err fault) old new (is, wrote) told =
    inr (is, record { events = n; reads = reads; wrote = wrote }, told)

pub answered_check : {E : Type 0} (from to : Option (List ℕ)) (old new : ℕ) (start before mid after : Option (List ℕ)) (first failures : ℕ)
    (counted answer : Result (Unit {0}) ReplayFault) (flushed : Result (Unit {0}) E)
    → start ≡ before → first ≡ 0 → OnOk counted (Checks from to start mid)
    → IfErr counted (λ fault. NotDone (ChecksPartly from to start mid) fault first failures start mid)
    → IfErr counted (λ fault. IfSome from (λ bytes. HasFault bytes fault)) → TellsReads counted old new → OnOk counted (failures ≡ first)
    → Keeps mid after → OnOk flushed (answer ≡ counted) → OnErr flushed (answer ≡ Err Write)
    → AnsweredCheck answer from to old new before (Some after)
answered_check from to old new start before mid after first failures counted answer flushed same clean done short bad reads good kept =
    answered_text Checks ChecksPartly (OfTrace IsCount) HasFault checks_pass from to old new start before mid after first failures counted
    answer flushed same clean done short bad (no_trace_fault from Write tt) reads good
    (flushed_whole (nat_lt 0 failures) flushed mid after kept)

-- an explanation
explains_part : (v : View) (from to before mid after : Option (List ℕ)) (left : List ℕ) (s : Sizes) (events : List Event)
    → ReadsTrace from to s events → PartlyExplained v s (events_until v events) before mid → Keeps mid (append_known after left)
    → HasFront (OfTrace (IsExplaining v)) from to before after
explains_part v from to before mid after left s events reads (nothing none) kept =
    inl (holds before mid after left [] (none_of before mid none) kept)
explains_part v from to before mid after left s events reads (some_rows text begins wrote) kept =
    inr (record {
      text = text;
      is_front = record { sizes = s; events = events; reads = reads; is = inl begins };
      holds = holds before mid after left text wrote kept;
    })
explains_part v from to before mid after left s events reads (to_the_end text explains wrote) kept =
    inr (record {
      text = text;
      is_front = record { sizes = s; events = events; reads = reads; is = inr explains };
      holds = holds before mid after left text wrote kept;
    })

explanation_passes : (v : View) → Passes (Explained v) (ExplainedPartly v) (OfTrace (IsExplaining v))
explanation_passes v =
    record {
      kept = λ from to before mid after kept h. record {
        sizes = h.sizes;
        events = h.events;
        reads = h.reads;
        wrote = record {
          text = h.wrote.text;
          explains = h.wrote.explains;
          wrote = Appends-kept before mid after h.wrote.text h.wrote.wrote kept;
        };
      };
      whole = λ from to before mid after left kept h. inr (record {
        text = h.wrote.text;
        is_front = record { sizes = h.sizes; events = h.events; reads = h.reads; is = inr h.wrote.explains };
        holds = holds before mid after left h.wrote.text (all_of before mid h.wrote.text h.wrote.wrote) kept;
      });
      part = λ from to before mid after left kept h. explains_part v from to before mid after left h.sizes h.events h.reads h.wrote kept;
    }

pub answered_explain : {E : Type 0} (v : View) (from to : Option (List ℕ)) (old new : ℕ) (start before mid after : Option (List ℕ))
    (failures : ℕ) (wrote answer : Result (Unit {0}) ReplayFault) (flushed : Result (Unit {0}) E)
    → start ≡ before → OnOk wrote (Explained v from to start mid) → IfErr wrote (λ fault. NotExplained v fault from to start mid)
    → IfErr wrote (λ fault. IfSome from (λ bytes. HasFault bytes fault)) → TellsReads wrote old new → TellsWrites wrote 0 failures
    → Flushed (nat_lt 0 failures) flushed mid after → OnOk flushed (answer ≡ wrote) → OnErr flushed (answer ≡ Err Write)
    → AnsweredExplain v answer from to old new before (Some after)
answered_explain v from to old new start before mid after failures wrote answer flushed same done stopped bad reads writes =
    answered_text (Explained v) (ExplainedPartly v) (OfTrace (IsExplaining v)) HasFault (explanation_passes v) from to old new
    start before mid after 0 failures wrote answer flushed same refl
    done (stopped_so (ExplainedPartly v) wrote failures from to start mid stopped writes) bad (no_trace_fault from Write tt) reads
    (unfailed wrote failures writes)

-- the objects of a run
objects_part : (v : View) (from to before mid after : Option (List ℕ)) (left : List ℕ) (s : Sizes) (events : List Event)
    → ReadsTrace from to s events → WroteSomeObjects v s (events_until v events) before mid → Keeps mid (append_known after left)
    → HasFront (OfTrace (AreObjects v)) from to before after
objects_part v from to before mid after left s events reads (no_objects none) kept =
    inl (holds before mid after left [] (none_of before mid none) kept)
objects_part v from to before mid after left s events reads (some_objects text some wrote) kept =
    inr (record {
      text = text;
      is_front = record { sizes = s; events = events; reads = reads; is = inl some };
      holds = holds before mid after left text wrote kept;
    })
objects_part v from to before mid after left s events reads (all_objects text all wrote) kept =
    inr (record {
      text = text;
      is_front = record { sizes = s; events = events; reads = reads; is = inr all };
      holds = holds before mid after left text wrote kept;
    })

objects_pass : (v : View) → Passes (ExplainedJson v) (ExplainedSomeJson v) (OfTrace (AreObjects v))
objects_pass v =
    record {
      kept = λ from to before mid after kept h. record {
        sizes = h.sizes;
        events = h.events;
        reads = h.reads;
        wrote = record {
          text = h.wrote.text;
          are = h.wrote.are;
          wrote = Appends-kept before mid after h.wrote.text h.wrote.wrote kept;
        };
      };
      whole = λ from to before mid after left kept h. inr (record {
        text = h.wrote.text;
        is_front = record { sizes = h.sizes; events = h.events; reads = h.reads; is = inr h.wrote.are };
        holds = holds before mid after left h.wrote.text (all_of before mid h.wrote.text h.wrote.wrote) kept;
      });
      part = λ from to before mid after left kept h. objects_part v from to before mid after left h.sizes h.events h.reads h.wrote kept;
    }

pub answered_json : {E : Type 0} (v : View) (from to : Option (List ℕ)) (old new : ℕ) (start before mid after : Option (List ℕ))
    (failures : ℕ) (wrote answer : Result (Unit {0}) ReplayFault) (flushed : Result (Unit {0}) E)
    → start ≡ before → OnOk wrote (ExplainedJson v from to start mid) → IfErr wrote (λ fault. NotExplainedJson v fault from to start mid)
    → IfErr wrote (λ fault. IfSome from (λ bytes. HasFault bytes fault)) → TellsReads wrote old new → TellsWrites wrote 0 failures
    → Flushed (nat_lt 0 failures) flushed mid after → OnOk flushed (answer ≡ wrote) → OnErr flushed (answer ≡ Err Write)
    → AnsweredJson v answer from to old new before (Some after)
answered_json v from to old new start before mid after failures wrote answer flushed same done stopped bad reads writes =
    answered_text (ExplainedJson v) (ExplainedSomeJson v) (OfTrace (AreObjects v)) HasFault (objects_pass v) from to old new
    start before mid after 0 failures wrote answer flushed same refl
    done (stopped_so (ExplainedSomeJson v) wrote failures from to start mid stopped writes) bad (no_trace_fault from Write tt) reads
    (unfailed wrote failures writes)

-- a picture
draws_part : (from to before mid after : Option (List ℕ)) (left : List ℕ) (s : Sizes) (events : List Event)
    → ReadsTrace from to s events → PartlyDrawn s events before mid → Keeps mid (append_known after left)
    → HasFront (OfTrace PictureOf) from to before after
draws_part from to before mid after left s events reads (inl none) kept =
    inl (holds before mid after left [] (none_of before mid none) kept)
draws_part from to before mid after left s events reads (inr front) kept =
    inr (record {
      text = front.text;
      is_front = record { sizes = s; events = events; reads = reads; is = front.pictures };
      holds = holds before mid after left front.text front.wrote kept;
    })

picture_passes : Passes IsDrawing IsPartOfDrawing (OfTrace PictureOf)
picture_passes =
    record {
      kept = λ from to before mid after kept h. record {
        sizes = h.sizes;
        events = h.events;
        reads = h.reads;
        wrote = record {
          text = h.wrote.text;
          pictures = h.wrote.pictures;
          wrote = Appends-kept before mid after h.wrote.text h.wrote.wrote kept;
        };
      };
      whole = λ from to before mid after left kept h. inr (record {
        text = h.wrote.text;
        is_front = record { sizes = h.sizes; events = h.events; reads = h.reads; is = h.wrote.pictures };
        holds = holds before mid after left h.wrote.text (all_of before mid h.wrote.text h.wrote.wrote) kept;
      });
      part = λ from to before mid after left kept h. draws_part from to before mid after left h.sizes h.events h.reads h.wrote kept;
    }

pub answered_draw : {E : Type 0} (from to : Option (List ℕ)) (old new : ℕ) (start before mid after : Option (List ℕ))
    (failures : ℕ) (wrote answer : Result (Unit {0}) ReplayFault) (flushed : Result (Unit {0}) E)
    → start ≡ before → OnOk wrote (IsDrawing from to start mid) → IfErr wrote (λ fault. NotDrawn fault from to start mid)
    → IfErr wrote (λ fault. IfSome from (λ bytes. HasFault bytes fault)) → TellsReads wrote old new → TellsWrites wrote 0 failures
    → Flushed (nat_lt 0 failures) flushed mid after → OnOk flushed (answer ≡ wrote) → OnErr flushed (answer ≡ Err Write)
    → AnsweredDraw answer from to old new before (Some after)
answered_draw from to old new start before mid after failures wrote answer flushed same done stopped bad reads writes =
    answered_text IsDrawing IsPartOfDrawing (OfTrace PictureOf) HasFault picture_passes from to old new start before mid after 0
    failures wrote answer flushed same refl
    done (stopped_so IsPartOfDrawing wrote failures from to start mid stopped writes) bad (no_trace_fault from Write tt) reads
    (unfailed wrote failures writes)

-- a page
pages_part : (from to before mid after : Option (List ℕ)) (left : List ℕ) (s : Sizes) (events : List Event)
    → ReadsTrace from to s events → WroteSomeHtmlPage s events before mid → Keeps mid (append_known after left)
    → HasFront (OfTrace IsPaging) from to before after
pages_part from to before mid after left s events reads (in_head wrote) kept =
    inr (record {
      text = head_text;
      is_front = record { sizes = s; events = events; reads = reads; is = inl refl };
      holds = holds before mid after left head_text wrote kept;
    })
pages_part from to before mid after left s events reads (in_objects text some wrote) kept =
    inr (record {
      text = text;
      is_front = record { sizes = s; events = events; reads = reads; is = inr (inl some) };
      holds = holds before mid after left text wrote kept;
    })
pages_part from to before mid after left s events reads (in_page text page wrote) kept =
    inr (record {
      text = text;
      is_front = record { sizes = s; events = events; reads = reads; is = inr (inr page) };
      holds = holds before mid after left text wrote kept;
    })

page_passes : Passes IsHtmlPage IsPartOfHtmlPage (OfTrace IsPaging)
page_passes =
    record {
      kept = λ from to before mid after kept h. record {
        sizes = h.sizes;
        events = h.events;
        reads = h.reads;
        wrote = record {
          text = h.wrote.text;
          page = h.wrote.page;
          wrote = Appends-kept before mid after h.wrote.text h.wrote.wrote kept;
        };
      };
      whole = λ from to before mid after left kept h. inr (record {
        text = h.wrote.text;
        is_front = record { sizes = h.sizes; events = h.events; reads = h.reads; is = inr (inr h.wrote.page) };
        holds = holds before mid after left h.wrote.text (all_of before mid h.wrote.text h.wrote.wrote) kept;
      });
      part = λ from to before mid after left kept h. pages_part from to before mid after left h.sizes h.events h.reads h.wrote kept;
    }

pub answered_page : {E : Type 0} (from to : Option (List ℕ)) (old new : ℕ) (start before mid after : Option (List ℕ))
    (failures : ℕ) (wrote answer : Result (Unit {0}) ReplayFault) (flushed : Result (Unit {0}) E)
    → start ≡ before → OnOk wrote (IsHtmlPage from to start mid) → IfErr wrote (λ fault. NotPaged fault from to start mid)
    → IfErr wrote (λ fault. IfSome from (λ bytes. HasFault bytes fault)) → TellsReads wrote old new → TellsWrites wrote 0 failures
    → Flushed (nat_lt 0 failures) flushed mid after → OnOk flushed (answer ≡ wrote) → OnErr flushed (answer ≡ Err Write)
    → AnsweredHtmlPage answer from to old new before (Some after)
answered_page from to old new start before mid after failures wrote answer flushed same done stopped bad reads writes =
    answered_text IsHtmlPage IsPartOfHtmlPage (OfTrace IsPaging) HasFault page_passes from to old new start before mid after 0 failures
    wrote answer flushed same refl
    done (stopped_so IsPartOfHtmlPage wrote failures from to start mid stopped writes) bad (no_trace_fault from Write tt) reads
    (unfailed wrote failures writes)
