-- What is answered to commands that read a trace: its events are counted, it is explained, drawn, or written as a page.
use Rattle.std.specs.Prelude.{◌≡◌, ◌⊎◌, ℕ, List, Option, length, Result}
use Rattle.std.specs.Io.KnownBytes.{Appends}
use Rattle.hp_base.specs.Text.{Sizes}
use Rattle.hp_base.specs.declared.event.Event.{Event}
use Rattle.hp_draw.specs.Drawing.{IsDrawing, PictureOf}
use Rattle.hp_explain.specs.Explaining.{Beginning, Explained, Explanation}
use Rattle.hp_explain.specs.JsonRuns.{ExplainedJson, Objects, SomeObjects}
use Rattle.hp_explain.specs.Views.{events_until}
use Rattle.hp_explain.specs.declared.view.View.{View}
use Rattle.hp_html.specs.HtmlPages.{IsHtmlPage, HtmlPage, SomeHtmlPage, head_text}
use Rattle.hp_program.specs.Answers.{AnsweredText, OfTrace}
use Rattle.hp_text.specs.Checking.{ReadsEvents, count_line}
use Rattle.hp_text.specs.Traces.{HasFault}
use Rattle.hp_text.specs.Writing.{Wrote}
use Rattle.hp_text.specs.declared.fault.ReplayFault.{ReplayFault}

-- A reader had the bytes `from` left, and now has `to`; an output held `before`, and now holds `after`.

-- a trace was read, and its number of events written
pub record Checks (from to before after : Option (List ℕ)) : Type 0 where
  pub events : ℕ
  pub reads : ReadsEvents events from to
  pub wrote : Appends before after (count_line events)

-- a trace was read, and a front of that line written
pub record ChecksPartly (from to before after : Option (List ℕ)) : Type 0 where
  pub events : ℕ
  pub reads : ReadsEvents events from to
  pub wrote : Wrote before after (count_line events)

-- how many events there are, told in a line
abbrev pub IsCount : Sizes → List Event → List ℕ → Type 0
IsCount s events text = text ≡ count_line (length events)

abbrev pub AnsweredCheck : Result (Unit {0}) ReplayFault → Option (List ℕ) → Option (List ℕ) → (old new : ℕ)
    → Option (List ℕ) → Option (Option (List ℕ)) → Type 0
AnsweredCheck answer from to old new before after = AnsweredText Checks (OfTrace IsCount) HasFault answer from to old new before after

-- the beginning of an explanation, or a whole one
abbrev pub IsExplaining : View → Sizes → List Event → List ℕ → Type 0
IsExplaining v s events text = Beginning v s (events_until v events) text ⊎ Explanation v s (events_until v events) text

abbrev pub AnsweredExplain : View → Result (Unit {0}) ReplayFault → Option (List ℕ) → Option (List ℕ) → (old new : ℕ)
    → Option (List ℕ) → Option (Option (List ℕ)) → Type 0
AnsweredExplain v answer from to old new before after =
    AnsweredText (Explained v) (OfTrace (IsExplaining v)) HasFault answer from to old new before after

-- the objects of a front of a run, or of all of it
abbrev pub AreObjects : View → Sizes → List Event → List ℕ → Type 0
AreObjects v s events text = SomeObjects v s (events_until v events) text ⊎ Objects v s (events_until v events) text

abbrev pub AnsweredJson : View → Result (Unit {0}) ReplayFault → Option (List ℕ) → Option (List ℕ) → (old new : ℕ)
    → Option (List ℕ) → Option (Option (List ℕ)) → Type 0
AnsweredJson v answer from to old new before after =
    AnsweredText (ExplainedJson v) (OfTrace (AreObjects v)) HasFault answer from to old new before after

abbrev pub AnsweredDraw : Result (Unit {0}) ReplayFault → Option (List ℕ) → Option (List ℕ) → (old new : ℕ)
    → Option (List ℕ) → Option (Option (List ℕ)) → Type 0
AnsweredDraw answer from to old new before after = AnsweredText IsDrawing (OfTrace PictureOf) HasFault answer from to old new before after

-- the head of a page, the front of one with the objects of a front of a run, or a whole one
abbrev pub IsPaging : Sizes → List Event → List ℕ → Type 0
IsPaging s events text = (text ≡ head_text) ⊎ (SomeHtmlPage s events text ⊎ HtmlPage s events text)

abbrev pub AnsweredHtmlPage : Result (Unit {0}) ReplayFault → Option (List ℕ) → Option (List ℕ) → (old new : ℕ)
    → Option (List ℕ) → Option (Option (List ℕ)) → Type 0
AnsweredHtmlPage answer from to old new before after = AnsweredText IsHtmlPage (OfTrace IsPaging) HasFault answer from to old new before after
