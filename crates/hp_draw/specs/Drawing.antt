-- What is read and written where a trace is drawn.
use Rattle.std.specs.Prelude.{◌≡◌, ℕ, List, length, Option, ◌⊎◌}
use Rattle.std.specs.Io.KnownBytes.{Appends, Keeps}
use Rattle.hp_base.specs.Text.{Sizes}
use Rattle.hp_base.specs.declared.event.Event.{Event}
use Rattle.hp_text.specs.Collecting.{ReadsTrace, NotRead}
use Rattle.hp_text.specs.Writing.{Wrote, IsWriteFault}
use Rattle.hp_text.specs.declared.fault.ReplayFault.{ReplayFault}
use Rattle.hp_draw.specs.Pictures.{picture_text}
use Rattle.hp_draw.specs.Places.{HasPlaces}
use Rattle.hp_draw.specs.Sketches.{Drawn, IsDrawn}
use Rattle.hp_draw.specs.declared.layout.Layout.{Layout}

-- A reader had the bytes `from` left, and now has `to`; a writer held `before`, and now holds `after`.

-- the text is the picture of a run of these events, laid out in some way in which all has its place
pub record PictureOf (s : Sizes) (events : List Event) (text : List ℕ) : Type 0 where
  pub drawn : Drawn
  pub of_run : IsDrawn s events drawn
  pub layout : Layout
  pub places : HasPlaces s.quota (length events) drawn layout
  pub is : text ≡ picture_text layout s drawn

-- such a text was written
pub record WrotePicture (s : Sizes) (events : List Event) (before after : Option (List ℕ)) : Type 0 where
  pub text : List ℕ
  pub pictures : PictureOf s events text
  pub wrote : Appends before after text

-- a front of such a text was
pub record WroteFront (s : Sizes) (events : List Event) (before after : Option (List ℕ)) : Type 0 where
  pub text : List ℕ
  pub pictures : PictureOf s events text
  pub wrote : Wrote before after text

-- nothing was written, or a front of such a text
abbrev pub PartlyDrawn : Sizes → List Event → Option (List ℕ) → Option (List ℕ) → Type 0
PartlyDrawn s events before after = Keeps before after ⊎ WroteFront s events before after

-- the reader's bytes were the text of a trace, which was drawn
pub record IsDrawing (from to before after : Option (List ℕ)) : Type 0 where
  pub sizes : Sizes
  pub events : List Event
  pub reads : ReadsTrace from to sizes events
  pub wrote : WrotePicture sizes events before after

-- they were, and it was drawn in part
pub record IsPartOfDrawing (from to before after : Option (List ℕ)) : Type 0 where
  pub sizes : Sizes
  pub events : List Event
  pub reads : ReadsTrace from to sizes events
  pub wrote : PartlyDrawn sizes events before after

-- nothing is written before the whole trace is read
abbrev pub NotDrawn : ReplayFault → Option (List ℕ) → Option (List ℕ) → Option (List ℕ) → Option (List ℕ) → Type 0
NotDrawn fault from to before after =
    (NotRead fault from to × Keeps before after) ⊎ (IsWriteFault fault × IsPartOfDrawing from to before after)
