-- What comes of `hugepool replay --picture`.
use Rattle.std.specs.Prelude.{◌≡◌, ℕ, List, Option, Result, Ok}
use Rattle.std.specs.Io.KnownBytes.{Appends}
use Rattle.hp_agree.specs.Agreement.{FindsNothing}
use Rattle.hp_agree.specs.Flat.{counts_of, places_of}
use Rattle.hp_audit.specs.Findings.{IsRight}
use Rattle.hp_audit.specs.declared.picture.Picture.{Picture}
use Rattle.hp_base.specs.Text.{Sizes, sizes}
use Rattle.hp_base.specs.declared.config.Config.{Config}
use Rattle.hp_base.specs.declared.event.Event.{Event}
use Rattle.hp_core.specs.Pictures.{IsPicture}
use Rattle.hp_core.specs.State.{CoreState}
use Rattle.hp_format.specs.Drafts.{IsLed}
use Rattle.hp_picture.specs.Pictures.{picture_of}
use Rattle.hp_picture.specs.Text.{picture_text}
use Rattle.hp_program.specs.Answers.{AnsweredText, OfTrace}
use Rattle.hp_text.specs.Traces.{HasFault}
use Rattle.hp_text.specs.Writing.{Wrote}
use Rattle.hp_text.specs.declared.fault.ReplayFault.{ReplayFault}

-- A reader had the bytes `from` left, and now has `to`; an output held `before`, and now holds `after`.

-- the text spells a picture of the core, with which nothing is wrong and in which `audit` finds nothing, and is read as just this
pub record IsStateText (core : CoreState) (text : List ℕ) : Type 0 where
  pub picture : Picture
  pub of_core : IsPicture core picture
  pub right : IsRight picture
  pub nothing : FindsNothing picture
  pub is : text ≡ picture_text (counts_of picture) (places_of picture)
  pub again : picture_of text ≡ Ok (counts_of picture, places_of picture)

-- the core is one to which these events happened
pub record IsEndText (s : Sizes) (events : List Event) (text : List ℕ) : Type 0 where
  pub config : Config
  pub sizes_are : sizes config ≡ s
  pub core : CoreState
  pub led : IsLed config core events
  pub state : IsStateText core text

-- such a text was written, all of it or in part
abbrev pub Writes : (Is : List ℕ → Type 0) → (How : Option (List ℕ) → Option (List ℕ) → List ℕ → Type 0)
    → (before after : Option (List ℕ)) → Type 0
Writes Is How before after = (text : List ℕ) × Is text × How before after text

-- a trace was read, and such a text of it written
abbrev pub WroteState : (from to before after : Option (List ℕ)) → Type 0
WroteState from to before after = Writes (OfTrace IsEndText from to) Appends before after

-- it was read, and a front of such a text written
abbrev pub WroteSomeState : (from to before after : Option (List ℕ)) → Type 0
WroteSomeState from to before after = Writes (OfTrace IsEndText from to) Wrote before after

abbrev pub AnsweredState : Result (Unit {0}) ReplayFault → Option (List ℕ) → Option (List ℕ) → (old new : ℕ)
    → Option (List ℕ) → Option (Option (List ℕ)) → Type 0
AnsweredState answer from to old new before after =
    AnsweredText WroteState (OfTrace IsEndText) HasFault answer from to old new before after
