-- What comes of `hugepool audit`.
use Rattle.std.specs.Prelude.{◌≡◌, ◌⊎◌, ◌==◌, ℕ, Bool, true, false, List, Option, Result, Ok, Err, MatchResult, All, Contains, length}
use Rattle.std.specs.Io.KnownBytes.{Appends, Keeps}
use Rattle.hp_judge.specs.Findings.{IsFinding}
use Rattle.hp_judge.specs.Text.{findings_text}
use Rattle.hp_judge.specs.declared.finding.Finding.{Finding}
use Rattle.hp_picture.specs.Pictures.{IsReadOf, PlacesState, ReadsPicture}
use Rattle.hp_picture.specs.declared.fault.PictureFault.{PictureFault}
use Rattle.hp_picture.specs.declared.fault.PictureFault.TheVariants.{Stream, Line}
use Rattle.hp_picture.specs.declared.picture.Counts.{Counts}
use Rattle.hp_program.specs.Answers.{IfThere}
use Rattle.hp_program.specs.Endings.{ReaderAt}
use Rattle.hp_text.specs.Writing.{IsWriteFault, Wrote}
use Rattle.hp_text.specs.declared.fault.ReplayFault.TheVariants.{Read}

-- A reader had the bytes `from` left, and now has `to`; an output held `before`, and now holds `after`.

-- these are all findings of a picture of these counts and places
pub record AreFindings (counts : Counts) (places : PlacesState) (found : List Finding) : Type 0 where
  pub each : All (IsFinding counts places) found
  pub every : (f : Finding) → IsFinding counts places f → Contains found f

-- a picture was read, and all that is wrong with it written
pub record Audits (right : Bool) (from to before after : Option (List ℕ)) : Type 0 where
  pub counts : Counts
  pub places : PlacesState
  pub reads : ReadsPicture from to (Ok (counts, places))
  pub found : List Finding
  pub are : AreFindings counts places found
  pub wrote : Appends before after (findings_text found)
  pub says : right ≡ (length found == 0)

-- it was read, and a front of that written
pub record AuditsPartly (from to before after : Option (List ℕ)) : Type 0 where
  pub counts : Counts
  pub places : PlacesState
  pub reads : ReadsPicture from to (Ok (counts, places))
  pub found : List Finding
  pub are : AreFindings counts places found
  pub wrote : Wrote before after (findings_text found)

-- Nothing is written before the whole text is read: so where it is at fault, or couldn't be read, nothing was written
abbrev pub NotAudited : PictureFault → (from to before after : Option (List ℕ)) → Type 0
NotAudited (Stream fault) from to before after =
    (IsReadOf (Stream fault) from to × Keeps before after) ⊎ (IsWriteFault fault × AuditsPartly from to before after)
NotAudited (Line number) from to before after = ReadsPicture from to (Err number) × Keeps before after

-- a fault of reading is answered where a read failed, and nowhere else
abbrev pub ReaderAtPicture : PictureFault → (old new : ℕ) → Type 0
ReaderAtPicture (Stream fault) old new = ReaderAt fault old new
ReaderAtPicture (Line number) old new = new ≡ old

abbrev pub TellsAudit : {A : Type 0} → Result A PictureFault → (old new : ℕ) → Type 0
TellsAudit result old new = MatchResult result (λ _. new ≡ old) (λ fault. ReaderAtPicture fault old new)

-- What is answered, and what was read and written then: whether nothing is wrong. A bad line is the first one of what was read, and any
-- other fault is of reading, of writing, or of memory. A flush that fails is a fault of writing
abbrev pub AnsweredAudit : Result Bool PictureFault → (from to : Option (List ℕ)) → (old new : ℕ) → (before : Option (List ℕ))
    → (after : Option (Option (List ℕ))) → Type 0
AnsweredAudit (Ok right) from to old new before after = (new ≡ old) × IfThere after (λ held. Audits right from to before held)
AnsweredAudit (Err (Line number)) from to old new before after =
    (new ≡ old) × ReadsPicture from to (Err number) × IfThere after (λ held. Keeps before held)
AnsweredAudit (Err (Stream fault)) from to old new before after =
    ReaderAt fault old new × ((fault ≡ Read) ⊎ IsWriteFault fault)
    × IfThere after (λ held. Keeps before held ⊎ AuditsPartly from to before held)

-- the status with which the program ends: 1 where something is wrong, 2 where that couldn't be told
abbrev pub status_of_audit : Result Bool PictureFault → ℕ
status_of_audit (Ok true) = 0
status_of_audit (Ok false) = 1
status_of_audit (Err fault) = 2
