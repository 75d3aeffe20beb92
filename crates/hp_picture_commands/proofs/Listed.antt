-- What a core's picture lists, and what `audit` makes of its text.
use Rattle.std.proofs.Common.{◌≡◌, ℕ, Bool, true, List, [], ◌∷◌, Option, Some, get_or, refl, sym, ◌∙◌, subst, arith}
use Rattle.std.specs.Prelude.{All, Result, Ok}
use Rattle.std.specs.Io.KnownBytes.{Appends}
use Rattle.std.proofs.KnownBytes.{Consumes-whole}
use Rattle.hp_agree.proofs.Rising.{keys_rise}
use Rattle.hp_agree.specs.Flat.{counts_of, places_of}
use Rattle.hp_agree.specs.Listed.{IsFileListed, IsListed}
use Rattle.hp_audit.specs.declared.picture.FilePicture.{FilePicture}
use Rattle.hp_audit.specs.declared.picture.Picture.{Picture}
use Rattle.hp_core.specs.Pictures.{IsFilePicture, IsPicture}
use Rattle.hp_core.specs.State.{CoreState, as_state}
use Rattle.hp_judge.specs.Findings.{IsFinding}
use Rattle.hp_judge.specs.Text.{findings_text}
use Rattle.hp_judge.specs.declared.finding.Finding.{Finding}
use Rattle.hp_machine.specs.State.{State}
use Rattle.hp_picture.specs.Pictures.{PlacesState, picture_of}
use Rattle.hp_picture.specs.declared.picture.Counts.{Counts}
use Rattle.hp_picture_commands.specs.Auditing.{Audits}
use Rattle.hp_picture_commands.specs.States.{IsStateText}

-- a picture of a file lists its regions and pages in order
file_is_listed : (s : State) (f : ℕ) (file : FilePicture) → IsFilePicture s f file → IsFileListed file
file_is_listed s f file is =
    record {
      some = λ k d within. (is.ranges k d within).0;
      apart = is.apart;
      in_order = keys_rise file.pages.items is.in_order;
    }

-- so does a core's picture
pub is_listed : (s : CoreState) (p : Picture) → IsPicture s p → IsListed p
is_listed s p is k d within =
    file_is_listed (as_state s) k (get_or p.files.items k d) (is.files k (omega (arith, within, is.as_many)) d)

-- a text has one reading
one_reading : (x y : Counts × PlacesState) (read : Result (Counts × PlacesState) ℕ) → read ≡ Ok x → read ≡ Ok y → x ≡ y
one_reading x y read is other = cc

-- what the text of a state is read as has no finding
pub no_finding : (s : CoreState) (text : List ℕ) (counts : Counts) (places : PlacesState) (f : Finding) → IsStateText s text
    → picture_of text ≡ Ok (counts, places) → IsFinding counts places f → ⊥
no_finding s text counts places f state read found =
    state.nothing f
    (subst (λ (both : Counts × PlacesState). IsFinding both.0 both.1 f)
    (one_reading (counts, places) (counts_of state.picture, places_of state.picture) (picture_of text) read state.again) found)

-- an audit reads it as that
audited : (s : CoreState) (text : List ℕ) (right : Bool) (to before after : Option (List ℕ))
    → (a : Audits right (Some text) to before after) → IsStateText s text → (found : List Finding) → found ≡ a.found → found ≡ []
audited s text right to before after a state [] same = refl
audited s text right to before after a state (f ∷ fs) same =
    let read : picture_of text ≡ Ok (a.counts, a.places) =
    Consumes-whole (Some text) to a.reads.bytes (λ bytes. picture_of bytes ≡ Ok (a.counts, a.places)) a.reads.reads a.reads.all a.reads.spells in
    absurd (no_finding s text a.counts a.places f state read
    (subst (All (IsFinding a.counts a.places)) (sym same) a.are.each 0 f (omega arith)))

-- and finds nothing
pub audit_is_right : (s : CoreState) (text : List ℕ) (right : Bool) (to before after : Option (List ℕ)) → IsStateText s text
    → Audits right (Some text) to before after → right ≡ true
audit_is_right s text right to before after state a =
    let none = audited s text right to before after a state a.found refl in
    a.says ∙ rw none refl

-- and writes that
pub audit_writes_none : (s : CoreState) (text : List ℕ) (right : Bool) (to before after : Option (List ℕ)) → IsStateText s text
    → Audits right (Some text) to before after → Appends before after (findings_text [])
audit_writes_none s text right to before after state a =
    let none = audited s text right to before after a state a.found refl in
    subst (λ (found : List Finding). Appends before after (findings_text found)) none a.wrote
