-- What an export answers of an audit.
use Rattle.std.specs.Prelude.{◌≡◌, ◌⊎◌, ℕ, Option, None, Result, Ok, Err, IsSome}
use Rattle.hp_audit.specs.declared.finding.Finding.{Finding}
use Rattle.hp_audit.specs.declared.finding.Finding.TheVariants.{Shape, Agree, Place, Size, Count, Used}
use Rattle.hp_audit.specs.declared.picture.Picture.{Picture}
use Rattle.hp_core.specs.State.{CoreState}
use Rattle.hp_core.specs.Pictures.{IsPicture}
use Rattle.hp_audit.specs.Findings.{IsRight}
use Rattle.hp_c.specs.Codes.{is_closed, no_memory}

-- the number of a finding. 0 is none
abbrev pub finding_number : Result (Unit {0}) Finding → ℕ
finding_number (Ok done) = 0
finding_number (Err Shape) = 1
finding_number (Err Agree) = 2
finding_number (Err Place) = 3
finding_number (Err Size) = 4
finding_number (Err Count) = 5
finding_number (Err Used) = 6

-- the core's picture is right
unfoldable pub IsAudited : CoreState → Type 0
IsAudited core = (picture : Picture) × IsPicture core picture × IsRight picture

-- the pool is closed, or there was no memory
abbrev pub IsAuditRefused : (held : Option CoreState) → (code : ℕ) → Type 0
IsAuditRefused held code = (code ≡ is_closed) × (held ≡ None) ⊎ (code ≡ no_memory) × IsSome held
