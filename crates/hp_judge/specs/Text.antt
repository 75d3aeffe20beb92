-- The text of findings.
use Rattle.std.specs.Prelude.{ℕ, List, [], ◌∷◌, ◌++◌, codes, length}
use Rattle.std.specs.Fmt.{decimal, signed_decimal}
use Rattle.std.specs.List.{flat_map}
use Rattle.hp_judge.specs.declared.finding.Clause.TheVariants.{Region, Page, File, Agree, Size}
use Rattle.hp_judge.specs.declared.finding.Finding.{Finding}
use Rattle.hp_judge.specs.declared.finding.Finding.TheVariants as finding

-- what is told of a finding
abbrev pub finding_text : Finding → List ℕ
finding_text (finding.Line Region n) =
    codes "region " ++ (decimal n ++ codes ": of no file, empty, too long, or not behind the region before it")
finding_text (finding.Line Page n) = codes "page " ++ (decimal n ++ codes ": of no file, or not behind the page before it")
finding_text (finding.Line File n) = codes "translation " ++ (decimal n ++ codes ": of no file")
finding_text (finding.Line Agree n) = codes "translation " ++ (decimal n ++ codes ": not to its file's page at that index")
finding_text (finding.Line Size n) = codes "translation " ++ (decimal n ++ codes ": at or above the size of an unlocked file")
finding_text (finding.Place x) = codes "frame " ++ (decimal x ++ codes ": at two places")
finding_text (finding.Count wanted) = codes "resv: should be " ++ signed_decimal wanted
finding_text finding.Free = codes "resv: below zero, or above the free frames"
finding_text (finding.Used wanted) = codes "used: should be " ++ signed_decimal wanted
finding_text finding.Quota = codes "used: below zero, or above the quota"

abbrev pub finding_line : Finding → List ℕ
finding_line f = finding_text f ++ 10 ∷ []

-- a line for each finding, and then how many there are
unfoldable pub findings_text : List Finding → List ℕ
findings_text found = flat_map finding_line found ++ (codes "findings " ++ (decimal (length found) ++ 10 ∷ []))
