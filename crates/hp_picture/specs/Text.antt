-- The one spelling of a picture.
use Rattle.std.specs.Prelude.{ℕ, suc, ℤ, pos, negsuc, Bool, true, false, List, [], ◌∷◌, ◌++◌, map, All, IfSome, codes}
use Rattle.std.specs.Fmt.{decimal, signed_decimal}
use Rattle.std.specs.List.{flat_map}
use Rattle.hp_base.specs.Text.{field, quota_field}
use Rattle.hp_text.specs.Fits.{IsShort}
use Rattle.hp_picture.specs.Pictures.{PlacesState}
use Rattle.hp_picture.specs.declared.line.PictureLine.{PictureLine}
use Rattle.hp_picture.specs.declared.line.PictureLine.TheVariants as says
use Rattle.hp_picture.specs.declared.picture.Counts.{Counts}

-- the four counts, and the quota where there is one
abbrev pub counts_text : Counts → List ℕ
counts_text c =
    signed_decimal c.resv ++ (codes " " ++ (signed_decimal c.owed ++ (codes " " ++ (signed_decimal c.used
    ++ (codes " " ++ (signed_decimal c.used_owed ++ quota_field c.quota))))))

abbrev pub lock_text : Bool → List ℕ
lock_text true = codes " locked"
lock_text false = []

-- a line, without its end
abbrev pub line_text : PictureLine → List ℕ
line_text (says.Head counts) = codes "picture " ++ counts_text counts
line_text (says.Free frame) = codes "free " ++ decimal frame
line_text (says.Retired frame) = codes "retired " ++ decimal frame
line_text (says.Hand frame) = codes "hand " ++ decimal frame
line_text (says.File size locked) = codes "file " ++ (decimal size ++ lock_text locked)
line_text (says.Region file from to) = codes "region " ++ (decimal file ++ (field from ++ field to))
line_text (says.Page file index frame) = codes "page " ++ (decimal file ++ (field index ++ field frame))
line_text (says.Translation task file index frame) =
    codes "translation " ++ (decimal task ++ (field file ++ (field index ++ field frame)))
line_text says.End = codes "end"

-- and with it
abbrev pub spelled : PictureLine → List ℕ
spelled line = line_text line ++ 10 ∷ []

-- these lines, one behind the other
unfoldable pub lines_text : List PictureLine → List ℕ
lines_text lines = flat_map spelled lines

-- the line of an entry
abbrev pub file_line : ℕ × Bool → PictureLine
file_line file = says.File file.0 file.1

abbrev pub region_line : ℕ × ℕ × ℕ → PictureLine
region_line region = says.Region region.0 region.1 region.2

abbrev pub page_line : ℕ × ℕ × ℕ → PictureLine
page_line page = says.Page page.0 page.1 page.2

abbrev pub translation_line : ℕ × ℕ × ℕ × ℕ → PictureLine
translation_line entry = says.Translation entry.0 entry.1 entry.2 entry.3

-- the lines of each kind of place
abbrev pub free_lines : PlacesState → List PictureLine
free_lines p = map says.Free p.free

abbrev pub retired_lines : PlacesState → List PictureLine
retired_lines p = map says.Retired p.retired

abbrev pub hand_lines : PlacesState → List PictureLine
hand_lines p = map says.Hand p.hands

abbrev pub file_lines : PlacesState → List PictureLine
file_lines p = map file_line p.files

abbrev pub region_lines : PlacesState → List PictureLine
region_lines p = map region_line p.regions

abbrev pub page_lines : PlacesState → List PictureLine
page_lines p = map page_line p.pages

abbrev pub translation_lines : PlacesState → List PictureLine
translation_lines p = map translation_line p.tables

-- the picture's one text: its counts, the places kind by kind, and the end
unfoldable pub places_text : PlacesState → List ℕ
places_text p =
    lines_text (free_lines p) ++ (lines_text (retired_lines p) ++ (lines_text (hand_lines p)
    ++ (lines_text (file_lines p) ++ (lines_text (region_lines p) ++ (lines_text (page_lines p)
    ++ lines_text (translation_lines p))))))

unfoldable pub picture_text : Counts → PlacesState → List ℕ
picture_text c p = spelled (says.Head c) ++ (places_text p ++ spelled says.End)

-- ---- what can be read again

-- a count of 32 bits, which may stand below zero
abbrev pub IsShortCount : ℤ → Type 0
IsShortCount (pos n) = IsShort n
IsShortCount (negsuc n) = IsShort (suc n)

abbrev pub AreShortCounts : Counts → Type 0
AreShortCounts c =
    IsShortCount c.resv × IsShortCount c.owed × IsShortCount c.used × IsShortCount c.used_owed
    × IfSome c.quota IsShort

-- the numbers of a line are within their types' ranges, as they are in each value of a program
abbrev pub IsLine : PictureLine → Type 0
IsLine (says.Head counts) = Unit {0}
IsLine (says.Free frame) = IsShort frame
IsLine (says.Retired frame) = IsShort frame
IsLine (says.Hand frame) = IsShort frame
IsLine (says.File size locked) = IsShort size
IsLine (says.Region file from to) = IsShort file × IsShort from × IsShort to
IsLine (says.Page file index frame) = IsShort file × IsShort index × IsShort frame
IsLine (says.Translation task file index frame) = IsShort task × IsShort file × IsShort index × IsShort frame
IsLine says.End = Unit {0}

-- and its counts have 32 bits
abbrev pub LineFits : PictureLine → Type 0
LineFits (says.Head counts) = AreShortCounts counts
LineFits (says.Free frame) = IsLine (says.Free frame)
LineFits (says.Retired frame) = IsLine (says.Retired frame)
LineFits (says.Hand frame) = IsLine (says.Hand frame)
LineFits (says.File size locked) = IsLine (says.File size locked)
LineFits (says.Region file from to) = IsLine (says.Region file from to)
LineFits (says.Page file index frame) = IsLine (says.Page file index frame)
LineFits (says.Translation task file index frame) = IsLine (says.Translation task file index frame)
LineFits says.End = IsLine says.End

-- so is each place's line
pub record PlacesFit (p : PlacesState) : Type 0 where
  pub free : All LineFits (free_lines p)
  pub retired : All LineFits (retired_lines p)
  pub hands : All LineFits (hand_lines p)
  pub files : All LineFits (file_lines p)
  pub regions : All LineFits (region_lines p)
  pub pages : All LineFits (page_lines p)
  pub tables : All LineFits (translation_lines p)
