-- The counts, as curves.
use Rattle.std.specs.Prelude.{ℕ, ℤ, ◌+◌, ◌-◌, ◌/◌, ◌==◌, ◌||◌, nat_lt, List, [], ◌∷◌, ◌++◌, Option, None, Some, codes}
use Rattle.std.specs.Prelude.{if◌then◌else◌}
use Rattle.std.specs.Fmt.{decimal, signed_decimal}
use Rattle.hp_draw.specs.Layouts.{x_of, next_x_of, width_of, upper_base_of, lower_base_of, upper_of, lower_of}
use Rattle.hp_draw.specs.Shapes.{box_text, words_text, texts}
use Rattle.hp_draw.specs.declared.curves.Curve.{Curve}
use Rattle.hp_draw.specs.declared.curves.Curve.TheVariants.{Free, Taken, Resv, Bare, Used}
use Rattle.hp_draw.specs.declared.following.Numbers.{Numbers}
use Rattle.hp_draw.specs.declared.layout.Layout.{Layout}
use Rattle.hp_draw.specs.declared.layout.TheConstants.{LEFT, UPPER, LOWER}
use Rattle.hp_draw.specs.declared.shapes.Place.{Place}

-- the looks of a curve
abbrev pub class_of : Curve → List ℕ
class_of Free = codes "free"
class_of Taken = codes "resv"
class_of Resv = codes "resv"
class_of Bare = codes "bare"
class_of Used = codes "used"

-- how far from above it runs
abbrev pub height_of : Layout → Curve → Numbers → ℕ
height_of l Free n = upper_of l n.free
height_of l Taken n = upper_of l n.resv
height_of l Resv n = lower_of l n.resv
height_of l Bare n = lower_of l n.bare
height_of l Used n = upper_of l n.used

-- where one without a moment stands
abbrev pub base_of : Layout → Curve → ℕ
base_of l Free = upper_base_of l
base_of l Taken = upper_base_of l
base_of l Resv = lower_base_of l
base_of l Bare = lower_base_of l
base_of l Used = upper_base_of l

-- where it begins: as far from above as in its first moment
abbrev pub start_of : Layout → Curve → List Numbers → ℕ
start_of l curve [] = base_of l curve
start_of l curve (first ∷ _) = height_of l curve first

-- it runs there, and on to the end of that moment
abbrev pub point_text : Layout → Curve → Numbers → List ℕ
point_text l curve n = codes "V" ++ (decimal (height_of l curve n) ++ (codes "H" ++ decimal (next_x_of l n.at)))

-- a curve
unfoldable pub curve_head : Layout → Curve → (start : ℕ) → List ℕ
curve_head l curve start = codes "<path class='" ++ (class_of curve ++ (codes "' d='M" ++ (decimal LEFT ++ (codes " " ++ decimal start))))

unfoldable pub curve_text : Layout → Curve → List Numbers → List ℕ
curve_text l curve numbers = curve_head l curve (start_of l curve numbers) ++ (texts (point_text l curve) numbers ++ codes "'/>\n")

-- the place between the reserve count and the reserved indices without a page, where they differ
abbrev pub between_text : Layout → Numbers → List ℕ
between_text l n =
    if n.resv == n.bare then []
    else codes "M" ++ (decimal (x_of l n.at)
    ++ (codes " " ++ (decimal (lower_of l n.resv)
    ++ (codes "H" ++ (decimal (next_x_of l n.at)
    ++ (codes "V" ++ (decimal (lower_of l n.bare) ++ (codes "H" ++ (decimal (x_of l n.at) ++ codes "Z")))))))))

-- what is owed, as a place between two curves
unfoldable pub owed_text : Layout → List Numbers → List ℕ
owed_text l numbers = codes "<path class='owed' d='" ++ (texts (between_text l) numbers ++ codes "'/>\n")

-- what is owed behind an event, as a number, where there is room and something is owed
abbrev pub sum_text : Layout → Numbers → List ℕ
sum_text l n =
    if n.resv == n.bare || nat_lt l.step 12 then []
    else codes "<text class='sum' x='" ++ (decimal (x_of l n.at + l.step / 2)
    ++ (codes "' y='" ++ (decimal (lower_base_of l + 16) ++ (codes "'>" ++ (signed_decimal n.owed ++ codes "</text>\n")))))

unfoldable pub sums_text : Layout → List Numbers → List ℕ
sums_text l numbers = words_text (codes "number") 64 (lower_base_of l + 16) (codes "owed") ++ texts (sum_text l) numbers

unfoldable pub hit_place : Layout → (at : ℕ) → Place
hit_place l at = record { x = x_of l at; y = upper_base_of l - UPPER; width = l.step; height = UPPER + LOWER + 28 }

-- what is told of the counts behind an event where the pointer rests on them
unfoldable pub counts_front : Numbers → List ℕ
counts_front n =
    codes "<g><title>line " ++ (decimal (n.at + 2)
    ++ (codes ": free " ++ (decimal n.free ++ (codes ", resv " ++ decimal n.resv))))

unfoldable pub owed_told : ℤ → List ℕ
owed_told owed = codes ", owed " ++ (signed_decimal owed ++ codes "</title>")

unfoldable pub bare_told : (bare : ℕ) → List ℕ
bare_told bare = codes ", reserved without a page " ++ decimal bare

-- how many pages are used of how many, where the pool has a quota
abbrev pub used_told : (quota : Option ℕ) → (used : ℕ) → List ℕ
used_told None used = []
used_told (Some quota) used = codes ", used " ++ (decimal used ++ (codes " of " ++ decimal quota))

abbrev pub counts_text : Layout → (quota : Option ℕ) → Numbers → List ℕ
counts_text l quota n =
    counts_front n
    ++ (bare_told n.bare
    ++ (used_told quota n.used ++ (owed_told n.owed ++ (box_text (codes "hit") (hit_place l n.at) ++ codes "</g>\n"))))

-- a level of the curves, with its number
unfoldable pub level_line : (y width : ℕ) → List ℕ
level_line y width =
    codes "<path class='grid' d='M" ++ (decimal LEFT ++ (codes " " ++ (decimal y ++ (codes "h" ++ (decimal width ++ codes "'/>\n")))))

unfoldable pub level_text : (y count width : ℕ) → List ℕ
level_text y count width = level_line y width ++ words_text (codes "number") 64 (y + 3) (decimal count)

-- the levels at 0 and at the most, of both kinds of curves
unfoldable pub levels_text : Layout → List ℕ
levels_text l =
    level_text (upper_base_of l) 0 (width_of l 0 l.events)
    ++ (level_text (upper_of l l.most_free) l.most_free (width_of l 0 l.events)
    ++ (level_text (lower_base_of l) 0 (width_of l 0 l.events)
    ++ level_text (lower_of l l.most_resv) l.most_resv (width_of l 0 l.events)))

-- the four curves
unfoldable pub four_text : Layout → List Numbers → List ℕ
four_text l numbers = curve_text l Free numbers ++ (curve_text l Taken numbers ++ (curve_text l Resv numbers ++ curve_text l Bare numbers))

-- the line of the quota, and what stands over it
unfoldable pub quota_line : (y width : ℕ) → List ℕ
quota_line y width =
    codes "<path class='quota' d='M" ++ (decimal LEFT ++ (codes " " ++ (decimal y ++ (codes "h" ++ (decimal width ++ codes "'/>\n")))))

unfoldable pub quota_words : (quota y : ℕ) → List ℕ
quota_words quota y =
    codes "<text x='76' y='" ++ (decimal y ++ (codes "'>quota " ++ (decimal quota ++ codes "</text>\n")))

-- the same, if the upper curves show as much
abbrev pub quota_level : Layout → (quota : ℕ) → List ℕ
quota_level l quota =
    if nat_lt l.most_free quota then []
    else quota_line (upper_of l quota) (width_of l 0 l.events) ++ quota_words quota (upper_of l quota - 3)

-- the used count and the quota, where the pool has one
abbrev pub quota_text : Layout → (quota : Option ℕ) → List Numbers → List ℕ
quota_text l None numbers = []
quota_text l (Some quota) numbers = curve_text l Used numbers ++ quota_level l quota

-- the curves, and what is owed
unfoldable pub shown_text : Layout → (quota : Option ℕ) → List Numbers → List ℕ
shown_text l quota numbers = owed_text l numbers ++ (quota_text l quota numbers ++ four_text l numbers)

-- all of it
unfoldable pub curves_text : Layout → (quota : Option ℕ) → List Numbers → List ℕ
curves_text l quota numbers =
    levels_text l ++ (shown_text l quota numbers ++ (sums_text l numbers ++ texts (counts_text l quota) numbers))
