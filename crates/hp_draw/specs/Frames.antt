-- What stands round the picture: its head, its legend, and the numbers of lines.
use Rattle.std.specs.Prelude.{ℕ, zero, suc, ◌+◌, ◌*◌, ◌/◌, ◌%◌, ◌==◌, List, [], ◌++◌, Option, None, Some, codes, max}
use Rattle.std.specs.Prelude.{if◌then◌else◌}
use Rattle.std.specs.Fmt.{decimal}
use Rattle.hp_draw.specs.Layouts.{x_of, lower_base_of}
use Rattle.hp_draw.specs.Shapes.{box_text, words_text, line_text}
use Rattle.hp_draw.specs.declared.frame.TheConstants.{LEGEND, QUOTA_LEGEND}
use Rattle.hp_draw.specs.declared.layout.Layout.{Layout}
use Rattle.hp_draw.specs.declared.layout.TheConstants.{LEFT, TOP}
use Rattle.hp_draw.specs.declared.shapes.Place.{Place}
use Rattle.hp_draw.specs.declared.style.TheConstants.{STYLE}

-- how wide the picture is, which is at least as wide as its legend, and how high
abbrev pub whole_width_of : Layout → ℕ
whole_width_of l = max (LEFT + l.step * l.events + 40) 900

abbrev pub whole_height_of : Layout → ℕ
whole_height_of l = lower_base_of l + 48

unfoldable pub background : Layout → Place
background l = record { x = 0; y = 0; width = whole_width_of l; height = whole_height_of l }

-- how large the picture is
unfoldable pub size_text : (width height : ℕ) → List ℕ
size_text width height =
    codes "<svg xmlns='http://www.w3.org/2000/svg' width='" ++ (decimal width ++ (codes "' height='" ++ (decimal height ++ codes "'")))

unfoldable pub view_text : (width height : ℕ) → List ℕ
view_text width height = codes " viewBox='0 0 " ++ (decimal width ++ (codes " " ++ (decimal height ++ codes "'>\n")))

unfoldable pub style_text : List ℕ
style_text = STYLE.now

-- what stands before all else: that, the looks, and the ground
unfoldable pub head_text : Layout → List ℕ
head_text l =
    size_text (whole_width_of l) (whole_height_of l)
    ++ (view_text (whole_width_of l) (whole_height_of l) ++ (style_text ++ box_text (codes "background") (background l)))

-- the legend of the quota, where the pool has one
abbrev pub quota_legend : (quota : Option ℕ) → List ℕ
quota_legend None = []
quota_legend (Some quota) = QUOTA_LEGEND.now

-- the title, and the legend
unfoldable pub legend_text : (title : List ℕ) → (quota : Option ℕ) → List ℕ
legend_text title quota = words_text (codes "name") 8 20 title ++ (LEGEND.now ++ quota_legend quota)

-- the number of a moment's line in the trace, whose header is line 1, and a thin line down the picture
abbrev pub number_text : Layout → (at : ℕ) → List ℕ
number_text l at =
    line_text (codes "grid") (x_of l at) TOP (lower_base_of l)
    ++ words_text (codes "at") (x_of l at + l.step / 2) 124 (decimal (at + 2))

-- the same at each so many events
abbrev pub number_at : Layout → (at : ℕ) → List ℕ
number_at l at = if at % max l.tick 1 == 0 then number_text l at else []

-- of the first n events
unfoldable pub numbers_text : Layout → (n : ℕ) → List ℕ
numbers_text l zero = []
numbers_text l (suc n) = numbers_text l n ++ number_at l n

unfoldable pub lines_text : Layout → List ℕ
lines_text l = words_text (codes "number") 64 124 (codes "line") ++ numbers_text l l.events
