-- Where a moment, a column or a count stands in a picture that is laid out so.
use Rattle.std.specs.Prelude.{ℕ, ◌+◌, ◌-◌, ◌*◌, ◌/◌, Option, Some, None, get_or}
use Rattle.hp_draw.specs.declared.layout.Layout.{Layout}
use Rattle.hp_draw.specs.declared.layout.TheConstants.{LEFT, UPPER, LOWER}

-- where a moment begins, from the left
abbrev pub x_of : Layout → (at : ℕ) → ℕ
x_of l at = LEFT + l.step * at

-- where it ends
abbrev pub next_x_of : Layout → (at : ℕ) → ℕ
next_x_of l at = LEFT + l.step * (at + 1)

-- how wide the time between two moments is
abbrev pub width_of : Layout → (from until : ℕ) → ℕ
width_of l from until = l.step * (until - from)

abbrev pub place_or_none : Option ℕ → ℕ
place_or_none None = 0
place_or_none (Some top) = top

-- how far from above the boxes of a column begin
abbrev pub top_of : Layout → (column : ℕ) → ℕ
top_of l column = place_or_none (get_or l.tops.items column None)

-- the lines on which the upper curves stand, and the lower ones
abbrev pub upper_base_of : Layout → ℕ
upper_base_of l = l.foot + 24 + UPPER

abbrev pub lower_base_of : Layout → ℕ
lower_base_of l = l.foot + 52 + UPPER + LOWER

-- how far from above a count stands on each
abbrev pub upper_of : Layout → (count : ℕ) → ℕ
upper_of l count = upper_base_of l - count * UPPER / (l.most_free + 1)

abbrev pub lower_of : Layout → (count : ℕ) → ℕ
lower_of l count = lower_base_of l - count * LOWER / (l.most_resv + 1)
