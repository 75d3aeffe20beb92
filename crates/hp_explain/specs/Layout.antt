-- How a row is laid out: a number at the left, a column for each task that appears, and three numbers at the right.
use Rattle.std.specs.Prelude.{ℕ, zero, suc, ◌-◌, ◌^◌, Bool, ◌==◌, ◌||◌, nat_lt, List, [], ◌∷◌, ◌++◌, length, ℤ}
use Rattle.std.specs.Prelude.{codes, slice_index_or, if◌then◌else◌}
use Rattle.std.specs.Fmt.{decimal, format_spec, styled_decimal, styled_signed_decimal}

-- so many spaces
unfoldable pub spaces : ℕ → List ℕ
spaces zero = []
spaces (suc n) = spaces n ++ 32 ∷ []

-- a text at the left of a place of that width, and one space behind it
abbrev pub field : (width : ℕ) → (text : List ℕ) → List ℕ
field width text = text ++ (spaces (width - length text) ++ 32 ∷ [])

-- a number at the right of a place of that width
abbrev pub right : (width n : ℕ) → List ℕ
right width n = styled_decimal (format_spec 32 3 0 width (2 ^ 64 - 1)) n

abbrev pub right_signed : (width : ℕ) → ℤ → List ℕ
right_signed width n = styled_signed_decimal (format_spec 32 3 0 width (2 ^ 64 - 1)) n

-- column n where the row's text stands in column own: that text there, and nothing in another. A column of no width is not
-- shown, unless the text stands in it
abbrev pub column : (width : ℕ) → (own : Bool) → (text : List ℕ) → List ℕ
column width own text = if own || nat_lt 0 width then field width (if own then text else []) else []

-- the first n columns
unfoldable pub columns : (widths : List ℕ) → (own : ℕ) → (text : List ℕ) → (n : ℕ) → List ℕ
columns widths own text zero = []
columns widths own text (suc n) = columns widths own text n ++ column (slice_index_or widths n 0) (n == own) text

-- what stands over a column: `event` over the one of all, `task 2`, or `pool` over that of what is of no task of the pool
abbrev pub title : (compact : Bool) → (n : ℕ) → List ℕ
title compact n = if compact then codes "event" else (if n == 0 then codes "pool" else codes "task " ++ decimal n)

abbrev pub titled : (compact : Bool) → (width n : ℕ) → List ℕ
titled compact width n = if nat_lt 0 width then field width (title compact n) else []

-- the same over the first n
unfoldable pub titles : (compact : Bool) → (widths : List ℕ) → (n : ℕ) → List ℕ
titles compact widths zero = []
titles compact widths (suc n) = titles compact widths n ++ titled compact (slice_index_or widths n 0) n
