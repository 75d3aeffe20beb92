-- What an export answers, in the numbers of the header.
use Rattle.std.specs.Prelude.{ℕ}

-- it was done, and told
abbrev pub ok : ℕ
ok = 0

-- the pool is closed
abbrev pub is_closed : ℕ
is_closed = 1

-- there was no memory
abbrev pub no_memory : ℕ
no_memory = 2

-- the numbers name nothing
abbrev pub no_such : ℕ
no_such = 3

-- a call is in flight
abbrev pub in_flight : ℕ
in_flight = 4

-- a line of the trace isn't allowed there
abbrev pub bad_line : ℕ
bad_line = 5

-- its first line is no header
abbrev pub bad_header : ℕ
bad_header = 6

-- there is more to tell than there is room for
abbrev pub too_small : ℕ
too_small = 7

-- a line of the conditions says none
abbrev pub bad_condition : ℕ
bad_condition = 8

-- nothing meets the conditions
abbrev pub none_meets : ℕ
none_meets = 9

-- the limits were reached first
abbrev pub limit_reached : ℕ
limit_reached = 10

-- the version: 0.1.0
abbrev pub version : ℕ
version = 1000
