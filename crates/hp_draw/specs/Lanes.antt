-- The lanes of tasks, and the stays in them.
use Rattle.std.specs.Prelude.{ℕ, zero, suc, ◌+◌, ◌-◌, ◌/◌, ◌==◌, nat_le, List, [], ◌++◌, length, Option, Some}
use Rattle.std.specs.Prelude.{None, get_or, codes, if◌then◌else◌}
use Rattle.std.specs.Fmt.{decimal}
use Rattle.hp_base.specs.Text.{answer_text, op_text}
use Rattle.hp_base.specs.declared.event.Op.{Op}
use Rattle.hp_base.specs.declared.event.Op.TheVariants.{Map, MapNoReserve, Unmap, Load, Store, Alloc, Punch, Truncate, Exit}
use Rattle.hp_machine.specs.Text.{phase_word}
use Rattle.hp_machine.specs.declared.phase.Phase.{Phase}
use Rattle.hp_watch.specs.Linux.{linux_of_op}
use Rattle.hp_draw.specs.Layouts.{x_of, width_of, top_of}
use Rattle.hp_draw.specs.Shapes.{box_text, words_text, upright_text}
use Rattle.hp_draw.specs.declared.following.Next.{Next}
use Rattle.hp_draw.specs.declared.following.Next.TheVariants.{GoesOn, Ended, InFlight}
use Rattle.hp_draw.specs.declared.following.OpenStay.{OpenStay}
use Rattle.hp_draw.specs.declared.following.Stay.{Stay}
use Rattle.hp_draw.specs.declared.layout.Layout.{Layout}
use Rattle.hp_draw.specs.declared.layout.TheConstants.{LEFT}
use Rattle.hp_draw.specs.declared.shapes.Place.{Place}

-- the colour of an operation
abbrev pub class_of : Op → List ℕ
class_of (Map file from len) = codes "stay map"
class_of (MapNoReserve file from len) = codes "stay mapn"
class_of (Unmap base) = codes "stay unmap"
class_of (Load vpn) = codes "stay load"
class_of (Store vpn word) = codes "stay store"
class_of (Alloc file from len keep) = codes "stay alloc"
class_of (Punch file from len) = codes "stay punch"
class_of (Truncate file new) = codes "stay trunc"
class_of Exit = codes "stay exit"

-- what stands at the left of a lane: `task 2`, or `pool` at that of what is of no task
abbrev pub name_of : (column : ℕ) → List ℕ
name_of column = if column == 0 then codes "pool" else codes "task " ++ decimal column

unfoldable pub lane_place : Layout → (top : ℕ) → Place
lane_place l top = record { x = LEFT; y = top; width = width_of l 0 l.events; height = l.tall }

-- a lane that begins there, and its name
unfoldable pub lane_at : Layout → (column top : ℕ) → List ℕ
lane_at l column top =
    box_text (codes "lane") (lane_place l top) ++ words_text (codes "name") 8 (top + l.tall / 2 + 4) (name_of column)

abbrev pub lane_text : Layout → (column : ℕ) → Option ℕ → List ℕ
lane_text l column None = []
lane_text l column (Some top) = lane_at l column top

-- the lanes of the first n columns
unfoldable pub lanes_text : Layout → (n : ℕ) → List ℕ
lanes_text l zero = []
lanes_text l (suc n) = lanes_text l n ++ lane_text l n (get_or l.tops.items n None)

-- where the box of a stay is
unfoldable pub place_of : Layout → Stay → Place
place_of l s =
    record { x = x_of l s.open_stay.since; y = top_of l s.column; width = width_of l s.open_stay.since s.until; height = l.tall }

abbrev pub ended_words : Next → (until : ℕ) → List ℕ
ended_words GoesOn until = []
ended_words (Ended answer) until =
    codes ", ended in line " ++ (decimal (until + 2) ++ (codes ": " ++ answer_text answer))
ended_words InFlight until = []

-- which call stands where, in the numbers of the trace's lines
unfoldable pub stood_text : (column : ℕ) → OpenStay → List ℕ
stood_text column s =
    codes "<g><title>line " ++ (decimal (s.since + 2)
    ++ (codes ": " ++ (op_text s.op
    ++ (codes " of task " ++ (decimal column ++ (codes " at " ++ phase_word s.phase))))))

-- what does in Linux what the next step of such a call does
abbrev pub linux_text : Op → Phase → List ℕ
linux_text op phase = codes " (Linux: " ++ (linux_of_op op phase ++ codes ")")

-- what is told of a stay where the pointer rests on it
unfoldable pub told_text : Stay → List ℕ
told_text s =
    stood_text s.column s.open_stay ++ (linux_text s.open_stay.op s.open_stay.phase ++ (ended_words s.next s.until ++ codes "</title>"))

-- the phase's name: along the box, upright in it, or not at all, as there is room
unfoldable pub phase_text : Place → (phase : List ℕ) → List ℕ
phase_text p phase =
    if nat_le 58 p.width then words_text (codes "in") (p.x + p.width / 2) (p.y + p.height / 2 + 3) phase
    else (if nat_le 12 p.width then upright_text (codes "in") (p.x + p.width / 2 + 3) (p.y + p.height / 2) phase else [])

-- the box of a stay, coloured by operation, and what is told of it
abbrev pub stay_text : Layout → Stay → List ℕ
stay_text l s = told_text s ++ (box_text (class_of s.open_stay.op) (place_of l s) ++ codes "</g>\n")

-- the name of its phase
abbrev pub phase_of : Layout → Stay → List ℕ
phase_of l s = phase_text (place_of l s) (phase_word s.open_stay.phase)

-- the words over a call: with its answer where they have room, else without
abbrev pub label_of : Op → Next → (room : ℕ) → List ℕ
label_of op GoesOn room = []
label_of op (Ended answer) room =
    if nat_le (length (op_text op ++ (codes ": " ++ answer_text answer))) room then op_text op ++ (codes ": " ++ answer_text answer)
    else op_text op
label_of op InFlight room = op_text op

-- shown where there is room
abbrev pub label_text : (x y room : ℕ) → (label : List ℕ) → List ℕ
label_text x y room label = if nat_le (length label) room then words_text (codes "call") x y label else []

abbrev pub over_text : Op → Next → (x y room : ℕ) → List ℕ
over_text op GoesOn x y room = []
over_text op (Ended answer) x y room = label_text x y room (label_of op (Ended answer) room)
over_text op InFlight x y room = label_text x y room (op_text op)

-- the words over a call, at its last stay
abbrev pub call_text : Layout → Stay → List ℕ
call_text l s =
    over_text s.open_stay.op s.next (x_of l s.open_stay.begun + 1) (top_of l s.column - 4) (width_of l s.open_stay.begun s.until / 6)
