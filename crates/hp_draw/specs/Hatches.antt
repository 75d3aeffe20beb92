-- The waits of tasks, hatched over the lanes.
use Rattle.std.specs.Prelude.{ℕ, ◌+◌, nat_lt, List, [], ◌++◌, codes, if◌then◌else◌}
use Rattle.std.specs.Fmt.{decimal}
use Rattle.hp_core.specs.declared.acquiring.Acquired.{Acquired}
use Rattle.hp_core.specs.declared.acquiring.Acquired.TheVariants as wanted
use Rattle.hp_draw.specs.Layouts.{x_of, width_of, top_of}
use Rattle.hp_draw.specs.Shapes.{box_text, line_text}
use Rattle.hp_draw.specs.declared.layout.Layout.{Layout}
use Rattle.hp_draw.specs.declared.shapes.Place.{Place}
use Rattle.hp_draw.specs.declared.waits.Wait.{Wait}
use Rattle.hp_draw.specs.declared.waits.Waiting.{Waiting}

-- what a task waits for: `: lock of file 0`, `: slot of file 0 index 3`
abbrev pub wanted_words : Acquired → List ℕ
wanted_words wanted.Nothing = []
wanted_words (wanted.Lock file) = codes ": lock of file " ++ decimal file
wanted_words (wanted.Slot file index) = codes ": slot of file " ++ (decimal file ++ (codes " index " ++ decimal index))

-- who waits for whom, from that line of the trace on
unfoldable pub waits_words : (column : ℕ) → Waiting → List ℕ
waits_words column w =
    codes "<g><title>line " ++ (decimal (w.since + 2)
    ++ (codes ": task " ++ (decimal column ++ (codes " waits for task " ++ decimal w.holder))))

-- what is told of a wait where the pointer rests on it
unfoldable pub wait_told : Wait → List ℕ
wait_told w = waits_words w.column w.waiting ++ (wanted_words w.waiting.wanted ++ codes "</title>")

-- where it is hatched
unfoldable pub hatch_place : Layout → Wait → Place
hatch_place l w =
    record { x = x_of l w.waiting.since; y = top_of l w.column; width = width_of l w.waiting.since w.until; height = l.tall }

-- the end of a line at its holder
unfoldable pub holder_text : (x y : ℕ) → List ℕ
holder_text x y =
    codes "<circle class='holder' cx='" ++ (decimal x ++ (codes "' cy='" ++ (decimal y ++ codes "' r='3'/>\n")))

-- a line from the edge of one lane to that of another
abbrev pub between_text : (x own other tall : ℕ) → List ℕ
between_text x own other tall =
    if nat_lt other own then line_text (codes "wait") x own (other + tall) ++ holder_text x (other + tall)
    else line_text (codes "wait") x (own + tall) other ++ holder_text x other

-- the line from a wait to its holder
abbrev pub line_to_holder : Layout → Wait → List ℕ
line_to_holder l w = between_text (x_of l w.waiting.since + 4) (top_of l w.column) (top_of l w.waiting.holder) l.tall

-- a wait
abbrev pub hatch_text : Layout → Wait → List ℕ
hatch_text l w =
    wait_told w ++ (box_text (codes "held") (hatch_place l w) ++ (line_to_holder l w ++ codes "</g>\n"))
