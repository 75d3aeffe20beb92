-- Kills, denials, refusals, blocked steps, failures and resizes.
use Rattle.std.specs.Prelude.{ℕ, ◌+◌, ◌/◌, nat_lt, List, [], ◌++◌, codes, if◌then◌else◌}
use Rattle.std.specs.Fmt.{decimal}
use Rattle.hp_base.specs.Text.{answer_text}
use Rattle.hp_machine.specs.Text.{refusal_word}
use Rattle.hp_draw.specs.Layouts.{x_of, top_of, lower_base_of}
use Rattle.hp_draw.specs.declared.following.Mark.{Mark}
use Rattle.hp_draw.specs.declared.following.Sign.{Sign}
use Rattle.hp_draw.specs.declared.following.Sign.TheVariants.{Denied, Killed, Blocked, Failed, Resized, Refused}
use Rattle.hp_draw.specs.declared.layout.Layout.{Layout}
use Rattle.hp_draw.specs.declared.layout.TheConstants.{TOP}

-- what a mark says where the pointer rests on it
unfoldable pub said : Sign → List ℕ
said Denied = codes "denied its memory"
said Killed = codes "killed"
said (Blocked holder) = codes "blocked by task " ++ decimal holder
said (Failed answer) = codes "ended " ++ answer_text answer
said (Resized frames) = codes "resized to " ++ (decimal frames ++ codes " frames")
said (Refused why) = codes "refused " ++ refusal_word why

-- the line down the picture at which the pool was resized
unfoldable pub resized_line : Layout → (x : ℕ) → List ℕ
resized_line l x =
    codes "<path class='resized' d='M" ++ (decimal x
    ++ (codes " " ++ (decimal TOP ++ (codes "V" ++ (decimal (lower_base_of l) ++ codes "'/>")))))

-- its number of frames, upright beside the line, where an event is wide enough
abbrev pub resized_number : Layout → (frames x y : ℕ) → List ℕ
resized_number l frames x y =
    if nat_lt l.step 12 then []
    else codes "<text class='in' transform='translate(" ++ (decimal (x + 10)
    ++ (codes " " ++ (decimal y ++ (codes ")rotate(-90)'>" ++ (decimal frames ++ codes "</text>")))))

-- a triangle, a cross, a dash, a filled diamond, a line down the picture, a circle
unfoldable pub sign_text : Layout → Sign → (x y : ℕ) → List ℕ
sign_text l Denied x y =
    codes "<path class='denied' d='M" ++ (decimal x ++ (codes " " ++ (decimal y ++ codes "m-5 -4h10l-5 9z'/>")))
sign_text l Killed x y =
    codes "<path class='killed' d='M" ++ (decimal x ++ (codes " " ++ (decimal y ++ codes "m-4 -4l8 8m0 -8l-8 8'/>")))
sign_text l (Blocked holder) x y =
    codes "<path class='blocked' d='M" ++ (decimal x ++ (codes " " ++ (decimal y ++ codes "m-4 0h8'/>")))
sign_text l (Failed answer) x y =
    codes "<path class='failed' d='M" ++ (decimal x ++ (codes " " ++ (decimal y ++ codes "m0 -5l5 5l-5 5l-5 -5z'/>")))
sign_text l (Resized frames) x y = resized_line l x ++ resized_number l frames x y
sign_text l (Refused why) x y =
    codes "<circle class='refused' cx='" ++ (decimal x ++ (codes "' cy='" ++ (decimal y ++ codes "' r='4'/>")))

-- what is told of a mark where the pointer rests on it
unfoldable pub mark_line : (at : ℕ) → List ℕ
mark_line at = codes "<g><title>line " ++ (decimal (at + 2) ++ codes ": ")

-- how far from the left it stands: at the moment of a resize, and in the midst of other events
abbrev pub x_at : Layout → Sign → (at : ℕ) → ℕ
x_at l Denied at = x_of l at + l.step / 2
x_at l Killed at = x_of l at + l.step / 2
x_at l (Blocked holder) at = x_of l at + l.step / 2
x_at l (Failed answer) at = x_of l at + l.step / 2
x_at l (Resized frames) at = x_of l at
x_at l (Refused why) at = x_of l at + l.step / 2

unfoldable pub mark_x : Layout → Mark → ℕ
mark_x l m = x_at l m.sign m.at

-- how far from above: in the lane where a call failed or the pool was resized, and else below it
abbrev pub y_in : Layout → Sign → (column : ℕ) → ℕ
y_in l Denied column = top_of l column + l.tall + 8
y_in l Killed column = top_of l column + l.tall + 8
y_in l (Blocked holder) column = top_of l column + l.tall + 8
y_in l (Failed answer) column = top_of l column + l.tall / 2
y_in l (Resized frames) column = top_of l column + l.tall / 2
y_in l (Refused why) column = top_of l column + l.tall + 8

unfoldable pub mark_y : Layout → Mark → ℕ
mark_y l m = y_in l m.sign m.column

-- a mark
abbrev pub mark_text : Layout → Mark → List ℕ
mark_text l m =
    mark_line m.at ++ (said m.sign ++ (codes "</title>" ++ (sign_text l m.sign (mark_x l m) (mark_y l m) ++ codes "</g>\n")))
