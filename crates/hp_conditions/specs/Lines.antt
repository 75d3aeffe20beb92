-- Conditions as a text: a line for each.
use Rattle.std.specs.Prelude.{ℕ, ◌+◌, ◌==◌, ◌&&◌, ◌||◌, List, [], ◌∷◌, ◌++◌, Bool, true, false, not, Option, Some, None, Result, Ok, Err}
use Rattle.std.specs.Prelude.{◌≡◌, codes, if◌then◌else◌}
use Rattle.std.specs.Str.{bytes_eq}
use Rattle.hp_text.specs.Reading.{◌>>=◌}
use Rattle.hp_text.specs.TextLines.{lines_of}
use Rattle.hp_hunt.specs.declared.condition.Condition.{Condition}
use Rattle.hp_hunt.specs.declared.condition.PoolCount.TheVariants.{Calls}
use Rattle.hp_hunt.specs.declared.condition.Relation.TheVariants.{Equal}
use Rattle.hp_hunt.specs.declared.condition.Sought.TheVariants as sought
use Rattle.hp_conditions.specs.declared.kind.Kind.{Kind}
use Rattle.hp_conditions.specs.declared.kind.Kind.TheVariants.{Answer, At, Blocked, Meet, Final}
use Rattle.hp_conditions.specs.declared.lines.ConditionsFault.{ConditionsFault}
use Rattle.hp_conditions.specs.declared.lines.ConditionsFault.TheVariants as fault
use Rattle.hp_conditions.specs.declared.lines.Draft.{Draft}
use Rattle.hp_conditions.specs.Pieces.{split}
use Rattle.hp_conditions.specs.Sought.{alternatives_behind, next_choice}
use Rattle.hp_conditions.specs.Words.{all_kinds, kind_word, named}

-- what lines say: conditions; whether a count at the end is one of them; that no call is in flight there; that calls may be
pub record Said : Type 0 where
  pub conditions : List Condition
  pub counts : Bool
  pub rest : Bool
  pub anywhere : Bool

abbrev pub nothing : Said
nothing = record { conditions = []; counts = false; rest = false; anywhere = false }

-- what a draft says
abbrev pub said : Draft → Said
said d = record { conditions = d.conditions.items; counts = d.counts; rest = d.rest; anywhere = d.anywhere }

-- a count at the end
abbrev pub is_final : Kind → Bool
is_final Answer = false
is_final At = false
is_final Blocked = false
is_final Meet = false
is_final Final = true

-- a line `OPTION VALUE`
unfoldable pub with_option : Said → List ℕ → Option Said
with_option s line = do
  parts ← split (codes " ") line
  k ← named kind_word all_kinds parts.0
  more ← alternatives_behind k s.conditions parts.1
  Some (record { conditions = more; counts = s.counts || is_final k; rest = s.rest; anywhere = s.anywhere })

-- a line more; `rest` and `anywhere` have no value
unfoldable pub with_line : Said → List ℕ → Option Said
with_line s line =
    if bytes_eq line (codes "rest") then Some (record { conditions = s.conditions; counts = s.counts; rest = true; anywhere = s.anywhere })
    else (if bytes_eq line (codes "anywhere")
    then Some (record { conditions = s.conditions; counts = s.counts; rest = s.rest; anywhere = true }) else with_option s line)

-- what is said with that line, or its number
abbrev pub said_or : (number : ℕ) → Option Said → Result Said ℕ
said_or number None = Err number
said_or number (Some s) = Ok s

-- the first of several results that is a fault, or the last
abbrev pub next : Result Said ℕ → (Said → Result Said ℕ) → Result Said ℕ
next (Ok s) more = more s
next (Err number) more = Err number

-- no text has more lines
abbrev pub most_lines : ℕ
most_lines = 65536

-- behind so many lines: what these say with what was said before, or the number of the first that says nothing
unfoldable pub with_lines : (number : ℕ) → Said → List (List ℕ) → Result Said ℕ
with_lines number s [] = Ok s
with_lines number s (line ∷ lines) =
    if number == most_lines then Err (number + 1)
    else (next (said_or (number + 1) (with_line s line)) (λ more. with_lines (number + 1) more lines))

-- no call is in flight at the end
abbrev pub at_rest : (choice : ℕ) → Condition
at_rest choice = record {
  sought = sought.Final (record { count = Calls; relation = Equal; number = 0 });
  wanted = true;
  choice = choice;
}

-- whether that is asked for: it is said, or counts at the end are asked for and nothing else is said
abbrev pub must_rest : (rest counts anywhere : Bool) → Bool
must_rest rest counts anywhere = rest || (counts && not anywhere)

-- all conditions that are said
abbrev pub all_said : Said → List Condition
all_said s =
    if must_rest s.rest s.counts s.anywhere then s.conditions ++ at_rest (next_choice s.conditions) ∷ [] else s.conditions

-- there is one at least; where there is none, no line is at fault
abbrev pub some_of : List Condition → Result (List Condition) ℕ
some_of [] = Err 0
some_of (c ∷ cs) = Ok (c ∷ cs)

abbrev pub told : Result Said ℕ → Result (List Condition) ℕ
told (Ok s) = some_of (all_said s)
told (Err number) = Err number

-- the conditions that the text says, or the number of its first bad line
unfoldable pub conditions_of : List ℕ → Result (List Condition) ℕ
conditions_of text = told (with_lines 0 nothing (lines_of text))

-- why none are read
abbrev pub IsFaultOf : (text : List ℕ) → ConditionsFault → Type 0
IsFaultOf text (fault.Line number) = conditions_of text ≡ Err number
IsFaultOf text fault.Memory = Unit {0}
