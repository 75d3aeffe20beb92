-- What the lines of a piece do, one after the other.
use Rattle.std.specs.Prelude.{◌≡◌, ℕ, ◌<◌, List, [], ◌∷◌, ◌++◌, Option, Some, None, IsSome, ◌⊎◌}
use Rattle.std.specs.Io.KnownBytes.{Appends}
use Rattle.hp_base.specs.Text.{sizes}
use Rattle.hp_base.specs.declared.config.Config.{Config}
use Rattle.hp_machine.specs.declared.outcome.Outcome.{Outcome}
use Rattle.hp_core.specs.Runs.{Row, IsOpening}
use Rattle.hp_core.specs.State.{CoreState}
use Rattle.hp_text.specs.declared.fault.ReplayFault.{ReplayFault}
use Rattle.hp_text.specs.declared.fault.ReplayFault.TheVariants.{Memory}
use Rattle.hp_text.specs.Lines.{FeedState, Line, header, event, feed_after, lines_after}
use Rattle.hp_replay.specs.Outcomes.{outcome_line}
use Rattle.hp_text.specs.Traces.{IsLineFault}
use Rattle.hp_text.specs.Writing.{Wrote}

-- what one line does: the first opens the core, another is one event of it, with its outcome's line
abbrev pub LineRuns : Option CoreState → Line → Option CoreState → List ℕ → Type 0
LineRuns old (header s) None text = ⊥
LineRuns old (header s) (Some new) text = (config : Config) × (sizes config ≡ s) × IsOpening config new × (text ≡ [])
LineRuns None (event e) new text = ⊥
LineRuns (Some old) (event e) None text = ⊥
LineRuns (Some old) (event e) (Some new) text = (outcome : Outcome) × Row old e outcome new × (text ≡ outcome_line outcome)

-- what lines do, one after the other
abbrev pub LinesRun : Option CoreState → List Line → Option CoreState → List ℕ → Type 0
LinesRun old [] new text = (new ≡ old) × (text ≡ [])
LinesRun old (line ∷ lines) new text =
    (mid : Option CoreState) × (first : List ℕ) × (others : List ℕ) × LineRuns old line mid first
    × LinesRun mid lines new others × (text ≡ first ++ others)

-- an event needs a core
abbrev pub CanRun : Option CoreState → Line → Type 0
CanRun core (header s) = Unit {0}
CanRun None (event e) = ⊥
CanRun (Some core) (event e) = Unit {0}

abbrev pub CanRunIfSome : Option CoreState → Option Line → Type 0
CanRunIfSome core None = Unit {0}
CanRunIfSome core (Some line) = CanRun core line

-- where the feed has lines, there is a core
abbrev pub IsOpened : FeedState → Option CoreState → Type 0
IsOpened held core = 0 < held.lines → IsSome core

-- lines ran, and their text was written
pub record LinesRan (old : Option CoreState) (lines : List Line) (new : Option CoreState) (before after : Option (List ℕ)) : Type 0 where
  pub text : List ℕ
  pub runs : LinesRun old lines new text
  pub wrote : Appends before after text

-- lines ran, and a front of their text was written
pub record LinesRanPartly (old : Option CoreState) (lines : List Line) (before after : Option (List ℕ)) : Type 0 where
  pub new : Option CoreState
  pub text : List ℕ
  pub runs : LinesRun old lines new text
  pub wrote : Wrote before after text

-- the lines of a piece ran, and their text was written
pub record PieceRan (held : FeedState) (piece : List ℕ) (next : FeedState) (old new : Option CoreState)
    (before after : Option (List ℕ)) : Type 0 where
  pub text : List ℕ
  pub taken : next ≡ feed_after held piece
  pub runs : LinesRun old (lines_after held piece) new text
  pub wrote : Appends before after text

-- the lines of a front of the piece ran, and a front of their text was written
pub record PieceRanPartly (held : FeedState) (piece : List ℕ) (old : Option CoreState) (before after : Option (List ℕ)) : Type 0 where
  pub front : List ℕ
  pub back : List ℕ
  pub parts : piece ≡ front ++ back
  pub ok : (feed_after held front).fault ≡ None
  pub ran : LinesRanPartly old (lines_after held front) before after

-- a line of the piece is bad, or memory was wanted before all of it had run
abbrev pub PieceStopped : ReplayFault → FeedState → List ℕ → FeedState → Option CoreState → Option CoreState → Option (List ℕ)
    → Option (List ℕ) → Type 0
PieceStopped fault held piece next old new before after =
    ((next.fault ≡ Some fault) × IsLineFault fault × PieceRan held piece next old new before after)
    ⊎ ((fault ≡ Memory) × PieceRanPartly held piece old before after)
