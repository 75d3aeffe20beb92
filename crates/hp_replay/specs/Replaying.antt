-- What a replay has read and written when it returns.
use Rattle.std.specs.Prelude.{◌≡◌, ℕ, ◌+◌, List, [], ◌++◌, length, Option, IfSome}
use Rattle.std.specs.Io.KnownBytes.{Appends, Consumes, IsAtEnd, Keeps}
use Rattle.hp_base.specs.Text.{Sizes}
use Rattle.hp_base.specs.declared.event.Event.{Event}
use Rattle.hp_machine.specs.declared.outcome.Outcome.{Outcome}
use Rattle.hp_core.specs.State.{CoreState}
use Rattle.hp_text.specs.declared.fault.ReplayFault.{ReplayFault}
use Rattle.hp_text.specs.declared.fault.ReplayFault.TheVariants.{BadLine, BadHeader, Read, Write, Memory}
use Rattle.hp_text.specs.Traces.{IsTrace, HasNoEnd, trace_text, BeginsNoHeader, IsBadRest}
use Rattle.hp_replay.specs.Outcomes.{RunOf, outcomes_text, state_text}
use Rattle.hp_text.specs.Writing.{Wrote}

-- A reader had the bytes `from` left, and now has `to`; a writer held `before`, and now holds `after`.
-- Where they tell their bytes, each field is an equation of lists.

-- the reader's bytes were the text of a trace, and what was written is its run and the state at its end
pub record Replayed (from to before after : Option (List ℕ)) : Type 0 where
  pub sizes : Sizes
  pub events : List Event
  pub outcomes : List Outcome
  pub core : CoreState
  pub trace : IsTrace sizes events
  pub reads : Consumes from to (trace_text sizes events)
  pub all : IsAtEnd to
  pub run : RunOf sizes events outcomes core
  pub wrote : Appends before after (outcomes_text outcomes ++ state_text core)

-- no header's line stands at the front of the reader's bytes, and nothing was written
pub record StoppedAtHeader (from to before after : Option (List ℕ)) : Type 0 where
  pub bytes : List ℕ
  pub reads : Consumes from to bytes
  pub bad : IfSome to (λ left. BeginsNoHeader (bytes ++ left))
  pub wrote : Keeps before after

-- the lines before line n are a trace and line n is none of its lines; what was written is the run of that trace
pub record StoppedAtLine (n : ℕ) (from to before after : Option (List ℕ)) : Type 0 where
  pub sizes : Sizes
  pub events : List Event
  pub rest : List ℕ
  pub outcomes : List Outcome
  pub core : CoreState
  pub trace : IsTrace sizes events
  pub reads : Consumes from to (trace_text sizes events ++ rest)
  pub number : n ≡ length events + 2
  pub bad : IfSome to (λ left. IsBadRest (length events) (rest ++ left))
  pub run : RunOf sizes events outcomes core
  pub wrote : Appends before after (outcomes_text outcomes)

-- the bytes before the rest are a trace, and a run of it that leads to the core writes the text
pub record RunOfLines (bytes rest text : List ℕ) (core : CoreState) : Type 0 where
  pub sizes : Sizes
  pub events : List Event
  pub outcomes : List Outcome
  pub trace : IsTrace sizes events
  pub parts : bytes ≡ trace_text sizes events ++ rest
  pub run : RunOf sizes events outcomes core
  pub text_is : text ≡ outcomes_text outcomes

-- what a run of the lines that begin these bytes writes: before a header, behind some lines, and at the end
pub data RunWrites (to : Option (List ℕ)) (bytes text : List ℕ) : Type 0 where
  nothing : text ≡ [] → RunWrites to bytes text
  so_far : (rest : List ℕ) (core : CoreState) → RunOfLines bytes rest text core → RunWrites to bytes text
  to_the_end : (front : List ℕ) (core : CoreState) → RunOfLines bytes [] front core → IsAtEnd to
      → text ≡ front ++ state_text core → RunWrites to bytes text

-- what was written is a front of what a run of the lines read writes
pub record StoppedEarly (from to before after : Option (List ℕ)) : Type 0 where
  pub bytes : List ℕ
  pub text : List ℕ
  pub reads : Consumes from to bytes
  pub run : RunWrites to bytes text
  pub wrote : Wrote before after text

-- what a run of all lines that end in these bytes writes
pub data AllRunWrites (bytes text : List ℕ) : Type 0 where
  no_line : HasNoEnd bytes → text ≡ [] → AllRunWrites bytes text
  each_line : (rest : List ℕ) (core : CoreState) → RunOfLines bytes rest text core → HasNoEnd rest → AllRunWrites bytes text

-- what was written is what a run of the lines read writes
pub record StoppedAtRead (from to before after : Option (List ℕ)) : Type 0 where
  pub bytes : List ℕ
  pub text : List ℕ
  pub reads : Consumes from to bytes
  pub run : AllRunWrites bytes text
  pub wrote : Appends before after text

-- what a replay that answers this fault has done
abbrev pub Stopped : ReplayFault → Option (List ℕ) → Option (List ℕ) → Option (List ℕ) → Option (List ℕ) → Type 0
Stopped BadHeader from to before after = StoppedAtHeader from to before after
Stopped (BadLine n) from to before after = StoppedAtLine n from to before after
Stopped Read from to before after = StoppedAtRead from to before after
Stopped Write from to before after = StoppedEarly from to before after
Stopped Memory from to before after = StoppedEarly from to before after
