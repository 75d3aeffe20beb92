-- The rows of the end of a task: what one step in each phase may do.
use Rattle.std.specs.Prelude.{ℕ, Bool, MatchOption}
use Rattle.hp_base.specs.Numbers.{put}
use Rattle.hp_base.specs.Mappings.{first_base, without}
use Rattle.hp_base.specs.declared.answer.Answer.TheVariants as answer
use Rattle.hp_machine.specs.State.{Pool}
use Rattle.hp_machine.specs.Parts.{Goes, Ends, cleared}
use Rattle.hp_machine.specs.declared.exit.Clear.{Clear}
use Rattle.hp_machine.specs.declared.exit.Drop.{Drop}
use Rattle.hp_machine.specs.declared.exit.ExitPhase.{ExitPhase}
use Rattle.hp_machine.specs.declared.exit.ExitPhase.TheVariants as at
use Rattle.hp_machine.specs.declared.call.Turn.{Turn}

-- a mapping is there: to clear, with the least base. Else to leave
abbrev pub ExitStartRow : Pool → (task : ℕ) → Turn ExitPhase → Pool → Type 0
ExitStartRow s t turn new =
    MatchOption (first_base (s.mappings t))
    (Goes at.Leave s turn new)
    (λ base. Goes (at.Clear (record { base = base })) s turn new)

-- the mapping's entries are cleared, to drop
abbrev pub ExitClearRow : Pool → (task : ℕ) → Clear → Turn ExitPhase → Pool → Type 0
ExitClearRow s t p turn new = Goes (at.Drop (record { base = p.base })) (cleared s t p.base) turn new

-- the mapping goes; another is there: to clear, with the least base. Else to leave
abbrev pub ExitDropRow : Pool → (task : ℕ) → Drop → Turn ExitPhase → Pool → Type 0
ExitDropRow s t p turn new =
    let after = record s { mappings = put s.mappings t (without (s.mappings t) p.base) } in
    MatchOption (first_base (without (s.mappings t) p.base))
    (Goes at.Leave after turn new)
    (λ base. Goes (at.Clear (record { base = base })) after turn new)

-- the call is over: Done; with it the task is dead
abbrev pub ExitLeaveRow : Pool → Turn ExitPhase → Pool → Type 0
ExitLeaveRow s turn new = Ends answer.Done s turn new

-- what one step of an exit may do
abbrev pub ExitRow : Pool → (task : ℕ) → (killed grant : Bool) → ExitPhase → Turn ExitPhase → Pool → Type 0
ExitRow s t killed grant at.Start turn new = ExitStartRow s t turn new
ExitRow s t killed grant (at.Clear p) turn new = ExitClearRow s t p turn new
ExitRow s t killed grant (at.Drop p) turn new = ExitDropRow s t p turn new
ExitRow s t killed grant at.Leave turn new = ExitLeaveRow s turn new
