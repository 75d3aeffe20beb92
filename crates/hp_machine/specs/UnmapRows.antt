-- The rows of an unmap of a whole mapping: what one step in each phase may do.
use Rattle.std.specs.Prelude.{ℕ, Bool, MatchBool}
use Rattle.hp_base.specs.Numbers.{put}
use Rattle.hp_base.specs.Mappings.{is_base, without}
use Rattle.hp_base.specs.declared.answer.Answer.TheVariants as answer
use Rattle.hp_machine.specs.State.{Pool}
use Rattle.hp_machine.specs.Parts.{Goes, Ends, cleared}
use Rattle.hp_machine.specs.declared.unmap.Start.{Start}
use Rattle.hp_machine.specs.declared.unmap.Clear.{Clear}
use Rattle.hp_machine.specs.declared.unmap.Drop.{Drop}
use Rattle.hp_machine.specs.declared.unmap.UnmapPhase.{UnmapPhase}
use Rattle.hp_machine.specs.declared.unmap.UnmapPhase.TheVariants as at
use Rattle.hp_machine.specs.declared.call.Turn.{Turn}

-- no mapping with that base: NotMapped. Else to clear
abbrev pub UnmapStartRow : Pool → (task : ℕ) → Start → Turn UnmapPhase → Pool → Type 0
UnmapStartRow s t p turn new =
    MatchBool (is_base (s.mappings t) p.base)
    (Goes (at.Clear (record { base = p.base })) s turn new)
    (Ends answer.NotMapped s turn new)

-- the mapping's entries are cleared, to drop
abbrev pub UnmapClearRow : Pool → (task : ℕ) → Clear → Turn UnmapPhase → Pool → Type 0
UnmapClearRow s t p turn new = Goes (at.Drop (record { base = p.base })) (cleared s t p.base) turn new

-- the mapping goes: Done
abbrev pub UnmapDropRow : Pool → (task : ℕ) → Drop → Turn UnmapPhase → Pool → Type 0
UnmapDropRow s t p turn new = Ends answer.Done (record s { mappings = put s.mappings t (without (s.mappings t) p.base) }) turn new

-- what one step of an unmap may do
abbrev pub UnmapRow : Pool → (task : ℕ) → (killed grant : Bool) → UnmapPhase → Turn UnmapPhase → Pool → Type 0
UnmapRow s t killed grant (at.Start p) turn new = UnmapStartRow s t p turn new
UnmapRow s t killed grant (at.Clear p) turn new = UnmapClearRow s t p turn new
UnmapRow s t killed grant (at.Drop p) turn new = UnmapDropRow s t p turn new
