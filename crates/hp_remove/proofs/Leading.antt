-- Rows that go on from what another step of the code left.
use Rattle.std.proofs.Common.{◌≡◌, ℕ, ◌-◌, subst}
use Rattle.std.specs.Prelude.{List, MatchBool, MatchOption, max, nat_lt}
use Rattle.hp_base.specs.Numbers.{put}
use Rattle.hp_base.specs.Mappings.{first_base, without}
use Rattle.hp_base.specs.Pages.{IsPagesEnd}
use Rattle.hp_base.specs.declared.mapping.Mapping.{Mapping}
use Rattle.hp_base.proofs.Puts.{put_same}
use Rattle.hp_machine.specs.State.{Pool}
use Rattle.hp_machine.specs.Parts.{Goes}
use Rattle.hp_machine.specs.ExitRows.{ExitStartRow, ExitDropRow}
use Rattle.hp_machine.specs.TruncateRows.{TruncateSizeRow}
use Rattle.hp_machine.specs.declared.exit.Drop.{Drop}
use Rattle.hp_machine.specs.declared.exit.ExitPhase.{ExitPhase}
use Rattle.hp_machine.specs.declared.exit.ExitPhase.TheVariants as exit
use Rattle.hp_machine.specs.declared.truncate.Size.{Size}
use Rattle.hp_machine.specs.declared.truncate.TruncatePhase.{TruncatePhase}
use Rattle.hp_machine.specs.declared.truncate.TruncatePhase.TheVariants as truncate
use Rattle.hp_machine.specs.declared.call.Turn.{Turn}

-- where a mapping went, the exit goes on as it starts
pub drop_row : (s mid new : Pool) (t : ℕ) (p : Drop) (turn : Turn ExitPhase)
    → mid ≡ record s { mappings = put s.mappings t (without (s.mappings t) p.base) } → ExitStartRow mid t turn new
    → ExitDropRow s t p turn new
drop_row s mid new t p turn e row =
    let after = record s { mappings = put s.mappings t (without (s.mappings t) p.base) } in
    let there = subst (λ (q : Pool). ExitStartRow q t turn new) e row in
    subst (λ (ms : List Mapping). MatchOption (first_base ms) (Goes exit.Leave after turn new)
    (λ base. Goes (exit.Clear (record { base = base })) after turn new)) (put_same s.mappings t (without (s.mappings t) p.base)) there

-- the size is set, and the top was the larger of the old size and the end of the pages
pub size_row : (s new : Pool) (p : Size) (turn : Turn TruncatePhase) (top : ℕ)
    → ((end : ℕ) × IsPagesEnd (s.pages p.truncation.file) end × (top ≡ max (s.size p.truncation.file) end))
    → MatchBool (nat_lt p.truncation.new top)
    (Goes (truncate.Want (record { truncation = p.truncation; index = top - 1; evicted = 0 }))
    (record s { size = put s.size p.truncation.file p.truncation.new }) turn new)
    (Goes (truncate.Tail (record { truncation = p.truncation; evicted = 0 }))
    (record s { size = put s.size p.truncation.file p.truncation.new }) turn new)
    → TruncateSizeRow s p turn new
size_row s new p turn top is row = (
  is.0,
  is.1,
  subst (λ (n : ℕ). MatchBool (nat_lt p.truncation.new n)
      (Goes (truncate.Want (record { truncation = p.truncation; index = n - 1; evicted = 0 }))
      (record s { size = put s.size p.truncation.file p.truncation.new }) turn new)
      (Goes (truncate.Tail (record { truncation = p.truncation; evicted = 0 }))
      (record s { size = put s.size p.truncation.file p.truncation.new }) turn new)) is.2 row,
)
