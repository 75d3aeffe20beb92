use Rattle.std.proofs.Common.{◌≡◌, ap, arith, inl, inr}
use Rattle.std.specs.Prelude.{is_some, count_by}
use Rattle.std.proofs.lemmas.Bool.{cases_lt}
use Rattle.hp_chunks.proofs.Present.{no_bits, some_at, none_at, highest_on, above_highest}
use Rattle.hp_chunks.proofs.chunk.Chunk.highest.Goals as goal

pub ilog2-requires : goal.ilog2-requires
ilog2-requires c =
    elim (cases_lt 0 c.self.inside.present) [
      | inl some ↦ some
      | inr none ↦
          let zero : c.self.inside.present ≡ 0 = omega (arith, none) in
          let counted : count_by is_some c.args.self.now ≡ 0 =
          rw (← c.self.view_is, zero) (no_bits c.self.inside.frames) in
          absurd (omega (arith, counted, c.requires))
    ]

pub returns-clause-present : goal.returns-clause-present
returns-clause-present c =
    let on = highest_on c.self.inside.present c.ilog2.result c.ilog2.ensures.power_le c.ilog2.ensures.next_power_gt in
    ap is_some (rw c.self.view_is at (some_at c.self.inside.present c.self.inside.frames c.ilog2.result 0
    (omega (arith, c.self.invariant, c.ilog2.ensures.bound)) on))

pub returns-clause-none_above : goal.returns-clause-none_above
returns-clause-none_above c k above =
    rw (← c.self.view_is)
    (none_at c.self.inside.present c.self.inside.frames k
    (above_highest c.self.inside.present c.ilog2.result c.ilog2.ensures.power_le c.ilog2.ensures.next_power_gt k above))
