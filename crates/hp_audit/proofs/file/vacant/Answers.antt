use Rattle.std.proofs.Common.{◌≡◌, refl, sym, arith}
use Rattle.hp_base.specs.Indices.{count_below}
use Rattle.hp_base.specs.declared.limits.TheConstants.{LIMIT}
use Rattle.hp_audit.specs.Findings.{is_vacant, vacant_of}
use Rattle.hp_audit.proofs.Counts.{count_below_more}
use Rattle.hp_audit.proofs.file.vacant.Goals as goal
use Rattle.hp_audit.proofs.file.vacant.Goals.{then-is_vacant, else-is_vacant}

pub loop-number-init : goal.loop-number-init
unfolding count_below
loop-number-init c = (refl, omega arith)

pub loop-number-preserved : goal.loop-number-preserved
loop-number-preserved c =
    let tested : is_vacant c.args.file.now c.loop-number.number ≡ c.is_vacant.result = sym (rw c.new.ensures at c.is_vacant.ensures) in
    let more = count_below_more (is_vacant c.args.file.now) c.loop-number.number c.is_vacant.result tested in
    elim c.if-is_vacant.branch [
      | then-is_vacant w ↦ (
        let here = rw w.if-is_vacant.true at more in
            omega (arith, here, w.vacant-is, c.loop-number.invariant),
        omega (arith, w.vacant-is, c.loop-number.invariant),
      )
      | else-is_vacant w ↦ (
        let here = rw w.if-is_vacant.false at more in
            omega (arith, here, w.vacant-is, c.loop-number.invariant),
        omega (arith, w.vacant-is, c.loop-number.invariant),
      )
    ]

pub returns : goal.returns
unfolding vacant_of
returns c =
    let all : c.loop-number.number ≡ LIMIT = omega arith in
    record { counted = rw all at c.loop-number.invariant.0; in_limit = omega (arith, c.loop-number.invariant.1) }
