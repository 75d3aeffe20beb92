use Rattle.std.proofs.Common.{◌≡◌, refl, sym, arith}
use Rattle.hp_base.specs.Indices.{count_below}
use Rattle.hp_base.specs.declared.limits.TheConstants.{LIMIT}
use Rattle.hp_audit.specs.Findings.{is_reserved, reserved_of}
use Rattle.hp_audit.proofs.Counts.{count_below_more}
use Rattle.hp_audit.proofs.file.reserved.Goals as goal
use Rattle.hp_audit.proofs.file.reserved.Goals.{then-is_reserved, else-is_reserved}

pub loop-number-init : goal.loop-number-init
unfolding count_below
loop-number-init c = (refl, omega arith)

pub loop-number-preserved : goal.loop-number-preserved
loop-number-preserved c =
    let regions = c.args.file.now.regions.items in
    let tested : is_reserved regions c.loop-number.number ≡ c.is_reserved.result =
    sym (rw (c.deref.ensures.value, c.new.ensures) at c.is_reserved.ensures) in
    let more = count_below_more (is_reserved regions) c.loop-number.number c.is_reserved.result tested in
    elim c.if-is_reserved.branch [
      | then-is_reserved w ↦ (
        let here = rw w.if-is_reserved.true at more in
            omega (arith, here, w.reserved-is, c.loop-number.invariant),
        omega (arith, w.reserved-is, c.loop-number.invariant),
      )
      | else-is_reserved w ↦ (
        let here = rw w.if-is_reserved.false at more in
            omega (arith, here, w.reserved-is, c.loop-number.invariant),
        omega (arith, w.reserved-is, c.loop-number.invariant),
      )
    ]

pub returns : goal.returns
unfolding reserved_of
returns c =
    let all : c.loop-number.number ≡ LIMIT = omega arith in
    record { counted = rw all at c.loop-number.invariant.0; in_limit = omega (arith, c.loop-number.invariant.1) }
