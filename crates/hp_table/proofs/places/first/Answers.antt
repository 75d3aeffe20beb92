use Rattle.std.proofs.Common.{◌≡◌, ℕ, ◌≤◌, false, arith}
use Rattle.std.specs.Ordering.{is_gt}
use Rattle.std.proofs.lemmas.Bool.Decides.{nat_tests}
use Rattle.hp_table.specs.Places.{place_cmp}
use Rattle.hp_table.proofs.places.first.Goals as goal

-- places of one index are in order of their pages
in_order : (file index a b : ℕ) → a ≤ b
    → is_gt (place_cmp (record { file = file; index = index; vpn = a }) (record { file = file; index = index; vpn = b })) ≡ false
in_order file index a b le = grind (arith, nat_tests)

pub returns-in_err-place-clause-none : goal.returns-in_err-place-clause-none
returns-in_err-place-clause-none c =
    rw c.from_residual.ensures (λ vpn under.
    (c.range.ensures.in_range c.new-3.ensures.exhausted).5 ((c.in_err-place.ensures {u = tt}).steps.0)
    (record { file = c.args.file; index = c.args.index; vpn = vpn })
    (rw (c.new-3.ensures.start, c.new-3.ensures.end, c.new.ensures, c.new-2.ensures) (
      in_order c.args.file c.args.index 0 vpn (omega arith),
      in_order c.args.file c.args.index vpn 4294967295 (omega arith),
    )))
