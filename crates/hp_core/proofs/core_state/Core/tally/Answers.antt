use Rattle.std.proofs.Common.{◌≡◌, ℕ, ◌∙◌, ap, arith}
use Rattle.hp_base.specs.Numbers.{total}
use Rattle.hp_base.specs.Text.{Sizes}
use Rattle.hp_core.specs.Readers.{config_of, reserved_of, pages_of, all_reserved_of, all_pages_of}
use Rattle.hp_core.proofs.Tallies.{total_zero, total_next, few_next}
use Rattle.hp_core.proofs.core_state.Core.tally.Goals as goal

pub loop-number-init : goal.loop-number-init
loop-number-init c = record { all_reserved = total_zero _; all_pages = total_zero _; few_reserved = omega arith; few_pages = omega arith }

pub loop-number-preserved : goal.loop-number-preserved
loop-number-preserved c = record {
  all_reserved =
      total_next (reserved_of c.args.self.now) _ _ _ _ c.new-file.ensures c.loop-number.invariant.all_reserved
      c.reserved-reserved.ensures.count;
  all_pages =
      total_next (pages_of c.args.self.now) _ _ _ _ c.new-file.ensures c.loop-number.invariant.all_pages
      c.pages-pages.ensures.count;
  few_reserved = few_next _ _ _ c.loop-number.invariant.few_reserved c.reserved-reserved.ensures.in_limit;
  few_pages = few_next _ _ _ c.loop-number.invariant.few_pages c.pages-pages.ensures.in_limit;
}

pub returns-clause-reserved : goal.returns-clause-reserved
unfolding all_reserved_of config_of
returns-clause-reserved c =
    let all : c.config-number-end.result.files ≡ c.args.self.now.sizes.files = ap (λ (z : Sizes). z.files) c.config-number-end.ensures in
    let ends : c.loop-number.number ≡ c.args.self.now.sizes.files =
    omega (arith, all, c.loop-number.auto.number-end, c.loop-number-test.false) in
    c.loop-number.invariant.all_reserved ∙ ap (λ (n : ℕ). total n (reserved_of c.args.self.now)) ends

pub returns-clause-pages : goal.returns-clause-pages
unfolding all_pages_of config_of
returns-clause-pages c =
    let all : c.config-number-end.result.files ≡ c.args.self.now.sizes.files = ap (λ (z : Sizes). z.files) c.config-number-end.ensures in
    let ends : c.loop-number.number ≡ c.args.self.now.sizes.files =
    omega (arith, all, c.loop-number.auto.number-end, c.loop-number-test.false) in
    c.loop-number.invariant.all_pages ∙ ap (λ (n : ℕ). total n (pages_of c.args.self.now)) ends
