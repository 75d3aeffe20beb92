use Rattle.std.proofs.Common.{◌≤◌, ℕ, length, ap, rules, ◌∙◌}
use Rattle.std.specs.Prelude.{count_by}
use Rattle.std.proofs.lemmas.List.{take_all}
use Rattle.hp_judge.specs.Counts.{is_reserved, reserved_pages_in}
use Rattle.hp_judge.proofs.counts.reserved_pages.Goals as goal

pub returns-clause-counted : goal.returns-clause-counted
unfolding reserved_pages_in
returns-clause-counted c =
    let done : length c.args.places.now.pages ≤ c.loop-page.page-index = search rules in
    c.loop-page.invariant.0 ∙ ap (count_by (λ (page : ℕ × ℕ × ℕ). is_reserved c.args.places.now.regions page.0 page.1))
    (take_all c.loop-page.page-index c.args.places.now.pages done)
