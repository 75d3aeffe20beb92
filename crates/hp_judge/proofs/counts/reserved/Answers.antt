use Rattle.std.proofs.Common.{◌≤◌, length, ap, rules, ◌∙◌}
use Rattle.std.specs.Prelude.{sum_by}
use Rattle.std.proofs.lemmas.List.{take_all}
use Rattle.hp_judge.specs.Counts.{reserved_in, size_of}
use Rattle.hp_judge.proofs.counts.reserved.Goals as goal

pub returns-clause-counted : goal.returns-clause-counted
unfolding reserved_in
returns-clause-counted c =
    let done : length c.args.places.now.regions ≤ c.loop-region.region-index = search rules in
    c.loop-region.invariant.0 ∙ ap (sum_by size_of) (take_all c.loop-region.region-index c.args.places.now.regions done)
