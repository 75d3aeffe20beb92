use Rattle.std.proofs.Common.{◌≡◌, ◌≤◌, List, length, subst}
use Rattle.std.proofs.KnownBytes.{Keeps-refl}
use Rattle.hp_every.specs.Schedules.{IsShortest, NoScheduleMeets, ScheduleMeets}
use Rattle.hp_every.specs.Search.{Question}
use Rattle.hp_layers.specs.declared.limits.Limits.{Limits}
use Rattle.hp_search.specs.Searching.{AreLong, IsTooHeavy, IsTooMany}
use Rattle.std.specs.Prelude.{◌⊎◌}
use Rattle.hp_hunt.specs.declared.condition.Condition.{Condition}
use Rattle.hp_script_commands.proofs.Searched.{answer_cut, answer_met, answer_never, finds_every, finds_every_short, within_cut}
use Rattle.hp_watch.specs.Moments.{Moment}
use Rattle.hp_script_commands.proofs.searching.find_in_all.Goals as goal

pub returns-in-Met-clause-ok : goal.returns-in-Met-clause-ok
returns-in-Met-clause-ok g c =
    let a : Question = record {
      script = c.in_ok-script.script;
      denials = c.args.search.now.denials;
      kills = c.args.search.now.kills;
      conditions = c.as_slice-conditions.result.now;
    } in
    let found = answer_met a c.in_ok-trace.field-0 c.in-Met.trace c.in-Met.is c.in_ok-trace.ensures.answer in
    let is = subst (λ (cs : List Condition). IsShortest a.script a.denials a.kills cs c.in-Met.trace.events.items)
    c.as_slice-conditions.ensures.value found.0 in
    finds_every c.args.search.now _ _ _ _ _ a.script c.in-Met.trace c.in_ok-script.ensures.ok is found.1 c.write_shortest.result
    c.write_shortest.ensures.ok c.write_shortest.ensures.met

pub returns-in-Met-clause-err : goal.returns-in-Met-clause-err
returns-in-Met-clause-err g c =
    let a : Question = record {
      script = c.in_ok-script.script;
      denials = c.args.search.now.denials;
      kills = c.args.search.now.kills;
      conditions = c.as_slice-conditions.result.now;
    } in
    let found = answer_met a c.in_ok-trace.field-0 c.in-Met.trace c.in-Met.is c.in_ok-trace.ensures.answer in
    let is = subst (λ (cs : List Condition). IsShortest a.script a.denials a.kills cs c.in-Met.trace.events.items)
    c.as_slice-conditions.ensures.value found.0 in
    finds_every_short c.args.search.now c.args.cut.now _ _ _ _ a.script c.in-Met.trace c.in_ok-script.ensures.ok is found.1
    c.write_shortest.result _ _ c.write_shortest.ensures.err c.write_shortest.ensures.writes

pub returns-in-Never-clause-ok : goal.returns-in-Never-clause-ok
returns-in-Never-clause-ok g c =
    let a : Question = record {
      script = c.in_ok-script.script;
      denials = c.args.search.now.denials;
      kills = c.args.search.now.kills;
      conditions = c.as_slice-conditions.result.now;
    } in (
      record {
        script = a.script;
        reads = c.in_ok-script.ensures.ok;
        none = subst (λ (cs : List Condition). NoScheduleMeets a.script a.denials a.kills cs) c.as_slice-conditions.ensures.value
            (answer_never a c.in_ok-trace.field-0 c.in-Never.is c.in_ok-trace.ensures.answer);
      },
      Keeps-refl _,
    )

pub returns-clause-ok : goal.returns-clause-ok
returns-clause-ok g c =
    let a : Question = record {
      script = c.in_ok-script.script;
      denials = c.args.search.now.denials;
      kills = c.args.search.now.kills;
      conditions = c.as_slice-conditions.result.now;
    } in
    let turns = c.in-Cut.turns in
    let every = c.in_ok-trace.field-0 in
    let limits : Limits = record { turns = 1000000; states = c.args.search.now.states; bytes = c.args.search.now.memory } in
    let none = answer_cut a every turns c.in-Cut.is c.in_ok-trace.ensures.answer in
    let at = within_cut a limits every turns c.in-Cut.is c.in_ok-trace.ensures.within in (
      record {
        script = a.script;
        reads = c.in_ok-script.ensures.ok;
        none = subst (λ (cs : List Condition). ((moments : List Moment) → ScheduleMeets a.script a.denials a.kills cs moments → turns ≤ length moments)
            × (((turns ≡ 1000000) × AreLong (record a { conditions = cs }) turns) ⊎ IsTooMany (record a { conditions = cs }) limits.states turns
            ⊎ IsTooHeavy (record a { conditions = cs }) limits.bytes turns))
            c.as_slice-conditions.ensures.value (none, at);
      },
      Keeps-refl _,
    )
