-- A shortest schedule that meets the conditions, or why there is none.
use Rattle.std.proofs.Common.{◌≡◌, ◌≤◌, ◌⊎◌, ◌∙◌, List, ap, arith, length, refl, subst}
use Rattle.std.specs.Prelude.{None}
use Rattle.std.proofs.lemmas.Result.{err_from_is_err_and}
use Rattle.hp_base.specs.Text.{Sizes}
use Rattle.hp_every.specs.Schedules.{IsShortest, NoScheduleMeets, ScheduleMeets}
use Rattle.hp_every.specs.Search.{Question}
use Rattle.hp_hunt.specs.declared.condition.Condition.{Condition}
use Rattle.hp_layers.specs.declared.limits.Limits.{Limits}
use Rattle.hp_search.specs.Searching.{AreLong, IsTooMany}
use Rattle.hp_text.specs.Traces.{trace_text}
use Rattle.hp_watch.specs.Moments.{Moment}
use Rattle.hp_c.specs.Finding.{HasScriptFault, question_of}
use Rattle.hp_c.proofs.Scripts.{answer_cut, answer_met, answer_never, bad_script, unread_schedule, within_cut, within_met}
use Rattle.hp_c.proofs.Searching.{no_memory}
use Rattle.hp_c.proofs.finding.found_schedule.Goals as goal

pub returns-in_err-conditions-clause-err : goal.returns-in_err-conditions-clause-err
returns-in_err-conditions-clause-err c =
    let p = err_from_is_err_and c.from_residual.result c.from_residual.ensures.1 in
    rw (p.1, p.2) (unread_schedule c.args.bounds c.args.script.now c.args.conditions.now _ c.in_err-conditions.ensures.err)

pub returns-in_err-script-clause-err : goal.returns-in_err-script-clause-err
returns-in_err-script-clause-err c =
    let p = err_from_is_err_and c.from_residual-in_err-script.result c.from_residual-in_err-script.ensures.1 in
    rw (p.1, p.2) (bad_script c.args.script.now c.args.conditions.now _ _ c.in_ok-conditions.ensures.ok c.in_err-script.ensures.bad
    c.in_err-script.ensures.reads)

pub returns-in_err-every-clause-err : goal.returns-in_err-every-clause-err
returns-in_err-every-clause-err c =
    let p = err_from_is_err_and c.from_residual-in_err-every.result c.from_residual-in_err-every.ensures.1 in
    rw (p.1, p.2) (tt, λ line. absurd line)

pub returns-in-Never-clause-err : goal.returns-in-Never-clause-err
returns-in-Never-clause-err c =
    let a = question_of c.args.bounds c.in_ok-script.script c.as_slice.result.now in
    record {
      read = a.script;
      asked = c.in_ok-conditions.conditions.items;
      of = record { rest = _; reads = c.in_ok-script.ensures.ok; says = c.in_ok-conditions.ensures.ok };
      none = subst (λ (cs : List Condition). NoScheduleMeets a.script a.denials a.kills cs) c.as_slice.ensures.value
          (answer_never a c.in_ok-every.every c.in-Never.is c.in_ok-every.ensures.answer);
    }

pub returns-clause-err : goal.returns-clause-err
returns-clause-err c =
    let a = question_of c.args.bounds c.in_ok-script.script c.as_slice.result.now in
    let turns = c.in-Cut.turns in
    let limits : Limits = record { turns = 1000000; states = c.args.bounds.states; bytes = None } in
    let none = answer_cut a c.in_ok-every.every turns c.in-Cut.is c.in_ok-every.ensures.answer in
    let why = within_cut a limits c.in_ok-every.every turns c.in-Cut.is refl c.in_ok-every.ensures.within in
    let both = subst (λ (cs : List Condition). ((moments : List Moment) → ScheduleMeets a.script a.denials a.kills cs moments → turns ≤ length moments)
    × (((turns ≡ 1000000) × AreLong (record a { conditions = cs }) turns) ⊎ IsTooMany (record a { conditions = cs }) limits.states turns))
    c.as_slice.ensures.value (none, why) in
    record {
      read = a.script;
      asked = c.in_ok-conditions.conditions.items;
      of = record { rest = _; reads = c.in_ok-script.ensures.ok; says = c.in_ok-conditions.ensures.ok };
      none = both.0;
      why = both.1;
    }

pub trace_bytes-requires : goal.trace_bytes-requires
trace_bytes-requires c =
    let a = question_of c.args.bounds c.in_ok-script.script c.as_slice.result.now in
    let limits : Limits = record { turns = 1000000; states = c.args.bounds.states; bytes = None } in
    omega (arith, within_met a limits c.in_ok-every.every c.in-Met.trace c.in-Met.is c.in_ok-every.ensures.within)

pub returns-in_err-text-in-Met-clause-err : goal.returns-in_err-text-in-Met-clause-err
returns-in_err-text-in-Met-clause-err c =
    let p = err_from_is_err_and c.from_residual-in_err-text-in-Met.result c.from_residual-in_err-text-in-Met.ensures.1 in
    rw (p.1, p.2) (no_memory c.args.conditions.now c.args.script.now (HasScriptFault c.args.script.now) _ tt tt c.in_err-text-in-Met.ensures.err)

pub returns-in-Met-clause-ok : goal.returns-in-Met-clause-ok
returns-in-Met-clause-ok c =
    let a = question_of c.args.bounds c.in_ok-script.script c.as_slice.result.now in
    let found = answer_met a c.in_ok-every.every c.in-Met.trace c.in-Met.is c.in_ok-every.ensures.answer in
    record {
      read = a.script;
      asked = c.in_ok-conditions.conditions.items;
      events = c.in-Met.trace.events.items;
      of = record { rest = _; reads = c.in_ok-script.ensures.ok; says = c.in_ok-conditions.ensures.ok };
      is = subst (λ (cs : List Condition). IsShortest a.script a.denials a.kills cs c.in-Met.trace.events.items) c.as_slice.ensures.value found.0;
      spelt = c.in_ok-text-in-Met.ensures.ok ∙ ap (λ (z : Sizes). trace_text z c.in-Met.trace.events.items) found.1;
    }
