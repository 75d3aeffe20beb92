-- The first run that meets the conditions, or why there is none.
use Rattle.std.proofs.Common.{◌∙◌, List, ap, refl, subst}
use Rattle.std.proofs.lemmas.Result.{err_from_is_err_and}
use Rattle.hp_base.specs.Text.{Sizes}
use Rattle.hp_hunt.specs.Hunting.{IsFound, NoneMeets}
use Rattle.hp_hunt.specs.declared.condition.Condition.{Condition}
use Rattle.hp_hunt.specs.declared.finding.Hunt.{Hunt}
use Rattle.hp_text.specs.Traces.{trace_text}
use Rattle.hp_c.specs.Finding.{HasScriptFault, hunt_of}
use Rattle.hp_c.proofs.Scripts.{bad_script, unread_run}
use Rattle.hp_c.proofs.Searching.{no_memory}
use Rattle.hp_c.proofs.finding.found_run.Goals as goal

pub returns-in_err-conditions-clause-err : goal.returns-in_err-conditions-clause-err
returns-in_err-conditions-clause-err c =
    let p = err_from_is_err_and c.from_residual.result c.from_residual.ensures.1 in
    rw (p.1, p.2) (unread_run c.args.hunt c.args.script.now c.args.conditions.now _ c.in_err-conditions.ensures.err)

pub returns-in_err-script-clause-err : goal.returns-in_err-script-clause-err
returns-in_err-script-clause-err c =
    let p = err_from_is_err_and c.from_residual-in_err-script.result c.from_residual-in_err-script.ensures.1 in
    rw (p.1, p.2) (bad_script c.args.script.now c.args.conditions.now _ _ c.in_ok-conditions.ensures.ok c.in_err-script.ensures.bad
    c.in_err-script.ensures.reads)

pub returns-in_err-found-clause-err : goal.returns-in_err-found-clause-err
returns-in_err-found-clause-err c =
    let p = err_from_is_err_and c.from_residual-in_err-found.result c.from_residual-in_err-found.ensures.1 in
    rw (p.1, p.2, c.in_err-found.ensures.memory) (tt, λ line. absurd line)

pub returns-in_default-clause-err : goal.returns-in_default-clause-err
returns-in_default-clause-err c = record {
  read = c.in_ok-script.script;
  asked = c.in_ok-conditions.conditions.items;
  of = record { rest = _; reads = c.in_ok-script.ensures.ok; says = c.in_ok-conditions.ensures.ok };
  none = subst (λ (cs : List Condition). NoneMeets c.in_ok-script.script (hunt_of c.args.hunt) cs c.args.hunt.limit)
      c.as_slice.ensures.value
      (subst (λ (h : Hunt). NoneMeets c.in_ok-script.script h c.as_slice.result.now h.limit) c.hunt.ensures
      (c.in_ok-found.ensures.none c.in_default.is));
}

pub returns-in_err-text-clause-err : goal.returns-in_err-text-clause-err
returns-in_err-text-clause-err c =
    let p = err_from_is_err_and c.from_residual-in_err-text.result c.from_residual-in_err-text.ensures.1 in
    rw (p.1, p.2) (no_memory c.args.conditions.now c.args.script.now (HasScriptFault c.args.script.now) _ tt tt c.in_err-text.ensures.err)

pub returns-clause-ok : goal.returns-clause-ok
returns-clause-ok c =
    let found = subst (λ (h : Hunt). IsFound c.in_ok-script.script h c.as_slice.result.now c.in-Some.found) c.hunt.ensures
    (rw c.in-Some.is at c.in_ok-found.ensures.found) in
    let is = subst (λ (cs : List Condition). IsFound c.in_ok-script.script (hunt_of c.args.hunt) cs c.in-Some.found) c.as_slice.ensures.value found in
    record {
      read = c.in_ok-script.script;
      asked = c.in_ok-conditions.conditions.items;
      found = c.in-Some.found;
      of = record { rest = _; reads = c.in_ok-script.ensures.ok; says = c.in_ok-conditions.ensures.ok };
      is = is;
      number = refl;
      spelt = c.in_ok-text.ensures.ok ∙ ap (λ (z : Sizes). trace_text z c.in-Some.found.trace.events.items) is.config;
    }
