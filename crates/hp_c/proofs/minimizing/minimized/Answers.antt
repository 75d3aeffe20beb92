-- What is left of the trace, or why nothing is.
use Rattle.std.proofs.Common.{◌∙◌, List, ap, arith, subst}
use Rattle.std.proofs.lemmas.Result.{err_from_is_err_and}
use Rattle.hp_base.specs.Text.{Sizes}
use Rattle.hp_hunt.specs.Conditions.{SomeRunMisses}
use Rattle.hp_hunt.specs.Cutting.{IsSmall}
use Rattle.hp_hunt.specs.declared.condition.Condition.{Condition}
use Rattle.hp_hunt.proofs.Lefts.{fewer_left}
use Rattle.hp_text.specs.Traces.{trace_text}
use Rattle.hp_c.specs.Texts.{HasFaultTold}
use Rattle.hp_c.proofs.Searching.{bad_trace, no_memory, unread_small}
use Rattle.hp_c.proofs.minimizing.minimized.Goals as goal

pub returns-in_err-conditions-clause-err : goal.returns-in_err-conditions-clause-err
returns-in_err-conditions-clause-err c =
    let p = err_from_is_err_and c.from_residual.result c.from_residual.ensures.1 in
    rw (p.1, p.2) (unread_small c.args.trace.now c.args.conditions.now _ c.in_err-conditions.ensures.err)

pub returns-in_err-trace-clause-err : goal.returns-in_err-trace-clause-err
returns-in_err-trace-clause-err c =
    let p = err_from_is_err_and c.from_residual-in_err-trace.result c.from_residual-in_err-trace.ensures.1 in
    rw (p.1, p.2) (bad_trace c.args.trace.now c.args.conditions.now _ _ c.in_ok-conditions.ensures.ok c.in_err-trace.ensures.bad
    c.in_err-trace.ensures.reads)

pub returns-in_err-small-clause-err : goal.returns-in_err-small-clause-err
returns-in_err-small-clause-err c =
    let p = err_from_is_err_and c.from_residual-in_err-small.result c.from_residual-in_err-small.ensures.1 in
    rw (p.1, p.2, c.in_err-small.ensures.memory) (tt, λ line. absurd line)

pub returns-in_default-clause-err : goal.returns-in_default-clause-err
returns-in_default-clause-err c = record {
  config = c.in_ok-trace.trace.config;
  events = c.in_ok-trace.trace.events.items;
  asked = c.in_ok-conditions.conditions.items;
  rest = _;
  says = c.in_ok-conditions.ensures.ok;
  reads = c.in_ok-trace.ensures.ok;
  misses = subst (λ (cs : List Condition). SomeRunMisses c.in_ok-trace.trace.config c.in_ok-trace.trace.events.items cs)
      c.as_slice.ensures.value (c.in_ok-small.ensures.none c.in_default.is);
}

pub trace_bytes-requires : goal.trace_bytes-requires
trace_bytes-requires c =
    let is = rw c.in-Some.is at c.in_ok-small.ensures.small in
    omega (arith, fewer_left c.in-Some.small.events.items c.in_ok-trace.trace.events.items is.some, c.in_ok-trace.ensures.ok.trace.few)

pub returns-in_err-text-clause-err : goal.returns-in_err-text-clause-err
returns-in_err-text-clause-err c =
    let p = err_from_is_err_and c.from_residual-in_err-text.result c.from_residual-in_err-text.ensures.1 in
    rw (p.1, p.2) (no_memory c.args.conditions.now c.args.trace.now (HasFaultTold c.args.trace.now) _ tt tt c.in_err-text.ensures.err)

pub returns-clause-ok : goal.returns-clause-ok
returns-clause-ok c =
    let is = rw c.in-Some.is at c.in_ok-small.ensures.small in
    let same = rw c.in-Some.is at c.in_ok-small.ensures.config in
    let small = c.in-Some.small.events.items in
    record {
      config = c.in_ok-trace.trace.config;
      events = c.in_ok-trace.trace.events.items;
      asked = c.in_ok-conditions.conditions.items;
      left = small;
      rest = _;
      says = c.in_ok-conditions.ensures.ok;
      reads = c.in_ok-trace.ensures.ok;
      small = subst (λ (cs : List Condition). IsSmall c.in_ok-trace.trace.config c.in_ok-trace.trace.events.items cs small)
          c.as_slice.ensures.value is;
      spelt = c.in_ok-text.ensures.ok ∙ ap (λ (z : Sizes). trace_text z small) same;
    }
