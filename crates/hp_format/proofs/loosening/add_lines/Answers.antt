use Rattle.std.proofs.Common.{arith, ◌≡◌, ◌∷◌, ◌++◌, [], ℕ, List, append_assoc, append-nil, ap, refl, sym, subst, ◌∙◌}
use Rattle.std.proofs.lemmas.Result.{err_from_is_err_and}
use Rattle.hp_base.specs.declared.event.Event.{Event}
use Rattle.hp_text.specs.TextLines.{lines_of}
use Rattle.hp_format.specs.Loose.{AreGiven, LinesLead, no_line}
use Rattle.hp_format.proofs.Faults.{fault_by, numbered}
use Rattle.hp_format.proofs.loosening.add_lines.Goals as goal

pub loop-line-init : goal.loop-line-init
loop-line-init c =
    (([], subst (λ (events : List Event). AreGiven [] events) (sym c.requires.none) no_line, (c.requires.none, refl), refl), refl, refl)

pub next_line-requires : goal.next_line-requires
next_line-requires c = omega (arith, c.loop-line.invariant.2, c.requires.few)

pub loop-line-preserved : goal.loop-line-preserved
loop-line-preserved c =
    let done = c.loop-line.invariant.0 in
    let line = c.in-Some.line.now in (
      (
        done.0 ++ line ∷ [],
        c.in_ok-add_line.ensures.events done.0 done.1,
        c.in_ok-add_line.ensures.leads c.args.draft.now.core done.0 done.2,
        done.3 ∙ ap (λ (lines : List (List ℕ)). done.0 ++ lines) c.in-Some.ensures.line
            ∙ sym (append_assoc done.0 (line ∷ []) (lines_of c.next_line.new.self.rest.now)),
      ),
      c.add_line.ensures.sizes ∙ c.loop-line.invariant.1,
      c.next_line.ensures.counted ∙ c.loop-line.invariant.2,
    )

pub returns-in_err-add_line-clause-bad : goal.returns-in_err-add_line-clause-bad
returns-in_err-add_line-clause-bad c =
    let p = err_from_is_err_and c.from_residual.result c.from_residual.ensures.1 in
    let done = c.loop-line.invariant.0 in
    let line = c.in-Some.line.now in
    let rest = lines_of c.next_line.new.self.rest.now in
    let parts = done.3 ∙ ap (λ (lines : List (List ℕ)). done.0 ++ lines) c.in-Some.ensures.line in
    let number = numbered c.args.lines.now.number c.next_line.new.self.number (lines_of c.args.lines.now.rest.now) done.0 line rest parts
    (c.next_line.ensures.counted ∙ c.loop-line.invariant.2) in
    rw (p.1, p.2) (fault_by _ _ (λ n why wrong. record {
      done = done.0;
      line = line;
      rest = rest;
      parts = parts;
      number = wrong.0 ∙ c.number.ensures ∙ number;
      events = c.loop-line.draft.events;
      core = c.loop-line.draft.core;
      led = done.2;
      wrong = wrong.1;
    }) c.in_err-add_line.field-0.0 c.in_err-add_line.ensures.bad)

pub returns-clause-leads : goal.returns-clause-leads
returns-clause-leads c =
    let done = c.loop-line.invariant.0 in
    let all : lines_of c.args.lines.now.rest.now ≡ done.0 =
    done.3 ∙ ap (λ (lines : List (List ℕ)). done.0 ++ lines) (c.next_line.ensures.none c.in_default.is) ∙ append-nil done.0 in
    subst (λ (lines : List (List ℕ)). LinesLead c.args.draft.now.core lines c.loop-line.draft.events c.loop-line.draft.core) (sym all) done.2
