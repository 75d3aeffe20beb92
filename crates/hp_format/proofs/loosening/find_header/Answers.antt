use Rattle.std.proofs.Common.{arith, ◌++◌, ◌∷◌, [], ℕ, List, Option, length, length-append, ap, append_assoc, refl, sym, subst, ◌∙◌}
use Rattle.std.specs.Option.{MatchOption}
use Rattle.std.proofs.lemmas.List.Elements.{All-append}
use Rattle.std.proofs.lemmas.Result.{err_from_is_err_and}
use Rattle.hp_base.specs.Text.{sizes}
use Rattle.hp_base.specs.declared.config.Config.{Config}
use Rattle.hp_text.specs.TextLines.{lines_of}
use Rattle.hp_format.specs.Loose.{HasNoWords, IsHeader}
use Rattle.hp_format.proofs.Faults.{fault_by, numbered}
use Rattle.hp_format.proofs.Given.{one_all}
use Rattle.hp_format.proofs.loosening.find_header.Goals as goal

pub next_line-requires : goal.next_line-requires
next_line-requires c = omega (arith, c.loop-line.invariant.3, c.requires)

pub loop-line-preserved : goal.loop-line-preserved
loop-line-preserved c =
    let line = c.in-Some.line.now in
    let front = c.loop-line.invariant.0 in
    let none : HasNoWords line =
    subst (λ (found : Option Config). MatchOption found (HasNoWords line) (λ config. IsHeader line (sizes config))) c.in-None.is
    c.in_ok-config.ensures.found in (
      front ++ line ∷ [],
      All-append HasNoWords front (line ∷ []) c.loop-line.invariant.1 (one_all HasNoWords line none),
      c.loop-line.invariant.2 ∙ ap (λ (lines : List (List ℕ)). front ++ lines) c.in-Some.ensures.line
          ∙ sym (append_assoc front (line ∷ []) (lines_of c.next_line.new.self.rest.now)),
      c.next_line.ensures.counted ∙ c.loop-line.invariant.3,
    )

pub returns-in_err-config-clause-counted : goal.returns-in_err-config-clause-counted
returns-in_err-config-clause-counted c = c.next_line.ensures.counted ∙ c.loop-line.invariant.3

pub returns-in_err-config-clause-bad : goal.returns-in_err-config-clause-bad
returns-in_err-config-clause-bad c =
    let p = err_from_is_err_and c.from_residual.result c.from_residual.ensures.1 in
    let front = c.loop-line.invariant.0 in
    let line = c.in-Some.line.now in
    let rest = lines_of c.next_line.new.self.rest.now in
    let parts = c.loop-line.invariant.2 ∙ ap (λ (lines : List (List ℕ)). front ++ lines) c.in-Some.ensures.line in
    let number = numbered c.args.lines.now.number c.next_line.new.self.number (lines_of c.args.lines.now.rest.now) front line rest parts
    (c.next_line.ensures.counted ∙ c.loop-line.invariant.3) in
    rw (p.1, p.2) (fault_by _ _ (λ n why bad. record {
      why_is = bad.1;
      front = front;
      rest = line ∷ rest;
      parts = parts;
      blank = c.loop-line.invariant.1;
      number = bad.0 ∙ c.number.ensures ∙ number;
      none = bad.2;
    }) c.in_err-config.field-0.0 c.in_err-config.ensures.bad)

pub returns-in-Some-2-clause-counted : goal.returns-in-Some-2-clause-counted
returns-in-Some-2-clause-counted c = c.next_line.ensures.counted ∙ c.loop-line.invariant.3

pub overflow_add-result : goal.overflow_add-result
overflow_add-result c =
    omega (arith, c.number-2.ensures, c.next_line.ensures.counted, c.loop-line.invariant.3, c.requires)

pub returns-clause-counted : goal.returns-clause-counted
returns-clause-counted c = c.next_line.ensures.counted ∙ c.loop-line.invariant.3

pub returns-clause-bad : goal.returns-clause-bad
returns-clause-bad c =
    let front = c.loop-line.invariant.0 in
    let parts = c.loop-line.invariant.2 ∙ ap (λ (lines : List (List ℕ)). front ++ lines) (c.next_line.ensures.none c.in_default.is) in
    let left = c.next_line.ensures.left c.in_default.is in
    let counted = c.next_line.ensures.counted ∙ c.loop-line.invariant.3 in
    let all = ap length parts ∙ length-append front [] in record {
      why_is = refl;
      front = front;
      rest = [];
      parts = parts;
      blank = c.loop-line.invariant.1;
      number = omega (arith, c.number-2.ensures, counted, all, ap length left);
      none = tt;
    }
