use Rattle.std.proofs.Common.{◌≡◌, true, arith, rules, eqb-true, sym, ◌∙◌}
use Rattle.std.specs.Prelude.{Some}
use Rattle.std.proofs.lemmas.Result.{IfErr-weaker, IfOk-weaker}
use Rattle.hp_text.specs.TextLines.{lines_of}
use Rattle.hp_picture.specs.Pictures.{next, taken}
use Rattle.hp_text.proofs.TextLines.{no_line}
use Rattle.hp_picture.proofs.Taken.{taken_more, taken_bad, taken_all, ended_bad}
use Rattle.hp_picture.proofs.text.take_text.Goals as goal

pub loop-rest-preserved : goal.loop-rest-preserved
loop-rest-preserved c =
    let start = taken 0 c.args.draft (lines_of c.args.text.now) in
    let may : next c.loop-rest.draft c.split_line.result.0.now ≡ Some c.take.new.self = search rules in (
      taken_more c.loop-rest.lines c.loop-rest.draft c.take.new.self c.split_line.result.0.now (lines_of c.split_line.result.1.now)
          (lines_of c.loop-rest.rest.now) start c.split_line.ensures.lines may c.loop-rest.invariant.0,
      omega (arith, c.loop-rest.invariant.1, c.split_line.ensures.shorter),
    )

pub returns-clause-ok : goal.returns-clause-ok
returns-clause-ok c =
    let start = taken 0 c.args.draft (lines_of c.args.text.now) in
    let empty : c.is_empty.result ≡ true = search rules in
    let none = no_line c.loop-rest.rest.now (eqb-true _ _ (sym c.is_empty.ensures ∙ empty)) in
    let same = taken_all c.loop-rest.lines c.loop-rest.draft (lines_of c.loop-rest.rest.now) start none c.loop-rest.invariant.0 in
    IfOk-weaker c.whole.result _ _ (λ picture found. sym same ∙ found) c.whole.ensures.ok

pub returns-clause-err : goal.returns-clause-err
returns-clause-err c =
    let start = taken 0 c.args.draft (lines_of c.args.text.now) in
    let empty : c.is_empty.result ≡ true = search rules in
    let none = no_line c.loop-rest.rest.now (eqb-true _ _ (sym c.is_empty.ensures ∙ empty)) in
    let same = taken_all c.loop-rest.lines c.loop-rest.draft (lines_of c.loop-rest.rest.now) start none c.loop-rest.invariant.0 in
    IfErr-weaker c.whole.result _ _ (λ fault bad. ended_bad c.loop-rest.lines _ start fault same bad) c.whole.ensures.err

pub returns-in-Err-clause-err : goal.returns-in-Err-clause-err
returns-in-Err-clause-err c =
    let start = taken 0 c.args.draft (lines_of c.args.text.now) in
    taken_bad c.loop-rest.lines c.loop-rest.draft c.split_line.result.0.now (lines_of c.split_line.result.1.now)
    (lines_of c.loop-rest.rest.now) start c.in-Err.fault c.split_line.ensures.lines c.loop-rest.invariant.0 c.in-Err.ensures.err
