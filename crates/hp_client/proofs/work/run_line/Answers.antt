use Rattle.std.proofs.Common.{rules, ℕ, ◌∷◌, ◌++◌, [], List, subst, append_assoc}
use Rattle.hp_base.specs.declared.answer.Answer.{Answer}
use Rattle.hp_base.specs.declared.event.Op.{Op}
use Rattle.hp_client.specs.Bytes.{IsAnswered, fallocate_plan}
use Rattle.hp_client.specs.Driving.{IsHeard}
use Rattle.hp_client.specs.Tables.{Tried, answer_of}
use Rattle.hp_client.specs.Judging.{Judges}
use Rattle.hp_client.proofs.Judging.{call_runs, race_runs, fallocate_runs, two_answers}
use Rattle.hp_client.proofs.work.run_line.Goals as goal

pub returns-in_ok-given-in-Call-clause-run : goal.returns-in_ok-given-in-Call-clause-run
returns-in_ok-given-in-Call-clause-run g c = (
  (c.in_ok-given-in-Call.given, answer_of c.in-Call.row.2) ∷ [],
  call_runs (IsHeard g.D.Driver.heard_by g.D.Driver.makes) c.args.line c.in-Call.row _ _ c.in_ok-given-in-Call.given
      c.in-Call.is
      (search rules),
  c.judge.ensures.judges,
)

pub returns-in_ok-given-in-Race-clause-run : goal.returns-in_ok-given-in-Race-clause-run
returns-in_ok-given-in-Race-clause-run g c =
    let rounds = IsHeard g.D.Driver.heard_by g.D.Driver.makes in
    let old = c.args.driver.now in
    let new = c.round.new.self in
    let one = c.index.result.now in
    let two = c.index-in-Race.result.now in
    let first : Answer × Answer = (one, answer_of c.in-Race.first.2) in
    let second : Answer × Answer = (two, answer_of c.in-Race.second.2) in
    let called : List (ℕ × Op) =
    (c.new-in-Race.result, c.op_of-in-Race.result) ∷ (c.new-in-Race-2.result, c.op_of-in-Race-2.result) ∷ [] in
    let made =
    subst (λ (answers : List Answer). rounds old called answers new)
    (two_answers c.in_ok-given-in-Race.given.items one two one c.in_ok-given-in-Race.ensures.answers (search rules) (search rules))
    (c.in_ok-given-in-Race.ensures.made, c.in_ok-given-in-Race.ensures.heard) in
    let named =
    subst (λ (calls : List (ℕ × Op)). rounds old calls (one ∷ two ∷ []) new)
    (λ i. (c.new-in-Race.ensures i, c.op_of-in-Race.ensures i) ∷ (c.new-in-Race-2.ensures i, c.op_of-in-Race-2.ensures i) ∷ [])
    made in (
      first ∷ second ∷ [],
      race_runs rounds c.args.line c.in-Race.first c.in-Race.second old new one two c.in-Race.is named,
      λ tried judges. subst (λ (xs : Tried). Judges xs c.judge-in-Race-2.new.judged) (append_assoc tried (first ∷ [])
          (second ∷ []))
          (c.judge-in-Race-2.ensures.judges (tried ++ first ∷ []) (c.judge-in-Race.ensures.judges tried judges)),
    )

pub returns-in_ok-given-in-Fallocate-clause-run : goal.returns-in_ok-given-in-Fallocate-clause-run
returns-in_ok-given-in-Fallocate-clause-run g c =
    let rounds = IsHeard g.D.Driver.heard_by g.D.Driver.makes in
    let x = c.in-Fallocate in
    let given = c.in_ok-given-in-Fallocate.given in
    let old = c.args.driver.now in
    let new = c.fallocate.new.driver in
    let of_file =
    subst (λ (f : ℕ). IsAnswered rounds (fallocate_plan x.bits f x.offset x.len) c.new-task.result old given new)
    c.new-file.ensures c.in_ok-given-in-Fallocate.ensures.answered in
    let of_task =
    subst (λ (t : ℕ). IsAnswered rounds (fallocate_plan x.bits x.file x.offset x.len) t old given new)
    c.new-task.ensures of_file in (
      (given, answer_of x.allowed) ∷ [],
      fallocate_runs rounds c.args.line x.task x.file x.bits x.offset x.len x.allowed old new given x.is of_task,
      c.judge-in-Fallocate.ensures.judges,
    )
