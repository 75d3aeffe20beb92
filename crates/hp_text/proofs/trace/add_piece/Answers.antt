use Rattle.std.proofs.Common.{arith, rules, length, ◌≡◌, drop, ◌∙◌, ap, refl, inr}
use Rattle.std.specs.Option.{option_map}
use Rattle.std.specs.Io.BufRead.{take_through}
use Rattle.std.proofs.lemmas.Result.{err_from_is_err_and}
use Rattle.hp_text.specs.Lines.{line_of}
use Rattle.hp_text.proofs.FirstLines.{TookLine, through_left, through_within}
use Rattle.hp_text.proofs.Drafts.{starts, line_can_follow, adds, not_added, no_room}
use Rattle.hp_text.proofs.trace.add_piece.Goals as goal

pub loop-rest-init : goal.loop-rest-init
loop-rest-init c = starts c.args.feed.now c.args.draft.now c.args.piece.now c.requires.no_fault c.requires.lines

pub returns-in_err-used-clause-err : goal.returns-in_err-used-clause-err
returns-in_err-used-clause-err c =
    let p = err_from_is_err_and c.from_residual.result c.from_residual.ensures.1 in
    rw (p.1, p.2) (not_added c.args.feed.now c.loop-rest.feed c.take.new.self c.args.draft.now c.loop-rest.draft
    c.args.piece.now c.loop-rest.rest.now c.in_err-used.field-0.0 c.loop-rest.invariant c.take.ensures.held
    c.in_err-used.ensures.err c.in_err-used.ensures.kind)

pub split_at-requires : goal.split_at-requires
split_at-requires c = omega (arith, c.in_ok-used.ensures.used, through_within c.loop-rest.rest.now)

pub add_taken-requires : goal.add_taken-requires
add_taken-requires c =
    line_can_follow c.loop-rest.feed c.take.new.self (option_map line_of c.in_ok-used.line) c.loop-rest.rest.now
    c.loop-rest.draft c.take.ensures.held c.in_ok-used.ensures.line c.in_ok-used.ensures.ok c.loop-rest.invariant.count

pub loop-rest-preserved : goal.loop-rest-preserved
loop-rest-preserved c =
    let left : c.split_at.result.1.now ≡ drop (length (take_through 10 c.loop-rest.rest.now)) c.loop-rest.rest.now =
    c.split_at.ensures.back ∙ ap (λ n. drop n c.loop-rest.rest.now) c.in_ok-used.ensures.used in
    let took : TookLine c.loop-rest.feed c.take.new.self (option_map line_of c.in_ok-used.line) c.loop-rest.rest.now
    c.split_at.result.1.now = record {
      held = c.take.ensures.held;
      lines = c.in_ok-used.ensures.line;
      left_is = left;
      ok = c.in_ok-used.ensures.ok;
    } in
    adds c.args.feed.now c.loop-rest.feed c.take.new.self c.args.draft.now c.loop-rest.draft c.add_taken.new.self
    c.args.piece.now c.loop-rest.rest.now c.split_at.result.1.now (option_map line_of c.in_ok-used.line)
    c.loop-rest.invariant took c.in_ok-add_taken.ensures.ok

pub returns-in_err-add_taken-clause-err : goal.returns-in_err-add_taken-clause-err
returns-in_err-add_taken-clause-err c =
    let p = err_from_is_err_and c.from_residual-in_err-add_taken.result c.from_residual-in_err-add_taken.ensures.1 in
    let left : c.split_at.result.1.now ≡ drop (length (take_through 10 c.loop-rest.rest.now)) c.loop-rest.rest.now =
    c.split_at.ensures.back ∙ ap (λ n. drop n c.loop-rest.rest.now) c.in_ok-used.ensures.used in
    let took : TookLine c.loop-rest.feed c.take.new.self (option_map line_of c.in_ok-used.line) c.loop-rest.rest.now
    c.split_at.result.1.now = record {
      held = c.take.ensures.held;
      lines = c.in_ok-used.ensures.line;
      left_is = left;
      ok = c.in_ok-used.ensures.ok;
    } in
    rw (p.1, p.2) (inr (
      refl,
      no_room c.args.feed.now c.loop-rest.feed c.take.new.self c.args.draft.now c.loop-rest.draft c.args.piece.now
          c.loop-rest.rest.now c.split_at.result.1.now (option_map line_of c.in_ok-used.line) c.loop-rest.invariant took
          c.in_err-add_taken.ensures.err.0 c.in_err-add_taken.ensures.err.1,
    ))

pub loop-rest-smaller : goal.loop-rest-smaller
loop-rest-smaller c =
    through_left c.loop-rest.rest.now _ _ (first_of (omega arith, search rules)) c.in_ok-used.ensures.used c.split_at.ensures.back_len
