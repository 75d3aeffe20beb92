use Rattle.std.proofs.Common.{◌∙◌, List, ap, refl, subst, sym, take}
use Rattle.std.proofs.KnownBytes.{Appends-nil, Appends-trans}
use Rattle.std.proofs.lemmas.List.{take_all}
use Rattle.std.proofs.lemmas.Result.{err_from_is_err_and}
use Rattle.std.specs.Io.KnownBytes.{Appends}
use Rattle.std.specs.List.{flat_map}
use Rattle.hp_text.specs.Streams.{sink_at}
use Rattle.hp_text.specs.Writing.{Wrote}
use Rattle.hp_html.proofs.Writing.{one_more, stopped_in_one}
use Rattle.hp_html.proofs.paging.write_texts.Goals as goal

pub loop-text-init : goal.loop-text-init
loop-text-init g c = record { wrote = Appends-nil (g.W.Sink.contents c.args.writer.now); failures = refl }

pub loop-text-preserved : goal.loop-text-preserved
loop-text-preserved g c =
    let before = g.W.Sink.contents c.args.writer.now in
    let mid = g.W.Sink.contents c.loop-text.writer in
    let after = g.W.Sink.contents c.write_text.new.writer in
    let k = c.loop-text.text-index in
    record {
      wrote = subst (Appends before after) (sym (one_more (λ text. text.now) c.args.texts.now k _ c.loop-text-test.true))
          (Appends-trans before mid after (flat_map (λ text. text.now) (take k c.args.texts.now)) _ c.loop-text.invariant.wrote
          (subst (Appends mid after) c.as_bytes.ensures.value c.in_ok-write_text.ensures.ok));
      failures = c.in_ok-write_text.ensures.writes ∙ c.loop-text.invariant.failures;
    }

pub returns-in_err-write_text-clause-err : goal.returns-in_err-write_text-clause-err
returns-in_err-write_text-clause-err g c =
    let p = err_from_is_err_and c.from_residual.result c.from_residual.ensures.1 in
    rw (p.1, p.2)
    (stopped_in_one (λ text. text.now) c.args.texts.now c.loop-text.text-index _ _ _ _ _ c.loop-text-test.true c.loop-text.invariant.wrote
    c.in_err-write_text.ensures.front.0
    (subst (Wrote (g.W.Sink.contents c.loop-text.writer) (g.W.Sink.contents c.write_text.new.writer)) c.as_bytes.ensures.value
    c.in_err-write_text.ensures.front.1))

pub returns-in_err-write_text-clause-writes : goal.returns-in_err-write_text-clause-writes
returns-in_err-write_text-clause-writes g c =
    let p = err_from_is_err_and c.from_residual.result c.from_residual.ensures.1 in
    rw (p.1, p.2) (c.in_err-write_text.ensures.writes ∙ ap (sink_at c.in_err-write_text.field-0.0) c.loop-text.invariant.failures)

pub returns-clause-ok : goal.returns-clause-ok
returns-clause-ok g c =
    subst (λ (l : List _). Appends (g.W.Sink.contents c.args.writer.now) (g.W.Sink.contents c.loop-text.writer) (flat_map (λ text. text.now) l))
    (take_all c.loop-text.text-index c.args.texts.now c.loop-text-test.false) c.loop-text.invariant.wrote
