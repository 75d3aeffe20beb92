use Rattle.std.proofs.Common.{rules, ◌<◌, length}
use Rattle.hp_judge.proofs.Twice.{seen_more, seen_none, twice_more, twice_none}
use Rattle.hp_judge.proofs.frames.add_twice.Goals as goal

pub loop-frame-init : goal.loop-frame-init
loop-frame-init c = (seen_none c.new-seen.result c.new-seen.ensures.empty, twice_none c.args.findings.now.items)

pub loop-frame-preserved : goal.loop-frame-preserved
loop-frame-preserved c =
    let xs = c.args.frames.now in
    let k = c.loop-frame.frame-index in
    let there : k < length xs = search rules in (
      seen_more xs k c.loop-frame.seen c.note_frame.new.seen c.loop-frame.findings.items c.note_frame.new.findings.items there
          c.loop-frame.invariant.0 c.in_ok-note_frame.ensures,
      twice_more xs k c.loop-frame.seen c.note_frame.new.seen c.args.findings.now.items c.loop-frame.findings.items
          c.note_frame.new.findings.items there c.loop-frame.invariant.0 c.loop-frame.invariant.1 c.in_ok-note_frame.ensures,
    )
