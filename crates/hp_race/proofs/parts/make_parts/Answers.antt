use Rattle.std.proofs.Common.{◌+◌, refl}
use Rattle.hp_race.specs.Calls.{is_mortal}
use Rattle.hp_race.proofs.Parting.{parts_end, parts_on}
use Rattle.hp_race.proofs.parts.make_parts.Goals as goal

pub loop-from-init : goal.loop-from-init
loop-from-init g c = record {
  new = c.requires.new;
  count = c.requires.count;
  before = λ parts entries end are. (parts, are);
}

pub loop-from-preserved : goal.loop-from-preserved
loop-from-preserved g c =
    let at = c.loop-from in record {
      new = c.in_ok-is_made.ensures.new c.if-not-is_made.false;
      count = c.in_ok-is_made.ensures.count;
      before =
          parts_on (is_mortal c.args.track.now.chances) c.args.script.now c.args.most at.from
          (at.from + c.args.most) at.again.entries c.make_part.new.again.entries
          c.args.again.now.entries c.args.again.now.core at.again.core c.make_part.new.again.core at.invariant.before
          (c.in_ok-is_made.ensures.part c.if-not-is_made.false) refl;
    }

pub returns-clause-parts : goal.returns-clause-parts
returns-clause-parts g c =
    let at = c.loop-from in
    λ all.
    parts_end (is_mortal c.args.track.now.chances) c.args.script.now c.args.most at.from c.in_ok-longest.longest at.again.entries
    c.args.again.now.entries
    c.args.again.now.core at.again.core at.invariant.before c.in_ok-longest.ensures.end c.loop-from-test.false
