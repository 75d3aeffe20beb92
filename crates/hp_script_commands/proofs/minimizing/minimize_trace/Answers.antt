use Rattle.std.proofs.Common.{arith}
use Rattle.std.proofs.KnownBytes.{Keeps-refl}
use Rattle.hp_hunt.proofs.Lefts.{fewer_left}
use Rattle.hp_script_commands.proofs.Hunted.{minimizes, minimizes_short}
use Rattle.hp_script_commands.proofs.minimizing.minimize_trace.Goals as goal

pub write_small-requires : goal.write_small-requires
write_small-requires g c =
    let is = rw c.in-Some.is at c.in_ok-small.ensures.small in
    omega (arith, fewer_left c.in-Some.small.events.items c.in_ok-trace.trace.events.items is.some, c.in_ok-trace.ensures.ok.trace.few)

pub returns-in-Some-clause-ok : goal.returns-in-Some-clause-ok
returns-in-Some-clause-ok g c =
    let is = rw c.in-Some.is at c.in_ok-small.ensures.small in
    let same = rw c.in-Some.is at c.in_ok-small.ensures.config in
    minimizes c.args.conditions.now _ _ _ _ c.in_ok-trace.trace.config c.in_ok-trace.trace.events.items c.in-Some.small.events.items _
    c.in_ok-trace.ensures.ok is same c.write_small.result c.write_small.ensures.ok c.write_small.ensures.met

pub returns-in-Some-clause-err : goal.returns-in-Some-clause-err
returns-in-Some-clause-err g c =
    let is = rw c.in-Some.is at c.in_ok-small.ensures.small in
    let same = rw c.in-Some.is at c.in_ok-small.ensures.config in
    minimizes_short c.args.conditions.now _ _ _ _ c.in_ok-trace.trace.config c.in_ok-trace.trace.events.items
    c.in-Some.small.events.items _ c.in_ok-trace.ensures.ok is same c.write_small.result _ _ c.write_small.ensures.err
    c.write_small.ensures.writes

pub returns-clause-ok : goal.returns-clause-ok
returns-clause-ok g c = (
  record {
    config = c.in_ok-trace.trace.config;
    events = c.in_ok-trace.trace.events.items;
    reads = c.in_ok-trace.ensures.ok;
    misses = c.in_ok-small.ensures.none c.in-None.is;
  },
  Keeps-refl _,
)
