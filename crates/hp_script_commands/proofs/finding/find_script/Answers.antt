use Rattle.std.proofs.Common.{List, subst}
use Rattle.std.proofs.KnownBytes.{Keeps-refl}
use Rattle.hp_hunt.specs.Hunting.{IsFound, NoneMeets}
use Rattle.hp_hunt.specs.declared.condition.Condition.{Condition}
use Rattle.hp_script_commands.proofs.Hunted.{finds, finds_short}
use Rattle.hp_script_commands.proofs.finding.find_script.Goals as goal

pub returns-in-Some-clause-ok : goal.returns-in-Some-clause-ok
returns-in-Some-clause-ok g c =
    let script = c.in_ok-script.script in
    let found = rw c.in-Some.is at c.in_ok-found.ensures.found in
    let is = subst (λ (cs : List Condition). IsFound script c.args.search.now.hunt cs c.in-Some.found) c.as_slice.ensures.value found in
    finds c.args.search.now _ _ _ _ script c.in-Some.found c.in_ok-script.ensures.ok is c.write_found.result c.write_found.ensures.ok
    c.write_found.ensures.met

pub returns-in-Some-clause-err : goal.returns-in-Some-clause-err
returns-in-Some-clause-err g c =
    let script = c.in_ok-script.script in
    let found = rw c.in-Some.is at c.in_ok-found.ensures.found in
    let is = subst (λ (cs : List Condition). IsFound script c.args.search.now.hunt cs c.in-Some.found) c.as_slice.ensures.value found in
    finds_short c.args.search.now _ _ _ _ script c.in-Some.found c.in_ok-script.ensures.ok is c.write_found.result _ _
    c.write_found.ensures.err c.write_found.ensures.writes

pub returns-clause-ok : goal.returns-clause-ok
returns-clause-ok g c =
    let script = c.in_ok-script.script in
    let hunt = c.args.search.now.hunt in (
      record {
        script = script;
        reads = c.in_ok-script.ensures.ok;
        none =
            subst (λ (cs : List Condition). NoneMeets script hunt cs hunt.limit) c.as_slice.ensures.value
            (c.in_ok-found.ensures.none c.in-None.is);
      },
      Keeps-refl _,
    )
