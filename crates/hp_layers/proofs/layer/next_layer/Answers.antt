use Rattle.std.proofs.Common.{[], ap, arith, List, subst, sym}
use Rattle.std.specs.List.{list_any}
use Rattle.std.specs.HashSet.{contains}
use Rattle.hp_layers.specs.Layers.{AreNext}
use Rattle.hp_layers.proofs.Bytes.{no_bytes, nothing_fits}
use Rattle.hp_layers.proofs.Covering.{next_of_none, none_counted, none_stand, none_valid}
use Rattle.hp_layers.proofs.layer.next_layer.Goals as goal

pub loop-begin-init : goal.loop-begin-init
loop-begin-init g c =
    let turn = g.M.Turns.turn c.args.system.now in
    let alike = g.M.Turns.alike c.args.system.now in
    let eq = g.M.Key.PartialEq.eq in
    let none = c.no_layer-next.result.states.items in
    let bytes = c.no_layer-next.result.bytes in
    record {
      within = omega arith;
      gathered = record {
        stand = none_stand eq (g.M.Turns.key_of c.args.system.now) (contains eq c.new-seen.result) none
            (λ k. ap (list_any (eq k)) c.new-seen.ensures.empty);
        next_of = subst (λ (l : List _). AreNext turn alike [] l) (sym c.no_layer-next.ensures.states) (next_of_none turn alike);
        are_valid = none_valid (g.M.Turns.valid c.args.system.now) none c.no_layer-next.ensures.states;
        counted = none_counted eq c.new-seen.result.keys none c.new-seen.ensures.empty c.no_layer-next.ensures.states;
        fits = nothing_fits none bytes c.args.room.states c.args.room.bytes c.no_layer-next.ensures.states c.no_layer-next.ensures.bytes;
        are_bytes = no_bytes (g.M.Turns.bytes_of c.args.system.now) none bytes c.no_layer-next.ensures.states c.no_layer-next.ensures.bytes;
      };
      own = c.in_ok-made.ensures.own;
    }
