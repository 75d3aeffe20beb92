use Rattle.std.proofs.Common.{arith, inr, ◌≡◌, ◌∙◌, sym, Bool, true, cond, subst, List}
use Rattle.std.proofs.lemmas.List.Elements.{Contains-push}
use Rattle.std.specs.List.{list_any}
use Rattle.std.specs.Bool.{OnFalse}
use Rattle.std.specs.HashSet.{contains}
use Rattle.hp_layers.specs.Layers.{IsCovered, KeysStand}
use Rattle.hp_layers.proofs.Bytes.{bytes_on}
use Rattle.hp_layers.proofs.Covering.{covered_by, stand_on, are_valid, stands_for, true_from_not, valid_on}
use Rattle.hp_layers.proofs.layer.add.Goals as goal

pub returns-in_ok-push-clause-stand : goal.returns-in_ok-push-clause-stand
returns-in_ok-push-clause-stand g c =
    let eq = g.M.Key.PartialEq.eq in
    let key_of = g.M.Turns.key_of c.args.system.now in
    let more = contains eq c.insert.new.self in
    let has = contains eq c.args.seen.now in
    subst (λ (l : List _). KeysStand eq key_of more l) (sym c.in_ok-push.ensures.items)
    (stand_on eq key_of has more c.args.next.now.states.items c.args.state c.requires.stand
    (λ q. subst (λ (k : _). more q ≡ cond (eq k q) true (has q)) c.in_ok-key.ensures (c.in_ok-insert.ensures.updates.0 q)))

pub returns-in_ok-push-clause-covered : goal.returns-in_ok-push-clause-covered
returns-in_ok-push-clause-covered g c =
    let alike = g.M.Turns.alike c.args.system.now in
    subst (λ (l : List _). IsCovered alike l c.args.state) (sym c.in_ok-push.ensures.items)
    (covered_by alike _ c.args.state c.args.state (Contains-push c.args.next.now.states.items c.args.state)
    ((g.met.M.Turns.as_good c.args.system.now).itself c.args.state c.requires.state))

pub returns-else-branch-clause-stand : goal.returns-else-branch-clause-stand
returns-else-branch-clause-stand g c =
    let eq = g.M.Key.PartialEq.eq in
    let key_of = g.M.Turns.key_of c.args.system.now in
    subst (λ (keys : List _). KeysStand eq key_of (λ k. list_any (eq k) keys) c.args.next.now.states.items)
    (sym (subst (λ (b : Bool). OnFalse b (c.insert.new.self.keys ≡ c.args.seen.now.keys)) c.if-branch.false
    c.in_ok-insert.ensures.unchanged))
    c.requires.stand

pub returns-else-branch-clause-covered : goal.returns-else-branch-clause-covered
returns-else-branch-clause-covered g c =
    let eq = g.M.Key.PartialEq.eq in
    let key_of = g.M.Turns.key_of c.args.system.now in
    let alike = g.M.Turns.alike c.args.system.now in
    let there = true_from_not _ (sym c.in_ok-insert.ensures.added ∙ c.if-branch.false) in
    let has = contains eq c.args.seen.now in
    stands_for eq key_of alike has c.args.next.now.states.items c.args.state
    (λ t k e. g.met.M.Turns.same_key c.args.system.now c.args.state t c.requires.state (are_valid _ _ c.requires.next t k) e)
    c.requires.stand (subst (λ (k : _). has k ≡ true) c.in_ok-key.ensures there)

pub returns-in_ok-push-clause-next : goal.returns-in_ok-push-clause-next
returns-in_ok-push-clause-next g c =
    valid_on (g.M.Turns.valid c.args.system.now) c.args.next.now.states.items c.push.new.self.items c.args.state c.requires.next c.requires.state
    (inr c.in_ok-push.ensures.items)

pub returns-in_ok-push-clause-bytes : goal.returns-in_ok-push-clause-bytes
returns-in_ok-push-clause-bytes g c =
    let bytes_of = g.M.Turns.bytes_of c.args.system.now in
    bytes_on bytes_of c.args.next.now.states.items c.push.new.self.items c.args.state c.args.next.now.bytes c.saturating_add-next.result
    c.requires.bytes c.in_ok-push.ensures.items (omega (arith, c.saturating_add-next.ensures, c.bytes.ensures))
