use Rattle.std.proofs.Common.{◌∙◌, ℕ, ◌≡◌, ◌++◌, [], arith}
use Rattle.std.specs.Prelude.{is_some}
use Rattle.std.proofs.lemmas.Grind.{common_steps}
use Rattle.std.specs.FinMap as map
use Rattle.hp_base.proofs.Counting.{count_below_le}
use Rattle.hp_key.specs.Key.{entry_words}
use Rattle.hp_key.proofs.Writing.{entries_done}
use Rattle.hp_key.proofs.lists.push_translations.Goals as goal

pub overflow_cast-entries : goal.overflow_cast-entries
overflow_cast-entries c =
    let few = count_below_le (λ (vpn : ℕ). is_some (map.get c.args.space.now.entries vpn)) 16384 in
    omega (arith, few, c.entries.ensures.count)

pub returns : goal.returns
returns c =
    let all : c.loop-vpn.words.items ++ [] ≡ c.push.new.self.items ++ _ = grind (arith, common_steps) in
    entries_done entry_words c.args.words.now.items c.push.new.self.items c.loop-vpn.words.items c.entries.result
    (map.entries c.args.space.now.entries) c.in_ok-push.ensures.items
    (c.entries.ensures.value ∙ map.len-entries c.args.space.now.entries) all
