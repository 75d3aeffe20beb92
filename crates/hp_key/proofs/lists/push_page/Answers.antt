use Rattle.std.proofs.Common.{◌∙◌, ℕ, ◌++◌, ◌∷◌, [], ap, sym}
use Rattle.std.specs.FinMap as map
use Rattle.hp_key.proofs.Writing.{page_word}
use Rattle.hp_key.proofs.lists.push_page.Goals as goal

pub returns-in_ok-push_wide : goal.returns-in_ok-push_wide
returns-in_ok-push_wide c =
    page_word c.args.bank.now.frames c.args.words.now.items c.push.new.self.items c.push_wide.new.words.items c.args.index
    c.in-Some.frame c.load.result (map.get c.args.cache.now.pages c.args.index) (sym c.in-Some.ensures) c.load.ensures
    (c.in_ok-push.ensures.items ∙ ap (λ (n : ℕ). c.args.words.now.items ++ n ∷ []) c.number.ensures) c.in_ok-push_wide.ensures
