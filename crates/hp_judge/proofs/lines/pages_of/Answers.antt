use Rattle.std.proofs.Common.{◌≡◌, ◌++◌, ◌∷◌, [], ℕ, ◌<◌, length, slice_index_or, List, rules, sym, subst}
use Rattle.std.specs.Prelude.{take}
use Rattle.std.proofs.lemmas.List.{take_more}
use Rattle.hp_judge.specs.Lines.{HasExactly}
use Rattle.hp_judge.proofs.Pages.{none_yet, one_more}
use Rattle.hp_judge.proofs.lines.pages_of.Goals as goal

pub loop-page-init : goal.loop-page-init
loop-page-init c = none_yet c.new-pages.result c.new-pages.ensures.empty

pub loop-page-preserved : goal.loop-page-preserved
loop-page-preserved c =
    let pages = c.args.places.now.pages in
    let at = c.loop-page.page-index in
    let there : at < length pages = search rules in
    let same : c.deref-page-items.result.now ≡ pages = search rules in
    let more = one_more c.loop-page.pages c.insert.new.self _ _ c.loop-page.invariant (λ q. c.in_ok-insert.ensures.updates.0 q) in
    subst (λ (l : List (ℕ × ℕ × ℕ)). HasExactly c.insert.new.self l) (sym (take_more pages at (0, 0, 0) there))
    (subst (λ (l : List (ℕ × ℕ × ℕ)). HasExactly c.insert.new.self (take at pages ++ slice_index_or l at (0, 0, 0) ∷ [])) same more)
