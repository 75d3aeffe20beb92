use Rattle.std.proofs.Common.{ℕ, ◌≢◌, ◌<◌, get_or, sym, ap, ◌∙◌, below_more}
use Rattle.std.proofs.lemmas.Bool.{false≢true}
use Rattle.std.proofs.lemmas.List.{get_or_default}
use Rattle.hp_audit.proofs.Lists.{new_index, other_index}
use Rattle.hp_audit.proofs.file.is_once.Goals as goal

pub returns-then-has_page : goal.returns-then-has_page
returns-then-has_page c =
    let page = c.index-pages-at.result in
    let found = sym c.has_page.ensures ∙ c.if-has_page.true in (
      λ no. absurd (false≢true no),
      λ once. sym (new_index c.args.pages.now c.loop-at.at page once c.loop-at-test.true c.index-pages-at.is) ∙ found,
    )

pub loop-at-preserved : goal.loop-at-preserved
loop-at-preserved c = λ i j d before under.
    let pages = c.args.pages.now in
    let page = c.index-pages-at.result in
    let P : ℕ → Type 0 = λ m. i < m → (get_or pages i d).0 ≢ (get_or pages m d).0 in
    let there = c.index-pages-at.is ∙ get_or_default pages c.loop-at.at page d c.loop-at-test.true in
    let here : P c.loop-at.at =
    λ first e. other_index pages c.loop-at.at page.0 i d c.loop-at-test.true first
    (sym c.has_page.ensures ∙ c.if-has_page.false) (e ∙ sym (ap (λ (p : ℕ × ℕ). p.0) there)) in
    below_more P c.loop-at.at (λ m low first. c.loop-at.invariant i m d first low) here j under before
