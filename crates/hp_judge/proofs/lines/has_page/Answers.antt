use Rattle.std.proofs.Common.{◌↔◌, Bool, Contains, IsTrue, subst, sym}
use Rattle.hp_judge.specs.Lines.{HasExactly}
use Rattle.hp_judge.proofs.lines.has_page.Goals as goal

pub returns : goal.returns
unfolding HasExactly
returns c = subst (λ (b : Bool). IsTrue b ↔ Contains c.args.places.now.pages c.args.page) (sym c.contains.ensures) (c.requires c.args.page)
