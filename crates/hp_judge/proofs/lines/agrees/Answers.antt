use Rattle.std.proofs.Common.{◌↔◌, ℕ, Contains, IsTrue, subst}
use Rattle.hp_judge.proofs.lines.agrees.Goals as goal

pub returns : goal.returns
returns c = subst (λ (t : ℕ × ℕ × ℕ × ℕ). IsTrue c.has_page.result ↔ Contains c.args.places.now.pages (t.1, t.2, t.3)) c.translation-file.ensures c.has_page.ensures
