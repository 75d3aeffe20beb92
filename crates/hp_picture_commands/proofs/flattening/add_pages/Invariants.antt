use Rattle.std.proofs.Common.{◌≡◌, ◌++◌, ℕ, map, take}
use Rattle.hp_picture_commands.proofs.flattening.add_pages.Given as goal

abbrev pub invariant-loop-index : goal.invariant-loop-index
invariant-loop-index l = l.pages.items ≡ l.fn.pages.items ++ map (λ (page : ℕ × ℕ). (l.number, page.0, page.1)) (take l.index-index l.file.pages.items)
