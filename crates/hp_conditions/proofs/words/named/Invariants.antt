use Rattle.std.proofs.Common.{◌≡◌, drop}
use Rattle.hp_conditions.specs.Words.{named}
use Rattle.hp_conditions.proofs.words.named.Given as goal

-- none of those so far has the text for its word
abbrev pub invariant-loop-one : goal.invariant-loop-one
invariant-loop-one g l = named g.W.Spelt.word_of l.all l.text ≡ named g.W.Spelt.word_of (drop l.one-index l.all) l.text
