use Rattle.hp_layers.specs.Named.{AreApart}
use Rattle.hp_search.proofs.Made.{ListsUpTo}
use Rattle.hp_search.specs.Searching.{place_of}
use Rattle.hp_search.proofs.position.Position.next_turns.Given as goal

abbrev pub invariant-loop-place : goal.invariant-loop-place
invariant-loop-place l = record { listed : ListsUpTo l.plan (place_of l.self) l.turns.items l.place; apart : AreApart l.turns.items }
