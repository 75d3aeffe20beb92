-- Alternatives are read one after the other.
use Rattle.std.proofs.Common.{◌≡◌, ◌∷◌, ◌++◌, [], ℕ, suc, List, length, refl, sym, Bor}
use Rattle.std.specs.Prelude.{Option, Some, None, IfSome}
use Rattle.hp_hunt.specs.declared.condition.Condition.{Condition}
use Rattle.hp_conditions.specs.declared.kind.Kind.{Kind}
use Rattle.hp_conditions.specs.Pieces.{alternatives_of}
use Rattle.hp_conditions.specs.Sought.{add_each, condition_at}

-- the alternatives of what is left
abbrev pub pieces_left : Option (Bor (List ℕ)) → List (List ℕ)
pieces_left None = []
pieces_left (Some text) = alternatives_of text.now

-- how much is left
abbrev pub how_much : Option (Bor (List ℕ)) → ℕ
how_much None = 0
how_much (Some text) = suc (length text.now)

-- the first alternative, and those of what stands behind it
pub pieces_next : (text one : List ℕ) (behind : Option (Bor (List ℕ))) → (behind ≡ None → alternatives_of text ≡ one ∷ [])
    → IfSome behind (λ rest. alternatives_of text ≡ one ∷ alternatives_of rest.now) → alternatives_of text ≡ one ∷ pieces_left behind
pieces_next text one None none some = none refl
pieces_next text one (Some rest) none some = some

-- an alternative more
pub add_next : (k : Kind) (choice : ℕ) (before : List Condition) (text : List ℕ) (texts : List (List ℕ)) (c : Condition)
    → Some c ≡ condition_at k choice text → add_each k choice before (text ∷ texts) ≡ add_each k choice (before ++ c ∷ []) texts
unfolding add_each
add_next k choice before text texts c is = rw (sym is) refl

-- a text that is no alternative
pub add_none : (k : Kind) (choice : ℕ) (before : List Condition) (text : List ℕ) (texts : List (List ℕ))
    → None ≡ condition_at k choice text → add_each k choice before (text ∷ texts) ≡ None
unfolding add_each
add_none k choice before text texts is = rw (sym is) refl

pub add_all : (k : Kind) (choice : ℕ) (before : List Condition) → add_each k choice before [] ≡ Some before
unfolding add_each
add_all k choice before = refl
