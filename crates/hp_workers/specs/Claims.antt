-- What is made at places, by whoever claims them.
use Rattle.std.specs.Prelude.{◌<◌, ℕ, List, Option, None, IfSome, slice_index_or, All}
use Rattle.hp_workers.specs.declared.claims.Claimed.{Claimed}

-- the work may be done at each of so many places
abbrev pub CanMakeAll : (can : ℕ → Type 0) → (places : ℕ) → Type 0
CanMakeAll can places = (place : ℕ) → place < places → can place

-- it is one of so many places, and what was made there is right
pub record IsClaimed {M : Type 0} (right : ℕ → M → Type 0) (places : ℕ) (claimed : Claimed M) : Type 0 where
  pub there : claimed.place < places
  pub made : right claimed.place claimed.made

abbrev pub AreClaimed : {M : Type 0} → (right : ℕ → M → Type 0) → (places : ℕ) → List (Claimed M) → Type 0
AreClaimed right places claimed = All (IsClaimed right places) claimed

-- each slot is empty, or has what is right at its own place
unfoldable pub AreOwn : {M : Type 0} → (right : ℕ → M → Type 0) → List (Option M) → Type 0
AreOwn right slots = (place : ℕ) → IfSome (slice_index_or slots place None) (right place)
