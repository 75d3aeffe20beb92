-- A finite map that has the values of a function below a limit.
use Rattle.std.proofs.Common.{◌≡◌, ℕ, suc, zero, ◌<◌, ◌≤◌, Option, None, Some}
use Rattle.std.proofs.Common.{refl, sym, ap, ◌∙◌, arith, inl, inr}
use Rattle.std.specs.Ordering.{nat_cmp}
use Rattle.std.specs.Cmp.{nat_cmp_total}
use Rattle.std.specs.FinMap as map
use Rattle.std.proofs.lemmas.Bool.{cases_eq, cases_lt}
use Rattle.std.proofs.lemmas.Bool.Decides.{nat_tests}
use Rattle.hp_base.specs.Numbers.{put}
use Rattle.hp_base.specs.Pages.{IsPagesEnd}
use Rattle.hp_chunks.specs.Chunks.{with_value, map_below}

abbrev Map : Type 0
Map = map.FinMap nat_cmp ℕ

get_at : (m : Map) (key : ℕ) (value : Option ℕ) → map.get m key ≡ None → map.get (with_value m key value) key ≡ value
get_at m key None none = none
get_at m key (Some value) none = map.get-insert nat_cmp_total m key value key ∙ grind (arith, nat_tests)

get_other : (m : Map) (key : ℕ) (value : Option ℕ) (q : ℕ) → (q ≡ key → ⊥) → map.get (with_value m key value) q ≡ map.get m q
get_other m key None q other = refl
get_other m key (Some value) q other = map.get-insert nat_cmp_total m key value q ∙ grind (arith, nat_tests)

get_past : (values : ℕ → Option ℕ) (limit q : ℕ) → limit ≤ q → map.get (map_below values limit) q ≡ None
unfolding map_below
get_past values zero q past = map.get-empty nat_cmp q
get_past values (suc n) q past =
    get_other (map_below values n) n (values n) q (λ e. omega arith) ∙ get_past values n q (omega arith)

get_below : (values : ℕ → Option ℕ) (limit q : ℕ) → q < limit → map.get (map_below values limit) q ≡ values q
unfolding map_below
get_below values zero q below = absurd (omega arith)
get_below values (suc n) q below =
    elim (cases_eq q n) [
      | inl e ↦ rw e (get_at (map_below values n) n (values n) (get_past values n n (omega arith)))
      | inr other ↦ get_other (map_below values n) n (values n) q other ∙ get_below values n q (omega arith)
    ]

-- a function that has no value from the limit on
abbrev pub EndsBy : (ℕ → Option ℕ) → ℕ → Type 0
EndsBy values limit = (q : ℕ) → limit ≤ q → values q ≡ None

-- the map answers as the function does
get-map_below : (values : ℕ → Option ℕ) (limit : ℕ) → EndsBy values limit → (q : ℕ)
    → map.get (map_below values limit) q ≡ values q
get-map_below values limit ends q =
    elim (cases_lt q limit) [
      | inl below ↦ get_below values limit q below
      | inr past ↦ get_past values limit q past ∙ sym (ends q past)
    ]

-- so it is each map that answers alike
pub same_as : (values : ℕ → Option ℕ) (limit : ℕ) (m : Map) → EndsBy values limit → ((q : ℕ) → values q ≡ map.get m q)
    → map_below values limit ≡ m
same_as values limit m ends same =
    map.same_map nat_cmp_total map.nat_cmp-IsAntisymmetric (map_below values limit) m
    (λ q. get-map_below values limit ends q ∙ same q)

pub map_below-none : (values : ℕ → Option ℕ) (limit : ℕ) → ((q : ℕ) → values q ≡ None) → map_below values limit ≡ map.empty
map_below-none values limit none =
    same_as values limit map.empty (λ q past. none q) (λ q. none q ∙ sym (map.get-empty nat_cmp q))

pub map_below-ext : (values others : ℕ → Option ℕ) (limit : ℕ) → EndsBy values limit → ((q : ℕ) → others q ≡ values q)
    → map_below others limit ≡ map_below values limit
map_below-ext values others limit ends same =
    same_as others limit (map_below values limit) (λ q past. same q ∙ ends q past)
    (λ q. same q ∙ sym (get-map_below values limit ends q))

-- what a map that is so made answers
module _ (values : ℕ → Option ℕ) (limit : ℕ) (m : Map) (is : map_below values limit ≡ m) (ends : EndsBy values limit) where
  pub get-seen : (q : ℕ) → map.get m q ≡ values q
  get-seen q = ap (λ (n : Map). map.get n q) (sym is) ∙ get-map_below values limit ends q

  -- where it ends
  pub end_seen : (end : ℕ) → IsPagesEnd values end → IsPagesEnd (map.get m) end
  end_seen end at =
      (λ i above. get-seen i ∙ at.0 i above, λ other past. at.1 other (λ i above. sym (get-seen i) ∙ past i above))

  ends_with : (after : ℕ → Option ℕ) (key : ℕ) (value : Option ℕ) → key < limit → ((q : ℕ) → after q ≡ put values key value q)
      → EndsBy after limit
  unfolding put
  ends_with after key value below same q past = let no = ends q past in let e = same q in grind (arith, nat_tests)

  -- one value more
  pub map_below-insert : (after : ℕ → Option ℕ) (key value : ℕ) → key < limit → ((q : ℕ) → after q ≡ put values key (Some value) q)
      → map_below after limit ≡ map.insert m key value
  unfolding put
  map_below-insert after key value below same =
      same_as after limit (map.insert m key value) (ends_with after key (Some value) below same) (λ q.
      let e = same q in let old = get-seen q in let new = map.get-insert nat_cmp_total m key value q in
      grind (arith, nat_tests))

  -- one value less
  pub map_below-remove : (after : ℕ → Option ℕ) (key : ℕ) → key < limit
      → ((q : ℕ) → after q ≡ put values key None q)
      → map_below after limit ≡ map.remove m key
  unfolding put
  map_below-remove after key below same =
      same_as after limit (map.remove m key) (ends_with after key None below same) (λ q.
      let e = same q in let old = get-seen q in let new = map.get-remove nat_cmp_total m key q in
      grind (arith, nat_tests))
