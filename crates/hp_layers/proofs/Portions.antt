-- Parts of a layer.
use Rattle.std.proofs.Common.{◌≡◌, ◌∙◌, ℕ, zero, suc, ◌+◌, ◌-◌, ◌<◌, ◌≤◌, List, [], ◌∷◌, ◌++◌, length, get_or, refl, ap}
use Rattle.std.proofs.Common.{subst, take, arith}
use Rattle.std.specs.Prelude.{Contains}
use Rattle.std.proofs.lemmas.List.{take_more}
use Rattle.std.proofs.lemmas.List.Elements.{Contains-get_or}
use Rattle.hp_layers.specs.Layers.{AreValid}
use Rattle.hp_layers.proofs.Covering.{are_valid}

-- what stands there, whatever is read where nothing does
pub item_at : {X : Type 0} (xs : List X) (k : ℕ) → k < length xs → (x : X) × ((d : X) → get_or xs k d ≡ x)
item_at [] k lt = absurd (omega (arith, lt))
item_at (x ∷ xs) zero lt = (x, λ d. refl)
item_at (x ∷ xs) (suc k) lt = item_at xs k (omega (arith, lt))

-- what holds of what stands at the place holds of the state there
pub at_place : {S : Type 0} (P : S → Type 0) (layer : List S) (place : ℕ) (there : place < length layer)
    → ((d : S) → P (get_or layer place d)) → P (item_at layer place there).0
at_place P layer place there h = (let s = item_at layer place there in subst P (s.1 s.0) (h s.0))

-- and that state is one of the layer
pub item_there : {S : Type 0} (layer : List S) (place : ℕ) (there : place < length layer) → Contains layer (item_at layer place there).0
item_there layer place there =
    let s = item_at layer place there in
    subst (Contains layer) (s.1 s.0) (Contains-get_or layer place s.0 there)

-- one state more
pub take_item : {S : Type 0} (layer : List S) (place : ℕ) (there : place < length layer)
    → take (place + 1) layer ≡ take place layer ++ (item_at layer place there).0 ∷ []
take_item {S} layer place there =
    let s = item_at layer place there in
    take_more layer place s.0 there ∙ ap (λ (x : S). take place layer ++ x ∷ []) (s.1 s.0)

-- one state more of a part
pub take_in_part : {S : Type 0} (layer : List S) (begin place : ℕ) (there : begin + place < length layer)
    → take (begin + (place + 1)) layer ≡ take (begin + place) layer ++ (item_at layer (begin + place) there).0 ∷ []
take_in_part layer begin place there =
    let next : begin + (place + 1) ≡ begin + place + 1 = omega arith in
    ap (λ (k : ℕ). take k layer) next ∙ take_item layer (begin + place) there

-- each place of a part is one of the layer
pub in_layer : (begin end place all : ℕ) → begin ≤ end → end ≤ all → place < end - begin → begin + place < all
in_layer begin end place all order within lt = omega (arith, order, within, lt)

-- behind its last place it ends
pub at_end : (begin end place : ℕ) → begin ≤ end → place ≤ end - begin → end - begin ≤ place → begin + place ≡ end
at_end begin end place order most least = omega (arith, order, most, least)

-- the states of a part are valid
pub part_valid : {S : Type 0} (valid : S → Type 0) (layer : List S) → AreValid valid layer → (begin end : ℕ) → begin ≤ end
    → end ≤ length layer → (place : ℕ) → place < end - begin
    → (begin + place < length layer) × ((d : S) → valid (get_or layer (begin + place) d))
part_valid valid layer all begin end order within place lt =
    let there = in_layer begin end place (length layer) order within lt in
    (there, λ d. are_valid valid layer all (get_or layer (begin + place) d) (Contains-get_or layer (begin + place) d there))
