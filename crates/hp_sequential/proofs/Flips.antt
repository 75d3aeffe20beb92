-- Two families that are each other renamed, and in which as many numbers flip from one value to another: they are each
-- other renamed afterwards too.
use Rattle.std.proofs.Common.{◌≡◌, ◌≢◌, ◌⊎◌, ℕ, zero, suc, ◌<◌, refl, ap, sym, ◌∙◌, arith, inl, inr}
use Rattle.std.proofs.Math.Path.{fun_ext}
use Rattle.std.specs.Prelude.{Bool, true, false, not, ◌&&◌}
use Rattle.hp_base.specs.Numbers.{put, bit}
use Rattle.hp_base.specs.Indices.{count_below}
use Rattle.hp_base.proofs.Puts.{put_same, put_other, same_or_other}
use Rattle.hp_base.proofs.Totals.{count_below_somewhere, count_below-change}
use Rattle.hp_sequential.specs.Renaming.{Renaming}
use Rattle.hp_base.proofs.Counting.{count_below-within}
use Rattle.hp_base.proofs.Totals.{count_below_has}
use Rattle.hp_sequential.proofs.Names.{count_renamed, back_below, turned, turned_other, turned_put}

-- some of the first n numbers flip from a to b, and nothing else changes
abbrev pub Flips : {A : Type 0} → (n : ℕ) → (a b : A) → (f f' : ℕ → A) → Type 0
Flips n a b f f' = (x : ℕ) → (f' x ≡ f x) ⊎ ((x < n) × (f x ≡ a) × (f' x ≡ b))

-- the test held of the number, and holds of it no more
abbrev pub ends : {A : Type 0} → (A → Bool) → (f f' : ℕ → A) → ℕ → Bool
ends holds f f' x = holds (f x) && not (holds (f' x))

-- the families after flips are each other renamed, under names by which all that doesn't flip is called as before
pub record FlipsAlike (A : Type 0) (n : ℕ) (a : A) (r : Renaming n) (f f' g' : ℕ → A) : Type 0 where
  pub names : Renaming n
  pub keeps : (x : ℕ) → f x ≢ a → names.to x ≡ r.to x
  pub same : g' ≡ (λ y. f' (names.back y))

-- true and false are apart
clash : {b : Bool} → b ≡ true → b ≡ false → ⊥
clash e d = (let z : true ≡ false = sym e ∙ d in cc)

-- what is the same doesn't end
none_ends : (b c : Bool) → c ≡ b → (b && not c) ≡ true → ⊥
none_ends true c same e = (let d : (true && not c) ≡ false = ap not same in clash e d)
none_ends false c same e = (cc)

-- what flips ends
flip_ends : {A : Type 0} (holds : A → Bool) (a b : A) (f f' : ℕ → A) (x : ℕ) → holds a ≡ true → holds b ≡ false
    → f x ≡ a → f' x ≡ b → ends holds f f' x ≡ true
flip_ends holds a b f f' x on off was is =
    ap (λ (v : Bool). v && not (holds (f' x))) (ap holds was ∙ on) ∙ ap not (ap holds is ∙ off)

-- and what ends flipped
end_flips : {A : Type 0} (holds : A → Bool) (n : ℕ) (a b : A) (f f' : ℕ → A) (x : ℕ) → Flips n a b f f' → ends holds f f' x ≡ true
    → (f x ≡ a) × (f' x ≡ b)
end_flips holds n a b f f' x flips e = elim (flips x) [
  | inl same ↦ absurd (none_ends (holds (f x)) (holds (f' x)) (ap holds same) e)
  | inr flip ↦ (flip.1, flip.2)
]

-- what holds afterwards held before
held_before : {A : Type 0} (holds : A → Bool) (n : ℕ) (a b : A) (f f' : ℕ → A) (x : ℕ) → holds b ≡ false → Flips n a b f f'
    → holds (f' x) ≡ true → holds (f x) ≡ true
held_before holds n a b f f' x off flips e = elim (flips x) [
  | inl same ↦ sym (ap holds same) ∙ e
  | inr flip ↦ absurd (clash e (ap holds flip.2 ∙ off))
]

-- where nothing ends, nothing flips
no_flips : {A : Type 0} (holds : A → Bool) (n : ℕ) (a b : A) (f f' : ℕ → A) → holds a ≡ true → holds b ≡ false → Flips n a b f f'
    → count_below (ends holds f f') n ≡ 0 → f' ≡ f
no_flips holds n a b f f' on off flips none = fun_ext (λ x. elim (flips x) [
  | inl same ↦ same
  | inr flip ↦
      let some = count_below_has (ends holds f f') x n flip.0 (flip_ends holds a b f f' x on off flip.1 flip.2) in
      absurd (omega arith)
])

-- the flips that are left, after that of one number
rest_flips : {A : Type 0} (n : ℕ) (a b : A) (f f' : ℕ → A) (x : ℕ) → Flips n a b f f' → f' x ≡ b → Flips n a b (put f x b) f'
rest_flips n a b f f' x flips is z = elim (same_or_other z x) [
  | inl e ↦ inl (ap f' e ∙ (is ∙ sym (ap (put f x b) e ∙ put_same f x b)))
  | inr h ↦ elim (flips z) [
    | inl same ↦ inl (same ∙ sym (put_other f x b z h))
    | inr flip ↦ inr (flip.0, put_other f x b z h ∙ flip.1, flip.2)
  ]
]

-- what isn't to flip then isn't to flip now
other_keeps : {A : Type 0} (a b : A) (f : ℕ → A) (x z : ℕ) → f x ≡ a → f z ≢ a → put f x b z ≢ a
other_keeps a b f x z was h e = h (sym (put_other f x b z (λ d. h (ap f d ∙ was))) ∙ e)

-- they are one fewer
one_fewer : {A : Type 0} (holds : A → Bool) (n : ℕ) (b : A) (f f' : ℕ → A) (x k : ℕ) → holds b ≡ false → x < n
    → ends holds f f' x ≡ true → count_below (ends holds f f') n ≡ suc k → count_below (ends holds (put f x b) f') n ≡ k
one_fewer holds n b f f' x k off l e all =
    let change = count_below-change (ends holds f f') (ends holds (put f x b) f') x n l
    (λ j h. ap (λ v. holds v && not (holds (f' j))) (put_other f x b j h)) in
    let was : bit (ends holds f f' x) ≡ 1 = ap bit e in
    let is : bit (ends holds (put f x b) f' x) ≡ 0 =
    ap (λ (v : Bool). bit (v && not (holds (f' x)))) (ap holds (put_same f x b) ∙ off) in
    omega arith

-- one number of each family flips: the first family's is called then as the second's is called
flip_once : {A : Type 0} {n : ℕ} (r : Renaming n) (a b : A) (f g : ℕ → A) (x y : ℕ) → x < n → y < n → f x ≡ a → g y ≡ a
    → g ≡ (λ z. f (r.back z)) → FlipsAlike A n a r f (put f x b) (put g y b)
flip_once {A} r a b f g x y l k was was' alike =
    let m = back_below r y k in
    let is : f (r.back y) ≡ a = sym (ap (λ (h : ℕ → A). h y) alike) ∙ was' in
    record {
      names = turned r x (r.back y) l m;
      keeps = λ z h. turned_other r x (r.back y) l m z (λ e. h (ap f e ∙ was)) (λ e. h (ap f e ∙ is));
      same = ap (λ (h : ℕ → A). put h y b) alike
          ∙ (ap (λ (w : ℕ). put (λ z. f (r.back z)) w b) (sym (r.here y)) ∙ turned_put r x (r.back y) l m f b (was ∙ sym is));
    }

-- some flip, and then others
and_then : {A : Type 0} {n : ℕ} {a : A} {r : Renaming n} {f mid f' mid' g' : ℕ → A} (once : FlipsAlike A n a r f mid mid')
    → ((z : ℕ) → f z ≢ a → mid z ≢ a) → FlipsAlike A n a once.names mid f' g' → FlipsAlike A n a r f f' g'
and_then once others rest = record {
  names = rest.names;
  keeps = λ z h. rest.keeps z (others z h) ∙ once.keeps z h;
  same = rest.same;
}

-- in both families k numbers flip: one of each, and then the others
flips_by : {A : Type 0} (k : ℕ) (holds : A → Bool) (n : ℕ) (a b : A) (r : Renaming n) (f f' g g' : ℕ → A)
    → holds a ≡ true → holds b ≡ false → g ≡ (λ y. f (r.back y)) → Flips n a b f f' → Flips n a b g g'
    → count_below (ends holds f f') n ≡ k → count_below (ends holds g g') n ≡ k → FlipsAlike A n a r f f' g'
flips_by zero holds n a b r f f' g g' on off alike flips flips' all all' = record {
  names = r;
  keeps = λ x h. refl;
  same = no_flips holds n a b g g' on off flips' all'
      ∙ (alike ∙ ap (λ h y. h (r.back y)) (sym (no_flips holds n a b f f' on off flips all)));
}
flips_by (suc k) holds n a b r f f' g g' on off alike flips flips' all all' =
    let at = count_below_somewhere (ends holds f f') n (omega arith) in
    let at' = count_below_somewhere (ends holds g g') n (omega arith) in
    let flip = end_flips holds n a b f f' at.0 flips at.2 in
    let flip' = end_flips holds n a b g g' at'.0 flips' at'.2 in
    let once = flip_once r a b f g at.0 at'.0 at.1 at'.1 flip.0 flip'.0 alike in
    and_then once (λ z h. other_keeps a b f at.0 z flip.0 h)
    (flips_by k holds n a b once.names (put f at.0 b) f' (put g at'.0 b) g' on off once.same
    (rest_flips n a b f f' at.0 flips flip.1)
    (rest_flips n a b g g' at'.0 flips' flip'.1)
    (one_fewer holds n b f f' at.0 k off at.1 at.2 all)
    (one_fewer holds n b g g' at'.0 k off at'.1 at'.2 all'))

-- where the test holds of as many afterwards, as many flipped
pub flips_alike : {A : Type 0} {n : ℕ} (r : Renaming n) (holds : A → Bool) (a b : A) (f f' g g' : ℕ → A)
    → holds a ≡ true → holds b ≡ false → g ≡ (λ y. f (r.back y)) → Flips n a b f f' → Flips n a b g g'
    → count_below (λ x. holds (g' x)) n ≡ count_below (λ x. holds (f' x)) n → FlipsAlike A n a r f f' g'
flips_alike {A} {n} r holds a b f f' g g' on off alike flips flips' left =
    let before : count_below (λ x. holds (g x)) n ≡ count_below (λ x. holds (f x)) n =
    ap (λ (h : ℕ → A). count_below (λ x. holds (h x)) n) alike ∙ count_renamed r (λ x. holds (f x)) in
    let parts = count_below-within (λ x. holds (f x)) (λ x. holds (f' x)) n (λ x l. held_before holds n a b f f' x off flips) in
    let parts' = count_below-within (λ x. holds (g x)) (λ x. holds (g' x)) n (λ x l. held_before holds n a b g g' x off flips') in
    flips_by (count_below (ends holds f f') n) holds n a b r f f' g g' on off alike flips flips' refl (omega arith)
