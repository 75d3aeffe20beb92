-- Frames under other names: how many are in a set, and what a change at one place looks like.
use Rattle.std.proofs.Common.{◌≡◌, ◌≢◌, ℕ, ◌+◌, ◌<◌, ◌≤◌, refl, ap, sym, ◌∙◌, arith, inl, inr}
use Rattle.std.proofs.Math.Path.{fun_ext}
use Rattle.std.proofs.lemmas.Bool.Decides.{nat_tests}
use Rattle.std.specs.Prelude.{Bool, ◌==◌, Option, Some, None, is_some, if◌then◌else◌}
use Rattle.std.specs.Option.{option_map}
use Rattle.hp_base.specs.Numbers.{put, put2, total, bit}
use Rattle.hp_base.specs.Indices.{count_below}
use Rattle.hp_base.proofs.Puts.{put_same, put_other, same_or_other}
use Rattle.hp_base.proofs.Totals.{total_same, total_change, total_none, exchange, count_below-total}
use Rattle.hp_sequential.specs.Renaming.{Renaming}
use Rattle.std.proofs.lemmas.Bool.{cases_lt}

-- a sum with one term
one_term : (n k v : ℕ) → k < n → total n (put (λ _. 0) k v) ≡ v
one_term n k v l =
    let a : total n (put (λ _. 0) k v) + 0 ≡ total n (λ _. 0) + put (λ _. 0) k v k =
    total_change n k (λ _. 0) (put (λ _. 0) k v) l (λ j h. put_other (λ _. 0) k v j h) in
    let b = total_none n in
    let c : put (λ _. 0) k v k ≡ v = put_same (λ _. 0) k v in
    omega arith

-- names of frames are names of more of them
unfoldable pub wider : {frames more : ℕ} → frames ≤ more → Renaming frames → Renaming more
wider l r = record { to = r.to; back = r.back; there = r.there; here = r.here; fixed = λ x m. r.fixed x (omega arith) }

-- what is as much is no less
pub as_many : {m n : ℕ} → n ≡ m → m ≤ n
as_many e = omega arith

-- each frame keeps its name
unfoldable pub own_names : (frames : ℕ) → Renaming frames
own_names frames = record { to = λ x. x; back = λ x. x; there = λ x. refl; here = λ x. refl; fixed = λ x l. refl }

-- what keeps its name has it back
pub fixed_back : {frames : ℕ} (r : Renaming frames) (x : ℕ) → frames ≤ x → r.back x ≡ x
fixed_back r x l = sym (ap r.back (r.fixed x l)) ∙ r.there x

-- a frame's name is one of a frame
pub to_below : {frames : ℕ} (r : Renaming frames) (x : ℕ) → x < frames → r.to x < frames
to_below {frames} r x l = elim (cases_lt (r.to x) frames) [
  | inl below ↦ below
  | inr past ↦ let same : r.to x ≡ x = sym (fixed_back r (r.to x) past) ∙ r.there x in absurd (omega arith)
]

-- and a name of a frame is that of one
pub back_below : {frames : ℕ} (r : Renaming frames) (y : ℕ) → y < frames → r.back y < frames
back_below {frames} r y l = elim (cases_lt (r.back y) frames) [
  | inl below ↦ below
  | inr past ↦ let same : y ≡ r.back y = sym (r.here y) ∙ r.fixed (r.back y) past in absurd (omega arith)
]

-- as many of the frames are in a set as under other names: each sum is that of all pairs of a frame and its name
pub count_renamed : {frames : ℕ} (r : Renaming frames) (p : ℕ → Bool) → count_below (λ y. p (r.back y)) frames ≡ count_below p frames
count_renamed {frames} r p =
    count_below-total (λ y. p (r.back y)) frames
    ∙ (sym (total_same frames (λ y. bit (p (r.back y))) (λ y. total frames (λ x. pair x y))
    (λ y l. total_same frames (put (λ _. 0) (r.back y) (bit (p (r.back y)))) (λ x. pair x y) (λ x _. from_name x y)
    ∙ one_term frames (r.back y) _ (back_below r y l)))
    ∙ (sym (exchange frames frames pair)
    ∙ (total_same frames (λ x. bit (p x)) (λ x. total frames (pair x)) (λ x l. one_term frames (r.to x) _ (to_below r x l))
    ∙ sym (count_below-total p frames))))
  where
    pair : ℕ → ℕ → ℕ
    pair x = put (λ _. 0) (r.to x) (bit (p x))

    from_name : (x y : ℕ) → put (λ _. 0) (r.to x) (bit (p x)) y ≡ put (λ _. 0) (r.back y) (bit (p (r.back y))) x
    from_name x y = elim (same_or_other x (r.back y)) [
      | inl e ↦ (let d : y ≡ r.to x = sym (r.here y) ∙ ap r.to (sym e) in
          ap (put (λ _. 0) (r.to x) (bit (p x))) d
          ∙ (put_same (λ _. 0) (r.to x) (bit (p x))
          ∙ (ap (λ (w : ℕ). bit (p w)) e
          ∙ sym (ap (put (λ _. 0) (r.back y) (bit (p (r.back y)))) e ∙ put_same (λ _. 0) (r.back y) (bit (p (r.back y)))))))
      | inr e ↦ put_other (λ _. 0) (r.to x) (bit (p x)) y (λ d. e (sym (r.there x) ∙ ap r.back (sym d)))
          ∙ sym (put_other (λ _. 0) (r.back y) (bit (p (r.back y))) x e)
    ]

-- a change at one place, of what is seen through h
pub put_map : {A B : Type 0} (h : A → B) (f : ℕ → A) (k : ℕ) (v : A) → ◌≡◌ {A = ℕ → B} (put (λ j. h (f j)) k (h v)) (λ j. h (put f k v j))
put_map h f k v = fun_ext (λ j. elim (same_or_other j k) [
  | inl e ↦ ap (put (λ j. h (f j)) k (h v)) e ∙ (put_same (λ j. h (f j)) k (h v) ∙ sym (ap h (ap (put f k v) e ∙ put_same f k v)))
  | inr e ↦ put_other (λ j. h (f j)) k (h v) j e ∙ sym (ap h (put_other f k v j e))
])

-- and at one place of a table
pub put2_map : {A B : Type 0} (h : A → B) (p : ℕ → ℕ → A) (f i : ℕ) (v : A)
    → ◌≡◌ {A = ℕ → ℕ → B} (put2 (λ k j. h (p k j)) f i (h v)) (λ k j. h (put2 p f i v k j))
put2_map {A} {B} h p f i v =
    ap (put (λ k j. h (p k j)) f) (put_map h (p f) i v) ∙ put_map {A = ℕ → A} {B = ℕ → B} (λ row j. h (row j)) p f (put (p f) i v)

-- a change at one frame, under its other name
pub put_renamed : {A : Type 0} {frames : ℕ} (r : Renaming frames) (f : ℕ → A) (x : ℕ) (v : A)
    → ◌≡◌ {A = ℕ → A} (put (λ y. f (r.back y)) (r.to x) v) (λ y. put f x v (r.back y))
put_renamed r f x v = fun_ext (λ y. elim (same_or_other (r.back y) x) [
  | inl e ↦ (let d : y ≡ r.to x = sym (r.here y) ∙ ap r.to e in
      ap (put (λ y. f (r.back y)) (r.to x) v) d ∙ (put_same (λ y. f (r.back y)) (r.to x) v ∙ sym (ap (put f x v) e ∙ put_same f x v)))
  | inr e ↦ put_other (λ y. f (r.back y)) (r.to x) v y (λ d. e (ap r.back d ∙ r.there x)) ∙ sym (put_other f x v (r.back y) e)
])

-- two names for what is named
pub map_agrees : {A : Type 0} (p q : A → A) (o : Option A) → ((x : A) → o ≡ Some x → q x ≡ p x) → option_map q o ≡ option_map p o
map_agrees p q None h = refl
map_agrees p q (Some x) h = ap (λ y. Some y) (h x refl)

-- an option that is renamed is there where it was
pub some_renamed : (to : ℕ → ℕ) (o : Option ℕ) → is_some (option_map to o) ≡ is_some o
some_renamed to None = refl
some_renamed to (Some x) = refl

-- the frames x and y change their names
swap : ℕ → ℕ → ℕ → ℕ
swap x y z = if z == x then y else if z == y then x else z

-- to swap twice changes nothing
swap_swap : (x y z : ℕ) → swap x y (swap x y z) ≡ z
unfolding swap
swap_swap x y z = grind (arith, nat_tests)

-- the first gets the second's name
swap_first : (x y : ℕ) → swap x y x ≡ y
unfolding swap
swap_first x y = grind (arith, nat_tests)

-- and the second the first's
swap_second : (x y : ℕ) → swap x y y ≡ x
unfolding swap
swap_second x y = grind (arith, nat_tests)

-- each other frame keeps its name
swap_other : (x y z : ℕ) → z ≢ x → z ≢ y → swap x y z ≡ z
unfolding swap
swap_other x y z h k = grind (arith, nat_tests)

-- the renaming that calls x what y was called, and y what x was
pub turned : {frames : ℕ} (r : Renaming frames) (x y : ℕ) → x < frames → y < frames → Renaming frames
turned {frames} r x y l m = record {
  to = λ z. r.to (swap x y z);
  back = λ z. swap x y (r.back z);
  there = λ z. ap (swap x y) (r.there (swap x y z)) ∙ swap_swap x y z;
  here = λ z. ap r.to (swap_swap x y (r.back z)) ∙ r.here z;
  fixed = λ z k. ap r.to (swap_other x y z (λ e. omega arith) (λ e. omega arith)) ∙ r.fixed z k;
}

-- the turned renaming calls the first what the second was called
pub turned_first : {frames : ℕ} (r : Renaming frames) (x y : ℕ) (l : x < frames) (m : y < frames) → (turned r x y l m).to x ≡ r.to y
unfolding turned
turned_first r x y l m = ap r.to (swap_first x y)

-- and all but the two what they were called
pub turned_other : {frames : ℕ} (r : Renaming frames) (x y : ℕ) (l : x < frames) (m : y < frames) (z : ℕ) → z ≢ x → z ≢ y
    → (turned r x y l m).to z ≡ r.to z
unfolding turned
turned_other r x y l m z h k = ap r.to (swap_other x y z h k)

-- what is the same at x and y is the same under their changed names
pub turned_back : {A : Type 0} {frames : ℕ} (r : Renaming frames) (x y : ℕ) (l : x < frames) (m : y < frames) (f : ℕ → A)
    → f x ≡ f y → (z : ℕ) → f ((turned r x y l m).back z) ≡ f (r.back z)
unfolding turned
turned_back r x y l m f e z = here (r.back z)
  where
    here : (w : ℕ) → f (swap x y w) ≡ f w
    here w = elim (same_or_other w x) [
      | inl d ↦ ap f (ap (swap x y) d ∙ swap_first x y) ∙ (sym e ∙ ap f (sym d))
      | inr h ↦ elim (same_or_other w y) [
        | inl d ↦ ap f (ap (swap x y) d ∙ swap_second x y) ∙ (e ∙ ap f (sym d))
        | inr k ↦ ap f (swap_other x y w h k)
      ]
    ]

-- so a change at the first is one at the second, under that renaming
pub turned_put : {A : Type 0} {frames : ℕ} (r : Renaming frames) (x y : ℕ) (l : x < frames) (m : y < frames) (f : ℕ → A) (v : A)
    → f x ≡ f y → ◌≡◌ {A = ℕ → A} (put (λ z. f (r.back z)) (r.to y) v) (λ z. put f x v ((turned r x y l m).back z))
turned_put {A} r x y l m f v e =
    let names = turned r x y l m in
    ap (λ (old : ℕ → A). put old (r.to y) v) (sym (fun_ext (turned_back r x y l m f e)))
    ∙ (ap (λ (w : ℕ). put (λ z. f (names.back z)) w v) (sym (turned_first r x y l m)) ∙ put_renamed names f x v)
