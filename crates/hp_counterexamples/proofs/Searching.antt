-- What a step looks for, each found together with the proof that it is that.
use Rattle.std.proofs.Common.{◌≡◌, ℕ, zero, suc, ◌<◌, ◌≤◌, refl, ap, sym, ◌∙◌, arith, inl, inr}
use Rattle.std.specs.Prelude.{Bool, true, false, nat_le, nat_lt, Option, Some, None, List}
use Rattle.std.proofs.lemmas.Bool.Decides.{nat_tests, eqb_tells}
use Rattle.hp_base.specs.Numbers.{put, put2}
use Rattle.hp_base.specs.Mappings.{fits, IsRoom}
use Rattle.hp_base.specs.Pages.{IsPagesEnd}
use Rattle.hp_base.specs.declared.mapping.Mapping.{Mapping}
use Rattle.hp_frames.specs.declared.frame.FrameState.{FrameState}
use Rattle.hp_frames.specs.declared.frame.FrameState.TheVariants as state
use Rattle.hp_frames.specs.Bank.{is_free}

-- no page lies at the limit or above: so the end of the pages can be found
abbrev pub Clear : (limit : ℕ) → (ℕ → ℕ → Option ℕ) → Type 0
Clear limit pages = (f i : ℕ) → limit ≤ i → pages f i ≡ None

-- by cases, with what each knows
abbrev pub pick : {A : Type 0} (b : Bool) → (b ≡ true → A) → (b ≡ false → A) → A
pick true a b = a refl
pick false a b = b refl

abbrev pub pick_option : {X A : Type 0} (o : Option X) → (o ≡ None → A) → ((x : X) → o ≡ Some x → A) → A
pick_option None a b = a refl
pick_option (Some x) a b = b x refl

-- where something is found, what is made of it
abbrev pub bind : {X A : Type 0} → Option X → (X → Option A) → Option A
bind None f = None
bind (Some x) f = f x

-- numbers that are in order, where a test tells it
pub le_of : (a b : ℕ) → nat_le a b ≡ true → a ≤ b
le_of a b e = grind (arith, nat_tests)

abbrev pub at_most : (a b : ℕ) → Option (a ≤ b)
at_most a b = pick (nat_le a b) (λ e. Some (le_of a b e)) (λ _. None)

-- a frame that is free, and the first that is found, from the top
pub free_is : (frame : FrameState) → is_free frame ≡ true → frame ≡ state.Free
free_is state.Free e = refl
free_is state.Hand e = (let d : false ≡ true = e in absurd (cc))
free_is (state.Placed w) e = (let d : false ≡ true = e in absurd (cc))
free_is state.Retired e = (let d : false ≡ true = e in absurd (cc))

abbrev pub first_free : (frame : ℕ → FrameState) (n : ℕ) → Option ((x : ℕ) × (frame x ≡ state.Free))
first_free frame zero = None
first_free frame (suc n) = pick (is_free (frame n)) (λ e. Some (n, free_is (frame n) e)) (λ _. first_free frame n)

-- the word of a page, and what an option has
abbrev pub word_at : (frame : FrameState) → Option ((w : ℕ) × (frame ≡ state.Placed w))
word_at state.Free = None
word_at state.Hand = None
word_at (state.Placed w) = Some (w, refl)
word_at state.Retired = None

abbrev pub what_is : {X : Type 0} (o : Option X) → Option ((x : X) × (o ≡ Some x))
what_is None = None
what_is (Some x) = Some (x, refl)

-- the least base that fits: the test fails below, one by one
pub one_more : (p : ℕ → Bool) (n : ℕ) → ((k : ℕ) → k < n → p k ≡ false) → p n ≡ false → (k : ℕ) → k < suc n → p k ≡ false
one_more p n h e k l = elim (eqb_tells k n) [ inl d ↦ ap p d.1 ∙ e | inr d ↦ h k (let z = d.1 in omega arith) ]

abbrev pub seek : (space : ℕ) (ms : List Mapping) (len fuel base : ℕ)
    → ((other : ℕ) → other < base → fits space ms other len ≡ false)
    → Option ((base : ℕ) × IsRoom space ms len (Some base))
seek space ms len zero base low = None
seek space ms len (suc fuel) base low =
    pick (fits space ms base len) (λ e. Some (base, (e, low)))
    (λ e. seek space ms len fuel (suc base) (one_more (λ k. fits space ms k len) base low e))

pub none_below : (n : ℕ) → n < 0 → ⊥
none_below n l = omega arith

-- the end of the pages: the first number from which on there is none, from the limit down
pub reaches : (pages : ℕ → Option ℕ) (n x other : ℕ) → pages n ≡ Some x → ((i : ℕ) → other ≤ i → pages i ≡ None)
    → suc n ≤ other
reaches pages n x other e h = here (nat_le other n) refl
  where
    here : (b : Bool) → nat_le other n ≡ b → suc n ≤ other
    here true d =
        (let z : other ≤ n = grind (arith, nat_tests) in let y : ◌≡◌ {A = Option ℕ} None (Some x) = sym (h n z) ∙ e
        in absurd (cc))
    here false d = grind (arith, nat_tests)

pub one_lower : (pages : ℕ → Option ℕ) (n : ℕ) → ((i : ℕ) → suc n ≤ i → pages i ≡ None) → pages n ≡ None → (i : ℕ) → n ≤ i
    → pages i ≡ None
one_lower pages n h e i l = elim (eqb_tells i n) [ inl d ↦ ap pages d.1 ∙ e | inr d ↦ h i (let z = d.1 in omega arith) ]

pub none_less : (pages : ℕ → Option ℕ) (other : ℕ) → ((i : ℕ) → other ≤ i → pages i ≡ None) → 0 ≤ other
none_less pages other h = omega arith

abbrev pub end_of : (pages : ℕ → Option ℕ) (n : ℕ) → ((i : ℕ) → n ≤ i → pages i ≡ None) → (end : ℕ) × IsPagesEnd pages end
end_of pages zero h = (0, (h, none_less pages))
end_of pages (suc n) h =
    pick_option (pages n) (λ e. end_of pages n (one_lower pages n h e))
    (λ x e. (suc n, (h, λ other k. reaches pages n x other e k)))

-- pages stay below the limit where one is placed there, or one is taken away
pub clear_placed : (limit : ℕ) (pages : ℕ → ℕ → Option ℕ) (f i x : ℕ) → Clear limit pages → nat_lt i limit ≡ true
    → Clear limit (put2 pages f i (Some x))
unfolding put
clear_placed limit pages f i x h e g j l = elim (eqb_tells g f) [
  | inl d ↦ elim (eqb_tells j i) [
    | inl c ↦ (let z = c.1 in let y : suc i ≤ limit = grind (arith, nat_tests) in absurd (omega arith))
    | inr c ↦ rw d.0 (rw c.0 (h f j l))
  ]
  | inr d ↦ rw d.0 (h g j l)
]

pub clear_evicted : (limit : ℕ) (pages : ℕ → ℕ → Option ℕ) (f i : ℕ) → Clear limit pages → Clear limit (put2 pages f i None)
unfolding put
clear_evicted limit pages f i h g j l = elim (eqb_tells g f) [
  | inl d ↦ elim (eqb_tells j i) [
    | inl c ↦ rw d.0 (rw c.0 refl)
    | inr c ↦ rw d.0 (rw c.0 (h f j l))
  ]
  | inr d ↦ rw d.0 (h g j l)
]
