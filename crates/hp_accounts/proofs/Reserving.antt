-- Careful code places no page whose index isn't in the map.
use Rattle.std.proofs.Common.{◌≡◌, ℕ, ◌+◌, ◌<◌, refl, ap, sym, ◌∙◌, arith, inl, inr, ◌⊎◌}
use Rattle.std.specs.Prelude.{Bool, true, false, cond, ◌&&◌, Option, Some, None, List, [], ◌∷◌, is_some}
use Rattle.hp_base.specs.Indices.{count_below, vacant}
use Rattle.hp_base.specs.Numbers.{put, is_none}
use Rattle.hp_base.proofs.Counting.{count_below-sum}
use Rattle.hp_base.proofs.Puts.{put_tells, put2_tells}
use Rattle.hp_base.proofs.Totals.{total_add}
use Rattle.hp_laws.proofs.Effects.{grown_keeps}
use Rattle.hp_machine.specs.State.{Geometry, slot_of}
use Rattle.hp_accounts.specs.Books.{Books, Mark, Away, At, Bare, Entered, Clearing, place_of, opens, paged_in, reserved_in}
use Rattle.hp_accounts.specs.Entries.{Entry, TakesSlot, LeavesSlot, Looks, Finds, Turns, ClearsIndex, Evicts, Places, Translates}
use Rattle.hp_accounts.specs.Entries.{Takes, HandsOver, Frees, Writes, ClearsSome, EntersArea, LeavesArea, Resizes}
use Rattle.hp_accounts.specs.Entries.{Accounts, Settles, Spends, GivesBack, Ignores, Commits, Deletes}
use Rattle.hp_accounts.specs.Entries.{CutsTail, May, after, AllMay, ends, ignored_in}
use Rattle.hp_accounts.specs.Laws.{IsAtRest, IsCareful, AllCareful, PagesAreReserved, vacant_in}
use Rattle.hp_accounts.proofs.Balancing.{always_normal, lost_at_rest}
use Rattle.hp_accounts.proofs.Keeping.{Kept, keeps, holds_at, is_bare, one_holder, opens_kept}

-- what careful code keeps: pages are reserved, and who knows an index in the map is right
pub record Careful (b : Books) : Type 0 where
  pub pages : PagesAreReserved b
  pub entered : (h f i : ℕ) → b.marks h ≡ Entered f i → b.reserved f i ≡ true

-- one mark changes, to one that says nothing of the map
unentered : (b : Books) (h : ℕ) (m : Mark) → ((f i : ℕ) → m ≡ Entered f i → ⊥)
    → ((j f i : ℕ) → b.marks j ≡ Entered f i → b.reserved f i ≡ true)
    → (j f i : ℕ) → put b.marks h m j ≡ Entered f i → b.reserved f i ≡ true
unentered b h m isnt k j f i e = elim (put_tells b.marks h m j) [
  | inl q ↦ absurd (isnt f i (sym q.1 ∙ e))
  | inr q ↦ k j f i (sym q.1 ∙ e)
]

-- each careful entry keeps it
pub stays_careful : (b : Books) (e : Entry) → Kept b → May b e → IsCareful b e → Careful b → Careful (after b e)
stays_careful b (TakesSlot h f i) k m c s = record { pages = s.pages; entered = unentered b h (At f i) (λ g j e. absurd (cc)) s.entered }
stays_careful b (LeavesSlot h f i) k m c s = record { pages = s.pages; entered = unentered b h Away (λ g j e. absurd (cc)) s.entered }
stays_careful b (Looks h f i) k m c s = record { pages = s.pages; entered = unentered b h (Bare f i) (λ g j e. absurd (cc)) s.entered }
stays_careful b (Finds h f i) k m c s = record {
  pages = s.pages;
  entered = λ j g n e. elim (put_tells b.marks h (Entered f i) j) [
    | inl q ↦ here g n (sym q.1 ∙ e)
    | inr q ↦ s.entered j g n (sym q.1 ∙ e)
  ];
}
  where
    here : (g n : ℕ) → Entered f i ≡ Entered g n → b.reserved g n ≡ true
    here g n e = ap (λ (w : ℕ). b.reserved w n) (sym (file e)) ∙ (ap (b.reserved f) (sym (index e)) ∙ m.1)
      where
        file : {a b c d : ℕ} → Entered a b ≡ Entered c d → a ≡ c
        file p = cc

        index : {a b c d : ℕ} → Entered a b ≡ Entered c d → b ≡ d
        index p = cc
stays_careful b (Turns h f i) k m c s =
    record { pages = s.pages; entered = unentered b h (Clearing f i 1) (λ g j e. absurd (cc)) s.entered }
stays_careful b (ClearsIndex h f i n) k m c s =
    record { pages = s.pages; entered = unentered b h (Clearing f i (n + 1)) (λ g j e. absurd (cc)) s.entered }
stays_careful b (Evicts h f i n x) k m c s = record {
  pages = λ g j y e. elim (put2_tells b.pages f i None g j) [
    | inl q ↦ (let d : ◌≡◌ {A = Option ℕ} None (Some y) = sym q.2 ∙ e in absurd (cc))
    | inr q ↦ s.pages g j y (sym q.1 ∙ e)
  ];
  entered = unentered b h (Bare f i) (λ g j e. absurd (cc)) s.entered;
}
stays_careful b (Places h f i x) k m c s = record {
  pages = λ g j y e. elim (put2_tells b.pages f i (Some x) g j) [
    | inl q ↦ ap (λ (w : ℕ). b.reserved w j) q.0 ∙ (ap (b.reserved f) q.1 ∙ s.entered h f i c)
    | inr q ↦ s.pages g j y (sym q.1 ∙ e)
  ];
  entered = unentered b h (At f i) (λ g j e. absurd (cc)) s.entered;
}
stays_careful b (Commits f from to p o l) k m c s = record {
  pages = λ g j y e. grown_keeps b.reserved f from to g j (s.pages g j y e);
  entered = λ h g j e. grown_keeps b.reserved f from to g j (s.entered h g j e);
}
stays_careful b (Deletes h f i p o) k m c s = record {
  pages = λ g j y e. elim (put2_tells b.reserved f i false g j) [
    | inl q ↦ (let d : ◌≡◌ {A = Option ℕ} None (Some y) =
        sym own.1 ∙ (ap (λ (w : ℕ). b.pages w i) (sym q.0) ∙ (ap (b.pages g) (sym q.1) ∙ e)) in absurd (cc))
    | inr q ↦ q.1 ∙ s.pages g j y e
  ];
  entered = λ j g n e. elim (put_tells b.marks h (Bare f i) j) [
    | inl q ↦ (let d : Bare f i ≡ Entered g n = sym q.1 ∙ e in absurd (cc))
    | inr q ↦ elim (put2_tells b.reserved f i false g n) [
      | inl z ↦ absurd (q.0 (sole j g n (sym q.1 ∙ e) z.0 z.1))
      | inr z ↦ z.1 ∙ s.entered j g n (sym q.1 ∙ e)
    ]
  ];
}
  where
    own : ((f < b.geometry.files) × (i < b.geometry.limit) × (b.slots (slot_of b.geometry f i) ≡ Some h)) × (b.pages f i ≡ None)
    own = is_bare b h f i k m.0

    sole : (j g n : ℕ) → b.marks j ≡ Entered g n → g ≡ f → n ≡ i → j ≡ h
    sole j g n e p q =
        one_holder (b.slots (slot_of b.geometry f i)) h j own.0.2
        (ap (λ (w : ℕ). b.slots (slot_of b.geometry w i)) (sym p)
        ∙ (ap (λ (w : ℕ). b.slots (slot_of b.geometry g w)) (sym q) ∙ (holds_at b j g n k (ap place_of e)).2))
stays_careful b (CutsTail f from p o) k m c s = absurd c
stays_careful b (Translates h f i t v x) k m c s = record { pages = s.pages; entered = s.entered }
stays_careful b (Takes h x) k m c s = record { pages = s.pages; entered = s.entered }
stays_careful b (HandsOver h j x) k m c s = record { pages = s.pages; entered = s.entered }
stays_careful b (Frees h x) k m c s = record { pages = s.pages; entered = s.entered }
stays_careful b (Writes x old new) k m c s = record { pages = s.pages; entered = s.entered }
stays_careful b (ClearsSome t out) k m c s = record { pages = s.pages; entered = s.entered }
stays_careful b (EntersArea t a) k m c s = record { pages = s.pages; entered = s.entered }
stays_careful b (LeavesArea t base) k m c s = record { pages = s.pages; entered = s.entered }
stays_careful b (Resizes n frame) k m c s = record { pages = s.pages; entered = s.entered }
stays_careful b (Accounts n) k m c s = record { pages = s.pages; entered = s.entered }
stays_careful b (Settles n) k m c s = record { pages = s.pages; entered = s.entered }
stays_careful b (Spends n) k m c s = record { pages = s.pages; entered = s.entered }
stays_careful b (GivesBack n) k m c s = record { pages = s.pages; entered = s.entered }
stays_careful b (Ignores n) k m c s = record { pages = s.pages; entered = s.entered }

-- so does each list of them
pub all_careful : (b : Books) (es : List Entry) → Kept b → AllMay b es → AllCareful b es → Careful b → Careful (ends b es)
all_careful b [] k m c s = s
all_careful b (e ∷ es) k m c s = all_careful (after b e) es (keeps b e k m.0) m.1 c.1 (stays_careful b e k m.0 c.0 s)

pub always_careful : (g : Geometry) (frames : ℕ) (es : List Entry) → AllMay (opens g frames) es → AllCareful (opens g frames) es
    → Careful (ends (opens g frames) es)
always_careful g frames es m c =
    all_careful (opens g frames) es (opens_kept g frames) m c
    (record { pages = λ f i x e. (let d : ◌≡◌ {A = Option ℕ} None (Some x) = e in absurd (cc)); entered = λ h f i e. absurd (cc) })

-- where pages are reserved, the reserved indices are those with a page and those without
pub split : (b : Books) → PagesAreReserved b → reserved_in b ≡ vacant_in b + paged_in b
unfolding vacant
split b h =
    total_add b.geometry.files (λ f. vacant b.geometry.limit (b.reserved f) (b.pages f))
    (λ f. count_below (λ i. is_some (b.pages f i)) b.geometry.limit) (λ f. count_below (b.reserved f) b.geometry.limit)
    (λ f. count_below-sum (λ i. b.reserved f i && is_none (b.pages f i)) (λ i. is_some (b.pages f i)) (b.reserved f) b.geometry.limit
    (λ i l. parts (b.reserved f i) (b.pages f i) (λ x e. h f i x e)))
  where
    parts : (r : Bool) (o : Option ℕ) → ((x : ℕ) → o ≡ Some x → r ≡ true)
        → cond r 1 0 ≡ cond (r && is_none o) 1 0 + cond (is_some o) 1 0
    parts true None e = refl
    parts true (Some x) e = refl
    parts false None e = refl
    parts false (Some x) e = (let d : false ≡ true = e x refl in absurd (cc))

-- so careful code that ignores nothing has the right count at rest
pub right_at_rest : (g : Geometry) (frames : ℕ) (es : List Entry) → AllMay (opens g frames) es → AllCareful (opens g frames) es
    → ignored_in es ≡ 0 → IsAtRest (ends (opens g frames) es)
    → ((ends (opens g frames) es).count ≡ vacant_in (ends (opens g frames) es)) × ((ends (opens g frames) es).debt ≡ 0)
right_at_rest g frames es m c none rest =
    here (ends (opens g frames) es) (ignored_in es) none (lost_at_rest g frames es m rest)
    (split (ends (opens g frames) es) (always_careful g frames es m c).pages) (always_normal (opens g frames) es (inl refl))
  where
    here : (b : Books) (n : ℕ) → n ≡ 0 → b.count + paged_in b + n ≡ reserved_in b + b.debt → reserved_in b ≡ vacant_in b + paged_in b
        → (b.count ≡ 0) ⊎ (b.debt ≡ 0) → (b.count ≡ vacant_in b) × (b.debt ≡ 0)
    here b n z e s (inl o) = (omega arith, omega arith)
    here b n z e s (inr o) = (omega arith, omega arith)
