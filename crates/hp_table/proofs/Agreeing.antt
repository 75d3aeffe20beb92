-- The places of the pages with an entry, as entries and mappings come and go.
use Rattle.std.proofs.Common.{◌≡◌, ℕ, ◌^◌, ◌<◌, Bool, true, false, not, ◌&&◌, ◌||◌, ◌==◌, [], Option, Some, None, true≢false, refl, sym, ap, ◌∙◌, arith, inl, inr}
use Rattle.std.specs.BTreeSet.{BTreeSet}
use Rattle.std.specs.Prelude.{IsSome, is_some}
use Rattle.std.proofs.lemmas.Bool.{cases_eq}
use Rattle.std.proofs.lemmas.Bool.Decides.{nat_tests}
use Rattle.hp_base.specs.Mappings.{is_there}
use Rattle.hp_base.specs.Numbers.{put}
use Rattle.hp_table.specs.Places.{Agrees, is_place, stands}
use Rattle.hp_table.specs.declared.places.Place.{Place}

module _ (find : ℕ → Option (ℕ × ℕ)) (entries : ℕ → Option ℕ) (places : BTreeSet Place) (agree : Agrees find entries places) where
  -- pages that stand for the same as before, where they have an entry
  pub agree_other : (later : ℕ → Option (ℕ × ℕ)) → ((v : ℕ) → IsSome (entries v) → later v ≡ find v) → Agrees later entries places
  unfolding Agrees
  agree_other later same file index vpn under = agree file index vpn under ∙ here (entries vpn) refl
    where
      here : (o : Option ℕ) → entries vpn ≡ o → (is_some o && is_there (find vpn) file index) ≡ (is_some o && is_there (later vpn) file index)
      here None e = refl
      here (Some frame) e =
          let some : IsSome (entries vpn) = ap (λ (o : Option ℕ). is_some o) e in
          ap (λ (o : Option (ℕ × ℕ)). is_there o file index) (sym (same vpn some))

  -- the place of a page stands where the page has an entry
  pub stands_there : (file index vpn : ℕ) → find vpn ≡ Some (file, index) → vpn < 2 ^ 32
      → stands places (record { file = file; index = index; vpn = vpn }) ≡ is_some (entries vpn)
  unfolding Agrees
  stands_there file index vpn at under =
      agree file index vpn under ∙ ap (λ (o : Option (ℕ × ℕ)). is_some (entries vpn) && is_there o file index) at
      ∙ grind (arith, nat_tests)

  -- what stands is a page with an entry
  pub found_there : (file index vpn : ℕ) → vpn < 2 ^ 32 → stands places (record { file = file; index = index; vpn = vpn }) ≡ true
      → IsSome (entries vpn) × (is_there (find vpn) file index ≡ true)
  unfolding Agrees
  found_there file index vpn under stood = both (is_some (entries vpn)) (is_there (find vpn) file index) (sym (agree file index vpn under) ∙ stood)
    where
      both : (a b : Bool) → (a && b) ≡ true → (a ≡ true) × (b ≡ true)
      both true b e = (refl, e)
      both false b e = absurd (true≢false (sym e))

  -- and where none stands, there is none
  pub none_there : (file index vpn : ℕ) → vpn < 2 ^ 32 → stands places (record { file = file; index = index; vpn = vpn }) ≡ false
      → is_there (find vpn) file index ≡ true → entries vpn ≡ None
  unfolding Agrees
  none_there file index vpn under stood there =
      no (entries vpn) (ap (λ (b : Bool). is_some (entries vpn) && b) (sym there) ∙ sym (agree file index vpn under) ∙ stood)
    where
      no : (o : Option ℕ) → (is_some o && true) ≡ false → o ≡ None
      no None e = refl
      no (Some frame) e = absurd (true≢false e)

  module _ (file index vpn : ℕ) (at : find vpn ≡ Some (file, index)) (after : ℕ → Option ℕ) (left : BTreeSet Place) where
    -- an entry comes
    pub agree_more : (frame : ℕ) → ((v : ℕ) → after v ≡ put entries vpn (Some frame) v) → entries vpn ≡ None
        → ((q : Place) → stands left q ≡ (is_place (record { file = file; index = index; vpn = vpn }) q || stands places q))
        → Agrees find after left
    unfolding Agrees put
    agree_more frame came bare adds f i v under =
        let new = adds (record { file = f; index = i; vpn = v }) in
        let old = agree f i v under in
        let value = came v in
        elim (cases_eq v vpn) [
          | inl e ↦
              let there : is_there (find v) f i ≡ ((file == f) && (index == i)) =
              ap (λ (w : ℕ). is_there (find w) f i) e ∙ ap (λ (o : Option (ℕ × ℕ)). is_there o f i) at in
              let none : is_some (entries v) ≡ false = ap (λ (w : ℕ). is_some (entries w)) e ∙ ap (λ (o : Option ℕ). is_some o) bare in
              let some : is_some (after v) ≡ true = ap (λ (o : Option ℕ). is_some o) value ∙ grind (arith, nat_tests) in
              new ∙ rw (old, none, some, there) (grind (arith, nat_tests))
          | inr other ↦
              let same : after v ≡ entries v = value ∙ grind (arith, nat_tests) in
              new ∙ rw (old, same) (grind (arith, nat_tests))
        ]

    -- an entry goes
    pub agree_less : ((v : ℕ) → after v ≡ put entries vpn None v)
        → ((q : Place) → stands left q ≡ (not (is_place (record { file = file; index = index; vpn = vpn }) q) && stands places q))
        → Agrees find after left
    unfolding Agrees put
    agree_less went takes f i v under =
        let new = takes (record { file = f; index = i; vpn = v }) in
        let old = agree f i v under in
        let value = went v in
        elim (cases_eq v vpn) [
          | inl e ↦
              let there : is_there (find v) f i ≡ ((file == f) && (index == i)) =
              ap (λ (w : ℕ). is_there (find w) f i) e ∙ ap (λ (o : Option (ℕ × ℕ)). is_there o f i) at in
              let none : is_some (after v) ≡ false = ap (λ (o : Option ℕ). is_some o) value ∙ grind (arith, nat_tests) in
              new ∙ rw (old, none, there) (grind (arith, nat_tests))
          | inr other ↦
              let same : after v ≡ entries v = value ∙ grind (arith, nat_tests) in
              new ∙ rw (old, same) (grind (arith, nat_tests))
        ]

    -- an entry was to come, and didn't
    pub agree_again : (more : BTreeSet Place) → entries vpn ≡ None
        → ((q : Place) → stands more q ≡ (is_place (record { file = file; index = index; vpn = vpn }) q || stands places q))
        → ((q : Place) → stands left q ≡ (not (is_place (record { file = file; index = index; vpn = vpn }) q) && stands more q))
        → Agrees find entries left
    unfolding Agrees
    agree_again more bare adds takes f i v under =
        let new = takes (record { file = f; index = i; vpn = v }) in
        let added = adds (record { file = f; index = i; vpn = v }) in
        let old = agree f i v under in
        elim (cases_eq v vpn) [
          | inl e ↦
              let none : is_some (entries v) ≡ false = ap (λ (w : ℕ). is_some (entries w)) e ∙ ap (λ (o : Option ℕ). is_some o) bare in
              new ∙ rw (added, old, none) (grind (arith, nat_tests))
          | inr other ↦ new ∙ rw (added, old) (grind (arith, nat_tests))
        ]

-- nothing agrees with nothing
pub agree_none : (find : ℕ → Option (ℕ × ℕ)) (entries : ℕ → Option ℕ) (places : BTreeSet Place) → places.keys ≡ []
    → ((v : ℕ) → entries v ≡ None) → Agrees find entries places
unfolding Agrees
agree_none find entries places empty none file index vpn under = rw (empty, none vpn) refl
