-- Entries that are cleared one after the other, in order of their pages.
use Rattle.std.proofs.Common.{◌≡◌, ℕ, ◌+◌, ◌-◌, ◌≤◌, Bool, true, false, cond, List, Option, Some, None, true≢false, refl, sym, ap}
use Rattle.std.proofs.Common.{◌∙◌, arith, inl, inr}
use Rattle.std.specs.Cmp.{nat_cmp_total}
use Rattle.std.specs.FinMap as map
use Rattle.std.specs.Ordering.{nat_cmp}
use Rattle.std.specs.Prelude.{IsSome, is_some, if◌then◌else◌}
use Rattle.std.proofs.lemmas.Bool.{cases_eq, cases_lt}
use Rattle.std.proofs.lemmas.Bool.Decides.{nat_tests}
use Rattle.hp_base.specs.Indices.{is_within}
use Rattle.hp_base.specs.Mappings.{find, is_there, without_index}
use Rattle.hp_base.specs.Numbers.{put}
use Rattle.hp_base.specs.declared.mapping.Mapping.{Mapping}
use Rattle.hp_chunks.specs.Framed.{IsFirstWithin}
use Rattle.hp_table.specs.Table.{cleared}

pub get_removed : (m : map.FinMap nat_cmp ℕ) (key v : ℕ) → map.get (map.remove m key) v ≡ put (map.get m) key None v
unfolding put
get_removed m key v = map.get-remove nat_cmp_total m key v ∙ grind (arith, nat_tests)

pub get_inserted : (m : map.FinMap nat_cmp ℕ) (key value v : ℕ)
    → map.get (map.insert m key value) v ≡ put (map.get m) key (Some value) v
unfolding put
get_inserted m key value v = map.get-insert nat_cmp_total m key value v ∙ grind (arith, nat_tests)

-- the first that is left goes
pub clear_first : (old now after : ℕ → Option ℕ) (from next to : ℕ) (e : ℕ × ℕ) → from ≤ next → IsFirstWithin now next to (Some e)
    → ((v : ℕ) → now v ≡ cleared (is_within from next) old v) → ((v : ℕ) → after v ≡ put now e.0 None v)
    → (v : ℕ) → after v ≡ cleared (is_within from (e.0 + 1)) old v
unfolding put
clear_first old now after from next to e le first sofar went v =
    let is = went v in
    let was = sofar v in
    elim (cases_lt v next) [
      | inl before ↦ let above = first.0 in grind (arith, nat_tests)
      | inr past ↦
          elim (cases_lt v e.0) [
            | inl between ↦ let none = first.3 v past between in grind (arith, nat_tests)
            | inr later ↦ let above = first.0 in grind (arith, nat_tests)
          ]
    ]

-- until none is left
pub clear_all : (old now : ℕ → Option ℕ) (from next to : ℕ) → from ≤ next → next ≤ to → IsFirstWithin now next to None
    → ((v : ℕ) → now v ≡ cleared (is_within from next) old v) → (v : ℕ) → now v ≡ cleared (is_within from to) old v
clear_all old now from next to le end none sofar v =
    let was = sofar v in
    elim (cases_lt v next) [
      | inl before ↦ grind (arith, nat_tests)
      | inr past ↦
          elim (cases_lt v to) [
            | inl within ↦ let nothing = none v past within in grind (arith, nat_tests)
            | inr later ↦ grind (arith, nat_tests)
          ]
    ]

-- what holds of each page with an entry still holds of each, where one comes or goes
pub kept_with : (P : ℕ → Type 0) (old new : ℕ → Option ℕ) (key : ℕ) (value : Option ℕ) → ((v : ℕ) → new v ≡ put old key value v)
    → P key → ((v : ℕ) → IsSome (old v) → P v) → (v : ℕ) → IsSome (new v) → P v
unfolding put
kept_with P old new key value same one each v some =
    elim (cases_eq v key) [
      | inl here ↦ rw here one
      | inr other ↦
          let old_one : new v ≡ old v = same v ∙ grind (arith, nat_tests) in
          each v (sym (ap (λ (o : Option ℕ). is_some o) old_one) ∙ some)
    ]

pub kept_less : (P : ℕ → Type 0) (old new : ℕ → Option ℕ) (key : ℕ) → ((v : ℕ) → new v ≡ put old key None v)
    → ((v : ℕ) → IsSome (old v) → P v) → (v : ℕ) → IsSome (new v) → P v
unfolding put
kept_less P old new key same each v some =
    elim (cases_eq v key) [
      | inl here ↦
          let none : new v ≡ None = same v ∙ grind (arith, nat_tests) in
          absurd (true≢false (sym some ∙ ap (λ (o : Option ℕ). is_some o) none))
      | inr other ↦
          let old_one : new v ≡ old v = same v ∙ grind (arith, nat_tests) in
          each v (sym (ap (λ (o : Option ℕ). is_some o) old_one) ∙ some)
    ]

-- one entry fewer
pub fewer_removed : (m : map.FinMap nat_cmp ℕ) (key : ℕ) → IsSome (map.get m key) → map.len (map.remove m key) + 1 ≡ map.len m
fewer_removed m key some =
    let less = map.len-remove nat_cmp_total m key ∙ ap (λ (b : Bool). cond b (map.len m - 1) (map.len m)) some in
    elim (cases_lt 0 (map.len m)) [
      | inl more ↦ omega (arith, less, more)
      | inr none ↦
          let gone = ap (λ (n : map.FinMap nat_cmp ℕ). map.get n key) (map.empty_of_len m (omega arith)) ∙ map.get-empty nat_cmp key in
          absurd (true≢false (sym some ∙ ap (λ (o : Option ℕ). is_some o) gone))
    ]

-- a page that stands for an index goes
pub without_there : (ms : List Mapping) (now after : ℕ → Option ℕ) (file index vpn : ℕ) → is_there (find ms vpn) file index ≡ true
    → ((v : ℕ) → after v ≡ put now vpn None v)
    → (v : ℕ) → without_index ms now file index v ≡ without_index ms after file index v
unfolding without_index put
without_there ms now after file index vpn there went v =
    let is = went v in
    elim (cases_eq v vpn) [
      | inl e ↦ let here : is_there (find ms v) file index ≡ true = rw e there in rw here refl
      | inr other ↦
          let same : after v ≡ now v = is ∙ grind (arith, nat_tests) in
          rw same refl
    ]

-- until none is left
pub without_none : (ms : List Mapping) (now : ℕ → Option ℕ) (file index : ℕ)
    → ((v : ℕ) → is_there (find ms v) file index ≡ true → now v ≡ None)
    → (v : ℕ) → without_index ms now file index v ≡ now v
unfolding without_index
without_none ms now file index none v = here (is_there (find ms v) file index) refl
  where
    here : (b : Bool) → is_there (find ms v) file index ≡ b → (if b then None else now v) ≡ now v
    here true e = sym (none v e)
    here false e = refl
