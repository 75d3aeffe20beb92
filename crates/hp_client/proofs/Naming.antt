-- The list of the workloads has each of them.
use Rattle.std.proofs.Common.{◌≡◌, ◌≢◌, ℕ, zero, suc, ◌+◌, ◌<◌, ◌≤◌, List, [], ◌∷◌, All, Contains, length, take}
use Rattle.std.proofs.Common.{get_or, refl, sym, subst, ◌∙◌, arith}
use Rattle.std.proofs.lemmas.List.{take_more, take_all}
use Rattle.std.proofs.lemmas.List.Elements.{All-append}
use Rattle.hp_client.specs.Tables.{name_of}
use Rattle.hp_client.specs.declared.table.Workload.{Workload}
use Rattle.hp_client.specs.declared.table.Workload.TheVariants as work

abbrev pub all : List Workload
all =
    work.Readback ∷ work.Shared ∷ work.Truncate ∷ work.AllocInstantiateRace ∷ work.ChunkOvercommit ∷ work.NoresvPreserveResvPage
    ∷ work.NoresvRegardedAsResv ∷ work.TruncateReserveWraparound ∷ work.FallocateBasic ∷ work.FallocateAlign ∷ work.Counters ∷ []

each_there : (w : Workload) → Contains all w
each_there work.Readback = (0, omega arith, refl)
each_there work.Shared = (1, omega arith, refl)
each_there work.Truncate = (2, omega arith, refl)
each_there work.AllocInstantiateRace = (3, omega arith, refl)
each_there work.ChunkOvercommit = (4, omega arith, refl)
each_there work.NoresvPreserveResvPage = (5, omega arith, refl)
each_there work.NoresvRegardedAsResv = (6, omega arith, refl)
each_there work.TruncateReserveWraparound = (7, omega arith, refl)
each_there work.FallocateBasic = (8, omega arith, refl)
each_there work.FallocateAlign = (9, omega arith, refl)
each_there work.Counters = (10, omega arith, refl)

-- the first of them aren't named so
abbrev pub NoneNamed : (name : List ℕ) → List Workload → Type 0
NoneNamed name workloads = All (λ w. name_of w ≢ name) workloads

-- so no workload is
pub none_named : (name : List ℕ) (i : ℕ) (items : List Workload) → items ≡ all → length items ≤ i → NoneNamed name (take i items)
    → (w : Workload) → name_of w ≢ name
none_named name i items is past none w =
    let found = each_there w in
    let others = subst (λ (xs : List Workload). NoneNamed name xs) (take_all i items past ∙ is) none in
    subst (λ (v : Workload). name_of v ≢ name) found.2 (others found.0 w found.1)

one_not : (name : List ℕ) (w : Workload) → name_of w ≢ name → NoneNamed name (w ∷ [])
one_not name w not zero d there = not
one_not name w not (suc k) d there = absurd (omega (arith, there))

-- nor is one more of them
pub none_next : (name : List ℕ) (i : ℕ) (items : List Workload) (d : Workload) → i < length items
    → name_of (get_or items i d) ≢ name → NoneNamed name (take i items) → NoneNamed name (take (i + 1) items)
none_next name i items d within not none =
    subst (λ (xs : List Workload). NoneNamed name xs) (sym (take_more items i d within))
    (All-append (λ v. name_of v ≢ name) (take i items) (get_or items i d ∷ []) none (one_not name (get_or items i d) not))
