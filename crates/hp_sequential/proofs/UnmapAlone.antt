-- An unmap or an exit that runs alone means what the table says.
use Rattle.std.proofs.Common.{◌≡◌, ◌≢◌, ℕ, refl, ap, sym, ◌∙◌, subst, arith}
use Rattle.std.proofs.Math.Path.{fun_ext}
use Rattle.std.proofs.lemmas.Bool.Decides.{nat_tests}
use Rattle.std.specs.Prelude.{Bool, true, false, ◌==◌, Option, Some, None, List, [], ◌∷◌, if◌then◌else◌}
use Rattle.hp_base.specs.Numbers.{put}
use Rattle.hp_base.specs.Mappings.{find, is_base, first_base, in_mapping, without, without_mapping}
use Rattle.hp_base.specs.declared.mapping.Mapping.{Mapping}
use Rattle.hp_base.specs.declared.answer.Answer.{Answer}
use Rattle.hp_base.specs.declared.answer.Answer.TheVariants.{Done}
use Rattle.hp_base.proofs.Puts.{put_same, put_self}
use Rattle.hp_base.proofs.Spaces.{without_find}
use Rattle.hp_machine.specs.State.{Pool, State, pool_of}
use Rattle.hp_machine.specs.UnmapRows.{UnmapRow}
use Rattle.hp_machine.specs.ExitRows.{ExitRow}
use Rattle.hp_machine.specs.declared.unmap.UnmapPhase.{UnmapPhase}
use Rattle.hp_machine.specs.declared.unmap.UnmapPhase.TheVariants as unmap
use Rattle.hp_machine.specs.declared.exit.ExitPhase.{ExitPhase}
use Rattle.hp_machine.specs.declared.exit.ExitPhase.TheVariants as exit
use Rattle.hp_machine.specs.declared.outcome.Life.TheVariants.{Dead}
use Rattle.hp_machine.specs.declared.call.Call.TheVariants as call
use Rattle.hp_machine.specs.declared.call.Turn.{Turn}
use Rattle.hp_laws.proofs.Invariant.{Inv, put_known}
use Rattle.hp_sequential.specs.Meaning.{IsReady, Looks, UnmapMeans, ExitMeans}
use Rattle.hp_sequential.proofs.Alone.{if_true, if_false, if_none, if_some, Leads, goes_on, ends_so, from_pool, put_put, Comes}
use Rattle.hp_sequential.proofs.Idle.{so_true, so_false, finish, idle_again}

-- granted steps of a task that isn't killed
abbrev pub UnmapSteps : (task : ℕ) → Pool → UnmapPhase → Turn UnmapPhase → Pool → Type 0
UnmapSteps t s p turn new = UnmapRow s t false true p turn new

-- so of an exit
abbrev pub ExitSteps : (task : ℕ) → Pool → ExitPhase → Turn ExitPhase → Pool → Type 0
ExitSteps t s p turn new = ExitRow s t false true p turn new

-- an unmap from its first phase on
pub unmap_means : (s : State) (t base : ℕ) (b : Answer) (n : State) → IsReady s t
    → Comes call.Unmap (UnmapSteps t) s t b n (pool_of s) (unmap.Start (record { base = base }))
    → (m : State) × UnmapMeans s t base b m × Looks m n
unmap_means s t base b n ready (end, last, k, is) = by_base (is_base (s.mappings t) base) refl
  where
    calls : put s.calls t None ≡ s.calls
    calls = idle_again s t (ready.0 t)

    by_base : (there : Bool) → is_base (s.mappings t) base ≡ there → (m : State) × UnmapMeans s t base b m × Looks m n
    by_base true e =
        let k1 = goes_on k (λ turn m r. if_true _ _ e r) in
        let k2 = goes_on k1 (λ turn m r. r) in
        let z = ends_so k2 (λ turn m r. r) in
        finish call.Unmap s t last (UnmapMeans s t base) _ z is (so_true _ _ e (refl, refl))
        (λ j. record s {
          pool = record s.pool {
            mappings = put s.mappings t (without (s.mappings t) base);
            entries = put s.entries t (without_mapping (s.mappings t) (s.entries t) base);
          };
          calls = calls j;
        })
    by_base false e =
        finish call.Unmap s t last (UnmapMeans s t base) s (ends_so k (λ turn m r. if_false _ _ e r)) is
        (so_false _ _ e (refl, refl)) (λ j. record s { calls = calls j })

-- the task has these mappings and entries
abbrev mapped : State → (task : ℕ) → List Mapping → (ℕ → Option ℕ) → Pool
mapped s t mappings entries = record (pool_of s) { mappings = put s.mappings t mappings; entries = put s.entries t entries }

-- each entry lies in a mapping
abbrev Covered : List Mapping → (ℕ → Option ℕ) → Type 0
Covered mappings entries = (v x : ℕ) → entries v ≡ Some x → find mappings v ≢ None

-- where no mapping is left no entry is
none_left : (entries : ℕ → Option ℕ) → Covered [] entries → entries ≡ (λ _. None)
none_left entries h = fun_ext (λ v. here v (entries v) refl)
  where
    here : (v : ℕ) (o : Option ℕ) → entries v ≡ o → entries v ≡ None
    here v None e = e
    here v (Some x) e = absurd (h v x e refl)

-- the first mapping goes by its base
same_base : (m : Mapping) (ms : List Mapping) → without (m ∷ ms) m.base ≡ ms
same_base m ms =
    let e : (m.base == m.base) ≡ true = grind (arith, nat_tests) in
    ap (λ (c : Bool). if c then ms else m ∷ without ms m.base) e

-- an entry that is left was there, and isn't of the mapping that goes
kept_entry : (mappings : List Mapping) (entries : ℕ → Option ℕ) (base v x : ℕ) → without_mapping mappings entries base v ≡ Some x
    → (in_mapping mappings base v ≡ false) × (entries v ≡ Some x)
unfolding without_mapping
kept_entry mappings entries base v x e = by_test (in_mapping mappings base v) refl e
  where
    by_test : (c : Bool) → in_mapping mappings base v ≡ c → ◌≡◌ {A = Option ℕ} (if c then None else entries v) (Some x)
        → (in_mapping mappings base v ≡ false) × (entries v ≡ Some x)
    by_test true d e = absurd (cc)
    by_test false d e = (d, e)

-- the first mapping and its entries go
covers_rest : (m : Mapping) (ms : List Mapping) (entries : ℕ → Option ℕ) → Covered (m ∷ ms) entries
    → Covered ms (without_mapping (m ∷ ms) entries m.base)
covers_rest m ms entries h v x e none =
    let z = kept_entry (m ∷ ms) entries m.base v x e in
    h v x z.1 (sym (without_find (m ∷ ms) m.base v z.0) ∙ (ap (λ (list : List Mapping). find list v) (same_base m ms) ∙ none))

-- what is set from what stands there
set_again : {A : Type 0} (f : ℕ → A) (t : ℕ) (v : A) (g : A → A) → put (put f t v) t (g (put f t v t)) ≡ put f t (g v)
set_again f t v g = put_put f t v (g (put f t v t)) ∙ ap (λ w. put f t (g w)) (put_same f t v)

-- the first mapping's entries are cleared
clears_first : (s : State) (t : ℕ) (b : Answer) (end : Pool) (m : Mapping) (ms : List Mapping) (entries : ℕ → Option ℕ)
    → Leads (ExitSteps t) b end (mapped s t (m ∷ ms) entries) (exit.Clear (record { base = m.base }))
    → Leads (ExitSteps t) b end (mapped s t (m ∷ ms) (without_mapping (m ∷ ms) entries m.base)) (exit.Drop (record { base = m.base }))
clears_first s t b end m ms entries k =
    let table = ap (λ (list : List Mapping). put (put s.entries t entries) t
    (without_mapping list (put s.entries t entries t) m.base)) (put_same s.mappings t (m ∷ ms))
    ∙ set_again s.entries t entries (λ e. without_mapping (m ∷ ms) e m.base) in
    from_pool (λ i. record (pool_of s) { mappings = put s.mappings t (m ∷ ms); entries = table i }) (goes_on k (λ turn m r. r))

-- the mappings after it are left
first_left : (s : State) (t : ℕ) (m : Mapping) (ms : List Mapping)
    → first_base (without (put s.mappings t (m ∷ ms) t) m.base) ≡ first_base ms
first_left s t m ms =
    ap (λ (list : List Mapping). first_base (without list m.base)) (put_same s.mappings t (m ∷ ms)) ∙ ap first_base (same_base m ms)

-- where the first mapping goes, the rest of the task's list is left
mappings_left : (s : State) (t : ℕ) (m : Mapping) (ms : List Mapping)
    → put (put s.mappings t (m ∷ ms)) t (without (put s.mappings t (m ∷ ms) t) m.base) ≡ put s.mappings t ms
mappings_left s t m ms = set_again s.mappings t (m ∷ ms) (λ list. without list m.base) ∙ ap (put s.mappings t) (same_base m ms)

-- one mapping after the other goes
exits : (s : State) (t : ℕ) (b : Answer) (end : Pool) (m : Mapping) (ms : List Mapping) (entries : ℕ → Option ℕ) → Covered (m ∷ ms) entries
    → Leads (ExitSteps t) b end (mapped s t (m ∷ ms) entries) (exit.Clear (record { base = m.base }))
    → (b ≡ Done) × (end ≡ mapped s t [] (λ _. None))
exits s t b end m [] entries h k =
    let k1 = goes_on (clears_first s t b end m [] entries k) (λ turn new r. if_none _ _ (first_left s t m []) r) in
    let z = ends_so k1 (λ turn m r. r) in
    let bare = none_left (without_mapping (m ∷ []) entries m.base) (covers_rest m [] entries h) in
    let mappings = mappings_left s t m [] in
    (z.0, z.1 ∙ (λ i. record (pool_of s) { mappings = mappings i; entries = put s.entries t (bare i) }))
exits s t b end m (m' ∷ ms) entries h k =
    let k1 = goes_on (clears_first s t b end m (m' ∷ ms) entries k) (λ turn new r. if_some _ _ (first_left s t m (m' ∷ ms)) r) in
    let mappings = mappings_left s t m (m' ∷ ms) in
    exits s t b end m' ms (without_mapping (m ∷ m' ∷ ms) entries m.base) (covers_rest m (m' ∷ ms) entries h)
    (from_pool (λ i. record (pool_of s) {
      mappings = mappings i;
      entries = put s.entries t (without_mapping (m ∷ m' ∷ ms) entries m.base);
    }) k1)

-- an exit from its first phase on
pub exit_means : (s : State) (t : ℕ) (b : Answer) (n : State) → Inv s.geometry s → IsReady s t
    → Comes call.Exit (ExitSteps t) s t b n (pool_of s) exit.Start → (m : State) × ExitMeans s t b m × Looks m n
exit_means s t b n h ready (end, last, k, is) =
    let calls = idle_again s t (ready.0 t) in
    finish call.Exit s t last (ExitMeans s t) _ (by_mappings (s.mappings t) refl) is (refl, refl)
    (λ j. record s {
      pool = record s.pool { mappings = put s.mappings t []; entries = put s.entries t (λ _. None) };
      life = put s.life t Dead;
      calls = calls j;
    })
  where
    covered : Covered (s.mappings t) (s.entries t)
    covered v x e none = (let y = h.entries.agree t v x e in let z : None ≡ Some y.0 = sym none ∙ y.1 in absurd (cc))

    by_mappings : (mappings : List Mapping) → s.mappings t ≡ mappings → (b ≡ Done) × (end ≡ mapped s t [] (λ _. None))
    by_mappings [] e =
        let k1 = goes_on k (λ turn m r. if_none _ _ (ap first_base e) r) in
        let z = ends_so k1 (λ turn m r. r) in
        let mappings = sym (put_known s.mappings t [] e) in
        let table = sym (put_known s.entries t (λ _. None)
        (none_left (s.entries t) (subst (λ (list : List Mapping). Covered list (s.entries t)) e covered))) in
        (z.0, z.1 ∙ (λ i. record (pool_of s) { mappings = mappings i; entries = table i }))
    by_mappings (m ∷ ms) e =
        let k1 = goes_on k (λ turn m r. if_some _ _ (ap first_base e) r) in
        let mappings = sym (put_known s.mappings t (m ∷ ms) e) in
        let table = sym (put_self s.entries t) in
        exits s t b end m ms (s.entries t) (subst (λ (list : List Mapping). Covered list (s.entries t)) e covered)
        (from_pool (λ i. record (pool_of s) { mappings = mappings i; entries = table i }) k1)
