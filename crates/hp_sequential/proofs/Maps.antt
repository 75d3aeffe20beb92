-- The rows of a map, an unmap and an exit, which have no frame in hand, taken by a pool and by that pool with its
-- frames renamed.
use Rattle.std.proofs.Common.{◌≡◌, ℕ, ◌+◌, ◌-◌, ◌<◌, refl, ap, sym, ◌∙◌, arith}
use Rattle.std.specs.Prelude.{Bool, true, false, nat_lt, Option, Some, None, List}
use Rattle.hp_base.specs.Indices.{missing}
use Rattle.hp_base.specs.Mappings.{IsRoom, is_base, first_base, without}
use Rattle.hp_base.specs.declared.mapping.Mapping.{Mapping}
use Rattle.hp_machine.specs.State.{Pool, exceeds_quota, frees}
use Rattle.hp_machine.specs.Parts.{is_bad_range}
use Rattle.hp_machine.specs.MapRows.{MapRow}
use Rattle.hp_machine.specs.UnmapRows.{UnmapRow}
use Rattle.hp_machine.specs.ExitRows.{ExitRow}
use Rattle.hp_machine.specs.declared.map.MapPhase.{MapPhase}
use Rattle.hp_machine.specs.declared.map.MapPhase.TheVariants as map
use Rattle.hp_machine.specs.declared.unmap.UnmapPhase.{UnmapPhase}
use Rattle.hp_machine.specs.declared.unmap.UnmapPhase.TheVariants as unmap
use Rattle.hp_machine.specs.declared.exit.ExitPhase.{ExitPhase}
use Rattle.hp_machine.specs.declared.exit.ExitPhase.TheVariants as exit
use Rattle.hp_machine.specs.declared.call.Turn.{Turn}
use Rattle.hp_sequential.specs.Renaming.{Renaming}
use Rattle.hp_sequential.proofs.Parts.{pool_renamed, unnamed, Used, Follows, leaf, plain, by_tests, by_like_tests, by_options}
use Rattle.hp_sequential.proofs.Parts.{by_like_options, start_row, change_row, frees_renamed, cleared_renamed}

-- there is one least room, or none
room_one : (space : ℕ) (ms : List Mapping) (len : ℕ) (a b : Option ℕ) → IsRoom space ms len a → IsRoom space ms len b → b ≡ a
room_one space ms len None None h k = refl
room_one space ms len None (Some y) h k = (let z : false ≡ true = sym (h y) ∙ k.0 in absurd (cc))
room_one space ms len (Some x) None h k = (let z : false ≡ true = sym (k x) ∙ h.0 in absurd (cc))
room_one space ms len (Some x) (Some y) h k = ap (λ (w : ℕ). Some w) (least (λ l. clash (k.1 x l) h.0) (λ l. clash (h.1 y l) k.0))
  where
    clash : {b : Bool} → b ≡ false → b ≡ true → ⊥
    clash d e = (let z : false ≡ true = sym d ∙ e in cc)

    least : (x < y → ⊥) → (y < x → ⊥) → y ≡ x
    least d e = omega arith

-- a row of a map, and the same row of the renamed pool, move alike
pub map_row : {frames : ℕ} {s : Pool} {r : Renaming frames} {turn other : Turn MapPhase} {new there : Pool} (t : ℕ)
    (killed grant : Bool) (p : MapPhase)
    → Used frames s → MapRow s t killed grant p turn new → MapRow (pool_renamed r s) t killed grant p other there
    → Follows MapPhase unnamed frames s r turn new other there
map_row {s = s} t killed grant (map.Start p) h a b = start_row t killed p.map.file (is_bad_range s p.map.from p.map.len) _ _ _ a b
map_row {s = s} t killed grant (map.Room p) h a b =
    by_like_options a.0 b.0 (room_one s.geometry.space (s.mappings t) p.map.len a.0 b.0 a.1 b.1) a.2 b.2
    (λ _ a b. plain a b refl)
    (λ base _ a b. by_tests grant a b
    (λ _ a b. by_tests p.map.reserve a b (λ _ a b. plain a b refl) (λ _ a b. plain a b refl))
    (λ _ a b. plain a b refl))
map_row t killed grant (map.Missing p) h a b =
    change_row grant p.map.file p.map.from (p.map.from + p.map.len) _
    (λ change. map.Changed (record { map = p.map; base = p.base; pending = change })) a b
map_row {s = s} {r = r} t killed grant (map.Changed p) h a b =
    by_tests killed a b
    (λ _ a b. plain a b refl)
    (λ _ a b. by_tests (exceeds_quota s p.pending.missing) a b
    (λ _ a b. plain a b refl)
    (λ _ a b. by_like_tests (nat_lt (frees s - s.resv) p.pending.missing) _
    (ap (λ (n : ℕ). nat_lt (n - s.resv) p.pending.missing) (frees_renamed s r h.count)) a b
    (λ _ a b. plain a b refl) (λ _ a b. plain a b refl)))
map_row t killed grant (map.Abort p) h a b = plain a b refl
map_row {s = s} t killed grant (map.Accounted p) h a b =
    by_tests (nat_lt (missing (s.reserved p.map.file) p.pending.from p.pending.to) p.pending.missing) a b
    (λ _ a b. plain a b refl) (λ _ a b. plain a b refl)
map_row t killed grant (map.Settle p) h a b = plain a.2 b.2 refl
map_row t killed grant (map.Enter p) h a b = plain a b refl
map_row t killed grant (map.Leave p) h a b = plain a b refl

-- so does a row of an unmap
pub unmap_row : {frames : ℕ} {s : Pool} {r : Renaming frames} {turn other : Turn UnmapPhase} {new there : Pool}
    (t : ℕ) (killed grant : Bool) (p : UnmapPhase)
    → UnmapRow s t killed grant p turn new → UnmapRow (pool_renamed r s) t killed grant p other there
    → Follows UnmapPhase unnamed frames s r turn new other there
unmap_row {s = s} t killed grant (unmap.Start p) a b =
    by_tests (is_base (s.mappings t) p.base) a b (λ _ a b. plain a b refl) (λ _ a b. plain a b refl)
unmap_row {s = s} {r = r} t killed grant (unmap.Clear p) a b = leaf a b refl (cleared_renamed s r t p.base) refl
unmap_row t killed grant (unmap.Drop p) a b = plain a b refl

-- and one of an exit
pub exit_row : {frames : ℕ} {s : Pool} {r : Renaming frames} {turn other : Turn ExitPhase} {new there : Pool} (t : ℕ)
    (killed grant : Bool) (p : ExitPhase)
    → ExitRow s t killed grant p turn new → ExitRow (pool_renamed r s) t killed grant p other there
    → Follows ExitPhase unnamed frames s r turn new other there
exit_row {s = s} t killed grant exit.Start a b =
    by_options (first_base (s.mappings t)) a b (λ _ a b. plain a b refl) (λ base _ a b. plain a b refl)
exit_row {s = s} {r = r} t killed grant (exit.Clear p) a b = leaf a b refl (cleared_renamed s r t p.base) refl
exit_row {s = s} t killed grant (exit.Drop p) a b =
    by_options (first_base (without (s.mappings t) p.base)) a b (λ _ a b. plain a b refl) (λ base _ a b. plain a b refl)
exit_row t killed grant exit.Leave a b = plain a b refl
