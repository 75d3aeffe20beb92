-- The rows of a punched hole and of a truncation, taken by a pool and by that pool with its frames renamed.
use Rattle.std.proofs.Common.{◌≡◌, ℕ, ◌+◌, ◌-◌, ◌≤◌, refl, ap, arith}
use Rattle.std.specs.Prelude.{Bool, not, ◌&&◌, max, nat_lt, nat_le, Option, Some, None, is_some}
use Rattle.std.specs.Option.{option_map}
use Rattle.hp_base.specs.Indices.{splits}
use Rattle.hp_base.specs.Pages.{IsPagesEnd}
use Rattle.hp_machine.specs.State.{Pool}
use Rattle.hp_machine.specs.Parts.{is_bad_range}
use Rattle.hp_machine.specs.PunchRows.{PunchRow}
use Rattle.hp_machine.specs.TruncateRows.{TruncateSizeRow, TruncateRow}
use Rattle.hp_machine.specs.declared.punch.PunchPhase.{PunchPhase}
use Rattle.hp_machine.specs.declared.punch.PunchPhase.TheVariants as punch
use Rattle.hp_machine.specs.declared.truncate.Size.{Size}
use Rattle.hp_machine.specs.declared.truncate.TruncatePhase.{TruncatePhase}
use Rattle.hp_machine.specs.declared.truncate.TruncatePhase.TheVariants as truncate
use Rattle.hp_machine.specs.declared.call.Turn.{Turn}
use Rattle.hp_machine.specs.declared.call.Turn.TheVariants.{Moved}
use Rattle.hp_sequential.specs.Renaming.{Renaming, punch_renamed, truncate_renamed}
use Rattle.hp_sequential.proofs.Names.{some_renamed}
use Rattle.hp_sequential.proofs.Parts.{pool_renamed, Follows, leaf, plain, by_tests, by_like_tests, start_row, want_row, unmap_row}
use Rattle.hp_sequential.proofs.Parts.{evict_row, freed_renamed}

-- a row of a punch, and the same row of the renamed pool, move alike
pub punch_row : {frames : ℕ} {s : Pool} {r : Renaming frames} {turn other : Turn PunchPhase} {new there : Pool}
    (t : ℕ) (killed grant : Bool) (p : PunchPhase)
    → PunchRow s t killed grant p turn new → PunchRow (pool_renamed r s) t killed grant (punch_renamed r.to p) other there
    → Follows PunchPhase punch_renamed frames s r turn new other there
punch_row {s = s} t killed grant (punch.Start p) a b = start_row t killed p.hole.file (is_bad_range s p.hole.from p.hole.len) _ _ _ a b
punch_row t killed grant (punch.Want p) a b = want_row t p.hole.file p.index _ _ a b
punch_row {s = s} {r = r} t killed grant (punch.Locked p) a b =
    by_like_tests (is_some (s.pages p.hole.file p.index)) _ (some_renamed r.to (s.pages p.hole.file p.index)) a b
    (λ _ a b. plain a b refl) (λ _ a b. plain a b refl)
punch_row t killed grant (punch.Unmap p) a b = unmap_row p.task p.hole.file p.index _ _ a b
punch_row t killed grant (punch.Evict p) a b = evict_row p.hole.file p.index _ a b (λ z. refl)
punch_row {s = s} t killed grant (punch.Delete p) a b =
    by_tests (splits (s.reserved p.hole.file) p.index && nat_le (s.spare p.hole.file) (s.pending p.hole.file)
    && not grant) a b (λ _ a b. plain a b refl) (λ _ a b. plain a b refl)
punch_row {s = s} {r = r} t killed grant (punch.Free p) a b =
    by_tests p.denied a b
    (λ _ a b. leaf a b refl (freed_renamed s r p.held (s.resv + 1) s.used) refl)
    (λ _ a b. leaf a.1 b.1 refl (freed_renamed s r p.held s.resv (s.used - 1)) refl)
punch_row t killed grant (punch.Unslot p) a b =
    by_tests (nat_lt (p.index + 1) (p.hole.from + p.hole.len)) a b (λ _ a b. plain a b refl) (λ _ a b. plain a b refl)
punch_row t killed grant (punch.Leave p) a b = plain a b refl

-- the pages end where they did
end_one : (to : ℕ → ℕ) (pages : ℕ → Option ℕ) (a b : ℕ) → IsPagesEnd pages a → IsPagesEnd (λ i. option_map to (pages i)) b → b ≡ a
end_one to pages a b h k =
    let x : b ≤ a = k.1 a (λ i l. ap (option_map to) (h.0 i l)) in
    let y : a ≤ b = h.1 b (λ i l. bare (pages i) (k.0 i l)) in
    omega arith
  where
    bare : (o : Option ℕ) → option_map to o ≡ None → o ≡ None
    bare None e = refl
    bare (Some x) e = (let z : Some (to x) ≡ None = e in absurd (cc))

-- so where a truncation sets the size: the pages end at one place under any names
size_row : {frames : ℕ} {s : Pool} {r : Renaming frames} {turn other : Turn TruncatePhase} {new there : Pool} (p : Size)
    → TruncateSizeRow s p turn new → TruncateSizeRow (pool_renamed r s) p other there
    → Follows TruncatePhase truncate_renamed frames s r turn new other there
size_row {s = s} {r = r} p a b =
    let f = p.truncation.file in
    let same = end_one r.to (s.pages f) a.0 b.0 a.1 b.1 in
    by_like_tests (nat_lt p.truncation.new (max (s.size f) a.0)) (nat_lt p.truncation.new (max (s.size f) b.0))
    (ap (λ (e : ℕ). nat_lt p.truncation.new (max (s.size f) e)) same) a.2 b.2
    (λ _ c d. leaf c d (ap
    (λ (e : ℕ). Moved (truncate.Want
    (record { truncation = p.truncation; index = max (s.size f) e - 1; evicted = 0 }))) same) refl refl)
    (λ _ c d. plain c d refl)

-- and so does each row of a truncation
pub truncate_row : {frames : ℕ} {s : Pool} {r : Renaming frames} {turn other : Turn TruncatePhase} {new there : Pool}
    (t : ℕ) (killed grant : Bool) (p : TruncatePhase)
    → TruncateRow s t killed grant p turn new
    → TruncateRow (pool_renamed r s) t killed grant (truncate_renamed r.to p) other there
    → Follows TruncatePhase truncate_renamed frames s r turn new other there
truncate_row {s = s} t killed grant (truncate.Start p) a b =
    start_row t killed p.truncation.file (nat_lt s.geometry.limit p.truncation.new) _ _ _ a b
truncate_row t killed grant (truncate.Size p) a b = size_row p a b
truncate_row t killed grant (truncate.Want p) a b = want_row t p.truncation.file p.index _ _ a b
truncate_row {s = s} {r = r} t killed grant (truncate.Locked p) a b =
    by_like_tests (is_some (s.pages p.truncation.file p.index)) _
    (some_renamed r.to (s.pages p.truncation.file p.index)) a b (λ _ a b. plain a b refl) (λ _ a b. plain a b refl)
truncate_row t killed grant (truncate.Unmap p) a b = unmap_row p.task p.truncation.file p.index _ _ a b
truncate_row t killed grant (truncate.Evict p) a b = evict_row p.truncation.file p.index _ a b (λ z. refl)
truncate_row {s = s} {r = r} t killed grant (truncate.Free p) a b = leaf a b refl (freed_renamed s r p.held s.resv s.used) refl
truncate_row t killed grant (truncate.Unslot p) a b =
    by_tests (nat_lt p.truncation.new p.index) a b (λ _ a b. plain a b refl) (λ _ a b. plain a b refl)
truncate_row t killed grant (truncate.Tail p) a b = plain a b refl
truncate_row t killed grant (truncate.Settle p) a b = plain a.2 b.2 refl
truncate_row t killed grant (truncate.Leave p) a b = plain a b refl
