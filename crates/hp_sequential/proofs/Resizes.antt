-- A resize, done to a pool and to that pool with its frames renamed.
use Rattle.std.proofs.Common.{◌≡◌, ◌≢◌, ℕ, ◌+◌, ◌-◌, ◌<◌, ◌≤◌, refl, ap, sym, ◌∙◌, arith, inl, inr}
use Rattle.std.proofs.Math.Path.{fun_ext}
use Rattle.std.proofs.lemmas.Bool.Decides.{nat_tests}
use Rattle.std.specs.Prelude.{true, false, ◌&&◌, max, min, nat_le, nat_lt, if◌then◌else◌}
use Rattle.hp_base.specs.Indices.{count_below}
use Rattle.hp_frames.specs.Bank.{is_active, is_retired}
use Rattle.hp_frames.specs.declared.frame.FrameState.{FrameState}
use Rattle.hp_frames.specs.declared.frame.FrameState.TheVariants.{Free, Retired}
use Rattle.hp_machine.specs.Resizes.{is_size, GrowsTo, Retires, surplus, ResizeRow}
use Rattle.hp_machine.specs.State.{Pool, active_frames, actives, frees}
use Rattle.hp_machine.specs.declared.outcome.Outcome.{Outcome}
use Rattle.hp_machine.specs.declared.outcome.Outcome.TheVariants.{Resized}
use Rattle.hp_sequential.specs.Renaming.{Renaming}
use Rattle.std.proofs.lemmas.Bool.{cases_lt}
use Rattle.hp_base.proofs.Counting.{count_below-not}
use Rattle.hp_sequential.proofs.Flips.{Flips, FlipsAlike, flips_alike}
use Rattle.hp_sequential.proofs.Names.{as_many, wider, fixed_back, back_below}
use Rattle.hp_sequential.proofs.Parts.{pool_renamed, IsUsed, Used, by_tests, by_like_tests}
use Rattle.hp_sequential.proofs.Parts.{actives_renamed, frees_renamed, elsewhere}

-- numbers from `frames` on to `more` are free frames
with_fresh : (frames more : ℕ) → (ℕ → FrameState) → ℕ → FrameState
with_fresh frames more frame x = if nat_le frames x && nat_lt x more then Free else frame x

-- a frame below them is where it was
fresh_below : (frames more : ℕ) (frame : ℕ → FrameState) (x : ℕ) → x < frames → with_fresh frames more frame x ≡ frame x
unfolding with_fresh
fresh_below frames more frame x l = grind (arith, nat_tests)

-- so is one above them
fresh_past : (frames more : ℕ) (frame : ℕ → FrameState) (x : ℕ) → more ≤ x → with_fresh frames more frame x ≡ frame x
unfolding with_fresh
fresh_past frames more frame x l = grind (arith, nat_tests)

-- they are free
fresh_free : (frames more : ℕ) (frame : ℕ → FrameState) (x : ℕ) → frames ≤ x → x < more → with_fresh frames more frame x ≡ Free
unfolding with_fresh
fresh_free frames more frame x l m = grind (arith, nat_tests)

-- no new frame is retired
fresh_used : (frames more : ℕ) (frame : ℕ → FrameState) (x : ℕ) → frame x ≢ Retired → with_fresh frames more frame x ≢ Retired
unfolding with_fresh
fresh_used frames more frame x h e = elim (nat_le frames x && nat_lt x more) as
    (λ b. (if b then Free else frame x) ≡ Retired → ⊥) [ true ↦ λ d. (cc) | false ↦ λ d. h d ] e

-- a number that isn't a frame keeps its name, so it is new under any names
fresh_above : {frames : ℕ} (more : ℕ) (r : Renaming frames) (frame : ℕ → FrameState) (y : ℕ) → frames ≤ y
    → with_fresh frames more (λ z. frame (r.back z)) y ≡ with_fresh frames more frame (r.back y)
unfolding with_fresh
fresh_above {frames} more r frame y l =
    ap (λ z. if nat_le frames z && nat_lt z more then Free else frame (r.back y)) (sym (fixed_back r y l))

-- so the new frames are the same under any names
fresh_renamed : {frames : ℕ} (more : ℕ) (r : Renaming frames) (frame : ℕ → FrameState)
    → ◌≡◌ {A = ℕ → FrameState} (with_fresh frames more (λ y. frame (r.back y))) (λ y. with_fresh frames more frame (r.back y))
fresh_renamed {frames} more r frame = fun_ext (λ y. elim (cases_lt y frames) [
  | inl l ↦
      fresh_below frames more (λ z. frame (r.back z)) y l ∙ sym (fresh_below frames more frame (r.back y) (back_below r y l))
  | inr l ↦ fresh_above more r frame y l
])

-- a pool that grows has free frames in the new numbers, and retired frames of it flip to free ones
grown_flips : (s : Pool) (n : ℕ) (frame : ℕ → FrameState) → GrowsTo s n frame
    → Flips (max s.frames n) Retired Free (with_fresh s.frames (max s.frames n) s.frame) frame
grown_flips s n frame h x = elim (cases_lt x s.frames) [
  | inl l ↦
      let was = fresh_below s.frames (max s.frames n) s.frame x l in
      elim (h.each x l) [ inl same ↦ inl (same ∙ sym was) | inr flip ↦ inr (omega arith, was ∙ flip.0, flip.1) ]
  | inr l ↦ elim (cases_lt x (max s.frames n)) [
    | inl m ↦ inl (h.fresh x l m ∙ sym (fresh_free s.frames (max s.frames n) s.frame x l m))
    | inr m ↦ inl (h.beyond x m ∙ sym (fresh_past s.frames (max s.frames n) s.frame x m))
  ]
]

-- once both pools have n frames, as many are retired in both
grown_alike : (s : Pool) (r : Renaming s.frames) (n : ℕ) (frame frame' : ℕ → FrameState) (l : s.frames ≤ max s.frames n)
    → GrowsTo s n frame → GrowsTo (pool_renamed r s) n frame'
    → FlipsAlike FrameState (max s.frames n) Retired (wider l r) (with_fresh s.frames (max s.frames n) s.frame) frame frame'
unfolding wider active_frames
grown_alike s r n frame frame' l h k =
    let size : count_below (λ x. is_active (frame x)) (max s.frames n) ≡ n = h.count in
    let size' : count_below (λ x. is_active (frame' x)) (max s.frames n) ≡ n = k.count in
    let all = count_below-not (λ x. is_retired (frame x)) (max s.frames n) in
    let all' = count_below-not (λ x. is_retired (frame' x)) (max s.frames n) in
    flips_alike (wider l r) is_retired Retired Free (with_fresh s.frames (max s.frames n) s.frame) frame
    (with_fresh s.frames (max s.frames n) (λ y. s.frame (r.back y))) frame' refl refl (fresh_renamed (max s.frames n) r s.frame)
    (grown_flips s n frame h) (grown_flips (pool_renamed r s) n frame' k) (omega arith)

-- as many are left over
surplus_renamed : (s : Pool) (r : Renaming s.frames) (n : ℕ) → surplus (pool_renamed r s) n ≡ surplus s n
surplus_renamed s r n =
    ap (λ (k : ℕ). min (k - n) (frees (pool_renamed r s) - s.resv)) (actives_renamed s r refl)
    ∙ ap (λ (k : ℕ). min (actives s - n) (k - s.resv)) (frees_renamed s r refl)

-- and as many are retired
shrunk_alike : (s : Pool) (r : Renaming s.frames) (n : ℕ) (frame frame' : ℕ → FrameState)
    → Retires s (surplus s n) frame → Retires (pool_renamed r s) (surplus (pool_renamed r s) n) frame'
    → FlipsAlike FrameState s.frames Free r s.frame frame frame'
unfolding active_frames
shrunk_alike s r n frame frame' h k =
    let left : count_below (λ x. is_active (frame x)) s.frames + surplus s n ≡ actives s = h.count in
    let left' : count_below (λ x. is_active (frame' x)) s.frames + surplus (pool_renamed r s) n ≡ actives (pool_renamed r s) =
    k.count in
    let many = surplus_renamed s r n in
    let all = actives_renamed s r refl in
    flips_alike r is_active Free Retired s.frame frame (λ y. s.frame (r.back y)) frame' refl refl refl h.each k.each (omega arith)

-- A resize tells the same of both pools, and leads to pools that are each other with their frames renamed, under names
-- by which each frame in use is called as before
pub record ResizeFollows (s : Pool) (r : Renaming s.frames) (o : Outcome) (new : Pool) (o' : Outcome) (new' : Pool) : Type 0 where
  pub names : Renaming new.frames
  pub keeps : (x : ℕ) → IsUsed (s.frame x) → names.to x ≡ r.to x
  pub tells : o' ≡ o
  pub pools : new' ≡ pool_renamed names new

-- so it is where the frames are each other renamed
follows : (s : Pool) (r : Renaming s.frames) (n : ℕ) (frame frame' : ℕ → FrameState) (names : Renaming n)
    {o o' wanted : Outcome} {new new' : Pool}
    → Used s.frames s → ((x : ℕ) → IsUsed (s.frame x) → names.to x ≡ r.to x) → frame' ≡ (λ y. frame (names.back y))
    → (o ≡ wanted) × (new ≡ record s { frames = n; frame = frame })
    → (o' ≡ wanted) × (new' ≡ record (pool_renamed r s) { frames = n; frame = frame' })
    → ResizeFollows s r o new o' new'
unfolding wider
follows s r n frame frame' names h keeps same a b = record {
  names = wider (as_many (ap (λ (m : Pool). m.frames) a.1)) names;
  keeps = keeps;
  tells = b.0 ∙ sym a.0;
  pools = b.1 ∙ (elsewhere s r names n s.resv s.used frame frame' h keeps same ∙ sym (ap (pool_renamed names) a.1));
}

-- the row, and the same row of the renamed pool
pub resize_row : (s : Pool) (r : Renaming s.frames) (n : ℕ) (o o' : Outcome) (new new' : Pool)
    → Used s.frames s → ResizeRow s n o new → ResizeRow (pool_renamed r s) n o' new' → ResizeFollows s r o new o' new'
unfolding ResizeRow wider
resize_row s r n o o' new new' h a b =
    by_tests (is_size n) a b
    (λ _ a b. by_like_tests (nat_lt (actives s) n) (nat_lt (actives (pool_renamed r s)) n)
    (ap (λ (k : ℕ). nat_lt k n) (actives_renamed s r refl)) a.1 b.1
    (λ _ c d.
    let grown = grown_alike s r n a.0 b.0 (omega arith) c.0 d.0 in
    follows s r (max s.frames n) a.0 b.0 grown.names h
    (λ x used. grown.keeps x (fresh_used s.frames (max s.frames n) s.frame x used.1)) grown.same (c.1, c.2) (d.1, d.2))
    (λ _ c d.
    let shrunk = shrunk_alike s r n a.0 b.0 c.0 d.0 in
    let left : actives (pool_renamed r s) - surplus (pool_renamed r s) n ≡ actives s - surplus s n =
    ap (λ (k : ℕ). k - surplus (pool_renamed r s) n) (actives_renamed s r refl)
    ∙ ap (λ (k : ℕ). actives s - k) (surplus_renamed s r n) in
    follows s r s.frames a.0 b.0 shrunk.names h (λ x used. shrunk.keeps x used.0) shrunk.same (c.1, c.2)
    (d.1 ∙ ap (λ (k : ℕ). Resized k) left, d.2)))
    (λ _ a b. follows s r s.frames s.frame (λ y. s.frame (r.back y)) r h (λ x used. refl) refl a b)
