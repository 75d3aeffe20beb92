-- A bank that grows or shrinks is a row of the machine.
use Rattle.std.proofs.Common.{◌≡◌, ℕ, ◌+◌, ◌-◌, ◌<◌, ◌≤◌, List, length, refl, sym, ap, ◌∙◌, subst, arith, inl, inr, ◌⊎◌}
use Rattle.std.proofs.Math.ListN.{get_or-eq_default}
use Rattle.std.specs.Prelude.{true, false, max, min, nat_lt}
use Rattle.std.proofs.lemmas.Bool.Decides.{nat_tests}
use Rattle.std.proofs.lemmas.Bool.{cases_lt}
use Rattle.hp_frames.specs.Bank as bank
use Rattle.hp_frames.specs.Bank.{BankState, HasGrown, HasShrunk, frame_at, free_count}
use Rattle.hp_frames.specs.declared.frame.FrameState.{FrameState}
use Rattle.hp_frames.specs.declared.frame.FrameState.TheVariants.{Free, Hand, Retired}
use Rattle.hp_machine.specs.Resizes.{is_size, ResizeRow, Retires, surplus}
use Rattle.hp_machine.specs.State.{active_frames, actives}
use Rattle.hp_machine.specs.declared.outcome.Outcome.TheVariants as outcome
use Rattle.hp_parts.specs.State.{PartsState}
use Rattle.hp_parts.specs.View.{pool_of}
use Rattle.hp_parts.proofs.Laws.{free_frames_is}
use Rattle.hp_core.proofs.TaskStates.{at_true, at_false}

-- the bank's count of active frames is the machine's
pub actives_is : (xs : List FrameState) → active_frames (frame_at xs) (length xs) ≡ bank.active_frames xs
unfolding active_frames bank.count_of
actives_is xs = refl

-- a frame that isn't there counts as one in a hand
past : (xs : List FrameState) (x : ℕ) → length xs ≤ x → frame_at xs x ≡ Hand
unfolding frame_at
past xs x l = get_or-eq_default xs Hand l

-- a number of frames that a pool may have
pub sized : (n : ℕ) → 1 ≤ n → n ≤ 4096 → is_size n ≡ true
sized n low high = grind (arith, nat_tests)

-- a bank that has grown
pub grown_row : (p : PartsState) (new : BankState) (n k : ℕ) → is_size n ≡ true → n ≡ bank.active_frames p.bank.frames + k → 0 < k
    → HasGrown p.bank.frames new.frames k → new ≡ record p.bank { frames = new.frames; capacity = new.capacity }
    → ResizeRow (pool_of p) n (outcome.Resized n) (pool_of (record p { bank = new }))
unfolding ResizeRow
grown_row p new n k size all some h rest =
    let is = actives_is p.bank.frames in
    let wide : length new.frames ≡ max (length p.bank.frames) n = let w = h.wide in omega (arith, w, all) in
    let more : nat_lt (actives (pool_of p)) n ≡ true = grind (arith, nat_tests, is, all, some) in
    at_true _ _ (is_size n) size (
      frame_at new.frames,
      at_true _ _ (nat_lt (actives (pool_of p)) n) more (
        record {
          count = subst (λ (m : ℕ). active_frames (frame_at new.frames) m ≡ n) wide (actives_is new.frames ∙ (h.count ∙ sym all));
          each = h.each;
          fresh = λ x l m. h.fresh x l (omega (arith, wide, m));
          beyond = λ x l. past new.frames x (omega (arith, wide, l)) ∙ sym (past p.bank.frames x (omega (arith, wide, l)));
        },
        refl,
        ap (λ (b : BankState). pool_of (record p { bank = b })) rest
            ∙ ap (λ (m : ℕ). record (pool_of p) { frames = m; frame = frame_at new.frames }) wide,
      ),
    )

-- and one that has shrunk
pub shrunk_row : (p : PartsState) (new : BankState) (n now k : ℕ) → is_size n ≡ true → now ≡ bank.active_frames p.bank.frames → n ≤ now
    → k ≡ min (now - n) (free_count p.bank - p.bank.resv)
    → HasShrunk p.bank.frames new.frames k → new ≡ record p.bank { frames = new.frames }
    → ResizeRow (pool_of p) n (outcome.Resized (now - k)) (pool_of (record p { bank = new }))
unfolding ResizeRow
shrunk_row p new n now k size there few is_surplus h rest =
    let is : actives (pool_of p) ≡ now = actives_is p.bank.frames ∙ sym there in
    let free = free_frames_is p.bank.frames in
    let wide = h.wide in
    let fewer : nat_lt (actives (pool_of p)) n ≡ false = grind (arith, nat_tests, is, few) in
    let same : k ≡ surplus (pool_of p) n = omega (arith, is, free, is_surplus) in
    at_true _ _ (is_size n) size (
      frame_at new.frames,
      at_false _ _ (nat_lt (actives (pool_of p)) n) fewer (
        subst (λ (m : ℕ). Retires (pool_of p) m (frame_at new.frames)) same (record {
          count =
              (let a = actives_is new.frames in let b = h.count in
              let c : active_frames (frame_at new.frames) (length p.bank.frames) ≡ bank.active_frames new.frames =
              subst (λ (m : ℕ). active_frames (frame_at new.frames) m ≡ bank.active_frames new.frames) wide a in
              omega (arith, b, c, is, there));
          each = λ x. each x (cases_lt x (length p.bank.frames));
        }),
        (λ i. outcome.Resized (sym is i - same i)),
        ap (λ (b : BankState). pool_of (record p { bank = b })) rest
            ∙ ap (λ (m : ℕ). record (pool_of p) { frames = m; frame = frame_at new.frames }) wide,
      ),
    )
  where
    each : (x : ℕ) → (x < length p.bank.frames) ⊎ (length p.bank.frames ≤ x) → (frame_at new.frames x ≡ frame_at p.bank.frames x)
        ⊎ ((x < length p.bank.frames) × (frame_at p.bank.frames x ≡ Free) × (frame_at new.frames x ≡ Retired))
    each x (inl l) = elim (h.each x l) [ inl a ↦ inl a | inr a ↦ inr (l, a.0, a.1) ]
    each x (inr l) = let wide = h.wide in inl (past new.frames x (omega (arith, wide, l)) ∙ sym (past p.bank.frames x l))
