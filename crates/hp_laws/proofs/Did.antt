-- What a step did: a write that fits, and where the call goes; then the rows that operations share.
use Rattle.std.proofs.Common.{◌*◌, ◌≡◌, ℕ, zero, suc, ◌+◌, ◌<◌, ◌≤◌, refl, ap, ◌∙◌, subst, arith, inl, inr, ◌-◌, sym, length}
use Rattle.std.specs.Prelude.{Bool, true, false, not, ◌==◌, nat_le, nat_lt, Option, Some, None, IfSome}
use Rattle.std.proofs.lemmas.Bool.Decides.{nat_tests}
use Rattle.hp_base.specs.Numbers.{bit}
use Rattle.hp_base.specs.Indices.{is_within, missing}
use Rattle.hp_base.specs.declared.answer.Answer.{Answer}
use Rattle.hp_base.specs.declared.answer.Answer.TheVariants as answer
use Rattle.hp_frames.proofs.Quotas.{one_within}
use Rattle.hp_region.specs.Change.{Change}
use Rattle.hp_machine.specs.State.{Pool, State, pool_of, frees, slot_of, quota_is_used_up}
use Rattle.hp_machine.specs.Parts.{StartRow, WantSlotRow, TakeRow}
use Rattle.hp_machine.specs.Views.{behind, used_ahead, hand, locked_file, slot_held, wants_slot, wants_lock}
use Rattle.hp_machine.specs.Events.{word_of, outcome_of, left}
use Rattle.hp_machine.specs.declared.outcome.Outcome.{Outcome}
use Rattle.hp_machine.specs.declared.outcome.Outcome.TheVariants as outcome
use Rattle.hp_machine.specs.declared.call.Call.{Call}
use Rattle.hp_machine.specs.declared.call.Turn.{Turn}
use Rattle.hp_machine.specs.declared.call.Turn.TheVariants.{Moved, Blocked, Ended}
use Rattle.hp_laws.specs.Sweep.{fills}
use Rattle.hp_laws.specs.Bounds.{times, sizes, IsTop, WaitsFor}
use Rattle.hp_laws.specs.StepsLeft.{steps_left, unslot_left}
use Rattle.hp_laws.proofs.Deciding.{is_nil, not_nil, lt, le}
use Rattle.hp_laws.proofs.Standing.{IsOne}
use Rattle.hp_laws.proofs.Invariant.{Inv, seen}
use Rattle.hp_laws.proofs.Holding.{shown}
use Rattle.hp_laws.proofs.Shared.{by_test, by_option, idle, free_left, unhanded, own_missing}
use Rattle.hp_laws.proofs.Writes.{Write, written, Nothing, TakesLock, TakesSlot, TakesReserved, TakesFree}
use Rattle.hp_laws.proofs.Fits.{Fit, Fills, Own}

-- the call has a step fewer left at least
abbrev pub Nearer : State → (task : ℕ) → Write → Call → Option Call → Type 0
Nearer s t w c next = (top : ℕ) → IfSome (sizes (Some c)) (λ f. IsTop s f top)
    → steps_left s.geometry (length ((written (pool_of s) t w).mappings t)) top next + 1 ≤ steps_left s.geometry
    (length (s.mappings t)) top (Some c)

-- one more of something is that much more
pub times_next : (n m k : ℕ) → n ≡ m + 1 → times n k ≡ times m k + k
unfolding times
times_next n m k e = ap (λ (j : ℕ). j * k) e ∙ grown m k
  where
    grown : (m k : ℕ) → (m + 1) * k ≡ m * k + k
    grown m k = omega arith

-- the first index of a range
pub first_left : (from len k : ℕ) → 1 ≤ len → times len k ≡ times (from + len - (from + 1)) k + k
first_left from len k l = times_next len (from + len - (from + 1)) k (omega arith)

-- an allocation that carries no answer has as many steps left as its range says
pub left_none : {A : Type 0} (o : Option A) (n k : ℕ) → o ≡ None → k ≤ n → k ≤ unslot_left o n
left_none o n k e l = subst (λ (m : Option _). k ≤ unslot_left m n) (sym e) l

-- one that carries an answer has two steps left at least
pub left_some : {A : Type 0} (o : Option A) (a : A) (n : ℕ) → o ≡ Some a → 2 ≤ unslot_left o n
left_some o a n e = subst (λ (m : Option _). 2 ≤ unslot_left m n) (sym e) (omega arith)

-- the call wrote what fits and went on or ended, or waits
pub data Stepped (s : State) (t : ℕ) (c : Call) : Outcome → Pool → Option Call → Type 0 where
  Wrote : (w : Write) (d : Call) → Nearer s t w c (Some d) → Fit s t (Some c) (Some d) w
      → Stepped s t c (outcome.Moved (word_of d)) (written (pool_of s) t w) (Some d)
  Over : (w : Write) (a : Answer) → Nearer s t w c None → Fit s t (Some c) None w
      → Stepped s t c (outcome.Ended a) (written (pool_of s) t w) None
  Waits : (u : ℕ) → WaitsFor s (Some c) u → Stepped s t c (outcome.Blocked u) (pool_of s) (Some c)

-- so by the turn of its row
abbrev pub Did : {P : Type 0} → (P → Call) → State → (task : ℕ) → P → Turn P → Pool → Type 0
Did call s t here turn new = Stepped s t (call here) (outcome_of call turn) new (left call turn)

-- a leaf's equations put in
pub put_in : {P : Type 0} (D : Turn P → Pool → Type 0) {wanted turn : Turn P} {there new : Pool} → (turn ≡ wanted) × (new ≡ there)
    → D wanted there → D turn new
put_in {P} D {wanted} {turn} {there} {new} e h = subst (λ (p : Turn P × Pool). D p.0 p.1) (pair e.0 e.1) h
  where
    pair : turn ≡ wanted → new ≡ there → ◌≡◌ {A = Turn P × Pool} (wanted, there) (turn, new)
    pair a b = cc

pub went : {P : Type 0} (call : P → Call) (s : State) (t : ℕ) (here next : P) (turn : Turn P) (new : Pool) (w : Write)
    → (turn ≡ Moved next) × (new ≡ written (pool_of s) t w) → Nearer s t w (call here) (Some (call next))
    → Fit s t (Some (call here)) (Some (call next)) w → Did call s t here turn new
went call s t here next turn new w r near y = put_in (Did call s t here) r (Wrote w (call next) near y)

pub over : {P : Type 0} (call : P → Call) (s : State) (t : ℕ) (here : P) (a : Answer) (turn : Turn P) (new : Pool) (w : Write)
    → (turn ≡ Ended a) × (new ≡ written (pool_of s) t w) → Nearer s t w (call here) None → Fit s t (Some (call here)) None w
    → Did call s t here turn new
over call s t here a turn new w r near y = put_in (Did call s t here) r (Over w a near y)

pub waits : {P : Type 0} (call : P → Call) (s : State) (t : ℕ) (here : P) (u : ℕ) (turn : Turn P) (new : Pool)
    → (turn ≡ Blocked here u) × (new ≡ pool_of s) → WaitsFor s (Some (call here)) u → Did call s t here turn new
waits call s t here u turn new r y = put_in (Did call s t here) r (Waits u y)

-- one that ends where it owes, holds and wants nothing
pub ends_fits : (s : State) (t : ℕ) (b : Option Call) → seen None ≡ seen b → Fit s t b None Nothing
ends_fits s t b none = record { same = none; fill = tt; own = idle s.geometry s t }

-- the start of a call on a file
pub start_did : {P : Type 0} (call : P → Call) (s : State) (t : ℕ) (killed : Bool) (f : ℕ) (bad : Bool) (at_kill : Answer) (here next : P)
    (turn : Turn P) (new : Pool)
    → StartRow (pool_of s) t killed f bad at_kill here next turn new
    → seen None ≡ seen (Some (call here)) → shown (Some (call next)) ≡ shown (Some (call here))
    → slot_held (Some (call next)) ≡ slot_held (Some (call here))
    → locked_file (Some (call here)) ≡ None → locked_file (Some (call next)) ≡ Some f → fills (Some (call next)) ≡ None
    → wants_lock (Some (call here)) ≡ Some f → (bad ≡ false → Nearer s t (TakesLock f) (call here) (Some (call next)))
    → Nearer s t Nothing (call here) None
    → (f < s.geometry.files → bad ≡ false → Own s t (TakesLock f) (Some (call next)))
    → Did call s t here turn new
start_did call s t killed f bad at_kill here next turn new row none same slot no_lock lock fill wants near near_end own =
    let ends = ends_fits s t (Some (call here)) none in
    by_test (nat_le s.geometry.files f) row
    (λ _ r. over call s t here answer.BadFile turn new Nothing r near_end ends)
    (λ within r. by_test bad r
    (λ _ r. over call s t here answer.BadRange turn new Nothing r near_end ends)
    (λ good r. by_test killed r
    (λ _ r. over call s t here at_kill turn new Nothing r near_end ends)
    (λ _ r. by_option (s.locks f) r
    (λ free r. went call s t here next turn new (TakesLock f) r (near good) (record {
      free = free;
      same = same;
      slot = slot;
      none = no_lock;
      some = lock;
      fill = fill;
      own = own (below f s.geometry.files within) good;
    }))
    (λ u held r. waits call s t here u turn new r (inr (f, wants, held))))))
  where
    below : (f n : ℕ) → nat_le n f ≡ false → f < n
    below f n d = grind (arith, nat_tests)

-- a slot that is wanted
pub want_did : {P : Type 0} (call : P → Call) (s : State) (t f i : ℕ) (here next : P) (turn : Turn P) (new : Pool)
    → WantSlotRow (pool_of s) t f i here next turn new
    → shown (Some (call next)) ≡ shown (Some (call here)) → locked_file (Some (call next)) ≡ locked_file (Some (call here))
    → slot_held (Some (call here)) ≡ None → slot_held (Some (call next)) ≡ Some (f, i) → fills (Some (call next)) ≡ None
    → wants_slot (Some (call here)) ≡ Some (f, i) → Nearer s t (TakesSlot f i) (call here) (Some (call next))
    → Own s t (TakesSlot f i) (Some (call next)) → Did call s t here turn new
want_did call s t f i here next turn new row same lock none some fill wants near own =
    by_option (s.slots (slot_of s.geometry f i)) row
    (λ free r. went call s t here next turn new (TakesSlot f i) r near
    (record { free = free; same = same; lock = lock; none = none; some = some; fill = fill; own = own }))
    (λ u held r. waits call s t here u turn new r (inl ((f, i), wants, held)))

-- a frame that is taken, by what was missing
pub take_did : {P : Type 0} (call : P → Call) (s : State) (t m : ℕ) (here : P) (refused : Answer → P) (taken : ℕ → P)
    (turn : Turn P) (new : Pool) → Inv s.geometry s → TakeRow (pool_of s) m refused taken turn new
    → record {
      lacks : (a : Answer) → Fit s t (Some (call here)) (Some (call (refused a))) Nothing;
      near_lacks : (a : Answer) → Nearer s t Nothing (call here) (Some (call (refused a)));
      near : (x : ℕ) → Nearer s t Nothing (call here) (Some (call (taken x)));
      few : m ≤ 1;
      unused : used_ahead (Some (call here)) ≡ 0;
      uses : (x : ℕ) → used_ahead (Some (call (taken x))) ≡ m;
      same : (x : ℕ) → unhanded (Some (call (taken x))) ≡ unhanded (Some (call here));
      empty : hand (Some (call here)) ≡ None;
      full : (x : ℕ) → hand (Some (call (taken x))) ≡ Some x;
      owes : (x : ℕ) → behind (Some (call (taken x))) ≡ bit (m == 0);
      free : behind (Some (call here)) ≡ 0;
      fill : (x : ℕ) → Fills s (Some (call (taken x)));
      own : (x : ℕ) → Own s t Nothing (Some (call (taken x)));
    }
    → Did call s t here turn new
take_did call s t m here refused taken turn new h row y =
    by_test (m == 0) row
    (λ none r. went call s t here (taken r.0) turn new (TakesReserved r.0) r.3 (y.near r.0) (record {
      free = r.1;
      low = r.2;
      same = y.same r.0;
      empty = y.empty;
      full = y.full r.0;
      owes = (let a : behind (Some (call (taken r.0))) ≡ 1 = y.owes r.0 ∙ ap bit none in let b = y.free in omega arith);
      owed = (let a : used_ahead (Some (call (taken r.0))) ≡ 0 = y.uses r.0 ∙ is_nil m none in let b = y.unused in omega arith);
      fill = y.fill r.0;
      own = y.own r.0;
    }))
    (λ some r. by_test (quota_is_used_up (pool_of s)) r
    (λ _ r. went call s t here (refused answer.NoQuota) turn new Nothing r (y.near_lacks answer.NoQuota) (y.lacks answer.NoQuota))
    (λ fits r. by_test (frees (pool_of s) == s.resv) r
    (λ _ r. went call s t here (refused answer.NoFrame) turn new Nothing r (y.near_lacks answer.NoFrame) (y.lacks answer.NoFrame))
    (λ left r. went call s t here (taken r.0) turn new (TakesFree r.0) r.2 (y.near r.0) (record {
      free = r.1;
      left = free_left s h left;
      quota = one_within s.geometry.quota s.used fits h.quota;
      same = y.same r.0;
      empty = y.empty;
      full = y.full r.0;
      owes = (let a : behind (Some (call (taken r.0))) ≡ 0 = y.owes r.0 ∙ ap bit some in let b = y.free in omega arith);
      owed =
          (let a : used_ahead (Some (call (taken r.0))) ≡ m = y.uses r.0 in let b = y.unused in let z = y.few in
          let w = not_nil m some in omega arith);
      fill = y.fill r.0;
      own = y.own r.0;
    }))))

-- what a commit of one index balances, where others reserved it meanwhile, and where not
pub commit_balance : (r : ℕ → Bool) (change : Change) (i : ℕ) → IsOne change i → ((change.missing == 0) ≡ true → r i ≡ true)
    → (nat_lt (missing r change.from change.to) change.missing ≡ true
    → (missing r change.from change.to ≡ 0) × (change.missing ≡ 1) × (bit (change.missing == 0) ≡ 0))
    × (nat_lt (missing r change.from change.to) change.missing ≡ false
    → (bit (change.missing == 0) + missing r change.from change.to ≡ 1) × (missing r change.from change.to ≡ change.missing))
commit_balance r change i one marked =
    here (change.missing) (missing r change.from change.to) (r i) one.few (own_missing r change i one) marked
  where
    here : (m k : ℕ) (b : Bool) → m ≤ 1 → k ≡ bit (not b) → ((m == 0) ≡ true → b ≡ true)
        → (nat_lt k m ≡ true → (k ≡ 0) × (m ≡ 1) × (bit (m == 0) ≡ 0)) × (nat_lt k m ≡ false → (bit (m == 0) + k ≡ 1) × (k ≡ m))
    here zero k true l e d = (λ a. (let z = lt k 0 a in absurd (omega arith)), λ a. (omega arith, omega arith))
    here zero k false l e d = (let z : false ≡ true = d refl in absurd (cc))
    here (suc zero) k true l e d = (λ a. (omega arith, refl, refl), λ a. (let z = le k 1 a in absurd (omega arith)))
    here (suc zero) k false l e d = (λ a. (let z = lt k 1 a in absurd (omega arith)), λ a. (omega arith, omega arith))
    here (suc (suc m)) k b l e d = absurd (omega arith)

-- what is missing of a change of one index is what it missed, where nobody reserved the index meanwhile
pub as_missed : (r : ℕ → Bool) (change : Change) (i : ℕ) → IsOne change i → ((change.missing == 0) ≡ true → r i ≡ true)
    → ((change.missing == 0) ≡ false → r i ≡ false) → missing r change.from change.to ≡ change.missing
as_missed r change i one marked unmarked =
    here change.missing (missing r change.from change.to) (r i) (change.missing == 0) refl one.few (own_missing r change i one) marked
    unmarked
  where
    here : (m k : ℕ) (b is : Bool) → (m == 0) ≡ is → m ≤ 1 → k ≡ bit (not b) → ((m == 0) ≡ true → b ≡ true)
        → ((m == 0) ≡ false → b ≡ false) → k ≡ m
    here m k b true z l e has lacks = (let a = is_nil m z in let d : k ≡ 0 = e ∙ ap (λ (c : Bool). bit (not c)) (has z) in omega arith)
    here m k b false z l e has lacks = (let a = not_nil m z in let d : k ≡ 1 = e ∙ ap (λ (c : Bool). bit (not c)) (lacks z) in omega arith)

-- an index in a change of one is that index
pub in_one : (from to i j : ℕ) → from ≡ i → to ≡ i + 1 → is_within from to j ≡ true → i ≡ j
in_one from to i j a b w = let x : from ≤ j = grind (arith, nat_tests) in let z : j < to = grind (arith, nat_tests) in omega arith
