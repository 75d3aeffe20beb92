-- The steps that touches and allocations share, as entries: slots, takes, commits, and pages that are placed or given back.
use Rattle.std.proofs.Common.{◌≡◌, ℕ, zero, suc, ◌+◌, ◌-◌, ◌<◌, ◌≤◌, refl, ap, sym, ◌∙◌, subst, arith, inl, inr}
use Rattle.std.specs.Prelude.{◌==◌, Bool, true, false, not, Option, Some, None, [], ◌∷◌, nat_lt}
use Rattle.hp_base.specs.Indices.{add_range, missing}
use Rattle.hp_base.specs.Numbers.{put, put2, bit}
use Rattle.hp_base.specs.declared.answer.Answer.{Answer}
use Rattle.hp_base.specs.declared.answer.Answer.TheVariants as answer
use Rattle.hp_base.proofs.Puts.{put_same, put_other, put2_tells}
use Rattle.hp_frames.specs.declared.frame.FrameState.TheVariants as frame
use Rattle.hp_region.specs.Change.{Change}
use Rattle.hp_machine.specs.State.{Pool, pool_of, slot_of, frees, quota_is_used_up}
use Rattle.hp_machine.specs.Events.{left}
use Rattle.hp_machine.specs.Headline.{all_behind, all_ahead}
use Rattle.hp_machine.specs.Parts.{WantSlotRow, TakeRow, CommitRow, committed, unslotted, placed, restored}
use Rattle.hp_machine.specs.Views.{behind, ahead, hand}
use Rattle.hp_machine.specs.declared.call.Call.{Call}
use Rattle.hp_machine.specs.declared.call.Turn.{Turn}
use Rattle.hp_laws.proofs.Deciding.{lt, le, clash}
use Rattle.hp_laws.proofs.Shared.{by_test, by_option, own_missing, own_reserved}
use Rattle.hp_laws.proofs.Standing.{IsOne}
use Rattle.hp_accounts.specs.Books.{Mark, Away, At, Bare, Entered, place_of, bare_of}
use Rattle.hp_accounts.specs.Entries.{TakesSlot, LeavesSlot, Looks, Finds, Takes, Frees, Places}
use Rattle.hp_accounts.specs.Entries.{Spends, GivesBack, Ignores, Commits, Deletes}
use Rattle.hp_linux_laws.specs.MayRows.{UntalliedSettleOneRow}
use Rattle.hp_linux_laws.specs.RepairedRows.{AccountedCommitRow}
use Rattle.hp_linux_laws.proofs.Standing.{Stands}
use Rattle.hp_linux_laws.proofs.Stepping.{From, Booked, seen, same_hands, in_hand, owes, quiet, went, waits}

-- what the own table of a task keeps where nothing of it changes
abbrev pub KnownAt : (c : Call) → From c → Mark → Option Call → Type 0
KnownAt c k m next = Stands k.state.geometry k.careful (k.state.mappings k.task) (k.state.entries k.task) m next

-- the slot is taken, or another holds it
pub wants_slot : {P : Type 0} (call : P → Call) (c : Call) (k : From c) (f i : ℕ) (here next : P) (turn : Turn P) (new : Pool)
    → WantSlotRow (pool_of k.state) k.task f i here next turn new → c ≡ call here → seen (Some (call next)) ≡ seen (Some c)
    → f < k.state.geometry.files → i < k.state.geometry.limit → k.marks k.task ≡ Away
    → ((m : Mark) → m ≡ At f i → KnownAt c k m (Some (call next))) → Booked c k new (left call turn)
wants_slot {P} call c k f i here next turn new row is same file index away known =
    by_option (k.state.slots (slot_of k.state.geometry f i)) row
    (λ free r. went call c k next _ turn new r (record {
      es = TakesSlot k.task f i ∷ [];
      may = ((file, index, free, away), tt);
      careful = λ e. (tt, tt);
      exact = λ e. refl;
      tables = refl;
      hands = inl (same_hands c k (Some (call next)) (ap (λ p. p.0) same));
      owed = ap (λ (n : ℕ). all_behind k.state + n) (sym (ap (λ p. p.1) same));
      promised = ap (λ (n : ℕ). all_ahead k.state + n) (sym (ap (λ p. p.2) same));
      marks = λ u d. put_other k.marks k.task (At f i) u d;
      count = omega arith;
      stands = known (put k.marks k.task (At f i) k.task) (put_same k.marks k.task (At f i));
      others = λ u d. (refl, λ v x e. e);
      ranges = k.ranges;
      fits = k.fits;
    }))
    (λ u held r. waits call c k here u turn new r
    (subst (λ (d : Call). Booked c k (pool_of k.state) (Some d)) is (quiet c k (pool_of k.state) (Some c) refl refl refl k.stands k.fits)))

-- it is left
pub leaves_slot : (c : Call) (k : From c) (f i : ℕ) (next : Option Call) → seen next ≡ seen (Some c)
    → place_of (k.marks k.task) ≡ Some (f, i) → ((m : Mark) → m ≡ Away → KnownAt c k m next)
    → Booked c k (unslotted (pool_of k.state) f i) next
leaves_slot c k f i next same held known = record {
  es = LeavesSlot k.task f i ∷ [];
  may = (held, tt);
  careful = λ e. (tt, tt);
  exact = λ e. refl;
  tables = refl;
  hands = inl (same_hands c k next (ap (λ p. p.0) same));
  owed = ap (λ (n : ℕ). all_behind k.state + n) (sym (ap (λ p. p.1) same));
  promised = ap (λ (n : ℕ). all_ahead k.state + n) (sym (ap (λ p. p.2) same));
  marks = λ u d. put_other k.marks k.task Away u d;
  count = omega arith;
  stands = known (put k.marks k.task Away k.task) (put_same k.marks k.task Away);
  others = λ u d. (refl, λ v x e. e);
  ranges = k.ranges;
  fits = k.fits;
}

-- under it a holder finds no page
pub looks : (c : Call) (k : From c) (f i : ℕ) (next : Call) → seen (Some next) ≡ seen (Some c)
    → place_of (k.marks k.task) ≡ Some (f, i) → k.state.pages f i ≡ None → ((m : Mark) → m ≡ Bare f i → KnownAt c k m (Some next))
    → Booked c k (pool_of k.state) (Some next)
looks c k f i next same held none known = record {
  es = Looks k.task f i ∷ [];
  may = ((held, none), tt);
  careful = λ e. (tt, tt);
  exact = λ e. refl;
  tables = refl;
  hands = inl (same_hands c k (Some next) (ap (λ p. p.0) same));
  owed = ap (λ (n : ℕ). all_behind k.state + n) (sym (ap (λ p. p.1) same));
  promised = ap (λ (n : ℕ). all_ahead k.state + n) (sym (ap (λ p. p.2) same));
  marks = λ u d. put_other k.marks k.task (Bare f i) u d;
  count = omega arith;
  stands = known (put k.marks k.task (Bare f i) k.task) (put_same k.marks k.task (Bare f i));
  others = λ u d. (refl, λ v x e. e);
  ranges = k.ranges;
  fits = k.fits;
}

-- a frame is taken: a reserved one, which is spent, or another
pub takes : {P : Type 0} (call : P → Call) (c : Call) (k : From c) (m : ℕ) (refused : Answer → P) (taken : ℕ → P) (turn : Turn P)
    (new : Pool) → TakeRow (pool_of k.state) m refused taken turn new
    → ((a : Answer) → Booked c k (pool_of k.state) (Some (call (refused a))))
    → seen (Some c) ≡ (None, 0, 0) → ((x : ℕ) → seen (Some (call (taken x))) ≡ (Some x, bit (m == 0), 0))
    → ((x : ℕ) → KnownAt c k (k.marks k.task) (Some (call (taken x)))) → Booked c k new (left call turn)
takes {P} call c k m refused taken turn new row lacks was is known =
    let empty : k.hands k.task ≡ None = in_hand c k ∙ ap (λ p. p.0) was in
    let before : behind (Some c) ≡ 0 = ap (λ p. p.1) was in
    let nothing : ahead (Some c) ≡ 0 = ap (λ p. p.2) was in
    let handed = λ (x : ℕ). ap (λ (o : Option ℕ). put k.hands k.task o) (sym (ap (λ p. p.0) (is x))) in
    let now = λ (x : ℕ). ap (λ p. p.1) (is x) in
    let promises = λ (x : ℕ). ap (λ p. p.2) (is x) in
    by_test (m == 0) row
    (λ nil r. went call c k (taken r.0) _ turn new r.3 (record {
      es = Takes k.task r.0 ∷ Spends 1 ∷ [];
      may = ((r.1, empty), (tt, tt));
      careful = λ e. (tt, (tt, tt));
      exact = λ e. refl;
      tables = refl;
      hands = inl (handed r.0);
      owed = (let a = now r.0 in let b = ap bit nil in omega arith);
      promised = (let a = promises r.0 in omega arith);
      marks = λ u d. refl;
      count = (let a = r.2 in omega arith);
      stands = known r.0;
      others = λ u d. (refl, λ v x e. e);
      ranges = k.ranges;
      fits = k.fits;
    }))
    (λ some r. by_test (quota_is_used_up (pool_of k.state)) r
    (λ _ r. went call c k (refused answer.NoQuota) _ turn new r (lacks answer.NoQuota))
    (λ _ r. by_test (frees (pool_of k.state) == k.state.resv) r
    (λ _ r. went call c k (refused answer.NoFrame) _ turn new r (lacks answer.NoFrame))
    (λ _ r. went call c k (taken r.0) _ turn new r.2 (record {
      es = Takes k.task r.0 ∷ [];
      may = ((r.1, empty), tt);
      careful = λ e. (tt, tt);
      exact = λ e. refl;
      tables = refl;
      hands = inl (handed r.0);
      owed = (let a = now r.0 in let b = ap bit some in omega arith);
      promised = (let a = promises r.0 in omega arith);
      marks = λ u d. refl;
      count = omega arith;
      stands = known r.0;
      others = λ u d. (refl, λ v x e. e);
      ranges = k.ranges;
      fits = k.fits;
    }))))

-- what a commit is to know of the calls: before it, the next one, and of the change
pub record Committing (c : Call) (k : From c) (f i : ℕ) (change : Change) (next : Call) (after : ℕ) : Type 0 where
  pub file : f < k.state.geometry.files
  pub index : i < k.state.geometry.limit
  pub one : IsOne change i
  pub bare : k.marks k.task ≡ Bare f i
  pub held : hand (Some next) ≡ hand (Some c)
  pub owes : behind (Some c) ≡ bit (change.missing == 0)
  pub owed : behind (Some next) ≡ after
  pub promised : (ahead (Some c) ≡ 0) × (ahead (Some next) ≡ 0)
  pub known : (m : Mark) → m ≡ Entered f i → KnownAt c k m (Some next)

-- of what it adds so much is owed from then on, and so much ignored; so much of what is owed is given back at once
commits : (c : Call) (k : From c) (f i : ℕ) (change : Change) (next : Call) (after o l back resv : ℕ)
    → Committing c k f i change next after → back ≤ o → bit (change.missing == 0) + o ≡ after + back
    → o + l ≡ missing (k.state.reserved f) change.from change.to → resv ≡ k.state.resv + back → (k.exact ≡ true → l ≡ 0)
    → Booked c k (record (committed (pool_of k.state) f change) { resv = resv }) (Some next)
commits c k f i change next after o l back resv y low owed parts raised none = record {
  es = Commits f change.from change.to 0 o l ∷ Finds k.task f i ∷ GivesBack back ∷ [];
  may = (
    (y.file, (let a = y.one.ends in let b = y.index in omega arith), omega arith, added parts),
    ((ap bare_of y.bare, own_reserved k.state f i change y.one), ((omega arith), tt)),
  );
  careful = λ e. (tt, (tt, (tt, tt)));
  exact = λ e. (let z = none e in omega arith);
  tables = refl;
  hands = inl (same_hands c k (Some next) y.held);
  owed = (let a = y.owes in let b = y.owed in omega arith);
  promised = (let a = y.promised.0 in let b = y.promised.1 in omega arith);
  marks = λ u d. put_other k.marks k.task (Entered f i) u d;
  count = omega arith;
  stands = y.known (put k.marks k.task (Entered f i) k.task) (put_same k.marks k.task (Entered f i));
  others = λ u d. (refl, λ v x e. e);
  ranges = k.ranges;
  fits = k.fits;
}
  where
    added : {n : ℕ} → o + l ≡ n → 0 + o + l ≡ n
    added e = omega arith

-- a change of one index misses none or one
few : (r : ℕ → Bool) (change : Change) (i : ℕ) → IsOne change i → missing r change.from change.to ≤ 1
few r change i one = here (r i) (own_missing r change i one)
  where
    here : (b : Bool) {n : ℕ} → n ≡ bit (not b) → n ≤ 1
    here true e = omega arith
    here false e = omega arith

is_one : (m : ℕ) → m ≤ 1 → bit (m == 0) + m ≡ 1
is_one zero l = refl
is_one (suc zero) l = refl
is_one (suc (suc m)) l = absurd (omega arith)

-- by Linux's rows what is added beyond the change is ignored
pub commit_ignores : {P : Type 0} (call : P → Call) (c : Call) (k : From c) (f i : ℕ) (change : Change) (settle next : P) (turn : Turn P)
    (new : Pool) → k.exact ≡ false → CommitRow (pool_of k.state) f change settle next turn new
    → Committing c k f i change (call settle) 0 → Committing c k f i change (call next) 1 → Booked c k new (left call turn)
commit_ignores {P} call c k f i change settle next turn new loose row y z =
    let m = missing (k.state.reserved f) change.from change.to in
    let a = is_one change.missing y.one.few in
    let b = few (k.state.reserved f) change i y.one in
    by_test (nat_lt m change.missing) row
    (λ fewer r. went call c k settle _ turn new r
    (commits c k f i change (call settle) 0 0 0 0 k.state.resv y (omega arith) (let w = lt m change.missing fewer in omega arith)
    (let w = lt m change.missing fewer in let q = y.one.few in omega arith) (omega arith) (λ e. refl)))
    (λ all r. went call c k next _ turn new r
    (commits c k f i change (call next) 1 change.missing (m - change.missing) 0 k.state.resv z (omega arith) (omega arith)
    (let w = le m change.missing all in omega arith) (omega arith) (λ e. clash k.exact e loose)))

-- by repaired rows the count is raised for it
pub commit_accounts : {P : Type 0} (call : P → Call) (c : Call) (k : From c) (f i : ℕ) (change : Change) (settle next : P) (turn : Turn P)
    (new : Pool) → AccountedCommitRow (pool_of k.state) f change settle next turn new
    → Committing c k f i change (call settle) 0 → Committing c k f i change (call next) 1 → Booked c k new (left call turn)
commit_accounts {P} call c k f i change settle next turn new row y z =
    let m = missing (k.state.reserved f) change.from change.to in
    let a = is_one change.missing y.one.few in
    by_test (nat_lt m change.missing) row
    (λ fewer r. went call c k settle _ turn new r
    (commits c k f i change (call settle) 0 0 0 0 k.state.resv y (omega arith) (let w = lt m change.missing fewer in omega arith)
    (let w = lt m change.missing fewer in let q = y.one.few in omega arith) (omega arith) (λ e. refl)))
    (λ all r. went call c k next _ turn new r
    (commits c k f i change (call next) 1 m 0 (m - change.missing) (k.state.resv + (m - change.missing)) z (omega arith)
    (let w = le m change.missing all in omega arith) (omega arith) refl (λ e. refl)))

-- one reservation is given back
pub settles_one : {P : Type 0} (call : P → Call) (c : Call) (k : From c) (next : P) (turn : Turn P) (new : Pool)
    → UntalliedSettleOneRow (pool_of k.state) next turn new → hand (Some (call next)) ≡ hand (Some c)
    → (behind (Some c) ≡ 0) × (behind (Some (call next)) ≡ 1) × (ahead (Some (call next)) ≡ ahead (Some c))
    → KnownAt c k (k.marks k.task) (Some (call next)) → Booked c k new (left call turn)
settles_one {P} call c k next turn new (low, r) held (was, is, same) known = went call c k next _ turn new r (record {
  es = Spends 1 ∷ [];
  may = (tt, tt);
  careful = λ e. (tt, tt);
  exact = λ e. refl;
  tables = refl;
  hands = inl (same_hands c k (Some (call next)) held);
  owed = omega arith;
  promised = omega arith;
  marks = λ u d. refl;
  count = omega arith;
  stands = known;
  others = λ u d. (refl, λ v x e. e);
  ranges = k.ranges;
  fits = k.fits;
})

-- the page is placed
pub places : (c : Call) (k : From c) (f i x : ℕ) (next : Call) → seen (Some c) ≡ (Some x, 1, 0) → seen (Some next) ≡ (None, 0, 0)
    → k.marks k.task ≡ Entered f i → i < k.state.geometry.limit → ((m : Mark) → m ≡ At f i → KnownAt c k m (Some next))
    → Booked c k (placed (pool_of k.state) f i x) (Some next)
places c k f i x next was is entered index known =
    let o = owes c k in
    let a = ap (λ p. p.1) was in
    let b = ap (λ p. p.2) was in
    let d = ap (λ p. p.1) is in
    let z = ap (λ p. p.2) is in
    record {
      es = Places k.task f i x ∷ [];
      may = ((ap bare_of entered, in_hand c k ∙ ap (λ p. p.0) was, (omega arith)), tt);
      careful = λ e. (entered, tt);
      exact = λ e. refl;
      tables = refl;
      hands = inl (ap (λ (o : Option ℕ). put k.hands k.task o) (sym (ap (λ p. p.0) is)));
      owed = omega arith;
      promised = omega arith;
      marks = λ u d. put_other k.marks k.task (At f i) u d;
      count = omega arith;
      stands = known (put k.marks k.task (At f i) k.task) (put_same k.marks k.task (At f i));
      others = λ u d. (refl, λ v x e. e);
      ranges = k.ranges;
      fits = (
        k.fits.0,
        λ g j y e. elim (put2_tells k.state.pages f i (Some x) g j) [
          | inl q ↦ (let w = q.1 in omega arith)
          | inr q ↦ k.fits.1 g j y (sym q.1 ∙ e)
        ],
      );
    }

-- a frame is given back with its reservation
pub restores : (c : Call) (k : From c) (f i x : ℕ) (next : Call) → seen (Some c) ≡ (Some x, 1, 0) → seen (Some next) ≡ (None, 0, 0)
    → KnownAt c k (k.marks k.task) (Some next) → Booked c k (restored (pool_of k.state) x) (Some next)
restores c k f i x next was is known =
    let o = owes c k in
    let a = ap (λ p. p.1) was in
    let b = ap (λ p. p.2) was in
    let d = ap (λ p. p.1) is in
    let z = ap (λ p. p.2) is in
    record {
      es = Frees k.task x ∷ GivesBack 1 ∷ [];
      may = (in_hand c k ∙ ap (λ p. p.0) was, ((omega arith), tt));
      careful = λ e. (tt, (tt, tt));
      exact = λ e. refl;
      tables = refl;
      hands = inl (ap (λ (o : Option ℕ). put k.hands k.task o) (sym (ap (λ p. p.0) is)));
      owed = omega arith;
      promised = omega arith;
      marks = λ u d. refl;
      count = omega arith;
      stands = known;
      others = λ u d. (refl, λ v x e. e);
      ranges = k.ranges;
      fits = k.fits;
    }

-- or without it, and its index leaves the map: where it wasn't in it any more, what is owed for it is ignored
pub backs_out : (c : Call) (k : From c) (f i x n : ℕ) (next : Call) → k.exact ≡ false → seen (Some c) ≡ (Some x, 1, 0)
    → seen (Some next) ≡ (None, 0, 0) → k.marks k.task ≡ Entered f i
    → ((m : Mark) → m ≡ Bare f i → KnownAt c k m (Some next))
    → Booked c k (record (pool_of k.state) {
      frame = put k.state.frame x frame.Free;
      reserved = put2 k.state.reserved f i false;
      used = n;
    }) (Some next)
backs_out c k f i x n next loose was is entered known =
    let o = owes c k in
    let a = ap (λ p. p.1) was in
    let b = ap (λ p. p.2) was in
    let d = ap (λ p. p.1) is in
    let z = ap (λ p. p.2) is in
    let w = at_most (k.state.reserved f i) in
    record {
      es = Frees k.task x ∷ Deletes k.task f i 0 (bit (k.state.reserved f i)) ∷ Ignores (1 - bit (k.state.reserved f i)) ∷ [];
      may = (in_hand c k ∙ ap (λ p. p.0) was, ((ap bare_of entered, (omega arith), (omega arith)), ((omega arith), tt)));
      careful = λ e. (tt, (tt, (tt, tt)));
      exact = λ e. clash k.exact e loose;
      tables = refl;
      hands = inl (ap (λ (o : Option ℕ). put k.hands k.task o) (sym (ap (λ p. p.0) is)));
      owed = omega arith;
      promised = omega arith;
      marks = λ u d. put_other k.marks k.task (Bare f i) u d;
      count = omega arith;
      stands = known (put k.marks k.task (Bare f i) k.task) (put_same k.marks k.task (Bare f i));
      others = λ u d. (refl, λ v x e. e);
      ranges = k.ranges;
      fits = k.fits;
    }
  where
    at_most : (b : Bool) → bit b ≤ 1
    at_most true = omega arith
    at_most false = omega arith

-- or with it, and its index enters the map again: where a truncation has taken it out meanwhile, that is ignored
pub enters_again : (c : Call) (k : From c) (f i x : ℕ) (next : Call) → k.exact ≡ false → f < k.state.geometry.files
    → i < k.state.geometry.limit → seen (Some c) ≡ (Some x, 1, 0) → seen (Some next) ≡ (None, 0, 0)
    → KnownAt c k (k.marks k.task) (Some next) → Booked c k (record (restored (pool_of k.state) x) {
      reserved = put k.state.reserved f (add_range (k.state.reserved f) i (i + 1));
    }) (Some next)
enters_again c k f i x next loose file index was is known =
    let o = owes c k in
    let a = ap (λ p. p.1) was in
    let b = ap (λ p. p.2) was in
    let d = ap (λ p. p.1) is in
    let z = ap (λ p. p.2) is in
    record {
      es = Frees k.task x ∷ GivesBack 1 ∷ Commits f i (i + 1) 0 0 (missing (k.state.reserved f) i (i + 1)) ∷ [];
      may = (in_hand c k ∙ ap (λ p. p.0) was, ((omega arith), ((file, (omega arith), (omega arith), (omega arith)), tt)));
      careful = λ e. (tt, (tt, (tt, tt)));
      exact = λ e. clash k.exact e loose;
      tables = refl;
      hands = inl (ap (λ (o : Option ℕ). put k.hands k.task o) (sym (ap (λ p. p.0) is)));
      owed = omega arith;
      promised = omega arith;
      marks = λ u d. refl;
      count = omega arith;
      stands = known;
      others = λ u d. (refl, λ v x e. e);
      ranges = k.ranges;
      fits = k.fits;
    }
