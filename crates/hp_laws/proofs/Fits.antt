-- What a write needs where a call goes on, and that the invariant is kept where it has it: once for all operations.
use Rattle.std.proofs.lemmas.Bool.Decides.{nat_tests}
use Rattle.std.proofs.Common.{◌≡◌, ℕ, ◌+◌, ◌-◌, ◌<◌, ◌≤◌, refl, ap, sym, subst, arith, ◌⊎◌}
use Rattle.std.specs.Prelude.{Bool, true, false, Option, Some, None, IfSome, max, ◌&&◌, nat_lt, if◌then◌else◌}
use Rattle.hp_base.specs.Indices.{splits, is_within, missing, count_within}
use Rattle.hp_base.specs.Mappings.{find, fits, in_mapping}
use Rattle.hp_frames.specs.Bank.{IsWithinQuota}
use Rattle.hp_frames.specs.declared.frame.FrameState.TheVariants.{Free, Placed}
use Rattle.hp_frames.proofs.Quotas.{less_within}
use Rattle.hp_machine.specs.State.{State, pool_of, with_pool, slot_of, free_frames}
use Rattle.hp_machine.specs.Parts.{frame_after}
use Rattle.hp_machine.specs.Views.{behind, ahead, used_ahead, hand, change_in, locked_file, slot_held}
use Rattle.hp_machine.specs.declared.touch.TouchPhase.{TouchPhase}
use Rattle.hp_machine.specs.declared.touch.TouchPhase.TheVariants as touch
use Rattle.hp_machine.specs.declared.call.Call.{Call}
use Rattle.hp_machine.specs.declared.call.Call.TheVariants as call
use Rattle.hp_laws.specs.Bounds.{sizes}
use Rattle.hp_laws.specs.Sweep.{fills, to_pass, passed, gone}
use Rattle.hp_laws.proofs.Standing.{HasSlot, HasLock, Stands}
use Rattle.hp_laws.proofs.Invariant.{Reached, Inv, seen, stays, sweeps, holds, to}
use Rattle.hp_laws.proofs.Holding.{shown, takes_slot, leaves_slot, takes_lock, leaves_lock}
use Rattle.hp_laws.proofs.Effects.{touches_word, rebalances, opened, closed, IsSole, commits, takes, gives, places}
use Rattle.hp_laws.proofs.Deletes.{deletes}
use Rattle.hp_laws.proofs.Removals
use Rattle.hp_laws.proofs.Removals.{evicts}
use Rattle.hp_laws.proofs.Tables.{enters_table, extends, clears, prepares, enters_area, empties, drops}
use Rattle.hp_laws.proofs.Cuts.{cuts, passes, cuts_tail}
use Rattle.hp_laws.proofs.Shared.{steady, unhanded, no_fill}
use Rattle.hp_laws.proofs.Writes.{Write, written, Nothing, TakesLock, LeavesLock, TakesSlot, LeavesSlot, Opens, Aborts, Commits}
use Rattle.hp_laws.proofs.Writes.{TakesReserved, TakesFree, Settles, Places, Restores, Enters, Accesses, Grows, Clears, Evicts, Deletes}
use Rattle.hp_laws.proofs.Writes.{FreesUnreserved, Frees, Cuts, Passes, CutsTail, Prepares, Accounts, EntersArea, Empties, Drops}

-- the state after a write
abbrev pub wrote : State → (task : ℕ) → Write → State
wrote s t w = with_pool s (written (pool_of s) t w)

-- what the call fills is reached
abbrev pub Fills : State → Option Call → Type 0
Fills s c = IfSome (fills c) (λ k. Reached s.size (λ u. to_pass (s.calls u)) k.0 k.1)

-- what holds of the call after the write
abbrev pub Own : State → (task : ℕ) → Write → Option Call → Type 0
Own s t w c = Stands s.geometry (wrote s t w) t c

-- no truncation has passed the index
abbrev pub Nobody : State → (file index : ℕ) → Type 0
Nobody s f i = (u : ℕ) → passed (s.calls u) f i ≡ true → ⊥

-- a touch that looks or found its page, whose step may read or write a word
abbrev pub is_reader : TouchPhase → Bool
is_reader (touch.Look p) = true
is_reader (touch.Found p) = true
is_reader other = false

-- what a call owes, holds in its hand and changes: all that stays where a truncation goes on, or a call leaves its lock
abbrev pub unswept : Option Call → Option ℕ × Option ℕ × ℕ × ℕ × ℕ
unswept c = (hand c, change_in c, behind c, ahead c, used_ahead c)

-- the file and index at which a touch has found a page, to translate it
abbrev pub to_translate : Option Call → Option (ℕ × ℕ)
to_translate (Some (call.Touch (touch.Found p))) = Some (p.touch.file, p.touch.index)
to_translate other = None

-- a call that is such a touch
abbrev pub reads : Option Call → Bool
reads (Some (call.Touch phase)) = is_reader phase
reads other = false

-- what a write needs where the call of task t goes on from b to c
abbrev pub Fit : State → (task : ℕ) → (b c : Option Call) → Write → Type 0
Fit s t b c Nothing = record { same : seen c ≡ seen b; fill : Fills s c; own : Own s t Nothing c }
Fit s t b c (TakesLock f) = record {
  free : s.locks f ≡ None;
  same : shown c ≡ shown b;
  slot : slot_held c ≡ slot_held b;
  none : locked_file b ≡ None;
  some : locked_file c ≡ Some f;
  fill : fills c ≡ None;
  own : Own s t (TakesLock f) c;
}
Fit s t b c (LeavesLock f) = record {
  over : c ≡ None;
  same : unswept None ≡ unswept b;
  slot : slot_held b ≡ None;
  lock : locked_file b ≡ Some f;
  held : HasLock s t f;
  done : (k j : ℕ) → to_pass b k j ≡ false;
}
Fit s t b c (TakesSlot f i) = record {
  free : s.slots (slot_of s.geometry f i) ≡ None;
  same : shown c ≡ shown b;
  lock : locked_file c ≡ locked_file b;
  none : slot_held b ≡ None;
  some : slot_held c ≡ Some (f, i);
  fill : fills c ≡ None;
  own : Own s t (TakesSlot f i) c;
}
Fit s t b c (LeavesSlot f i) = record {
  same : shown c ≡ shown b;
  lock : locked_file c ≡ locked_file b;
  some : slot_held b ≡ Some (f, i);
  none : slot_held c ≡ None;
  held : HasSlot s.geometry s t f i;
  fill : Fills s c;
  own : Own s t (LeavesSlot f i) c;
}
Fit s t b c (Opens f) = record {
  same : steady c ≡ steady b;
  none : change_in b ≡ None;
  some : change_in c ≡ Some f;
  balance : behind c + ahead b ≡ behind b + ahead c;
  owed : used_ahead c ≡ used_ahead b;
  fill : Fills s c;
  own : Own s t Nothing c;
}
Fit s t b c (Aborts f) = record {
  same : steady c ≡ steady b;
  some : change_in b ≡ Some f;
  none : change_in c ≡ None;
  balance : behind c + ahead b ≡ behind b + ahead c;
  owed : used_ahead c ≡ used_ahead b;
  fill : Fills s c;
  own : Own s t Nothing c;
}
Fit s t b c (Commits f change) = record {
  file : f < s.geometry.files;
  limit : change.to ≤ s.geometry.limit;
  sole : IsSole s.geometry s t f change;
  same : steady c ≡ steady b;
  some : change_in b ≡ Some f;
  none : change_in c ≡ None;
  nobody : (u j : ℕ) → passed (s.calls u) f j ≡ true → is_within change.from change.to j ≡ true → ⊥;
  balance : behind c + ahead b ≡ behind b + missing (s.reserved f) change.from change.to + ahead c;
  owed : used_ahead b ≡ missing (s.reserved f) change.from change.to + used_ahead c;
  fill : Fills s c;
  own : Own s t (Commits f change) c;
}
Fit s t b c (TakesReserved x) = record {
  free : s.frame x ≡ Free;
  low : 1 ≤ s.resv;
  same : unhanded c ≡ unhanded b;
  empty : hand b ≡ None;
  full : hand c ≡ Some x;
  owes : behind c ≡ behind b + 1;
  owed : used_ahead c ≡ used_ahead b;
  fill : Fills s c;
  own : Own s t Nothing c;
}
Fit s t b c (TakesFree x) = record {
  free : s.frame x ≡ Free;
  left : s.resv + 1 ≤ free_frames s.frame s.frames;
  quota : IsWithinQuota s.geometry.quota (s.used + 1);
  same : unhanded c ≡ unhanded b;
  empty : hand b ≡ None;
  full : hand c ≡ Some x;
  owes : behind c ≡ behind b;
  owed : used_ahead c ≡ used_ahead b + 1;
  fill : Fills s c;
  own : Own s t Nothing c;
}
Fit s t b c (Settles n m) = record {
  low : n ≤ s.resv;
  used : m ≤ s.used;
  same : steady c ≡ steady b;
  change : change_in c ≡ change_in b;
  balance : behind c + ahead b ≡ behind b + ahead c + n;
  owed : used_ahead b ≡ used_ahead c + m;
  fill : Fills s c;
  own : Own s t Nothing c;
}
Fit s t b c (Places f i x) = record {
  file : f < s.geometry.files;
  index : i < s.geometry.limit;
  same : unhanded c ≡ unhanded b;
  some : hand b ≡ Some x;
  none : hand c ≡ None;
  balance : behind b ≡ behind c + 1;
  owed : used_ahead c ≡ used_ahead b;
  marked : s.reserved f i ≡ true;
  bare : s.pages f i ≡ None;
  held : HasSlot s.geometry s t f i;
  nobody : Nobody s f i;
  fill : Fills s c;
  own : Own s t (Places f i x) c;
}
Fit s t b c (Restores x) = record {
  same : unhanded c ≡ unhanded b;
  some : hand b ≡ Some x;
  none : hand c ≡ None;
  balance : behind b ≡ behind c + 1;
  owed : used_ahead c ≡ used_ahead b;
  fill : Fills s c;
  own : Own s t Nothing c;
}
Fit s t b c (Enters v x access) = record {
  reader : reads b ≡ true;
  place : ℕ × ℕ;
  word : ℕ;
  placed : s.frame x ≡ Placed word;
  same : seen c ≡ seen b;
  found : find (s.mappings t) v ≡ Some place;
  page : s.pages place.0 place.1 ≡ Some x;
  aim : to_translate b ≡ Some place;
  held : HasSlot s.geometry s t place.0 place.1;
  fill : Fills s c;
  own : Own s t (Enters v x access) c;
}
Fit s t b c (Accesses x access) = record {
  reader : reads b ≡ true;
  word : ℕ;
  placed : s.frame x ≡ Placed word;
  same : seen c ≡ seen b;
  fill : Fills s c;
  own : Own s t (Accesses x access) c;
}
Fit s t b c (Grows f end) = record {
  same : seen c ≡ seen b;
  held : HasLock s t f;
  limit : end ≤ s.geometry.limit;
  nobody : (u j : ℕ) → passed (s.calls u) f j ≡ true → ⊥;
  fill : Fills s c;
  own : Own s t (Grows f end) c;
}
Fit s t b c (Clears k f i) = record { same : seen c ≡ seen b; fill : Fills s c; own : Own s t (Clears k f i) c }
Fit s t b c (Evicts f i x) = record {
  file : f < s.geometry.files;
  same : sweeps c ≡ sweeps b;
  holds : holds c ≡ holds b;
  empty : hand b ≡ None;
  full : hand c ≡ Some x;
  change : change_in c ≡ change_in b;
  balance : behind c + ahead b ≡ behind b + ahead c + 1;
  owed : used_ahead c ≡ used_ahead b;
  page : s.pages f i ≡ Some x;
  held : HasSlot s.geometry s t f i;
  cleared : (w v y : ℕ) → s.entries w v ≡ Some y → find (s.mappings w) v ≡ Some (f, i) → ⊥;
  fill : Fills s c;
  own : Own s t (Evicts f i x) c;
}
Fit s t b c (Deletes f i) = record {
  file : f < s.geometry.files;
  index : i < s.geometry.limit;
  same : steady c ≡ steady b;
  change : change_in c ≡ change_in b;
  balance : behind b + ahead c ≡ behind c + ahead b + 1;
  owed : used_ahead c ≡ used_ahead b + 1;
  marked : s.reserved f i ≡ true;
  bare : s.pages f i ≡ None;
  slot : HasSlot s.geometry s t f i;
  lock : HasLock s t f;
  deletes : deletes b f i ≡ true;
  fill : Fills s c;
  own : Own s t (Deletes f i) c;
}
Fit s t b c (FreesUnreserved x) = record {
  used : 1 ≤ s.used;
  same : unhanded c ≡ unhanded b;
  some : hand b ≡ Some x;
  none : hand c ≡ None;
  balance : behind b ≡ behind c;
  owed : used_ahead b ≡ used_ahead c + 1;
  fill : Fills s c;
  own : Own s t Nothing c;
}
Fit s t b c (Frees x) = record {
  same : unhanded c ≡ unhanded b;
  some : hand b ≡ Some x;
  none : hand c ≡ None;
  balance : behind b ≡ behind c;
  owed : used_ahead c ≡ used_ahead b;
  fill : Fills s c;
  own : Own s t Nothing c;
}
Fit s t b c (Cuts f new) = record {
  top : ℕ;
  same : unswept c ≡ unswept b;
  holds : holds c ≡ holds b;
  lock : HasLock s t f;
  sizes : sizes b ≡ Some f;
  low : new ≤ s.geometry.limit;
  high : s.size f ≤ top;
  bare : (i : ℕ) → top ≤ i → s.pages f i ≡ None;
  none_to_pass : (k j : ℕ) → to_pass b k j ≡ true → ⊥;
  all_to_pass : (j : ℕ) → j < top → (j < new) ⊎ (to_pass c f j ≡ true);
  passes : (k j : ℕ) → passed c k j ≡ true → (k ≡ f) × (top ≤ j) × (new ≤ j);
  none_gone : (k j : ℕ) → gone c k j ≡ true → ⊥;
  fill : fills c ≡ None;
  own : Own s t (Cuts f new) c;
}
Fit s t b c (Passes f i new) = record {
  same : unswept c ≡ unswept b;
  lock : locked_file c ≡ locked_file b;
  some : slot_held b ≡ Some (f, i);
  none : slot_held c ≡ None;
  held : HasSlot s.geometry s t f i;
  bare : s.pages f i ≡ None;
  sized : s.size f ≡ new;
  all_to_pass : (k j : ℕ) → to_pass b k j ≡ true → (k ≡ f) × ((j ≡ i) ⊎ ((j < new) ⊎ (to_pass c f j ≡ true)));
  passes : (k j : ℕ) → passed c k j ≡ true → (passed b k j ≡ true) ⊎ ((k ≡ f) × (j ≡ i) × (new ≤ j));
  none_gone : (k j : ℕ) → gone c k j ≡ true → ⊥;
  no_fill : fills b ≡ None;
  fill : fills c ≡ None;
  own : Own s t (Passes f i new) c;
}
Fit s t b c (CutsTail f new) = record {
  file : f < s.geometry.files;
  same_to_pass : to_pass c ≡ to_pass b;
  same_passed : passed c ≡ passed b;
  goners : (k j : ℕ) → gone c k j ≡ true → (k ≡ f) × (new ≤ j);
  holds : holds c ≡ holds b;
  hand : hand c ≡ hand b;
  change : change_in c ≡ change_in b;
  balance : behind c + ahead b + count_within (s.reserved f) new s.geometry.limit ≡ behind b + ahead c;
  owed : used_ahead c ≡ used_ahead b + count_within (s.reserved f) new s.geometry.limit;
  lock : HasLock s t f;
  all_passed : (j : ℕ) → new ≤ j → passed (s.calls t) f j ≡ true;
  deletes : (j : ℕ) → new ≤ j → deletes b f j ≡ true;
  fill : fills c ≡ None;
  own : Own s t (CutsTail f new) c;
}
Fit s t b c Prepares = record { same : seen c ≡ seen b; fill : Fills s c; own : Own s t Prepares c }
Fit s t b c (Accounts n) = record {
  enough : s.resv + n ≤ free_frames s.frame s.frames;
  quota : IsWithinQuota s.geometry.quota (s.used + n);
  same : steady c ≡ steady b;
  change : change_in c ≡ change_in b;
  balance : behind c + ahead b + n ≡ behind b + ahead c;
  owed : used_ahead c ≡ used_ahead b + n;
  fill : Fills s c;
  own : Own s t Nothing c;
}
Fit s t b c (EntersArea a) = record {
  file : a.file < s.geometry.files;
  some : 1 ≤ a.len;
  limit : a.from + a.len ≤ s.geometry.limit;
  fits : fits s.geometry.space (s.mappings t) a.base a.len ≡ true;
  same : seen c ≡ seen b;
  lock : HasLock s t a.file;
  nobody : (u j : ℕ) → passed (s.calls u) a.file j ≡ true → ⊥;
  fill : Fills s c;
  own : Own s t (EntersArea a) c;
}
Fit s t b c (Empties base) = record { same : seen c ≡ seen b; fill : Fills s c; own : Own s t (Empties base) c }
Fit s t b c (Drops base) = record {
  clear : (v x : ℕ) → s.entries t v ≡ Some x → in_mapping (s.mappings t) base v ≡ false;
  same : seen c ≡ seen b;
  fill : Fills s c;
  own : Own s t (Drops base) c;
}

-- a split leaves a spare for each change
spare_left : (b : Bool) (pending spare : ℕ) → pending ≤ spare → pending ≤ (if b && nat_lt pending spare then spare - 1 else spare)
spare_left true pending spare l = here (nat_lt pending spare) refl
  where
    here : (d : Bool) → nat_lt pending spare ≡ d → pending ≤ (if d then spare - 1 else spare)
    here true e = let a : pending < spare = grind (arith, nat_tests) in omega arith
    here false e = l
spare_left false pending spare l = l

-- a truncation that goes on with its sweep owes what it did
balanced : (b c : Option Call) → unswept c ≡ unswept b → behind c + ahead b ≡ behind b + ahead c
balanced b c same = let x : behind c ≡ behind b = ap (λ p. p.2) same in let z : ahead c ≡ ahead b = ap (λ p. p.3) same in omega arith

-- so the invariant is kept
pub keeps : (s : State) (t : ℕ) (b c : Option Call) (w : Write) → Inv s.geometry s → t < s.geometry.tasks + 1 → s.calls t ≡ b
    → 1 ≤ t → Fit s t b c w → Inv s.geometry (to (wrote s t w) t c)
keeps s t b c Nothing h l e one y = stays s.geometry s t b c h l e y.same y.fill y.own
keeps s t b c (TakesLock f) h l e one y = takes_lock s.geometry s t b c f h l e y.free y.same y.slot y.none y.some y.fill y.own
keeps s t b c (LeavesLock f) h l e one y =
    subst (λ (d : Option Call). Inv s.geometry (to (wrote s t (LeavesLock f)) t d)) (sym y.over)
    (leaves_lock s.geometry s t b f h l e (sym (ap (λ p. p.2) y.same)) (sym (ap (λ p. p.3) y.same)) (sym (ap (λ p. p.4) y.same))
    (sym (ap (λ p. p.0) y.same)) (sym (ap (λ p. p.1) y.same)) y.slot y.lock y.held y.done)
keeps s t b c (TakesSlot f i) h l e one y =
    takes_slot s.geometry s t b c f i h l e y.free y.same y.lock y.none y.some (no_fill s c y.fill) y.own
keeps s t b c (LeavesSlot f i) h l e one y = leaves_slot s.geometry s t b c f i h l e y.same y.lock y.some y.none y.held y.fill y.own
keeps s t b c (Opens f) h l e one y =
    opened s.geometry s t b c f h l e (ap (λ p. p.0) y.same) (ap (λ p. p.1) y.same) (ap (λ p. p.2) y.same) y.none y.some y.balance
    y.owed y.fill y.own
keeps s t b c (Aborts f) h l e one y =
    closed s.geometry s t b c f h l e (ap (λ p. p.0) y.same) (ap (λ p. p.1) y.same) (ap (λ p. p.2) y.same) y.some y.none y.balance
    y.owed y.fill y.own
keeps s t b c (Commits f change) h l e one y =
    commits s.geometry s t b c f change h l e y.file y.limit y.sole (ap (λ p. p.0) y.same) (ap (λ p. p.1) y.same) (ap (λ p. p.2) y.same)
    y.some y.none y.nobody y.balance y.owed y.fill y.own
keeps s t b c (TakesReserved x) h l e one y =
    takes s.geometry s t b c x (s.resv - 1) s.used h l e y.free (ap (λ p. p.0) y.same) (ap (λ p. p.1) y.same) y.empty y.full
    (ap (λ p. p.2) y.same)
    (let a : ahead c ≡ ahead b = ap (λ p. p.3) y.same in let d = y.owes in let z = y.low in omega arith)
    (let z = h.enough in let d = y.low in omega arith) (let a = y.owed in omega arith) h.quota y.fill y.own
keeps s t b c (TakesFree x) h l e one y =
    takes s.geometry s t b c x s.resv (s.used + 1) h l e y.free (ap (λ p. p.0) y.same) (ap (λ p. p.1) y.same) y.empty y.full
    (ap (λ p. p.2) y.same) (let a : ahead c ≡ ahead b = ap (λ p. p.3) y.same in let d = y.owes in omega arith) y.left
    (let a = y.owed in omega arith) y.quota y.fill y.own
keeps s t b c (Settles n m) h l e one y =
    rebalances s.geometry s t b c (s.resv - n) (s.used - m) h l e (ap (λ p. p.0) y.same) (ap (λ p. p.1) y.same) (ap (λ p. p.2) y.same)
    y.change (let a = y.balance in let d = y.low in omega arith) (let z = h.enough in omega arith)
    (let a = y.owed in let d = y.used in omega arith) (less_within s.geometry.quota s.used (s.used - m) (omega arith) h.quota) y.fill
    y.own
keeps s t b c (Places f i x) h l e one y =
    places s.geometry s t b c f i x h l e y.file y.index (ap (λ p. p.0) y.same) (ap (λ p. p.1) y.same) y.some y.none
    (ap (λ p. p.2) y.same) (let a : ahead c ≡ ahead b = ap (λ p. p.3) y.same in let d = y.balance in omega arith) y.owed y.marked y.bare
    y.held y.nobody y.fill y.own
keeps s t b c (Restores x) h l e one y =
    gives s.geometry s t b c x (s.resv + 1) s.used h l e (ap (λ p. p.0) y.same) (ap (λ p. p.1) y.same) y.some y.none
    (ap (λ p. p.2) y.same) (let a : ahead c ≡ ahead b = ap (λ p. p.3) y.same in let d = y.balance in omega arith) (omega arith)
    (let a = y.owed in omega arith) h.quota y.fill y.own
keeps s t b c (Enters v x access) h l e one y =
    enters_table s.geometry (record s { pool = record s.pool { frame = frame_after access s.frame x } }) t b c v y.place.0 y.place.1 x
    (touches_word s.geometry s access x y.word h y.placed) one l e y.same y.found y.page y.held y.fill y.own
keeps s t b c (Accesses x access) h l e one y =
    stays s.geometry (record s { pool = record s.pool { frame = frame_after access s.frame x } }) t b c
    (touches_word s.geometry s access x y.word h y.placed) l e y.same y.fill y.own
keeps s t b c (Grows f end) h l e one y =
    extends s.geometry s t b c f (max (s.size f) end) h l e y.same y.held (omega arith)
    (let a = h.sizes f in let d = y.limit in omega arith) y.nobody y.fill y.own
keeps s t b c (Clears k f i) h l e one y =
    stays s.geometry (wrote s t (Clears k f i)) t b c (clears s.geometry s k f i h) l e y.same y.fill y.own
keeps s t b c (Evicts f i x) h l e one y =
    evicts s.geometry s t b c f i x h l e y.file y.same y.holds y.empty y.full y.change y.balance y.owed y.page y.held y.cleared y.fill
    y.own
keeps s t b c (Deletes f i) h l e one y =
    Removals.deletes s.geometry s t b c f i _ h l e y.file y.index (ap (λ p. p.0) y.same) (ap (λ p. p.1) y.same) (ap (λ p. p.2) y.same)
    y.change y.balance y.owed (spare_left (splits (s.reserved f) i) (s.pending f) (s.spare f) (h.spares f)) y.marked y.bare y.slot y.lock
    y.fill y.own
keeps s t b c (FreesUnreserved x) h l e one y =
    gives s.geometry s t b c x s.resv (s.used - 1) h l e (ap (λ p. p.0) y.same) (ap (λ p. p.1) y.same) y.some y.none
    (ap (λ p. p.2) y.same) (let a : ahead c ≡ ahead b = ap (λ p. p.3) y.same in let d = y.balance in omega arith) (omega arith)
    (let a = y.owed in let d = y.used in omega arith) (less_within s.geometry.quota s.used (s.used - 1) (omega arith) h.quota) y.fill
    y.own
keeps s t b c (Frees x) h l e one y =
    gives s.geometry s t b c x s.resv s.used h l e (ap (λ p. p.0) y.same) (ap (λ p. p.1) y.same) y.some y.none (ap (λ p. p.2) y.same)
    (let a : ahead c ≡ ahead b = ap (λ p. p.3) y.same in let d = y.balance in omega arith) (omega arith) (let a = y.owed in omega arith)
    h.quota y.fill y.own
keeps s t b c (Cuts f new) h l e one y =
    cuts s.geometry s t b c f new y.top h l e y.holds (ap (λ p. p.0) y.same) (ap (λ p. p.1) y.same) (balanced b c y.same)
    (ap (λ p. p.4) y.same) y.lock y.low y.high y.bare y.none_to_pass y.all_to_pass y.passes y.fill y.none_gone y.own
keeps s t b c (Passes f i new) h l e one y =
    passes s.geometry s t b c f i new h l e y.lock y.some y.none (ap (λ p. p.0) y.same) (ap (λ p. p.1) y.same) (balanced b c y.same)
    (ap (λ p. p.4) y.same) y.no_fill y.fill y.held y.bare y.sized y.all_to_pass y.passes y.none_gone y.own
keeps s t b c (CutsTail f new) h l e one y =
    cuts_tail s.geometry s t b c f new h l e y.file y.same_to_pass y.same_passed y.goners y.holds y.hand y.change y.fill y.balance
    y.owed y.lock
    y.all_passed y.own
keeps s t b c Prepares h l e one y = prepares s.geometry s t b c h l e y.same y.fill y.own
keeps s t b c (Accounts n) h l e one y =
    rebalances s.geometry s t b c (s.resv + n) (s.used + n) h l e (ap (λ p. p.0) y.same) (ap (λ p. p.1) y.same) (ap (λ p. p.2) y.same)
    y.change (let a = y.balance in omega arith) y.enough (let a = y.owed in omega arith) y.quota y.fill y.own
keeps s t b c (EntersArea a) h l e one y =
    enters_area s.geometry s t b c a h l e y.same y.file y.some y.limit y.fits y.lock y.nobody y.fill y.own
keeps s t b c (Empties base) h l e one y =
    stays s.geometry (wrote s t (Empties base)) t b c (empties s.geometry s t base h) l e y.same y.fill y.own
keeps s t b c (Drops base) h l e one y = drops s.geometry s t b c base h l e y.same y.clear y.fill y.own
