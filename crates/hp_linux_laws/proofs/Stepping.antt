-- A step of a call as entries in the books: what is shown of it, and how a row's leaf is reached.
use Rattle.std.proofs.Common.{◌≡◌, ◌≢◌, ℕ, ◌+◌, ◌≤◌, refl, ap, sym, ◌∙◌, subst, arith, inl, ◌⊎◌}
use Rattle.std.specs.Prelude.{Bool, true, Option, Some, None, List, []}
use Rattle.hp_base.specs.Numbers.{put}
use Rattle.hp_base.specs.declared.answer.Answer.{Answer}
use Rattle.hp_base.specs.declared.mapping.Mapping.{Mapping}
use Rattle.hp_base.proofs.Totals.{total_has}
use Rattle.hp_frames.specs.declared.frame.FrameState.{FrameState}
use Rattle.hp_machine.specs.State.{Geometry, Pool, State, pool_of}
use Rattle.hp_machine.specs.Events.{left}
use Rattle.hp_machine.specs.Headline.{all_behind, all_ahead}
use Rattle.hp_machine.specs.Parts.{Goes, Ends, Waits}
use Rattle.hp_machine.specs.Views.{behind, ahead, hand}
use Rattle.hp_machine.specs.declared.call.Call.{Call}
use Rattle.hp_machine.specs.declared.call.Turn.{Turn}
use Rattle.hp_laws.proofs.Invariant.{AllWithin, put_known}
use Rattle.hp_accounts.specs.Books.{Books, Mark}
use Rattle.hp_accounts.specs.Entries.{Entry, AllMay, ends, ignored_in}
use Rattle.hp_accounts.specs.Laws.{AllCareful}
use Rattle.hp_linux_laws.proofs.Standing.{Stands, Fits}

-- the tables that the books have as a pool has them
abbrev pub Tables : Type 0
Tables =
    Geometry × ℕ × (ℕ → FrameState) × (ℕ → Option ℕ) × (ℕ → ℕ → Bool) × (ℕ → ℕ → Option ℕ) × (ℕ → List Mapping) × (ℕ → ℕ → Option ℕ)

abbrev pub tables_of : Pool → Tables
tables_of s = (s.geometry, s.frames, s.frame, s.slots, s.reserved, s.pages, s.mappings, s.entries)

abbrev pub tables_in : Books → Tables
tables_in b = (b.geometry, b.frames, b.frame, b.slots, b.reserved, b.pages, b.mappings, b.entries)

-- books by their parts
abbrev pub made : Tables → (hands : ℕ → Option ℕ) → (marks : ℕ → Mark) → (count debt owed promised : ℕ) → Books
made c hands marks n d o p = record {
  geometry = c.0;
  frames = c.1;
  frame = c.2;
  slots = c.3;
  reserved = c.4;
  pages = c.5;
  mappings = c.6;
  entries = c.7;
  hands = hands;
  marks = marks;
  count = n;
  debt = d;
  owed = o;
  promised = p;
}

-- the books of a state, with these hands and marks, and this count
abbrev pub books_of : State → (hands : ℕ → Option ℕ) → (marks : ℕ → Mark) → (count debt : ℕ) → Books
books_of s hands marks n d = made (tables_of (pool_of s)) hands marks n d (all_behind s) (all_ahead s)

-- where a step of a call begins, and whether it is to be careful, and to ignore nothing
pub record From (c : Call) : Type 0 where
  pub state : State
  pub task : ℕ
  pub careful : Bool
  pub exact : Bool
  pub hands : ℕ → Option ℕ
  pub marks : ℕ → Mark
  pub count : ℕ
  pub debt : ℕ
  pub live : (1 ≤ task) × (task ≤ state.geometry.tasks)
  pub ranges : AllWithin state.geometry (state.mappings task)
  pub fits : Fits state.geometry state.size state.pages
  pub here : state.calls task ≡ Some c
  pub held : hands task ≡ hand (Some c)
  pub spare : (x : ℕ) → hand (Some c) ≡ Some x → hands (state.geometry.tasks + 1 + x) ≡ None
  pub stands : Stands state.geometry careful (state.mappings task) (state.entries task) (marks task) (Some c)

abbrev pub books : (c : Call) → From c → Books
books c k = books_of k.state k.hands k.marks k.count k.debt

-- The call's hand is as the next call's; or what was in it is in a hand of its own, until it is freed
abbrev pub HandsGo : (c : Call) → From c → Option Call → (after : ℕ → Option ℕ) → Type 0
HandsGo c k next after =
    (after ≡ put k.hands k.task (hand next))
    ⊎ ((x : ℕ) × (hand (Some c) ≡ Some x) × (hand next ≡ None)
    × (after ≡ put (put k.hands k.task None) (k.state.geometry.tasks + 1 + x) (Some x)))

-- the step is these entries: each has what it wants, and together they lead to the books of the state behind it
pub record Booked (c : Call) (k : From c) (new : Pool) (next : Option Call) : Type 0 where
  pub es : List Entry
  pub may : AllMay (books c k) es
  pub careful : k.careful ≡ true → AllCareful (books c k) es
  pub exact : k.exact ≡ true → ignored_in es ≡ 0
  pub tables : tables_in (ends (books c k) es) ≡ tables_of new
  pub hands : HandsGo c k next (ends (books c k) es).hands
  pub owed : (ends (books c k) es).owed + behind (Some c) ≡ all_behind k.state + behind next
  pub promised : (ends (books c k) es).promised + ahead (Some c) ≡ all_ahead k.state + ahead next
  pub marks : (u : ℕ) → u ≢ k.task → (ends (books c k) es).marks u ≡ k.marks u
  pub count : (ends (books c k) es).count + k.debt + k.state.resv ≡ new.resv + k.count + (ends (books c k) es).debt
  pub stands : Stands new.geometry k.careful (new.mappings k.task) (new.entries k.task) ((ends (books c k) es).marks k.task) next
  pub others : (u : ℕ) → u ≢ k.task
      → (new.mappings u ≡ k.state.mappings u) × ((v x : ℕ) → new.entries u v ≡ Some x → k.state.entries u v ≡ Some x)
  pub ranges : AllWithin new.geometry (new.mappings k.task)
  pub fits : Fits new.geometry new.size new.pages

-- a row's leaf is reached: the call moves on, ends, or waits
pub went : {P : Type 0} (call : P → Call) (c : Call) (k : From c) (p : P) (after : Pool) (turn : Turn P) (new : Pool)
    → Goes p after turn new → Booked c k after (Some (call p)) → Booked c k new (left call turn)
went {P} call c k p after turn new r h =
    subst (λ (q : Pool). Booked c k q (left call turn)) (sym r.1)
    (subst (λ (q : Turn P). Booked c k after (left call q)) (sym r.0) h)

pub over : {P : Type 0} (call : P → Call) (c : Call) (k : From c) (a : Answer) (after : Pool) (turn : Turn P) (new : Pool)
    → Ends a after turn new → Booked c k after None → Booked c k new (left call turn)
over {P} call c k a after turn new r h =
    subst (λ (q : Pool). Booked c k q (left call turn)) (sym r.1)
    (subst (λ (q : Turn P). Booked c k after (left call q)) (sym r.0) h)

pub waits : {P : Type 0} (call : P → Call) (c : Call) (k : From c) (p : P) (u : ℕ) (turn : Turn P) (new : Pool)
    → Waits p u (pool_of k.state) turn new → Booked c k (pool_of k.state) (Some (call p)) → Booked c k new (left call turn)
waits {P} call c k p u turn new r h =
    subst (λ (q : Pool). Booked c k q (left call turn)) (sym r.1)
    (subst (λ (q : Turn P). Booked c k (pool_of k.state) (left call q)) (sym r.0) h)

-- what others see of a call in the books
abbrev pub seen : Option Call → Option ℕ × ℕ × ℕ
seen c = (hand c, behind c, ahead c)

-- the hands where the call's stays as it was
pub same_hands : (c : Call) (k : From c) (next : Option Call) → hand next ≡ hand (Some c) → k.hands ≡ put k.hands k.task (hand next)
same_hands c k next e = sym (put_known k.hands k.task (hand next) (k.held ∙ sym e))

-- what is in the call's hand, by the books
pub in_hand : (c : Call) (k : From c) → k.hands k.task ≡ hand (Some c)
in_hand c k = k.held

-- a call's accounts are among those of all
pub owes : (c : Call) (k : From c) → behind (Some c) ≤ all_behind k.state
owes c k =
    let a : behind (k.state.calls k.task) ≤ all_behind k.state =
    total_has (k.state.geometry.tasks + 1) k.task (λ u. behind (k.state.calls u)) (let l = k.live.1 in omega arith) in
    let b : behind (k.state.calls k.task) ≡ behind (Some c) = ap behind k.here in
    omega arith

pub has_promised : (c : Call) (k : From c) → ahead (Some c) ≤ all_ahead k.state
has_promised c k =
    let a : ahead (k.state.calls k.task) ≤ all_ahead k.state =
    total_has (k.state.geometry.tasks + 1) k.task (λ u. ahead (k.state.calls u)) (let l = k.live.1 in omega arith) in
    let b : ahead (k.state.calls k.task) ≡ ahead (Some c) = ap ahead k.here in
    omega arith

-- a step that the books don't see
pub quiet : (c : Call) (k : From c) (new : Pool) (next : Option Call) → tables_of (pool_of k.state) ≡ tables_of new
    → seen next ≡ seen (Some c)
    → new.resv ≡ k.state.resv → Stands k.state.geometry k.careful (k.state.mappings k.task) (k.state.entries k.task) (k.marks k.task) next
    → Fits k.state.geometry new.size k.state.pages → Booked c k new next
quiet c k new next same is resv stands fits = record {
  es = [];
  may = tt;
  careful = λ e. tt;
  exact = λ e. refl;
  tables = same;
  hands = inl (same_hands c k next (ap (λ p. p.0) is));
  owed = ap (λ (n : ℕ). all_behind k.state + n) (sym (ap (λ p. p.1) is));
  promised = ap (λ (n : ℕ). all_ahead k.state + n) (sym (ap (λ p. p.2) is));
  marks = λ u d. refl;
  count = omega arith;
  stands = subst (λ (q : Tables). Stands q.0 k.careful (q.6 k.task) (q.7 k.task) (k.marks k.task) next) same stands;
  others = subst (λ (q : Tables). (u : ℕ) → u ≢ k.task
      → (q.6 u ≡ k.state.mappings u) × ((v x : ℕ) → q.7 u v ≡ Some x → k.state.entries u v ≡ Some x)) same (λ u d. (refl, λ v x e. e));
  ranges = subst (λ (q : Tables). AllWithin q.0 (q.6 k.task)) same k.ranges;
  fits = subst (λ (q : Tables). Fits q.0 new.size q.5) same fits;
}

-- and where it waits
pub stays : (c : Call) (k : From c) → Booked c k (pool_of k.state) (Some c)
stays c k = quiet c k (pool_of k.state) (Some c) refl refl refl k.stands k.fits
