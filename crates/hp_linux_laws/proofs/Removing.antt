-- The steps that punches and truncations share, as entries: their beginning, and pages that go.
use Rattle.std.proofs.Common.{◌≡◌, ℕ, ◌+◌, ◌<◌, refl, ap, sym, ◌∙◌, arith, inl, inr}
use Rattle.std.specs.Prelude.{Bool, true, false, nat_le, nat_lt, if◌then◌else◌, Option, Some, None, List, [], ◌∷◌}
use Rattle.std.proofs.lemmas.Bool.Decides.{nat_tests}
use Rattle.hp_base.specs.Mappings.{without_index, is_there, find}
use Rattle.hp_base.specs.Numbers.{put}
use Rattle.hp_base.specs.declared.answer.Answer.{Answer}
use Rattle.hp_base.specs.declared.answer.Answer.TheVariants as answer
use Rattle.hp_base.specs.declared.mapping.Mapping.{Mapping}
use Rattle.hp_base.proofs.Puts.{put_same, put_other, put2_tells, same_or_other}
use Rattle.hp_frames.specs.declared.frame.FrameState.TheVariants as frame
use Rattle.hp_machine.specs.State.{Pool, pool_of}
use Rattle.hp_machine.specs.Events.{left}
use Rattle.hp_machine.specs.Headline.{all_behind, all_ahead}
use Rattle.hp_machine.specs.Parts.{StartRow, UnmapIndexRow, EvictRow}
use Rattle.hp_machine.specs.Views.{behind, ahead, hand}
use Rattle.hp_machine.specs.declared.call.Call.{Call}
use Rattle.hp_machine.specs.declared.call.Turn.{Turn}
use Rattle.hp_laws.proofs.Deciding.{le}
use Rattle.hp_laws.proofs.Shared.{by_test, by_option}
use Rattle.hp_accounts.specs.Books.{Mark, Bare, Clearing, place_of}
use Rattle.hp_accounts.specs.Entries.{Turns, ClearsIndex, Evicts, Frees}
use Rattle.hp_linux_laws.proofs.Standing.{Stands}
use Rattle.hp_linux_laws.proofs.Stepping.{From, Booked, same_hands, in_hand, seen, went, over, waits}
use Rattle.hp_linux_laws.proofs.Making.{KnownAt}

-- a call on a file begins
pub starts : {P : Type 0} (call : P → Call) (c : Call) (k : From c) (killed : Bool) (f : ℕ) (is_bad : Bool) (at_kill : Answer)
    (here next : P) (turn : Turn P) (new : Pool) → StartRow (pool_of k.state) k.task killed f is_bad at_kill here next turn new
    → Booked c k (pool_of k.state) None → Booked c k (pool_of k.state) (Some (call here))
    → (f < k.state.geometry.files → is_bad ≡ false
    → Booked c k (record (pool_of k.state) { locks = put k.state.locks f (Some k.task) }) (Some (call next)))
    → Booked c k new (left call turn)
starts {P} call c k killed f is_bad at_kill here next turn new row ends stands goes =
    by_test (nat_le k.state.geometry.files f) row
    (λ _ r. over call c k answer.BadFile _ turn new r ends)
    (λ file r. by_test is_bad r
    (λ _ r. over call c k answer.BadRange _ turn new r ends)
    (λ good r. by_test killed r
    (λ _ r. over call c k at_kill _ turn new r ends)
    (λ _ r. by_option (k.state.locks f) r
    (λ _ r. went call c k next _ turn new r (goes (below k.state.geometry.files f file) good))
    (λ u _ r. waits call c k here u turn new r stands))))
  where
    below : (n f : ℕ) → nat_le n f ≡ false → f < n
    below n f e = grind (arith, nat_tests)

-- the page is to go: its translations first
pub turns : (c : Call) (k : From c) (f i : ℕ) (next : Call) → seen (Some next) ≡ seen (Some c) → place_of (k.marks k.task) ≡ Some (f, i)
    → ((m : Mark) → m ≡ Clearing f i 1 → KnownAt c k m (Some next)) → Booked c k (pool_of k.state) (Some next)
turns c k f i next same held known = record {
  es = Turns k.task f i ∷ [];
  may = (held, tt);
  careful = λ e. (tt, tt);
  exact = λ e. refl;
  tables = refl;
  hands = inl (same_hands c k (Some next) (ap (λ p. p.0) same));
  owed = ap (λ (n : ℕ). all_behind k.state + n) (sym (ap (λ p. p.1) same));
  promised = ap (λ (n : ℕ). all_ahead k.state + n) (sym (ap (λ p. p.2) same));
  marks = λ u d. put_other k.marks k.task (Clearing f i 1) u d;
  count = omega arith;
  stands = known (put k.marks k.task (Clearing f i 1) k.task) (put_same k.marks k.task (Clearing f i 1));
  others = λ u d. (refl, λ v x e. e);
  ranges = k.ranges;
  fits = k.fits;
}

-- what one task translates still, it translated before
left_over : (es : ℕ → ℕ → Option ℕ) (ms : List Mapping) (n f i u v x : ℕ) → put es n (without_index ms (es n) f i) u v ≡ Some x
    → es u v ≡ Some x
unfolding without_index
left_over es ms n f i u v x e = elim (same_or_other u n) [
  | inl d ↦ ap (λ (m : ℕ). es m v) d ∙ out (is_there (find ms v) f i) (es n v)
      (ap (λ (m : ℕ → Option ℕ). m v) (sym (put_same es n (without_index ms (es n) f i)))
      ∙ (ap (λ (m : ℕ). put es n (without_index ms (es n) f i) m v) (sym d) ∙ e))
  | inr d ↦ ap (λ (m : ℕ → Option ℕ). m v) (sym (put_other es n (without_index ms (es n) f i) u d)) ∙ e
]
  where
    out : (b : Bool) (o : Option ℕ) → (if b then None else o) ≡ Some x → o ≡ Some x
    out true o e = (let d : ◌≡◌ {A = Option ℕ} None (Some x) = e in absurd (cc))
    out false o e = e

-- one task's translations of it are cleared
clears : (c : Call) (k : From c) (n f i : ℕ) (next : Call) → seen (Some next) ≡ seen (Some c) → k.marks k.task ≡ Clearing f i n
    → ((m : Mark) (es : ℕ → Option ℕ) → m ≡ Clearing f i (n + 1)
    → Stands k.state.geometry k.careful (k.state.mappings k.task) es m (Some next))
    → Booked c k (record (pool_of k.state) {
      entries = put k.state.entries n (without_index (k.state.mappings n) (k.state.entries n) f i);
    }) (Some next)
clears c k n f i next same at known = record {
  es = ClearsIndex k.task f i n ∷ [];
  may = (at, tt);
  careful = λ e. (tt, tt);
  exact = λ e. refl;
  tables = refl;
  hands = inl (same_hands c k (Some next) (ap (λ p. p.0) same));
  owed = ap (λ (n : ℕ). all_behind k.state + n) (sym (ap (λ p. p.1) same));
  promised = ap (λ (n : ℕ). all_ahead k.state + n) (sym (ap (λ p. p.2) same));
  marks = λ u d. put_other k.marks k.task (Clearing f i (n + 1)) u d;
  count = omega arith;
  stands = known (put k.marks k.task (Clearing f i (n + 1)) k.task) _ (put_same k.marks k.task (Clearing f i (n + 1)));
  others = λ u d. (refl, λ v x e. left_over k.state.entries (k.state.mappings n) n f i u v x e);
  ranges = k.ranges;
  fits = k.fits;
}

-- then the next task's, or the page may go
pub clears_index : {P : Type 0} (call : P → Call) (c : Call) (k : From c) (n f i : ℕ) (again last : P) (turn : Turn P) (new : Pool)
    → UnmapIndexRow (pool_of k.state) n f i again last turn new → seen (Some (call again)) ≡ seen (Some c)
    → seen (Some (call last)) ≡ seen (Some c) → k.marks k.task ≡ Clearing f i n
    → ((m : Mark) (es : ℕ → Option ℕ) → m ≡ Clearing f i (n + 1)
    → Stands k.state.geometry k.careful (k.state.mappings k.task) es m (Some (call again)))
    → ((m : Mark) (es : ℕ → Option ℕ) → (j : ℕ) × (m ≡ Clearing f i j) × (k.state.geometry.tasks < j)
    → Stands k.state.geometry k.careful (k.state.mappings k.task) es m (Some (call last)))
    → Booked c k new (left call turn)
clears_index {P} call c k n f i again last turn new row same same_last at known known_last =
    by_test (nat_lt n k.state.geometry.tasks) row
    (λ _ r. went call c k again _ turn new r (clears c k n f i (call again) same at known))
    (λ all r. went call c k last _ turn new r (clears c k n f i (call last) same_last at
    (λ m es e. known_last m es (n + 1, e, (let l = le n k.state.geometry.tasks all in omega arith)))))

-- the page goes into the call's hand
pub evicts : {P : Type 0} (call : P → Call) (c : Call) (k : From c) (f i : ℕ) (next : ℕ → P) (turn : Turn P) (new : Pool)
    → EvictRow (pool_of k.state) f i next turn new → hand (Some c) ≡ None
    → ((x : ℕ) → (hand (Some (call (next x))) ≡ Some x) × (behind (Some (call (next x))) ≡ behind (Some c) + 1)
    × (ahead (Some (call (next x))) ≡ ahead (Some c)))
    → (n : ℕ) × (k.marks k.task ≡ Clearing f i n) × (k.state.geometry.tasks < n)
    → ((m : Mark) (x : ℕ) → m ≡ Bare f i → KnownAt c k m (Some (call (next x)))) → Booked c k new (left call turn)
evicts {P} call c k f i next turn new (x, page, r) empty is (n, at, all) known =
    let a = (is x).1 in
    let b = (is x).2 in
    went call c k (next x) _ turn new r (record {
      es = Evicts k.task f i n x ∷ [];
      may = ((at, all, page, in_hand c k ∙ empty), tt);
      careful = λ e. (tt, tt);
      exact = λ e. refl;
      tables = refl;
      hands = inl (ap (λ (o : Option ℕ). put k.hands k.task o) (sym (is x).0));
      owed = omega arith;
      promised = omega arith;
      marks = λ u d. put_other k.marks k.task (Bare f i) u d;
      count = omega arith;
      stands = known (put k.marks k.task (Bare f i) k.task) x (put_same k.marks k.task (Bare f i));
      others = λ u d. (refl, λ v x e. e);
      ranges = k.ranges;
      fits = (
        k.fits.0,
        λ g j y e. elim (put2_tells k.state.pages f i None g j) [
          | inl q ↦ (let d : ◌≡◌ {A = Option ℕ} None (Some y) = sym q.2 ∙ e in absurd (cc))
          | inr q ↦ k.fits.1 g j y (sym q.1 ∙ e)
        ],
      );
    })

-- its frame is freed
pub frees_frame : (c : Call) (k : From c) (x n : ℕ) (next : Call) → hand (Some c) ≡ Some x → hand (Some next) ≡ None
    → behind (Some next) ≡ behind (Some c) → ahead (Some next) ≡ ahead (Some c) → KnownAt c k (k.marks k.task) (Some next)
    → Booked c k (record (pool_of k.state) { frame = put k.state.frame x frame.Free; used = n }) (Some next)
frees_frame c k x n next full empty same same_more known = record {
  es = Frees k.task x ∷ [];
  may = (in_hand c k ∙ full, tt);
  careful = λ e. (tt, tt);
  exact = λ e. refl;
  tables = refl;
  hands = inl (ap (λ (o : Option ℕ). put k.hands k.task o) (sym empty));
  owed = omega arith;
  promised = omega arith;
  marks = λ u d. refl;
  count = omega arith;
  stands = known;
  others = λ u d. (refl, λ v x e. e);
  ranges = k.ranges;
  fits = k.fits;
}
