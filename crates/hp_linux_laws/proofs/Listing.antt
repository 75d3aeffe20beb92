-- Every run is a list of entries: what is known behind each event.
use Rattle.std.proofs.Common.{◌≡◌, ◌≢◌, ℕ, ◌+◌, ◌<◌, ◌≤◌, refl, ap, sym, ◌∙◌, subst, arith, inl, inr}
use Rattle.std.specs.Prelude.{Bool, true, false, Option, Some, None, List, [], ◌∷◌, ◌++◌}
use Rattle.hp_base.specs.Numbers.{put, total}
use Rattle.hp_base.specs.declared.mapping.Mapping.{Mapping}
use Rattle.hp_base.proofs.Puts.{put_same, put_other, put_tells, same_or_other}
use Rattle.hp_machine.specs.State.{Geometry, Pool, State, with_pool, is_dead}
use Rattle.hp_machine.specs.Events.{lives_after}
use Rattle.hp_machine.specs.Headline.{Hand}
use Rattle.hp_machine.specs.Views.{behind, ahead, hand}
use Rattle.hp_machine.specs.declared.call.Call.{Call}
use Rattle.hp_machine.specs.declared.call.Call.TheVariants as call
use Rattle.hp_machine.specs.declared.unmap.UnmapPhase.TheVariants as unmap
use Rattle.hp_machine.specs.declared.exit.ExitPhase.TheVariants as exit
use Rattle.hp_laws.proofs.Invariant.{AllWithin, each_call, sum_after}
use Rattle.hp_laws.proofs.Deciding.{some_same}
use Rattle.hp_laws.proofs.Runs.{Lives, lives_on}
use Rattle.hp_accounts.specs.Books.{Books, Mark, opens}
use Rattle.hp_accounts.specs.Entries.{Entry, TakesSlot, AllMay, after, ends, ignored_in}
use Rattle.hp_accounts.specs.Laws.{AllCareful}
use Rattle.hp_accounts.proofs.Keeping.{Kept, always_kept}
use Rattle.hp_linux_laws.proofs.Standing.{Stands, Fits}
use Rattle.hp_linux_laws.proofs.Stepping.{From, Booked, HandsGo, Tables, tables_of, tables_in, made, books_of}

-- ---- lists that follow each other

pub all_may : (b : Books) (es fs : List Entry) → AllMay b es → AllMay (ends b es) fs → AllMay b (es ++ fs)
all_may b [] fs m n = n
all_may b (e ∷ es) fs m n = (m.0, all_may (after b e) es fs m.1 n)

pub all_careful : (b : Books) (es fs : List Entry) → AllCareful b es → AllCareful (ends b es) fs → AllCareful b (es ++ fs)
all_careful b [] fs m n = n
all_careful b (e ∷ es) fs m n = (m.0, all_careful (after b e) es fs m.1 n)

pub ends_joined : (b : Books) (es fs : List Entry) → ends b (es ++ fs) ≡ ends (ends b es) fs
ends_joined b [] fs = refl
ends_joined b (e ∷ es) fs = ends_joined (after b e) es fs

pub ignored_joined : (es fs : List Entry) → ignored_in (es ++ fs) ≡ ignored_in es + ignored_in fs
ignored_joined [] fs = omega arith
ignored_joined (e ∷ es) fs = (let r = ignored_joined es fs in omega arith)

-- no entry changes the measures
after_measures : (b : Books) (e : Entry) → (after b e).geometry ≡ b.geometry
after_measures b (TakesSlot h f i) = refl
after_measures b e = refl

measures : (b : Books) (es : List Entry) → (ends b es).geometry ≡ b.geometry
measures b [] = refl
measures b (e ∷ es) = measures (after b e) es ∙ after_measures b e

-- ---- what is known behind each event; the count of the state is `resv` less `debt`

pub record Known (exact careful : Bool) (g : Geometry) (frames : ℕ) (s : State) (debt : ℕ) : Type 0 where
  pub es : List Entry
  pub may : AllMay (opens g frames) es
  pub cares : careful ≡ true → AllCareful (opens g frames) es
  pub accounts : exact ≡ true → ignored_in es ≡ 0
  pub hands : ℕ → Option ℕ
  pub marks : ℕ → Mark
  pub booked : ℕ × ℕ
  pub shows : ends (opens g frames) es ≡ books_of s hands marks booked.0 booked.1
  pub counts : booked.0 + debt ≡ s.resv + booked.1
  pub stands : (u : ℕ) → Stands s.geometry careful (s.mappings u) (s.entries u) (marks u) (s.calls u)
  pub ranges : (u : ℕ) → AllWithin s.geometry (s.mappings u)
  pub fits : Fits s.geometry s.size s.pages
  pub lives : Lives s.geometry.tasks s.life s.calls
  pub held : (u : ℕ) → u ≤ s.geometry.tasks → hands u ≡ hand (s.calls u)
  pub late : (u x : ℕ) → s.geometry.tasks < u → hands u ≡ Some x → u ≡ s.geometry.tasks + 1 + x

-- books whose parts are the same are the same
pub same_books : (c d : Tables) (hands others : ℕ → Option ℕ) (marks : ℕ → Mark) (n debt o q p r : ℕ) → c ≡ d → hands ≡ others → o ≡ q
    → p ≡ r
    → made c hands marks n debt o p ≡ made d others marks n debt q r
same_books c d hands others marks n debt o q p r e f h k =
    ap (λ (x : Tables). made x hands marks n debt o p) e
    ∙ (ap (λ (x : ℕ → Option ℕ). made d x marks n debt o p) f
    ∙ (ap (λ (x : ℕ). made d others marks n debt x p) h ∙ ap (λ (x : ℕ). made d others marks n debt q x) k))

-- what is known of another task's call stays known
stands_fewer : (g : Geometry) (exact : Bool) (ms : List Mapping) (es fewer : ℕ → Option ℕ) (m : Mark) (c : Option Call)
    → ((v x : ℕ) → fewer v ≡ Some x → es v ≡ Some x) → Stands g exact ms es m c → Stands g exact ms fewer m c
stands_fewer g exact ms es fewer m (Some (call.Unmap (unmap.Drop p))) still h = (h.0, λ v x e. h.1 v x (still v x e))
stands_fewer g exact ms es fewer m (Some (call.Exit (exit.Drop p))) still h = (h.0, λ v x e. h.1 v x (still v x e))
stands_fewer g exact ms es fewer m c still h = h

-- what every entry keeps holds of the books
pub kept : (exact careful : Bool) (g : Geometry) (frames : ℕ) (s : State) (d : ℕ) (h : Known exact careful g frames s d)
    → Kept (books_of s h.hands h.marks h.booked.0 h.booked.1)
kept exact careful g frames s d h = subst Kept h.shows (always_kept g frames h.es h.may)

-- numbers that are in order are apart
apart : (a b : ℕ) → a < b → a ≢ b
apart a b l = λ e. (omega arith)

apart_more : (a b : ℕ) → b < a → a ≢ b
apart_more a b l = λ e. (omega arith)

-- a frame in the hand of a call isn't left elsewhere
pub spare_hand : (exact careful : Bool) (g : Geometry) (frames : ℕ) (s : State) (d t x : ℕ) (h : Known exact careful g frames s d)
    → t ≤ s.geometry.tasks → h.hands t ≡ Some x → h.hands (s.geometry.tasks + 1 + x) ≡ None
spare_hand exact careful g frames s d t x h low full = here (h.hands (s.geometry.tasks + 1 + x)) refl
  where
    u : ℕ
    u = s.geometry.tasks + 1 + x

    hand_same : {a b : ℕ} → Hand a ≡ Hand b → a ≡ b
    hand_same e = cc

    here : (o : Option ℕ) → h.hands u ≡ o → h.hands u ≡ None
    here None e = e
    here (Some y) e =
        let p = (kept exact careful g frames s d h).place in
        let same : u ≡ s.geometry.tasks + 1 + y = h.late u y (omega arith) e in
        let a : x ≡ y = (omega arith) in
        let i = p.one.one x (p.one.real x (Hand t) full) in
        let q : Hand t ≡ Hand u = i.2 (Hand t) full ∙ sym (i.2 (Hand u) (e ∙ ap (λ (m : ℕ). Some m) (sym a))) in
        absurd (apart t u (omega arith) (hand_same q))

-- where the step of a task begins
abbrev pub begins_at : (exact careful : Bool) (g : Geometry) (frames : ℕ) (s : State) (d t : ℕ) (c : Call)
    → Known exact careful g frames s d
    → is_dead (s.life t) ≡ false
    → s.calls t ≡ Some c → From c
begins_at exact careful g frames s d t c h alive e = record {
  state = s;
  task = t;
  careful = careful;
  exact = exact;
  hands = h.hands;
  marks = h.marks;
  count = h.booked.0;
  debt = h.booked.1;
  live = h.lives.there t alive;
  ranges = h.ranges t;
  fits = h.fits;
  here = e;
  held = h.held t (h.lives.there t alive).1 ∙ ap hand e;
  spare = λ x z. spare_hand exact careful g frames s d t x h (h.lives.there t alive).1
      (h.held t (h.lives.there t alive).1 ∙ (ap hand e ∙ z));
  stands = subst (Stands s.geometry careful (s.mappings t) (s.entries t) (h.marks t)) e (h.stands t);
}

-- the state behind a step
abbrev pub stepped : State → (task : ℕ) → Call → Pool → Option Call → State
stepped s t c new next = record (with_pool s new) { life = lives_after s.life t c next; calls = put s.calls t next }

-- a step that is booked is known
pub steps_known : (exact careful : Bool) (g : Geometry) (frames : ℕ) (s : State) (d t : ℕ) (c : Call) (new : Pool) (next : Option Call)
    → (h : Known exact careful g frames s d) → (alive : is_dead (s.life t) ≡ false) → (e : s.calls t ≡ Some c)
    → Booked c (begins_at exact careful g frames s d t c h alive e) new next → Known exact careful g frames (stepped s t c new next) d
steps_known exact careful g frames s d t c new next h alive e y =
    let b = books_of s h.hands h.marks h.booked.0 h.booked.1 in
    let low : t < s.geometry.tasks + 1 = (let l = (h.lives.there t alive).1 in omega arith) in
    let owed : total (s.geometry.tasks + 1) (λ u. behind (put s.calls t next u)) + behind (Some c)
    ≡ total (s.geometry.tasks + 1) (λ u. behind (s.calls u)) + behind next =
    sum_after behind (s.geometry.tasks + 1) s.calls t (Some c) next low e in
    let promised : total (s.geometry.tasks + 1) (λ u. ahead (put s.calls t next u)) + ahead (Some c)
    ≡ total (s.geometry.tasks + 1) (λ u. ahead (s.calls u)) + ahead next =
    sum_after ahead (s.geometry.tasks + 1) s.calls t (Some c) next low e in
    let geometry : s.geometry ≡ new.geometry = sym (measures b y.es) ∙ ap (λ (q : Tables). q.0) y.tables in
    let a = y.owed in
    let z = y.promised in
    record {
      es = h.es ++ y.es;
      may = all_may (opens g frames) h.es y.es h.may (subst (λ (q : Books). AllMay q y.es) (sym h.shows) y.may);
      cares = λ tight. all_careful (opens g frames) h.es y.es (h.cares tight)
          (subst (λ (q : Books). AllCareful q y.es) (sym h.shows) (y.careful tight));
      accounts = λ tight.
          (let i = ignored_joined h.es y.es in let j = h.accounts tight in let k = y.exact tight in omega arith);
      hands = (ends b y.es).hands;
      marks = (ends b y.es).marks;
      booked = ((ends b y.es).count, (ends b y.es).debt);
      shows = ends_joined (opens g frames) h.es y.es
          ∙ (ap (λ (q : Books). ends q y.es) h.shows
          ∙ same_books (tables_in (ends b y.es)) (tables_of new) (ends b y.es).hands (ends b y.es).hands (ends b y.es).marks
          (ends b y.es).count (ends b y.es).debt (ends b y.es).owed _ (ends b y.es).promised _ y.tables
          refl
          (subst (λ (q : Geometry). (ends b y.es).owed ≡ total (q.tasks + 1) (λ u. behind (put s.calls t next u))) geometry (omega arith))
          (subst (λ (q : Geometry). (ends b y.es).promised ≡ total (q.tasks + 1) (λ u. ahead (put s.calls t next u))) geometry
          (omega arith)));
      counts = (let i = h.counts in let j = y.count in omega arith);
      stands = each_call (λ u p. Stands new.geometry careful (new.mappings u) (new.entries u) ((ends b y.es).marks u) p) s.calls t next
          (λ u q. let o = y.others u q in
          subst (λ (k : Geometry). Stands k careful (new.mappings u) (new.entries u) ((ends b y.es).marks u) (s.calls u)) geometry
          (subst (λ (k : List Mapping). Stands s.geometry careful k (new.entries u) ((ends b y.es).marks u) (s.calls u)) (sym o.0)
          (subst (λ (k : Mark). Stands s.geometry careful (s.mappings u) (new.entries u) k (s.calls u)) (sym (y.marks u q))
          (stands_fewer s.geometry careful (s.mappings u) (s.entries u) (new.entries u) (h.marks u) (s.calls u) o.1 (h.stands u)))))
          y.stands;
      ranges = λ u. elim (same_or_other u t) [
        | inl q ↦ subst (λ (k : ℕ). AllWithin new.geometry (new.mappings k)) (sym q) y.ranges
        | inr q ↦ subst (λ (k : Geometry). AllWithin k (new.mappings u)) geometry
            (subst (AllWithin s.geometry) (sym (y.others u q).0) (h.ranges u))
      ];
      fits = y.fits;
      lives = subst (λ (k : Geometry). Lives k.tasks (lives_after s.life t c next) (put s.calls t next)) geometry
          (lives_on s.geometry.tasks s.life s.calls t c next h.lives e);
      held = λ u l. hands_held (ends b y.es).hands y.hands u (subst (λ (q : Geometry). u ≤ q.tasks) (sym geometry) l);
      late = λ u x l f. subst (λ (q : Geometry). u ≡ q.tasks + 1 + x) geometry
          (hands_late (ends b y.es).hands y.hands u x (subst (λ (q : Geometry). q.tasks < u) (sym geometry) l) f);
    }
  where
    low_task : t ≤ s.geometry.tasks
    low_task = (h.lives.there t alive).1

    called : (o : Option Call) (u : ℕ) → u ≢ t → hand (put s.calls t o u) ≡ hand (s.calls u)
    called o u q = ap hand (put_other s.calls t o u q)

    above : (u : ℕ) → s.geometry.tasks < u → u ≢ t
    above u l = apart_more u t (let a = low_task in omega arith)

    hands_held : (after : ℕ → Option ℕ) → HandsGo c (begins_at exact careful g frames s d t c h alive e) next after
        → (u : ℕ) → u ≤ s.geometry.tasks → after u ≡ hand (put s.calls t next u)
    hands_held after (inl is) u l = ap (λ (m : ℕ → Option ℕ). m u) is ∙ elim (same_or_other u t) [
      | inl q ↦ ap (put h.hands t (hand next)) q ∙ (put_same h.hands t (hand next)
          ∙ (sym (ap hand (put_same s.calls t next)) ∙ ap (λ (m : ℕ). hand (put s.calls t next m)) (sym q)))
      | inr q ↦ put_other h.hands t (hand next) u q ∙ (h.held u l ∙ sym (called next u q))
    ]
    hands_held after (inr (x, full, empty, is)) u l =
        ap (λ (m : ℕ → Option ℕ). m u) is
        ∙ (put_other (put h.hands t None) (s.geometry.tasks + 1 + x) (Some x) u (apart u (s.geometry.tasks + 1 + x) (omega arith))
        ∙ elim (same_or_other u t) [
          | inl q ↦ ap (put h.hands t None) q ∙ (put_same h.hands t None
              ∙ (sym (ap hand (put_same s.calls t next) ∙ empty) ∙ ap (λ (m : ℕ). hand (put s.calls t next m)) (sym q)))
          | inr q ↦ put_other h.hands t None u q ∙ (h.held u l ∙ sym (called next u q))
        ])

    hands_late : (after : ℕ → Option ℕ) → HandsGo c (begins_at exact careful g frames s d t c h alive e) next after
        → (u x : ℕ) → s.geometry.tasks < u → after u ≡ Some x → u ≡ s.geometry.tasks + 1 + x
    hands_late after (inl is) u x l f =
        h.late u x l (sym (put_other h.hands t (hand next) u (above u l)) ∙ (sym (ap (λ (m : ℕ → Option ℕ). m u) is) ∙ f))
    hands_late after (inr (y, full, empty, is)) u x l f =
        elim (put_tells (put h.hands t None) (s.geometry.tasks + 1 + y) (Some y) u) [
          | inl q ↦ q.0 ∙ ap (λ (m : ℕ). s.geometry.tasks + 1 + m)
              (some_same (sym q.1 ∙ (sym (ap (λ (m : ℕ → Option ℕ). m u) is) ∙ f)))
          | inr q ↦ h.late u x l (sym (put_other h.hands t None u (above u l)) ∙ (sym q.1 ∙ (sym (ap (λ (m : ℕ → Option ℕ). m u) is) ∙ f)))
        ]
