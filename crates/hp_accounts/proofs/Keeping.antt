-- What every entry keeps of frames, pages, translations and slots.
use Rattle.std.proofs.Common.{◌≡◌, ◌≢◌, ℕ, ◌+◌, ◌-◌, ◌<◌, ◌≤◌, refl, ap, sym, ◌∙◌, subst, arith, inl, inr, ◌⊎◌}
use Rattle.std.specs.Prelude.{Bool, true, false, Option, Some, None, List, [], ◌∷◌, if◌then◌else◌, nat_lt}
use Rattle.std.proofs.lemmas.Bool.Decides.{nat_tests}
use Rattle.hp_base.specs.Mappings.{find, is_clear, entered, without, without_index, is_there}
use Rattle.hp_base.specs.Numbers.{put, put2}
use Rattle.hp_base.specs.declared.mapping.Mapping.{Mapping}
use Rattle.hp_base.proofs.Puts.{put_same, put_other, same_or_other, put_tells, put2_tells, put2_same}
use Rattle.hp_base.proofs.Spaces.{fits_clear, entered_find, without_find}
use Rattle.hp_frames.specs.declared.frame.FrameState.{FrameState}
use Rattle.hp_frames.specs.declared.frame.FrameState.TheVariants as state
use Rattle.hp_machine.specs.State.{Geometry, slot_of}
use Rattle.hp_machine.specs.Headline.{Place, Free, Hand, Page, Retired, IsAt}
use Rattle.hp_laws.proofs.Deciding.{some_same}
use Rattle.hp_laws.proofs.Moves.{Placing, frame_moves, same_place, takes_frame, gives_frame, places_frame, evicts_frame, writes_frame}
use Rattle.hp_laws.proofs.Resizing.{Shifts, shifted}
use Rattle.hp_laws.proofs.Runs.{opens_well}
use Rattle.hp_accounts.specs.Books.{Books, Mark, Away, At, Bare, Entered, Clearing, place_of, bare_of, opens}
use Rattle.hp_accounts.specs.Entries.{Entry, TakesSlot, LeavesSlot, Looks, Finds, Turns, ClearsIndex, Evicts, Places, Translates}
use Rattle.hp_accounts.specs.Entries.{Takes, HandsOver, Frees, Writes, ClearsSome, EntersArea, LeavesArea, Resizes}
use Rattle.hp_accounts.specs.Entries.{Accounts, Settles, Spends, GivesBack, Ignores, Commits, Deletes}
use Rattle.hp_accounts.specs.Entries.{CutsTail, May, after, IsResized, AllMay, ends}
use Rattle.hp_accounts.specs.Laws.{Agrees}

-- the holder has the slot of the index, which is there
abbrev pub Holds : Books → (holder file index : ℕ) → Type 0
Holds b h f i = (f < b.geometry.files) × (i < b.geometry.limit) × (b.slots (slot_of b.geometry f i) ≡ Some h)

-- no task below that one translates the index
abbrev pub ClearBelow : Books → (file index task : ℕ) → Type 0
ClearBelow b f i n = (t v x : ℕ) → t < n → b.entries t v ≡ Some x → find (b.mappings t) v ≡ Some (f, i) → ⊥

-- what a holder knows is so
abbrev pub Knows : Books → (holder : ℕ) → Mark → Type 0
Knows b h Away = Unit {0}
Knows b h (At f i) = Holds b h f i
Knows b h (Bare f i) = Holds b h f i × (b.pages f i ≡ None)
Knows b h (Entered f i) = Holds b h f i × (b.pages f i ≡ None)
Knows b h (Clearing f i n) = Holds b h f i × ClearBelow b f i n

-- what every entry keeps
pub record Kept (b : Books) : Type 0 where
  pub agree : Agrees b
  pub owners : (t v x : ℕ) → b.entries t v ≡ Some x → (1 ≤ t) × (t ≤ b.geometry.tasks)
  pub place : Placing b.frames b.frame b.hands b.pages
  pub knows : (h : ℕ) → Knows b h (b.marks h)

-- a mark that tells a place is of a holder who has its slot
held_at : (b : Books) (h : ℕ) (m : Mark) (f i : ℕ) → Knows b h m → place_of m ≡ Some (f, i) → Holds b h f i
held_at b h Away f i k e = (let d : ◌≡◌ {A = Option (ℕ × ℕ)} None (Some (f, i)) = e in absurd (cc))
held_at b h (At g j) f i k e = subst (λ (p : ℕ × ℕ). Holds b h p.0 p.1) (some_same e) k
held_at b h (Bare g j) f i k e = subst (λ (p : ℕ × ℕ). Holds b h p.0 p.1) (some_same e) k.0
held_at b h (Entered g j) f i k e = subst (λ (p : ℕ × ℕ). Holds b h p.0 p.1) (some_same e) k.0
held_at b h (Clearing g j n) f i k e = subst (λ (p : ℕ × ℕ). Holds b h p.0 p.1) (some_same e) k.0

-- and where it says that there is no page, there is none
bare_at : (b : Books) (h : ℕ) (m : Mark) (f i : ℕ) → Knows b h m → bare_of m ≡ Some (f, i) → Holds b h f i × (b.pages f i ≡ None)
bare_at b h Away f i k e = (let d : ◌≡◌ {A = Option (ℕ × ℕ)} None (Some (f, i)) = e in absurd (cc))
bare_at b h (At g j) f i k e = (let d : ◌≡◌ {A = Option (ℕ × ℕ)} None (Some (f, i)) = e in absurd (cc))
bare_at b h (Bare g j) f i k e = subst (λ (p : ℕ × ℕ). Holds b h p.0 p.1 × (b.pages p.0 p.1 ≡ None)) (some_same e) k
bare_at b h (Entered g j) f i k e = subst (λ (p : ℕ × ℕ). Holds b h p.0 p.1 × (b.pages p.0 p.1 ≡ None)) (some_same e) k
bare_at b h (Clearing g j n) f i k e = (let d : ◌≡◌ {A = Option (ℕ × ℕ)} None (Some (f, i)) = e in absurd (cc))

pub holds_at : (b : Books) (h f i : ℕ) → Kept b → place_of (b.marks h) ≡ Some (f, i) → Holds b h f i
holds_at b h f i k e = held_at b h (b.marks h) f i (k.knows h) e

pub is_bare : (b : Books) (h f i : ℕ) → Kept b → bare_of (b.marks h) ≡ Some (f, i) → Holds b h f i × (b.pages f i ≡ None)
is_bare b h f i k e = bare_at b h (b.marks h) f i (k.knows h) e

-- what stays, from one state of the books to another, of what a holder may know
pub record Stays (b n : Books) (h : ℕ) : Type 0 where
  pub slot : (f i : ℕ) → Holds b h f i → Holds n h f i
  pub page : (f i : ℕ) → Holds b h f i → b.pages f i ≡ None → n.pages f i ≡ None
  pub clear : (f i t v x : ℕ) → Holds b h f i → n.entries t v ≡ Some x → find (n.mappings t) v ≡ Some (f, i)
      → (y : ℕ) × (b.entries t v ≡ Some y) × (find (b.mappings t) v ≡ Some (f, i))

-- so it is still known
knows_still : (b n : Books) (h : ℕ) (m : Mark) → Stays b n h → Knows b h m → Knows n h m
knows_still b n h Away s k = tt
knows_still b n h (At f i) s k = s.slot f i k
knows_still b n h (Bare f i) s k = (s.slot f i k.0, s.page f i k.0 k.1)
knows_still b n h (Entered f i) s k = (s.slot f i k.0, s.page f i k.0 k.1)
knows_still b n h (Clearing f i m) s k =
    (s.slot f i k.0, λ t v x l p q. let o = s.clear f i t v x k.0 p q in k.1 t v o.0 l o.1 o.2)

-- a property of all holders' marks, where one mark changes
by_mark : (Q : ℕ → Mark → Type 0) (marks : ℕ → Mark) (h : ℕ) (m : Mark) → Q h m → ((j : ℕ) → j ≢ h → Q j (marks j)) → (j : ℕ)
    → Q j (put marks h m j)
by_mark Q marks h m own others j = elim (same_or_other j h) [
  | inl e ↦ subst (λ (w : ℕ). Q w (put marks h m w)) (sym e) (subst (Q h) (sym (put_same marks h m)) own)
  | inr d ↦ subst (Q j) (sym (put_other marks h m j d)) (others j d)
]

-- two who have one slot are one
pub one_holder : (o : Option ℕ) (h j : ℕ) → o ≡ Some h → o ≡ Some j → j ≡ h
one_holder o h j a b = some_same (sym b ∙ a)

-- a frame goes from one hand to another
over_only : (states : ℕ → FrameState) (hands : ℕ → Option ℕ) (pages : ℕ → ℕ → Option ℕ) (h k x : ℕ)
    → ((q : Place) → IsAt states hands pages x q → q ≡ Hand h) → (r : Place)
    → IsAt states (put (put hands h None) k (Some x)) pages x r → r ≡ Hand k
over_only states hands pages h k x only Free a = (let d : Free ≡ Hand h = only Free a in absurd (cc))
over_only states hands pages h k x only (Hand u) a = elim (put_tells (put hands h None) k (Some x) u) [
  | inl q ↦ ap (λ (m : ℕ). Hand m) q.0
  | inr q ↦ elim (put_tells hands h None u) [
    | inl z ↦ (let d : ◌≡◌ {A = Option ℕ} None (Some x) = sym z.1 ∙ (sym q.1 ∙ a) in absurd (cc))
    | inr z ↦ (let d : Hand u ≡ Hand h = only (Hand u) (sym z.1 ∙ (sym q.1 ∙ a)) in absurd (z.0 (same u h d)))
  ]
]
  where
    same : (a b : ℕ) → Hand a ≡ Hand b → a ≡ b
    same a b p = cc
over_only states hands pages h k x only (Page f i) a = (let d : Page f i ≡ Hand h = only (Page f i) a in absurd (cc))
over_only states hands pages h k x only Retired a = (let d : Retired ≡ Hand h = only Retired a in absurd (cc))

over_back : (states : ℕ → FrameState) (hands : ℕ → Option ℕ) (pages : ℕ → ℕ → Option ℕ) (h k x y : ℕ) (r : Place) → y ≢ x
    → IsAt states (put (put hands h None) k (Some x)) pages y r → IsAt states hands pages y r
over_back states hands pages h k x y Free d a = a
over_back states hands pages h k x y (Hand u) d a = elim (put_tells (put hands h None) k (Some x) u) [
  | inl q ↦ absurd (d (some_same (sym a ∙ q.1)))
  | inr q ↦ elim (put_tells hands h None u) [
    | inl z ↦ (let w : ◌≡◌ {A = Option ℕ} None (Some y) = sym z.1 ∙ (sym q.1 ∙ a) in absurd (cc))
    | inr z ↦ sym z.1 ∙ (sym q.1 ∙ a)
  ]
]
over_back states hands pages h k x y (Page f i) d a = a
over_back states hands pages h k x y Retired d a = a

over_on : (states : ℕ → FrameState) (hands : ℕ → Option ℕ) (pages : ℕ → ℕ → Option ℕ) (h k x y : ℕ) (r : Place)
    → hands h ≡ Some x → hands k ≡ None → y ≢ x → IsAt states hands pages y r → IsAt states (put (put hands h None) k (Some x)) pages y r
over_on states hands pages h k x y Free full empty d a = a
over_on states hands pages h k x y (Hand u) full empty d a = elim (put_tells (put hands h None) k (Some x) u) [
  | inl q ↦ (let w : ◌≡◌ {A = Option ℕ} None (Some y) = sym empty ∙ (ap hands (sym q.0) ∙ a) in absurd (cc))
  | inr q ↦ elim (put_tells hands h None u) [
    | inl z ↦ absurd (d (some_same (sym a ∙ (ap hands z.0 ∙ full))))
    | inr z ↦ q.1 ∙ (z.1 ∙ a)
  ]
]
over_on states hands pages h k x y (Page f i) full empty d a = a
over_on states hands pages h k x y Retired full empty d a = a

hands_over : (n : ℕ) (states : ℕ → FrameState) (hands : ℕ → Option ℕ) (pages : ℕ → ℕ → Option ℕ) (h k x : ℕ)
    → Placing n states hands pages → hands h ≡ Some x → hands k ≡ None
    → Placing n states (put (put hands h None) k (Some x)) pages
hands_over n states hands pages h k x p full empty = record {
  one = frame_moves n states states hands (put (put hands h None) k (Some x)) pages pages x (Hand h) (Hand k) p.one full
      (put_same (put hands h None) k (Some x))
      (over_only states hands pages h k x (λ q a. same_place n states hands pages p.one x q (Hand h) a full))
      (λ y r d a. over_back states hands pages h k x y r d a)
      (λ y r d a. over_on states hands pages h k x y r full empty d a);
  hands = λ u y a. elim (put_tells (put hands h None) k (Some x) u) [
    | inl q ↦ ap states (some_same (sym a ∙ q.1)) ∙ p.hands h x full
    | inr q ↦ elim (put_tells hands h None u) [
      | inl z ↦ (let w : ◌≡◌ {A = Option ℕ} None (Some y) = sym z.1 ∙ (sym q.1 ∙ a) in absurd (cc))
      | inr z ↦ p.hands u y (sym z.1 ∙ (sym q.1 ∙ a))
    ]
  ];
  pages = p.pages;
}

-- a resize shifts frames
resized : (b : Books) (n : ℕ) (frame : ℕ → FrameState) → IsResized b n frame → Shifts b.frames n b.frame frame
resized b n frame r = record { wide = r.wide; each = λ x. by_number x (nat_lt x b.frames) refl (nat_lt x n) refl }
  where
    by_number : (x : ℕ) (low : Bool) → nat_lt x b.frames ≡ low → (there : Bool) → nat_lt x n ≡ there
        → ((frame x ≡ b.frame x) × (x < n → x < b.frames))
        ⊎ (((frame x ≡ state.Free) × (x < n) × ((b.frame x ≡ state.Retired) ⊎ (b.frames ≤ x)))
        ⊎ ((b.frame x ≡ state.Free) × (frame x ≡ state.Retired)))
    by_number x true d there e =
        let l : x < b.frames = grind (arith, nat_tests) in
        elim (r.each x l) [
          | inl a ↦ inl (a, λ _. l)
          | inr (inl a) ↦ inr (inr (a.0, a.1))
          | inr (inr a) ↦ inr (inl (a.1, (let w = r.wide in omega arith), inl a.0))
        ]
    by_number x false d true e =
        let l : b.frames ≤ x = grind (arith, nat_tests) in
        let m : x < n = grind (arith, nat_tests) in
        inr (inl (r.fresh x l m, m, inr l))
    by_number x false d false e =
        let m : n ≤ x = grind (arith, nat_tests) in inl (r.beyond x m, λ l. absurd (omega arith))

-- ---- each entry

-- frames, hands, maps and counts change, and nothing that is known
reframed : (b : Books) (n : ℕ) (frame : ℕ → FrameState) (hands : ℕ → Option ℕ) (reserved : ℕ → ℕ → Bool) (c d o p : ℕ) → Kept b
    → Placing n frame hands b.pages
    → Kept (record b {
      frames = n;
      frame = frame;
      hands = hands;
      reserved = reserved;
      count = c;
      debt = d;
      owed = o;
      promised = p;
    })
reframed b n frame hands reserved c d o p k place = record {
  agree = k.agree;
  owners = k.owners;
  place = place;
  knows = λ h. knows_still b (record b {
    frames = n;
    frame = frame;
    hands = hands;
    reserved = reserved;
    count = c;
    debt = d;
    owed = o;
    promised = p;
  }) h (b.marks h) (record { slot = λ f i a. a; page = λ f i a e. e; clear = λ f i t v x a e q. (x, e, q) }) (k.knows h);
}

-- one holder knows something else
marking : (b : Books) (h : ℕ) (m : Mark) → Kept b → Knows b h m → Kept (record b { marks = put b.marks h m })
marking b h m k own = record {
  agree = k.agree;
  owners = k.owners;
  place = k.place;
  knows = by_mark (Knows n) b.marks h m (knows_still b n h m same own) (λ j d. knows_still b n j (b.marks j) same (k.knows j));
}
  where
    n : Books
    n = record b { marks = put b.marks h m }

    same : {j : ℕ} → Stays b n j
    same = record { slot = λ f i a. a; page = λ f i a e. e; clear = λ f i t v x a e q. (x, e, q) }

-- translations go
fewer : (b : Books) (table : ℕ → ℕ → Option ℕ) → Kept b → ((t v x : ℕ) → table t v ≡ Some x → b.entries t v ≡ Some x)
    → Kept (record b { entries = table })
fewer b table k less = record {
  agree = λ t v x e. k.agree t v x (less t v x e);
  owners = λ t v x e. k.owners t v x (less t v x e);
  place = k.place;
  knows = λ h. knows_still b (record b { entries = table }) h (b.marks h)
      (record { slot = λ f i a. a; page = λ f i a e. e; clear = λ f i t v x a e q. (x, less t v x e, q) }) (k.knows h);
}

-- a place that is found is a file and an index
pair : (place : ℕ × ℕ) (o : Option (ℕ × ℕ)) (f i : ℕ) → o ≡ Some place → place.0 ≡ f → place.1 ≡ i → o ≡ Some (f, i)
pair place o f i e p q = e ∙ (ap (λ (m : ℕ). Some (m, place.1)) p ∙ ap (λ (m : ℕ). Some (f, m)) q)

takes_slot : (b : Books) (h f i : ℕ) → Kept b → May b (TakesSlot h f i) → Kept (after b (TakesSlot h f i))
takes_slot b h f i k (files, limit, free, away) = record {
  agree = k.agree;
  owners = k.owners;
  place = k.place;
  knows = by_mark (Knows (after b (TakesSlot h f i))) b.marks h (At f i) (files, limit, put_same b.slots (slot_of b.geometry f i) (Some h))
      (λ j d. knows_still b (after b (TakesSlot h f i)) j (b.marks j) (record {
        slot = λ g m a. (a.0, a.1, still j g m a.2);
        page = λ g m a e. e;
        clear = λ g m t v x a e q. (x, e, q);
      }) (k.knows j));
}
  where
    still : (j g m : ℕ) → b.slots (slot_of b.geometry g m) ≡ Some j
        → put b.slots (slot_of b.geometry f i) (Some h) (slot_of b.geometry g m) ≡ Some j
    still j g m a = elim (put_tells b.slots (slot_of b.geometry f i) (Some h) (slot_of b.geometry g m)) [
      | inl q ↦ (let d : ◌≡◌ {A = Option ℕ} None (Some j) = sym free ∙ (ap b.slots (sym q.0) ∙ a) in absurd (cc))
      | inr q ↦ q.1 ∙ a
    ]

leaves_slot : (b : Books) (h f i : ℕ) → Kept b → May b (LeavesSlot h f i) → Kept (after b (LeavesSlot h f i))
leaves_slot b h f i k at = record {
  agree = k.agree;
  owners = k.owners;
  place = k.place;
  knows = by_mark (Knows (after b (LeavesSlot h f i))) b.marks h Away tt
      (λ j d. knows_still b (after b (LeavesSlot h f i)) j (b.marks j) (record {
        slot = λ g m a. (a.0, a.1, still j g m d a.2);
        page = λ g m a e. e;
        clear = λ g m t v x a e q. (x, e, q);
      }) (k.knows j));
}
  where
    still : (j g m : ℕ) → j ≢ h → b.slots (slot_of b.geometry g m) ≡ Some j
        → put b.slots (slot_of b.geometry f i) None (slot_of b.geometry g m) ≡ Some j
    still j g m d a = elim (put_tells b.slots (slot_of b.geometry f i) None (slot_of b.geometry g m)) [
      | inl q ↦ absurd (d (one_holder (b.slots (slot_of b.geometry f i)) h j (holds_at b h f i k at).2 (ap b.slots (sym q.0) ∙ a)))
      | inr q ↦ q.1 ∙ a
    ]

-- what is left of one task's translations
filtered : (b : Books) (k : ℕ) (out : ℕ → Bool) (t v x : ℕ) → put b.entries k (λ v. if out v then None else b.entries k v) t v ≡ Some x
    → (b.entries t v ≡ Some x) × (t ≡ k → out v ≡ false)
filtered b k out t v x e = elim (same_or_other t k) [
  | inl d ↦ (let o = kept (out v) (b.entries k v)
      (sym (ap (λ (m : ℕ → Option ℕ). m v) (ap (put b.entries k row) d ∙ put_same b.entries k row)) ∙ e) in
      (ap (λ (m : ℕ). b.entries m v) d ∙ o.1, λ _. o.0))
  | inr d ↦ (sym (ap (λ (m : ℕ → Option ℕ). m v) (put_other b.entries k row t d)) ∙ e, λ q. absurd (d q))
]
  where
    row : ℕ → Option ℕ
    row v = if out v then None else b.entries k v

    kept : (w : Bool) (o : Option ℕ) → (if w then None else o) ≡ Some x → (w ≡ false) × (o ≡ Some x)
    kept true o e = (let d : ◌≡◌ {A = Option ℕ} None (Some x) = e in absurd (cc))
    kept false o e = (refl, e)

clears_index : (b : Books) (h f i n : ℕ) → Kept b → May b (ClearsIndex h f i n) → Kept (after b (ClearsIndex h f i n))
unfolding without_index
clears_index b h f i n k at =
    marking (record b { entries = put b.entries n (without_index (b.mappings n) (b.entries n) f i) }) h (Clearing f i (n + 1))
    (fewer b (put b.entries n (without_index (b.mappings n) (b.entries n) f i)) k (λ t v x e. (filtered b n out t v x e).0)) (
      own.0,
      λ t v x l p q. elim (same_or_other t n) [
        | inl d ↦ (let a : out v ≡ false = (filtered b n out t v x p).1 d in
            let z : out v ≡ true = there (ap (λ (m : ℕ). find (b.mappings m) v) (sym d) ∙ q) in absurd (cc))
        | inr d ↦ own.1 t v x (omega arith) (filtered b n out t v x p).0 q
      ],
    )
  where
    own : Knows b h (Clearing f i n)
    own = subst (Knows b h) at (k.knows h)

    out : ℕ → Bool
    out v = is_there (find (b.mappings n) v) f i

    there : {o : Option (ℕ × ℕ)} → o ≡ Some (f, i) → is_there o f i ≡ true
    there e = ap (λ (m : Option (ℕ × ℕ)). is_there m f i) e ∙ itself f i
      where
        itself : (f i : ℕ) → is_there (Some (f, i)) f i ≡ true
        itself f i = grind (arith, nat_tests)

evicts : (b : Books) (h f i n x : ℕ) → Kept b → May b (Evicts h f i n x) → Kept (after b (Evicts h f i n x))
evicts b h f i n x k (at, all, page, empty) = record {
  agree = λ t v y a. let o = k.agree t v y a in (o.0, o.1, still t v y o.0 a o.1 o.2);
  owners = k.owners;
  place = evicts_frame b.frames b.frame b.hands b.pages h f i x k.place empty page;
  knows = by_mark (Knows (after b (Evicts h f i n x))) b.marks h (Bare f i) (own.0, put2_same b.pages f i None)
      (λ j d. knows_still b (after b (Evicts h f i n x)) j (b.marks j) (record {
        slot = λ g m a. a;
        page = λ g m a e. elim (put2_tells b.pages f i None g m) [ inl q ↦ q.2 | inr q ↦ q.1 ∙ e ];
        clear = λ g m t v x a e q. (x, e, q);
      }) (k.knows j));
}
  where
    own : Knows b h (Clearing f i n)
    own = subst (Knows b h) at (k.knows h)

    still : (t v y : ℕ) (place : ℕ × ℕ) → b.entries t v ≡ Some y → find (b.mappings t) v ≡ Some place → b.pages place.0 place.1 ≡ Some y
        → put2 b.pages f i None place.0 place.1 ≡ Some y
    still t v y place a d p = elim (put2_tells b.pages f i None place.0 place.1) [
      | inl q ↦ absurd (own.1 t v y (let w = k.owners t v y a in let l = w.1 in omega arith) a
          (pair place (find (b.mappings t) v) f i d q.0 q.1))
      | inr q ↦ q.1 ∙ p
    ]

places : (b : Books) (h f i x : ℕ) → Kept b → May b (Places h f i x) → Kept (after b (Places h f i x))
places b h f i x k (bare, full, one) = record {
  agree = λ t v y a. let o = k.agree t v y a in (o.0, o.1, still o.0.0 o.0.1 y o.2);
  owners = k.owners;
  place = places_frame b.frames b.frame b.hands b.pages h f i x k.place full own.1;
  knows = by_mark (Knows (after b (Places h f i x))) b.marks h (At f i) own.0
      (λ j d. knows_still b (after b (Places h f i x)) j (b.marks j) (record {
        slot = λ g m a. a;
        page = λ g m a e. elim (put2_tells b.pages f i (Some x) g m) [
          | inl q ↦ absurd (d (one_holder (b.slots (slot_of b.geometry f i)) h j own.0.2
              (ap (λ (w : ℕ). b.slots (slot_of b.geometry w i)) (sym q.0)
              ∙ (ap (λ (w : ℕ). b.slots (slot_of b.geometry g w)) (sym q.1) ∙ a.2))))
          | inr q ↦ q.1 ∙ e
        ];
        clear = λ g m t v x a e q. (x, e, q);
      }) (k.knows j));
}
  where
    own : Holds b h f i × (b.pages f i ≡ None)
    own = is_bare b h f i k bare

    still : (g m y : ℕ) → b.pages g m ≡ Some y → put2 b.pages f i (Some x) g m ≡ Some y
    still g m y a = elim (put2_tells b.pages f i (Some x) g m) [
      | inl q ↦ (let d : ◌≡◌ {A = Option ℕ} None (Some y) =
          sym own.1 ∙ (ap (λ (w : ℕ). b.pages w i) (sym q.0) ∙ (ap (b.pages g) (sym q.1) ∙ a)) in absurd (cc))
      | inr q ↦ q.1 ∙ a
    ]

translates : (b : Books) (h f i t v x : ℕ) → Kept b → May b (Translates h f i t v x) → Kept (after b (Translates h f i t v x))
translates b h f i t v x k (at, one, low, there, page) = record {
  agree = λ w z y a. elim (put2_tells b.entries t v (Some x) w z) [
    | inl q ↦ ((f, i), found w z q.0 q.1, page ∙ (sym q.2 ∙ a))
    | inr q ↦ k.agree w z y (sym q.1 ∙ a)
  ];
  owners = λ w z y a. elim (put2_tells b.entries t v (Some x) w z) [
    | inl q ↦ (let d : w ≡ t = q.0 in (omega arith, omega arith))
    | inr q ↦ k.owners w z y (sym q.1 ∙ a)
  ];
  place = k.place;
  knows = λ j. elim (same_or_other j h) [
    | inl e ↦ subst (λ (w : ℕ). Knows (after b (Translates h f i t v x)) w (b.marks w)) (sym e)
        (subst (Knows (after b (Translates h f i t v x)) h) (sym at) own)
    | inr d ↦ knows_still b (after b (Translates h f i t v x)) j (b.marks j) (record {
      slot = λ g m a. a;
      page = λ g m a e. e;
      clear = λ g m w z y a e q. elim (put2_tells b.entries t v (Some x) w z) [
        | inl o ↦ absurd (d (one_holder (b.slots (slot_of b.geometry f i)) h j own.2
            (ap (λ (p : ℕ × ℕ). b.slots (slot_of b.geometry p.0 p.1)) (some_same (sym (found w z o.0 o.1) ∙ q)) ∙ a.2)))
        | inr o ↦ (y, sym o.1 ∙ e, q)
      ];
    }) (k.knows j)
  ];
}
  where
    own : Holds b h f i
    own = subst (Knows b h) at (k.knows h)

    found : (w z : ℕ) → w ≡ t → z ≡ v → find (b.mappings w) z ≡ Some (f, i)
    found w z p q = ap (λ (m : ℕ). find (b.mappings m) z) p ∙ (ap (find (b.mappings t)) q ∙ there)

enters_area : (b : Books) (t : ℕ) (a : Mapping) → Kept b → May b (EntersArea t a) → Kept (after b (EntersArea t a))
enters_area b t a k room = record {
  agree = λ w v x e. let o = k.agree w v x e in (o.0, kept w v o.0 o.1, o.2);
  owners = k.owners;
  place = k.place;
  knows = λ h. knows_still b (after b (EntersArea t a)) h (b.marks h) (record {
    slot = λ f i z. z;
    page = λ f i z e. e;
    clear = λ f i w v x z e q. let o = k.agree w v x e in (x, e, o.1 ∙ (sym (kept w v o.0 o.1) ∙ q));
  }) (k.knows h);
}
  where
    apart : (a.base + a.len ≤ b.geometry.space) × (is_clear (b.mappings t) a.base a.len ≡ true)
    apart = fits_clear b.geometry.space a.base a.len (b.mappings t) room

    kept : (w v : ℕ) (place : ℕ × ℕ) → find (b.mappings w) v ≡ Some place
        → find (put b.mappings t (entered (b.mappings t) a) w) v ≡ Some place
    kept w v place d = elim (same_or_other w t) [
      | inl q ↦ ap (λ (m : List Mapping). find m v)
          (ap (put b.mappings t (entered (b.mappings t) a)) q ∙ put_same b.mappings t (entered (b.mappings t) a))
          ∙ entered_find (b.mappings t) a v place apart.1 (ap (λ (m : ℕ). find (b.mappings m) v) (sym q) ∙ d)
      | inr q ↦ ap (λ (m : List Mapping). find m v) (put_other b.mappings t (entered (b.mappings t) a) w q) ∙ d
    ]

leaves_area : (b : Books) (t base : ℕ) → Kept b → May b (LeavesArea t base) → Kept (after b (LeavesArea t base))
leaves_area b t base k clear = record {
  agree = λ w v x e. let o = k.agree w v x e in (o.0, same w v x e ∙ o.1, o.2);
  owners = k.owners;
  place = k.place;
  knows = λ h. knows_still b (after b (LeavesArea t base)) h (b.marks h) (record {
    slot = λ f i z. z;
    page = λ f i z e. e;
    clear = λ f i w v x z e q. (x, e, sym (same w v x e) ∙ q);
  }) (k.knows h);
}
  where
    same : (w v x : ℕ) → b.entries w v ≡ Some x → find (put b.mappings t (without (b.mappings t) base) w) v ≡ find (b.mappings w) v
    same w v x e = elim (same_or_other w t) [
      | inl q ↦ ap (λ (m : List Mapping). find m v)
          (ap (put b.mappings t (without (b.mappings t) base)) q ∙ put_same b.mappings t (without (b.mappings t) base))
          ∙ (without_find (b.mappings t) base v (clear v x (ap (λ (m : ℕ). b.entries m v) (sym q) ∙ e))
          ∙ ap (λ (m : ℕ). find (b.mappings m) v) (sym q))
      | inr q ↦ ap (λ (m : List Mapping). find m v) (put_other b.mappings t (without (b.mappings t) base) w q)
    ]

-- every entry keeps it
pub keeps : (b : Books) (e : Entry) → Kept b → May b e → Kept (after b e)
keeps b (TakesSlot h f i) k m = takes_slot b h f i k m
keeps b (LeavesSlot h f i) k m = leaves_slot b h f i k m
keeps b (Looks h f i) k m = marking b h (Bare f i) k (holds_at b h f i k m.0, m.1)
keeps b (Finds h f i) k m = marking b h (Entered f i) k (is_bare b h f i k m.0)
keeps b (Turns h f i) k m =
    marking b h (Clearing f i 1) k (holds_at b h f i k m, λ t v x l p q. let o = k.owners t v x p in let one = o.0 in absurd (omega arith))
keeps b (ClearsIndex h f i n) k m = clears_index b h f i n k m
keeps b (Evicts h f i n x) k m = evicts b h f i n x k m
keeps b (Places h f i x) k m = places b h f i x k m
keeps b (Translates h f i t v x) k m = translates b h f i t v x k m
keeps b (Takes h x) k m =
    reframed b b.frames (put b.frame x state.Hand) (put b.hands h (Some x)) b.reserved b.count b.debt b.owed b.promised k
    (takes_frame b.frames b.frame b.hands b.pages h x k.place m.1 m.0)
keeps b (HandsOver h j x) k m =
    reframed b b.frames b.frame (put (put b.hands h None) j (Some x)) b.reserved b.count b.debt b.owed b.promised k
    (hands_over b.frames b.frame b.hands b.pages h j x k.place m.0 m.1)
keeps b (Frees h x) k m =
    reframed b b.frames (put b.frame x state.Free) (put b.hands h None) b.reserved b.count b.debt b.owed b.promised k
    (gives_frame b.frames b.frame b.hands b.pages h x k.place m)
keeps b (Writes x old new) k m =
    reframed b b.frames (put b.frame x (state.Placed new)) b.hands b.reserved b.count b.debt b.owed b.promised k
    (writes_frame b.frames b.frame b.hands b.pages x old new k.place m)
keeps b (ClearsSome t out) k m =
    fewer b (put b.entries t (λ v. if out v then None else b.entries t v)) k (λ w v x e. (filtered b t out w v x e).0)
keeps b (EntersArea t a) k m = enters_area b t a k m
keeps b (LeavesArea t base) k m = leaves_area b t base k m
keeps b (Resizes n frame) k m =
    reframed b n frame b.hands b.reserved b.count b.debt b.owed b.promised k
    (shifted b.frames n b.frame frame b.hands b.pages k.place (resized b n frame m))
keeps b (Accounts n) k m = reframed b b.frames b.frame b.hands b.reserved _ _ b.owed _ k k.place
keeps b (Settles n) k m = reframed b b.frames b.frame b.hands b.reserved _ _ b.owed _ k k.place
keeps b (Spends n) k m = reframed b b.frames b.frame b.hands b.reserved _ _ _ b.promised k k.place
keeps b (GivesBack n) k m = reframed b b.frames b.frame b.hands b.reserved _ _ _ b.promised k k.place
keeps b (Ignores n) k m = reframed b b.frames b.frame b.hands b.reserved b.count b.debt _ b.promised k k.place
keeps b (Commits f from to p o l) k m = reframed b b.frames b.frame b.hands _ b.count b.debt _ _ k k.place
keeps b (Deletes h f i p o) k m =
    reframed (record b { marks = put b.marks h (Bare f i) }) b.frames b.frame b.hands (put2 b.reserved f i false) b.count b.debt
    (b.owed - o) (b.promised + p) (marking b h (Bare f i) k (is_bare b h f i k m.0)) k.place
keeps b (CutsTail f from p o) k m = reframed b b.frames b.frame b.hands _ b.count b.debt _ _ k k.place

-- so does each list of them
pub all_keep : (b : Books) (es : List Entry) → Kept b → AllMay b es → Kept (ends b es)
all_keep b [] k m = k
all_keep b (e ∷ es) k m = all_keep (after b e) es (keeps b e k m.0) m.1

-- what a pool opens with
pub opens_kept : (g : Geometry) (frames : ℕ) → Kept (opens g frames)
opens_kept g frames = record {
  agree = λ t v x e. none e;
  owners = λ t v x e. none e;
  place = (opens_well g frames).inv.place;
  knows = λ h. tt;
}
  where
    none : {P : Type 0} {x : ℕ} → ◌≡◌ {A = Option ℕ} None (Some x) → P
    none e = absurd (cc)

-- and what it comes to
pub always_kept : (g : Geometry) (frames : ℕ) (es : List Entry) → AllMay (opens g frames) es → Kept (ends (opens g frames) es)
always_kept g frames es m = all_keep (opens g frames) es (opens_kept g frames) m
