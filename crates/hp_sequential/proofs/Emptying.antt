-- Indices of a file that go one after the other: pages, reservations, entries and frames after each.
use Rattle.std.proofs.Common.{◌≡◌, ◌≢◌, ℕ, zero, suc, ◌+◌, ◌<◌, ◌≤◌, refl, ap, sym, ◌∙◌, subst, arith, inl, inr}
use Rattle.std.proofs.Math.Path.{fun_ext}
use Rattle.std.proofs.lemmas.Bool.Decides.{nat_tests}
use Rattle.std.specs.Prelude.{Bool, true, false, not, ◌&&◌, ◌==◌, nat_lt, Option, Some, None, List, if◌then◌else◌}
use Rattle.hp_base.specs.Numbers.{put, put2}
use Rattle.hp_base.specs.Mappings.{find, is_there, without_index}
use Rattle.hp_base.specs.declared.answer.Answer.{Answer}
use Rattle.hp_base.specs.declared.mapping.Mapping.{Mapping}
use Rattle.hp_base.proofs.Puts.{put_same, same_or_other, put_tells}
use Rattle.hp_frames.specs.declared.frame.FrameState.{FrameState}
use Rattle.hp_frames.specs.declared.frame.FrameState.TheVariants.{Free}
use Rattle.hp_machine.specs.State.{Pool}
use Rattle.hp_machine.specs.Parts.{UnmapIndexRow}
use Rattle.hp_machine.specs.declared.call.Turn.{Turn}
use Rattle.hp_laws.proofs.Invariant.{put_known}
use Rattle.hp_sequential.specs.Meaning.{without_pages, is_gone, without_entries, Freed}
use Rattle.hp_laws.proofs.Deciding.{some_same}
use Rattle.hp_sequential.proofs.Idle.{and_true, and_false}
use Rattle.hp_sequential.proofs.Alone.{if_true, if_false, Leads, goes_on, from_pool, put_put}

-- one more index goes
pub record Adds (gone : ℕ → Bool) (i : ℕ) (more : ℕ → Bool) : Type 0 where
  pub this : more i ≡ true
  pub others : (j : ℕ) → j ≢ i → more j ≡ gone j

-- the reserved indices without those that go
abbrev pub unreserved : (ℕ → Bool) → (ℕ → Bool) → ℕ → Bool
unreserved reserved gone = λ j. reserved j && not (gone j)

-- a page that doesn't go
pub page_kept : (pages : ℕ → ℕ → Option ℕ) (f i : ℕ) (gone : ℕ → Bool) → gone i ≡ false
    → put pages f (without_pages (pages f) gone) f i ≡ pages f i
unfolding without_pages
page_kept pages f i gone e =
    ap (λ (row : ℕ → Option ℕ). row i) (put_same pages f (without_pages (pages f) gone))
    ∙ ap (λ (c : Bool). if c then None else pages f i) e

-- where nothing goes nothing changes
pub pages_none : (pages : ℕ → ℕ → Option ℕ) (f : ℕ) (gone : ℕ → Bool) → ((j : ℕ) → gone j ≡ false)
    → put pages f (without_pages (pages f) gone) ≡ pages
unfolding without_pages
pages_none pages f gone e =
    put_known pages f (without_pages (pages f) gone) (fun_ext (λ j. ap (λ (c : Bool). if c then None else pages f j) (sym (e j))))

-- so the reserved indices stay
pub reserved_none : (reserved : ℕ → ℕ → Bool) (f : ℕ) (gone : ℕ → Bool) → ((j : ℕ) → gone j ≡ false)
    → put reserved f (unreserved (reserved f) gone) ≡ reserved
reserved_none reserved f gone e =
    put_known reserved f (unreserved (reserved f) gone)
    (fun_ext (λ j. sym (ap (λ (c : Bool). reserved f j && not c) (e j) ∙ and_true (reserved f j))))

-- what is found is none of what goes
gone_none : (f : ℕ) (gone : ℕ → Bool) → ((j : ℕ) → gone j ≡ false) → (found : Option (ℕ × ℕ)) → is_gone f gone found ≡ false
gone_none f gone e None = refl
gone_none f gone e (Some place) = ap (λ (c : Bool). (place.0 == f) && c) (e place.1) ∙ and_false (place.0 == f)

-- so the entries stay
pub entries_none : (mappings : ℕ → List Mapping) (table : ℕ → ℕ → Option ℕ) (f : ℕ) (gone : ℕ → Bool) → ((j : ℕ) → gone j ≡ false)
    → without_entries mappings table f gone ≡ table
unfolding without_entries
entries_none mappings table f gone e =
    fun_ext (λ u. fun_ext (λ v. ap (λ (c : Bool). if c then None else table u v) (gone_none f gone e (find (mappings u) v))))

-- an entry that is left was there
pub entry_kept : (mappings : ℕ → List Mapping) (table : ℕ → ℕ → Option ℕ) (f : ℕ) (gone : ℕ → Bool) (u v x : ℕ)
    → without_entries mappings table f gone u v ≡ Some x → table u v ≡ Some x
unfolding without_entries
entry_kept mappings table f gone u v x e = here (is_gone f gone (find (mappings u) v)) e
  where
    here : (c : Bool) → ◌≡◌ {A = Option ℕ} (if c then None else table u v) (Some x) → table u v ≡ Some x
    here true e = absurd (cc)
    here false e = e

-- where nothing goes no frame is freed
pub freed_none : (pages : ℕ → Option ℕ) (frame : ℕ → FrameState) (gone : ℕ → Bool) → ((j : ℕ) → gone j ≡ false)
    → Freed pages frame gone frame
freed_none pages frame gone e = record { freed = λ j x is p. (let z : true ≡ false = sym is ∙ e j in absurd (cc)); others = λ x h. refl }

-- one more goes
pub pages_more : (pages : ℕ → ℕ → Option ℕ) (f i : ℕ) (gone more : ℕ → Bool) → Adds gone i more
    → put2 (put pages f (without_pages (pages f) gone)) f i None ≡ put pages f (without_pages (pages f) more)
unfolding without_pages
pages_more pages f i gone more h =
    put_put pages f (without_pages (pages f) gone) (put (put pages f (without_pages (pages f) gone) f) i None)
    ∙ ap (put pages f) (ap (λ (row : ℕ → Option ℕ). put row i None) (put_same pages f (without_pages (pages f) gone)) ∙ fun_ext each)
  where
    each : (j : ℕ) → put (without_pages (pages f) gone) i None j ≡ without_pages (pages f) more j
    each j = elim (put_tells (without_pages (pages f) gone) i None j) [
      | inl a ↦ a.1 ∙ ap (λ (c : Bool). if c then None else pages f j) (sym (ap more a.0 ∙ h.this))
      | inr a ↦ a.1 ∙ ap (λ (c : Bool). if c then None else pages f j) (sym (h.others j a.0))
    ]

-- it goes out of the reserved indices
pub reserved_more : (reserved : ℕ → ℕ → Bool) (f i : ℕ) (gone more : ℕ → Bool) → Adds gone i more
    → put2 (put reserved f (unreserved (reserved f) gone)) f i false ≡ put reserved f (unreserved (reserved f) more)
reserved_more reserved f i gone more h =
    put_put reserved f (unreserved (reserved f) gone) (put (put reserved f (unreserved (reserved f) gone) f) i false)
    ∙ ap (put reserved f) (ap (λ (row : ℕ → Bool). put row i false) (put_same reserved f (unreserved (reserved f) gone)) ∙ fun_ext each)
  where
    each : (j : ℕ) → put (unreserved (reserved f) gone) i false j ≡ unreserved (reserved f) more j
    each j = elim (put_tells (unreserved (reserved f) gone) i false j) [
      | inl a ↦ a.1 ∙ (sym (and_false (reserved f j)) ∙ ap (λ (c : Bool). reserved f j && not c) (sym (ap more a.0 ∙ h.this)))
      | inr a ↦ a.1 ∙ ap (λ (c : Bool). reserved f j && not c) (sym (h.others j a.0))
    ]

-- what is found is the index, or one that went, or none of them
gone_more : (f i : ℕ) (gone more : ℕ → Bool) → Adds gone i more → (found : Option (ℕ × ℕ)) (entry : Option ℕ)
    → ◌≡◌ {A = Option ℕ} (if is_there found f i then None else (if is_gone f gone found then None else entry))
    (if is_gone f more found then None else entry)
gone_more f i gone more h None entry = refl
gone_more f i gone more h (Some place) entry = elim (same_or_other place.1 i) [
  | inl e ↦ (let a : (place.1 == i) ≡ true = grind (arith, nat_tests) in
      let b : more place.1 ≡ true = ap more e ∙ h.this in here (place.0 == f) (place.1 == i) (gone place.1) (more place.1) a b)
  | inr e ↦ (let a : (place.1 == i) ≡ false = grind (arith, nat_tests) in
      there (place.0 == f) (place.1 == i) (gone place.1) (more place.1) a (h.others place.1 e))
]
  where
    here : (a b c d : Bool) → b ≡ true → d ≡ true
        → ◌≡◌ {A = Option ℕ} (if a && b then None else (if a && c then None else entry)) (if a && d then None else entry)
    here true b c d e k =
        ap (λ (m : Bool). if m then None else (if c then None else entry)) e ∙ ap (λ (m : Bool). if m then None else entry) (sym k)
    here false b c d e k = refl

    there : (a b c d : Bool) → b ≡ false → d ≡ c
        → ◌≡◌ {A = Option ℕ} (if a && b then None else (if a && c then None else entry)) (if a && d then None else entry)
    there true b c d e k =
        ap (λ (m : Bool). if m then None else (if c then None else entry)) e ∙ ap (λ (m : Bool). if m then None else entry) (sym k)
    there false b c d e k = refl

-- so its entries go with it
pub entries_more : (mappings : ℕ → List Mapping) (table : ℕ → ℕ → Option ℕ) (f i : ℕ) (gone more : ℕ → Bool) → Adds gone i more
    → ◌≡◌ {A = ℕ → ℕ → Option ℕ} (λ u. without_index (mappings u) (without_entries mappings table f gone u) f i)
    (without_entries mappings table f more)
unfolding without_entries without_index
entries_more mappings table f i gone more h = fun_ext (λ u. fun_ext (λ v. gone_more f i gone more h (find (mappings u) v) (table u v)))

-- and its frame is freed
pub freed_more : (pages : ℕ → Option ℕ) (before frame : ℕ → FrameState) (i x : ℕ) (gone more : ℕ → Bool) → Adds gone i more
    → pages i ≡ Some x → Freed pages before gone frame → Freed pages before more (put frame x Free)
freed_more pages before frame i x gone more h page k = record {
  freed = λ j y is p. elim (put_tells frame x Free y) [
    | inl a ↦ a.1
    | inr a ↦ elim (same_or_other j i) [
      | inl e ↦ absurd (a.0 (some_same (sym p ∙ (ap pages e ∙ page))))
      | inr e ↦ a.1 ∙ k.freed j y (sym (h.others j e) ∙ is) p
    ]
  ];
  others = λ y none. elim (put_tells frame x Free y) [
    | inl a ↦ absurd (none i h.this (page ∙ ap (λ (z : ℕ). Some z) (sym a.0)))
    | inr a ↦ a.1 ∙ k.others y (λ j is p. elim (same_or_other j i) [
      | inl e ↦ none i h.this (ap pages (sym e) ∙ p)
      | inr e ↦ none j (h.others j e ∙ is) p
    ])
  ];
}

-- the entries of the index of the tasks below k are gone
cleared_below : (ℕ → List Mapping) → (ℕ → ℕ → Option ℕ) → (f i k : ℕ) → ℕ → ℕ → Option ℕ
cleared_below mappings table f i k u = if nat_lt u k then without_index (mappings u) (table u) f i else table u

-- a task without entries
no_entries : (mappings : List Mapping) (entries : ℕ → Option ℕ) (f i : ℕ) → ((v x : ℕ) → entries v ≡ Some x → ⊥)
    → without_index mappings entries f i ≡ entries
unfolding without_index
no_entries mappings entries f i none = fun_ext (λ v. here v (is_there (find mappings v) f i) (entries v) refl)
  where
    here : (v : ℕ) (c : Bool) (o : Option ℕ) → entries v ≡ o → ◌≡◌ {A = Option ℕ} (if c then None else entries v) (entries v)
    here v true None e = sym e
    here v true (Some x) e = absurd (none v x e)
    here v false o e = refl

-- after the tasks below k are cleared of an index, clearing task k clears those below k + 1
clears_one : (mappings : ℕ → List Mapping) (table : ℕ → ℕ → Option ℕ) (f i k : ℕ)
    → put (cleared_below mappings table f i k) k
    (without_index (mappings k) (cleared_below mappings table f i k k) f i) ≡ cleared_below mappings table f i (k + 1)
unfolding cleared_below
clears_one mappings table f i k = fun_ext each
  where
    each : (u : ℕ)
        → put (cleared_below mappings table f i k) k (without_index (mappings k) (cleared_below mappings table f i k k) f i)
        u ≡ cleared_below mappings table f i (k + 1) u
    each u =
        elim (put_tells (cleared_below mappings table f i k) k
        (without_index (mappings k) (cleared_below mappings table f i k k) f i) u) [
          | inl a ↦ (
              let b : nat_lt k k ≡ false = grind (arith, nat_tests) in
              let c : nat_lt k (k + 1) ≡ true = grind (arith, nat_tests) in
              a.1 ∙ (ap (λ (m : Bool). without_index (mappings k) (if m then without_index (mappings k) (table k) f i else table k) f i) b
              ∙ (ap (λ (m : Bool). if m then without_index (mappings k) (table k) f i else table k) (sym c)
              ∙ ap (cleared_below mappings table f i (k + 1)) (sym a.0))))
          | inr a ↦ (
              let d = a.0 in
              let b : nat_lt u k ≡ nat_lt u (k + 1) = grind (arith, nat_tests) in
              a.1 ∙ ap (λ (m : Bool). if m then without_index (mappings u) (table u) f i else table u) b)
        ]

-- entries are of tasks that are there
abbrev pub Owned : (tasks : ℕ) → (ℕ → ℕ → Option ℕ) → Type 0
Owned tasks table = (u v x : ℕ) → table u v ≡ Some x → (1 ≤ u) × (u ≤ tasks)

-- before the first task nothing is cleared, for tasks are counted from 1
clears_none : (tasks : ℕ) (mappings : ℕ → List Mapping) (table : ℕ → ℕ → Option ℕ) (f i : ℕ) → Owned tasks table
    → table ≡ cleared_below mappings table f i 1
unfolding cleared_below
clears_none tasks mappings table f i owned = fun_ext (λ u. each u (nat_lt u 1) refl)
  where
    each : (u : ℕ) (c : Bool) → nat_lt u 1 ≡ c → table u ≡ cleared_below mappings table f i 1 u
    each u true e =
        sym (ap (λ (m : Bool). if m then without_index (mappings u) (table u) f i else table u) e
        ∙ no_entries (mappings u) (table u) f i
        (λ v x p. (let z = (owned u v x p).0 in let l : u < 1 = grind (arith, nat_tests) in omega arith)))
    each u false e = sym (ap (λ (m : Bool). if m then without_index (mappings u) (table u) f i else table u) e)

-- after the last task the index has no entry
clears_all : (tasks : ℕ) (mappings : ℕ → List Mapping) (table : ℕ → ℕ → Option ℕ) (f i : ℕ) → Owned tasks table
    → ◌≡◌ {A = ℕ → ℕ → Option ℕ} (cleared_below mappings table f i (tasks + 1)) (λ u. without_index (mappings u) (table u) f i)
unfolding cleared_below
clears_all tasks mappings table f i owned = fun_ext (λ u. each u (nat_lt u (tasks + 1)) refl)
  where
    each : (u : ℕ) (c : Bool) → nat_lt u (tasks + 1) ≡ c
        → cleared_below mappings table f i (tasks + 1) u ≡ without_index (mappings u) (table u) f i
    each u true e = ap (λ (m : Bool). if m then without_index (mappings u) (table u) f i else table u) e
    each u false e =
        ap (λ (m : Bool). if m then without_index (mappings u) (table u) f i else table u) e
        ∙ sym (no_entries (mappings u) (table u) f i
        (λ v x p. (let z = (owned u v x p).1 in let l : tasks + 1 ≤ u = grind (arith, nat_tests) in omega arith)))

-- the entries of one task after the other are cleared
unmaps_from : {P : Type 0} (R : Pool → P → Turn P → Pool → Type 0) (b : Answer) (n s : Pool) (f i : ℕ) (more : ℕ → P) (last : P)
    → ((p : Pool) (k : ℕ) (turn : Turn P) (m : Pool) → R p (more k) turn m → UnmapIndexRow p k f i (more (k + 1)) last turn m)
    → (d k : ℕ) → k + d ≡ s.geometry.tasks
    → Leads R b n (record s { entries = cleared_below s.mappings s.entries f i k }) (more k)
    → Leads R b n (record s { entries = cleared_below s.mappings s.entries f i (s.geometry.tasks + 1) }) last
unmaps_from R b n s f i more last rows zero k e go =
    let end : nat_lt k s.geometry.tasks ≡ false = grind (arith, nat_tests) in
    let k1 = goes_on go (λ turn m r. if_false _ _ end (rows _ k turn m r)) in
    let one = clears_one s.mappings s.entries f i k in
    let z : Leads R b n (record s { entries = cleared_below s.mappings s.entries f i (k + 1) }) last =
    from_pool (λ j. record s { entries = one j }) k1 in
    let same : k ≡ s.geometry.tasks = omega arith in
    subst (λ (m : ℕ). Leads R b n (record s { entries = cleared_below s.mappings s.entries f i (m + 1) }) last) same z
unmaps_from R b n s f i more last rows (suc d) k e go =
    let on : nat_lt k s.geometry.tasks ≡ true = grind (arith, nat_tests) in
    let k1 = goes_on go (λ turn m r. if_true _ _ on (rows _ k turn m r)) in
    let one = clears_one s.mappings s.entries f i k in
    unmaps_from R b n s f i more last rows d (k + 1) (omega arith) (from_pool (λ j. record s { entries = one j }) k1)

-- so a call that goes through the tasks comes to its next phase with the index's entries gone
pub unmaps : {P : Type 0} (R : Pool → P → Turn P → Pool → Type 0) (b : Answer) (n s : Pool) (f i : ℕ) (more : ℕ → P) (last : P)
    → ((p : Pool) (k : ℕ) (turn : Turn P) (m : Pool) → R p (more k) turn m → UnmapIndexRow p k f i (more (k + 1)) last turn m)
    → 1 ≤ s.geometry.tasks → Owned s.geometry.tasks s.entries
    → Leads R b n s (more 1) → Leads R b n (record s { entries = λ u. without_index (s.mappings u) (s.entries u) f i }) last
unmaps R b n s f i more last rows some owned go =
    let none = clears_none s.geometry.tasks s.mappings s.entries f i owned in
    let all = clears_all s.geometry.tasks s.mappings s.entries f i owned in
    let d = less_one s.geometry.tasks some in
    from_pool (λ j. record s { entries = all j })
    (unmaps_from R b n s f i more last rows d.0 1 d.1 (from_pool (λ j. record s { entries = none j }) go))
  where
    less_one : (a : ℕ) → 1 ≤ a → (d : ℕ) × (1 + d ≡ a)
    less_one zero p = absurd (omega arith)
    less_one (suc a) p = (a, omega arith)
