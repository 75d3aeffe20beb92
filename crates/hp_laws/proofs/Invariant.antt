-- What every row keeps, and how its parts follow a call that goes on.
use Rattle.std.proofs.Common.{◌≡◌, ◌≢◌, ℕ, ◌+◌, ◌<◌, ◌≤◌, refl, ap, sym, ◌∙◌, subst, arith, inl, inr, ◌⊎◌}
use Rattle.std.proofs.Math.Path.{fun_ext}
use Rattle.std.specs.Prelude.{◌==◌, Bool, true, false, Option, Some, None, IfSome, List, [], ◌∷◌}
use Rattle.hp_base.specs.Numbers.{put, total, bit}
use Rattle.hp_base.specs.Indices.{vacant, count_below}
use Rattle.hp_base.specs.Mappings.{find, IsSpread}
use Rattle.hp_base.specs.declared.mapping.Mapping.{Mapping}
use Rattle.hp_base.proofs.Puts.{put_same, put_other, same_or_other}
use Rattle.hp_base.proofs.Totals.{total_change}
use Rattle.hp_frames.specs.Bank.{IsWithinQuota}
use Rattle.hp_machine.specs.State.{Geometry, State, slot_of, free_frames}
use Rattle.hp_machine.specs.Views.{behind, ahead, used_ahead, hand, change_in, opens, slot_held, locked_file}
use Rattle.hp_machine.specs.declared.call.Call.{Call}
use Rattle.hp_laws.specs.Sweep.{fills, to_pass, passed, gone}
use Rattle.hp_laws.proofs.Moves.{Placing}
use Rattle.hp_laws.proofs.Standing.{Stands}

-- how many indices of all files are reserved and have no page
abbrev pub vacant_of : Geometry → (ℕ → ℕ → Bool) → (ℕ → ℕ → Option ℕ) → ℕ
vacant_of g reserved pages = total g.files (λ f. vacant g.limit (reserved f) (pages f))

-- how many indices of all files are reserved
abbrev pub reserved_of : Geometry → (ℕ → ℕ → Bool) → ℕ
reserved_of g reserved = total g.files (λ f. count_below (reserved f) g.limit)

-- where the indices of one file change, so does the sum
pub reserved_change : (g : Geometry) (s : State) (f : ℕ) (marks : ℕ → Bool) (more : ℕ) → f < g.files
    → count_below marks g.limit ≡ count_below (s.reserved f) g.limit + more
    → reserved_of g (put s.reserved f marks) ≡ reserved_of g s.reserved + more
reserved_change g s f marks more l e =
    let a : reserved_of g (put s.reserved f marks) + count_below (s.reserved f) g.limit ≡ reserved_of g s.reserved + count_below
    (put s.reserved f marks f) g.limit
    =
    total_change g.files f (λ k. count_below (s.reserved k) g.limit) (λ k. count_below (put s.reserved f marks k) g.limit) l
    (λ k d. ap (λ (m : ℕ → Bool). count_below m g.limit) (put_other s.reserved f marks k d)) in
    let b : count_below (put s.reserved f marks f) g.limit ≡ count_below marks g.limit =
    ap (λ (m : ℕ → Bool). count_below m g.limit) (put_same s.reserved f marks) in
    omega arith

-- and where they get fewer
pub reserved_fewer : (g : Geometry) (s : State) (f : ℕ) (marks : ℕ → Bool) (gone : ℕ) → f < g.files
    → count_below marks g.limit + gone ≡ count_below (s.reserved f) g.limit
    → reserved_of g (put s.reserved f marks) + gone ≡ reserved_of g s.reserved
reserved_fewer g s f marks gone l e =
    let a : reserved_of g (put s.reserved f marks) + count_below (s.reserved f) g.limit ≡ reserved_of g s.reserved + count_below
    (put s.reserved f marks f) g.limit
    =
    total_change g.files f (λ k. count_below (s.reserved k) g.limit) (λ k. count_below (put s.reserved f marks k) g.limit) l
    (λ k d. ap (λ (m : ℕ → Bool). count_below m g.limit) (put_other s.reserved f marks k d)) in
    let b : count_below (put s.reserved f marks f) g.limit ≡ count_below marks g.limit =
    ap (λ (m : ℕ → Bool). count_below m g.limit) (put_same s.reserved f marks) in
    omega arith

-- a sum over the calls of all tasks
abbrev pub sum_of : Geometry → (Option Call → ℕ) → (ℕ → Option Call) → ℕ
sum_of g v calls = total (g.tasks + 1) (λ u. v (calls u))

-- an entry lies in a mapping of a task, and the page there is its frame
pub record Entries (tasks : ℕ) (mappings : ℕ → List Mapping) (table : ℕ → ℕ → Option ℕ) (pages : ℕ → ℕ → Option ℕ) : Type 0 where
  pub agree : (t v x : ℕ) → table t v ≡ Some x → (place : ℕ × ℕ) × (find (mappings t) v ≡ Some place) × (pages place.0 place.1 ≡ Some x)
  pub owners : (t v x : ℕ) → table t v ≡ Some x → (1 ≤ t) × (t ≤ tasks)

-- each mapping lies within its file
abbrev pub AllWithin : Geometry → List Mapping → Type 0
AllWithin g [] = Unit {0}
AllWithin g (a ∷ mappings) = (a.file < g.files) × (a.from + a.len ≤ g.limit) × AllWithin g mappings

-- pages lie at reserved indices, and these below the limit of a file that is there
pub record Inside (g : Geometry) (reserved : ℕ → ℕ → Bool) (pages : ℕ → ℕ → Option ℕ) : Type 0 where
  pub bare : (f i : ℕ) → reserved f i ≡ false → pages f i ≡ None
  pub within : (f i : ℕ) → reserved f i ≡ true → (f < g.files) × (i < g.limit)

-- so do pages
pub page_within : {g : Geometry} {reserved : ℕ → ℕ → Bool} {pages : ℕ → ℕ → Option ℕ} (f i x : ℕ) → Inside g reserved pages
    → pages f i ≡ Some x → (f < g.files) × (i < g.limit)
page_within {g} {reserved} {pages} f i x h e = by_mark (reserved f i) refl
  where
    by_mark : (b : Bool) → reserved f i ≡ b → (f < g.files) × (i < g.limit)
    by_mark true d = h.within f i d
    by_mark false d = (let z : ◌≡◌ {A = Option ℕ} None (Some x) = sym (h.bare f i d) ∙ e in absurd (cc))

-- below the size, or a truncation has yet to pass it
abbrev pub Reached : (ℕ → ℕ) → (ℕ → ℕ → ℕ → Bool) → (file index : ℕ) → Type 0
Reached size all_to_pass f i = (i < size f) ⊎ ((u : ℕ) × (all_to_pass u f i ≡ true))

-- what a truncation has passed has no page and is above the size, and what it took out of the reserve map is out of it
pub record Swept (size : ℕ → ℕ) (reserved : ℕ → ℕ → Bool) (pages : ℕ → ℕ → Option ℕ) (passes gones : ℕ → ℕ → ℕ → Bool) : Type 0 where
  pub past : (u f j : ℕ) → passes u f j ≡ true → (pages f j ≡ None) × (size f ≤ j)
  pub gone : (u f j : ℕ) → gones u f j ≡ true → reserved f j ≡ false

-- who holds a slot or a lock is a task whose call stands there
pub record Holders (g : Geometry) (slots locks : ℕ → Option ℕ) (held : ℕ → Option (ℕ × ℕ)) (locked : ℕ → Option ℕ) : Type 0 where
  pub slot : (k u : ℕ) → slots k ≡ Some u → (place : ℕ × ℕ) × (held u ≡ Some place) × (slot_of g place.0 place.1 ≡ k)
  pub lock : (f u : ℕ) → locks f ≡ Some u → locked u ≡ Some f

-- the measures never change; each task's mappings lie within their files, in order and apart
pub record Layout (g measures : Geometry) (mappings : ℕ → List Mapping) : Type 0 where
  pub geometry : measures ≡ g
  pub ranges : (t : ℕ) → AllWithin g (mappings t)
  pub spread : (t : ℕ) → IsSpread g.space 0 (mappings t)

-- what every row keeps of a state
pub record Inv (g : Geometry) (s : State) : Type 0 where
  pub layout : Layout g s.geometry s.mappings
  pub open layout use *
  pub count : s.resv + sum_of g behind s.calls ≡ vacant_of g s.reserved s.pages + sum_of g ahead s.calls
  pub enough : s.resv ≤ free_frames s.frame s.frames
  pub used : s.used ≡ reserved_of g s.reserved + sum_of g used_ahead s.calls
  pub quota : IsWithinQuota g.quota s.used
  pub place : Placing s.frames s.frame (λ u. hand (s.calls u)) s.pages
  pub entries : Entries g.tasks s.mappings s.entries s.pages
  pub inside : Inside g s.reserved s.pages
  pub sweep : Swept s.size s.reserved s.pages (λ u. passed (s.calls u)) (λ u. gone (s.calls u))
  pub reach : (w : ℕ) → IfSome (fills (s.calls w)) (λ k. Reached s.size (λ u. to_pass (s.calls u)) k.0 k.1)
  pub sizes : (f : ℕ) → s.size f ≤ g.limit
  pub changes : (f : ℕ) → s.pending f ≡ sum_of g (opens f) s.calls
  pub spares : (f : ℕ) → s.pending f ≤ s.spare f
  pub holders : Holders g s.slots s.locks (λ u. slot_held (s.calls u)) (λ u. locked_file (s.calls u))
  pub stands : (u : ℕ) → Stands g s u (s.calls u)

-- a property of every call, after one call goes on
pub each_call : (P : ℕ → Option Call → Type 0) (calls : ℕ → Option Call) (t : ℕ) (c : Option Call)
    → ((u : ℕ) → u ≢ t → P u (calls u)) → P t c → (u : ℕ) → P u (put calls t c u)
each_call P calls t c others own u = elim (same_or_other u t) [
  | inl e ↦ subst (λ (w : ℕ). P w (put calls t c w)) (sym e) (subst (P t) (sym (put_same calls t c)) own)
  | inr h ↦ subst (P u) (sym (put_other calls t c u h)) (others u h)
]

-- what is seen of the calls, after one goes on
pub view_put : {A : Type 0} (v : Option Call → A) (calls : ℕ → Option Call) (t : ℕ) (c : Option Call)
    → ◌≡◌ {A = ℕ → A} (λ (u : ℕ). v (put calls t c u)) (put (λ (u : ℕ). v (calls u)) t (v c))
view_put {A} v calls t c = fun_ext (λ u. elim (same_or_other u t) [
  | inl e ↦ subst (λ (w : ℕ). v (put calls t c w) ≡ put (λ (u : ℕ). v (calls u)) t (v c) w) (sym e)
      (ap v (put_same calls t c) ∙ sym (put_same (λ (u : ℕ). v (calls u)) t (v c)))
  | inr h ↦ ap v (put_other calls t c u h) ∙ sym (put_other (λ (u : ℕ). v (calls u)) t (v c) u h)
])

-- a sum over the calls, after one goes on
pub sum_after : (v : Option Call → ℕ) (n : ℕ) (calls : ℕ → Option Call) (t : ℕ) (b c : Option Call) → t < n → calls t ≡ b
    → total n (λ u. v (put calls t c u)) + v b ≡ total n (λ u. v (calls u)) + v c
sum_after v n calls t b c l e =
    let a : total n (λ u. v (put calls t c u)) + v (calls t) ≡ total n (λ u. v (calls u)) + v (put calls t c t) =
    total_change n t (λ u. v (calls u)) (λ u. v (put calls t c u)) l (λ j h. ap v (put_other calls t c j h)) in
    let x : v (calls t) ≡ v b = ap v e in
    let y : v (put calls t c t) ≡ v c = ap v (put_same calls t c) in
    omega arith

-- the count, after a call goes on and the reservations and vacant indices change
pub count_after : (n : ℕ) (calls : ℕ → Option Call) (t : ℕ) (b c : Option Call) (resv vac resv' vac' : ℕ) → t < n → calls t ≡ b
    → resv + total n (λ u. behind (calls u)) ≡ vac + total n (λ u. ahead (calls u))
    → (resv' + behind c) + (vac + ahead b) ≡ (resv + behind b) + (vac' + ahead c)
    → resv' + total n (λ u. behind (put calls t c u)) ≡ vac' + total n (λ u. ahead (put calls t c u))
count_after n calls t b c resv vac resv' vac' l e h d =
    let x : total n (λ u. behind (put calls t c u)) + behind b ≡ total n (λ u. behind (calls u)) + behind c =
    sum_after behind n calls t b c l e in
    let y : total n (λ u. ahead (put calls t c u)) + ahead b ≡ total n (λ u. ahead (calls u)) + ahead c =
    sum_after ahead n calls t b c l e in
    omega arith

-- the used count, after a call goes on and the reserved indices change
pub used_after : (n : ℕ) (calls : ℕ → Option Call) (t : ℕ) (b c : Option Call) (used marks used' marks' : ℕ) → t < n → calls t ≡ b
    → used ≡ marks + total n (λ u. used_ahead (calls u))
    → used' + (marks + used_ahead b) ≡ used + (marks' + used_ahead c)
    → used' ≡ marks' + total n (λ u. used_ahead (put calls t c u))
used_after n calls t b c used marks used' marks' l e h d =
    let x : total n (λ u. used_ahead (put calls t c u)) + used_ahead b ≡ total n (λ u. used_ahead (calls u)) + used_ahead c =
    sum_after used_ahead n calls t b c l e in
    omega arith

-- and where neither changes what it is owed
pub same_used : (used marks : ℕ) (b c : Option Call) → used_ahead c ≡ used_ahead b
    → used + (marks + used_ahead b) ≡ used + (marks + used_ahead c)
same_used used marks b c e = omega arith

-- what holds of the value, if there is one, may be said more weakly
pub if_weaker : {A : Type 0} {P Q : A → Type 0} (o : Option A) → ((a : A) → o ≡ Some a → P a → Q a) → IfSome o P → IfSome o Q
if_weaker None f h = tt
if_weaker (Some a) f h = f a refl h

-- to put what is there changes nothing
pub put_known : {A : Type 0} (f : ℕ → A) (k : ℕ) (v : A) → f k ≡ v → put f k v ≡ f
put_known {A} f k v e = fun_ext (λ j. elim (same_or_other j k) [
  | inl d ↦ subst (λ (w : ℕ). put f k v w ≡ f w) (sym d) (put_same f k v ∙ sym e)
  | inr d ↦ put_other f k v j d
])

-- the state where the call of task t is c
abbrev pub to : State → (t : ℕ) → Option Call → State
to s t c = record s { calls = put s.calls t c }

-- All that has to be shown where the call of task t goes on from b to c, and the rest from s to n, where
-- `all_to_pass` and so on is what is seen of the calls then.
pub record GoesOn (g : Geometry) (s n : State) (t : ℕ) (b c : Option Call) (all_to_pass passes gones : ℕ → ℕ → ℕ → Bool)
    (held : ℕ → Option (ℕ × ℕ)) (locked : ℕ → Option ℕ) : Type 0 where
  pub layout : Layout g n.geometry n.mappings
  pub count : (n.resv + behind c) + (vacant_of g s.reserved s.pages + ahead b)
      ≡ (s.resv + behind b) + (vacant_of g n.reserved n.pages + ahead c)
  pub enough : n.resv ≤ free_frames n.frame n.frames
  pub used : n.used + (reserved_of g s.reserved + used_ahead b) ≡ s.used + (reserved_of g n.reserved + used_ahead c)
  pub quota : IsWithinQuota g.quota n.used
  pub place : Placing n.frames n.frame (put (λ (u : ℕ). hand (s.calls u)) t (hand c)) n.pages
  pub entries : Entries g.tasks n.mappings n.entries n.pages
  pub inside : Inside g n.reserved n.pages
  pub sweep : Swept n.size n.reserved n.pages passes gones
  pub reach : (w : ℕ) → IfSome (fills (s.calls w)) (λ k. Reached n.size all_to_pass k.0 k.1)
  pub fill : IfSome (fills c) (λ k. Reached n.size all_to_pass k.0 k.1)
  pub sizes : (f : ℕ) → n.size f ≤ g.limit
  pub changes : (f : ℕ) → n.pending f + opens f b ≡ s.pending f + opens f c
  pub spares : (f : ℕ) → n.pending f ≤ n.spare f
  pub holders : Holders g n.slots n.locks held locked
  pub others : (u : ℕ) → u ≢ t → Stands g n u (s.calls u)
  pub own : Stands g n t c

-- where a call goes on and the rest changes as said, the invariant is kept
pub goes_on : (g : Geometry) (s n : State) (t : ℕ) (b c : Option Call) → Inv g s → t < g.tasks + 1 → s.calls t ≡ b
    → GoesOn g s n t b c (put (λ (u : ℕ). to_pass (s.calls u)) t (to_pass c))
    (put (λ (u : ℕ). passed (s.calls u)) t (passed c)) (put (λ (u : ℕ). gone (s.calls u)) t (gone c))
    (put (λ (u : ℕ). slot_held (s.calls u)) t (slot_held c)) (put (λ (u : ℕ). locked_file (s.calls u)) t (locked_file c))
    → Inv g (record n { calls = put s.calls t c })
goes_on g s n t b c h l e p =
    let all_to_pass = sym (view_put to_pass s.calls t c) in
    record {
      layout = p.layout;
      count =
          count_after (g.tasks + 1) s.calls t b c s.resv (vacant_of g s.reserved s.pages) n.resv
          (vacant_of g n.reserved n.pages) l e h.count p.count;
      enough = p.enough;
      used =
          used_after (g.tasks + 1) s.calls t b c s.used (reserved_of g s.reserved) n.used (reserved_of g n.reserved) l e
          h.used p.used;
      quota = p.quota;
      place = subst (λ (hs : ℕ → Option ℕ). Placing n.frames n.frame hs n.pages) (sym (view_put hand s.calls t c)) p.place;
      entries = p.entries;
      inside = p.inside;
      sweep =
          subst (λ (a : ℕ → ℕ → ℕ → Bool). Swept n.size n.reserved n.pages a (λ u. gone (put s.calls t c u)))
          (sym (view_put passed s.calls t c))
          (subst (Swept n.size n.reserved n.pages (put (λ (u : ℕ). passed (s.calls u)) t (passed c))) (sym (view_put gone s.calls t c))
          p.sweep);
      reach = subst (λ (a : ℕ → ℕ → ℕ → Bool). (w : ℕ) → IfSome (fills (put s.calls t c w)) (λ k. Reached n.size a k.0 k.1)) all_to_pass
          (each_call (λ w d. IfSome (fills d)
          (λ k. Reached n.size (put (λ (u : ℕ). to_pass (s.calls u)) t (to_pass c)) k.0 k.1)) s.calls t c (λ u d. p.reach u) p.fill);
      sizes = p.sizes;
      changes = λ f.
          let a : total (g.tasks + 1) (λ u. opens f (put s.calls t c u)) + opens f b ≡ total (g.tasks + 1)
          (λ u. opens f (s.calls u)) + opens f c = sum_after (opens f) (g.tasks + 1) s.calls t b c l e in
          let x : s.pending f ≡ total (g.tasks + 1) (λ u. opens f (s.calls u)) = h.changes f in
          let y : n.pending f + opens f b ≡ s.pending f + opens f c = p.changes f in
          omega arith;
      spares = p.spares;
      holders =
          subst (λ (a : ℕ → Option (ℕ × ℕ)). Holders g n.slots n.locks a (λ u. locked_file (put s.calls t c u)))
          (sym (view_put slot_held s.calls t c))
          (subst (λ (a : ℕ → Option ℕ). Holders g n.slots n.locks
          (put (λ (u : ℕ). slot_held (s.calls u)) t (slot_held c)) a) (sym (view_put locked_file s.calls t c)) p.holders);
      stands =
          each_call (Stands g (record n { calls = put s.calls t c })) s.calls t c
          (λ u d. recall g n (put s.calls t c) u (s.calls u) (p.others u d)) (recall g n (put s.calls t c) t c p.own);
    }
  where
    recall : (g : Geometry) (n : State) (calls : ℕ → Option Call) (u : ℕ) (c : Option Call) → Stands g n u c
        → Stands g (record n { calls = calls }) u c
    recall g n calls u c h = record { slot = h.slot; lock = h.lock; facts = h.facts }

-- how the call stands to the indices of its file
abbrev pub sweeps : Option Call → (ℕ → ℕ → Bool) × (ℕ → ℕ → Bool) × (ℕ → ℕ → Bool)
sweeps c = (to_pass c, passed c, gone c)

-- what the call holds
abbrev pub holds : Option Call → Option (ℕ × ℕ) × Option ℕ
holds c = (slot_held c, locked_file c)

-- all that others see of a call
abbrev pub seen : Option Call
    → ℕ × ℕ × Option ℕ × Option ℕ × ((ℕ → ℕ → Bool) × (ℕ → ℕ → Bool) × (ℕ → ℕ → Bool))
    × (Option (ℕ × ℕ) × Option ℕ) × ℕ
seen c = (behind c, ahead c, hand c, change_in c, sweeps c, holds c, used_ahead c)

-- the same where the call stands to truncations as it did
abbrev pub GoesAs : Geometry → State → State → ℕ → Option Call → Option Call → (ℕ → Option (ℕ × ℕ)) → (ℕ → Option ℕ) → Type 0
GoesAs g s n t b c held locked = GoesOn g s n t b c (λ u. to_pass (s.calls u)) (λ u. passed (s.calls u)) (λ u. gone (s.calls u)) held locked

-- so the invariant is kept
pub goes_as : (g : Geometry) (s n : State) (t : ℕ) (b c : Option Call) → Inv g s → t < g.tasks + 1 → s.calls t ≡ b → sweeps c ≡ sweeps b
    → GoesAs g s n t b c (put (λ (u : ℕ). slot_held (s.calls u)) t (slot_held c))
    (put (λ (u : ℕ). locked_file (s.calls u)) t (locked_file c))
    → Inv g (record n { calls = put s.calls t c })
goes_as g s n t b c h l e same p =
    let held = put (λ (u : ℕ). slot_held (s.calls u)) t (slot_held c) in
    let locked = put (λ (u : ℕ). locked_file (s.calls u)) t (locked_file c) in
    goes_on g s n t b c h l e
    (subst (λ (a : ℕ → ℕ → ℕ → Bool). GoesOn g s n t b c a (put (λ (u : ℕ). passed (s.calls u)) t (passed c))
    (put (λ (u : ℕ). gone (s.calls u)) t (gone c)) held locked)
    (sym (put_known (λ (u : ℕ). to_pass (s.calls u)) t (to_pass c) (ap to_pass e ∙ sym (ap (λ p. p.0) same))))
    (subst (λ (a : ℕ → ℕ → ℕ → Bool). GoesOn g s n t b c (λ u. to_pass (s.calls u)) a
    (put (λ (u : ℕ). gone (s.calls u)) t (gone c)) held locked)
    (sym (put_known (λ (u : ℕ). passed (s.calls u)) t (passed c) (ap passed e ∙ sym (ap (λ p. p.1) same))))
    (subst (λ (a : ℕ → ℕ → ℕ → Bool). GoesOn g s n t b c (λ u. to_pass (s.calls u)) (λ u. passed (s.calls u)) a held
    locked) (sym (put_known (λ (u : ℕ). gone (s.calls u)) t (gone c) (ap gone e ∙ sym (ap (λ p. p.2) same)))) p)))

-- and holds what it did
abbrev pub Goes : Geometry → State → State → ℕ → Option Call → Option Call → Type 0
Goes g s n t b c = GoesAs g s n t b c (λ u. slot_held (s.calls u)) (λ u. locked_file (s.calls u))

-- so the invariant is kept
pub goes : (g : Geometry) (s n : State) (t : ℕ) (b c : Option Call) → Inv g s → t < g.tasks + 1 → s.calls t ≡ b
    → sweeps c ≡ sweeps b → holds c ≡ holds b → Goes g s n t b c → Inv g (record n { calls = put s.calls t c })
goes g s n t b c h l e same same_held p =
    goes_as g s n t b c h l e same
    (subst (λ (a : ℕ → Option (ℕ × ℕ)). GoesAs g s n t b c a
    (put (λ (u : ℕ). locked_file (s.calls u)) t (locked_file c)))
    (sym (put_known (λ (u : ℕ). slot_held (s.calls u)) t (slot_held c) (ap slot_held e ∙ sym (ap (λ p. p.0) same_held))))
    (subst (λ (a : ℕ → Option ℕ). GoesAs g s n t b c (λ u. slot_held (s.calls u)) a)
    (sym (put_known (λ (u : ℕ). locked_file (s.calls u)) t (locked_file c)
    (ap locked_file e ∙ sym (ap (λ p. p.1) same_held)))) p))

-- the frames are where they were
pub place_same : (g : Geometry) (s : State) (t : ℕ) (b c : Option Call) → Inv g s → s.calls t ≡ b → hand c ≡ hand b
    → Placing s.frames s.frame (put (λ (u : ℕ). hand (s.calls u)) t (hand c)) s.pages
place_same g s t b c h e d =
    subst (λ (hs : ℕ → Option ℕ). Placing s.frames s.frame hs s.pages)
    (sym (put_known (λ (u : ℕ). hand (s.calls u)) t (hand c) (ap hand e ∙ sym d))) h.place

-- the changes open are the same
pub same_opens : (pending : ℕ → ℕ) (b c : Option Call) → change_in c ≡ change_in b → (f : ℕ) → pending f + opens f b ≡ pending f + opens f c
same_opens pending b c same f = ap (λ (o : Option ℕ). pending f + elim o [ None ↦ 0 | Some k ↦ bit (k == f) ]) (sym same)

-- only the call goes on
pub stays : (g : Geometry) (s : State) (t : ℕ) (b c : Option Call) → Inv g s → t < g.tasks + 1 → s.calls t ≡ b → seen c ≡ seen b
    → IfSome (fills c) (λ k. Reached s.size (λ u. to_pass (s.calls u)) k.0 k.1) → Stands g s t c → Inv g (to s t c)
stays g s t b c h l e same fill own = goes g s s t b c h l e (ap (λ p. p.4) same) (ap (λ p. p.5) same) (record {
  layout = h.layout;
  count = (let x : behind c ≡ behind b = ap (λ p. p.0) same in let y : ahead c ≡ ahead b = ap (λ p. p.1) same in omega arith);
  enough = h.enough;
  used = same_used s.used (reserved_of g s.reserved) b c (ap (λ p. p.6) same);
  quota = h.quota;
  place = place_same g s t b c h e (ap (λ p. p.2) same);
  entries = h.entries;
  inside = h.inside;
  sweep = h.sweep;
  reach = h.reach;
  fill = fill;
  sizes = h.sizes;
  changes = same_opens s.pending b c (ap (λ p. p.3) same);
  spares = h.spares;
  holders = h.holders;
  others = λ u d. h.stands u;
  own = own;
})
