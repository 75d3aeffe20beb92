-- What a truncation lowers, passes and cuts off.
use Rattle.std.proofs.Common.{◌≡◌, ◌≢◌, ℕ, ◌+◌, ◌<◌, ◌≤◌, refl, ap, sym, ◌∙◌, subst, arith, inl, inr, ◌⊎◌}
use Rattle.std.specs.Prelude.{Bool, true, false, Option, Some, None, IfSome}
use Rattle.hp_base.specs.Numbers.{put}
use Rattle.hp_base.specs.Indices.{vacant, count_within, cut_tail}
use Rattle.hp_base.proofs.Puts.{put_same, put_other, same_or_other, put_tells}
use Rattle.hp_base.proofs.Totals.{total_change}
use Rattle.hp_base.proofs.Counting.{count_below-cut_tail}
use Rattle.hp_base.proofs.Sets.{vacant_cut, cut_below, cut_false, cut_out, cut_above}
use Rattle.hp_machine.specs.State.{Geometry, State, slot_of}
use Rattle.hp_machine.specs.Views.{behind, ahead, used_ahead, hand, change_in, locked_file, slot_held}
use Rattle.hp_machine.specs.declared.call.Call.{Call}
use Rattle.hp_laws.specs.Sweep.{fills, to_pass, passed, gone}
use Rattle.hp_laws.proofs.Standing.{HasSlot, HasLock, Stands}
use Rattle.hp_laws.proofs.Staying.{same_tables, stands_after}
use Rattle.hp_laws.proofs.Invariant.{Reached, Swept, Holders, Inv, goes_on, put_known, vacant_of, reserved_of, reserved_fewer, same_used, place_same, same_opens, holds}
use Rattle.hp_laws.proofs.Invariant.{to, if_weaker}
use Rattle.hp_laws.proofs.Holding.{left_holders, left_stands}
use Rattle.hp_laws.proofs.Passing.{locks_file, holds_slot, fills_slot, passed_locked, reached_not_passed, same_holder}

-- what was reached, by who sees to it
reach_cases : (s : State) (t : ℕ) (b : Option Call) (f j : ℕ) (P : Type 0) → s.calls t ≡ b → Reached s.size (λ u. to_pass (s.calls u)) f j
    → (j < s.size f → P) → ((u : ℕ) → u ≢ t → to_pass (s.calls u) f j ≡ true → P) → (to_pass b f j ≡ true → P) → P
reach_cases s t b f j P e r low other own = elim r [
  | inl l ↦ low l
  | inr a ↦ elim (same_or_other a.0 t) [
    | inl d ↦ own (ap (λ (c : Option Call). to_pass c f j) (sym (ap s.calls d ∙ e)) ∙ a.1)
    | inr d ↦ other a.0 d a.1
  ]
]

-- after a call goes on, another call is ahead of an index as before
new_other : (calls : ℕ → Option Call) (t u : ℕ) (c : Option Call) (size : ℕ → ℕ) (f j : ℕ) → u ≢ t → to_pass (calls u) f j ≡ true
    → Reached size (put (λ (w : ℕ). to_pass (calls w)) t (to_pass c)) f j
new_other calls t u c size f j d p =
    inr (u, ap (λ (m : ℕ → ℕ → Bool). m f j) (put_other (λ (w : ℕ). to_pass (calls w)) t (to_pass c) u d) ∙ p)

-- and the one that went on is where it now stands
new_own : (calls : ℕ → Option Call) (t : ℕ) (c : Option Call) (size : ℕ → ℕ) (f j : ℕ) → to_pass c f j ≡ true
    → Reached size (put (λ (w : ℕ). to_pass (calls w)) t (to_pass c)) f j
new_own calls t c size f j p = inr (t, ap (λ (m : ℕ → ℕ → Bool). m f j) (put_same (λ (w : ℕ). to_pass (calls w)) t (to_pass c)) ∙ p)

-- what is said of the calls after one goes on is said of another, or of it
view_cases : (v : Option Call → ℕ → ℕ → Bool) (calls : ℕ → Option Call) (t u : ℕ) (c : Option Call) (f j : ℕ) (P : Type 0)
    → put (λ (w : ℕ). v (calls w)) t (v c) u f j ≡ true
    → (u ≢ t → v (calls u) f j ≡ true → P) → (v c f j ≡ true → P) → P
view_cases v calls t u c f j P p other own = elim (put_tells (λ (w : ℕ). v (calls w)) t (v c) u) [
  | inl q ↦ own (ap (λ (m : ℕ → ℕ → Bool). m f j) (sym q.1) ∙ p)
  | inr q ↦ other q.0 (ap (λ (m : ℕ → ℕ → Bool). m f j) (sym q.1) ∙ p)
]

-- the holders are as they were
same_holders : (g : Geometry) (s : State) (t : ℕ) (b c : Option Call) → Inv g s → s.calls t ≡ b → holds c ≡ holds b
    → Holders g s.slots s.locks (put (λ (u : ℕ). slot_held (s.calls u)) t (slot_held c))
    (put (λ (u : ℕ). locked_file (s.calls u)) t (locked_file c))
same_holders g s t b c h e same =
    subst (λ (a : ℕ → Option (ℕ × ℕ)). Holders g s.slots s.locks a
    (put (λ (u : ℕ). locked_file (s.calls u)) t (locked_file c)))
    (sym (put_known (λ (u : ℕ). slot_held (s.calls u)) t (slot_held c) (ap slot_held e ∙ sym (ap (λ p. p.0) same))))
    (subst (λ (a : ℕ → Option ℕ). Holders g s.slots s.locks (λ u. slot_held (s.calls u)) a)
    (sym (put_known (λ (u : ℕ). locked_file (s.calls u)) t (locked_file c)
    (ap locked_file e ∙ sym (ap (λ p. p.1) same)))) h.holders)

-- another call under a lock stands in another file
other_file : (g : Geometry) (s : State) (t u k f : ℕ) → Inv g s → HasLock s t f → u ≢ t → locked_file (s.calls u) ≡ Some k → k ≢ f
other_file g s t u k f h held d e = λ q. d (same_holder u t (s.locks f) (ap s.locks (sym q) ∙ locks_file g s u k h e) held)

-- a lock that another task holds is that of another file
other_lock : (s : State) (t u k f : ℕ) → HasLock s t f → u ≢ t → s.locks k ≡ Some u → k ≢ f
other_lock s t u k f held d e = λ q. d (same_holder u t (s.locks f) (ap s.locks (sym q) ∙ e) held)

-- what was reached is reached where the size is lowered
pub cut_reached : (s : State) (t : ℕ) (b c : Option Call) (f new top : ℕ) → s.calls t ≡ b → s.size f ≤ top
    → ((k j : ℕ) → to_pass b k j ≡ true → ⊥)
    → ((j : ℕ) → j < top → (j < new) ⊎ (to_pass c f j ≡ true))
    → (k j : ℕ) → Reached s.size (λ u. to_pass (s.calls u)) k j
    → Reached (put s.size f new) (put (λ (w : ℕ). to_pass (s.calls w)) t (to_pass c)) k j
cut_reached s t b c f new top e size_low none_to_pass covers k j r =
    reach_cases s t b k j (Reached size (put (λ (w : ℕ). to_pass (s.calls w)) t (to_pass c)) k j) e r
    (λ low. elim (same_or_other k f) [
      | inl d ↦ elim (covers j (let y : s.size k ≡ s.size f = ap s.size d in omega arith)) [
        | inl q ↦ inl (let z : size k ≡ new = ap (put s.size f new) d ∙ put_same s.size f new in omega arith)
        | inr q ↦ new_own s.calls t c size k j (ap (λ (m : ℕ). to_pass c m j) d ∙ q)
      ]
      | inr d ↦ inl (let z : size k ≡ s.size k = put_other s.size f new k d in omega arith)
    ])
    (λ u d p. new_other s.calls t u c size k j d p)
    (λ p. absurd (none_to_pass k j p))
  where
    size : ℕ → ℕ
    size = put s.size f new

-- the size is lowered, and what lay below the old one is ahead
pub cuts : (g : Geometry) (s : State) (t : ℕ) (b c : Option Call) (f new top : ℕ) → Inv g s → t < g.tasks + 1 → s.calls t ≡ b
    → holds c ≡ holds b → hand c ≡ hand b → change_in c ≡ change_in b → behind c + ahead b ≡ behind b + ahead c
    → used_ahead c ≡ used_ahead b
    → HasLock s t f → new ≤ g.limit → s.size f ≤ top → ((i : ℕ) → top ≤ i → s.pages f i ≡ None)
    → ((k j : ℕ) → to_pass b k j ≡ true → ⊥)
    → ((j : ℕ) → j < top → (j < new) ⊎ (to_pass c f j ≡ true))
    → ((k j : ℕ) → passed c k j ≡ true → (k ≡ f) × (top ≤ j) × (new ≤ j))
    → fills c ≡ None → ((k j : ℕ) → gone c k j ≡ true → ⊥)
    → Stands g (record s { pool = record s.pool { size = put s.size f new } }) t c
    → Inv g (to (record s { pool = record s.pool { size = put s.size f new } }) t c)
cuts g s t b c f new top h l e same_held same_hand same_change balance owed held low size_low bare none_to_pass covers passes
    no_fill none_gone own = goes_on g s n t b c h l e (record {
      layout = h.layout;
      entries = h.entries;
      inside = h.inside;
      spares = h.spares;
      enough = h.enough;
      count = omega arith;
      used = same_used s.used (reserved_of g s.reserved) b c owed;
      quota = h.quota;
      place = place_same g s t b c h e same_hand;
      sweep = record {
        past = λ u k j p. view_cases passed s.calls t u c k j ((s.pages k j ≡ None) × (n.size k ≤ j)) p
            (λ d q. let o = h.sweep.past u k j q in (
              o.0,
              (let z : n.size k ≡ s.size k = put_other s.size f new k
                  (other_file g s t u k f h held d (passed_locked (s.calls u) k j q)) in let y = o.1 in omega arith),
            ))
            (λ q. let o = passes k j q in (
              ap (λ (m : ℕ). s.pages m j) o.0 ∙ bare j o.1,
              (let z : n.size k ≡ new = ap (put s.size f new) o.0 ∙ put_same s.size f new in let y = o.2 in omega arith),
            ));
        gone =
            λ u k j p. view_cases gone s.calls t u c k j (s.reserved k j ≡ false) p (λ d q. h.sweep.gone u k j q)
            (λ q. absurd (none_gone k j q));
      };
      reach = λ w. if_weaker (fills (s.calls w)) (λ k p r. covered k.0 k.1 r) (h.reach w);
      fill =
          subst (λ (o : Option (ℕ × ℕ)). IfSome o
          (λ k. Reached n.size (put (λ (w : ℕ). to_pass (s.calls w)) t (to_pass c)) k.0 k.1)) (sym no_fill) tt;
      sizes =
          λ k. elim (put_tells s.size f new k) [
            | inl q ↦ (let z = q.1 in omega arith)
            | inr q ↦
                (let z = q.1 in let y = h.sizes k in omega arith)
          ];
      changes = same_opens s.pending b c same_change;
      holders = same_holders g s t b c h e same_held;
      others =
          λ u d. stands_after g s n u (s.calls u)
          (record {
            slot = λ k a. a;
            files = record {
              page = λ k j a. refl;
              mark = λ k j a w r. r;
              unmark = λ k j a b r. r;
              lock = λ k a. (a, put_other s.size f new k (other_lock s t u k f held d a), λ j r. r);
            };
            tables = same_tables;
          }) (h.stands u);
      own = own;
    })
  where
    n : State
    n = record s { pool = record s.pool { size = put s.size f new } }

    covered : (k j : ℕ) → Reached s.size (λ u. to_pass (s.calls u)) k j
        → Reached n.size (put (λ (w : ℕ). to_pass (s.calls w)) t (to_pass c)) k j
    covered = cut_reached s t b c f new top e size_low none_to_pass covers

-- so is what is at another index where one is passed
pub passed_reached : (s : State) (t : ℕ) (b c : Option Call) (f i new : ℕ) → s.calls t ≡ b → s.size f ≡ new
    → ((k j : ℕ) → to_pass b k j ≡ true → (k ≡ f) × ((j ≡ i) ⊎ ((j < new) ⊎ (to_pass c f j ≡ true))))
    → (k j : ℕ) → Reached s.size (λ u. to_pass (s.calls u)) k j → (k ≡ f → j ≡ i → ⊥)
    → Reached s.size (put (λ (w : ℕ). to_pass (s.calls w)) t (to_pass c)) k j
passed_reached s t b c f i new e sized all_to_pass k j r not_here =
    reach_cases s t b k j (Reached s.size (put (λ (w : ℕ). to_pass (s.calls w)) t (to_pass c)) k j) e r
    (λ low. inl low)
    (λ u d p. new_other s.calls t u c s.size k j d p)
    (λ p. let o = all_to_pass k j p in elim o.1 [
      | inl q ↦ absurd (not_here o.0 q)
      | inr y ↦ elim y [
        | inl q ↦ inl (let z : s.size k ≡ new = ap s.size o.0 ∙ sized in omega arith)
        | inr q ↦ new_own s.calls t c s.size k j (ap (λ (m : ℕ). to_pass c m j) o.0 ∙ q)
      ]
    ])

-- an index with no page is passed, and its slot left
pub passes : (g : Geometry) (s : State) (t : ℕ) (b c : Option Call) (f i new : ℕ) → Inv g s → t < g.tasks + 1 → s.calls t ≡ b
    → locked_file c ≡ locked_file b → slot_held b ≡ Some (f, i) → slot_held c ≡ None
    → hand c ≡ hand b → change_in c ≡ change_in b → behind c + ahead b ≡ behind b + ahead c → used_ahead c ≡ used_ahead b
    → fills b ≡ None → fills c ≡ None
    → HasSlot g s t f i → s.pages f i ≡ None → s.size f ≡ new
    → ((k j : ℕ) → to_pass b k j ≡ true → (k ≡ f) × ((j ≡ i) ⊎ ((j < new) ⊎ (to_pass c f j ≡ true))))
    → ((k j : ℕ) → passed c k j ≡ true → (passed b k j ≡ true) ⊎ ((k ≡ f) × (j ≡ i) × (new ≤ j)))
    → ((k j : ℕ) → gone c k j ≡ true → ⊥)
    → Stands g (record s { pool = record s.pool { slots = put s.slots (slot_of g f i) None } }) t c
    → Inv g (to (record s { pool = record s.pool { slots = put s.slots (slot_of g f i) None } }) t c)
passes g s t b c f i new h l e same_lock some none same_hand same_change balance owed no_b no_c held bare sized all_to_pass
    passing none_gone own = goes_on g s n t b c h l e (record {
      layout = h.layout;
      entries = h.entries;
      inside = h.inside;
      sizes = h.sizes;
      spares = h.spares;
      enough = h.enough;
      count = omega arith;
      used = same_used s.used (reserved_of g s.reserved) b c owed;
      quota = h.quota;
      place = place_same g s t b c h e same_hand;
      sweep = record {
        past = λ u k j p. view_cases passed s.calls t u c k j ((s.pages k j ≡ None) × (s.size k ≤ j)) p
            (λ d q. h.sweep.past u k j q)
            (λ q. elim (passing k j q) [
              | inl y ↦ h.sweep.past t k j (ap (λ (m : Option Call). passed m k j) e ∙ y)
              | inr y ↦ (
                ap (λ (m : ℕ). s.pages m j) y.0 ∙ (ap (s.pages f) y.1 ∙ bare),
                (let z : s.size k ≡ new = ap s.size y.0 ∙ sized in let a = y.2 in omega arith),
              )
            ]);
        gone =
            λ u k j p. view_cases gone s.calls t u c k j (s.reserved k j ≡ false) p (λ d q. h.sweep.gone u k j q)
            (λ q. absurd (none_gone k j q));
      };
      reach = λ w. if_weaker (fills (s.calls w)) (λ k p r. covered k.0 k.1 r (λ y z. no_filler w k p y z)) (h.reach w);
      fill =
          subst (λ (o : Option (ℕ × ℕ)). IfSome o
          (λ k. Reached s.size (put (λ (w : ℕ). to_pass (s.calls w)) t (to_pass c)) k.0 k.1)) (sym no_c) tt;
      changes = same_opens s.pending b c same_change;
      holders = left_holders g s t b c f i h e same_lock some none;
      others = left_stands g s t f i h held;
      own = own;
    })
  where
    n : State
    n = record s { pool = record s.pool { slots = put s.slots (slot_of g f i) None } }

    covered : (k j : ℕ) → Reached s.size (λ u. to_pass (s.calls u)) k j → (k ≡ f → j ≡ i → ⊥)
        → Reached s.size (put (λ (w : ℕ). to_pass (s.calls w)) t (to_pass c)) k j
    covered = passed_reached s t b c f i new e sized all_to_pass

    no_filler : (w : ℕ) (k : ℕ × ℕ) → fills (s.calls w) ≡ Some k → k.0 ≡ f → k.1 ≡ i → ⊥
    no_filler w k p y z =
        let a : s.slots (slot_of g f i) ≡ Some w =
        ap (λ (m : ℕ). s.slots (slot_of g m i)) (sym y)
        ∙ (ap (λ (m : ℕ). s.slots (slot_of g k.0 m)) (sym z) ∙ holds_slot g s w k h (fills_slot (s.calls w) k p)) in
        let d : w ≡ t = same_holder w t (s.slots (slot_of g f i)) a held in
        let q : ◌≡◌ {A = Option (ℕ × ℕ)} None (Some k) = sym no_b ∙ (ap fills (sym e) ∙ (ap (λ (m : ℕ). fills (s.calls m)) (sym d) ∙ p)) in
        absurd (cc)

-- what holds after, where it can only have been lost, held before
was_true : (b c : Bool) → (b ≡ false → c ≡ false) → c ≡ true → b ≡ true
was_true true c h e = refl
was_true false c h e = (let z : false ≡ true = sym (h refl) ∙ e in absurd (cc))

-- the tail, which has no page, is cut off
pub cuts_tail : (g : Geometry) (s : State) (t : ℕ) (b c : Option Call) (f new : ℕ) → Inv g s → t < g.tasks + 1 → s.calls t ≡ b → f < g.files
    → to_pass c ≡ to_pass b → passed c ≡ passed b → ((k j : ℕ) → gone c k j ≡ true → (k ≡ f) × (new ≤ j)) → holds c ≡ holds b
    → hand c ≡ hand b → change_in c ≡ change_in b → fills c ≡ None
    → behind c + ahead b + count_within (s.reserved f) new g.limit ≡ behind b + ahead c
    → used_ahead c ≡ used_ahead b + count_within (s.reserved f) new g.limit
    → HasLock s t f → ((j : ℕ) → new ≤ j → passed (s.calls t) f j ≡ true)
    → Stands g (record s { pool = record s.pool { reserved = put s.reserved f (cut_tail (s.reserved f) new) } }) t c
    → Inv g (to (record s { pool = record s.pool { reserved = put s.reserved f (cut_tail (s.reserved f) new) } }) t c)
cuts_tail g s t b c f new h l e in_files same_to_pass same_passed goners same_held same_hand same_change no_fill balance owed
    held passing own = goes_on g s n t b c h l e (record {
      layout = h.layout;
      entries = h.entries;
      sizes = h.sizes;
      spares = h.spares;
      enough = h.enough;
      count = (let z = lost_tail in omega arith);
      used =
          (let v : reserved_of g n.reserved + count_within (s.reserved f) new g.limit ≡ reserved_of g s.reserved =
          reserved_fewer g s f (cut_tail (s.reserved f) new) _ in_files (count_below-cut_tail (s.reserved f) new g.limit) in omega arith);
      quota = h.quota;
      place = place_same g s t b c h e same_hand;
      inside = record {
        within = λ k j a. h.inside.within k j (was_true (s.reserved k j) (n.reserved k j) (cut_still k j) a);
        bare = λ k j a. elim (same_or_other k f) [
          | inl d ↦ elim (cut_false (s.reserved f) new j
              (ap (λ (m : ℕ → Bool). m j) (sym (ap n.reserved d ∙ put_same s.reserved f (cut_tail (s.reserved f) new))) ∙ a)) [
                | inl q ↦ ap (λ (m : ℕ). s.pages m j) d ∙ h.inside.bare f j q
                | inr q ↦ ap (λ (m : ℕ). s.pages m j) d ∙ (h.sweep.past t f j (passing j q)).0
              ]
          | inr d ↦ h.inside.bare k j (ap (λ (m : ℕ → Bool). m j) (sym (put_other s.reserved f (cut_tail (s.reserved f) new) k d)) ∙ a)
        ];
      };
      sweep =
          subst (λ (a : ℕ → ℕ → ℕ → Bool). Swept s.size n.reserved s.pages a (put (λ (u : ℕ). gone (s.calls u)) t (gone c)))
          (sym (put_known (λ (u : ℕ). passed (s.calls u)) t (passed c) (ap passed e ∙ sym same_passed)))
          (record {
            past = h.sweep.past;
            gone = λ u k j p. view_cases gone s.calls t u c k j (n.reserved k j ≡ false) p
                (λ d q. cut_still k j (h.sweep.gone u k j q))
                (λ q. let o = goners k j q in
                ap (λ (m : ℕ → Bool). m j) (ap n.reserved o.0 ∙ put_same s.reserved f (cut_tail (s.reserved f) new))
                ∙ cut_above (s.reserved f) new j o.1);
          });
      reach =
          subst (λ (a : ℕ → ℕ → ℕ → Bool). (w : ℕ) → IfSome (fills (s.calls w)) (λ k. Reached s.size a k.0 k.1))
          (sym (put_known (λ (u : ℕ). to_pass (s.calls u)) t (to_pass c) (ap to_pass e ∙ sym same_to_pass))) h.reach;
      fill =
          subst (λ (o : Option (ℕ × ℕ)). IfSome o
          (λ k. Reached s.size (put (λ (w : ℕ). to_pass (s.calls w)) t (to_pass c)) k.0 k.1)) (sym no_fill) tt;
      changes = same_opens s.pending b c same_change;
      holders = same_holders g s t b c h e same_held;
      others =
          λ u d. stands_after g s n u (s.calls u)
          (record {
            slot = λ k a. a;
            files = record {
              page = λ k j a. refl;
              mark = λ k j a w r. kept u d k j w r;
              unmark = λ k j a b r. cut_still k j r;
              lock = λ k a. (
                a,
                refl,
                λ j r. ap (λ (m : ℕ → Bool). m j)
                    (put_other s.reserved f (cut_tail (s.reserved f) new) k (other_lock s t u k f held d a)) ∙ r,
              );
            };
            tables = same_tables;
          }) (h.stands u);
      own = own;
    })
  where
    n : State
    n = record s { pool = record s.pool { reserved = put s.reserved f (cut_tail (s.reserved f) new) } }

    cut_still : (k j : ℕ) → s.reserved k j ≡ false → n.reserved k j ≡ false
    cut_still k j a = elim (same_or_other k f) [
      | inl d ↦ ap (λ (m : ℕ → Bool). m j) (ap n.reserved d ∙ put_same s.reserved f (cut_tail (s.reserved f) new))
          ∙ cut_out (s.reserved f) new j (ap (λ (m : ℕ). s.reserved m j) (sym d) ∙ a)
      | inr d ↦ ap (λ (m : ℕ → Bool). m j) (put_other s.reserved f (cut_tail (s.reserved f) new) k d) ∙ a
    ]

    lost_tail : vacant_of g s.reserved s.pages ≡ vacant_of g n.reserved s.pages + count_within (s.reserved f) new g.limit
    lost_tail =
        let a : vacant_of g n.reserved s.pages + vacant g.limit (s.reserved f) (s.pages f) ≡ vacant_of g s.reserved
        s.pages + vacant g.limit (n.reserved f) (s.pages f)
        =
        total_change g.files f (λ k. vacant g.limit (s.reserved k) (s.pages k))
        (λ k. vacant g.limit (n.reserved k) (s.pages k)) in_files
        (λ k d. ap (λ (m : ℕ → Bool). vacant g.limit m (s.pages k))
        (put_other s.reserved f (cut_tail (s.reserved f) new) k d)) in
        let z : vacant g.limit (s.reserved f) (s.pages f) ≡ vacant g.limit (n.reserved f) (s.pages f) + count_within
        (s.reserved f) new g.limit
        =
        vacant_cut g.limit (s.reserved f) (s.pages f) new (λ i q. (h.sweep.past t f i (passing i q)).0)
        ∙ ap (λ (m : ℕ → Bool). vacant g.limit m (s.pages f) + count_within (s.reserved f) new g.limit)
        (sym (put_same s.reserved f (cut_tail (s.reserved f) new))) in
        omega arith

    not_passed : (u k j : ℕ) → fills (s.calls u) ≡ Some (k, j) → k ≡ f → j < new
    not_passed u k j a y =
        not_above j (λ q. reached_not_passed g s f j h
        (subst (λ (o : Option (ℕ × ℕ)). IfSome o (λ k. Reached s.size (λ u. to_pass (s.calls u)) k.0 k.1))
        (a ∙ ap (λ (m : ℕ). Some (m, j)) y) (h.reach u)) t (passing j q))
      where
        not_above : (j : ℕ) → (new ≤ j → ⊥) → j < new
        not_above j p = grind arith

    kept : (u : ℕ) → u ≢ t → (k j : ℕ) → (fills (s.calls u) ≡ Some (k, j)) ⊎ (locked_file (s.calls u) ≡ Some k)
        → s.reserved k j ≡ true → n.reserved k j ≡ true
    kept u d k j who z = elim who [
      | inr o ↦ ap (λ (m : ℕ → Bool). m j) (put_other s.reserved f (cut_tail (s.reserved f) new) k (other_file g s t u k f h held d o)) ∙ z
      | inl o ↦ elim (same_or_other k f) [
        | inr y ↦ ap (λ (m : ℕ → Bool). m j) (put_other s.reserved f (cut_tail (s.reserved f) new) k y) ∙ z
        | inl y ↦ ap (λ (m : ℕ → Bool). m j) (ap n.reserved y ∙ put_same s.reserved f (cut_tail (s.reserved f) new))
            ∙ cut_below (s.reserved f) new j (not_passed u k j o y) (ap (λ (m : ℕ). s.reserved m j) (sym y) ∙ z)
      ]
    ]
