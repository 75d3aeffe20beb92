-- Slots and file locks that are taken and left.
use Rattle.std.proofs.Common.{◌≡◌, ◌≢◌, ℕ, ◌+◌, ◌<◌, refl, ap, sym, ◌∙◌, subst, arith, inl, inr}
use Rattle.std.specs.Prelude.{Bool, true, false, Option, Some, None, IfSome}
use Rattle.hp_base.specs.Numbers.{put}
use Rattle.hp_base.proofs.Puts.{put_same, put_other, put_tells}
use Rattle.hp_machine.specs.State.{Geometry, State, slot_of}
use Rattle.hp_machine.specs.Views.{behind, ahead, used_ahead, hand, change_in, slot_held, locked_file}
use Rattle.hp_machine.specs.declared.call.Call.{Call}
use Rattle.hp_laws.specs.Sweep.{fills, to_pass, passed, gone}
use Rattle.hp_laws.proofs.Deciding.{some_same}
use Rattle.hp_laws.proofs.Standing.{HasSlot, HasLock, Stands}
use Rattle.hp_laws.proofs.Staying.{same_files, same_tables, stands_after}
use Rattle.hp_laws.proofs.Invariant.{Reached, Holders, Inv, goes_on, goes_as, reserved_of, same_used, put_known, place_same, same_opens, sweeps, to}

-- one that holds something isn't one that holds nothing
holds_other : {A : Type 0} (held : ℕ → Option A) (t u : ℕ) (k : A) → held t ≡ None → held u ≡ Some k → u ≢ t
holds_other {A} held t u k none some = λ d. (let x : ◌≡◌ {A = Option A} None (Some k) = sym none ∙ (ap held (sym d) ∙ some) in absurd (cc))

-- who holds what stays told right: where a free slot is taken
slot_taken_holders : (g : Geometry) (slots locks : ℕ → Option ℕ) (held : ℕ → Option (ℕ × ℕ)) (locked : ℕ → Option ℕ) (t f i : ℕ)
    → Holders g slots locks held locked → held t ≡ None
    → Holders g (put slots (slot_of g f i) (Some t)) locks (put held t (Some (f, i))) locked
slot_taken_holders g slots locks held locked t f i h none = record {
  slot = λ k u e. elim (put_tells slots (slot_of g f i) (Some t) k) [
    | inl q ↦ ((f, i), ap (put held t (Some (f, i))) (sym (some_same (sym q.1 ∙ e))) ∙ put_same held t (Some (f, i)), sym q.0)
    | inr q ↦ (let o = h.slot k u (sym q.1 ∙ e) in (o.0, put_other held t (Some (f, i)) u (holds_other held t u o.0 none o.1) ∙ o.1, o.2))
  ];
  lock = h.lock;
}

-- where a slot is left
slot_left_holders : (g : Geometry) (slots locks : ℕ → Option ℕ) (held : ℕ → Option (ℕ × ℕ)) (locked : ℕ → Option ℕ) (t f i : ℕ)
    → Holders g slots locks held locked → held t ≡ Some (f, i)
    → Holders g (put slots (slot_of g f i) None) locks (put held t None) locked
slot_left_holders g slots locks held locked t f i h some = record {
  slot = λ k u e. elim (put_tells slots (slot_of g f i) None k) [
    | inl q ↦ (let d : ◌≡◌ {A = Option ℕ} None (Some u) = sym q.1 ∙ e in absurd (cc))
    | inr q ↦ (let o = h.slot k u (sym q.1 ∙ e) in (
      o.0,
      put_other held t None u
          (λ d. q.0 (sym o.2 ∙ ap (λ (m : ℕ × ℕ). slot_of g m.0 m.1) (some_same (sym o.1 ∙ (ap held d ∙ some))))) ∙ o.1,
      o.2,
    ))
  ];
  lock = h.lock;
}

-- where a free lock is taken
lock_taken_holders : (g : Geometry) (slots locks : ℕ → Option ℕ) (held : ℕ → Option (ℕ × ℕ)) (locked : ℕ → Option ℕ) (t f : ℕ)
    → Holders g slots locks held locked → locked t ≡ None
    → Holders g slots (put locks f (Some t)) held (put locked t (Some f))
lock_taken_holders g slots locks held locked t f h none = record {
  slot = h.slot;
  lock = λ k u e. elim (put_tells locks f (Some t) k) [
    | inl q ↦ ap (put locked t (Some f)) (sym (some_same (sym q.1 ∙ e))) ∙ (put_same locked t (Some f) ∙ ap (λ (m : ℕ). Some m) (sym q.0))
    | inr q ↦ (let o = h.lock k u (sym q.1 ∙ e) in put_other locked t (Some f) u (holds_other locked t u k none o) ∙ o)
  ];
}

-- and where a lock is left
lock_left_holders : (g : Geometry) (slots locks : ℕ → Option ℕ) (held : ℕ → Option (ℕ × ℕ)) (locked : ℕ → Option ℕ) (t f : ℕ)
    → Holders g slots locks held locked → locked t ≡ Some f
    → Holders g slots (put locks f None) held (put locked t None)
lock_left_holders g slots locks held locked t f h some = record {
  slot = h.slot;
  lock = λ k u e. elim (put_tells locks f None k) [
    | inl q ↦ (let d : ◌≡◌ {A = Option ℕ} None (Some u) = sym q.1 ∙ e in absurd (cc))
    | inr q ↦ (let o = h.lock k u (sym q.1 ∙ e) in put_other locked t None u (λ d. q.0 (some_same (sym o ∙ (ap locked d ∙ some)))) ∙ o)
  ];
}

-- all that others see of a call beside what it holds
abbrev pub shown : Option Call → ℕ × ℕ × Option ℕ × Option ℕ × ((ℕ → ℕ → Bool) × (ℕ → ℕ → Bool) × (ℕ → ℕ → Bool)) × ℕ
shown c = (behind c, ahead c, hand c, change_in c, sweeps c, used_ahead c)

-- a slot that is free is taken
pub takes_slot : (g : Geometry) (s : State) (t : ℕ) (b c : Option Call) (f i : ℕ) → Inv g s → t < g.tasks + 1 → s.calls t ≡ b
    → s.slots (slot_of g f i) ≡ None → shown c ≡ shown b → locked_file c ≡ locked_file b → slot_held b ≡ None → slot_held c ≡ Some (f, i)
    → IfSome (fills c) (λ k. Reached s.size (λ u. to_pass (s.calls u)) k.0 k.1)
    → Stands g (record s { pool = record s.pool { slots = put s.slots (slot_of g f i) (Some t) } }) t c
    → Inv g (to (record s { pool = record s.pool { slots = put s.slots (slot_of g f i) (Some t) } }) t c)
takes_slot g s t b c f i h l e free same same_lock none some fill own = goes_as g s n t b c h l e (ap (λ p. p.4) same) (record {
  layout = h.layout;
  count = (let x : behind c ≡ behind b = ap (λ p. p.0) same in let y : ahead c ≡ ahead b = ap (λ p. p.1) same in omega arith);
  used = same_used s.used (reserved_of g s.reserved) b c (ap (λ p. p.5) same);
  quota = h.quota;
  enough = h.enough;
  place = place_same g s t b c h e (ap (λ p. p.2) same);
  entries = h.entries;
  inside = h.inside;
  sweep = h.sweep;
  reach = h.reach;
  fill = fill;
  sizes = h.sizes;
  changes = same_opens s.pending b c (ap (λ p. p.3) same);
  spares = h.spares;
  holders =
      subst (λ (o : Option (ℕ × ℕ)). Holders g n.slots s.locks (put (λ (u : ℕ). slot_held (s.calls u)) t o)
      (put (λ (u : ℕ). locked_file (s.calls u)) t (locked_file c))) (sym some)
      (subst (λ (a : ℕ → Option ℕ). Holders g n.slots s.locks (put (λ (u : ℕ). slot_held (s.calls u)) t (Some (f, i)))
      a) (sym (put_known (λ (u : ℕ). locked_file (s.calls u)) t (locked_file c) (ap locked_file e ∙ sym same_lock)))
      (slot_taken_holders g s.slots s.locks (λ u. slot_held (s.calls u)) (λ u. locked_file (s.calls u)) t f i
      h.holders (ap slot_held e ∙ none)));
  others =
      λ u d. stands_after g s n u (s.calls u)
      (record {
        slot = still u;
        files = same_files;
        tables = same_tables;
      }) (h.stands u);
  own = own;
})
  where
    n : State
    n = record s { pool = record s.pool { slots = put s.slots (slot_of g f i) (Some t) } }

    still : (u k : ℕ) → s.slots k ≡ Some u → put s.slots (slot_of g f i) (Some t) k ≡ Some u
    still u k a = grind (arith, put_tells)

-- so of the calls, where one leaves its slot and keeps its lock
pub left_holders : (g : Geometry) (s : State) (t : ℕ) (b c : Option Call) (f i : ℕ) → Inv g s → s.calls t ≡ b
    → locked_file c ≡ locked_file b → slot_held b ≡ Some (f, i) → slot_held c ≡ None
    → Holders g (put s.slots (slot_of g f i) None) s.locks (put (λ (u : ℕ). slot_held (s.calls u)) t (slot_held c))
    (put (λ (u : ℕ). locked_file (s.calls u)) t (locked_file c))
left_holders g s t b c f i h e same_lock some none =
    subst (λ (o : Option (ℕ × ℕ)). Holders g (put s.slots (slot_of g f i) None) s.locks
    (put (λ (u : ℕ). slot_held (s.calls u)) t o) (put (λ (u : ℕ). locked_file (s.calls u)) t (locked_file c))) (sym none)
    (subst (λ (a : ℕ → Option ℕ). Holders g (put s.slots (slot_of g f i) None) s.locks
    (put (λ (u : ℕ). slot_held (s.calls u)) t None) a)
    (sym (put_known (λ (u : ℕ). locked_file (s.calls u)) t (locked_file c) (ap locked_file e ∙ sym same_lock)))
    (slot_left_holders g s.slots s.locks (λ u. slot_held (s.calls u)) (λ u. locked_file (s.calls u)) t f i h.holders
    (ap slot_held e ∙ some)))

-- what other calls stand on stays where a slot is left: theirs is another
pub left_stands : (g : Geometry) (s : State) (t f i : ℕ) → Inv g s → HasSlot g s t f i → (u : ℕ) → u ≢ t
    → Stands g (record s { pool = record s.pool { slots = put s.slots (slot_of g f i) None } }) u (s.calls u)
left_stands g s t f i h held u d =
    stands_after g s n u (s.calls u)
    (record {
      slot = still;
      files = same_files;
      tables = same_tables;
    }) (h.stands u)
  where
    n : State
    n = record s { pool = record s.pool { slots = put s.slots (slot_of g f i) None } }

    still : (k : ℕ) → s.slots k ≡ Some u → put s.slots (slot_of g f i) None k ≡ Some u
    still k a = elim (put_tells s.slots (slot_of g f i) None k) [
      | inl q ↦ absurd (d (some_same (sym a ∙ (ap s.slots q.0 ∙ held))))
      | inr q ↦ q.1 ∙ a
    ]

-- a slot is left
pub leaves_slot : (g : Geometry) (s : State) (t : ℕ) (b c : Option Call) (f i : ℕ) → Inv g s → t < g.tasks + 1 → s.calls t ≡ b
    → shown c ≡ shown b → locked_file c ≡ locked_file b → slot_held b ≡ Some (f, i) → slot_held c ≡ None → HasSlot g s t f i
    → IfSome (fills c) (λ k. Reached s.size (λ u. to_pass (s.calls u)) k.0 k.1)
    → Stands g (record s { pool = record s.pool { slots = put s.slots (slot_of g f i) None } }) t c
    → Inv g (to (record s { pool = record s.pool { slots = put s.slots (slot_of g f i) None } }) t c)
leaves_slot g s t b c f i h l e same same_lock some none held fill own = goes_as g s n t b c h l e (ap (λ p. p.4) same) (record {
  layout = h.layout;
  count = (let x : behind c ≡ behind b = ap (λ p. p.0) same in let y : ahead c ≡ ahead b = ap (λ p. p.1) same in omega arith);
  used = same_used s.used (reserved_of g s.reserved) b c (ap (λ p. p.5) same);
  quota = h.quota;
  enough = h.enough;
  place = place_same g s t b c h e (ap (λ p. p.2) same);
  entries = h.entries;
  inside = h.inside;
  sweep = h.sweep;
  reach = h.reach;
  fill = fill;
  sizes = h.sizes;
  changes = same_opens s.pending b c (ap (λ p. p.3) same);
  spares = h.spares;
  holders = left_holders g s t b c f i h e same_lock some none;
  others = left_stands g s t f i h held;
  own = own;
})
  where
    n : State
    n = record s { pool = record s.pool { slots = put s.slots (slot_of g f i) None } }

-- a file lock that is free is taken
pub takes_lock : (g : Geometry) (s : State) (t : ℕ) (b c : Option Call) (f : ℕ) → Inv g s → t < g.tasks + 1 → s.calls t ≡ b
    → s.locks f ≡ None → shown c ≡ shown b → slot_held c ≡ slot_held b → locked_file b ≡ None → locked_file c ≡ Some f → fills c ≡ None
    → Stands g (record s { pool = record s.pool { locks = put s.locks f (Some t) } }) t c
    → Inv g (to (record s { pool = record s.pool { locks = put s.locks f (Some t) } }) t c)
takes_lock g s t b c f h l e free same same_slot none some fill own = goes_as g s n t b c h l e (ap (λ p. p.4) same) (record {
  layout = h.layout;
  count = (let x : behind c ≡ behind b = ap (λ p. p.0) same in let y : ahead c ≡ ahead b = ap (λ p. p.1) same in omega arith);
  used = same_used s.used (reserved_of g s.reserved) b c (ap (λ p. p.5) same);
  quota = h.quota;
  enough = h.enough;
  place = place_same g s t b c h e (ap (λ p. p.2) same);
  entries = h.entries;
  inside = h.inside;
  sweep = h.sweep;
  reach = h.reach;
  sizes = h.sizes;
  fill = subst (λ (o : Option (ℕ × ℕ)). IfSome o (λ k. Reached s.size (λ u. to_pass (s.calls u)) k.0 k.1)) (sym fill) tt;
  changes = same_opens s.pending b c (ap (λ p. p.3) same);
  spares = h.spares;
  holders =
      subst (λ (o : Option ℕ). Holders g s.slots n.locks (put (λ (u : ℕ). slot_held (s.calls u)) t (slot_held c))
      (put (λ (u : ℕ). locked_file (s.calls u)) t o)) (sym some)
      (subst (λ (a : ℕ → Option (ℕ × ℕ)). Holders g s.slots n.locks a
      (put (λ (u : ℕ). locked_file (s.calls u)) t (Some f)))
      (sym (put_known (λ (u : ℕ). slot_held (s.calls u)) t (slot_held c) (ap slot_held e ∙ sym same_slot)))
      (lock_taken_holders g s.slots s.locks (λ u. slot_held (s.calls u)) (λ u. locked_file (s.calls u)) t f h.holders
      (ap locked_file e ∙ none)));
  others =
      λ u d. stands_after g s n u (s.calls u)
      (record {
        slot = λ k a. a;
        files = record {
          page = λ k j a. refl;
          mark = λ k j a w r. r;
          unmark = λ k j a b r. r;
          lock = λ k a. (still u k a, refl, λ j r. r);
        };
        tables = same_tables;
      }) (h.stands u);
  own = own;
})
  where
    n : State
    n = record s { pool = record s.pool { locks = put s.locks f (Some t) } }

    still : (u k : ℕ) → s.locks k ≡ Some u → put s.locks f (Some t) k ≡ Some u
    still u k a = grind (arith, put_tells)

-- a call ends, and leaves its file lock; it has passed every index that it was to pass
pub leaves_lock : (g : Geometry) (s : State) (t : ℕ) (b : Option Call) (f : ℕ) → Inv g s → t < g.tasks + 1 → s.calls t ≡ b
    → behind b ≡ 0 → ahead b ≡ 0 → used_ahead b ≡ 0 → hand b ≡ None → change_in b ≡ None
    → slot_held b ≡ None → locked_file b ≡ Some f → HasLock s t f
    → ((k j : ℕ) → to_pass b k j ≡ false)
    → Inv g (to (record s { pool = record s.pool { locks = put s.locks f None } }) t None)
leaves_lock g s t b f h l e no_behind no_ahead none_used no_hand no_change no_slot some held swept = goes_on g s n t b None h l e (record {
  layout = h.layout;
  count = omega arith;
  enough = h.enough;
  used = same_used s.used (reserved_of g s.reserved) b None (sym none_used);
  quota = h.quota;
  place = place_same g s t b None h e (sym no_hand);
  entries = h.entries;
  inside = h.inside;
  sizes = h.sizes;
  sweep = record {
    past = λ u k j p. elim (put_tells (λ (w : ℕ). passed (s.calls w)) t (passed None) u) [
      | inl q ↦ (let d : false ≡ true = ap (λ (m : ℕ → ℕ → Bool). m k j) (sym q.1) ∙ p in absurd (cc))
      | inr q ↦ h.sweep.past u k j (ap (λ (m : ℕ → ℕ → Bool). m k j) (sym q.1) ∙ p)
    ];
    gone = λ u k j p. elim (put_tells (λ (w : ℕ). gone (s.calls w)) t (gone None) u) [
      | inl q ↦ (let d : false ≡ true = ap (λ (m : ℕ → ℕ → Bool). m k j) (sym q.1) ∙ p in absurd (cc))
      | inr q ↦ h.sweep.gone u k j (ap (λ (m : ℕ → ℕ → Bool). m k j) (sym q.1) ∙ p)
    ];
  };
  reach = λ w. if_reached (fills (s.calls w)) (h.reach w);
  fill = tt;
  changes = same_opens s.pending b None (sym no_change);
  spares = h.spares;
  holders =
      subst (λ (a : ℕ → Option (ℕ × ℕ)). Holders g s.slots n.locks a
      (put (λ (u : ℕ). locked_file (s.calls u)) t None))
      (sym (put_known (λ (u : ℕ). slot_held (s.calls u)) t None (ap slot_held e ∙ no_slot)))
      (lock_left_holders g s.slots s.locks (λ u. slot_held (s.calls u)) (λ u. locked_file (s.calls u)) t f h.holders
      (ap locked_file e ∙ some));
  others =
      λ u d. stands_after g s n u (s.calls u)
      (record {
        slot = λ k a. a;
        files = record {
          page = λ k j a. refl;
          mark = λ k j a w r. r;
          unmark = λ k j a b r. r;
          lock = λ k a. (still u d k a, refl, λ j r. r);
        };
        tables = same_tables;
      }) (h.stands u);
  own = record { slot = tt; lock = tt; facts = tt };
})
  where
    n : State
    n = record s { pool = record s.pool { locks = put s.locks f None } }

    still : (u : ℕ) → u ≢ t → (k : ℕ) → s.locks k ≡ Some u → put s.locks f None k ≡ Some u
    still u d k a = elim (put_tells s.locks f None k) [
      | inl q ↦ absurd (d (some_same (sym a ∙ (ap s.locks q.0 ∙ held))))
      | inr q ↦ q.1 ∙ a
    ]

    covered : (k j : ℕ) → Reached s.size (λ u. to_pass (s.calls u)) k j
        → Reached s.size (put (λ (u : ℕ). to_pass (s.calls u)) t (to_pass None)) k j
    covered k j r = elim r [
      | inl a ↦ inl a
      | inr a ↦ inr (
        a.0,
        ap (λ (m : ℕ → ℕ → Bool). m k j)
            (put_other (λ (u : ℕ). to_pass (s.calls u)) t (to_pass None) a.0
            (λ d. (let z : false ≡ true = sym (swept k j)
            ∙ (ap (λ (c : Option Call). to_pass c k j) (sym (ap s.calls d ∙ e)) ∙ a.1) in absurd (cc)))) ∙ a.1,
      )
    ]

    if_reached : (o : Option (ℕ × ℕ)) → IfSome o (λ k. Reached s.size (λ u. to_pass (s.calls u)) k.0 k.1)
        → IfSome o (λ k. Reached s.size (put (λ (u : ℕ). to_pass (s.calls u)) t (to_pass None)) k.0 k.1)
    if_reached None r = tt
    if_reached (Some k) r = covered k.0 k.1 r
