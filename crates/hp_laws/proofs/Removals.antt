-- What leaves the cache and the reserved indices at one index.
use Rattle.std.proofs.Common.{◌≡◌, ◌≢◌, ℕ, ◌+◌, ◌<◌, ◌≤◌, refl, ap, sym, ◌∙◌, subst, arith, inl, inr}
use Rattle.std.specs.Prelude.{Bool, true, false, Option, Some, None, IfSome}
use Rattle.hp_base.specs.Numbers.{put, put2}
use Rattle.hp_base.specs.Indices.{vacant}
use Rattle.hp_base.specs.Mappings.{find}
use Rattle.hp_base.proofs.Puts.{put_same, put_other, same_or_other, put2_tells}
use Rattle.hp_base.proofs.Totals.{total_change}
use Rattle.hp_base.proofs.Counting.{count_below-put_false}
use Rattle.hp_base.proofs.Sets.{vacant_evict, vacant_drop}
use Rattle.hp_frames.specs.declared.frame.FrameState.TheVariants as state
use Rattle.hp_frames.specs.Bank.{is_free}
use Rattle.hp_machine.specs.State.{Geometry, State, slot_of, free_frames}
use Rattle.hp_machine.specs.Views.{behind, ahead, used_ahead, hand, change_in}
use Rattle.hp_machine.specs.declared.call.Call.{Call}
use Rattle.hp_laws.specs.Sweep.{fills, to_pass}
use Rattle.hp_laws.proofs.Deciding.{some_same}
use Rattle.hp_laws.proofs.Moves.{Placing, evicts_frame}
use Rattle.hp_laws.proofs.Standing.{HasSlot, HasLock, Stands}
use Rattle.hp_laws.proofs.Staying.{same_tables, stands_after}
use Rattle.hp_laws.proofs.Invariant.{Reached, Inv, page_within, goes, vacant_of, reserved_of, reserved_fewer, same_used, place_same, same_opens, sweeps, holds, to}
use Rattle.hp_laws.proofs.Effects.{free_same}

-- a page lies where the index is reserved
pub page_marked : (g : Geometry) (s : State) (f i x : ℕ) → Inv g s → s.pages f i ≡ Some x → s.reserved f i ≡ true
page_marked g s f i x h p = is_marked (s.reserved f i) refl
  where
    is_marked : (d : Bool) → s.reserved f i ≡ d → s.reserved f i ≡ true
    is_marked true a = a
    is_marked false a = (let z : s.pages f i ≡ None = h.inside.bare f i a in cc)

-- a page goes into the call's hand
pub evicts : (g : Geometry) (s : State) (t : ℕ) (b c : Option Call) (f i x : ℕ) → Inv g s → t < g.tasks + 1 → s.calls t ≡ b → f < g.files
    → sweeps c ≡ sweeps b → holds c ≡ holds b → hand b ≡ None → hand c ≡ Some x → change_in c ≡ change_in b
    → behind c + ahead b ≡ behind b + ahead c + 1 → used_ahead c ≡ used_ahead b
    → s.pages f i ≡ Some x → HasSlot g s t f i
    → ((w v y : ℕ) → s.entries w v ≡ Some y → find (s.mappings w) v ≡ Some (f, i) → ⊥)
    → IfSome (fills c) (λ k. Reached s.size (λ u. to_pass (s.calls u)) k.0 k.1)
    → Stands g (record s { pool = record s.pool { pages = put2 s.pages f i None; frame = put s.frame x state.Hand } }) t c
    → Inv g (to (record s { pool = record s.pool { pages = put2 s.pages f i None; frame = put s.frame x state.Hand } }) t c)
evicts g s t b c f i x h l e in_files same same_held none some same_change balance owed page held cleared fill own =
    goes g s n t b c h l e same same_held (record {
      layout = h.layout;
      reach = h.reach;
      fill = fill;
      sizes = h.sizes;
      spares = h.spares;
      holders = h.holders;
      count = (let v : vacant_of g s.reserved n.pages ≡ vacant_of g s.reserved s.pages + 1 = evicted_vacant in omega arith);
      used = same_used s.used (reserved_of g s.reserved) b c owed;
      quota = h.quota;
      enough =
          (let o = h.place.pages f i x page in
          let a : free_frames (put s.frame x state.Hand) s.frames ≡ free_frames s.frame s.frames = free_same s.frame x
          s.frames state.Hand (ap is_free (sym o.1)) in
          let z = h.enough in omega arith);
      place =
          subst (λ (o : Option ℕ). Placing s.frames n.frame (put (λ (u : ℕ). hand (s.calls u)) t o) n.pages) (sym some)
          (evicts_frame s.frames s.frame (λ u. hand (s.calls u)) s.pages t f i x h.place (ap hand e ∙ none) page);
      entries =
          record {
            owners = h.entries.owners;
            agree = λ w v y a. let o = h.entries.agree w v y a in
                (o.0, o.1, still w v y o.0 a o.1 o.2);
          };
      inside = record {
        bare = λ k j a. bare_still k j (h.inside.bare k j a);
        within = h.inside.within;
      };
      sweep =
          record {
            gone = h.sweep.gone;
            past = λ u k j a. let o = h.sweep.past u k j a in
                (bare_still k j o.0, o.1);
          };
      changes = same_opens s.pending b c same_change;
      others =
          λ u d. stands_after g s n u (s.calls u)
          (record {
            slot = λ k a. a;
            files = record {
              page = λ k j a. other u d k j a;
              mark = λ k j a w r. r;
              unmark = λ k j a b r. r;
              lock = λ k a. (a, refl, λ j r. r);
            };
            tables = same_tables;
          }) (h.stands u);
      own = own;
    })
  where
    n : State
    n = record s { pool = record s.pool { pages = put2 s.pages f i None; frame = put s.frame x state.Hand } }

    pair : (k : ℕ × ℕ) (o : Option (ℕ × ℕ)) → o ≡ Some k → k.0 ≡ f → k.1 ≡ i → o ≡ Some (f, i)
    pair k o d p q = d ∙ ap (λ (m : ℕ). Some (m, k.1)) p ∙ ap (λ (m : ℕ). Some (f, m)) q

    still : (w v y : ℕ) (k : ℕ × ℕ) → s.entries w v ≡ Some y → find (s.mappings w) v ≡ Some k → s.pages k.0 k.1 ≡ Some y
        → put2 s.pages f i None k.0 k.1 ≡ Some y
    still w v y k a d p = elim (put2_tells s.pages f i None k.0 k.1) [
      | inl q ↦ absurd (cleared w v y a (pair k (find (s.mappings w) v) d q.0 q.1))
      | inr q ↦ q.1 ∙ p
    ]

    bare_still : (k j : ℕ) → s.pages k j ≡ None → put2 s.pages f i None k j ≡ None
    bare_still k j d = elim (put2_tells s.pages f i None k j) [ inl q ↦ q.2 | inr q ↦ q.1 ∙ d ]

    other : (u : ℕ) → u ≢ t → (k j : ℕ) → s.slots (slot_of g k j) ≡ Some u → put2 s.pages f i None k j ≡ s.pages k j
    other u d k j a = elim (put2_tells s.pages f i None k j) [
      | inl q ↦ (let z : s.slots (slot_of g f i) ≡ Some u = ap (λ (m : ℕ). s.slots (slot_of g m i)) (sym q.0)
          ∙ (ap (λ (m : ℕ). s.slots (slot_of g k m)) (sym q.1) ∙ a) in absurd (d (some_same (sym z ∙ held))))
      | inr q ↦ q.1
    ]

    evicted_vacant : vacant_of g s.reserved n.pages ≡ vacant_of g s.reserved s.pages + 1
    evicted_vacant =
        let a : vacant_of g s.reserved n.pages + vacant g.limit (s.reserved f) (s.pages f) ≡ vacant_of g s.reserved
        s.pages + vacant g.limit (s.reserved f) (put2 s.pages f i None f)
        =
        total_change g.files f (λ k. vacant g.limit (s.reserved k) (s.pages k))
        (λ k. vacant g.limit (s.reserved k) (put2 s.pages f i None k)) in_files
        (λ k d. ap (vacant g.limit (s.reserved k)) (put_other s.pages f (put (s.pages f) i None) k d)) in
        let z : vacant g.limit (s.reserved f) (put2 s.pages f i None f) ≡ vacant g.limit (s.reserved f) (s.pages f) + 1
        =
        ap (λ (m : ℕ → Option ℕ). vacant g.limit (s.reserved f) m) (put_same s.pages f (put (s.pages f) i None))
        ∙ vacant_evict g.limit (s.reserved f) (s.pages f) i x (page_within f i x h.inside page).1
        (page_marked g s f i x h page) page in
        omega arith

-- an index with no page is no longer reserved
pub deletes : (g : Geometry) (s : State) (t : ℕ) (b c : Option Call) (f i spare : ℕ) → Inv g s → t < g.tasks + 1 → s.calls t ≡ b
    → f < g.files → i < g.limit
    → sweeps c ≡ sweeps b → holds c ≡ holds b → hand c ≡ hand b → change_in c ≡ change_in b
    → behind b + ahead c ≡ behind c + ahead b + 1 → used_ahead c ≡ used_ahead b + 1 → s.pending f ≤ spare
    → s.reserved f i ≡ true → s.pages f i ≡ None → HasSlot g s t f i → HasLock s t f
    → IfSome (fills c) (λ k. Reached s.size (λ u. to_pass (s.calls u)) k.0 k.1)
    → Stands g (record s { pool = record s.pool { reserved = put2 s.reserved f i false; spare = put s.spare f spare } }) t c
    → Inv g (to (record s { pool = record s.pool { reserved = put2 s.reserved f i false; spare = put s.spare f spare } }) t c)
deletes g s t b c f i spare h l e in_files in_limit same same_held same_hand same_change balance owed spares marked bare
    held locked fill own = goes g s n t b c h l e same same_held (record {
      layout = h.layout;
      entries = h.entries;
      reach = h.reach;
      fill = fill;
      sizes = h.sizes;
      holders = h.holders;
      enough = h.enough;
      count = (let v : vacant_of g n.reserved s.pages + 1 ≡ vacant_of g s.reserved s.pages = fewer in omega arith);
      used =
          (let v : reserved_of g n.reserved + 1 ≡ reserved_of g s.reserved =
          reserved_fewer g s f (put (s.reserved f) i false) 1 in_files (sym (count_below-put_false (s.reserved f) i g.limit in_limit marked)) in
          omega arith);
      quota = h.quota;
      place = place_same g s t b c h e same_hand;
      inside = record {
        within = λ k j a. elim (put2_tells s.reserved f i false k j) [
          | inl q ↦ (let d : false ≡ true = sym q.2 ∙ a in absurd (cc))
          | inr q ↦ h.inside.within k j (sym q.1 ∙ a)
        ];
        bare = λ k j a. elim (put2_tells s.reserved f i false k j) [
          | inl q ↦ ap (λ (m : ℕ). s.pages m j) q.0 ∙ (ap (s.pages f) q.1 ∙ bare)
          | inr q ↦ h.inside.bare k j (sym q.1 ∙ a)
        ];
      };
      sweep =
          record {
            past = h.sweep.past;
            gone = λ u k j a. elim (put2_tells s.reserved f i false k j) [ inl q ↦ q.2 | inr q ↦ q.1 ∙ h.sweep.gone u k j a ];
          };
      spares = spare_after;
      changes = same_opens s.pending b c same_change;
      others =
          λ u d. stands_after g s n u (s.calls u)
          (record {
            slot = λ k a. a;
            files = record {
              page = λ k j a. refl;
              mark = λ k j a w z. other_slot u d k j a ∙ z;
              unmark = λ k j a b z. other_slot u d k j a ∙ z;
              lock = λ k a. (a, refl, λ j z. other_lock u d k j a ∙ z);
            };
            tables = same_tables;
          }) (h.stands u);
      own = own;
    })
  where
    n : State
    n = record s { pool = record s.pool { reserved = put2 s.reserved f i false; spare = put s.spare f spare } }

    spare_after : (k : ℕ) → s.pending k ≤ put s.spare f spare k
    spare_after k = elim (same_or_other k f) [
      | inl d ↦ (let a : put s.spare f spare k ≡ spare = ap (put s.spare f spare) d ∙ put_same s.spare f spare in
          let w : s.pending k ≡ s.pending f = ap s.pending d in omega arith)
      | inr d ↦ (let a : put s.spare f spare k ≡ s.spare k = put_other s.spare f spare k d in let z = h.spares k in omega arith)
    ]

    other_slot : (u : ℕ) → u ≢ t → (k j : ℕ) → s.slots (slot_of g k j) ≡ Some u → put2 s.reserved f i false k j ≡ s.reserved k j
    other_slot u d k j a = elim (put2_tells s.reserved f i false k j) [
      | inl q ↦ (let z : s.slots (slot_of g f i) ≡ Some u = ap (λ (m : ℕ). s.slots (slot_of g m i)) (sym q.0)
          ∙ (ap (λ (m : ℕ). s.slots (slot_of g k m)) (sym q.1) ∙ a) in absurd (d (some_same (sym z ∙ held))))
      | inr q ↦ q.1
    ]

    other_lock : (u : ℕ) → u ≢ t → (k j : ℕ) → s.locks k ≡ Some u → put2 s.reserved f i false k j ≡ s.reserved k j
    other_lock u d k j a = elim (put2_tells s.reserved f i false k j) [
      | inl q ↦ (let z : s.locks f ≡ Some u = ap s.locks (sym q.0) ∙ a in absurd (d (some_same (sym z ∙ locked))))
      | inr q ↦ q.1
    ]

    fewer : vacant_of g n.reserved s.pages + 1 ≡ vacant_of g s.reserved s.pages
    fewer =
        let a : vacant_of g n.reserved s.pages + vacant g.limit (s.reserved f) (s.pages f) ≡ vacant_of g s.reserved
        s.pages + vacant g.limit (put2 s.reserved f i false f) (s.pages f)
        =
        total_change g.files f (λ k. vacant g.limit (s.reserved k) (s.pages k))
        (λ k. vacant g.limit (put2 s.reserved f i false k) (s.pages k)) in_files
        (λ k d. ap (λ (m : ℕ → Bool). vacant g.limit m (s.pages k))
        (put_other s.reserved f (put (s.reserved f) i false) k d)) in
        let z : vacant g.limit (put2 s.reserved f i false f) (s.pages f) + 1 ≡ vacant g.limit (s.reserved f) (s.pages f)
        =
        ap (λ (m : ℕ → Bool). vacant g.limit m (s.pages f) + 1)
        (put_same s.reserved f (put (s.reserved f) i false))
        ∙ vacant_drop g.limit (s.reserved f) (s.pages f) i in_limit marked bare in
        omega arith
