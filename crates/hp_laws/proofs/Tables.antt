-- What steps on mappings, sizes and translations do to what every row keeps.
use Rattle.std.proofs.Common.{◌≡◌, ◌≢◌, ℕ, ◌+◌, ◌-◌, ◌<◌, ◌≤◌, refl, ap, sym, ◌∙◌, subst, arith, inl, inr}
use Rattle.std.specs.Prelude.{Bool, true, false, max, Option, Some, None, IfSome, ◌==◌, ◌&&◌, List, [], ◌∷◌, if◌then◌else◌, nat_lt}
use Rattle.std.proofs.lemmas.Bool.Decides.{nat_tests}
use Rattle.hp_base.specs.Numbers.{put, put2}
use Rattle.hp_base.specs.Mappings.{covers, find, fits, is_clear, entered, in_mapping, without, IsSpread, is_there, without_index}
use Rattle.hp_base.specs.Mappings.{without_mapping}
use Rattle.hp_base.specs.declared.mapping.Mapping.{Mapping}
use Rattle.hp_base.proofs.Puts.{put_same, put_other, same_or_other, put_tells, put2_tells}
use Rattle.hp_base.proofs.Spaces.{fits_clear, entered_find, entered_spread, without_find, without_spread}
use Rattle.hp_machine.specs.State.{Geometry, State, slot_of}
use Rattle.hp_machine.specs.Views.{behind, ahead}
use Rattle.hp_machine.specs.declared.call.Call.{Call}
use Rattle.hp_laws.specs.Sweep.{fills, to_pass, passed}
use Rattle.hp_laws.proofs.Deciding.{some_same}
use Rattle.hp_laws.proofs.Standing.{HasSlot, HasLock, ClearedBelow, Stands}
use Rattle.hp_laws.proofs.Staying.{same_files, same_tables, stands_after}
use Rattle.hp_laws.proofs.Invariant.{AllWithin, Reached, Inv, goes, reserved_of, same_used, place_same, same_opens, seen, to, if_weaker}
use Rattle.hp_laws.proofs.Passing.{same_holder}

-- the mappings lie within their files, where one that does is entered
pub within_entered : (g : Geometry) (ms : List Mapping) (a : Mapping) → a.file < g.files → a.from + a.len ≤ g.limit → AllWithin g ms
    → AllWithin g (entered ms a)
within_entered g [] a l m h = (l, m, tt)
within_entered g (b ∷ ms) a l m h = here (nat_lt a.base b.base) (within_entered g ms a l m h.2)
  where
    here : (w : Bool) → AllWithin g (entered ms a) → AllWithin g (if w then a ∷ b ∷ ms else b ∷ entered ms a)
    here true rest = (l, m, (h.0, h.1, h.2))
    here false rest = (h.0, h.1, rest)

-- and where one is taken away
pub within_without : (g : Geometry) (ms : List Mapping) (base : ℕ) → AllWithin g ms → AllWithin g (without ms base)
within_without g [] base h = tt
within_without g (a ∷ ms) base h = here (within_without g ms base h.2) (a.base == base)
  where
    here : AllWithin g (without ms base) → (b : Bool) → AllWithin g (if b then ms else a ∷ without ms base)
    here rest true = h.2
    here rest false = (h.0, h.1, rest)

-- what a mapping stands for lies within its file
pub find_within : (g : Geometry) (ms : List Mapping) (v : ℕ) (k : ℕ × ℕ) → AllWithin g ms → find ms v ≡ Some k
    → (k.0 < g.files) × (k.1 < g.limit)
find_within g [] v k h e = (let d : ◌≡◌ {A = Option (ℕ × ℕ)} None (Some k) = e in absurd (cc))
find_within g (a ∷ ms) v k h e = here (covers a v) refl (find_within g ms v k h.2) e
  where
    low : covers a v ≡ true → a.from + (v - a.base) < g.limit
    low d =
        let x : v < a.base + a.len = grind (arith, nat_tests) in
        let y : a.base ≤ v = grind (arith, nat_tests) in
        let z = h.1 in
        omega arith

    here : (b : Bool) → covers a v ≡ b → (find ms v ≡ Some k → (k.0 < g.files) × (k.1 < g.limit))
        → (if b then Some (a.file, a.from + (v - a.base)) else find ms v) ≡ Some k → (k.0 < g.files) × (k.1 < g.limit)
    here true d rest p = subst (λ (m : ℕ × ℕ). (m.0 < g.files) × (m.1 < g.limit)) (some_same p) (h.0, low d)
    here false d rest p = rest p

-- what is below a size, or ahead of a truncation, is so where sizes have grown
pub reached_more : (size more : ℕ → ℕ) (a : ℕ → ℕ → ℕ → Bool) (f i : ℕ) → size f ≤ more f → Reached size a f i → Reached more a f i
reached_more size more a f i l r = elim r [ inl d ↦ inl (omega arith) | inr d ↦ inr d ]

-- a table entry is written
pub enters_table : (g : Geometry) (s : State) (t : ℕ) (b c : Option Call) (v f i x : ℕ) → Inv g s → 1 ≤ t → t < g.tasks + 1
    → s.calls t ≡ b → seen c ≡ seen b
    → find (s.mappings t) v ≡ Some (f, i) → s.pages f i ≡ Some x → HasSlot g s t f i
    → IfSome (fills c) (λ k. Reached s.size (λ u. to_pass (s.calls u)) k.0 k.1)
    → Stands g (record s { pool = record s.pool { entries = put2 s.entries t v (Some x) } }) t c
    → Inv g (to (record s { pool = record s.pool { entries = put2 s.entries t v (Some x) } }) t c)
enters_table g s t b c v f i x h one l e same there page held fill own =
    goes g s n t b c h l e (ap (λ p. p.4) same) (ap (λ p. p.5) same) (record {
      layout = h.layout;
      inside = h.inside;
      reach = h.reach;
      fill = fill;
      sizes = h.sizes;
      spares = h.spares;
      holders = h.holders;
      enough = h.enough;
      count = (let y : behind c ≡ behind b = ap (λ p. p.0) same in let z : ahead c ≡ ahead b = ap (λ p. p.1) same in omega arith);
      used = same_used s.used (reserved_of g s.reserved) b c (ap (λ p. p.6) same);
      quota = h.quota;
      place = place_same g s t b c h e (ap (λ p. p.2) same);
      entries = record {
        agree = λ w z y a. elim (put2_tells s.entries t v (Some x) w z) [
          | inl q ↦ ((f, i), ap (λ (m : ℕ). find (s.mappings m) z) q.0 ∙ (ap (find (s.mappings t)) q.1 ∙ there), page ∙ (sym q.2 ∙ a))
          | inr q ↦ h.entries.agree w z y (sym q.1 ∙ a)
        ];
        owners = λ w z y a. elim (put2_tells s.entries t v (Some x) w z) [
          | inl q ↦ (let d : w ≡ t = q.0 in (omega arith, omega arith))
          | inr q ↦ h.entries.owners w z y (sym q.1 ∙ a)
        ];
      };
      sweep = h.sweep;
      changes = same_opens s.pending b c (ap (λ p. p.3) same);
      others = λ u d. stands_after g s n u (s.calls u) (record {
        slot = λ k a. a;
        files = same_files;
        tables = record {
          translated = λ k j a w z m p q. elim (put2_tells s.entries t v (Some x) w z) [
            | inl o ↦ absurd (d (slot_there u (k, j)
                (sym q ∙ (ap (λ (r : ℕ). find (s.mappings r) z) o.0 ∙ (ap (find (s.mappings t)) o.1 ∙ there))) a))
            | inr o ↦ (m, sym o.1 ∙ p, q)
          ];
          mappings = refl;
          ready = refl;
          entries = λ w m a. (m, sym (ap (λ (r : ℕ → Option ℕ). r w) (put_other s.entries t (put (s.entries t) v (Some x)) u d)) ∙ a);
        };
      }) (h.stands u);
      own = own;
    })
  where
    n : State
    n = record s { pool = record s.pool { entries = put2 s.entries t v (Some x) } }

    slot_there : (u : ℕ) (k : ℕ × ℕ) → ◌≡◌ {A = Option (ℕ × ℕ)} (Some k) (Some (f, i))
        → s.slots (slot_of g k.0 k.1) ≡ Some u → u ≡ t
    slot_there u k d a = some_same (sym a ∙ (ap (λ (m : ℕ × ℕ). s.slots (slot_of g m.0 m.1)) (some_same d) ∙ held))

-- room is ready for a mapping
pub prepares : (g : Geometry) (s : State) (t : ℕ) (b c : Option Call) → Inv g s → t < g.tasks + 1 → s.calls t ≡ b → seen c ≡ seen b
    → IfSome (fills c) (λ k. Reached s.size (λ u. to_pass (s.calls u)) k.0 k.1)
    → Stands g (record s { pool = record s.pool { ready = put s.ready t true } }) t c
    → Inv g (to (record s { pool = record s.pool { ready = put s.ready t true } }) t c)
prepares g s t b c h l e same fill own =
    goes g s (record s { pool = record s.pool { ready = put s.ready t true } }) t b c h l e (ap (λ p. p.4) same)
    (ap (λ p. p.5) same) (record {
      layout = h.layout;
      entries = h.entries;
      inside = h.inside;
      sweep = h.sweep;
      reach = h.reach;
      fill = fill;
      sizes = h.sizes;
      spares = h.spares;
      holders = h.holders;
      enough = h.enough;
      count = (let y : behind c ≡ behind b = ap (λ p. p.0) same in let z : ahead c ≡ ahead b = ap (λ p. p.1) same in omega arith);
      used = same_used s.used (reserved_of g s.reserved) b c (ap (λ p. p.6) same);
      quota = h.quota;
      place = place_same g s t b c h e (ap (λ p. p.2) same);
      changes = same_opens s.pending b c (ap (λ p. p.3) same);
      others =
          λ u d. stands_after g s (record s { pool = record s.pool { ready = put s.ready t true } }) u (s.calls u)
          (record {
            slot = λ k a. a;
            files = same_files;
            tables = record {
              translated = λ k j a w v y p q. (y, p, q);
              mappings = refl;
              ready = put_other s.ready t true u d;
              entries = λ v y p. (y, p);
            };
          }) (h.stands u);
      own = own;
    })

-- a file that nobody cuts grows, or stays
pub grown_size : (size : ℕ → ℕ) (f new k : ℕ) → size f ≤ new → size k ≤ put size f new k
grown_size size f new k l = elim (put_tells size f new k) [
  | inl q ↦ (let y : size k ≡ size f = ap size q.0 in let z = q.1 in omega arith)
  | inr q ↦ (let z = q.1 in omega arith)
]

-- a file whose lock another task holds keeps its size where this one's changes
other_size : (s : State) (t u f k new : ℕ) → u ≢ t → HasLock s t f → s.locks k ≡ Some u → put s.size f new k ≡ s.size k
other_size s t u f k new d held y = elim (put_tells s.size f new k) [
  | inl q ↦ absurd (d (same_holder u t (s.locks f) (ap s.locks (sym q.0) ∙ y) held))
  | inr q ↦ q.1
]

-- sizes stay within the limit, where one is set within it
low_size : (size : ℕ → ℕ) (f new limit k : ℕ) → new ≤ limit → size k ≤ limit → put size f new k ≤ limit
low_size size f new limit k a b = grind (arith, put_tells)

-- a file grows
pub extends : (g : Geometry) (s : State) (t : ℕ) (b c : Option Call) (f new : ℕ) → Inv g s → t < g.tasks + 1 → s.calls t ≡ b
    → seen c ≡ seen b
    → HasLock s t f → s.size f ≤ new → new ≤ g.limit → ((u j : ℕ) → passed (s.calls u) f j ≡ true → ⊥)
    → IfSome (fills c) (λ k. Reached s.size (λ u. to_pass (s.calls u)) k.0 k.1)
    → Stands g (record s { pool = record s.pool { size = put s.size f new } }) t c
    → Inv g (to (record s { pool = record s.pool { size = put s.size f new } }) t c)
extends g s t b c f new h l e same held grows low nobody fill own =
    goes g s n t b c h l e (ap (λ p. p.4) same) (ap (λ p. p.5) same) (record {
      layout = h.layout;
      entries = h.entries;
      inside = h.inside;
      spares = h.spares;
      holders = h.holders;
      enough = h.enough;
      count = (let y : behind c ≡ behind b = ap (λ p. p.0) same in let z : ahead c ≡ ahead b = ap (λ p. p.1) same in omega arith);
      used = same_used s.used (reserved_of g s.reserved) b c (ap (λ p. p.6) same);
      quota = h.quota;
      place = place_same g s t b c h e (ap (λ p. p.2) same);
      sweep = record {
        past = λ u k j d. let o = h.sweep.past u k j d in (
          o.0,
          elim (put_tells s.size f new k) [
            | inl q ↦ absurd (nobody u j (ap (λ (m : ℕ). passed (s.calls u) m j) (sym q.0) ∙ d))
            | inr q ↦ (let z : s.size k ≤ j = o.1 in let y : n.size k ≡ s.size k = q.1 in omega arith)
          ],
        );
        gone = h.sweep.gone;
      };
      reach =
          λ w. if_weaker (fills (s.calls w))
          (λ k d r. reached_more s.size n.size (λ u. to_pass (s.calls u)) k.0 k.1 (grown_size s.size f new k.0 grows) r) (h.reach w);
      fill =
          if_weaker (fills c) (λ k d r. reached_more s.size n.size (λ u. to_pass (s.calls u)) k.0 k.1
          (grown_size s.size f new k.0 grows) r) fill;
      sizes = λ k. low_size s.size f new g.limit k low (h.sizes k);
      changes = same_opens s.pending b c (ap (λ p. p.3) same);
      others =
          λ u d. stands_after g s n u (s.calls u)
          (record {
            slot = λ k a. a;
            files = record {
              page = λ k j a. refl;
              mark = λ k j a w r. r;
              unmark = λ k j a b r. r;
              lock = λ k a. (a, other_size s t u f k new d held a, λ j r. r);
            };
            tables = same_tables;
          }) (h.stands u);
      own = own;
    })
  where
    n : State
    n = record s { pool = record s.pool { size = put s.size f new } }

-- the state where a mapping is entered and its file has grown
abbrev pub entering : State → (task : ℕ) → Mapping → State
entering s t a = record s {
  pool = record s.pool {
    mappings = put s.mappings t (entered (s.mappings t) a);
    ready = put s.ready t false;
    size = put s.size a.file (max (s.size a.file) (a.from + a.len));
  };
}

-- what was found is found where a mapping is entered that fits
pub still_found : (s : State) (t : ℕ) (a : Mapping) (space : ℕ) → fits space (s.mappings t) a.base a.len ≡ true
    → (w v : ℕ) (k : ℕ × ℕ) → find (s.mappings w) v ≡ Some k → find (put s.mappings t (entered (s.mappings t) a) w) v ≡ Some k
still_found s t a space clear w v k d = elim (same_or_other w t) [
  | inl q ↦ ap (λ (m : List Mapping). find m v)
      (ap (put s.mappings t (entered (s.mappings t) a)) q ∙ put_same s.mappings t (entered (s.mappings t) a))
      ∙ entered_find (s.mappings t) a v k (fits_clear space a.base a.len (s.mappings t) clear).1
      (ap (λ (m : ℕ). find (s.mappings m) v) (sym q) ∙ d)
  | inr q ↦ ap (λ (m : List Mapping). find m v) (put_other s.mappings t (entered (s.mappings t) a) w q) ∙ d
]

-- a mapping is entered, and its file grows
pub enters_area : (g : Geometry) (s : State) (t : ℕ) (b c : Option Call) (a : Mapping) → Inv g s → t < g.tasks + 1 → s.calls t ≡ b
    → seen c ≡ seen b
    → a.file < g.files → 1 ≤ a.len → a.from + a.len ≤ g.limit → fits g.space (s.mappings t) a.base a.len ≡ true → HasLock s t a.file
    → ((u j : ℕ) → passed (s.calls u) a.file j ≡ true → ⊥)
    → IfSome (fills c) (λ k. Reached s.size (λ u. to_pass (s.calls u)) k.0 k.1)
    → Stands g (entering s t a) t c → Inv g (to (entering s t a) t c)
enters_area g s t b c a h l e same in_files some in_limit clear held nobody fill own =
    goes g s n t b c h l e (ap (λ p. p.4) same) (ap (λ p. p.5) same) (record {
      layout = record {
        geometry = h.geometry;
        ranges = λ w. elim (same_or_other w t) [
          | inl q ↦ subst (AllWithin g) (sym (ap n.mappings q ∙ put_same s.mappings t (entered (s.mappings t) a)))
              (within_entered g (s.mappings t) a in_files in_limit (h.ranges t))
          | inr q ↦ subst (AllWithin g) (sym (put_other s.mappings t (entered (s.mappings t) a) w q)) (h.ranges w)
        ];
        spread = λ w. elim (same_or_other w t) [
          | inl q ↦ subst (IsSpread g.space 0) (sym (ap n.mappings q ∙ put_same s.mappings t (entered (s.mappings t) a)))
              (entered_spread g.space 0 (s.mappings t) a (h.spread t) apart.1 (omega arith) some apart.0)
          | inr q ↦ subst (IsSpread g.space 0) (sym (put_other s.mappings t (entered (s.mappings t) a) w q)) (h.spread w)
        ];
      };
      inside = h.inside;
      spares = h.spares;
      holders = h.holders;
      enough = h.enough;
      count = (let y : behind c ≡ behind b = ap (λ p. p.0) same in let z : ahead c ≡ ahead b = ap (λ p. p.1) same in omega arith);
      used = same_used s.used (reserved_of g s.reserved) b c (ap (λ p. p.6) same);
      quota = h.quota;
      place = place_same g s t b c h e (ap (λ p. p.2) same);
      entries = record { owners = h.entries.owners; agree = λ w v x d. let o = h.entries.agree w v x d in (o.0, kept w v o.0 o.1, o.2) };
      sweep = record {
        past = λ u f j d. let o = h.sweep.past u f j d in (
          o.0,
          elim (put_tells s.size a.file (max (s.size a.file) (a.from + a.len)) f) [
            | inl q ↦ absurd (nobody u j (ap (λ (m : ℕ). passed (s.calls u) m j) (sym q.0) ∙ d))
            | inr q ↦ (let z : s.size f ≤ j = o.1 in let y : n.size f ≡ s.size f = q.1 in omega arith)
          ],
        );
        gone = h.sweep.gone;
      };
      reach =
          λ w. if_weaker (fills (s.calls w))
          (λ k d r. reached_more s.size n.size (λ u. to_pass (s.calls u)) k.0 k.1 (larger k.0) r) (h.reach w);
      fill = if_weaker (fills c) (λ k d r. reached_more s.size n.size (λ u. to_pass (s.calls u)) k.0 k.1 (larger k.0) r) fill;
      sizes =
          λ k. low_size s.size a.file (max (s.size a.file) (a.from + a.len)) g.limit k
          (let z = h.sizes a.file in omega arith) (h.sizes k);
      changes = same_opens s.pending b c (ap (λ p. p.3) same);
      others = λ u d. stands_after g s n u (s.calls u) (record {
        slot = λ k x. x;
        files = record {
          page = λ k j x. refl;
          mark = λ k j x w r. r;
          unmark = λ k j x b r. r;
          lock = λ f y. (y, other_size s t u a.file f (max (s.size a.file) (a.from + a.len)) d held y, λ j r. r);
        };
        tables = record {
          translated = λ k j x w v z p q. let o = h.entries.agree w v z p in (z, p, o.1 ∙ (sym (kept w v o.0 o.1) ∙ q));
          mappings = put_other s.mappings t (entered (s.mappings t) a) u d;
          ready = put_other s.ready t false u d;
          entries = λ v y p. (y, p);
        };
      }) (h.stands u);
      own = own;
    })
  where
    n : State
    n = entering s t a

    apart : (a.base + a.len ≤ g.space) × (is_clear (s.mappings t) a.base a.len ≡ true)
    apart = fits_clear g.space a.base a.len (s.mappings t) clear

    kept : (w v : ℕ) (k : ℕ × ℕ) → find (s.mappings w) v ≡ Some k → find (put s.mappings t (entered (s.mappings t) a) w) v ≡ Some k
    kept = still_found s t a g.space clear

    larger : (f : ℕ) → s.size f ≤ put s.size a.file (max (s.size a.file) (a.from + a.len)) f
    larger f = grown_size s.size a.file (max (s.size a.file) (a.from + a.len)) f (omega arith)

-- some entries go
pub entries_go : (g : Geometry) (s : State) (table : ℕ → ℕ → Option ℕ) → Inv g s
    → ((w v x : ℕ) → table w v ≡ Some x → s.entries w v ≡ Some x) → Inv g (record s { pool = record s.pool { entries = table } })
entries_go g s table h kept = record {
  layout = h.layout;
  count = h.count;
  used = h.used;
  quota = h.quota;
  enough = h.enough;
  place = h.place;
  inside = h.inside;
  reach = h.reach;
  sizes = h.sizes;
  changes = h.changes;
  spares = h.spares;
  holders = h.holders;
  entries = record { agree = λ w v x e. h.entries.agree w v x (kept w v x e); owners = λ w v x e. h.entries.owners w v x (kept w v x e) };
  sweep = h.sweep;
  stands =
      λ u. stands_after g s (record s { pool = record s.pool { entries = table } }) u (s.calls u)
      (record {
        slot = λ k a. a;
        files = same_files;
        tables = record {
          translated = λ k j a w v x p q. (x, kept w v x p, q);
          mappings = refl;
          ready = refl;
          entries = λ v x p. (x, kept u v x p);
        };
      }) (h.stands u);
}

-- what is there after a filter was there before, and passed it
cond_kept : (b : Bool) (o : Option ℕ) (x : ℕ) → (if b then None else o) ≡ Some x → (b ≡ false) × (o ≡ Some x)
cond_kept true o x e = (let d : ◌≡◌ {A = Option ℕ} None (Some x) = e in absurd (cc))
cond_kept false o x e = (refl, e)

-- an entry that stands after one task's entries were filtered stood before
filtered : (table : ℕ → ℕ → Option ℕ) (k : ℕ) (out : ℕ → Bool) (row : ℕ → Option ℕ) (w v x : ℕ)
    → ((z : ℕ) → row z ≡ (if out z then None else table k z)) → put table k row w v ≡ Some x
    → (table w v ≡ Some x) × (w ≡ k → out v ≡ false)
filtered table k out row w v x each e = elim (same_or_other w k) [
  | inl d ↦ (let o = cond_kept (out v) (table k v) x
      (sym (each v) ∙ (sym (ap (λ (m : ℕ → Option ℕ). m v) (ap (put table k row) d ∙ put_same table k row)) ∙ e)) in
      (ap (λ (m : ℕ). table m v) d ∙ o.1, λ _. o.0))
  | inr d ↦ (sym (ap (λ (m : ℕ → Option ℕ). m v) (put_other table k row w d)) ∙ e, λ q. absurd (d q))
]

-- clearing an index, entry by entry
index_each : (ms : List Mapping) (row : ℕ → Option ℕ) (f i z : ℕ)
    → without_index ms row f i z ≡ (if is_there (find ms z) f i then None else row z)
unfolding without_index
index_each ms row f i z = refl

-- clearing a mapping, entry by entry
mapping_each : (ms : List Mapping) (row : ℕ → Option ℕ) (base z : ℕ)
    → without_mapping ms row base z ≡ (if in_mapping ms base z then None else row z)
unfolding without_mapping
mapping_each ms row base z = refl

-- an entry that is left after one task's entries of an index are cleared was there, and is none of these
pub clear_kept : (s : State) (k f i w v x : ℕ) → put s.entries k (without_index (s.mappings k) (s.entries k) f i) w v ≡ Some x
    → (s.entries w v ≡ Some x) × (w ≡ k → is_there (find (s.mappings k) v) f i ≡ false)
clear_kept s k f i w v x e =
    filtered s.entries k (λ z. is_there (find (s.mappings k) z) f i) (without_index (s.mappings k) (s.entries k) f i) w v x
    (index_each (s.mappings k) (s.entries k) f i) e

-- what is found is there
there_same : (f i : ℕ) (o : Option (ℕ × ℕ)) → o ≡ Some (f, i) → is_there o f i ≡ true
there_same f i o e = ap (λ (q : Option (ℕ × ℕ)). is_there q f i) e ∙ both f i
  where
    both : (f i : ℕ) → ((f == f) && (i == i)) ≡ true
    both f i = grind (arith, nat_tests)

-- one task's entries of an index are cleared
pub clears : (g : Geometry) (s : State) (k f i : ℕ) → Inv g s
    → Inv g (record s { pool = record s.pool { entries = put s.entries k (without_index (s.mappings k) (s.entries k) f i) } })
clears g s k f i h =
    entries_go g s (put s.entries k (without_index (s.mappings k) (s.entries k) f i)) h (λ w v x e. (clear_kept s k f i w v x e).0)

-- after task k's entries are cleared, those of all tasks up to k are
pub cleared_next : (s : State) (k f i : ℕ) → ClearedBelow s k f i
    → ClearedBelow (record s {
      pool = record s.pool {
        entries = put s.entries k
            (without_index (s.mappings k) (s.entries k) f i);
      };
    }) (k + 1) f i
cleared_next s k f i h w v x z l p q = elim (same_or_other w k) [
  | inl d ↦ (let a : is_there (find (s.mappings k) v) f i ≡ false = (clear_kept s k f i w v x p).1 d in
      let b : is_there (find (s.mappings k) v) f i ≡ true = there_same f i _ (ap (λ (m : ℕ). find (s.mappings m) v) (sym d) ∙ q) in
      absurd (cc))
  | inr d ↦ h w v x z (omega arith) (clear_kept s k f i w v x p).0 q
]

-- a mapping's entries are cleared
pub emptied : (s : State) (t base w v x : ℕ) → put s.entries t (without_mapping (s.mappings t) (s.entries t) base) w v ≡ Some x
    → (s.entries w v ≡ Some x) × (w ≡ t → in_mapping (s.mappings t) base v ≡ false)
emptied s t base w v x e =
    filtered s.entries t (λ z. in_mapping (s.mappings t) base z) (without_mapping (s.mappings t) (s.entries t) base) w v x
    (mapping_each (s.mappings t) (s.entries t) base) e

-- clearing a mapping's entries keeps the invariant
pub empties : (g : Geometry) (s : State) (t base : ℕ) → Inv g s
    → Inv g (record s { pool = record s.pool { entries = put s.entries t (without_mapping (s.mappings t) (s.entries t) base) } })
empties g s t base h =
    entries_go g s (put s.entries t (without_mapping (s.mappings t) (s.entries t) base)) h (λ w v x e. (emptied s t base w v x e).0)

-- what entries stand for stays where a mapping goes that has none
pub same_found : (s : State) (t base : ℕ) → ((v x : ℕ) → s.entries t v ≡ Some x → in_mapping (s.mappings t) base v ≡ false)
    → (w v x : ℕ) → s.entries w v ≡ Some x → find (put s.mappings t (without (s.mappings t) base) w) v ≡ find (s.mappings w) v
same_found s t base clear w v x a = elim (same_or_other w t) [
  | inl q ↦ ap (λ (m : List Mapping). find m v)
      (ap (put s.mappings t (without (s.mappings t) base)) q ∙ put_same s.mappings t (without (s.mappings t) base))
      ∙ (without_find (s.mappings t) base v (clear v x (ap (λ (m : ℕ). s.entries m v) (sym q) ∙ a))
      ∙ ap (λ (m : ℕ). find (s.mappings m) v) (sym q))
  | inr q ↦ ap (λ (m : List Mapping). find m v) (put_other s.mappings t (without (s.mappings t) base) w q)
]

-- a mapping without entries goes
pub drops : (g : Geometry) (s : State) (t : ℕ) (b c : Option Call) (base : ℕ) → Inv g s → t < g.tasks + 1 → s.calls t ≡ b → seen c ≡ seen b
    → ((v x : ℕ) → s.entries t v ≡ Some x → in_mapping (s.mappings t) base v ≡ false)
    → IfSome (fills c) (λ k. Reached s.size (λ u. to_pass (s.calls u)) k.0 k.1)
    → Stands g (record s { pool = record s.pool { mappings = put s.mappings t (without (s.mappings t) base) } }) t c
    → Inv g (to (record s { pool = record s.pool { mappings = put s.mappings t (without (s.mappings t) base) } }) t c)
drops g s t b c base h l e same clear fill own = goes g s n t b c h l e (ap (λ p. p.4) same) (ap (λ p. p.5) same) (record {
  layout = record {
    geometry = h.geometry;
    ranges = λ w. elim (same_or_other w t) [
      | inl q ↦ subst (AllWithin g) (sym (ap n.mappings q ∙ put_same s.mappings t (without (s.mappings t) base)))
          (within_without g (s.mappings t) base (h.ranges t))
      | inr q ↦ subst (AllWithin g) (sym (put_other s.mappings t (without (s.mappings t) base) w q)) (h.ranges w)
    ];
    spread = λ w. elim (same_or_other w t) [
      | inl q ↦ subst (IsSpread g.space 0) (sym (ap n.mappings q ∙ put_same s.mappings t (without (s.mappings t) base)))
          (without_spread g.space 0 (s.mappings t) base (h.spread t))
      | inr q ↦ subst (IsSpread g.space 0) (sym (put_other s.mappings t (without (s.mappings t) base) w q)) (h.spread w)
    ];
  };
  inside = h.inside;
  reach = h.reach;
  fill = fill;
  sizes = h.sizes;
  spares = h.spares;
  holders = h.holders;
  enough = h.enough;
  count = (let y : behind c ≡ behind b = ap (λ p. p.0) same in let z : ahead c ≡ ahead b = ap (λ p. p.1) same in omega arith);
  used = same_used s.used (reserved_of g s.reserved) b c (ap (λ p. p.6) same);
  quota = h.quota;
  place = place_same g s t b c h e (ap (λ p. p.2) same);
  entries = record { owners = h.entries.owners; agree = λ w v x d. let o = h.entries.agree w v x d in (o.0, same_find w v x d ∙ o.1, o.2) };
  sweep = h.sweep;
  changes = same_opens s.pending b c (ap (λ p. p.3) same);
  others = λ u d. stands_after g s n u (s.calls u) (record {
    slot = λ k a. a;
    files = same_files;
    tables = record {
      translated = λ k j a w v z p q. (z, p, sym (same_find w v z p) ∙ q);
      mappings = put_other s.mappings t (without (s.mappings t) base) u d;
      ready = refl;
      entries = λ v y p. (y, p);
    };
  }) (h.stands u);
  own = own;
})
  where
    n : State
    n = record s { pool = record s.pool { mappings = put s.mappings t (without (s.mappings t) base) } }

    same_find : (w v x : ℕ) → s.entries w v ≡ Some x → find (put s.mappings t (without (s.mappings t) base) w) v ≡ find (s.mappings w) v
    same_find = same_found s t base clear
