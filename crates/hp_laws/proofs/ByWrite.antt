-- Laws that go by what is written, for any operation whose rows did such things.
use Rattle.std.proofs.Common.{◌≡◌, ◌≢◌, ℕ, ◌+◌, ◌<◌, ◌≤◌, refl, ap, sym, ◌∙◌, arith, inl, inr, ◌⊎◌}
use Rattle.std.specs.Prelude.{Bool, true, false, Option, Some, None, max, nat_lt}
use Rattle.hp_base.specs.Numbers.{put, put2}
use Rattle.hp_base.specs.Indices.{cut_tail}
use Rattle.hp_base.specs.Mappings.{entered, without}
use Rattle.hp_base.proofs.Sets.{cut_below}
use Rattle.hp_base.proofs.Puts.{put_same, put_other, put_tells, put2_tells, same_or_other}
use Rattle.hp_frames.specs.Bank.{is_retired}
use Rattle.hp_frames.specs.declared.frame.FrameState.{FrameState}
use Rattle.hp_frames.specs.declared.frame.FrameState.TheVariants as state
use Rattle.hp_machine.specs.State.{Pool, State, pool_of, with_pool}
use Rattle.hp_machine.specs.Parts.{frame_after}
use Rattle.hp_machine.specs.Views.{hand}
use Rattle.hp_machine.specs.declared.touch.Access.{Access}
use Rattle.hp_machine.specs.declared.touch.Access.TheVariants.{Load, Store}
use Rattle.hp_machine.specs.declared.outcome.Outcome.{Outcome}
use Rattle.hp_machine.specs.declared.call.Call.{Call}
use Rattle.hp_laws.specs.Protocol.{KeepsItsFrames}
use Rattle.hp_laws.specs.Bounds.{sizes}
use Rattle.hp_laws.proofs.Deletes.{deletes}
use Rattle.hp_laws.proofs.Deciding.{lt, le, clash}
use Rattle.hp_laws.proofs.Invariant.{Inv}
use Rattle.hp_laws.proofs.Effects.{grown_keeps}
use Rattle.hp_laws.proofs.Tables.{grown_size}
use Rattle.hp_laws.proofs.Shared.{waits}
use Rattle.hp_laws.proofs.Writes.{Write, written, TakesReserved, TakesFree, Places, Restores, Enters, Accesses, Grows}
use Rattle.hp_laws.proofs.Writes.{Commits, Evicts, Deletes, FreesUnreserved, Frees, Cuts, CutsTail, EntersArea, Drops}
use Rattle.hp_laws.proofs.Fits.{Fit, keeps, reads}
use Rattle.hp_laws.proofs.Did.{Stepped, Wrote, Over, Waits}

-- ---- the invariant
pub keeps_inv : (s : State) (t : ℕ) (c : Call) (o : Outcome) (new : Pool) (next : Option Call) → Inv s.geometry s → 1 ≤ t
    → t < s.geometry.tasks + 1 → s.calls t ≡ Some c → Stepped s t c o new next
    → Inv s.geometry (record (with_pool s new) { calls = put s.calls t next })
keeps_inv s t c o new next h one l e (Wrote w d near y) = keeps s t (Some c) (Some d) w h l e one y
keeps_inv s t c o new next h one l e (Over w a near y) = keeps s t (Some c) None w h l e one y
keeps_inv s t c o new next h one l e (Waits u y) = waits s t (Some c) h l e

-- ---- no call touches a retired frame, or brings one in (Numbered)

-- where one frame that isn't retired goes to another place
pub put_keeps : (frame : ℕ → FrameState) (x : ℕ) (v : FrameState) → is_retired (frame x) ≡ false → is_retired v ≡ false
    → (y : ℕ) → is_retired (put frame x v y) ≡ is_retired (frame y)
put_keeps frame x v was is y = elim (same_or_other y x) [
  | inl e ↦ ap (λ (z : ℕ). is_retired (put frame x v z)) e
      ∙ (ap is_retired (put_same frame x v) ∙ (is ∙ (sym was ∙ ap (λ (z : ℕ). is_retired (frame z)) (sym e))))
  | inr d ↦ ap is_retired (put_other frame x v y d)
]

-- nor does a page that is read or written
read_keeps : (access : Access) (frame : ℕ → FrameState) (x word : ℕ) → frame x ≡ state.Placed word
    → (y : ℕ) → is_retired (frame_after access frame x y) ≡ is_retired (frame y)
read_keeps Load frame x word is y = refl
read_keeps (Store v) frame x word is y = put_keeps frame x (state.Placed v) (ap is_retired is) refl y

keeps_frames : (s : State) (t : ℕ) (b c : Option Call) (w : Write) → Inv s.geometry s → s.calls t ≡ b → Fit s t b c w
    → KeepsItsFrames (pool_of s) (written (pool_of s) t w)
keeps_frames s t b c (TakesReserved x) h e y = (refl, put_keeps s.frame x state.Hand (ap is_retired y.free) refl)
keeps_frames s t b c (TakesFree x) h e y = (refl, put_keeps s.frame x state.Hand (ap is_retired y.free) refl)
keeps_frames s t b c (Places f i x) h e y =
    (refl, put_keeps s.frame x (state.Placed 0) (ap is_retired (h.place.hands t x (ap hand e ∙ y.some))) refl)
keeps_frames s t b c (Restores x) h e y =
    (refl, put_keeps s.frame x state.Free (ap is_retired (h.place.hands t x (ap hand e ∙ y.some))) refl)
keeps_frames s t b c (Enters v x access) h e y = (refl, read_keeps access s.frame x y.word y.placed)
keeps_frames s t b c (Accesses x access) h e y = (refl, read_keeps access s.frame x y.word y.placed)
keeps_frames s t b c (Evicts f i x) h e y = (refl, put_keeps s.frame x state.Hand (ap is_retired (h.place.pages f i x y.page).1) refl)
keeps_frames s t b c (FreesUnreserved x) h e y =
    (refl, put_keeps s.frame x state.Free (ap is_retired (h.place.hands t x (ap hand e ∙ y.some))) refl)
keeps_frames s t b c (Frees x) h e y = (refl, put_keeps s.frame x state.Free (ap is_retired (h.place.hands t x (ap hand e ∙ y.some))) refl)
keeps_frames s t b c w h e y = (refl, λ x. refl)

pub frames_stay : (s : State) (t : ℕ) (c : Call) (o : Outcome) (new : Pool) (next : Option Call) → Inv s.geometry s → s.calls t ≡ Some c
    → Stepped s t c o new next → KeepsItsFrames (pool_of s) new
frames_stay s t c o new next h e (Wrote w d near y) = keeps_frames s t (Some c) (Some d) w h e y
frames_stay s t c o new next h e (Over w a near y) = keeps_frames s t (Some c) None w h e y
frames_stay s t c o new next h e (Waits u y) = (refl, λ x. refl)

-- ---- what each step does to mappings, reserved indices and sizes

-- what a write does to others' mappings, to reserved indices and to sizes
abbrev pub Changes : State → (task : ℕ) → Option Call → Pool → Type 0
Changes s t b new = record {
  mappings : (u : ℕ) → u ≢ t → new.mappings u ≡ s.mappings u;
  keeps : (f i : ℕ) → s.reserved f i ≡ true → (new.reserved f i ≡ true) ⊎ (deletes b f i ≡ true);
  grows : (f : ℕ) → (s.size f ≤ new.size f) ⊎ (sizes b ≡ Some f);
}

-- an index that is no longer reserved after a tail went was in it
cut_tells : (r : ℕ → ℕ → Bool) (f new k j : ℕ) → r k j ≡ true → (put r f (cut_tail (r f) new) k j ≡ true) ⊎ ((k ≡ f) × (new ≤ j))
cut_tells r f new k j a = elim (same_or_other k f) [
  | inl d ↦ side d (nat_lt j new) refl
  | inr d ↦ inl (ap (λ (m : ℕ → Bool). m j) (put_other r f (cut_tail (r f) new) k d) ∙ a)
]
  where
    side : k ≡ f → (b : Bool) → nat_lt j new ≡ b → (put r f (cut_tail (r f) new) k j ≡ true) ⊎ ((k ≡ f) × (new ≤ j))
    side d true z =
        inl (ap (λ (m : ℕ → Bool). m j) (ap (put r f (cut_tail (r f) new)) d ∙ put_same r f (cut_tail (r f) new))
        ∙ cut_below (r f) new j (lt j new z) (ap (λ (m : ℕ). r m j) (sym d) ∙ a))
    side d false z = inr (d, le j new z)

pub changes : (s : State) (t : ℕ) (b c : Option Call) (w : Write) → Fit s t b c w → Changes s t b (written (pool_of s) t w)
changes s t b c (Commits f change) y = record {
  mappings = λ u d. refl;
  keeps = λ k i a. inl (grown_keeps s.reserved f change.from change.to k i a);
  grows = λ k. inl (omega arith);
}
changes s t b c (Grows f end) y = record {
  mappings = λ u d. refl;
  keeps = λ k i a. inl a;
  grows = λ k. inl (grown_size s.size f (max (s.size f) end) k (omega arith));
}
changes s t b c (Deletes f i) y = record {
  mappings = λ u d. refl;
  keeps = λ k j a. elim (put2_tells s.reserved f i false k j) [
    | inl q ↦ inr (ap (deletes b k) q.1 ∙ (ap (λ (m : ℕ). deletes b m i) q.0 ∙ y.deletes))
    | inr q ↦ inl (q.1 ∙ a)
  ];
  grows = λ k. inl (omega arith);
}
changes s t b c (Cuts f new) y = record {
  mappings = λ u d. refl;
  keeps = λ k i a. inl a;
  grows = λ k. elim (put_tells s.size f new k) [
    | inl q ↦ inr (y.sizes ∙ ap (λ (m : ℕ). Some m) (sym q.0))
    | inr q ↦ inl (let z = q.1 in omega arith)
  ];
}
changes s t b c (CutsTail f new) y = record {
  mappings = λ u d. refl;
  keeps = λ k j a. elim (cut_tells s.reserved f new k j a) [
    | inl q ↦ inl q
    | inr q ↦ inr (ap (λ (m : ℕ). deletes b m j) q.0 ∙ y.deletes j q.1)
  ];
  grows = λ k. inl (omega arith);
}
changes s t b c (EntersArea a) y = record {
  mappings = λ u d. put_other s.mappings t (entered (s.mappings t) a) u d;
  keeps = λ k i z. inl z;
  grows = λ k. inl (grown_size s.size a.file (max (s.size a.file) (a.from + a.len)) k (omega arith));
}
changes s t b c (Drops base) y = record {
  mappings = λ u d. put_other s.mappings t (without (s.mappings t) base) u d;
  keeps = λ k i a. inl a;
  grows = λ k. inl (omega arith);
}
changes s t b c w y = record { mappings = λ u d. refl; keeps = λ k i a. inl a; grows = λ k. inl (omega arith) }

-- ---- what is done to pages and their words (Paging)

-- each page was there, with its word
abbrev pub Shrinks : State → Pool → Type 0
Shrinks s new =
    (f i x w : ℕ) → new.pages f i ≡ Some x → new.frame x ≡ state.Placed w → (s.pages f i ≡ Some x) × (s.frame x ≡ state.Placed w)

-- or one page more, with word 0
abbrev pub PlacesOne : State → Pool → Type 0
PlacesOne s new =
    (f i x : ℕ) × (new.pages ≡ put2 s.pages f i (Some x)) × (new.frame ≡ put s.frame x (state.Placed 0))
    × (s.pages f i ≡ None) × (s.frame x ≡ state.Hand)

-- one of the two: all that a row does to the pages and their words, but a touch's that reads or writes one
abbrev pub Pages : State → Pool → Type 0
Pages s new = Shrinks s new ⊎ PlacesOne s new

-- no frame that isn't a page becomes one
moved : (s : State) (new : Pool) (x : ℕ) (v : FrameState) → new.pages ≡ s.pages → new.frame ≡ put s.frame x v
    → ((w : ℕ) → v ≡ state.Placed w → ⊥) → Pages s new
moved s new x v pages frame not_placed = inl (λ f i y w a b. (
  ap (λ (m : ℕ → ℕ → Option ℕ). m f i) (sym pages) ∙ a,
  (let c : put s.frame x v y ≡ state.Placed w = ap (λ (m : ℕ → FrameState). m y) (sym frame) ∙ b in elim (put_tells s.frame x v y) [
    | inl q ↦ absurd (not_placed w (sym q.1 ∙ c))
    | inr q ↦ sym q.1 ∙ c
  ]),
))

pages_stay : (s : State) (t : ℕ) (b c : Option Call) (w : Write) → Inv s.geometry s → s.calls t ≡ b → Fit s t b c w
    → reads b ≡ false → Pages s (written (pool_of s) t w)
pages_stay s t b c (TakesReserved x) h e y isnt = moved s (written (pool_of s) t (TakesReserved x)) x state.Hand refl refl (λ w d. cc)
pages_stay s t b c (TakesFree x) h e y isnt = moved s (written (pool_of s) t (TakesFree x)) x state.Hand refl refl (λ w d. cc)
pages_stay s t b c (Restores x) h e y isnt = moved s (written (pool_of s) t (Restores x)) x state.Free refl refl (λ w d. cc)
pages_stay s t b c (Places f i x) h e y isnt = inr (f, i, x, refl, refl, y.bare, h.place.hands t x (ap hand e ∙ y.some))
pages_stay s t b c (Enters v x access) h e y isnt = clash (reads b) y.reader isnt
pages_stay s t b c (Accesses x access) h e y isnt = clash (reads b) y.reader isnt
pages_stay s t b c (Evicts f i x) h e y isnt = inl (λ k j z w a d. (
  (elim (put2_tells s.pages f i None k j) [
    | inl q ↦ (let m : ◌≡◌ {A = Option ℕ} None (Some z) = sym q.2 ∙ a in absurd (cc))
    | inr q ↦ sym q.1 ∙ a
  ]),
  (elim (put_tells s.frame x state.Hand z) [
    | inl q ↦ (let m : state.Hand ≡ state.Placed w = sym q.1 ∙ d in absurd (cc))
    | inr q ↦ sym q.1 ∙ d
  ]),
))
pages_stay s t b c (FreesUnreserved x) h e y isnt = moved s (written (pool_of s) t (FreesUnreserved x)) x state.Free refl refl (λ w d. cc)
pages_stay s t b c (Frees x) h e y isnt = moved s (written (pool_of s) t (Frees x)) x state.Free refl refl (λ w d. cc)
pages_stay s t b c w h e y isnt = inl (λ f i x w a b. (a, b))

pub pages_by : (s : State) (t : ℕ) (c : Call) (o : Outcome) (new : Pool) (next : Option Call) → Inv s.geometry s → s.calls t ≡ Some c
    → reads (Some c) ≡ false → Stepped s t c o new next → Pages s new
pages_by s t c o new next h e isnt (Wrote w d near y) = pages_stay s t (Some c) (Some d) w h e y isnt
pages_by s t c o new next h e isnt (Over w a near y) = pages_stay s t (Some c) None w h e y isnt
pages_by s t c o new next h e isnt (Waits u y) = inl (λ f i x w a b. (a, b))
