-- States that are the same but for the names of frames: the frame of a page or in a hand is told by where it is, and free and retired ones
-- by how many there are.
use Rattle.std.proofs.Common.{◌≡◌, ◌∙◌, ℕ, ◌<◌, ◌≤◌, refl, sym, ap, subst, arith, inl, inr}
use Rattle.std.proofs.Math.Path.{fun_ext}
use Rattle.std.specs.Prelude.{◌⊎◌, Bool, true, false, Option, Some, None, List, is_some}
use Rattle.std.specs.Option.{option_map, unwrap_or}
use Rattle.std.proofs.lemmas.Bool.{cases_lt}
use Rattle.hp_base.specs.Indices.{count_below}
use Rattle.hp_base.specs.Mappings.{find}
use Rattle.hp_base.specs.declared.mapping.Mapping.{Mapping}
use Rattle.hp_base.proofs.Counting.{count_below-not}
use Rattle.hp_frames.specs.Bank.{is_free, is_retired}
use Rattle.hp_frames.specs.declared.frame.FrameState.TheVariants as state
use Rattle.hp_frames.proofs.Frames.{free_is, retired_is}
use Rattle.hp_machine.specs.State.{State, active_frames, free_frames}
use Rattle.hp_machine.specs.Events.{IsReached}
use Rattle.hp_machine.specs.Headline.{Place, Free, Hand, Page, Retired, IsAt}
use Rattle.hp_machine.specs.Views.{hand}
use Rattle.hp_machine.specs.declared.call.Call.{Call}
use Rattle.hp_laws.proofs.Meets.{held_there, page_placed}
use Rattle.hp_laws.proofs.Runs.{always}
use Rattle.hp_sequential.specs.Renaming.{Alike, Renaming, call_renamed}
use Rattle.hp_key.specs.Key.{word_in}
use Rattle.hp_key.proofs.Calls.{Fields, renamed_call, same_busy_hand, told_of}
use Rattle.hp_key.proofs.Picking.{IsPicked, pick, pick_rank, picked, rank_below}

-- the words of pages, translated pages, and calls in flight, each without the frame
abbrev pub words_in : State → (file index : ℕ) → Option ℕ
words_in s f i = option_map (λ x. word_in (s.frame x)) (s.pages f i)

abbrev pub calls_in : State → (task : ℕ) → Option Fields
calls_in s t = option_map told_of (s.calls t)

-- all but the names of frames is the same
pub record Match (s n : State) : Type 0 where
  pub geometry : s.geometry ≡ n.geometry
  pub frames : s.frames ≡ n.frames
  pub active : active_frames s.frame s.frames ≡ active_frames n.frame n.frames
  pub free : free_frames s.frame s.frames ≡ free_frames n.frame n.frames
  pub resv : s.resv ≡ n.resv
  pub used : s.used ≡ n.used
  pub slots : s.slots ≡ n.slots
  pub locks : s.locks ≡ n.locks
  pub size : s.size ≡ n.size
  pub pending : s.pending ≡ n.pending
  pub spare : s.spare ≡ n.spare
  pub reserved : s.reserved ≡ n.reserved
  pub words : (f i : ℕ) → words_in s f i ≡ words_in n f i
  pub ready : s.ready ≡ n.ready
  pub mappings : s.mappings ≡ n.mappings
  pub entries : (t v : ℕ) → is_some (s.entries t v) ≡ is_some (n.entries t v)
  pub life : s.life ≡ n.life
  pub calls : (t : ℕ) → calls_in s t ≡ calls_in n t

-- seen from the other side
pub turned : (s n : State) → Match s n → Match n s
turned s n h = record {
  geometry = sym h.geometry;
  frames = sym h.frames;
  active = sym h.active;
  free = sym h.free;
  resv = sym h.resv;
  used = sym h.used;
  slots = sym h.slots;
  locks = sym h.locks;
  size = sym h.size;
  pending = sym h.pending;
  spare = sym h.spare;
  reserved = sym h.reserved;
  words = λ f i. sym (h.words f i);
  ready = sym h.ready;
  mappings = sym h.mappings;
  entries = λ t v. sym (h.entries t v);
  life = sym h.life;
  calls = λ t. sym (h.calls t);
}

-- ---- what may be there, and is there in the other

-- one has something where the other has
some_too : {A B : Type 0} (f g : A → B) (o p : Option A) (a : A) → option_map f o ≡ option_map g p → o ≡ Some a → (b : A) × (p ≡ Some b)
some_too f g None p a e is = (let z : ◌≡◌ {A = Option _} None (Some a) = is in absurd (cc))
some_too f g (Some x) None a e is = (let z : ◌≡◌ {A = Option _} (Some (f x)) None = e in absurd (cc))
some_too f g (Some x) (Some y) a e is = (y, refl)

some_is : {A : Type 0} (o p : Option A) (a : A) → is_some o ≡ is_some p → o ≡ Some a → (b : A) × (p ≡ Some b)
some_is None p a e is = (let z : ◌≡◌ {A = Option _} None (Some a) = is in absurd (cc))
some_is (Some x) None a e is = (let z : true ≡ false = e in absurd (cc))
some_is (Some x) (Some y) a e is = (y, refl)

none_too : {A : Type 0} (o p : Option A) → is_some o ≡ is_some p → o ≡ None → p ≡ None
none_too None None e is = refl
none_too None (Some y) e is = (let z : false ≡ true = e in absurd (cc))
none_too (Some x) p e is = (let z : ◌≡◌ {A = Option _} (Some x) None = is in absurd (cc))

-- that it is there is read off what is made of it
read_some : {A B : Type 0} (f g : A → B) (o p : Option A) → option_map f o ≡ option_map g p → is_some o ≡ is_some p
read_some f g None None e = refl
read_some f g None (Some y) e = (let z : ◌≡◌ {A = Option _} None (Some (g y)) = e in absurd (cc))
read_some f g (Some x) None e = (let z : ◌≡◌ {A = Option _} (Some (f x)) None = e in absurd (cc))
read_some f g (Some x) (Some y) e = refl

-- and what is made of it is the same
made_same : {A B : Type 0} (f g : A → B) (o p : Option A) (a b : A) → option_map f o ≡ option_map g p → o ≡ Some a → p ≡ Some b → f a ≡ g b
made_same {A} {B} f g o p a b e is other =
    let z : Some (f a) ≡ Some (g b) = sym (ap (option_map f) is) ∙ (e ∙ ap (option_map g) other) in
    ap (λ (q : Option B). unwrap_or q (f a)) z

unwrapped : (o : Option ℕ) (x : ℕ) → o ≡ Some x → unwrap_or o 0 ≡ x
unwrapped o x e = ap (λ (p : Option ℕ). unwrap_or p 0) e

-- the frame in the hand of a call that may be there
hand_some : (o p : Option Call) → option_map told_of o ≡ option_map told_of p → is_some (hand o) ≡ is_some (hand p)
hand_some None None e = refl
hand_some None (Some d) e = (let z : ◌≡◌ {A = Option _} None (Some (told_of d)) = e in absurd (cc))
hand_some (Some c) None e = (let z : ◌≡◌ {A = Option _} (Some (told_of c)) None = e in absurd (cc))
hand_some (Some c) (Some d) e = same_busy_hand c d (made_same told_of told_of (Some c) (Some d) c d e refl refl)

-- the call is the other's with its frame renamed
renamed_some : (to : ℕ → ℕ) (o p : Option Call) → option_map told_of o ≡ option_map told_of p → hand p ≡ option_map to (hand o)
    → p ≡ option_map (call_renamed to) o
renamed_some to None None e named = refl
renamed_some to None (Some d) e named = (let z : ◌≡◌ {A = Option _} None (Some (told_of d)) = e in absurd (cc))
renamed_some to (Some c) None e named = (let z : ◌≡◌ {A = Option _} (Some (told_of c)) None = e in absurd (cc))
renamed_some to (Some c) (Some d) e named =
    ap (λ (x : Call). Some x) (renamed_call c d to (made_same told_of told_of (Some c) (Some d) c d e refl refl) named)

-- ---- where each frame is

abbrev hands : State → ℕ → Option ℕ
hands s t = hand (s.calls t)

abbrev Is : State → (frame : ℕ) → Place → Type 0
Is s x p = IsAt s.frame (hands s) s.pages x p

abbrev free_in : State → ℕ → Bool
free_in s x = is_free (s.frame x)

abbrev retired_in : State → ℕ → Bool
retired_in s x = is_retired (s.frame x)

free_there : (s : State) (x : ℕ) → s.frame x ≡ state.Free → free_in s x ≡ true
free_there s x e = ap is_free e

retired_there : (s : State) (x : ℕ) → s.frame x ≡ state.Retired → retired_in s x ≡ true
retired_there s x e = ap is_retired e

-- as many are retired
same_retired : (s n : State) → Match s n → count_below (retired_in s) s.frames ≡ count_below (retired_in n) n.frames
unfolding active_frames
same_retired s n h =
    let here = count_below-not (retired_in s) s.frames in
    let there = count_below-not (retired_in n) n.frames in
    let frames : count_below (λ _. true) s.frames ≡ count_below (λ _. true) n.frames = ap (count_below (λ _. true)) h.frames in
    let active = h.active in
    omega (arith, here, there, frames, active)

-- where a frame that is at that place goes: to the same page or hand, or among free or retired ones to the one of its rank
target : (s n : State) → Place → ℕ → ℕ
target s n Free x = pick (free_in n) n.frames (count_below (free_in s) x)
target s n (Hand t) x = unwrap_or (hands n t) 0
target s n (Page f i) x = unwrap_or (n.pages f i) 0
target s n Retired x = pick (retired_in n) n.frames (count_below (retired_in s) x)

module _ (s n : State) (h : Match s n) where
  free_rank : (x : ℕ) → x < s.frames → s.frame x ≡ state.Free
      → IsPicked (free_in n) n.frames (count_below (free_in s) x) (target s n Free x)
  unfolding target free_frames
  free_rank x within is =
      let free = h.free in
      let less = rank_below (free_in s) s.frames x within (free_there s x is) in
      picked (free_in n) n.frames (count_below (free_in s) x) (omega (arith, free, less))

  retired_rank : (x : ℕ) → x < s.frames → s.frame x ≡ state.Retired
      → IsPicked (retired_in n) n.frames (count_below (retired_in s) x) (target s n Retired x)
  unfolding target
  retired_rank x within is =
      let same = same_retired s n h in
      let less = rank_below (retired_in s) s.frames x within (retired_there s x is) in
      picked (retired_in n) n.frames (count_below (retired_in s) x) (omega (arith, same, less))

  -- it is at that place in the other
  lands : (x : ℕ) (p : Place) → x < s.frames → Is s x p → Is n (target s n p x) p
  unfolding target
  lands x Free within at = free_is (n.frame (target s n Free x)) (free_rank x within at).there
  lands x (Hand t) within at =
      let there = some_is (hands s t) (hands n t) x (hand_some (s.calls t) (n.calls t) (h.calls t)) at in
      there.1 ∙ ap (λ (y : ℕ). Some y) (sym (unwrapped (hands n t) there.0 there.1))
  lands x (Page f i) within at =
      let there = some_is (s.pages f i) (n.pages f i) x
      (read_some (λ y. word_in (s.frame y)) (λ y. word_in (n.frame y)) (s.pages f i) (n.pages f i) (h.words f i)) at in
      there.1 ∙ ap (λ (y : ℕ). Some y) (sym (unwrapped (n.pages f i) there.0 there.1))
  lands x Retired within at = retired_is (n.frame (target s n Retired x)) (retired_rank x within at).there

  -- and comes back from there
  comes_back : (x : ℕ) (p : Place) → x < s.frames → Is s x p → target n s p (target s n p x) ≡ x
  unfolding target
  comes_back x Free within at =
      ap (pick (free_in s) s.frames) (free_rank x within at).rank ∙ pick_rank (free_in s) s.frames x within (free_there s x at)
  comes_back x (Hand t) within at = unwrapped (hands s t) x at
  comes_back x (Page f i) within at = unwrapped (s.pages f i) x at
  comes_back x Retired within at =
      ap (pick (retired_in s) s.frames) (retired_rank x within at).rank
      ∙ pick_rank (retired_in s) s.frames x within (retired_there s x at)

-- ---- the new name of each frame

module _ (s n : State) (some : IsReached s) where
  place_of : (x : ℕ) → x < s.frames → (p : Place) × Is s x p × ((q : Place) → Is s x q → q ≡ p)
  place_of x within = (always s some).inv.place.one.one x within

  to_at : (x : ℕ) → (x < s.frames) ⊎ (s.frames ≤ x) → ℕ
  to_at x (inl within) = target s n (place_of x within).0 x
  to_at x (inr past) = x

  to : ℕ → ℕ
  to x = to_at x (cases_lt x s.frames)

  -- by any place at which it is
  to_is : (x : ℕ) (p : Place) → x < s.frames → Is s x p → to x ≡ target s n p x
  unfolding to to_at
  to_is x p within at = by (cases_lt x s.frames)
    where
      by : (c : (x < s.frames) ⊎ (s.frames ≤ x)) → to_at x c ≡ target s n p x
      by (inl here) = ap (λ (q : Place). target s n q x) (sym ((place_of x here).2 p at))
      by (inr past) = absurd (omega (arith, within, past))

  to_past : (x : ℕ) → s.frames ≤ x → to x ≡ x
  unfolding to to_at
  to_past x past = by (cases_lt x s.frames)
    where
      by : (c : (x < s.frames) ⊎ (s.frames ≤ x)) → to_at x c ≡ x
      by (inl here) = absurd (omega (arith, here, past))
      by (inr over) = refl

module _ (s n : State) (h : Match s n) (some : IsReached s) (other : IsReached n) where
  real : (y : ℕ) (p : Place) → Is n y p → y < n.frames
  real y p at = (always n other).inv.place.one.real y p at

  -- there and back again
  there : (x : ℕ) → to n s other (to s n some x) ≡ x
  there x = elim (cases_lt x s.frames) [
    | inl within ↦ (
        let p = place_of s n some x within in
        let is = to_is s n some x p.0 within p.1 in
        let at = lands s n h x p.0 within p.1 in
        ap (to n s other) is
        ∙ (to_is n s other (target s n p.0 x) p.0 (real (target s n p.0 x) p.0 at) at ∙ comes_back s n h x p.0 within p.1))
    | inr past ↦ (
        let same = h.frames in
        ap (to n s other) (to_past s n some x past) ∙ to_past n s other x (omega (arith, past, same)))
  ]

module _ (s n : State) (h : Match s n) (some : IsReached s) (other : IsReached n) where
  names : Renaming s.frames
  names = record {
    to = to s n some;
    back = to n s other;
    there = there s n h some other;
    here = there n s (turned s n h) other some;
    fixed = to_past s n some;
  }

  -- a frame in a hand, and one in a page
  in_hand : (m : State) → IsReached m → (t x : ℕ) → hands m t ≡ Some x → m.frame x ≡ state.Hand
  in_hand m reached t x e = by (m.calls t) refl e
    where
      by : (o : Option Call) → m.calls t ≡ o → hand o ≡ Some x → m.frame x ≡ state.Hand
      by None is at = (let z : ◌≡◌ {A = Option ℕ} None (Some x) = at in absurd (cc))
      by (Some c) is at = (held_there m t c x reached is at).1

  -- a frame is under its new name what it was
  kept : (y : ℕ) (p : Place) → y < n.frames → Is n y p → n.frame y ≡ s.frame (target n s p y)
  kept y Free within at = at ∙ sym (lands n s (turned s n h) y Free within at)
  kept y (Hand t) within at =
      in_hand n other t y at ∙ sym (in_hand s some t (target n s (Hand t) y) (lands n s (turned s n h) y (Hand t) within at))
  kept y (Page f i) within at =
      let here = lands n s (turned s n h) y (Page f i) within at in
      let one = (page_placed n f i y other at).1 in
      let two = (page_placed s f i (target n s (Page f i) y) some here).1 in
      let words : word_in (n.frame y) ≡ word_in (s.frame (target n s (Page f i) y)) =
      made_same (λ x. word_in (n.frame x)) (λ x. word_in (s.frame x)) (n.pages f i) (s.pages f i) y (target n s (Page f i) y)
      (sym (h.words f i)) at here in
      one.1 ∙ (ap state.Placed (sym (ap word_in one.1) ∙ (words ∙ ap word_in two.1)) ∙ sym two.1)
  kept y Retired within at = at ∙ sym (lands n s (turned s n h) y Retired within at)

  frame_there : ((x : ℕ) → s.frames ≤ x → s.frame x ≡ state.Hand) → ((x : ℕ) → n.frames ≤ x → n.frame x ≡ state.Hand)
      → (y : ℕ) → n.frame y ≡ s.frame (to n s other y)
  frame_there beyond over y = elim (cases_lt y n.frames) [
    | inl within ↦ (
        let p = place_of n s other y within in
        kept y p.0 within p.1 ∙ ap s.frame (sym (to_is n s other y p.0 within p.1)))
    | inr past ↦ (
        let same = h.frames in
        over y past ∙ sym (ap s.frame (to_past n s other y past) ∙ beyond y (omega (arith, past, same))))
  ]

  page_there : (f i : ℕ) → n.pages f i ≡ option_map (to s n some) (s.pages f i)
  page_there f i = by (s.pages f i) refl
    where
      by : (o : Option ℕ) → s.pages f i ≡ o → n.pages f i ≡ option_map (to s n some) o
      by None is =
          none_too (s.pages f i) (n.pages f i)
          (read_some (λ y. word_in (s.frame y)) (λ y. word_in (n.frame y)) (s.pages f i) (n.pages f i) (h.words f i)) is
      by (Some x) is =
          let within = (always s some).inv.place.one.real x (Page f i) is in
          lands s n h x (Page f i) within is ∙ ap (λ (y : ℕ). Some y) (sym (to_is s n some x (Page f i) within is))

  hand_there : (t : ℕ) → hands n t ≡ option_map (to s n some) (hands s t)
  hand_there t = by (hands s t) refl
    where
      by : (o : Option ℕ) → hands s t ≡ o → hands n t ≡ option_map (to s n some) o
      by None is = none_too (hands s t) (hands n t) (hand_some (s.calls t) (n.calls t) (h.calls t)) is
      by (Some x) is =
          let within = (always s some).inv.place.one.real x (Hand t) is in
          lands s n h x (Hand t) within is ∙ ap (λ (y : ℕ). Some y) (sym (to_is s n some x (Hand t) within is))

  call_there : (t : ℕ) → n.calls t ≡ option_map (call_renamed (to s n some)) (s.calls t)
  call_there t = renamed_some (to s n some) (s.calls t) (n.calls t) (h.calls t) (hand_there t)

  -- a translation leads to the page of its index
  entry_there : (t v : ℕ) → n.entries t v ≡ option_map (to s n some) (s.entries t v)
  entry_there t v = by (s.entries t v) refl
    where
      by : (o : Option ℕ) → s.entries t v ≡ o → n.entries t v ≡ option_map (to s n some) o
      by None is = none_too (s.entries t v) (n.entries t v) (h.entries t v) is
      by (Some x) is =
          let y = some_is (s.entries t v) (n.entries t v) x (h.entries t v) is in
          let one = (always s some).inv.entries.agree t v x is in
          let two = (always n other).inv.entries.agree t v y.0 y.1 in
          let found : Some one.0 ≡ Some two.0 =
          sym one.1 ∙ (ap (λ (ms : ℕ → List Mapping). find (ms t) v) h.mappings ∙ two.1) in
          let place : one.0 ≡ two.0 = ap (λ (p : Option (ℕ × ℕ)). unwrap_or p one.0) found in
          let page : n.pages one.0.0 one.0.1 ≡ Some y.0 = subst (λ (p : ℕ × ℕ). n.pages p.0 p.1 ≡ Some y.0) (sym place) two.2 in
          y.1 ∙ (sym page ∙ (page_there one.0.0 one.0.1 ∙ ap (option_map (to s n some)) one.2))

  -- so the one is the other with its frames renamed
  pub alike : ((x : ℕ) → s.frames ≤ x → s.frame x ≡ state.Hand) → ((x : ℕ) → n.frames ≤ x → n.frame x ≡ state.Hand) → Alike s n
  unfolding names
  alike beyond over = (
    names,
    λ i. record {
      pool = record {
        geometry = sym h.geometry i;
        frames = sym h.frames i;
        frame = fun_ext (frame_there beyond over) i;
        resv = sym h.resv i;
        used = sym h.used i;
        slots = sym h.slots i;
        locks = sym h.locks i;
        size = sym h.size i;
        pending = sym h.pending i;
        spare = sym h.spare i;
        reserved = sym h.reserved i;
        pages = fun_ext (λ f. fun_ext (page_there f)) i;
        ready = sym h.ready i;
        mappings = sym h.mappings i;
        entries = fun_ext (λ t. fun_ext (entry_there t)) i;
      };
      life = sym h.life i;
      calls = fun_ext call_there i;
    },
  )
