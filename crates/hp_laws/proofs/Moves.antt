-- A frame that goes from one place to another.
use Rattle.std.proofs.Common.{◌≡◌, ◌≢◌, ℕ, ◌<◌, refl, sym, ap, ◌∙◌, subst, arith, inl, inr}
use Rattle.std.specs.Prelude.{Option, Some, None}
use Rattle.hp_base.specs.Numbers.{put, put2}
use Rattle.hp_base.proofs.Puts.{put_same, put_other, same_or_other, put_tells, put2_tells, put2_same}
use Rattle.hp_frames.specs.declared.frame.FrameState.{FrameState}
use Rattle.hp_frames.specs.declared.frame.FrameState.TheVariants as state
use Rattle.hp_machine.specs.Headline.{Place, Free, Hand, Page, Retired, IsAt, OnePlace}

-- frame x goes from p to q, and no other frame goes anywhere
pub frame_moves : (n : ℕ) (states states' : ℕ → FrameState) (hands hands' : ℕ → Option ℕ)
    (pages pages' : ℕ → ℕ → Option ℕ) (x : ℕ) (p q : Place)
    → OnePlace n states hands pages → IsAt states hands pages x p → IsAt states' hands' pages' x q
    → ((r : Place) → IsAt states' hands' pages' x r → r ≡ q)
    → ((y : ℕ) (r : Place) → y ≢ x → IsAt states' hands' pages' y r → IsAt states hands pages y r)
    → ((y : ℕ) (r : Place) → y ≢ x → IsAt states hands pages y r → IsAt states' hands' pages' y r)
    → OnePlace n states' hands' pages'
frame_moves n states states' hands hands' pages pages' x p q h a b only back on = record {
  one = λ y l. elim (same_or_other y x) [
    | inl e ↦ subst (λ (w : ℕ). (r : Place) × IsAt states' hands' pages' w r
        × ((s : Place) → IsAt states' hands' pages' w s → s ≡ r)) (sym e) (q, b, only)
    | inr e ↦ (let o = h.one y l in (o.0, on y o.0 e o.1, λ s i. o.2 s (back y s e i)))
  ];
  real = λ y r i. elim (same_or_other y x) [
    | inl e ↦ subst (λ (w : ℕ). w < n) (sym e) (h.real x p a)
    | inr e ↦ h.real y r (back y r e i)
  ];
}

-- two places of a frame are one
pub same_place : (n : ℕ) (states : ℕ → FrameState) (hands : ℕ → Option ℕ) (pages : ℕ → ℕ → Option ℕ)
    → OnePlace n states hands pages → (x : ℕ) (p q : Place) → IsAt states hands pages x p → IsAt states hands pages x q → p ≡ q
same_place n states hands pages h x p q a b =
    let o = h.one x (h.real x p a) in
    o.2 p a ∙ sym (o.2 q b)

-- a free frame that is taken is nowhere but in the hand
take_only : (states : ℕ → FrameState) (hands : ℕ → Option ℕ) (pages : ℕ → ℕ → Option ℕ) (t x : ℕ)
    → ((q : Place) → IsAt states hands pages x q → q ≡ Free) → (r : Place)
    → IsAt (put states x state.Hand) (put hands t (Some x)) pages x r → r ≡ Hand t
take_only states hands pages t x h Free a = grind (arith, put_tells)
take_only states hands pages t x h (Hand u) a = let b = h (Hand u) in grind (arith, put_tells)
take_only states hands pages t x h (Page f i) a = let b : Page f i ≡ Free = h (Page f i) a in cc
take_only states hands pages t x h Retired a = grind (arith, put_tells)

-- each other frame is where it was, and nowhere else
take_back : (states : ℕ → FrameState) (hands : ℕ → Option ℕ) (pages : ℕ → ℕ → Option ℕ) (t x y : ℕ) (r : Place) → y ≢ x
    → IsAt (put states x state.Hand) (put hands t (Some x)) pages y r → IsAt states hands pages y r
take_back states hands pages t x y Free h a = grind (arith, put_tells)
take_back states hands pages t x y (Hand u) h a = grind (arith, put_tells)
take_back states hands pages t x y (Page f i) h a = a
take_back states hands pages t x y Retired h a = grind (arith, put_tells)

-- and still there
take_on : (states : ℕ → FrameState) (hands : ℕ → Option ℕ) (pages : ℕ → ℕ → Option ℕ) (t x y : ℕ) (r : Place) → hands t ≡ None
    → y ≢ x → IsAt states hands pages y r → IsAt (put states x state.Hand) (put hands t (Some x)) pages y r
take_on states hands pages t x y Free e h a = grind (arith, put_tells)
take_on states hands pages t x y (Hand u) e h a = grind (arith, put_tells)
take_on states hands pages t x y (Page f i) e h a = a
take_on states hands pages t x y Retired e h a = grind (arith, put_tells)

-- so each frame is in one place, where a free one is taken
pub taken : (n : ℕ) (states : ℕ → FrameState) (hands : ℕ → Option ℕ) (pages : ℕ → ℕ → Option ℕ) (t x : ℕ)
    → OnePlace n states hands pages → hands t ≡ None → states x ≡ state.Free
    → OnePlace n (put states x state.Hand) (put hands t (Some x)) pages
taken n states hands pages t x h e a =
    frame_moves n states (put states x state.Hand) hands (put hands t (Some x)) pages pages x Free (Hand t) h a (put_same hands t (Some x))
    (take_only states hands pages t x (λ q i. same_place n states hands pages h x q Free i a))
    (λ y r d i. take_back states hands pages t x y r d i)
    (λ y r d i. take_on states hands pages t x y r e d i)

-- a frame that is placed is nowhere but at its index
place_only : (states : ℕ → FrameState) (hands : ℕ → Option ℕ) (pages : ℕ → ℕ → Option ℕ) (t f i x : ℕ)
    → ((q : Place) → IsAt states hands pages x q → q ≡ Hand t) → (r : Place)
    → IsAt (put states x (state.Placed 0)) (put hands t None) (put2 pages f i (Some x)) x r → r ≡ Page f i
place_only states hands pages t f i x h Free a = grind (arith, put_tells)
place_only states hands pages t f i x h (Hand u) a = let b = h (Hand u) in grind (arith, put_tells)
place_only states hands pages t f i x h (Page k j) a = let b = h (Page k j) in grind (arith, put2_tells)
place_only states hands pages t f i x h Retired a = grind (arith, put_tells)

-- each other frame is where it was, and nowhere else
place_back : (states : ℕ → FrameState) (hands : ℕ → Option ℕ) (pages : ℕ → ℕ → Option ℕ) (t f i x y : ℕ) (r : Place) → y ≢ x
    → IsAt (put states x (state.Placed 0)) (put hands t None) (put2 pages f i (Some x)) y r → IsAt states hands pages y r
place_back states hands pages t f i x y Free h a = grind (arith, put_tells)
place_back states hands pages t f i x y (Hand u) h a = grind (arith, put_tells)
place_back states hands pages t f i x y (Page k j) h a = grind (arith, put2_tells)
place_back states hands pages t f i x y Retired h a = grind (arith, put_tells)

-- and still there
place_on : (states : ℕ → FrameState) (hands : ℕ → Option ℕ) (pages : ℕ → ℕ → Option ℕ) (t f i x y : ℕ) (r : Place)
    → hands t ≡ Some x → pages f i ≡ None → y ≢ x → IsAt states hands pages y r
    → IsAt (put states x (state.Placed 0)) (put hands t None) (put2 pages f i (Some x)) y r
place_on states hands pages t f i x y Free e d h a = grind (arith, put_tells)
place_on states hands pages t f i x y (Hand u) e d h a = grind (arith, put_tells)
place_on states hands pages t f i x y (Page k j) e d h a = grind (arith, put2_tells)
place_on states hands pages t f i x y Retired e d h a = grind (arith, put_tells)

-- so each frame is in one place, where one is placed
pub placed : (n : ℕ) (states : ℕ → FrameState) (hands : ℕ → Option ℕ) (pages : ℕ → ℕ → Option ℕ) (t f i x : ℕ)
    → OnePlace n states hands pages → hands t ≡ Some x → pages f i ≡ None
    → OnePlace n (put states x (state.Placed 0)) (put hands t None) (put2 pages f i (Some x))
placed n states hands pages t f i x h e d =
    frame_moves n states (put states x (state.Placed 0)) hands (put hands t None) pages (put2 pages f i (Some x)) x
    (Hand t) (Page f i) h e (put2_same pages f i (Some x))
    (place_only states hands pages t f i x (λ q a. same_place n states hands pages h x q (Hand t) a e))
    (λ y r b a. place_back states hands pages t f i x y r b a)
    (λ y r b a. place_on states hands pages t f i x y r e d b a)

-- a frame that is freed is nowhere but among the free ones
give_only : (states : ℕ → FrameState) (hands : ℕ → Option ℕ) (pages : ℕ → ℕ → Option ℕ) (t x : ℕ)
    → ((q : Place) → IsAt states hands pages x q → q ≡ Hand t) → (r : Place)
    → IsAt (put states x state.Free) (put hands t None) pages x r → r ≡ Free
give_only states hands pages t x h Free a = refl
give_only states hands pages t x h (Hand u) a = let b = h (Hand u) in grind (arith, put_tells)
give_only states hands pages t x h (Page k j) a = let b : Page k j ≡ Hand t = h (Page k j) a in cc
give_only states hands pages t x h Retired a = grind (arith, put_tells)

-- each other frame is where it was, and nowhere else
give_back : (states : ℕ → FrameState) (hands : ℕ → Option ℕ) (pages : ℕ → ℕ → Option ℕ) (t x y : ℕ) (r : Place) → y ≢ x
    → IsAt (put states x state.Free) (put hands t None) pages y r → IsAt states hands pages y r
give_back states hands pages t x y Free h a = grind (arith, put_tells)
give_back states hands pages t x y (Hand u) h a = grind (arith, put_tells)
give_back states hands pages t x y (Page k j) h a = a
give_back states hands pages t x y Retired h a = grind (arith, put_tells)

-- and still there
give_on : (states : ℕ → FrameState) (hands : ℕ → Option ℕ) (pages : ℕ → ℕ → Option ℕ) (t x y : ℕ) (r : Place) → hands t ≡ Some x
    → y ≢ x → IsAt states hands pages y r → IsAt (put states x state.Free) (put hands t None) pages y r
give_on states hands pages t x y Free e h a = grind (arith, put_tells)
give_on states hands pages t x y (Hand u) e h a = grind (arith, put_tells)
give_on states hands pages t x y (Page k j) e h a = a
give_on states hands pages t x y Retired e h a = grind (arith, put_tells)

-- so each frame is in one place, where one is freed
pub given : (n : ℕ) (states : ℕ → FrameState) (hands : ℕ → Option ℕ) (pages : ℕ → ℕ → Option ℕ) (t x : ℕ)
    → OnePlace n states hands pages → hands t ≡ Some x → OnePlace n (put states x state.Free) (put hands t None) pages
given n states hands pages t x h e =
    frame_moves n states (put states x state.Free) hands (put hands t None) pages pages x (Hand t) Free h e (put_same states x state.Free)
    (give_only states hands pages t x (λ q a. same_place n states hands pages h x q (Hand t) a e))
    (λ y r b a. give_back states hands pages t x y r b a)
    (λ y r b a. give_on states hands pages t x y r e b a)

-- a frame that is taken from its page is nowhere but in the hand
evict_only : (states : ℕ → FrameState) (hands : ℕ → Option ℕ) (pages : ℕ → ℕ → Option ℕ) (t f i x : ℕ)
    → ((q : Place) → IsAt states hands pages x q → q ≡ Page f i) → (r : Place)
    → IsAt (put states x state.Hand) (put hands t (Some x)) (put2 pages f i None) x r → r ≡ Hand t
evict_only states hands pages t f i x h Free a = grind (arith, put_tells)
evict_only states hands pages t f i x h (Hand u) a = let b = h (Hand u) in grind (arith, put_tells)
evict_only states hands pages t f i x h (Page k j) a = let b = h (Page k j) in grind (arith, put2_tells)
evict_only states hands pages t f i x h Retired a = grind (arith, put_tells)

-- each other frame is where it was, and nowhere else
evict_back : (states : ℕ → FrameState) (hands : ℕ → Option ℕ) (pages : ℕ → ℕ → Option ℕ) (t f i x y : ℕ) (r : Place) → y ≢ x
    → IsAt (put states x state.Hand) (put hands t (Some x)) (put2 pages f i None) y r → IsAt states hands pages y r
evict_back states hands pages t f i x y Free h a = grind (arith, put_tells)
evict_back states hands pages t f i x y (Hand u) h a = grind (arith, put_tells)
evict_back states hands pages t f i x y (Page k j) h a = grind (arith, put2_tells)
evict_back states hands pages t f i x y Retired h a = grind (arith, put_tells)

-- and still there
evict_on : (states : ℕ → FrameState) (hands : ℕ → Option ℕ) (pages : ℕ → ℕ → Option ℕ) (t f i x y : ℕ) (r : Place)
    → hands t ≡ None → pages f i ≡ Some x → y ≢ x → IsAt states hands pages y r
    → IsAt (put states x state.Hand) (put hands t (Some x)) (put2 pages f i None) y r
evict_on states hands pages t f i x y Free e d h a = grind (arith, put_tells)
evict_on states hands pages t f i x y (Hand u) e d h a = grind (arith, put_tells)
evict_on states hands pages t f i x y (Page k j) e d h a = grind (arith, put2_tells)
evict_on states hands pages t f i x y Retired e d h a = grind (arith, put_tells)

-- so each frame is in one place, where a page is taken away
pub evicted : (n : ℕ) (states : ℕ → FrameState) (hands : ℕ → Option ℕ) (pages : ℕ → ℕ → Option ℕ) (t f i x : ℕ)
    → OnePlace n states hands pages → hands t ≡ None → pages f i ≡ Some x
    → OnePlace n (put states x state.Hand) (put hands t (Some x)) (put2 pages f i None)
evicted n states hands pages t f i x h e d =
    frame_moves n states (put states x state.Hand) hands (put hands t (Some x)) pages (put2 pages f i None) x
    (Page f i) (Hand t) h d (put_same hands t (Some x))
    (evict_only states hands pages t f i x (λ q a. same_place n states hands pages h x q (Page f i) a d))
    (λ y r b a. evict_back states hands pages t f i x y r b a)
    (λ y r b a. evict_on states hands pages t f i x y r e d b a)

-- each frame in one place; one in a hand is marked so, and one that is a page has its word
pub record Placing (frames : ℕ) (states : ℕ → FrameState) (held : ℕ → Option ℕ) (paged : ℕ → ℕ → Option ℕ) : Type 0 where
  pub one : OnePlace frames states held paged
  pub hands : (t x : ℕ) → held t ≡ Some x → states x ≡ state.Hand
  pub pages : (f i x : ℕ) → paged f i ≡ Some x → (word : ℕ) × (states x ≡ state.Placed word)

-- the whole placing is kept: where a free frame is taken into an empty hand
pub takes_frame : (n : ℕ) (states : ℕ → FrameState) (hands : ℕ → Option ℕ) (pages : ℕ → ℕ → Option ℕ) (t x : ℕ)
    → Placing n states hands pages → hands t ≡ None → states x ≡ state.Free
    → Placing n (put states x state.Hand) (put hands t (Some x)) pages
takes_frame n states hands pages t x h e a = record {
  one = taken n states hands pages t x h.one e a;
  hands = λ u y d. in_hand u y d;
  pages = λ f i y d. let o = h.pages f i y d in (o.0, put_other states x state.Hand y (isnt_free y o.0 o.1) ∙ o.1);
}
  where
    in_hand : (u y : ℕ) → put hands t (Some x) u ≡ Some y → put states x state.Hand y ≡ state.Hand
    in_hand u y d = elim (same_or_other y x) [
      | inl q ↦ ap (put states x state.Hand) q ∙ put_same states x state.Hand
      | inr q ↦ put_other states x state.Hand y q ∙ h.hands u y (let z = put_tells hands t (Some x) u in grind (arith, z))
    ]

    isnt_free : (y w : ℕ) → states y ≡ state.Placed w → y ≢ x
    isnt_free y w d = λ q. (let z : states x ≡ state.Placed w = ap states (sym q) ∙ d in absurd (cc))

-- a frame in a hand isn't where another is
pub other_hand : (n : ℕ) (states : ℕ → FrameState) (hands : ℕ → Option ℕ) (pages : ℕ → ℕ → Option ℕ) (t u x : ℕ)
    → Placing n states hands pages → hands t ≡ Some x → hands u ≡ Some x → u ≡ t
other_hand n states hands pages t u x h e d = same_task (same_place n states hands pages h.one x (Hand u) (Hand t) d e)
  where
    same_task : {a b : ℕ} → Hand a ≡ Hand b → a ≡ b
    same_task p = cc

-- a frame is the page of one index
pub other_page : (n : ℕ) (states : ℕ → FrameState) (hands : ℕ → Option ℕ) (pages : ℕ → ℕ → Option ℕ) (f i k j x : ℕ)
    → Placing n states hands pages → pages f i ≡ Some x → pages k j ≡ Some x → (k ≡ f) × (j ≡ i)
other_page n states hands pages f i k j x h e d =
    let p = same_place n states hands pages h.one x (Page k j) (Page f i) d e in
    (file p, index p)
  where
    file : {a b c d : ℕ} → Page a b ≡ Page c d → a ≡ c
    file p = cc

    index : {a b c d : ℕ} → Page a b ≡ Page c d → b ≡ d
    index p = cc

-- where the frame in a hand becomes a page
pub places_frame : (n : ℕ) (states : ℕ → FrameState) (hands : ℕ → Option ℕ) (pages : ℕ → ℕ → Option ℕ) (t f i x : ℕ)
    → Placing n states hands pages → hands t ≡ Some x → pages f i ≡ None
    → Placing n (put states x (state.Placed 0)) (put hands t None) (put2 pages f i (Some x))
places_frame n states hands pages t f i x h e d = record {
  one = placed n states hands pages t f i x h.one e d;
  hands = λ u y q. in_hand u y q;
  pages = λ k j y q. on_page k j y q;
}
  where
    in_hand : (u y : ℕ) → put hands t None u ≡ Some y → put states x (state.Placed 0) y ≡ state.Hand
    in_hand u y q = elim (put_tells hands t None u) [
      | inl z ↦ (let w : ◌≡◌ {A = Option ℕ} None (Some y) = sym z.1 ∙ q in absurd (cc))
      | inr z ↦ (let a : hands u ≡ Some y = sym z.1 ∙ q in
          put_other states x (state.Placed 0) y
          (λ o. z.0 (other_hand n states hands pages t u x h e (a ∙ ap (λ (m : ℕ). Some m) o))) ∙ h.hands u y a)
    ]

    on_page : (k j y : ℕ) → put2 pages f i (Some x) k j ≡ Some y → (word : ℕ) × (put states x (state.Placed 0) y ≡ state.Placed word)
    on_page k j y q = elim (same_or_other y x) [
      | inl o ↦ (0, ap (put states x (state.Placed 0)) o ∙ put_same states x (state.Placed 0))
      | inr o ↦ elim (put2_tells pages f i (Some x) k j) [
        | inl z ↦ absurd (o (same x y (sym z.2 ∙ q)))
        | inr z ↦ (let a = h.pages k j y (sym z.1 ∙ q) in (a.0, put_other states x (state.Placed 0) y o ∙ a.1))
      ]
    ]
      where
        same : (a b : ℕ) → Some a ≡ Some b → b ≡ a
        same a b p = cc

-- where it is freed
pub gives_frame : (n : ℕ) (states : ℕ → FrameState) (hands : ℕ → Option ℕ) (pages : ℕ → ℕ → Option ℕ) (t x : ℕ)
    → Placing n states hands pages → hands t ≡ Some x → Placing n (put states x state.Free) (put hands t None) pages
gives_frame n states hands pages t x h e = record {
  one = given n states hands pages t x h.one e;
  hands = λ u y q. in_hand u y q;
  pages =
      λ f i y q. let o = h.pages f i y q in (
        o.0,
        put_other states x state.Free y
            (λ z. (let a : states x ≡ state.Placed o.0 = ap states (sym z) ∙ o.1 in let b = h.hands t x e in absurd (cc))) ∙ o.1,
      );
}
  where
    in_hand : (u y : ℕ) → put hands t None u ≡ Some y → put states x state.Free y ≡ state.Hand
    in_hand u y q = elim (put_tells hands t None u) [
      | inl z ↦ (let w : ◌≡◌ {A = Option ℕ} None (Some y) = sym z.1 ∙ q in absurd (cc))
      | inr z ↦ (let a : hands u ≡ Some y = sym z.1 ∙ q in
          put_other states x state.Free y
          (λ o. z.0 (other_hand n states hands pages t u x h e (a ∙ ap (λ (m : ℕ). Some m) o))) ∙ h.hands u y a)
    ]

-- and where a page is taken into an empty hand
pub evicts_frame : (n : ℕ) (states : ℕ → FrameState) (hands : ℕ → Option ℕ) (pages : ℕ → ℕ → Option ℕ) (t f i x : ℕ)
    → Placing n states hands pages → hands t ≡ None → pages f i ≡ Some x
    → Placing n (put states x state.Hand) (put hands t (Some x)) (put2 pages f i None)
evicts_frame n states hands pages t f i x h e d = record {
  one = evicted n states hands pages t f i x h.one e d;
  hands = λ u y q. in_hand u y q;
  pages = λ k j y q. on_page k j y q;
}
  where
    in_hand : (u y : ℕ) → put hands t (Some x) u ≡ Some y → put states x state.Hand y ≡ state.Hand
    in_hand u y d = elim (same_or_other y x) [
      | inl q ↦ ap (put states x state.Hand) q ∙ put_same states x state.Hand
      | inr q ↦ put_other states x state.Hand y q ∙ h.hands u y (let z = put_tells hands t (Some x) u in grind (arith, z))
    ]

    on_page : (k j y : ℕ) → put2 pages f i None k j ≡ Some y → (word : ℕ) × (put states x state.Hand y ≡ state.Placed word)
    on_page k j y q = elim (put2_tells pages f i None k j) [
      | inl z ↦ (let w : ◌≡◌ {A = Option ℕ} None (Some y) = sym z.2 ∙ q in absurd (cc))
      | inr z ↦ (let a : pages k j ≡ Some y = sym z.1 ∙ q in let o = h.pages k j y a in (
        o.0,
        put_other states x state.Hand y
            (λ b. (let c = other_page n states hands pages f i k j x h d (a ∙ ap (λ (m : ℕ). Some m) b) in z.0 c.0 c.1)) ∙ o.1,
      ))
    ]

-- a page's word is written
pub writes_frame : (n : ℕ) (states : ℕ → FrameState) (hands : ℕ → Option ℕ) (pages : ℕ → ℕ → Option ℕ) (x old new : ℕ)
    → Placing n states hands pages → states x ≡ state.Placed old → Placing n (put states x (state.Placed new)) hands pages
writes_frame n states hands pages x old new h e = record {
  one = record {
    one = λ y l. let o = h.one.one y l in (o.0, on y o.0 o.1, λ q a. o.2 q (back y q a));
    real = λ y q a. h.one.real y q (back y q a);
  };
  hands =
      λ t y d. put_other states x (state.Placed new) y
      (λ z. (let a : states x ≡ state.Hand = ap states (sym z) ∙ h.hands t y d in absurd (cc))) ∙ h.hands t y d;
  pages = λ f i y d. elim (same_or_other y x) [
    | inl q ↦ (new, ap (put states x (state.Placed new)) q ∙ put_same states x (state.Placed new))
    | inr q ↦ (let o = h.pages f i y d in (o.0, put_other states x (state.Placed new) y q ∙ o.1))
  ];
}
  where
    on : (y : ℕ) (p : Place) → IsAt states hands pages y p → IsAt (put states x (state.Placed new)) hands pages y p
    on y Free a = put_other states x (state.Placed new) y (λ z. (let b : states x ≡ state.Free = ap states (sym z) ∙ a in absurd (cc))) ∙ a
    on y (Hand t) a = a
    on y (Page f i) a = a
    on y Retired a =
        put_other states x (state.Placed new) y (λ z. (let b : states x ≡ state.Retired = ap states (sym z) ∙ a in absurd (cc))) ∙ a

    back : (y : ℕ) (p : Place) → IsAt (put states x (state.Placed new)) hands pages y p → IsAt states hands pages y p
    back y Free a = grind (arith, put_tells)
    back y (Hand t) a = a
    back y (Page f i) a = a
    back y Retired a = grind (arith, put_tells)
