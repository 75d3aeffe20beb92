-- What is held while bytes come: a fault stays, and bytes may come in pieces.
use Rattle.std.proofs.Common.{◌≡◌, ℕ, suc, ◌+◌, ◌<◌, ◌≤◌, Bool, true, false, cond, eqb, List, [], ◌∷◌, ◌++◌, length, drop, get_or}
use Rattle.std.proofs.Common.{Option, Some, None, refl, sym, ap, ◌∙◌, arith, add-one, drop-cons}
use Rattle.std.specs.Io.BufRead.{take_through}
use Rattle.std.proofs.lemmas.Bool.{ne_eqb, eq-eqb, eqb-true}
use Rattle.std.proofs.lemmas.List.{drop_all}
use Rattle.hp_text.specs.declared.fault.ReplayFault.{ReplayFault}
use Rattle.hp_text.specs.Lines.{FeedState, Line, take_byte, next_byte, unless_fault, with_fault, feed_after, lines_after, listed}

fault_keeps : (h : FeedState) (fault : ReplayFault) (b : ℕ) → h.fault ≡ Some fault → take_byte h b ≡ (h, None)
unfolding take_byte
fault_keeps h fault b is = ap (λ (f : Option ReplayFault). unless_fault f h (next_byte h b)) is

-- a fault stays, and no line comes
pub stays : (h : FeedState) (fault : ReplayFault) (bytes : List ℕ) → h.fault ≡ Some fault → (feed_after h bytes ≡ h) × (lines_after h bytes ≡ [])
unfolding feed_after lines_after
stays h fault [] is = (refl, refl)
stays h fault (b ∷ bytes) is =
    let later = stays h fault bytes is in
    let kept = fault_keeps h fault b is in
    (rw kept later.0, rw kept later.1)

-- bytes a and then b give what a followed by b gives
pub feed_after-append : (h : FeedState) (a b : List ℕ) → feed_after h (a ++ b) ≡ feed_after (feed_after h a) b
unfolding feed_after
feed_after-append h [] b = refl
feed_after-append h (x ∷ a) b = feed_after-append (take_byte h x).0 a b

listed-append : {A : Type 0} (x : Option A) (xs ys : List A) → listed x (xs ++ ys) ≡ listed x xs ++ ys
listed-append None xs ys = refl
listed-append (Some x) xs ys = refl

pub lines_after-append : (h : FeedState) (a b : List ℕ) → lines_after h (a ++ b) ≡ lines_after h a ++ lines_after (feed_after h a) b
unfolding feed_after lines_after
lines_after-append h [] b = refl
lines_after-append h (x ∷ a) b =
    ap (λ (ls : List Line). listed (take_byte h x).1 ls) (lines_after-append (take_byte h x).0 a b)
    ∙ listed-append (take_byte h x).1 (lines_after (take_byte h x).0 a) (lines_after (feed_after (take_byte h x).0 a) b)

no_line : (h : FeedState) (b : ℕ) → eqb b 10 ≡ false → (take_byte h b).1 ≡ None
unfolding take_byte
no_line h b other = by h.fault
  where
    by_tests : (full long : Bool) (x y : FeedState)
        → ◌≡◌ {A = Option Line} (cond {A = FeedState × Option Line} full (x, None) (cond long (x, None) (y, None))).1 None
    by_tests true long x y = refl
    by_tests false true x y = refl
    by_tests false false x y = refl

    next : (next_byte h b).1 ≡ None
    next = rw other (by_tests (eqb h.lines 1000001) (eqb (length h.rest) 56) (with_fault h) (record h { rest = h.rest ++ b ∷ [] }))

    by : (f : Option ReplayFault) → (unless_fault f h (next_byte h b)).1 ≡ None
    by None = next
    by (Some f) = refl

-- a byte inside a line, and what it leaves to take
pub record Turns (h : FeedState) (b : ℕ) (rest : List ℕ) : Type 0 where
  pub held : feed_after h (take_through 10 (b ∷ rest)) ≡ feed_after (take_byte h b).0 (take_through 10 rest)
  pub lines : lines_after h (take_through 10 (b ∷ rest)) ≡ lines_after (take_byte h b).0 (take_through 10 rest)
  pub used : length (take_through 10 (b ∷ rest)) ≡ suc (length (take_through 10 rest))

pub turns : (h : FeedState) (b : ℕ) (rest : List ℕ) → eqb b 10 ≡ false → Turns h b rest
unfolding feed_after lines_after
turns h b rest other =
    record {
      held = rw other refl;
      lines = rw (other, no_line h b other) refl;
      used = rw other refl;
    }

-- the byte that ends the line
pub record Ends (h : FeedState) (b : ℕ) (rest : List ℕ) : Type 0 where
  pub held : feed_after h (take_through 10 (b ∷ rest)) ≡ (take_byte h b).0
  pub lines : lines_after h (take_through 10 (b ∷ rest)) ≡ listed (take_byte h b).1 []
  pub used : length (take_through 10 (b ∷ rest)) ≡ 1

pub ends : (h : FeedState) (b : ℕ) (rest : List ℕ) → eqb b 10 ≡ true → Ends h b rest
unfolding feed_after lines_after
ends h b rest end = record { held = rw end refl; lines = rw end refl; used = rw end refl }

pub at_drop : (s : List ℕ) (i : ℕ) → i < length s → drop i s ≡ get_or s i 0 ∷ drop (i + 1) s
at_drop s i lt = rw add-one (drop-cons s i 0 lt)

-- the loop of take: what is held at i and the line's bytes from there give what the whole line gives
pub record Taking (h first : FeedState) (i : ℕ) (piece : List ℕ) : Type 0 where
  pub held : feed_after h (take_through 10 (drop i piece)) ≡ feed_after first (take_through 10 piece)
  pub lines : lines_after h (take_through 10 (drop i piece)) ≡ lines_after first (take_through 10 piece)
  pub used : i + length (take_through 10 (drop i piece)) ≡ length (take_through 10 piece)
  pub no_fault : h.fault ≡ None

pub goes_on : (h first new : FeedState) (i : ℕ) (piece : List ℕ) → i < length piece → (get_or piece i 0 ≡ 10 → ⊥)
    → new ≡ (take_byte h (get_or piece i 0)).0 → new.fault ≡ None → Taking h first i piece → Taking new first (i + 1) piece
goes_on h first new i piece lt other is no_fault t =
    let b = get_or piece i 0 in
    let rest = drop (i + 1) piece in
    let front : drop i piece ≡ b ∷ rest = at_drop piece i lt in
    let turn = turns h b rest (ne_eqb _ _ other) in
    record {
      held =
          ap (λ (x : FeedState). feed_after x (take_through 10 rest)) is ∙ sym turn.held
          ∙ ap (λ (x : List ℕ). feed_after h (take_through 10 x)) (sym front) ∙ t.held;
      lines =
          ap (λ (x : FeedState). lines_after x (take_through 10 rest)) is ∙ sym turn.lines
          ∙ ap (λ (x : List ℕ). lines_after h (take_through 10 x)) (sym front) ∙ t.lines;
      used = omega (arith, t.used, turn.used, ap (λ (x : List ℕ). length (take_through 10 x)) front);
      no_fault = no_fault;
    }

-- the turn that ends the line
pub record Ended (h first : FeedState) (i : ℕ) (piece : List ℕ) : Type 0 where
  pub held : (take_byte h (get_or piece i 0)).0 ≡ feed_after first (take_through 10 piece)
  pub lines : listed (take_byte h (get_or piece i 0)).1 [] ≡ lines_after first (take_through 10 piece)
  pub used : i + 1 ≡ length (take_through 10 piece)

pub ended_here : (h first : FeedState) (i : ℕ) (piece : List ℕ) → i < length piece → get_or piece i 0 ≡ 10
    → Taking h first i piece → Ended h first i piece
ended_here h first i piece lt end t =
    let b = get_or piece i 0 in
    let rest = drop (i + 1) piece in
    let front : drop i piece ≡ b ∷ rest = at_drop piece i lt in
    let e = ends h b rest (eq-eqb _ _ end) in
    record {
      held = sym e.held ∙ ap (λ (x : List ℕ). feed_after h (take_through 10 x)) (sym front) ∙ t.held;
      lines = sym e.lines ∙ ap (λ (x : List ℕ). lines_after h (take_through 10 x)) (sym front) ∙ t.lines;
      used = omega (arith, t.used, e.used, ap (λ (x : List ℕ). length (take_through 10 x)) front);
    }

-- the turn at which a fault comes, wherever the line ends
pub failed_here : (h first new : FeedState) (i : ℕ) (piece : List ℕ) (fault : ReplayFault) → i < length piece
    → new ≡ (take_byte h (get_or piece i 0)).0 → (take_byte h (get_or piece i 0)).1 ≡ None → new.fault ≡ Some fault
    → Taking h first i piece → (new ≡ feed_after first (take_through 10 piece)) × (lines_after first (take_through 10 piece) ≡ [])
failed_here h first new i piece fault lt is none failed t =
    by (eqb b 10) refl
  where
    b : ℕ
    b = get_or piece i 0

    by : (end : Bool) → eqb (get_or piece i 0) 10 ≡ end
        → (new ≡ feed_after first (take_through 10 piece)) × (lines_after first (take_through 10 piece) ≡ [])
    by true end =
        let e = ended_here h first i piece lt (eqb-true _ _ end) t in
        (is ∙ e.held, sym e.lines ∙ ap (λ (x : Option Line). listed x []) none)
    by false other =
        let turn = turns h (get_or piece i 0) (drop (i + 1) piece) other in
        let s = stays new fault (take_through 10 (drop (i + 1) piece)) failed in
        let front : drop i piece ≡ get_or piece i 0 ∷ drop (i + 1) piece = at_drop piece i lt in
        let held : feed_after new (take_through 10 (drop (i + 1) piece)) ≡ feed_after first (take_through 10 piece) =
        ap (λ (x : FeedState). feed_after x (take_through 10 (drop (i + 1) piece))) is ∙ sym turn.held
        ∙ ap (λ (x : List ℕ). feed_after h (take_through 10 x)) (sym front) ∙ t.held in
        let lines : lines_after new (take_through 10 (drop (i + 1) piece)) ≡ lines_after first
        (take_through 10 piece) = ap (λ (x : FeedState). lines_after x (take_through 10 (drop (i + 1) piece))) is
        ∙ sym turn.lines ∙ ap (λ (x : List ℕ). lines_after h (take_through 10 x)) (sym front) ∙ t.lines in
        (sym s.0 ∙ held, sym lines ∙ s.1)

pub all_taken : (h first : FeedState) (i : ℕ) (piece : List ℕ) → length piece ≤ i → Taking h first i piece
    → (h ≡ feed_after first (take_through 10 piece)) × ([] ≡ lines_after first (take_through 10 piece))
unfolding feed_after lines_after
all_taken h first i piece le t =
    let none : drop i piece ≡ [] = drop_all i piece le in (
      ap (λ (x : List ℕ). feed_after h (take_through 10 x)) (sym none) ∙ t.held,
      ap (λ (x : List ℕ). lines_after h (take_through 10 x)) (sym none) ∙ t.lines,
    )
