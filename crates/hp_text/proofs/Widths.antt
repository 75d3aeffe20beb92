-- No line's text holds a line's end, and none is longer than 56 bytes.
use Rattle.std.proofs.Common.{◌≡◌, ℕ, ◌+◌, ◌/◌, ◌%◌, ◌^◌, ◌<◌, ◌≤◌, true, false, eqb, List, [], ◌∷◌, ◌++◌, Option, Some}
use Rattle.std.proofs.Common.{None, length, refl, arith}
use Rattle.std.proofs.Common.{length-append}
use Rattle.std.specs.Prelude.{codes}
use Rattle.std.specs.Fmt.{decimal}
use Rattle.std.proofs.lemmas.Bool.{ne_eqb, and_parts, leb-true}
use Rattle.std.proofs.lemmas.Fmt.{decimal_by_steps, length-decimal-le}
use Rattle.hp_base.specs.Text.{field, op_text, event_text, Sizes, sizes_text, quota_field}
use Rattle.hp_base.specs.Limits.{is_quota}
use Rattle.hp_base.specs.declared.event.Op.{Op}
use Rattle.hp_base.specs.declared.event.Op.TheVariants.{Map, MapNoReserve, Unmap, Load, Store, Alloc, Punch, Truncate, Exit}
use Rattle.hp_base.specs.declared.event.Event.{Event}
use Rattle.hp_base.specs.declared.event.Event.TheVariants.{Begin, Step, Kill, Resize}
use Rattle.hp_text.specs.Fits.{IsShort, OpFits, EventFits}
use Rattle.hp_text.specs.Traces.{AreWithinLimits, HasNoEnd}
use Rattle.hp_text.proofs.Ends.{HasNoEnd-append}

-- the bytes are at most so many, and no line ends in them
pub record IsInLine (most : ℕ) (bytes : List ℕ) : Type 0 where
  pub width : length bytes ≤ most
  pub no_end : HasNoEnd bytes

joined : (m n : ℕ) (a b : List ℕ) → IsInLine m a → IsInLine n b → IsInLine (m + n) (a ++ b)
joined m n a b p q =
    record { width = simp (length-append) (omega (arith, p.width, q.width)); no_end = HasNoEnd-append a b p.no_end q.no_end }

wider : (m n : ℕ) (a : List ℕ) → m ≤ n → IsInLine m a → IsInLine n a
wider m n a le p = record { width = omega (arith, p.width); no_end = p.no_end }

-- no line ends in a number
pub decimal_no_end : (n : ℕ) → n < 2 ^ 64 → HasNoEnd (decimal n)
decimal_no_end n small = decimal_by_steps P one more n small
  where
    P : ℕ → List ℕ → Type 0
    P k ds = HasNoEnd ds

    digit : (d : ℕ) → d < 10 → HasNoEnd ((48 + d) ∷ [])
    digit d lt =
        let other : eqb (48 + d) 10 ≡ false = ne_eqb _ _ (λ (e : 48 + d ≡ 10). absurd (omega arith)) in
        rw other refl

    one : (k : ℕ) → k < 10 → P k ((48 + k) ∷ [])
    one k lt = digit k lt

    more : (k : ℕ) (ds : List ℕ) → 10 ≤ k → P (k / 10) ds → P k (ds ++ ((48 + k % 10) ∷ []))
    more k ds ge before = HasNoEnd-append ds _ before (digit (k % 10) (omega arith))

short_field : (n : ℕ) → IsShort n → IsInLine 11 (field n)
short_field n short =
    record {
      width = omega (arith, length-decimal-le 10 n (omega arith) (omega arith) (omega arith));
      no_end = decimal_no_end n (omega arith);
    }

word_field : (n : ℕ) → n < 2 ^ 64 → IsInLine 21 (field n)
word_field n small =
    record { width = omega (arith, length-decimal-le 20 n (omega arith) (omega arith) small); no_end = decimal_no_end n small }

range_width : (word : List ℕ) (file from len : ℕ) → IsInLine 6 word → IsShort file × IsShort from × IsShort len
    → IsInLine 39 (((word ++ field file) ++ field from) ++ field len)
range_width word file from len w fits =
    joined 28 11 _ _ (joined 17 11 _ _ (joined 6 11 _ _ w (short_field file fits.0)) (short_field from fits.1)) (short_field len fits.2)

pub short_word : (word : List ℕ) → length word ≤ 6 → HasNoEnd word → IsInLine 6 word
short_word word width no_end = record { width = width; no_end = no_end }

op_width : (op : Op) → OpFits op → IsInLine 39 (op_text op)
op_width (Map file from len) fits = range_width _ file from len (short_word (codes "map") (omega arith) refl) fits
op_width (MapNoReserve file from len) fits = range_width _ file from len (short_word (codes "mapn") (omega arith) refl) fits
op_width (Unmap base) fits =
    wider 17 39 _ (omega arith) (joined 6 11 _ _ (short_word (codes "unmap") (omega arith) refl) (short_field base fits))
op_width (Load vpn) fits =
    wider 17 39 _ (omega arith) (joined 6 11 _ _ (short_word (codes "load") (omega arith) refl) (short_field vpn fits))
op_width (Store vpn word) fits =
    wider 38 39 _ (omega arith)
    (joined 17 21 _ _ (joined 6 11 _ _ (short_word (codes "store") (omega arith) refl) (short_field vpn fits.0))
    (word_field word fits.1))
op_width (Alloc file from len true) fits = range_width _ file from len (short_word (codes "allock") (omega arith) refl) fits
op_width (Alloc file from len false) fits = range_width _ file from len (short_word (codes "alloc") (omega arith) refl) fits
op_width (Punch file from len) fits = range_width _ file from len (short_word (codes "punch") (omega arith) refl) fits
op_width (Truncate file new) fits =
    wider 28 39 _ (omega arith)
    (joined 17 11 _ _ (joined 6 11 _ _ (short_word (codes "trunc") (omega arith) refl) (short_field file fits.0))
    (short_field new fits.1))
op_width Exit fits = wider 6 39 _ (omega arith) (short_word (codes "exit") (omega arith) refl)

pub step_width : (word : List ℕ) (task : ℕ) → IsInLine 6 word → IsShort task → IsInLine 56 (word ++ field task)
step_width word task w fits = wider 17 56 _ (omega arith) (joined 6 11 _ _ w (short_field task fits))

-- an event's text fits in a line
pub event_width : (event : Event) → EventFits event → IsInLine 56 (event_text event)
event_width (Begin task op) fits =
    joined 17 39 _ _ (joined 16 1 _ _ (joined 5 11 _ _ begin (short_field task fits.0)) space) (op_width op fits.1)
  where
    begin : IsInLine 5 (codes "begin")
    begin = record { width = omega arith; no_end = refl }

    space : IsInLine 1 (codes " ")
    space = record { width = omega arith; no_end = refl }
event_width (Step task true) fits = step_width (codes "step") task (short_word (codes "step") (omega arith) refl) fits
event_width (Step task false) fits = step_width (codes "deny") task (short_word (codes "deny") (omega arith) refl) fits
event_width (Kill task) fits = step_width (codes "kill") task (short_word (codes "kill") (omega arith) refl) fits
event_width (Resize frames) fits = step_width (codes "resize") frames (short_word (codes "resize") (omega arith) refl) fits

-- a quota's
quota_width : (quota : Option ℕ) → is_quota quota ≡ true → IsInLine 6 (quota_field quota)
quota_width None fits = record { width = omega arith; no_end = refl }
quota_width (Some n) fits =
    let few = leb-true n 65536 fits in
    record {
      width = omega (arith, length-decimal-le 5 n (omega arith) (omega arith) (omega arith));
      no_end = decimal_no_end n (omega arith);
    }

-- and so does a header's, behind any word of six bytes
pub head_width : (word : List ℕ) → IsInLine 6 word → (s : Sizes) → AreWithinLimits s
    → IsInLine 56 (word ++ field s.frames ++ field s.files ++ field s.slots ++ field s.tasks ++ quota_field s.quota)
head_width word short s within =
    let both = and_parts _ _ within in
    let p = and_parts _ _ both.0 in
    let q = and_parts _ _ p.0 in
    let r = and_parts _ _ q.0 in
    let frames = leb-true s.frames 4096 (and_parts _ _ r.0).1 in
    let files = leb-true s.files 16 (and_parts _ _ r.1).1 in
    let slots = leb-true s.slots 64 (and_parts _ _ q.1).1 in
    let tasks = leb-true s.tasks 64 (and_parts _ _ p.1).1 in
    joined 50 6 _ _ (joined 39 11 _ _ (range_width word s.frames s.files s.slots short
    (omega arith, omega arith, omega arith)) (short_field s.tasks (omega arith))) (quota_width s.quota both.1)

pub sizes_width : (s : Sizes) → AreWithinLimits s → IsInLine 56 (sizes_text s)
sizes_width s within = head_width (codes "pool") (short_word (codes "pool") (omega arith) refl) s within
