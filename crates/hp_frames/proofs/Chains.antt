-- Chains of frames after one record changes, or one comes in behind the others.
use Rattle.std.proofs.Common.{◌≡◌, ◌≢◌, ℕ, suc, ◌+◌, ◌<◌, Bool, true, false, cond, List, [], ◌∷◌, ◌++◌, length, set}
use Rattle.std.proofs.Common.{Option, Some, None, IsSomeAnd, slice_get, arith, ap, refl, ◌∙◌, subst, sym, true≢false}
use Rattle.std.specs.Prelude.{nat_eq}
use Rattle.std.specs.List.{list_any}
use Rattle.std.proofs.lemmas.Option.{slice_get_within, same_Some, none-some}
use Rattle.std.proofs.lemmas.List.{length-set, length-append, get_or_append_left, get_or_at}
use Rattle.std.proofs.lemmas.List.{get_or-set_same, get_or-set_other}
use Rattle.std.proofs.lemmas.Grind.{common_steps}
use Rattle.std.proofs.lemmas.Bool.Decides.{nat_tests}
use Rattle.hp_base.specs.Indices.{count_below}
use Rattle.hp_frames.specs.declared.frame.FrameState.{FrameState}
use Rattle.hp_frames.specs.declared.frame.FrameState.TheVariants as state
use Rattle.hp_frames.specs.declared.record.Chain.{Chain}
use Rattle.hp_frames.specs.declared.record.Record.{Record}
use Rattle.hp_frames.specs.declared.record.Record.TheVariants.{Hand}
use Rattle.hp_frames.specs.Bank.{is_free, is_retired, frame_at, count_of, AreThose}
use Rattle.hp_frames.specs.Records.{state_of, states, next_of, record_at, chained, AreLinked, AreWithin, HasFirst, IsThreaded}
use Rattle.hp_frames.proofs.Frames.{at_is, at_other, at_same, count_after, count_one, free_is, is_at, retired_is}
use Rattle.hp_frames.proofs.States.{many, states_more, states_set, within}
use Rattle.hp_frames.proofs.Resizing.{at_end, count_next, those_left}

-- a count after one record changes
pub count_moved : (p : FrameState → Bool) (rs new : List Record) (x : ℕ) (s : FrameState) (r : Record) → new ≡ set rs x r
    → slice_get (states rs) x ≡ Some s → count_of p (states new) + count_one p s ≡ count_of p (states rs) + count_one p (state_of r)
count_moved p rs new x s r is at = subst
    (λ (fs : List FrameState). count_of p fs + count_one p s ≡ count_of p (states rs) + count_one p (state_of r))
    (sym (states_set rs new x r is))
    (count_after p (states rs) x s (state_of r) at)

one_of : (p : FrameState → Bool) (s : FrameState) → p s ≡ true → count_one p s ≡ 1
one_of p s like = ap {B = ℕ} (λ (b : Bool). cond b 1 0) like

none_of : (p : FrameState → Bool) (s : FrameState) → p s ≡ false → count_one p s ≡ 0
none_of p s unlike = ap {B = ℕ} (λ (b : Bool). cond b 1 0) unlike

-- a frame of which it doesn't hold is none of those
pub absent : (p : FrameState → Bool) (fs : List FrameState) (xs : List ℕ) (x : ℕ) → p (frame_at fs x) ≡ false → AreThose p fs xs
    → list_any (nat_eq x) xs ≡ false
absent p fs [] x unlike those = refl
absent p fs (y ∷ ys) x unlike those =
    let other : y ≢ x = λ same. true≢false (sym those.1 ∙ (ap (λ (i : ℕ). p (frame_at fs i)) same ∙ unlike)) in
    let rest = absent p fs ys x unlike those.3 in grind (arith, common_steps, nat_tests)

-- a number that is none of these is not their first, and none of the others
apart : (x y : ℕ) (ys : List ℕ) → list_any (nat_eq x) (y ∷ ys) ≡ false → (y ≢ x) × (list_any (nat_eq x) ys ≡ false)
apart x y ys none = (λ same. grind (arith, common_steps, nat_tests), grind (arith, common_steps, nat_tests))

-- those frames stay where another goes elsewhere
other_those : (p : FrameState → Bool) (fs : List FrameState) (xs : List ℕ) (x : ℕ) (t : FrameState) → list_any (nat_eq x) xs ≡ false
    → AreThose p fs xs → AreThose p (set fs x t) xs
other_those p fs [] x t none those = tt
other_those p fs (y ∷ ys) x t none those =
    let other = apart x y ys none in (
      rw length-set those.0,
      ap p (at_other fs x y t other.0) ∙ those.1,
      those.2,
      other_those p fs ys x t other.1 those.3,
    )

-- frames stay linked where the record of another changes
other_linked : (rs : List Record) (first : Option ℕ) (xs : List ℕ) (x : ℕ) (r : Record) → list_any (nat_eq x) xs ≡ false
    → AreLinked rs first xs → AreLinked (set rs x r) first xs
other_linked rs first [] x r none linked = linked
other_linked rs first (y ∷ ys) x r none linked =
    let other = apart x y ys none in (
      linked.0,
      subst
          (λ (s : Record). AreLinked (set rs x r) (next_of s) ys)
          (sym (get_or-set_other rs x y r Hand other.0))
          (other_linked rs (next_of (record_at rs y)) ys x r other.1 linked.1),
    )

-- the same of a chain
unlinked : (p : FrameState → Bool) (rs new : List Record) (first : Option ℕ) (xs : List ℕ) (x : ℕ) (r : Record) → new ≡ set rs x r
    → list_any (nat_eq x) xs ≡ false → AreLinked rs first xs → AreThose p (states rs) xs
    → AreLinked new first xs × AreThose p (states new) xs
unlinked p rs new first xs x r is none linked those = (
  rw is (other_linked rs first xs x r none linked),
  rw (states_set rs new x r is) (other_those p (states rs) xs x (state_of r) none those),
)

-- a frame goes elsewhere, and was and is in no chain of these
pub passed : (p : FrameState → Bool) (rs new : List Record) (chain : Chain) (x : ℕ) (s : FrameState) (r : Record) → new ≡ set rs x r
    → slice_get (states rs) x ≡ Some s → p s ≡ false → p (state_of r) ≡ false → IsThreaded p rs chain → IsThreaded p new chain
passed p rs new chain x s r is at unlike gone old =
    let count = count_moved p rs new x s r is at in
    let was = none_of p s unlike in
    let now = none_of p (state_of r) gone in
    let none = absent p (states rs) old.listed x (ap p (at_is (states rs) x s at) ∙ unlike) old.those in
    let after = unlinked p rs new chain.first old.listed x r is none old.linked old.those in
    record {
      listed = old.listed;
      linked = after.0;
      those = after.1;
      all = omega (arith, old.all, count, was, now);
      counted = omega (arith, old.counted, count, was, now);
    }

-- it comes before the others
pub given : (p : FrameState → Bool) (rs new : List Record) (chain longer : Chain) (x : ℕ) (s : FrameState) (r : Record) → new ≡ set rs x r
    → slice_get (states rs) x ≡ Some s → p s ≡ false → p (state_of r) ≡ true → next_of r ≡ chain.first → longer.first ≡ Some x
    → longer.count ≡ chain.count + 1 → IsThreaded p rs chain → IsThreaded p new longer
given p rs new chain longer x s r is at unlike like names first more old =
    let count = count_moved p rs new x s r is at in
    let was = none_of p s unlike in
    let now = one_of p (state_of r) like in
    let none = absent p (states rs) old.listed x (ap p (at_is (states rs) x s at) ∙ unlike) old.those in
    let after = unlinked p rs new chain.first old.listed x r is none old.linked old.those in
    let below = within rs x s at in
    let there : record_at new x ≡ r = ap (λ (ss : List Record). record_at ss x) is ∙ get_or-set_same rs x r Hand below in
    let next : next_of (record_at new x) ≡ chain.first = ap next_of there ∙ names in
    let place : frame_at (states new) x ≡ state_of r =
    ap (λ (fs : List FrameState). frame_at fs x) (states_set rs new x r is)
    ∙ at_same (states rs) x (state_of r) (slice_get_within (states rs) x s at) in
    let long : length new ≡ length rs = ap length is ∙ length-set rs x r in
    record {
      listed = x ∷ old.listed;
      linked = (first, subst (λ (f : Option ℕ). AreLinked new f old.listed) (sym next) after.0);
      those = (omega (arith, below, long, many new), ap p place ∙ like, none, after.1);
      all = omega (arith, old.all, count, was, now);
      counted = omega (arith, old.counted, count, was, now, more);
    }

-- the first of the frames that are linked
first_of : (rs : List Record) (first : Option ℕ) (xs : List ℕ) (x : ℕ) → first ≡ Some x → AreLinked rs first xs
    → (rest : List ℕ) × (xs ≡ x ∷ rest) × AreLinked rs (next_of (record_at rs x)) rest
first_of rs first [] x is linked = absurd (none-some x (sym linked ∙ is))
first_of rs first (y ∷ ys) x is linked =
    let same : y ≡ x = same_Some y x (sym linked.0 ∙ is) in
    (ys, ap (λ (i : ℕ). i ∷ ys) same, subst (λ (i : ℕ). AreLinked rs (next_of (record_at rs i)) ys) same linked.1)

-- it is one of those
pub first_is : (p : FrameState → Bool) (rs : List Record) (chain : Chain) (x : ℕ) → chain.first ≡ Some x → IsThreaded p rs chain
    → (x < length (states rs)) × (p (frame_at (states rs) x) ≡ true)
first_is p rs chain x is old =
    let first = first_of rs chain.first old.listed x is old.linked in
    let those : AreThose p (states rs) (x ∷ first.0) = subst (λ (xs : List ℕ). AreThose p (states rs) xs) first.1 old.those in
    (those.0, those.1)

pub first_free : (rs : List Record) (chain : Chain) (x : ℕ) → chain.first ≡ Some x → IsThreaded is_free rs chain
    → slice_get (states rs) x ≡ Some state.Free
first_free rs chain x is old =
    let first = first_is is_free rs chain x is old in is_at (states rs) x state.Free first.0 (free_is _ first.1)

pub first_retired : (rs : List Record) (chain : Chain) (x : ℕ) → chain.first ≡ Some x → IsThreaded is_retired rs chain
    → slice_get (states rs) x ≡ Some state.Retired
first_retired rs chain x is old =
    let first = first_is is_retired rs chain x is old in is_at (states rs) x state.Retired first.0 (retired_is _ first.1)

-- it is taken
pub taken : (p : FrameState → Bool) (rs new : List Record) (chain rest : Chain) (x : ℕ) (s : FrameState) (r : Record) → new ≡ set rs x r
    → slice_get (states rs) x ≡ Some s → p s ≡ true → p (state_of r) ≡ false → chain.first ≡ Some x
    → rest.first ≡ next_of (record_at rs x) → rest.count + 1 ≡ chain.count → IsThreaded p rs chain → IsThreaded p new rest
taken p rs new chain rest x s r is at like gone first next less old =
    let count = count_moved p rs new x s r is at in
    let was = one_of p s like in
    let now = none_of p (state_of r) gone in
    let front = first_of rs chain.first old.listed x first old.linked in
    let those : AreThose p (states rs) (x ∷ front.0) = subst (λ (xs : List ℕ). AreThose p (states rs) xs) front.1 old.those in
    let linked : AreLinked rs rest.first front.0 = subst (λ (f : Option ℕ). AreLinked rs f front.0) (sym next) front.2 in
    let after = unlinked p rs new rest.first front.0 x r is those.2 linked those.3 in
    let long : length old.listed ≡ suc (length front.0) = ap length front.1 in
    record {
      listed = front.0;
      linked = after.0;
      those = after.1;
      all = omega (arith, long, old.all, count, was, now);
      counted = omega (arith, old.counted, count, was, now, less);
    }

-- a chain that counts some frames has a first one
has_first_of : (p : FrameState → Bool) (rs : List Record) (first : Option ℕ) (xs : List ℕ) → AreLinked rs first xs
    → AreThose p (states rs) xs → 0 < length xs → IsSomeAnd first (λ x. x < length rs)
has_first_of p rs first [] linked those some = absurd (omega arith)
has_first_of p rs first (x ∷ xs) linked those some =
    let below = those.0 in rw linked.0 (omega (arith, below, many rs))

pub has_first : (p : FrameState → Bool) (rs seen : List Record) (chain : Chain) → seen ≡ rs → 0 < chain.count → IsThreaded p rs chain
    → HasFirst chain (length seen)
has_first p rs seen chain same some old =
    rw same (some, has_first_of p rs chain.first old.listed old.linked old.those (omega (arith, some, old.all, old.counted)))

-- those frames are there
within_those : (p : FrameState → Bool) (rs : List Record) (xs : List ℕ) → AreThose p (states rs) xs → AreWithin (length rs) xs
within_those p rs [] those = tt
within_those p rs (x ∷ xs) those = let below = those.0 in (omega (arith, below, many rs), within_those p rs xs those.3)

-- frames stay linked with other records behind theirs
left_linked : (rs ss : List Record) (first : Option ℕ) (xs : List ℕ) → AreWithin (length rs) xs → AreLinked rs first xs
    → AreLinked (rs ++ ss) first xs
left_linked rs ss first [] below linked = linked
left_linked rs ss first (x ∷ xs) below linked = (
  linked.0,
  subst
      (λ (s : Record). AreLinked (rs ++ ss) (next_of s) xs)
      (sym (get_or_append_left rs ss Hand x below.0))
      (left_linked rs ss (next_of (record_at rs x)) xs below.1 linked.1),
)

-- a number that is past these is none of them
past : (n : ℕ) (xs : List ℕ) → AreWithin n xs → list_any (nat_eq n) xs ≡ false
past n [] below = refl
past n (x ∷ xs) below =
    let first : x < n = below.0 in
    let rest = past n xs below.1 in grind (arith, common_steps, nat_tests)

-- the same of the frames of a chain
behind : (p : FrameState → Bool) (rs new : List Record) (first : Option ℕ) (xs : List ℕ) (r : Record) → new ≡ rs ++ r ∷ []
    → AreLinked rs first xs → AreThose p (states rs) xs → AreLinked new first xs × AreThose p (states new) xs
behind p rs new first xs r is linked those = (
  rw is (left_linked rs (r ∷ []) first xs (within_those p rs xs those) linked),
  rw (states_more rs new r is) (those_left p (states rs) (state_of r ∷ []) xs those),
)

pub count_more : (p : FrameState → Bool) (rs new : List Record) (r : Record) → new ≡ rs ++ r ∷ []
    → count_of p (states new) ≡ count_of p (states rs) + count_one p (state_of r)
count_more p rs new r is = ap (count_of p) (states_more rs new r is) ∙ count_next p (states rs) (state_of r)

-- a chain stays as it is where one more frame comes in that isn't of these
pub passed_more : (p : FrameState → Bool) (rs new : List Record) (chain : Chain) (r : Record) → new ≡ rs ++ r ∷ []
    → p (state_of r) ≡ false → IsThreaded p rs chain → IsThreaded p new chain
passed_more p rs new chain r is unlike old =
    let count = count_more p rs new r is in
    let now = none_of p (state_of r) unlike in
    let after = behind p rs new chain.first old.listed r is old.linked old.those in
    record {
      listed = old.listed;
      linked = after.0;
      those = after.1;
      all = omega (arith, old.all, count, now);
      counted = omega (arith, old.counted, count, now);
    }

-- one more frame comes in before the others of a chain
pub given_more : (p : FrameState → Bool) (rs new : List Record) (chain longer : Chain) (r : Record) → new ≡ rs ++ r ∷ []
    → p (state_of r) ≡ true → next_of r ≡ chain.first → longer.first ≡ Some (length rs) → longer.count ≡ chain.count + 1
    → IsThreaded p rs chain → IsThreaded p new longer
given_more p rs new chain longer r is like names first more old =
    let count = count_more p rs new r is in
    let now = one_of p (state_of r) like in
    let after = behind p rs new chain.first old.listed r is old.linked old.those in
    let there : record_at new (length rs) ≡ r =
    ap (λ (ss : List Record). record_at ss (length rs)) is ∙ get_or_at rs r [] Hand (length rs) refl in
    let next : next_of (record_at new (length rs)) ≡ chain.first = ap next_of there ∙ names in
    let place : frame_at (states new) (length rs) ≡ state_of r =
    ap (λ (fs : List FrameState). frame_at fs (length rs)) (states_more rs new r is)
    ∙ subst (λ (n : ℕ). frame_at (states rs ++ state_of r ∷ []) n ≡ state_of r) (many rs) (at_end (states rs) (state_of r)) in
    let long : length new ≡ length rs + 1 = ap length is ∙ length-append rs (r ∷ []) in
    record {
      listed = length rs ∷ old.listed;
      linked = (first, subst (λ (f : Option ℕ). AreLinked new f old.listed) (sym next) after.0);
      those = (
        omega (arith, long, many new),
        ap p place ∙ like,
        past (length rs) old.listed (within_those p rs old.listed old.those),
        after.1,
      );
      all = omega (arith, old.all, count, now);
      counted = omega (arith, old.counted, count, now, more);
    }

-- no records, no frames
pub none_threaded : (p : FrameState → Bool) (rs : List Record) (chain : Chain) → rs ≡ [] → chain.first ≡ None → chain.count ≡ 0
    → IsThreaded p rs chain
unfolding count_of count_below
none_threaded p rs chain empty first count = rw empty (record {
  listed = [];
  linked = first;
  those = tt;
  all = refl;
  counted = count;
})

-- whoever goes over the frames that are linked meets all of them
chained_linked : (rs : List Record) (first : Option ℕ) (xs : List ℕ) → AreLinked rs first xs → chained rs (length xs) first ≡ xs
chained_linked rs first [] linked = refl
chained_linked rs first (x ∷ xs) linked =
    rw linked.0 (ap (λ (ys : List ℕ). x ∷ ys) (chained_linked rs (next_of (record_at rs x)) xs linked.1))

-- and those of a chain are these
pub chained_all : (p : FrameState → Bool) (rs seen : List Record) (chain : Chain) → seen ≡ rs → IsThreaded p rs chain → record {
  those : AreThose p (states rs) (chained seen chain.count chain.first);
  count : length (chained seen chain.count chain.first) ≡ count_of p (states rs);
  within : AreWithin (length seen) (chained seen chain.count chain.first);
  counted : length (chained seen chain.count chain.first) ≡ chain.count;
}
chained_all p rs seen chain same old =
    let many : chain.count ≡ length old.listed = old.counted ∙ sym old.all in
    let is : chained seen chain.count chain.first ≡ old.listed =
    ap (λ (ss : List Record). chained ss chain.count chain.first) same
    ∙ (ap (λ (n : ℕ). chained rs n chain.first) many ∙ chained_linked rs chain.first old.listed old.linked) in
    rw (is, same) (record {
      those = old.those;
      count = old.all;
      within = within_those p rs old.listed old.those;
      counted = sym many;
    })

-- one frame further
pub chained_next : (rs : List Record) (many fewer : ℕ) (first next : Option ℕ) (x : ℕ) → first ≡ Some x → next ≡ next_of (record_at rs x)
    → fewer + 1 ≡ many → chained rs many first ≡ x ∷ chained rs fewer next
chained_next rs many fewer first next x is second less =
    let more : suc fewer ≡ many = omega (arith, less) in
    rw (is, second) (subst
    (λ (n : ℕ). chained rs n (Some x) ≡ x ∷ chained rs fewer (next_of (record_at rs x)))
    more
    refl)
