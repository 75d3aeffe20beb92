-- What a bank keeps of its frames stays right.
use Rattle.std.proofs.Common.{◌≡◌, ℕ, ◌+◌, ◌<◌, ◌≤◌, ◌^◌, Bool, false, List, [], ◌∷◌, ◌++◌, length, set}
use Rattle.std.proofs.Common.{Option, Some, None, slice_get, arith, ap, refl, ◌∙◌}
use Rattle.std.proofs.lemmas.List.{length-set, length-append}
use Rattle.hp_base.specs.Indices.{count_below}
use Rattle.hp_base.proofs.Counting.{count_below_le}
use Rattle.hp_frames.specs.declared.frame.FrameState.{FrameState}
use Rattle.hp_frames.specs.declared.frame.FrameState.TheVariants as state
use Rattle.hp_frames.specs.declared.record.Chain.{Chain}
use Rattle.hp_frames.specs.declared.record.Record.{Record}
use Rattle.hp_frames.specs.declared.record.Record.TheVariants.{Free, Hand, Placed, Retired}
use Rattle.hp_frames.specs.Bank.{is_free, is_in_hand, is_retired, count_of, frame_at}
use Rattle.hp_frames.specs.Records.{state_of, states, next_of, record_at, IsKept, IsThreaded}
use Rattle.hp_frames.proofs.Chains.{count_more, count_moved, first_free, first_retired, given, given_more}
use Rattle.hp_frames.proofs.Chains.{none_threaded, passed, passed_more, taken}
use Rattle.hp_frames.proofs.Frames.{count_one, not_all}
use Rattle.hp_frames.proofs.States.{many}

-- there are more frames than are such, where one isn't
pub one_short : (p : FrameState → Bool) (rs : List Record) (x : ℕ) (s : FrameState) → slice_get (states rs) x ≡ Some s → p s ≡ false
    → count_of p (states rs) < length rs
one_short p rs x s at unlike = let short = not_all p (states rs) x s at unlike in omega (arith, short, many rs)

-- a chain has no more frames than there are
pub few : (rs : List Record) (chain : Chain) → IsThreaded is_free rs chain → chain.count ≤ length rs
unfolding count_of
few rs chain free =
    let most = count_below_le (λ x. is_free (frame_at (states rs) x)) (length (states rs)) in
    omega (arith, most, many rs, free.counted)

-- where a frame is in a hand, it is counted
pub some_hand : (rs : List Record) (x : ℕ) → slice_get (states rs) x ≡ Some state.Hand → 0 < count_of is_in_hand (states rs)
some_hand rs x at =
    let moved = count_moved is_in_hand rs (set rs x (Placed 0)) x state.Hand (Placed 0) refl at in omega (arith, moved)

-- a frame that is neither free nor retired goes where it is neither
pub moved_kept : (rs new : List Record) (free retired : Chain) (hands after x : ℕ) (s : FrameState) (r : Record) → new ≡ set rs x r
    → slice_get (states rs) x ≡ Some s → is_free s ≡ false → is_free (state_of r) ≡ false → is_retired s ≡ false
    → is_retired (state_of r) ≡ false → after + count_one is_in_hand s ≡ hands + count_one is_in_hand (state_of r)
    → IsKept rs free retired hands → IsKept new free retired after
moved_kept rs new free retired hands after x s r is at not_free still_not not_retired nor count kept =
    let long : length new ≡ length rs = ap length is ∙ length-set rs x r in
    let moved = count_moved is_in_hand rs new x s r is at in
    record {
      free = passed is_free rs new free x s r is at not_free still_not kept.free;
      retired = passed is_retired rs new retired x s r is at not_retired nor kept.retired;
      in_hands = omega (arith, count, moved, kept.in_hands);
      numbered = omega (arith, long, kept.numbered);
    }

-- the first free frame comes into a hand
pub taken_kept : (rs seen new : List Record) (free rest retired : Chain) (hands after x : ℕ) → seen ≡ rs
    → new ≡ set rs x Hand → free.first ≡ Some x
    → rest.first ≡ next_of (record_at seen x) → rest.count + 1 ≡ free.count → after ≡ hands + 1 → IsKept rs free retired hands
    → IsKept new rest retired after
taken_kept rs seen new free rest retired hands after x same is first next less more kept =
    let long : length new ≡ length rs = ap length is ∙ length-set rs x Hand in
    let second : rest.first ≡ next_of (record_at rs x) = next ∙ ap (λ (ss : List Record). next_of (record_at ss x)) same in
    let at = first_free rs free x first kept.free in
    let moved = count_moved is_in_hand rs new x state.Free Hand is at in
    record {
      free = taken is_free rs new free rest x state.Free Hand is at refl refl first second less kept.free;
      retired = passed is_retired rs new retired x state.Free Hand is at refl refl kept.retired;
      in_hands = omega (arith, moved, kept.in_hands, more);
      numbered = omega (arith, long, kept.numbered);
    }

-- a frame that was in a hand is free
pub given_kept : (rs new : List Record) (free longer retired : Chain) (hands after x : ℕ) (next : Option ℕ) → new ≡ set rs x (Free next)
    → slice_get (states rs) x ≡ Some state.Hand → next ≡ free.first → longer.first ≡ Some x → longer.count ≡ free.count + 1
    → after + 1 ≡ hands → IsKept rs free retired hands → IsKept new longer retired after
given_kept rs new free longer retired hands after x next is at names first more fewer kept =
    let long : length new ≡ length rs = ap length is ∙ length-set rs x (Free next) in
    let moved = count_moved is_in_hand rs new x state.Hand (Free next) is at in
    record {
      free = given is_free rs new free longer x state.Hand (Free next) is at refl refl names first more kept.free;
      retired = passed is_retired rs new retired x state.Hand (Free next) is at refl refl kept.retired;
      in_hands = omega (arith, moved, kept.in_hands, fewer);
      numbered = omega (arith, long, kept.numbered);
    }

-- the first free frame is retired
pub retired_kept : (rs seen new : List Record) (free rest retired longer : Chain) (hands x : ℕ) (next : Option ℕ)
    → seen ≡ rs → new ≡ set rs x (Retired next) → free.first ≡ Some x
    → rest.first ≡ next_of (record_at seen x) → rest.count + 1 ≡ free.count
    → next ≡ retired.first → longer.first ≡ Some x → longer.count ≡ retired.count + 1 → IsKept rs free retired hands
    → IsKept new rest longer hands
retired_kept rs seen new free rest retired longer hands x next same is first after less names before more kept =
    let long : length new ≡ length rs = ap length is ∙ length-set rs x (Retired next) in
    let second : rest.first ≡ next_of (record_at rs x) = after ∙ ap (λ (ss : List Record). next_of (record_at ss x)) same in
    let at = first_free rs free x first kept.free in
    let moved = count_moved is_in_hand rs new x state.Free (Retired next) is at in
    record {
      free = taken is_free rs new free rest x state.Free (Retired next) is at refl refl first second less kept.free;
      retired = given is_retired rs new retired longer x state.Free (Retired next) is at refl refl names before more kept.retired;
      in_hands = omega (arith, moved, kept.in_hands);
      numbered = omega (arith, long, kept.numbered);
    }

-- the first retired frame is free again
pub returned_kept : (rs seen new : List Record) (free longer retired rest : Chain) (hands x : ℕ) (next : Option ℕ)
    → seen ≡ rs → new ≡ set rs x (Free next) → retired.first ≡ Some x
    → rest.first ≡ next_of (record_at seen x) → rest.count + 1 ≡ retired.count
    → next ≡ free.first → longer.first ≡ Some x → longer.count ≡ free.count + 1 → IsKept rs free retired hands
    → IsKept new longer rest hands
returned_kept rs seen new free longer retired rest hands x next same is first after less names before more kept =
    let long : length new ≡ length rs = ap length is ∙ length-set rs x (Free next) in
    let second : rest.first ≡ next_of (record_at rs x) = after ∙ ap (λ (ss : List Record). next_of (record_at ss x)) same in
    let at = first_retired rs retired x first kept.retired in
    let moved = count_moved is_in_hand rs new x state.Retired (Free next) is at in
    record {
      free = given is_free rs new free longer x state.Retired (Free next) is at refl refl names before more kept.free;
      retired = taken is_retired rs new retired rest x state.Retired (Free next) is at refl refl first second less kept.retired;
      in_hands = omega (arith, moved, kept.in_hands);
      numbered = omega (arith, long, kept.numbered);
    }

-- one more free frame comes in, behind the others
pub added_kept : (rs new : List Record) (free longer retired : Chain) (hands : ℕ) (next : Option ℕ) → new ≡ rs ++ Free next ∷ []
    → next ≡ free.first → longer.first ≡ Some (length rs) → longer.count ≡ free.count + 1 → length rs + 1 < 2 ^ 32
    → IsKept rs free retired hands → IsKept new longer retired hands
added_kept rs new free longer retired hands next is names first more fits kept =
    let long : length new ≡ length rs + 1 = ap length is ∙ length-append rs (Free next ∷ []) in
    let count = count_more is_in_hand rs new (Free next) is in
    record {
      free = given_more is_free rs new free longer (Free next) is refl names first more kept.free;
      retired = passed_more is_retired rs new retired (Free next) is refl kept.retired;
      in_hands = omega (arith, count, kept.in_hands);
      numbered = omega (arith, long, fits);
    }

-- a bank without frames
pub none_kept : (rs : List Record) (free retired : Chain) → rs ≡ [] → free.first ≡ None → free.count ≡ 0 → retired.first ≡ None
    → retired.count ≡ 0 → IsKept rs free retired 0
unfolding count_of count_below
none_kept rs free retired empty no_free none_free no_retired none_retired = record {
  free = none_threaded is_free rs free empty no_free none_free;
  retired = none_threaded is_retired rs retired empty no_retired none_retired;
  in_hands = rw empty refl;
  numbered = rw empty (omega arith);
}
