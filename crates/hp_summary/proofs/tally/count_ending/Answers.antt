-- The run ended as others did, or in a way that is kept from now on, or in another.
use Rattle.std.proofs.Common.{◌+◌, ◌∙◌, refl, sym, arith}
use Rattle.hp_summary.specs.Summaries.{EndsSo, IsOther, kept_of}
use Rattle.hp_summary.proofs.Counted.{count_few, ended_again, ended_anew, ended_otherwise}
use Rattle.hp_summary.proofs.tally.count_ending.Goals as goal

pub overflow_add-index_mut : goal.overflow_add-index_mut
overflow_add-index_mut c =
    let e = c.index_mut.result.now in
    let there = rw c.as_slice.ensures.value at c.in-Some.ensures.there in
    let its = rw (sym c.index_mut.ensures.value) at (c.requires.room.1.each c.in-Some.place e there) in
    omega (arith, count_few (EndsSo e.ended.items) c.requires.room.0 e.runs its.runs, c.requires.room.2)

pub overflow_add-other : goal.overflow_add-other
overflow_add-other c =
    omega (
      arith,
      count_few (IsOther (kept_of c.args.endings.now.items)) c.requires.room.0 c.args.other.now c.requires.room.1.other,
      c.requires.room.2,
    )

pub returns-in-Some : goal.returns-in-Some
returns-in-Some c = λ before facts long so are.
    let e = c.index_mut.result.now in
    ended_again before facts c.args.endings.now.items c.args.other.now are c.in-Some.place (e.runs + 1) e
    (record {
      there = rw c.as_slice.ensures.value at c.in-Some.ensures.there;
      same = λ d. (rw c.as_slice.ensures.value at (c.in-Some.ensures.same d)) ∙ sym so;
    }) c.index_mut.ensures.value refl

pub returns-in_ok-push-in-None : goal.returns-in_ok-push-in-None
returns-in_ok-push-in-None c = λ before facts long so are.
    let none = rw c.as_slice.ensures.value at (c.find_ending.ensures.none c.in-None.is) in
    let ended = c.in_ok-to_vec-in-None.ensures.items_if_clones_equal (λ x y h. h) in
    rw c.in_ok-push-in-None.ensures.items
    (ended_anew before facts c.args.endings.now.items c.args.other.now are (λ k d lt same. none k d lt (sym so ∙ same))
    (record { ended = c.in_ok-to_vec-in-None.field-0; runs = 1; first = c.args.run })
    (omega (arith, c.if-len-lt-MOST_ENDINGS.true, c.len.ensures, c.args.endings.now.ok.0)) (ended ∙ sym so) refl (sym long))

pub returns-else-len-lt-MOST_ENDINGS : goal.returns-else-len-lt-MOST_ENDINGS
returns-else-len-lt-MOST_ENDINGS c = λ before facts long so are.
    let none = rw c.as_slice.ensures.value at (c.find_ending.ensures.none c.in-None.is) in
    ended_otherwise before facts c.args.endings.now.items c.args.other.now are (λ k d lt same. none k d lt (sym so ∙ same))
    (omega (arith, are.few, c.if-len-lt-MOST_ENDINGS.false, c.len.ensures, c.args.endings.now.ok.0))
