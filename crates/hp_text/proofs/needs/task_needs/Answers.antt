-- One call more is counted, and what it waits for is listed where it is the task's.
use Rattle.std.proofs.Common.{◌≡◌, ◌<◌, ◌+◌, ℕ, List, [], ◌∷◌, ◌++◌, ap, sym, subst, ◌∙◌, arith, length, map, take, filter}
use Rattle.std.specs.Prelude.{Bool, true, false, ◌==◌, if◌then◌else◌}
use Rattle.std.proofs.lemmas.List.{append-nil, map_push}
use Rattle.hp_text.specs.declared.script.Wait.{Wait}
use Rattle.hp_text.specs.Needs.{is_wait_of, needs_at}
use Rattle.hp_text.specs.CountedCalls.{AreCounts, SplitsAt, counted_need}
use Rattle.hp_text.proofs.Counting.{counted_is, counts_at, counts_long, few_at, needs_more, front_few}
use Rattle.hp_text.proofs.needs.task_needs.Goals as goal
use Rattle.hp_text.proofs.needs.task_needs.Goals.{then-eq+in_ok-push, else-eq}

pub count_call-requires : goal.count_call-requires
count_call-requires c =
    λ k. omega (
      arith,
      few_at (take c.loop-call.call c.args.script.now.calls.items) c.loop-call.counts.items c.loop-call.invariant.counts k,
      front_few c.args.script.now.calls.items c.loop-call.call,
      c.loop-call-test.true,
      c.len-call-end.ensures,
    )

pub loop-call-preserved : goal.loop-call-preserved
loop-call-preserved c =
    let lines = c.args.script.now.calls.items in
    let waits = c.args.script.now.waits.items in
    let tasks = c.args.script.now.config.tasks in
    let t = c.args.task in
    let k = c.loop-call.call in
    let line = c.index.result.now in
    let counts = c.loop-call.counts.items in
    let old = c.loop-call.needs.items in
    let of_call = c.in_ok-of_call.of_call.items in
    let within : k < length lines = omega (arith, c.loop-call-test.true, c.len-call-end.ensures) in
    let is = sym c.index.ensures in
    let same_counts = c.as_slice-in-loop-call.ensures.value in
    let same_waits = c.as_slice.ensures.value in
    let found : of_call ≡ needs_at lines waits tasks k =
    c.in_ok-of_call.ensures.needs
    ∙ ((λ i. map (counted_need (same_counts i)) (filter (is_wait_of k (length (same_counts i))) (same_waits i)))
    ∙ (counted_is lines k counts waits c.loop-call.invariant.counts
    ∙ ap (λ (n : ℕ). needs_at lines waits n k) c.loop-call.invariant.long)) in
    let listed : (b : Bool) → (line.0 == t) ≡ b → map (λ v. v.items) old ++ (if b then of_call ∷ [] else [])
    ≡ map (λ v. v.items) old ++ (if line.0 == t then of_call ∷ [] else []) = λ b e. ap (λ (x : Bool). map (λ v. v.items) old
    ++ (if x then of_call ∷ [] else [])) (sym e) in
    record {
      needs =
          (elim c.if-eq.branch [
            | then-eq+in_ok-push w ↦ ap (λ v. map (λ n. n.items) v.items) w.needs-is
                ∙ (ap (map (λ n. n.items)) w.in_ok-push.ensures.items
                ∙ (map_push (λ n. n.items) old c.in_ok-of_call.of_call ∙ listed true (sym c.eq.ensures ∙ w.if-eq.true)))
            | else-eq w ↦ ap (λ v. map (λ n. n.items) v.items) w.needs-is
                ∙ (sym (append-nil (map (λ n. n.items) old)) ∙ listed false (sym c.eq.ensures ∙ w.if-eq.false))
          ])
          ∙ needs_more lines waits tasks k t line of_call (map (λ v. v.items) old) within is found c.loop-call.invariant.needs;
      counts =
          subst (λ (cs : List ℕ). AreCounts (take (k + 1) lines) cs) (sym c.count_call.ensures)
          (counts_at lines counts k line within is c.loop-call.invariant.counts);
      long = ap (λ (cs : List ℕ). length cs) c.count_call.ensures ∙ (counts_long counts line.0 ∙ c.loop-call.invariant.long);
      split = subst (λ (ws : List Wait). SplitsAt ws c.in_ok-of_call.next (k + 1)) same_waits c.in_ok-of_call.ensures.split;
    }
