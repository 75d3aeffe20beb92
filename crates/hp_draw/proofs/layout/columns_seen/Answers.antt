use Rattle.std.proofs.lemmas.Grind.{common_steps}
use Rattle.std.proofs.Common.{arith, ◌≡◌, ℕ, ◌+◌, ◌⊎◌, inl, inr, All, get_or, length-set, subst, sym, take, ◌<◌, ◌∙◌}
use Rattle.std.specs.Prelude.{Any, IsTrue, false}
use Rattle.std.proofs.lemmas.List.Elements.{All-nil}
use Rattle.hp_draw.specs.declared.following.Mark.{Mark}
use Rattle.hp_draw.specs.declared.following.Stay.{Stay}
use Rattle.hp_draw.specs.declared.waits.Wait.{Wait}
use Rattle.hp_draw.proofs.Others.{no_other, none_found, stands_in_all, stands_now, stands_still}
use Rattle.hp_draw.proofs.Placing.{all_found, all_still, one_found, written}
use Rattle.hp_draw.proofs.layout.columns_seen.Goals as goal

pub loop-stay-init : goal.loop-stay-init
loop-stay-init c = (
  grind (arith, common_steps),
  All-nil (λ (s : Stay). IsTrue (get_or c.loop-column.seen.items s.column false)),
  λ k there. absurd (none_found _ k (subst (λ bs. IsTrue (get_or bs k false)) c.loop-column.invariant there)),
)

pub loop-stay-preserved : goal.loop-stay-preserved
loop-stay-preserved c =
    let back = written c.loop-stay.seen.len c.stay-item.result.column c.loop-stay.seen.items c.as_mut_slice.result.now c.appear.new.seen
    c.as_mut_slice.ensures.value c.loop-stay.seen.ok.0 c.appear.ensures in
    rw back (
      length-set c.loop-stay.seen.items c.stay-item.result.column _ ∙ c.loop-stay.invariant.0,
      one_found (λ (s : Stay). s.column) c.args.sketch.now.stays.items c.deref-stay-items.result.now c.loop-stay.stay-index
          c.stay-item.result
          c.loop-stay.seen.items c.deref-stay-items.ensures.value c.loop-stay-test.true c.stay-item.is
          (subst (λ (n : ℕ). All (λ (s : Stay). s.column < n) c.args.sketch.now.stays.items) (sym c.loop-stay.invariant.0) c.requires.stays)
          c.loop-stay.invariant.1,
      no_other c.loop-stay.seen.items c.stay-item.result.column
          (λ k. Any (λ (s : Stay). s.column ≡ k) (take c.loop-stay.stay-index c.args.sketch.now.stays.items))
          (λ k. Any (λ (s : Stay). s.column ≡ k) (take (c.loop-stay.stay-index + 1) c.args.sketch.now.stays.items))
          (λ k had. stands_still (λ (s : Stay). s.column) c.args.sketch.now.stays.items c.deref-stay-items.result.now c.loop-stay.stay-index
          c.stay-item.result k c.deref-stay-items.ensures.value c.loop-stay-test.true had)
          (stands_now (λ (s : Stay). s.column) c.args.sketch.now.stays.items c.deref-stay-items.result.now c.loop-stay.stay-index
          c.stay-item.result c.deref-stay-items.ensures.value c.loop-stay-test.true c.stay-item.is)
          c.loop-stay.invariant.2,
    )

pub loop-mark-init : goal.loop-mark-init
loop-mark-init c = (
  c.loop-stay.invariant.0,
  all_found (λ (s : Stay). IsTrue (get_or c.loop-stay.seen.items s.column false)) c.args.sketch.now.stays.items
      c.deref-stay-items.result.now c.loop-stay.stay-index c.deref-stay-items.ensures.value c.loop-stay-test.false c.loop-stay.invariant.1,
  All-nil (λ (m : Mark). IsTrue (get_or c.loop-stay.seen.items m.column false)),
  λ k there. inl (stands_in_all (λ (s : Stay). s.column) c.args.sketch.now.stays.items c.deref-stay-items.result.now c.loop-stay.stay-index k
      c.deref-stay-items.ensures.value c.loop-stay-test.false (c.loop-stay.invariant.2 k there)),
)

pub loop-mark-preserved : goal.loop-mark-preserved
loop-mark-preserved c =
    let back = written c.loop-mark.seen.len c.mark-item.result.column c.loop-mark.seen.items c.as_mut_slice-in-loop-mark.result.now
    c.appear-in-loop-mark.new.seen c.as_mut_slice-in-loop-mark.ensures.value c.loop-mark.seen.ok.0 c.appear-in-loop-mark.ensures in
    rw back (
      length-set c.loop-mark.seen.items c.mark-item.result.column _ ∙ c.loop-mark.invariant.0,
      all_still (λ (s : Stay). s.column) c.args.sketch.now.stays.items c.loop-mark.seen.items c.mark-item.result.column
          c.loop-mark.invariant.1,
      one_found (λ (m : Mark). m.column) c.args.sketch.now.marks.items c.deref-mark-items.result.now c.loop-mark.mark-index
          c.mark-item.result
          c.loop-mark.seen.items c.deref-mark-items.ensures.value c.loop-mark-test.true c.mark-item.is
          (subst (λ (n : ℕ). All (λ (m : Mark). m.column < n) c.args.sketch.now.marks.items) (sym c.loop-mark.invariant.0) c.requires.marks)
          c.loop-mark.invariant.2,
      no_other c.loop-mark.seen.items c.mark-item.result.column
          (λ k. Any (λ (s : Stay). s.column ≡ k) c.args.sketch.now.stays.items
          ⊎ Any (λ (m : Mark). m.column ≡ k) (take c.loop-mark.mark-index c.args.sketch.now.marks.items))
          (λ k. Any (λ (s : Stay). s.column ≡ k) c.args.sketch.now.stays.items
          ⊎ Any (λ (m : Mark). m.column ≡ k) (take (c.loop-mark.mark-index + 1) c.args.sketch.now.marks.items))
          (λ k had. elim had [
            | inl stay ↦ inl stay
            | inr mark ↦ inr (stands_still (λ (m : Mark). m.column) c.args.sketch.now.marks.items c.deref-mark-items.result.now
                c.loop-mark.mark-index c.mark-item.result k c.deref-mark-items.ensures.value c.loop-mark-test.true mark)
          ])
          (inr (stands_now (λ (m : Mark). m.column) c.args.sketch.now.marks.items c.deref-mark-items.result.now c.loop-mark.mark-index
          c.mark-item.result c.deref-mark-items.ensures.value c.loop-mark-test.true c.mark-item.is))
          c.loop-mark.invariant.3,
    )

pub loop-wait-init : goal.loop-wait-init
loop-wait-init c = (
  c.loop-mark.invariant.0,
  c.loop-mark.invariant.1,
  all_found (λ (m : Mark). IsTrue (get_or c.loop-mark.seen.items m.column false)) c.args.sketch.now.marks.items
      c.deref-mark-items.result.now c.loop-mark.mark-index c.deref-mark-items.ensures.value c.loop-mark-test.false c.loop-mark.invariant.2,
  All-nil (λ (w : Wait). IsTrue (get_or c.loop-mark.seen.items w.column false)),
  λ k there. elim (c.loop-mark.invariant.3 k there) [
    | inl stay ↦ inl stay
    | inr mark ↦ inr (inl (stands_in_all (λ (m : Mark). m.column) c.args.sketch.now.marks.items c.deref-mark-items.result.now
        c.loop-mark.mark-index k c.deref-mark-items.ensures.value c.loop-mark-test.false mark))
  ],
)

pub loop-wait-preserved : goal.loop-wait-preserved
loop-wait-preserved c =
    let back = written c.loop-wait.seen.len c.wait-item.result.column c.loop-wait.seen.items c.as_mut_slice-in-loop-wait.result.now
    c.appear-in-loop-wait.new.seen c.as_mut_slice-in-loop-wait.ensures.value c.loop-wait.seen.ok.0 c.appear-in-loop-wait.ensures in
    rw back (
      length-set c.loop-wait.seen.items c.wait-item.result.column _ ∙ c.loop-wait.invariant.0,
      all_still (λ (s : Stay). s.column) c.args.sketch.now.stays.items c.loop-wait.seen.items c.wait-item.result.column
          c.loop-wait.invariant.1,
      all_still (λ (m : Mark). m.column) c.args.sketch.now.marks.items c.loop-wait.seen.items c.wait-item.result.column
          c.loop-wait.invariant.2,
      one_found (λ (w : Wait). w.column) c.args.sketch.now.waits.ended.items c.deref-wait-items.result.now c.loop-wait.wait-index
          c.wait-item.result
          c.loop-wait.seen.items c.deref-wait-items.ensures.value c.loop-wait-test.true c.wait-item.is
          (subst (λ (n : ℕ). All (λ (w : Wait). w.column < n) c.args.sketch.now.waits.ended.items) (sym c.loop-wait.invariant.0)
          c.requires.waits)
          c.loop-wait.invariant.3,
      no_other c.loop-wait.seen.items c.wait-item.result.column
          (λ k. Any (λ (s : Stay). s.column ≡ k) c.args.sketch.now.stays.items
          ⊎ Any (λ (m : Mark). m.column ≡ k) c.args.sketch.now.marks.items
          ⊎ Any (λ (w : Wait). w.column ≡ k) (take c.loop-wait.wait-index c.args.sketch.now.waits.ended.items))
          (λ k. Any (λ (s : Stay). s.column ≡ k) c.args.sketch.now.stays.items
          ⊎ Any (λ (m : Mark). m.column ≡ k) c.args.sketch.now.marks.items
          ⊎ Any (λ (w : Wait). w.column ≡ k) (take (c.loop-wait.wait-index + 1) c.args.sketch.now.waits.ended.items))
          (λ k had. elim had [
            | inl stay ↦ inl stay
            | inr other ↦ elim other [
              | inl mark ↦ inr (inl mark)
              | inr wait ↦ inr (inr (stands_still (λ (w : Wait). w.column) c.args.sketch.now.waits.ended.items
                  c.deref-wait-items.result.now c.loop-wait.wait-index c.wait-item.result k c.deref-wait-items.ensures.value
                  c.loop-wait-test.true wait))
            ]
          ])
          (inr (inr (stands_now (λ (w : Wait). w.column) c.args.sketch.now.waits.ended.items c.deref-wait-items.result.now
          c.loop-wait.wait-index c.wait-item.result c.deref-wait-items.ensures.value c.loop-wait-test.true c.wait-item.is)))
          c.loop-wait.invariant.4,
    )

pub returns-clause-waits : goal.returns-clause-waits
returns-clause-waits c =
    all_found (λ (w : Wait). IsTrue (get_or c.loop-wait.seen.items w.column false)) c.args.sketch.now.waits.ended.items
    c.deref-wait-items.result.now c.loop-wait.wait-index c.deref-wait-items.ensures.value c.loop-wait-test.false c.loop-wait.invariant.3

pub returns-clause-others : goal.returns-clause-others
returns-clause-others c k there = elim (c.loop-wait.invariant.4 k there) [
  | inl stay ↦ inl stay
  | inr other ↦ elim other [
    | inl mark ↦ inr (inl mark)
    | inr wait ↦ inr (inr (stands_in_all (λ (w : Wait). w.column) c.args.sketch.now.waits.ended.items c.deref-wait-items.result.now
        c.loop-wait.wait-index k c.deref-wait-items.ensures.value c.loop-wait-test.false wait))
  ]
]
