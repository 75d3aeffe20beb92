use Rattle.std.proofs.Common.{sym, ◌∙◌}
use Rattle.std.proofs.lemmas.Bool.{false≢true}
use Rattle.hp_audit.proofs.Counts.{IsOnePlace-of_all}
use Rattle.hp_audit.proofs.check.is_one_place.Goals as goal
use Rattle.hp_audit.proofs.check.is_one_place.Goals.{then-are_alone, else-are_alone, then-are_alone-2, else-are_alone-2}

pub returns-then-are_alone-3 : goal.returns-then-are_alone-3
returns-then-are_alone-3 c =
    elim c.if-are_alone-2.branch [
      | then-are_alone-2 v ↦ elim c.if-are_alone.branch [
        | then-are_alone w ↦ (
          let free = rw c.deref.ensures.value at (c.are_alone.ensures.0 w.if-are_alone.true) in
              let retired = rw w.deref-then-are_alone.ensures.value at
              (w.are_alone-then-are_alone.ensures.0 (sym w.value-is ∙ v.if-are_alone-2.true)) in
              let hands = rw v.deref-then-are_alone-2.ensures.value at
              (v.are_alone-then-are_alone-2.ensures.0 (sym v.value-is ∙ c.if-are_alone-3.true)) in
              λ passed. IsOnePlace-of_all c.args.picture.now free retired hands (c.are_files_alone.ensures.0 passed),
          λ one. c.are_files_alone.ensures.1 (λ k d within k' d' within'. one _),
        )
        | else-are_alone w ↦ absurd (false≢true (sym w.if-are_alone.false ∙ (sym w.value-is ∙ v.if-are_alone-2.true)))
      ]
      | else-are_alone-2 v ↦ absurd (false≢true (sym v.if-are_alone-2.false ∙ (sym v.value-is ∙ c.if-are_alone-3.true)))
    ]
