use Rattle.std.proofs.Common.{sym, ◌∙◌}
use Rattle.std.proofs.lemmas.Bool.{false≢true}
use Rattle.hp_audit.proofs.check.is_shaped.Goals as goal

pub returns-then-are_files_shaped : goal.returns-then-are_files_shaped
returns-then-are_files_shaped c =
    let files = rw c.deref.ensures.value at (c.are_files_shaped.ensures.0 c.if-are_files_shaped.true) in (
      λ passed. record { files = files; tables = c.are_tables_shaped.ensures.0 passed },
      λ shaped. c.are_tables_shaped.ensures.1 shaped.tables,
    )

pub returns-else-are_files_shaped : goal.returns-else-are_files_shaped
returns-else-are_files_shaped c =
    let files = rw c.deref.ensures.value at c.are_files_shaped.ensures.1 in
    (λ passed. absurd (false≢true (sym c.if-are_files_shaped.false ∙ passed)), λ shaped. files shaped.files)
