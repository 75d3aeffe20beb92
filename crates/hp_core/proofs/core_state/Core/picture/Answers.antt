use Rattle.std.proofs.Common.{to_z, of_z, w64, ◌≡◌, ℕ, List, ◌<◌, length, get_or, ap, sym, subst, ◌∙◌, arith, vec_capacity}
use Rattle.std.specs.Prelude.{HoldsAt, filter_map, is_some}
use Rattle.std.proofs.lemmas.Int.{to_z-of_z}
use Rattle.hp_base.specs.Text.{sizes}
use Rattle.hp_machine.specs.Views.{hand}
use Rattle.hp_slots.specs.Holders.{holder_of}
use Rattle.hp_table.specs.Table.{Table}
use Rattle.hp_parts.specs.declared.parts.FileState.{FileState}
use Rattle.hp_parts.specs.State.{state_of}
use Rattle.hp_parts.specs.View.{no_file}
use Rattle.hp_core.specs.declared.task_state.TaskState.{TaskState}
use Rattle.hp_core.specs.Copies.{IsCopy, all_translations}
use Rattle.hp_core.specs.State.{CoreState}
use Rattle.hp_core.specs.Readers.{resv_of, owed_of, used_of, used_owed_of, quota_of}
use Rattle.hp_core.proofs.Audited.{right_of}
use Rattle.hp_core.proofs.Headlines.{reached_of}
use Rattle.hp_core.proofs.Pictures.{AreCopies, picture_of, picture_seen, few_files, few_spaces}
use Rattle.hp_core.proofs.core_state.Core.picture.Goals as goal

pub file_pictures-requires : goal.file_pictures-requires
file_pictures-requires c =
    let few = few_files _ c.self.invariant in
    omega (arith, few, ap length c.deref-2.ensures.value)

pub tables-requires : goal.tables-requires
tables-requires c =
    let few = few_spaces _ c.self.invariant in
    omega (arith, few, ap length c.deref-3.ensures.value)

pub returns : goal.returns
returns c =
    let s : CoreState = record {
      sizes = sizes c.self.inside.config;
      parts = state_of c.self.inside.parts;
      task_states = c.self.inside.task_states.items;
      capacity = vec_capacity c.self.inside.task_states;
    } in
    let is : c.owed.result ≡ owed_of s = c.owed.ensures ∙ ap (λ (z : CoreState). owed_of z) (sym c.self.view_is) in
    let owed_is : to_z w64 (of_z w64 c.owed.result) ≡ owed_of s = grind (arith, to_z-of_z, is) in
    let uses : c.used_owed.result ≡ used_owed_of s = c.used_owed.ensures ∙ ap (λ (z : CoreState). used_owed_of z) (sym c.self.view_is) in
    let used_owed_is : to_z w64 (of_z w64 c.used_owed.result) ≡ used_owed_of s = grind (arith, to_z-of_z, uses) in
    let copies : AreCopies s _ = record {
      free = c.in_ok-free.ensures.free;
      frees = c.in_ok-free.ensures.count;
      retired = c.in_ok-free.ensures.retired;
      resv = c.resv.ensures ∙ ap (λ (z : CoreState). resv_of z) (sym c.self.view_is);
      owed = owed_is;
      used = c.used.ensures ∙ ap (λ (z : CoreState). used_of z) (sym c.self.view_is);
      used_owed = used_owed_is;
      quota = c.quota.ensures ∙ ap (λ (z : CoreState). quota_of z) (sym c.self.view_is);
      hands =
          c.in_ok-hands.ensures ∙ ap (λ (xs : List TaskState). filter_map (λ task_state. hand task_state.call) xs) c.deref.ensures.value;
      as_many = c.in_ok-file_pictures.ensures.count ∙ ap (λ (xs : List FileState). length xs) c.deref-2.ensures.value;
      files =
          subst (λ (xs : List FileState). (f : ℕ) → f < length xs
          → HoldsAt (IsCopy (get_or xs f no_file) (is_some (holder_of c.self.inside.parts.locks f)))
          c.in_ok-file_pictures.field-0.items f) c.deref-2.ensures.value c.in_ok-file_pictures.ensures.each;
      tables = c.in_ok-tables.ensures ∙ ap (λ (xs : List Table). all_translations xs (length xs)) c.deref-3.ensures.value;
    } in
    record {
      picture = picture_seen s _ _ c.self.view_is c.self.invariant copies;
      audited = right_of s _ (reached_of s c.self.invariant) (picture_of s _ c.self.invariant copies);
    }
