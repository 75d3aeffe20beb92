use Rattle.std.proofs.Common.{◌∙◌, ℕ, ◌++◌, ◌∷◌, [], List, length, ap, sym}
use Rattle.std.specs.Prelude.{Option}
use Rattle.hp_base.specs.Text.{Sizes}
use Rattle.hp_parts.specs.State.{PartsState, state_of}
use Rattle.hp_parts.specs.declared.parts.FileState.{FileState}
use Rattle.hp_core.specs.Readers.{config_of}
use Rattle.hp_table.specs.Table.{Table}
use Rattle.hp_key.specs.Key.{file_words, space_words}
use Rattle.hp_key.specs.Numbers.{counted, maybe, number_words}
use Rattle.hp_key.proofs.Made.{made, pages_there}
use Rattle.hp_key.proofs.making.push_key.Goals as goal

pub push_holders-requires : goal.push_holders-requires
unfolding config_of
push_holders-requires c =
    ap (λ (z : Sizes). z.slots) c.config-config.ensures
    ∙ (sym c.parts-parts.ensures.kept.slots ∙ sym (ap (λ (p : PartsState). length p.slots) c.parts-parts.ensures.parts))

pub push_holders-requires-2 : goal.push_holders-requires-2
unfolding config_of
push_holders-requires-2 c =
    ap (λ (z : Sizes). z.files) c.config-config.ensures
    ∙ (sym c.parts-parts.ensures.kept.files
    ∙ (sym c.parts-parts.ensures.kept.locks ∙ sym (ap (λ (p : PartsState). length p.locks) c.parts-parts.ensures.parts)))

pub push_files-requires-clause-placed : goal.push_files-requires-clause-placed
push_files-requires-clause-placed c =
    pages_there c.args.core.now (state_of c.parts-parts.result.now) c.deref.result.now c.is_reached.ensures c.parts-parts.ensures.parts
    c.deref.ensures.value

pub returns : goal.returns
returns c =
    let p = state_of c.parts-parts.result.now in
    made c.args.core.now p c.task_states.result.now c.args.words.now.items c.push_maybe.new.words.items c.push.new.self.items
    c.push-2.new.self.items c.push_frames.new.words.items c.push_holders.new.words.items c.push_holders-2.new.words.items
    c.push_files.new.words.items c.push_spaces.new.words.items c.push_tasks.new.words.items c.parts-parts.ensures.parts
    c.task_states.ensures
    (record {
      quota = c.in_ok-push_maybe.ensures
          ∙ ap (λ (q : Option ℕ). c.args.words.now.items ++ maybe number_words q) c.quota.ensures;
      resv = c.in_ok-push.ensures.items ∙ ap (λ (n : ℕ). c.push_maybe.new.words.items ++ n ∷ []) c.resv.ensures.resv;
      used = c.in_ok-push-2.ensures.items ∙ ap (λ (n : ℕ). c.push.new.self.items ++ n ∷ []) c.used.ensures.used;
      frames = c.in_ok-push_frames.ensures;
      slots = c.in_ok-push_holders.ensures;
      locks = c.in_ok-push_holders-2.ensures;
      files = c.in_ok-push_files.ensures
          ∙ ap (λ (files : List FileState). c.push_holders-2.new.words.items ++ counted (file_words p.bank.frames) files)
          c.deref.ensures.value;
      spaces = c.in_ok-push_spaces.ensures
          ∙ ap (λ (spaces : List Table). c.push_files.new.words.items ++ counted space_words spaces) c.deref-2.ensures.value;
      last = c.in_ok-push_tasks.ensures;
    })
