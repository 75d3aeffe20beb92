use Rattle.std.proofs.Common.{◌∙◌, ℕ, ◌++◌, ◌∷◌, [], List, ap, sym}
use Rattle.std.specs.Prelude.{Option}
use Rattle.std.proofs.lemmas.List.{append_assoc}
use Rattle.hp_machine.specs.declared.call.Call.{Call}
use Rattle.hp_key.specs.Carried.{call_words, carried_words}
use Rattle.hp_key.specs.Numbers.{maybe}
use Rattle.hp_key.proofs.lists.push_call.Goals as goal

pub returns-in_ok-push_carried-in-Some : goal.returns-in_ok-push_carried-in-Some
returns-in_ok-push_carried-in-Some c =
    let old = c.args.words.now.items in
    c.in_ok-push_carried-in-Some.ensures
    ∙ (ap (λ (ws : List ℕ). ws ++ carried_words c.carried_by.result) c.in_ok-push-in-Some.ensures.items
    ∙ (append_assoc old (1 ∷ []) (carried_words c.carried_by.result)
    ∙ (ap (λ x. old ++ (1 ∷ carried_words x)) c.carried_by.ensures
    ∙ ap (λ (o : Option Call). old ++ maybe call_words o) (sym c.in-Some.is))))
