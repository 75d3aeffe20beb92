-- Entries of a journal, one after the other, and whether each comes in turn.
use Rattle.std.proofs.Common.{◌≡◌, ℕ, suc, ◌+◌, ◌<◌, ◌≤◌, Bool, List, ◌∷◌, add-one, ap, drop, drop-cons, get_or, length, sym, ◌∙◌}
use Rattle.std.specs.Prelude.{◌&&◌, true, false}
use Rattle.std.proofs.lemmas.List.{drop_all}
use Rattle.hp_text.specs.declared.needs.Need.{Need}
use Rattle.hp_shared.specs.declared.entry.Entry.{Entry}
use Rattle.hp_race.specs.Keeping.{behind, is_in_turn, may_come}
use Rattle.hp_race.specs.declared.keeping.Progress.{Progress}

module _ (needs : List (List (List Need))) (start tasks : List Progress) (entries : List Entry) (k : ℕ) (entry : Entry) where
  next_entry : k < length entries → entry ≡ get_or entries k entry → drop k entries ≡ entry ∷ drop (k + 1) entries
  next_entry below is =
      rw add-one (drop-cons entries k entry below ∙ ap (λ (e : Entry). e ∷ drop (suc k) entries) (sym is))

  -- the next may come
  pub in_turn_on : (new : List Progress) → k < length entries → entry ≡ get_or entries k entry
      → is_in_turn needs start entries ≡ is_in_turn needs tasks (drop k entries)
      → may_come needs tasks entry.event ≡ true → new ≡ behind tasks entry.event entry.outcome
      → is_in_turn needs start entries ≡ is_in_turn needs new (drop (k + 1) entries)
  in_turn_on new below is same may noted =
      same ∙ ap (is_in_turn needs tasks) (next_entry below is)
      ∙ ap (λ (b : Bool). b && is_in_turn needs (behind tasks entry.event entry.outcome) (drop (k + 1) entries)) may
      ∙ ap (λ (p : List Progress). is_in_turn needs p (drop (k + 1) entries)) (sym noted)

  -- or may not
  pub in_turn_stops : k < length entries → entry ≡ get_or entries k entry
      → is_in_turn needs start entries ≡ is_in_turn needs tasks (drop k entries)
      → may_come needs tasks entry.event ≡ false → false ≡ is_in_turn needs start entries
  in_turn_stops below is same may =
      sym (same ∙ ap (is_in_turn needs tasks) (next_entry below is)
      ∙ ap (λ (b : Bool). b && is_in_turn needs (behind tasks entry.event entry.outcome) (drop (k + 1) entries)) may)

-- none is left
pub in_turn_ends : (needs : List (List (List Need))) (start tasks : List Progress) (entries : List Entry) (k : ℕ) → length entries ≤ k
    → is_in_turn needs start entries ≡ is_in_turn needs tasks (drop k entries) → true ≡ is_in_turn needs start entries
in_turn_ends needs start tasks entries k past same = sym (same ∙ ap (is_in_turn needs tasks) (drop_all k entries past))
