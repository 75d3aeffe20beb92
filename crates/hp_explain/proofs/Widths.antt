-- Columns that become wider, event by event.
use Rattle.std.proofs.Common.{◌≡◌, ℕ, ◌+◌, ◌<◌, ◌≤◌, List, [], ◌∷◌, ◌++◌, length, take, drop, get_or, ap, arith, inl, inr, subst, sym}
use Rattle.std.proofs.Common.{length-append, ◌∙◌}
use Rattle.std.specs.Prelude.{IsTrue, Some, slice_get}
use Rattle.std.proofs.Math.Seq.{get_or-append_seam}
use Rattle.std.proofs.lemmas.Grind.{common_steps}
use Rattle.std.proofs.lemmas.List.{get_or_append_left, length-take-le, take_all, take_more}
use Rattle.std.proofs.lemmas.Option.{get_or_from_slice_get, none-some, slice_get-get_or, slice_get_within}
use Rattle.hp_base.proofs.Puts.{same_or_other}
use Rattle.hp_base.specs.declared.event.Event.{Event}
use Rattle.hp_explain.specs.Views.{column_in, is_shown}
use Rattle.hp_explain.specs.Widths.{HasRoom, HaveRoom, NoneNarrower}
use Rattle.hp_explain.specs.declared.view.View.{View}

-- nothing has room yet, of no event
pub no_room : (v : View) (tasks : ℕ) (events : List Event) (widths : List ℕ) → HaveRoom v tasks widths (take 0 events)
no_room v tasks events widths k e is = absurd (none-some e is)

-- one event more has room, and those that had room in their columns have it in wider ones
pub one_room : (v : View) (tasks : ℕ) (events : List Event) (n line : ℕ) (e : Event) (old new : List ℕ) → n < length events
    → e ≡ get_or events n e → line ≡ n + 2 → NoneNarrower old new → (IsTrue (is_shown v line e) → HasRoom v.compact tasks new e)
    → HaveRoom v tasks old (take n events) → HaveRoom v tasks new (take (n + 1) events)
one_room v tasks events n line e old new lt is number grows room has k x there shown = elim (same_or_other k n) [
  | inl same ↦ last same
  | inr other ↦
      let before = has k x (earlier other) shown in
      omega (arith, before, grows.each (column_in v.compact tasks x))
]
  where
    all : take (n + 1) events ≡ take n events ++ (e ∷ [])
    all = take_more events n e lt ∙ ap (λ (y : Event). take n events ++ (y ∷ [])) (sym is)

    count : length (take n events) ≡ n
    count = length-take-le n events (omega (arith, lt))

    read : slice_get (take n events ++ (e ∷ [])) k ≡ Some x
    read = subst (λ (list : List Event). slice_get list k ≡ Some x) all there

    within : k < length (take n events ++ (e ∷ []))
    within = slice_get_within (take n events ++ (e ∷ [])) k x read

    long : length (take n events ++ (e ∷ [])) ≡ length (take n events) + 1
    long = length-append (take n events) (e ∷ [])

    seen : get_or (take n events ++ (e ∷ [])) k e ≡ x
    seen = get_or_from_slice_get (take n events ++ (e ∷ [])) k x e read

    last : k ≡ n → HasRoom v.compact tasks new x
    last same =
        let at = subst (λ (i : ℕ). get_or (take n events ++ (e ∷ [])) i e ≡ e) (count ∙ sym same)
        (get_or-append_seam (take n events) e [] e) in
        let its : e ≡ x = sym at ∙ seen in
        let here : k + 2 ≡ line = omega (arith, number, same) in
        subst (HasRoom v.compact tasks new) its
        (room (subst (λ (y : Event). IsTrue (is_shown v line y)) (sym its) (subst (λ (i : ℕ). IsTrue (is_shown v i x)) here shown)))

    earlier : (k ≡ n → ⊥) → slice_get (take n events) k ≡ Some x
    earlier other =
        let below : k < length (take n events) = omega (arith, within, long, count, other) in
        slice_get-get_or (take n events) k e below
        ∙ ap Some (sym (get_or_append_left (take n events) (e ∷ []) e k below) ∙ seen)

-- all have
pub all_rooms : (v : View) (tasks : ℕ) (events : List Event) (n : ℕ) (widths : List ℕ) → length events ≤ n
    → HaveRoom v tasks widths (take n events) → HaveRoom v tasks widths events
all_rooms v tasks events n widths le has = subst (HaveRoom v tasks widths) (take_all n events le) has

-- what was written over all of a list is what it holds then
pub written : (n : ℕ) (old slice new : List ℕ) → slice ≡ old → n ≡ length old → length new ≡ length slice
    → take n (new ++ drop (length new) old) ≡ new
written n old slice new same is count = grind (arith, common_steps, same, is, count)
