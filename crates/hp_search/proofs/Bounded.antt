-- A table of endings is cut at its limits, and its rows are within them.
use Rattle.std.proofs.Common.{◌≡◌, ◌∙◌, ℕ, ◌<◌, ◌≤◌, ap, sym, subst, inl, inr, arith, List, [], length, get_or}
use Rattle.std.specs.Cmp.Lexicographic.{bytes_decides, nat_list_eq_equiv, pointwise}
use Rattle.std.specs.Prelude.{◌⊎◌, All, Bool, nat_eq}
use Rattle.std.proofs.lemmas.Bool.{cases_lt}
use Rattle.std.proofs.lemmas.List.Elements.{Contains-get_or}
use Rattle.std.proofs.lemmas.Map.Views.{list_any-from_Contains}
use Rattle.hp_base.specs.declared.event.Event.{Event}
use Rattle.hp_layers.specs.Ended.{AreCutAtLimits, AreShortest}
use Rattle.hp_layers.specs.Layers.{AreReached, AreReachedApart, IsCrowded, IsHeavy, IsLong, IsReached}
use Rattle.hp_layers.specs.declared.counting.RunCounts.{RunCounts}
use Rattle.hp_layers.specs.declared.ending.EndingTable.{EndingTable}
use Rattle.hp_layers.specs.declared.ending.EndingTable.TheVariants.{Whole, Cut}
use Rattle.hp_layers.specs.declared.limits.Limits.{Limits}
use Rattle.hp_every.specs.declared.turn.Turn.{Turn}
use Rattle.hp_every.specs.Endings.{EndState, GoesOnBy, IsEndState}
use Rattle.hp_every.specs.Search.{Question}
use Rattle.hp_every.proofs.Answers.{turn_count}
use Rattle.hp_every.proofs.Endings.{reached_so}
use Rattle.hp_every.proofs.Good.{run_of}
use Rattle.hp_every.proofs.Runs.{event_count}
use Rattle.hp_search.specs.Endings.{AreEndKeysOf, AreEndsApart, AreRowsOf, AreTooHeavy, AreTooMany, end_bytes}
use Rattle.hp_search.specs.Searching.{AreLong}
use Rattle.hp_search.specs.declared.endings.EndingRow.{EndingRow}

-- ---- what the layers say of their limits

pub whole_within : {S K : Type 0} (eq : K → K → Bool) (key_of : S → K) (turn : S → S → Type 0) (bytes_of : S → ℕ) (first : S)
    (limits : Limits) (table : EndingTable S) (counts : RunCounts S) → table ≡ Whole counts
    → AreCutAtLimits eq key_of turn bytes_of first limits table
    → (n : ℕ) (s : S) → limits.turns ≤ n → IsReached turn first n s → ⊥
unfolding AreCutAtLimits
whole_within eq key_of turn bytes_of first limits table counts is h = subst (AreCutAtLimits eq key_of turn bytes_of first limits) is h

pub cut_within : {S K : Type 0} (eq : K → K → Bool) (key_of : S → K) (turn : S → S → Type 0) (bytes_of : S → ℕ) (first : S)
    (limits : Limits) (table : EndingTable S) (counts : RunCounts S) (n : ℕ) → table ≡ Cut counts n
    → AreCutAtLimits eq key_of turn bytes_of first limits table
    → ((n ≡ limits.turns) × IsLong turn first n) ⊎ IsCrowded eq key_of turn first limits.states n
    ⊎ IsHeavy eq key_of turn bytes_of first limits.bytes n
unfolding AreCutAtLimits
cut_within eq key_of turn bytes_of first limits table counts n is h = subst (AreCutAtLimits eq key_of turn bytes_of first limits) is h

-- ---- what that says of schedules

-- a row has as many events as its state has turns
pub rows_few : (a : Question) (first : EndState) → IsEndState a first → first.path.turns ≡ [] → (counts : RunCounts EndState) (limit : ℕ)
    → AreShortest (GoesOnBy a) (λ (s : EndState). s.ending) first counts.states.items
    → ((n : ℕ) (s : EndState) → limit ≤ n → IsReached (GoesOnBy a) first n s → ⊥)
    → (rows : List EndingRow) → AreRowsOf a counts rows → All (λ row. length row.events.items < limit) rows
unfolding AreShortest
rows_few a first is empty counts limit shortest over rows of k d within =
    let inside : k < length counts.states.items = (let long = of.long in omega (arith, within, long)) in
    let s = get_or counts.states.items k first in
    let best = shortest s (Contains-get_or counts.states.items k first inside) in
    let row = of.each k first d within in
    let right = reached_so a first is empty best.turns s best.reached in
    let told = ap (λ (es : List Event). length es) (sym row.made) ∙ event_count row.has.moments in
    let made = ap (λ (ts : List Turn). length ts) (sym row.has.made) ∙ turn_count row.has.moments in
    elim (cases_lt best.turns limit) [
      | inl few ↦ omega (arith, told, made, right.1, few)
      | inr many ↦ absurd (over best.turns s many best.reached)
    ]

-- keys of what is reached are keys of schedules
end_keys : (a : Question) (first : EndState) → IsEndState a first → first.path.turns ≡ [] → (n : ℕ) (keys : List (List ℕ))
    → AreReached (pointwise nat_eq) (λ (s : EndState). s.key) (GoesOnBy a) first n keys → AreEndKeysOf a n keys
end_keys a first is empty n keys h = record {
  distinct = h.distinct;
  each = λ key there. (
      let s = h.each key (list_any-from_Contains nat_list_eq_equiv key keys there) in
      let at = reached_so a first is empty n s.0 s.1 in
      record { state = s.0; right = at.0; long = at.1; is = sym ((bytes_decides s.0.key key).0 s.2) });
}

-- what is reached are schedules
ends_apart : (a : Question) (first : EndState) → IsEndState a first → first.path.turns ≡ [] → (n : ℕ) (ends : List EndState)
    → AreReachedApart (pointwise nat_eq) (λ (s : EndState). s.key) (GoesOnBy a) first n ends → AreEndsApart a n ends
ends_apart a first is empty n ends h = record {
  keys = h.keys;
  apart = h.apart;
  each = λ s c. reached_so a first is empty n s (h.each s c);
}

-- a schedule has each number of turns in which something is reached
long_ends : (a : Question) (first : EndState) → IsEndState a first → first.path.turns ≡ [] → (n : ℕ) → IsLong (GoesOnBy a) first n
    → AreLong a n
unfolding IsLong
long_ends a first is empty n long m few =
    let s = long m few in
    let at = reached_so a first is empty m s.0 s.1 in
    (s.0.path.turns, run_of a s.0.path at.0.path, at.1)

-- a table that is cut is cut at its limits
pub cut_at : (a : Question) (limits : Limits) (first : EndState) → IsEndState a first → first.path.turns ≡ [] → (n : ℕ)
    → (((n ≡ limits.turns) × IsLong (GoesOnBy a) first n)
    ⊎ IsCrowded (pointwise nat_eq) (λ (s : EndState). s.key) (GoesOnBy a) first limits.states n
    ⊎ IsHeavy (pointwise nat_eq) (λ (s : EndState). s.key) (GoesOnBy a) end_bytes first limits.bytes n)
    → ((n ≡ limits.turns) × AreLong a n) ⊎ AreTooMany a limits.states n ⊎ AreTooHeavy a limits.bytes n
cut_at a limits first is empty n cut = elim cut [
  | inl turns ↦ inl (turns.0, long_ends a first is empty n turns.1)
  | inr wide ↦ inr (elim wide [
    | inl crowd ↦ inl (record {
      before = crowd.before;
      next = crowd.next;
      some = crowd.some;
      others = crowd.others;
      here = end_keys a first is empty crowd.before crowd.some crowd.here;
      behind = end_keys a first is empty n crowd.others crowd.behind;
      many = crowd.many;
    })
    | inr heavy ↦ inr (record {
      before = heavy.before;
      next = heavy.next;
      some = heavy.some;
      others = heavy.others;
      here = ends_apart a first is empty heavy.before heavy.some heavy.here;
      behind = ends_apart a first is empty n heavy.others heavy.behind;
      many = heavy.many;
    })
  ])
]
