-- The places of one chunk, and how many of them have a frame.
use Rattle.std.proofs.Common.{◌≡◌, ℕ, suc, ◌<◌, ◌≤◌, true, cond, List, [], ◌∷◌, Option, None, Some, length}
use Rattle.std.proofs.Common.{get_or, set, replicate, refl, sym, ap, subst, ◌∙◌, arith, inl, inr, true≢false}
use Rattle.std.specs.Prelude.{is_some, count_by}
use Rattle.std.specs.Global.{Box}
use Rattle.std.proofs.lemmas.Bool.{cases_eq, cases_lt}
use Rattle.std.proofs.lemmas.Bool.Decides.{nat_tests}
use Rattle.std.proofs.lemmas.List.{get_or_past, get_or-set_same, get_or-set_other}
use Rattle.std.proofs.lemmas.List.{get_or-replicate, length-set, length-replicate}
use Rattle.std.proofs.lemmas.List.Sums.{sum_by-cons, get_or-le-sum_by}
use Rattle.hp_base.specs.Numbers.{put}
use Rattle.hp_chunks.specs.Chunks.{Places, Slot, HasFrame, IsKept, frame_in}

module _ {X : Type 0} where
  -- 1 for what is there
  abbrev one : Option X → ℕ
  one o = cond (is_some o) 1 0

  none_of_zero : (o : Option X) → one o ≤ 0 → o ≡ None
  none_of_zero None low = refl
  none_of_zero (Some x) low = absurd (omega arith)

  -- where none is counted, none is there
  pub none_counted : (xs : List (Option X)) → count_by is_some xs ≡ 0 → (k : ℕ) → get_or xs k None ≡ None
  none_counted xs none k =
      elim (cases_lt k (length xs)) [
        | inl within ↦ none_of_zero (get_or xs k None)
            (let least = get_or-le-sum_by one xs k None within in omega (arith, least, none))
        | inr past ↦ get_or_past xs k None past
      ]

  -- and where none is there, none is counted
  pub none_there : (xs : List (Option X)) → ((k : ℕ) → get_or xs k None ≡ None) → count_by is_some xs ≡ 0
  none_there [] none = refl
  none_there (x ∷ xs) none =
      let first : x ≡ None = none 0 in
      let rest = none_there xs (λ k. none (suc k)) in
      sum_by-cons one x xs ∙ rw first (omega (arith, rest))

  -- a list of none has none
  pub get_or_none : (n k : ℕ) → get_or (replicate {A = Option X} n None) k None ≡ None
  get_or_none n k =
      elim (cases_lt k n) [
        | inl within ↦ get_or-replicate n k None None within
        | inr past ↦ get_or_past (replicate {A = Option X} n None) k None (rw (length-replicate {A = Option X} n None) past)
      ]

-- a place with a frame is counted
counted_there : (places : Places) (k : ℕ) → is_some (get_or places k None) ≡ true → HasFrame places
counted_there places k there =
    elim (cases_lt 0 (count_by is_some places)) [
      | inl some ↦ some
      | inr none ↦ absurd (true≢false (sym there ∙ ap is_some (none_counted places (omega (arith, none)) k)))
    ]

-- what a write to one place does to the frames
pub set_place : (old : ℕ → Option ℕ) (places : Places) (place : ℕ) (frame : Option ℕ) → place < length places
    → ((k : ℕ) → get_or places k None ≡ old k) → (k : ℕ) → get_or (set places place frame) k None ≡ put old place frame k
unfolding put
set_place old places place frame within same k =
    elim (cases_eq k place) [
      | inl e ↦ rw (e, get_or-set_same places place frame None within) (grind (arith, nat_tests))
      | inr other ↦ get_or-set_other places place k frame None other ∙ same k ∙ grind (arith, nat_tests)
    ]

-- what is known of a chunk that is kept
pub kept_at : (slot : Slot) (chunk : Box Places) → IsKept slot → slot ≡ Some chunk
    → (length chunk.value ≡ 64) × HasFrame chunk.value
kept_at slot chunk kept is = subst IsKept is kept

pub frames_at : (slot : Slot) (chunk : Box Places) → slot ≡ Some chunk → (k : ℕ) → get_or chunk.value k None ≡ frame_in slot k
frames_at slot chunk is k = ap (λ (s : Slot). frame_in s k) (sym is)

-- a chunk with no frame
abbrev pub bare : Places
bare = replicate 64 None

-- a chunk is kept with its first frame
pub kept_first : (place frame : ℕ) → place < 64
    → (length (set bare place (Some frame)) ≡ 64) × HasFrame (set bare place (Some frame))
kept_first place frame within =
    let long : length bare ≡ 64 = length-replicate {A = Option ℕ} 64 None in (
      length-set bare place (Some frame) ∙ long,
      counted_there (set bare place (Some frame)) place
          (ap is_some (get_or-set_same bare place (Some frame) None (omega (arith, long)))),
    )
