-- Loops that write the words of a list, thing by thing.
use Rattle.std.proofs.Common.{◌≡◌, ◌∙◌, ℕ, suc, ◌+◌, ◌<◌, ◌≤◌, ◌++◌, ◌∷◌, [], List, length, get_or, take, refl, sym, ap, arith}
use Rattle.std.specs.Prelude.{Bool, Option, Some, None, slice_get, is_some, IsSome}
use Rattle.std.specs.Option.{option_map, unwrap_or}
use Rattle.std.specs.List.{flat_map}
use Rattle.std.specs.FinMap as map
use Rattle.std.specs.Ordering.{nat_cmp}
use Rattle.std.proofs.lemmas.List.{append_assoc, append-nil, flat_map_more, take_all, take_more}
use Rattle.std.proofs.lemmas.List.Concat.{flat_map-append}
use Rattle.std.proofs.lemmas.Option.{get_or_from_slice_get, slice_get-get_or}
use Rattle.hp_base.specs.Indices.{count_below, region_count}
use Rattle.hp_base.proofs.Counting.{count_below_le}
use Rattle.hp_frames.specs.Bank.{frame_at}
use Rattle.hp_frames.specs.declared.frame.FrameState.{FrameState}
use Rattle.hp_frames.specs.declared.frame.FrameState.TheVariants.{Hand, Placed}
use Rattle.hp_region.specs.declared.region.Region.{Region}
use Rattle.hp_chunks.specs.Framed.{entry_at, listed}
use Rattle.hp_chunks.proofs.Listing.{entries-map_below, listed_count, listed_more}
use Rattle.hp_chunks.proofs.Tables.{same_as}
use Rattle.hp_base.specs.Pages.{IsPagesEnd}
use Rattle.hp_key.specs.Key.{page_words, region_words, word_in}
use Rattle.hp_key.specs.Numbers.{counted, wide}

-- one thing more
pub one_more : {A : Type 0} (words : A → List ℕ) (old before after : List ℕ) (n : ℕ) (xs : List A) (k : ℕ) (x d : A) → k < length xs
    → x ≡ get_or xs k d → before ≡ old ++ (n ∷ flat_map words (take k xs)) → after ≡ before ++ words x
    → after ≡ old ++ (n ∷ flat_map words (take (k + 1) xs))
one_more {A} words old before after n xs k x d within is so_far more =
    let front : (old ++ (n ∷ flat_map words (take k xs))) ++ words x ≡ old ++ (n ∷ (flat_map words (take k xs) ++ words x)) =
    append_assoc old (n ∷ flat_map words (take k xs)) (words x) in
    let added : flat_map words (take k xs) ++ words x ≡ flat_map words (take k xs ++ x ∷ []) = flat_map_more words [] (take k xs) x in
    let taken : take k xs ++ x ∷ [] ≡ take (k + 1) xs =
    ap (λ (y : A). take k xs ++ y ∷ []) is ∙ sym (take_more xs k d within) in
    more ∙ (ap (λ (ws : List ℕ). ws ++ words x) so_far ∙ (front
    ∙ ap (λ (ws : List ℕ). old ++ (n ∷ ws)) (added ∙ ap (flat_map words) taken)))

-- and all of them
pub all_done : {A : Type 0} (words : A → List ℕ) (old after : List ℕ) (n : ℕ) (xs : List A) (k : ℕ) → length xs ≤ k → n ≡ length xs
    → after ≡ old ++ (n ∷ flat_map words (take k xs)) → after ≡ old ++ counted words xs
all_done {A} words old after n xs k all count so_far =
    so_far ∙ (ap (λ (ys : List A). old ++ (n ∷ flat_map words ys)) (take_all k xs all)
    ∙ ap (λ (m : ℕ). old ++ (m ∷ flat_map words xs)) count)

-- the entries of a map, none of which is beyond a number, index by index
pub entries_listed : (m : map.FinMap nat_cmp ℕ) (end : ℕ) → ((i : ℕ) → end ≤ i → map.get m i ≡ None)
    → map.entries m ≡ listed (map.get m) 0 end
entries_listed m end none =
    ap (λ (n : map.FinMap nat_cmp ℕ). map.entries n) (sym (same_as (map.get m) end m none (λ q. refl)))
    ∙ entries-map_below (map.get m) end

-- one index more
pub one_index : (words : ℕ × ℕ → List ℕ) (values : ℕ → Option ℕ) (old before after : List ℕ) (n k : ℕ)
    → before ≡ old ++ (n ∷ flat_map words (listed values 0 k)) → after ≡ before ++ flat_map words (entry_at k (values k))
    → after ≡ old ++ (n ∷ flat_map words (listed values 0 (k + 1)))
one_index words values old before after n k so_far more =
    let next : k + 1 ≡ suc k = omega arith in
    let at : 0 + k ≡ k = omega arith in
    let list : listed values 0 (k + 1) ≡ listed values 0 k ++ entry_at k (values k) =
    ap (listed values 0) next ∙ (rw at at (listed_more values 0 k)) in
    let front : (old ++ (n ∷ flat_map words (listed values 0 k))) ++ flat_map words (entry_at k (values k))
    ≡ old ++ (n ∷ (flat_map words (listed values 0 k) ++ flat_map words (entry_at k (values k)))) =
    append_assoc old (n ∷ flat_map words (listed values 0 k)) (flat_map words (entry_at k (values k))) in
    more ∙ (ap (λ (ws : List ℕ). ws ++ flat_map words (entry_at k (values k))) so_far ∙ (front
    ∙ ap (λ (ws : List ℕ). old ++ (n ∷ ws))
    (sym (flat_map-append words (listed values 0 k) (entry_at k (values k))) ∙ ap (flat_map words) (sym list))))

pub no_index : (values : ℕ → Option ℕ) → listed values 0 0 ≡ []
unfolding listed
no_index values = refl

-- ---- frames

pub frame_read : (frames : List FrameState) (x : ℕ) → frame_at frames x ≡ get_or frames x Hand
unfolding frame_at
frame_read frames x = refl

-- ---- regions

pub few_regions : (n : ℕ) (set : ℕ → Bool) → region_count n set ≤ n
unfolding region_count
few_regions n set = count_below_le _ n

pub no_region : Region
no_region = record { from = 0; to = 0 }

pub region_there : (regions : List Region) (k : ℕ) (o : Option (ℕ × ℕ)) → k < length regions
    → o ≡ option_map (λ r. (r.from, r.to)) (slice_get regions k) → IsSome o
region_there regions k o within read =
    ap is_some read ∙ ap there (slice_get-get_or regions k no_region within)
  where
    there : Option Region → Bool
    there g = is_some (option_map {U = ℕ × ℕ} (λ r. (r.from, r.to)) g)

-- the region that is read at a place is the one there
pub region_read : (regions : List Region) (k : ℕ) (o : Option (ℕ × ℕ)) (r : ℕ × ℕ) (d : Region)
    → o ≡ option_map (λ r. (r.from, r.to)) (slice_get regions k) → o ≡ Some r → r.0 ∷ r.1 ∷ [] ≡ region_words (get_or regions k d)
region_read regions k o r d read some = by (slice_get regions k) refl
  where
    by : (g : Option Region) → slice_get regions k ≡ g → r.0 ∷ r.1 ∷ [] ≡ region_words (get_or regions k d)
    by None e =
        (let z : None ≡ Some r = sym (ap (option_map (λ r. (r.from, r.to))) e) ∙ (sym read ∙ some) in absurd (cc))
    by (Some y) e =
        let z : Some (y.from, y.to) ≡ Some r = sym (ap (option_map (λ r. (r.from, r.to))) e) ∙ (sym read ∙ some) in
        let same : (y.from, y.to) ≡ r = ap (λ (p : Option (ℕ × ℕ)). unwrap_or p r) z in
        ap (λ (p : ℕ × ℕ). p.0 ∷ p.1 ∷ []) (sym same) ∙ ap region_words (sym (get_or_from_slice_get regions k y d e))

-- ---- pages

pub page_word : (frames : List FrameState) (words before after : List ℕ) (index frame word : ℕ) (o : Option ℕ) → o ≡ Some frame
    → slice_get frames frame ≡ Some (Placed word) → before ≡ words ++ index ∷ [] → after ≡ before ++ wide word
    → after ≡ words ++ flat_map (page_words frames) (entry_at index o)
page_word frames words before after index frame word o some placed first last =
    let is : word_in (frame_at frames frame) ≡ word =
    ap word_in (frame_read frames frame ∙ get_or_from_slice_get frames frame (Placed word) Hand placed) in
    let all : after ≡ words ++ (index ∷ wide word) =
    last ∙ (ap (λ (ws : List ℕ). ws ++ wide word) first ∙ append_assoc words (index ∷ []) (wide word)) in
    all ∙ (ap (λ (n : ℕ). words ++ (index ∷ wide n)) (sym is)
    ∙ (sym (ap (λ (ws : List ℕ). words ++ ws) (append-nil (page_words frames (index, frame))))
    ∙ ap (λ (p : Option ℕ). words ++ flat_map (page_words frames) (entry_at index p)) (sym some)))

-- as many as are counted
pub pages_counted : (m : map.FinMap nat_cmp ℕ) (end count : ℕ) → IsPagesEnd (map.get m) end → end ≤ 4096
    → count ≡ count_below (λ i. is_some (map.get m i)) 4096 → count ≡ length (map.entries m)
pages_counted m end count ends within is =
    is ∙ (sym (listed_count (map.get m) 4096)
    ∙ ap (λ (es : List (ℕ × ℕ)). length es) (sym (entries_listed m 4096 (λ i over. ends.0 i (omega (arith, over, within))))))

-- none is written yet
pub pages_begin : (words : ℕ × ℕ → List ℕ) (values : ℕ → Option ℕ) (old first : List ℕ) (count n : ℕ) → first ≡ old ++ count ∷ []
    → count ≡ n → first ≡ old ++ (n ∷ flat_map words (listed values 0 0))
pages_begin words values old first count n is same =
    is ∙ (ap (λ (k : ℕ). old ++ k ∷ []) same ∙ ap (λ (es : List (ℕ × ℕ)). old ++ (n ∷ flat_map words es)) (sym (no_index values)))

-- all are
pub pages_end : (words : ℕ × ℕ → List ℕ) (m : map.FinMap nat_cmp ℕ) (old after : List ℕ) (end k : ℕ) → IsPagesEnd (map.get m) end
    → end ≤ k → after ≡ old ++ (length (map.entries m) ∷ flat_map words (listed (map.get m) 0 k))
    → after ≡ old ++ counted words (map.entries m)
pages_end words m old after end k ends over so_far =
    so_far ∙ ap (λ (es : List (ℕ × ℕ)). old ++ (length (map.entries m) ∷ flat_map words es))
    (sym (entries_listed m k (λ i above. ends.0 i (omega (arith, above, over)))))

-- ---- what was read

pub some_is : {A : Type 0} (o : Option A) (a : A) → o ≡ Some a → IsSome o
some_is o a e = ap is_some e

pub read_is : {A : Type 0} (o : Option A) (a b : A) → o ≡ Some a → o ≡ Some b → a ≡ b
read_is {A} o a b e f = (let z : Some a ≡ Some b = sym e ∙ f in cc)

-- ---- entries

-- all entries are written where none is left
pub entries_done : {A : Type 0} (words : A → List ℕ) (old front after : List ℕ) (n : ℕ) (xs : List A) → front ≡ old ++ n ∷ []
    → n ≡ length xs → after ++ [] ≡ front ++ flat_map words xs → after ≡ old ++ counted words xs
entries_done words old front after n xs first count all =
    sym (append-nil after) ∙ (all ∙ (ap (λ (ws : List ℕ). ws ++ flat_map words xs) (first ∙ ap (λ (m : ℕ). old ++ m ∷ []) count)
    ∙ append_assoc old (length xs ∷ []) (flat_map words xs)))
