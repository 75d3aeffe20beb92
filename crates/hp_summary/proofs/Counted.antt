-- Runs that are counted one after the other.
use Rattle.std.proofs.Common.{◌≡◌, ◌≢◌, ℕ, zero, suc, ◌+◌, ◌<◌, ◌≤◌, List, [], ◌∷◌, ◌++◌, length, refl, sym, ap, subst, ◌∙◌, arith, inl, inr}
use Rattle.std.specs.Prelude.{◌⊎◌, Bool, true, false, All, MatchBool, replicate, slice_index_or, slice_set, if◌then◌else◌}
use Rattle.std.proofs.lemmas.List.{get_or-map, get_or-set_same, get_or-set_other, get_or_append_left, get_or_push, length-map}
use Rattle.std.proofs.lemmas.List.{get_or-replicate, length_push, length-replicate, length-set, map_push}
use Rattle.std.proofs.lemmas.List.Elements.{All-append}
use Rattle.std.proofs.Math.Seq.{map-set_same}
use Rattle.hp_base.proofs.Puts.{same_or_other}
use Rattle.hp_summary.specs.Summaries.{AreEndings, EndsSo, IsCount, IsEndingOf, IsFirstSo, IsOther, firsts_of, kept_of}
use Rattle.hp_watch.specs.declared.calls.EndedCall.{EndedCall}
use Rattle.hp_summary.specs.declared.facts.RunFacts.{RunFacts}
use Rattle.hp_summary.specs.declared.tally.Ending.{Ending}

-- ---- how many meet P

module _ {X : Type 0} (P : X → Type 0) where
  pub count_more : (xs : List X) (x : X) (n : ℕ) → IsCount P xs n → P x → IsCount P (xs ++ x ∷ []) (n + 1)
  unfolding IsCount
  count_more [] x n h p = inl (n, p, refl, h)
  count_more (y ∷ xs) x n (inl (m, q, is, h)) p = inl (m + 1, q, omega (arith, is), count_more xs x m h p)
  count_more (y ∷ xs) x n (inr (q, h)) p = inr (q, count_more xs x n h p)

  pub count_same : (xs : List X) (x : X) (n : ℕ) → IsCount P xs n → (P x → ⊥) → IsCount P (xs ++ x ∷ []) n
  unfolding IsCount
  count_same [] x n h p = inr (p, h)
  count_same (y ∷ xs) x n (inl (m, q, is, h)) p = inl (m, q, is, count_same xs x m h p)
  count_same (y ∷ xs) x n (inr (q, h)) p = inr (q, count_same xs x n h p)

  pub count_few : (xs : List X) (n : ℕ) → IsCount P xs n → n ≤ length xs
  unfolding IsCount
  count_few [] n h = omega (arith, h)
  count_few (y ∷ xs) n (inl (m, q, is, h)) = omega (arith, is, count_few xs m h)
  count_few (y ∷ xs) n (inr (q, h)) = omega (arith, count_few xs n h)

  pub count_none : (xs : List X) → ((k : ℕ) (d : X) → k < length xs → P (slice_index_or xs k d) → ⊥) → IsCount P xs 0
  unfolding IsCount
  count_none [] none = refl
  count_none (y ∷ xs) none =
      inr (none 0 y (omega arith), count_none xs (λ k d lt. none (suc k) d (omega (arith, lt))))

  pub no_count : IsCount P [] 0
  unfolding IsCount
  no_count = refl

-- the same, of another fact that the same items meet
pub count_alike : {X : Type 0} (P Q : X → Type 0) (xs : List X) (n : ℕ)
    → ((k : ℕ) (d : X) → k < length xs → P (slice_index_or xs k d) → Q (slice_index_or xs k d))
    → ((k : ℕ) (d : X) → k < length xs → Q (slice_index_or xs k d) → P (slice_index_or xs k d))
    → IsCount P xs n → IsCount Q xs n
unfolding IsCount
count_alike P Q [] n to from h = h
count_alike P Q (y ∷ xs) n to from (inl (m, p, is, h)) =
    inl (
      m,
      to 0 y (omega arith) p,
      is,
      count_alike P Q xs m (λ k d lt. to (suc k) d (omega (arith, lt)))
          (λ k d lt. from (suc k) d (omega (arith, lt))) h,
    )
count_alike P Q (y ∷ xs) n to from (inr (p, h)) =
    inr (
      (λ q. p (from 0 y (omega arith) q)),
      count_alike P Q xs n (λ k d lt. to (suc k) d (omega (arith, lt)))
          (λ k d lt. from (suc k) d (omega (arith, lt))) h,
    )

-- one more where a test says so
pub count_tested : {X : Type 0} (P : X → Type 0) (xs : List X) (x : X) (n m : ℕ) (b : Bool) → IsCount P xs n
    → m ≡ n + (if b then 1 else 0) → (b ≡ true → P x) → (P x → b ≡ true) → IsCount P (xs ++ x ∷ []) m
count_tested P xs x n m true h is on off = subst (IsCount P (xs ++ x ∷ [])) (sym is) (count_more P xs x n h (on refl))
count_tested P xs x n m false h is on off =
    let same : n ≡ m = omega (arith, is) in
    subst (IsCount P (xs ++ x ∷ [])) same (count_same P xs x n h (λ p. let bad : false ≡ true = off p in absurd (cc)))

-- what a test tells
pub tells : (P : Type 0) (b : Bool) → MatchBool b P (P → ⊥) → (b ≡ true → P) × (P → b ≡ true)
tells P true h = (λ e. h, λ p. refl)
tells P false h = (λ e. let bad : ⊥ = cc in absurd bad, λ p. absurd (h p))

-- ---- the ways in which runs ended

at_front : (facts : List RunFacts) (x : RunFacts) (k : ℕ) (d : RunFacts) → k < length facts
    → slice_index_or (facts ++ x ∷ []) k d ≡ slice_index_or facts k d
at_front facts x k d lt = get_or_append_left facts (x ∷ []) d k lt

first_stays : (facts : List RunFacts) (x : RunFacts) (ended : List EndedCall) (run : ℕ) → IsFirstSo facts ended run
    → IsFirstSo (facts ++ x ∷ []) ended run
first_stays facts x ended run h =
    record {
      there = omega (arith, h.there, length_push facts x);
      so = λ d. ap (λ (f : RunFacts). f.ended.items) (at_front facts x run d h.there) ∙ h.so d;
      before = λ k d lt so. h.before k d lt
          (sym (ap (λ (f : RunFacts). f.ended.items) (at_front facts x k d (omega (arith, lt, h.there)))) ∙ so);
    }

-- a way of ending has one first run
one_first : (facts : List RunFacts) (ended : List EndedCall) (j k : ℕ) → IsFirstSo facts ended j → IsFirstSo facts ended k → (j < k → ⊥)
one_first facts ended j k a b lt = b.before j (nowhere facts j a.there) lt (a.so (nowhere facts j a.there))
  where
    nowhere : (xs : List RunFacts) (j : ℕ) → j < length xs → RunFacts
    nowhere [] j lt = absurd (omega (arith, lt))
    nowhere (x ∷ xs) j lt = x

no_less : (j k : ℕ) → (j ≡ k) ⊎ ((j < k) ⊎ (k < j))
no_less j k = grind arith

pub record IsFoundAt (endings : List Ending) (ended : List EndedCall) (place : ℕ) : Type 0 where
  pub there : place < length endings
  pub same : (d : Ending) → (slice_index_or endings place d).ended.items ≡ ended

module _ (facts : List RunFacts) (x : RunFacts) (endings : List Ending) (other : ℕ) (h : AreEndings facts endings other) where
  kept_at : (k : ℕ) (d : Ending) → k < length endings
      → slice_index_or (firsts_of endings) k 0 ≡ (slice_index_or endings k d).first
  kept_at k d lt = get_or-map (λ (e : Ending). e.first) endings k d 0 lt

  -- another ending than that which was found ended otherwise
  apart_from : (place k : ℕ) (d : Ending) → IsFoundAt endings x.ended.items place → k < length endings → k ≢ place
      → (slice_index_or endings k d).ended.items ≡ x.ended.items → ⊥
  apart_from place k d at lt not so =
      let e = slice_index_or endings k d in
      let f = slice_index_or endings place d in
      let one = (h.each k d lt).first in
      let two = subst (λ (xs : List EndedCall). IsFirstSo facts xs f.first) (at.same d ∙ sym so) (h.each place d at.there).first in
      elim (no_less k place) [
        | inl same ↦ not same
        | inr less ↦ elim less [
          | inl below ↦ one_first facts e.ended.items e.first f.first one two
              (subst (λ (n : ℕ). n < f.first) (kept_at k d lt)
              (subst (λ (n : ℕ). slice_index_or (firsts_of endings) k 0 < n) (kept_at place d at.there) (h.apart k place 0 below at.there)))
          | inr above ↦ one_first facts e.ended.items f.first e.first two one
              (subst (λ (n : ℕ). n < e.first) (kept_at place d at.there)
              (subst (λ (n : ℕ). slice_index_or (firsts_of endings) place 0 < n) (kept_at k d lt) (h.apart place k 0 above lt)))
        ]
      ]

  -- one more run ended as others did
  pub ended_again : (place runs : ℕ) (e : Ending) → IsFoundAt endings x.ended.items place → e ≡ slice_index_or endings place e
      → runs ≡ e.runs + 1 → AreEndings (facts ++ x ∷ []) (slice_set endings place (record e { runs = runs })) other
  ended_again place runs e at is more =
      record {
        few = omega (arith, h.few, length-set endings place new);
        each = each;
        apart = λ j k d lt in_range. rw same_firsts (h.apart j k d lt (omega (arith, in_range, length-set endings place new)));
        other = rw same_kept (count_same (IsOther (kept_of endings)) facts x other h.other
            (λ none. kept_one (none place x.ended.items (omega (arith, at.there, length-map endings (λ (a : Ending). a.ended.items))))));
        full = λ k d lt none. elim (below_or_last k lt) [
          | inl below ↦ (
              let was = h.full k d below (subst (λ (f : RunFacts). IsOther (kept_of endings) f) (at_front facts x k d below)
              (rw same_kept at none)) in
              (length-set endings place new ∙ was.0, rw same_firsts was.1)
              )
          | inr last ↦ absurd (kept_one (subst (λ (f : RunFacts). IsOther (kept_of endings) f)
              (get_or_push facts x d k (sym last)) (rw same_kept at none) place x.ended.items
              (omega (arith, at.there, length-map endings (λ (a : Ending). a.ended.items)))))
        ];
      }
    where
      new : Ending
      new = record e { runs = runs }

      same_kept : kept_of (slice_set endings place new) ≡ kept_of endings
      same_kept = map-set_same (λ (a : Ending). a.ended.items) endings place new e (ap (λ (a : Ending). a.ended.items) is)

      same_firsts : firsts_of (slice_set endings place new) ≡ firsts_of endings
      same_firsts = map-set_same (λ (a : Ending). a.first) endings place new e (ap (λ (a : Ending). a.first) is)

      kept_one : (x.ended.items ≢ slice_index_or (kept_of endings) place x.ended.items) → ⊥
      kept_one none = none (sym (at.same e) ∙ sym (get_or-map (λ (a : Ending). a.ended.items) endings place e x.ended.items at.there))

      below_or_last : (k : ℕ) → k < length (facts ++ x ∷ []) → (k < length facts) ⊎ (k ≡ length facts)
      below_or_last k lt = let long : length (facts ++ x ∷ []) ≡ length facts + 1 = length_push facts x in grind arith

      mine : IsEndingOf (facts ++ x ∷ []) new
      mine =
          let was : IsEndingOf facts e = subst (IsEndingOf facts) (sym is) (h.each place e at.there) in
          let ended : x.ended.items ≡ e.ended.items = sym (at.same e) ∙ sym (ap (λ (a : Ending). a.ended.items) is) in
          record {
            runs = subst (IsCount (EndsSo e.ended.items) (facts ++ x ∷ [])) (sym more)
                (count_more (EndsSo e.ended.items) facts x e.runs was.runs ended);
            first = first_stays facts x e.ended.items e.first was.first;
          }

      each : All (IsEndingOf (facts ++ x ∷ [])) (slice_set endings place new)
      each k d lt = elim (same_or_other k place) [
        | inl same ↦ subst (IsEndingOf (facts ++ x ∷ []))
            (sym (ap (λ (n : ℕ). slice_index_or (slice_set endings place new) n d) same ∙ get_or-set_same endings place new d at.there)) mine
        | inr not ↦ (
            let in_range : k < length endings = omega (arith, lt, length-set endings place new) in
            let was = h.each k d in_range in
            let a = slice_index_or endings k d in
            subst (IsEndingOf (facts ++ x ∷ [])) (sym (get_or-set_other endings place k new d not))
            (record {
              runs = count_same (EndsSo a.ended.items) facts x a.runs was.runs (λ so. apart_from place k d at in_range not (sym so));
              first = first_stays facts x a.ended.items a.first was.first;
            })
            )
      ]

  -- none ended as this run did
  module _ (none : All (λ (e : Ending). x.ended.items ≢ e.ended.items) endings) where
    others : (k : ℕ) (d : Ending) → k < length endings → IsEndingOf (facts ++ x ∷ []) (slice_index_or endings k d)
    others k d lt =
        let was = h.each k d lt in
        let a = slice_index_or endings k d in
        record {
          runs = count_same (EndsSo a.ended.items) facts x a.runs was.runs (λ so. none k d lt so);
          first = first_stays facts x a.ended.items a.first was.first;
        }

    is_other : (f : RunFacts) → f.ended.items ≡ x.ended.items → IsOther (kept_of endings) f
    is_other f same k d lt so =
        let in_range : k < length endings = omega (arith, lt, length-map endings (λ (a : Ending). a.ended.items)) in
        let e : Ending = record { ended = f.ended; runs = 0; first = 0 } in
        none k e in_range (sym same ∙ so ∙ get_or-map (λ (a : Ending). a.ended.items) endings k e d in_range)

    firsts_below : All (λ first. first < length facts) (firsts_of endings)
    firsts_below k d lt =
        let in_range : k < length endings = omega (arith, lt, length-map endings (λ (a : Ending). a.first)) in
        let e : Ending = record { ended = x.ended; runs = 0; first = 0 } in
        subst (λ (n : ℕ). n < length facts) (sym (get_or-map (λ (a : Ending). a.first) endings k e d in_range)) (h.each k e in_range).first.there

    last_or_below : (k : ℕ) → k < length (facts ++ x ∷ []) → (k < length facts) ⊎ (k ≡ length facts)
    last_or_below k lt = let long : length (facts ++ x ∷ []) ≡ length facts + 1 = length_push facts x in grind arith

    -- there is room for one way more
    pub ended_anew : (e : Ending) → length endings < 256 → e.ended.items ≡ x.ended.items → e.runs ≡ 1 → e.first ≡ length facts
        → AreEndings (facts ++ x ∷ []) (endings ++ e ∷ []) other
    ended_anew e room so one first =
        record {
          few = omega (arith, room, length_push endings e);
          each = All-append (IsEndingOf (facts ++ x ∷ [])) endings (e ∷ []) (λ k d lt. others k d lt) mine;
          apart = λ j k d lt in_range. rising j k d lt in_range;
          other = count_same (IsOther (kept_of (endings ++ e ∷ []))) facts x other
              (count_alike (IsOther (kept_of endings)) (IsOther (kept_of (endings ++ e ∷ []))) facts other
              (λ k d lt is. absurd (all_kept k d lt is)) (λ k d lt is. fewer (slice_index_or facts k d) is) h.other)
              (λ is. is (length endings) x.ended.items last_there (sym last_kept));
          full = λ k d lt is. elim (last_or_below k lt) [
            | inl below ↦ absurd (all_kept k d below (fewer (slice_index_or facts k d)
                (subst (λ (f : RunFacts). IsOther (kept_of (endings ++ e ∷ [])) f) (at_front facts x k d below) is)))
            | inr last ↦ absurd (subst (λ (f : RunFacts). IsOther (kept_of (endings ++ e ∷ [])) f) (get_or_push facts x d k (sym last)) is
                (length endings) x.ended.items last_there (sym last_kept))
          ];
        }
      where
        all_kept : (k : ℕ) (d : RunFacts) → k < length facts → IsOther (kept_of endings) (slice_index_or facts k d) → ⊥
        all_kept k d lt is = omega (arith, room, (h.full k d lt is).0)

        more : kept_of (endings ++ e ∷ []) ≡ kept_of endings ++ e.ended.items ∷ []
        more = map_push (λ (a : Ending). a.ended.items) endings e

        last_there : length endings < length (kept_of (endings ++ e ∷ []))
        last_there = omega (arith, length-map (endings ++ e ∷ []) (λ (a : Ending). a.ended.items), length_push endings e)

        last_kept : slice_index_or (kept_of (endings ++ e ∷ [])) (length endings) x.ended.items ≡ x.ended.items
        last_kept = rw more (get_or_push (kept_of endings) e.ended.items x.ended.items (length endings)
            (length-map endings (λ (a : Ending). a.ended.items)) ∙ so)

        fewer : (f : RunFacts) → IsOther (kept_of (endings ++ e ∷ [])) f → IsOther (kept_of endings) f
        fewer f is k d lt same =
            is k d (omega (arith, lt, last_there, length-map endings (λ (a : Ending). a.ended.items)))
            (same ∙ sym (rw more (get_or_append_left (kept_of endings) (e.ended.items ∷ []) d k lt)))

        mine : All (IsEndingOf (facts ++ x ∷ [])) (e ∷ [])
        mine zero d lt =
            record {
              runs = subst (IsCount (EndsSo e.ended.items) (facts ++ x ∷ [])) (sym one)
                  (count_more (EndsSo e.ended.items) facts x 0
                  (count_none (EndsSo e.ended.items) facts (λ k f in_range is. all_kept k f in_range (is_other (slice_index_or facts k f) (is ∙ so))))
                  (sym so));
              first = record {
                there = omega (arith, first, length_push facts x);
                so = λ f. ap (λ (g : RunFacts). g.ended.items) (get_or_push facts x f e.first (sym first)) ∙ sym so;
                before = λ k f lt is. all_kept k f (omega (arith, lt, first)) (is_other (slice_index_or facts k f)
                    (sym (ap (λ (g : RunFacts). g.ended.items) (at_front facts x k f (omega (arith, lt, first)))) ∙ is ∙ so));
              };
            }
        mine (suc k) d lt = absurd (omega (arith, lt))

        last_first : (d : ℕ) → slice_index_or (firsts_of (endings ++ e ∷ [])) (length endings) d ≡ length facts
        last_first d =
            ap (λ (xs : List ℕ). slice_index_or xs (length endings) d) (map_push (λ (a : Ending). a.first) endings e)
            ∙ get_or_push (firsts_of endings) e.first d (length endings) (length-map endings (λ (a : Ending). a.first)) ∙ first

        front_first : (k d : ℕ) → k < length endings
            → slice_index_or (firsts_of (endings ++ e ∷ [])) k d ≡ slice_index_or (firsts_of endings) k d
        front_first k d lt =
            ap (λ (xs : List ℕ). slice_index_or xs k d) (map_push (λ (a : Ending). a.first) endings e)
            ∙ get_or_append_left (firsts_of endings) (e.first ∷ []) d k (omega (arith, lt, length-map endings (λ (a : Ending). a.first)))

        rising : (j k d : ℕ) → j < k → k < length (endings ++ e ∷ [])
            → slice_index_or (firsts_of (endings ++ e ∷ [])) j d < slice_index_or (firsts_of (endings ++ e ∷ [])) k d
        rising j k d lt in_range = elim (same_or_other k (length endings)) [
          | inl last ↦ (
              let low : j < length endings = omega (arith, lt, last) in
              let below = firsts_below j d (omega (arith, low, length-map endings (λ (a : Ending). a.first))) in
              rw last (omega (arith, below, front_first j d low, last_first d))
              )
          | inr not ↦ (
              let high : k < length endings = omega (arith, not, in_range, length_push endings e) in
              omega (arith, h.apart j k d lt high, front_first j d (omega (arith, lt, high)), front_first k d high)
              )
        ]

    -- there is none
    pub ended_otherwise : length endings ≡ 256 → AreEndings (facts ++ x ∷ []) endings (other + 1)
    ended_otherwise all =
        record {
          few = h.few;
          each = λ k d lt. others k d lt;
          apart = h.apart;
          other = count_more (IsOther (kept_of endings)) facts x other h.other (is_other x refl);
          full = λ k d lt is. elim (last_or_below k lt) [
            | inl below ↦ h.full k d below (subst (λ (f : RunFacts). IsOther (kept_of endings) f) (at_front facts x k d below) is)
            | inr last ↦ (all, rw last firsts_below)
          ];
        }

-- ---- no run

none_counted : (n k d : ℕ) → k < n → slice_index_or (replicate n 0) k d ≡ 0
none_counted n k d lt = get_or-replicate n k 0 d lt

pub no_counts : (n : ℕ) (counts : List ℕ) → counts ≡ replicate n 0 → (P : ℕ → RunFacts → Type 0) → (k : ℕ) → k < length counts
    → IsCount (P k) [] (slice_index_or counts k 0)
unfolding IsCount
no_counts n counts is P k lt =
    ap (λ (xs : List ℕ). slice_index_or xs k 0) is
    ∙ none_counted n k 0 (omega (arith, lt, ap (λ (xs : List ℕ). length xs) is, length-replicate {A = ℕ} n 0))

pub no_endings : (other : ℕ) → other ≡ 0 → AreEndings [] [] other
unfolding IsCount
no_endings other none =
    record {
      few = omega arith;
      each = λ k d lt. absurd (omega (arith, lt));
      apart = λ j k d lt in_range. absurd (omega (arith, in_range));
      other = none;
      full = λ k d lt is. absurd (omega (arith, lt));
    }
