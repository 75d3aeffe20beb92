-- A copy of a file is a picture of it.
use Rattle.std.proofs.Common.{◌≡◌, ℕ, ◌+◌, ◌<◌, ◌≤◌, List, [], ◌∷◌, get_or, refl, sym, ◌∙◌, ap, subst, arith}
use Rattle.std.specs.Prelude.{Bool, true, false, ◌||◌, T, IsTrue, All, AllPairs, is_some, map}
use Rattle.std.proofs.lemmas.List.Elements.{All-cons, All-nil, All-map, All-weaker, All-same}
use Rattle.std.proofs.lemmas.List.Kept.{AllPairs-cons}
use Rattle.std.specs.FinMap as finite
use Rattle.std.specs.Ordering.{nat_cmp}
use Rattle.hp_base.specs.Indices.{is_within}
use Rattle.hp_base.specs.declared.limits.TheConstants.{LIMIT}
use Rattle.hp_region.specs.Regions.{is_member, IsApartFrom}
use Rattle.hp_region.specs.declared.region.Region.{Region}
use Rattle.hp_audit.specs.Findings.{is_reserved}
use Rattle.hp_audit.specs.declared.picture.FilePicture.{FilePicture}
use Rattle.hp_parts.specs.declared.parts.FileState.{FileState}
use Rattle.hp_parts.specs.View.{no_file, sizes_of, sets_of, pages_of, holders_of}
use Rattle.hp_slots.specs.Holders.{holder_of}
use Rattle.hp_core.specs.State.{CoreState, as_state}
use Rattle.hp_core.specs.Copies.{IsCopy}
use Rattle.hp_core.specs.Pictures.{IsFilePicture}

-- a region as a picture tells it
abbrev pair_of : Region → ℕ × ℕ
pair_of r = (r.from, r.to)

-- what the pictured regions have is what the regions have
reserved_same : (rs : List Region) (i : ℕ) → is_reserved (map pair_of rs) i ≡ is_member rs i
reserved_same [] i = refl
reserved_same (r ∷ rs) i = ap (λ (b : Bool). is_within r.from r.to i || b) (reserved_same rs i)

-- each region has an index, and all end within the limit
ranges_of : (low : ℕ) (rs : List Region) → IsApartFrom low rs → All (λ r. (r.from < r.to) × (r.to ≤ LIMIT)) rs
ranges_of low [] apart = All-nil (λ (r : Region). (r.from < r.to) × (r.to ≤ LIMIT))
ranges_of low (r ∷ rs) apart =
    All-cons (λ (r : Region). (r.from < r.to) × (r.to ≤ LIMIT)) r rs (apart.1, apart.2) (ranges_of (r.to + 1) rs apart.3)

-- all begin above what they stand above
above : (low : ℕ) (rs : List Region) → IsApartFrom low rs → All (λ r. low ≤ r.from) rs
above low [] apart = All-nil (λ (r : Region). low ≤ r.from)
above low (r ∷ rs) apart =
    All-cons (λ (r : Region). low ≤ r.from) r rs apart.0
    (All-weaker (λ (s : Region). r.to + 1 ≤ s.from) (λ (s : Region). low ≤ s.from)
    (λ s l. (let a = apart.0 in let b = apart.1 in omega (arith, a, b, l))) rs (above (r.to + 1) rs apart.3))

-- regions that are apart are so in the picture
apart_pairs : (low : ℕ) (rs : List Region) → IsApartFrom low rs → AllPairs (λ region other. region.1 < other.0) (map pair_of rs)
apart_pairs low [] apart = λ i j d l within. absurd (omega arith)
apart_pairs low (r ∷ rs) apart =
    let R : ℕ × ℕ → ℕ × ℕ → Type 0 = λ region other. region.1 < other.0 in
    let later : All (λ (s : Region). r.to < s.from) rs =
    All-weaker (λ (s : Region). r.to + 1 ≤ s.from) (λ (s : Region). r.to < s.from) (λ s l. omega (arith, l)) rs
    (above (r.to + 1) rs apart.3) in
    AllPairs-cons R (r.from, r.to) (map pair_of rs) (All-map (R (r.from, r.to)) pair_of rs later) (apart_pairs (r.to + 1) rs apart.3)

-- a test that is said to hold passes
to_test : (b : Bool) → T b → IsTrue b
to_test true is = refl
to_test false is = absurd is

-- so a copy of a file is its picture
pub file_picture_of : (s : CoreState) (f : ℕ) (p : FilePicture)
    → IsCopy (get_or s.parts.files f no_file) (is_some (holder_of s.parts.locks f)) p → IsFilePicture (as_state s) f p
unfolding sizes_of sets_of pages_of holders_of
file_picture_of s f p h =
    let file : FileState = get_or s.parts.files f no_file in
    record {
      size = h.size;
      locked = h.locked;
      reserved = λ i. ap (λ (rs : List (ℕ × ℕ)). is_reserved rs i) h.regions ∙ reserved_same file.map.regions i;
      ranges =
          All-same (λ (region : ℕ × ℕ). (region.0 < region.1) × (region.1 ≤ LIMIT)) p.regions.items
          (map pair_of file.map.regions) h.regions
          (All-map (λ (region : ℕ × ℕ). (region.0 < region.1) × (region.1 ≤ LIMIT)) pair_of file.map.regions
          (ranges_of 0 file.map.regions h.apart));
      apart =
          subst (λ (rs : List (ℕ × ℕ)). AllPairs (λ region other. region.1 < other.0) rs) (sym h.regions)
          (apart_pairs 0 file.map.regions h.apart);
      pages = λ i. ap (λ (es : List (ℕ × ℕ)). finite.find nat_cmp i es) h.pages ∙ sym (finite.get-entries file.cache.pages i);
      in_order = ap (λ (es : List (ℕ × ℕ)). finite.is_sorted nat_cmp es) h.pages ∙ to_test _ (finite.entries_sorted file.cache.pages);
      in_file = h.in_file;
    }
