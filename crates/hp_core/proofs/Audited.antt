-- Nothing is wrong with a picture of a core.
use Rattle.std.proofs.Common.{◌≡◌, ℕ, zero, suc, ◌+◌, ◌<◌, ◌≤◌, length, get_or, refl, sym, ◌∙◌, ap, subst, arith, inl, inr}
use Rattle.std.specs.Prelude.{Bool, true, false, not, ◌&&◌, ◌==◌, nat_lt, cond, Option, Some, None, is_some, IsSomeAnd, IfSome}
use Rattle.std.specs.Prelude.{All, Contains, slice_get, sum_by, count_by, ℤ, pos, ◌+ℤ◌, ◌-ℤ◌}
use Rattle.std.specs.Option.{unwrap_or}
use Rattle.std.specs.FinMap as finite
use Rattle.std.specs.Ordering.{nat_cmp}
use Rattle.std.proofs.lemmas.Bool.{ltb-true, ltb-false, eqb-true}
use Rattle.std.proofs.lemmas.Bool.Decides.{nat_tests}
use Rattle.std.proofs.lemmas.Int.{ints}
use Rattle.std.proofs.lemmas.Option.{slice_get_cases}
use Rattle.std.proofs.lemmas.List.Elements.{All-weaker}
use Rattle.std.proofs.lemmas.List.Sums.{get_or-le-sum_by}
use Rattle.std.proofs.Math.ListN.{get_or-eq_default}
use Rattle.hp_base.specs.Numbers.{bit, is_none, total}
use Rattle.hp_base.specs.Indices.{vacant, count_below}
use Rattle.hp_base.specs.Mappings.{find, is_there}
use Rattle.hp_base.specs.declared.limits.TheConstants.{LIMIT, VPNS}
use Rattle.hp_base.proofs.Counting.{count_below-ext}
use Rattle.hp_base.proofs.Spaces.{both_true}
use Rattle.hp_base.proofs.Sums.{sum_by-total, sum_at_most_one}
use Rattle.hp_base.proofs.Totals.{total_somewhere, at_most_one, count_below_somewhere}
use Rattle.hp_core.proofs.Order.{find_at, keys_differ, found_entry, found_somewhere}
use Rattle.hp_frames.specs.Bank.{is_free, is_retired}
use Rattle.hp_frames.proofs.Frames.{free_is, retired_is}
use Rattle.hp_machine.specs.State.{State}
use Rattle.hp_machine.specs.Views.{hand}
use Rattle.hp_machine.specs.Headline as head
use Rattle.hp_machine.specs.Headline.{Place, Free, Hand, Page, Retired, IsAt}
use Rattle.hp_laws.proofs.Meets.{page_inside}
use Rattle.hp_laws.proofs.Moves.{Placing, same_place, other_hand, other_page}
use Rattle.hp_laws.proofs.Runs.{always}
use Rattle.hp_audit.specs.declared.picture.FilePicture.{FilePicture}
use Rattle.hp_audit.specs.declared.picture.Picture.{Picture}
use Rattle.hp_audit.specs.Findings.{IsFileShaped, IsShaped, Agrees, IsOnePlace, IsBelow, IsCounted, IsUsedCounted, IsRight}
use Rattle.hp_audit.specs.Findings.{times_in, pages_in}
use Rattle.hp_audit.specs.Findings.{place_count, is_vacant, vacant_of, vacant_in, reserved_of, reserved_in, has_page}
use Rattle.hp_audit.proofs.Counts.{counts as passed, counted, counted_in}
use Rattle.hp_parts.specs.View.{no_file, pages_of}
use Rattle.hp_core.specs.State.{CoreState, as_state}
use Rattle.hp_machine.specs.Events.{IsReached}
use Rattle.hp_core.specs.Runs.{Headline}
use Rattle.hp_core.specs.Pictures.{IsPicture, IsFilePicture, is_that, is_entry, translates}
use Rattle.hp_core.specs.Readers.{free_of, resv_of, owed_of, used_of, used_owed_of, quota_of}
use Rattle.hp_core.proofs.Headlines.{headline_at}

-- the headline, seen as the machine's
head_of : (s : CoreState) → IsReached (as_state s) → head.Headline (as_state s)
unfolding Headline
head_of s h = headline_at s h

-- each page that a file's picture tells is the state's
pages_told : (s : CoreState) (f : ℕ) (file : FilePicture) → IsFilePicture (as_state s) f file
    → All (λ page. (as_state s).pages f page.0 ≡ Some page.1) file.pages.items
pages_told s f file is = λ k d within. sym (is.pages (get_or file.pages.items k d).0) ∙ find_at file.pages.items k d is.in_order within

-- the picture of a file has its regions and pages in order, and within the limits
file_shaped : (s : CoreState) (f : ℕ) (file : FilePicture) → IsFilePicture (as_state s) f file → IsFileShaped file
file_shaped s f file is = record {
  regions =
      All-weaker (λ (region : ℕ × ℕ). (region.0 < region.1) × (region.1 ≤ LIMIT))
      (λ (region : ℕ × ℕ). (region.0 ≤ region.1) × (region.1 ≤ LIMIT)) (λ region h. (omega (arith, h.0), h.1))
      file.regions.items is.ranges;
  pages = is.in_file;
  once = keys_differ file.pages.items is.in_order;
}

-- what holds of the picture of each file holds of all that are told
each_file : (s : CoreState) (p : Picture) (P : FilePicture → Type 0) → IsPicture s p
    → ((f : ℕ) (file : FilePicture) → IsFilePicture (as_state s) f file → P file) → All P p.files.items
each_file s p P h each = λ k d within. each k (get_or p.files.items k d) (h.files k (omega (arith, h.as_many, within)) d)

-- a file that has a page is there
file_there : (s : CoreState) (f i x : ℕ) → (as_state s).pages f i ≡ Some x → f < length s.parts.files
unfolding pages_of
file_there s f i x has = elim (nat_lt f (length s.parts.files)) as (λ b. nat_lt f (length s.parts.files) ≡ b → f < length s.parts.files) [
  | true ↦ λ e. ltb-true f (length s.parts.files) e
  | false ↦ λ e.
      let none : get_or s.parts.files f no_file ≡ no_file =
      get_or-eq_default s.parts.files no_file (ltb-false f (length s.parts.files) e) in
      let bare : (as_state s).pages f i ≡ None = ap (λ file. finite.get file.cache.pages i) none ∙ finite.get-empty nat_cmp i in
      let d : ◌≡◌ {A = Option ℕ} None (Some x) = sym bare ∙ has in absurd (cc)
] refl

-- a test that counts has passed, and says what it asked
is_one : (b : Bool) → 0 < bit b → b ≡ true
is_one true some = refl
is_one false some = absurd (omega (arith, some))

-- a test that finds a number found that number
that_is : (x : ℕ) (o : Option ℕ) → is_that x o ≡ true → o ≡ Some x
that_is x None e = (let d : false ≡ true = e in absurd (cc))
that_is x (Some y) e = ap (λ (z : ℕ). Some z) (eqb-true y x e)

-- a test that finds a place found that place
there_is : (f i : ℕ) (o : Option (ℕ × ℕ)) → is_there o f i ≡ true → o ≡ Some (f, i)
there_is f i None e = (let d : false ≡ true = e in absurd (cc))
there_is f i (Some place) e =
    let both = both_true (place.0 == f) (place.1 == i) e in
    λ j. Some (eqb-true place.0 f both.0 j, eqb-true place.1 i both.1 j)

-- some virtual page of the task stands for that index of the file, and is translated to the frame
abbrev IsTranslation : State → ℕ × ℕ × ℕ × ℕ → Type 0
IsTranslation s entry = (v : ℕ) × (s.entries entry.0 v ≡ Some entry.3) × (find (s.mappings entry.0) v ≡ Some (entry.1, entry.2))

-- an entry is of its own task, index and frame
its_own : (e : ℕ × ℕ × ℕ × ℕ) → is_entry e.0 e.1 e.2 e.3 e ≡ true
its_own e = grind (arith, nat_tests)

-- each entry that is told is one
told : (s : CoreState) (p : Picture) → IsPicture s p → All (IsTranslation (as_state s)) p.tables.items
told s p is = λ k d within. of_entry (get_or p.tables.items k d) (there k d within)
  where
    times : ℕ × ℕ × ℕ × ℕ → ℕ
    times e = count_by (is_entry e.0 e.1 e.2 e.3) p.tables.items

    there : (k : ℕ) (d : ℕ × ℕ × ℕ × ℕ) → k < length p.tables.items → 0 < times (get_or p.tables.items k d)
    there k d within =
        let e : ℕ × ℕ × ℕ × ℕ = get_or p.tables.items k d in
        let one : cond {A = ℕ} (is_entry e.0 e.1 e.2 e.3 e) 1 0 ≡ 1 = ap (λ (b : Bool). cond b 1 0) (its_own e) in
        let all = get_or-le-sum_by (λ entry. cond (is_entry e.0 e.1 e.2 e.3 entry) 1 0) p.tables.items k d within in
        omega (arith, one, all)

    of_entry : (e : ℕ × ℕ × ℕ × ℕ) → 0 < times e → IsTranslation (as_state s) e
    of_entry e some =
        let at = count_below_somewhere (translates (as_state s) e.0 e.1 e.2 e.3) VPNS (omega (arith, some, is.tables e.0 e.1 e.2 e.3)) in
        let place : Option (ℕ × ℕ) = find ((as_state s).mappings e.0) at.0 in
        let frame : Option ℕ = (as_state s).entries e.0 at.0 in
        let both = both_true (is_there place e.1 e.2) (is_that e.3 frame) at.2 in
        (at.0, that_is e.3 frame both.1, there_is e.1 e.2 place both.0)

-- a translation is to its file's page
page_told : (s : CoreState) (e : ℕ × ℕ × ℕ × ℕ) → IsReached (as_state s) → IsTranslation (as_state s) e
    → (as_state s).pages e.1 e.2 ≡ Some e.3
page_told s e h is =
    let a = (head_of s h).agree e.0 is.0 e.3 is.1 in
    let same : Some (e.1, e.2) ≡ Some a.0 = sym is.2 ∙ a.1 in
    let place : (e.1, e.2) ≡ a.0 = ap (λ (o : Option (ℕ × ℕ)). unwrap_or o (e.1, e.2)) same in
    ap (λ (q : ℕ × ℕ). (as_state s).pages q.0 q.1) place ∙ a.2

-- a picture of a reached core is shaped as one: its files are, and each entry is of a file that is told, at an index below
-- the limit
shaped : (s : CoreState) (p : Picture) → IsReached (as_state s) → IsPicture s p → IsShaped p
shaped s p h is = record {
  files = each_file s p IsFileShaped is (λ f file of. file_shaped s f file of);
  tables =
      All-weaker (IsTranslation (as_state s))
      (λ (entry : ℕ × ℕ × ℕ × ℕ). (entry.1 < length p.files.items) × (entry.2 < LIMIT)) (λ e of. within e of)
      p.tables.items (told s p is);
}
  where
    within : (e : ℕ × ℕ × ℕ × ℕ) → IsTranslation (as_state s) e → (e.1 < length p.files.items) × (e.2 < LIMIT)
    within e of =
        let page = page_told s e h of in
        (omega (arith, file_there s e.1 e.2 e.3 page, is.as_many), page_inside (as_state s) e.1 e.2 e.3 h page)

-- the picture of a file that is there
file_told : (s : CoreState) (p : Picture) (f : ℕ) → IsPicture s p → f < length s.parts.files
    → (file : FilePicture) × (slice_get p.files.items f ≡ Some file) × IsFilePicture (as_state s) f file
file_told s p f h l = elim (slice_get_cases p.files.items f).1 [
  | inl there ↦ (there.0, there.2, subst (λ (file : FilePicture). IsFilePicture (as_state s) f file) there.3 (h.files f l there.0))
  | inr past ↦ absurd (omega (arith, h.as_many, l, past.0))
]

-- each translation that is told agrees with the pages that are told
agrees : (s : CoreState) (p : Picture) → IsReached (as_state s) → IsPicture s p → Agrees p
agrees s p h is = λ k d within. of_entry (get_or p.tables.items k d) (told s p is k d within)
  where
    of_entry : (e : ℕ × ℕ × ℕ × ℕ) → IsTranslation (as_state s) e
        → IsSomeAnd (slice_get p.files.items e.1) (λ file. Contains file.pages.items (e.2, e.3))
    of_entry e of =
        let page = page_told s e h of in
        let told = file_told s p e.1 is (file_there s e.1 e.2 e.3 page) in
        rw told.1 (found_entry e.2 e.3 told.0.pages.items (told.2.pages e.2 ∙ page))

-- and lies below the size of its file, where that isn't locked
below : (s : CoreState) (p : Picture) → IsReached (as_state s) → IsPicture s p → IsBelow p
below s p h is = λ k d within. of_entry (get_or p.tables.items k d) (told s p is k d within)
  where
    unlocked : (o : Option ℕ) → is_some o ≡ false → o ≡ None
    unlocked None e = refl
    unlocked (Some u) e = (let d : true ≡ false = e in absurd (cc))

    of_entry : (e : ℕ × ℕ × ℕ × ℕ) → IsTranslation (as_state s) e
        → IfSome (slice_get p.files.items e.1) (λ file. file.locked ≡ false → e.2 < file.size)
    of_entry e of =
        let told = file_told s p e.1 is (file_there s e.1 e.2 e.3 (page_told s e h of)) in
        rw told.1 (λ idle.
        let low = (head_of s h).below e.0 of.0 e.3 e.1 e.2 of.1 of.2 (unlocked ((as_state s).locks e.1) (sym told.2.locked ∙ idle)) in
        omega (arith, low, told.2.size))

-- an option is empty where it has no value
not_some : (o : Option ℕ) → not (is_some o) ≡ is_none o
not_some None = refl
not_some (Some x) = refl

-- a file's picture has as many reserved indices without a page as the file
vacant_same : (s : CoreState) (f : ℕ) (file : FilePicture) → IsFilePicture (as_state s) f file
    → vacant_of file ≡ vacant LIMIT ((as_state s).reserved f) ((as_state s).pages f)
unfolding vacant_of vacant
vacant_same s f file is =
    count_below-ext (is_vacant file) (λ i. (as_state s).reserved f i && is_none ((as_state s).pages f i)) LIMIT (λ i low.
    let page : has_page file.pages.items i ≡ is_some ((as_state s).pages f i) =
    found_somewhere i file.pages.items ∙ ap (λ (o : Option ℕ). is_some o) (is.pages i) in
    ap (λ (b : Bool). b && not (has_page file.pages.items i)) (is.reserved i)
    ∙ ap (λ (b : Bool). (as_state s).reserved f i && b) (ap not page ∙ not_some ((as_state s).pages f i)))

-- so have all together
vacant_all : (s : CoreState) (p : Picture) → IsPicture s p → vacant_in p ≡ head.vacant_in (as_state s)
vacant_all s p is =
    let of_files : ℕ → ℕ = λ f. vacant LIMIT ((as_state s).reserved f) ((as_state s).pages f) in
    sum_by-total vacant_of of_files p.files.items
    (λ f within d. vacant_same s f (get_or p.files.items f d) (is.files f (omega (arith, is.as_many, within)) d))
    ∙ ap (λ (n : ℕ). total n of_files) is.as_many

-- a sum on both sides is a difference, with its sign
signed : (r v behind ahead : ℕ) → r + behind ≡ v + ahead → pos r ≡ pos v +ℤ (pos ahead -ℤ pos behind)
signed r v behind ahead h = grind (arith, ints, h)

-- the reserve count that is told is right, and at most the free frames
counts : (s : CoreState) (p : Picture) → IsReached (as_state s) → IsPicture s p → IsCounted p
unfolding owed_of resv_of free_of
counts s p h is =
    let top = head_of s h in
    record {
      exact =
          ap (λ (n : ℕ). pos n) is.resv
          ∙ (signed (as_state s).resv (vacant_in p) (head.all_behind (as_state s)) (head.all_ahead (as_state s))
          (top.count ∙ ap (λ (n : ℕ). n + head.all_ahead (as_state s)) (sym (vacant_all s p is)))
          ∙ ap (λ (z : ℤ). pos (vacant_in p) +ℤ z) (sym is.owed));
      enough = omega (arith, is.resv, top.enough, is.frees);
    }

-- a file's picture has as many reserved indices as the file
reserved_same : (s : CoreState) (f : ℕ) (file : FilePicture) → IsFilePicture (as_state s) f file
    → reserved_of file ≡ count_below ((as_state s).reserved f) LIMIT
unfolding reserved_of
reserved_same s f file is = count_below-ext _ ((as_state s).reserved f) LIMIT (λ i low. is.reserved i)

-- so have all together
reserved_all : (s : CoreState) (p : Picture) → IsPicture s p → reserved_in p ≡ head.reserved_in (as_state s)
reserved_all s p is =
    let of_files : ℕ → ℕ = λ f. count_below ((as_state s).reserved f) LIMIT in
    sum_by-total reserved_of of_files p.files.items
    (λ f within d. reserved_same s f (get_or p.files.items f d) (is.files f (omega (arith, is.as_many, within)) d))
    ∙ ap (λ (n : ℕ). total n of_files) is.as_many

-- the used count that is told is right, and within the quota
uses_counted : (s : CoreState) (p : Picture) → IsReached (as_state s) → IsPicture s p → IsUsedCounted p
unfolding used_of used_owed_of quota_of
uses_counted s p h is =
    let top = head_of s h in
    record {
      exact =
          ap (λ (n : ℕ). pos n) (is.used ∙ (top.used ∙ ap (λ (n : ℕ). n + head.all_used_ahead (as_state s)) (sym (reserved_all s p is))))
          ∙ ap (λ (z : ℤ). pos (reserved_in p) +ℤ z) (sym is.used_owed);
      within =
          subst (λ (quota : Option ℕ). IfSome quota (λ most. p.used ≤ most)) (sym is.quota)
          (subst (λ (n : ℕ). IfSome (as_state s).geometry.quota (λ most. n ≤ most)) (sym is.used) top.within);
    }

-- the frame is at that place
abbrev IsPlaced : CoreState → ℕ → Place → Type 0
IsPlaced s x q = IsAt (as_state s).frame (λ t. hand ((as_state s).calls t)) (as_state s).pages x q

-- a frame has one place
alone : (s : CoreState) (x : ℕ) (q r : Place) → IsReached (as_state s) → IsPlaced s x q → IsPlaced s x r → q ≡ r
alone s x q r h a b =
    same_place (as_state s).frames (as_state s).frame (λ t. hand ((as_state s).calls t)) (as_state s).pages
    (head_of s h).place x q r a b

-- a test counts once at most
bit_one : (b : Bool) → bit b ≤ 1
bit_one true = omega arith
bit_one false = omega arith

-- a frame that counts as free is free
-- a frame that is told as free is free
free_at : (s : CoreState) (p : Picture) (x : ℕ) → IsPicture s p → 0 < times_in p.free.items x → IsPlaced s x Free
free_at s p x is some = free_is ((as_state s).frame x) (is_one (is_free ((as_state s).frame x)) (omega (arith, some, is.free x)))

-- a frame is told as free once at most
free_once : (s : CoreState) (p : Picture) (x : ℕ) → IsPicture s p → times_in p.free.items x ≤ 1
free_once s p x is = omega (arith, is.free x, bit_one (is_free ((as_state s).frame x)))

-- so with the retired ones
retired_at : (s : CoreState) (p : Picture) (x : ℕ) → IsPicture s p → 0 < times_in p.retired.items x → IsPlaced s x Retired
retired_at s p x is some =
    retired_is ((as_state s).frame x) (is_one (is_retired ((as_state s).frame x)) (omega (arith, some, is.retired x)))

retired_once : (s : CoreState) (p : Picture) (x : ℕ) → IsPicture s p → times_in p.retired.items x ≤ 1
retired_once s p x is = omega (arith, is.retired x, bit_one (is_retired ((as_state s).frame x)))

-- one that is told in a hand is in some call's
hand_at : (s : CoreState) (p : Picture) (x : ℕ) → IsPicture s p → 0 < times_in p.hands.items x → (t : ℕ) × IsPlaced s x (Hand t)
hand_at s p x is some =
    let at = total_somewhere ((as_state s).geometry.tasks + 1) (λ t. bit (is_that x (hand ((as_state s).calls t))))
    (omega (arith, some, is.hands x)) in
    (at.0, that_is x (hand ((as_state s).calls at.0)) (is_one (is_that x (hand ((as_state s).calls at.0))) at.2))

-- each frame has its place, as the machine's invariant says it
placing : (s : CoreState) → IsReached (as_state s) → Placing (as_state s).frames (as_state s).frame (λ t. hand ((as_state s).calls t))
    (as_state s).pages
placing s h = (always (as_state s) h).inv.place

-- and in a hand once at most
hand_once : (s : CoreState) (p : Picture) (x : ℕ) → IsReached (as_state s) → IsPicture s p → times_in p.hands.items x ≤ 1
hand_once s p x h is =
    let holds : ℕ → Bool = λ t. is_that x (hand ((as_state s).calls t)) in
    let few = at_most_one ((as_state s).geometry.tasks + 1) holds true (λ t e. refl)
    (λ t u a b. other_hand (as_state s).frames (as_state s).frame (λ v. hand ((as_state s).calls v))
    (as_state s).pages u t x (placing s h) (that_is x (hand ((as_state s).calls u)) b)
    (that_is x (hand ((as_state s).calls t)) a)) in
    omega (arith, few, is.hands x)

-- two pages in one frame are one
one_page : (s : CoreState) (x f i k j : ℕ) → IsReached (as_state s) → (as_state s).pages f i ≡ Some x → (as_state s).pages k j ≡ Some x
    → (f ≡ k) × (i ≡ j)
one_page s x f i k j h a b =
    other_page (as_state s).frames (as_state s).frame (λ t. hand ((as_state s).calls t)) (as_state s).pages k j f i x
    (placing s h) b a

-- a frame that a file's picture has is the file's page
page_of : (s : CoreState) (f x : ℕ) (file : FilePicture) → IsFilePicture (as_state s) f file → 0 < pages_in file.pages.items x
    → (i : ℕ) × IsPlaced s x (Page f i)
page_of s f x file is some =
    counted (λ (page : ℕ × ℕ). page.1) (λ y. (i : ℕ) × ((as_state s).pages f i ≡ Some y)) x file.pages.items
    (λ k d within. ((get_or file.pages.items k d).0, pages_told s f file is k d within)) some

-- a frame that is told as a page is one
page_at : (s : CoreState) (p : Picture) (x : ℕ) → IsPicture s p → 0 < sum_by (λ file. pages_in file.pages.items x) p.files.items
    → (place : ℕ × ℕ) × IsPlaced s x (Page place.0 place.1)
page_at s p x is some =
    let P : ℕ → Type 0 = λ y. (place : ℕ × ℕ) × ((as_state s).pages place.0 place.1 ≡ Some y) in
    counted_in P x p.files.items
    (each_file s p (λ file. All (λ page. P page.1) file.pages.items) is
    (λ f file of k d within. ((f, (get_or file.pages.items k d).0), pages_told s f file of k d within))) some

-- a file has a frame at one index
once_in_file : (s : CoreState) (f x : ℕ) (file : FilePicture) → IsReached (as_state s) → IsFilePicture (as_state s) f file
    → pages_in file.pages.items x ≤ 1
once_in_file s f x file h is =
    sum_at_most_one (λ (page : ℕ × ℕ). cond (page.1 == x) 1 0) file.pages.items
    (λ k d within. one ((get_or file.pages.items k d).1 == x)) (λ i j d lt within a b.
    keys_differ file.pages.items is.in_order i j d lt within
    (one_page s x f (get_or file.pages.items i d).0 f (get_or file.pages.items j d).0 h
    (at i d (omega (arith, lt, within)) a) (at j d within b)).1)
  where
    one : (b : Bool) → cond {A = ℕ} b 1 0 ≤ 1
    one true = omega arith
    one false = omega arith

    at : (k : ℕ) (d : ℕ × ℕ) → k < length file.pages.items → 0 < cond {A = ℕ} ((get_or file.pages.items k d).1 == x) 1 0
        → IsPlaced s x (Page f (get_or file.pages.items k d).0)
    at k d within some =
        pages_told s f file is k d within
        ∙ ap (λ (y : ℕ). Some y) (eqb-true (get_or file.pages.items k d).1 x (passed ((get_or file.pages.items k d).1 == x) some))

-- and as a page once at most
page_once : (s : CoreState) (p : Picture) (x : ℕ) → IsReached (as_state s) → IsPicture s p
    → sum_by (λ file. pages_in file.pages.items x) p.files.items ≤ 1
page_once s p x h is =
    sum_at_most_one (λ (file : FilePicture). pages_in file.pages.items x) p.files.items
    (each_file s p (λ file. pages_in file.pages.items x ≤ 1) is (λ f file of. once_in_file s f x file h of)) (λ i j d lt within a b.
    let here = page_of s i x (get_or p.files.items i d) (is.files i (omega (arith, is.as_many, lt, within)) d) a in
    let there = page_of s j x (get_or p.files.items j d) (is.files j (omega (arith, is.as_many, within)) d) b in
    let same : i ≡ j = (one_page s x i here.0 j there.0 h here.1 there.1).0 in
    absurd (omega (arith, lt, same)))

-- of two that are one at most, of which not both count
few_two : (b c : ℕ) → b ≤ 1 → c ≤ 1 → (0 < b → 0 < c → ⊥) → b + c ≤ 1
few_two zero c lb lc bc = omega (arith, lc)
few_two (suc b) zero lb lc bc = omega (arith, lb)
few_two (suc b) (suc c) lb lc bc = absurd (bc (omega arith) (omega arith))

-- of four that are one at most, of which no two count
few_places : (a r b c : ℕ) → a ≤ 1 → r ≤ 1 → b ≤ 1 → c ≤ 1
    → (0 < a → 0 < r → ⊥) → (0 < a → 0 < b → ⊥) → (0 < a → 0 < c → ⊥)
    → (0 < r → 0 < b → ⊥) → (0 < r → 0 < c → ⊥) → (0 < b → 0 < c → ⊥) → a + r + b + c ≤ 1
few_places zero zero b c la lr lb lc ar ab ac rb rc bc = let two = few_two b c lb lc bc in omega (arith, two)
few_places zero (suc r) zero zero la lr lb lc ar ab ac rb rc bc = omega (arith, lr)
few_places zero (suc r) (suc b) c la lr lb lc ar ab ac rb rc bc = absurd (rb (omega arith) (omega arith))
few_places zero (suc r) zero (suc c) la lr lb lc ar ab ac rb rc bc = absurd (rc (omega arith) (omega arith))
few_places (suc a) (suc r) b c la lr lb lc ar ab ac rb rc bc = absurd (ar (omega arith) (omega arith))
few_places (suc a) zero (suc b) c la lr lb lc ar ab ac rb rc bc = absurd (ab (omega arith) (omega arith))
few_places (suc a) zero zero (suc c) la lr lb lc ar ab ac rb rc bc = absurd (ac (omega arith) (omega arith))
few_places (suc a) zero zero zero la lr lb lc ar ab ac rb rc bc = omega (arith, la)

-- so each frame is told in one place at most
one_place : (s : CoreState) (p : Picture) → IsReached (as_state s) → IsPicture s p → IsOnePlace p
unfolding place_count
one_place s p h is =
    λ x. few_places (times_in p.free.items x) (times_in p.retired.items x) (times_in p.hands.items x)
    (sum_by (λ file. pages_in file.pages.items x) p.files.items)
    (free_once s p x is) (retired_once s p x is) (hand_once s p x h is) (page_once s p x h is)
    (λ a r. free_retired (alone s x Free Retired h (free_at s p x is a) (retired_at s p x is r)))
    (λ a b. let there = hand_at s p x is b in free_hand (alone s x Free (Hand there.0) h (free_at s p x is a) there.1))
    (λ a c. let there = page_at s p x is c in free_page (alone s x Free (Page there.0.0 there.0.1) h (free_at s p x is a) there.1))
    (λ r b. let there = hand_at s p x is b in retired_hand (alone s x Retired (Hand there.0) h (retired_at s p x is r) there.1))
    (λ r c. let there = page_at s p x is c in
    retired_page (alone s x Retired (Page there.0.0 there.0.1) h (retired_at s p x is r) there.1))
    (λ b c. let here = hand_at s p x is b in let there = page_at s p x is c in
    hand_page (alone s x (Hand here.0) (Page there.0.0 there.0.1) h here.1 there.1))
  where
    free_retired : Free ≡ Retired → ⊥
    free_retired e = cc

    free_hand : {t : ℕ} → Free ≡ Hand t → ⊥
    free_hand e = cc

    free_page : {f i : ℕ} → Free ≡ Page f i → ⊥
    free_page e = cc

    retired_hand : {t : ℕ} → Retired ≡ Hand t → ⊥
    retired_hand e = cc

    retired_page : {f i : ℕ} → Retired ≡ Page f i → ⊥
    retired_page e = cc

    hand_page : {t f i : ℕ} → Hand t ≡ Page f i → ⊥
    hand_page e = cc

-- an audit finds nothing wrong with a picture of a reached core
pub right_of : (s : CoreState) (p : Picture) → IsReached (as_state s) → IsPicture s p → IsRight p
right_of s p h is =
    (shaped s p h is, agrees s p h is, one_place s p h is, below s p h is, counts s p h is, uses_counted s p h is)
