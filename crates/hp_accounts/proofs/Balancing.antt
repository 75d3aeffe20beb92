-- The books balance: what each entry does to the counts, and to how many indices are reserved and have pages.
use Rattle.std.proofs.Common.{◌≡◌, ◌≢◌, ℕ, ◌+◌, ◌-◌, ◌<◌, refl, ap, ◌∙◌, arith, ◌⊎◌}
use Rattle.std.specs.Prelude.{Bool, true, false, Option, Some, None, List, [], ◌∷◌, is_some}
use Rattle.hp_base.specs.Indices.{count_below, add_range, cut_tail}
use Rattle.hp_base.specs.Numbers.{put, put2, total, bit}
use Rattle.hp_base.proofs.Counting.{count_below_none, count_below-added, count_below-cut_tail, count_below-put_false}
use Rattle.hp_base.proofs.Puts.{put_same, put_other}
use Rattle.hp_base.proofs.Totals.{count_below-change, total_change, total_none, total_same}
use Rattle.hp_laws.proofs.Invariant.{put_known}
use Rattle.hp_machine.specs.State.{Geometry}
use Rattle.hp_accounts.specs.Books.{Books, opens, paged_in, reserved_in}
use Rattle.hp_accounts.specs.Entries.{Entry, TakesSlot, LeavesSlot, Looks, Finds, Turns, ClearsIndex, Evicts, Places, Translates}
use Rattle.hp_accounts.specs.Entries.{Takes, HandsOver, Frees, Writes, ClearsSome, EntersArea, LeavesArea, Resizes}
use Rattle.hp_accounts.specs.Entries.{Accounts, Settles, Spends, GivesBack, Ignores, Commits, Deletes, CutsTail, May, after, AllMay, ends}
use Rattle.hp_accounts.specs.Entries.{ignored_by, ignored_in}
use Rattle.hp_accounts.specs.Laws.{Balances, IsAtRest}
use Rattle.hp_accounts.proofs.Keeping.{Kept, Knows, keeps, is_bare, opens_kept}
use Rattle.std.proofs.Common.{subst}
use Rattle.hp_accounts.specs.Books.{Clearing}

-- the count of a property of all files' indices, where one file's change
pub file_change : (g : Geometry) (f : ℕ) (p q : ℕ → ℕ → Bool) → f < g.files → ((k : ℕ) → k ≢ f → q k ≡ p k)
    → total g.files (λ k. count_below (q k) g.limit) + count_below (p f) g.limit
    ≡ total g.files (λ k. count_below (p k) g.limit) + count_below (q f) g.limit
file_change g f p q low same =
    total_change g.files f (λ k. count_below (p k) g.limit) (λ k. count_below (q k) g.limit) low
    (λ k d. ap (λ (m : ℕ → Bool). count_below m g.limit) (same k d))

-- the reserve map of one file changes
marks_change : (b : Books) (f : ℕ) (marks : ℕ → Bool) → f < b.geometry.files
    → reserved_in (record b { reserved = put b.reserved f marks }) + count_below (b.reserved f) b.geometry.limit
    ≡ reserved_in b + count_below marks b.geometry.limit
marks_change b f marks low =
    let a : total b.geometry.files (λ k. count_below (put b.reserved f marks k) b.geometry.limit)
    + count_below (b.reserved f) b.geometry.limit
    ≡ total b.geometry.files (λ k. count_below (b.reserved k) b.geometry.limit) + count_below (put b.reserved f marks f) b.geometry.limit
    = file_change b.geometry f b.reserved (put b.reserved f marks) low (λ k d. put_other b.reserved f marks k d) in
    let z : count_below (put b.reserved f marks f) b.geometry.limit ≡ count_below marks b.geometry.limit =
    ap (λ (m : ℕ → Bool). count_below m b.geometry.limit) (put_same b.reserved f marks) in
    omega arith

-- the page of one index changes
page_change : (b : Books) (f i : ℕ) (page : Option ℕ) → f < b.geometry.files → i < b.geometry.limit
    → paged_in (record b { pages = put2 b.pages f i page }) + bit (is_some (b.pages f i)) ≡ paged_in b + bit (is_some page)
page_change b f i page low in_limit =
    let row = put (b.pages f) i page in
    let a : total b.geometry.files (λ k. count_below (λ j. is_some (put2 b.pages f i page k j)) b.geometry.limit)
    + count_below (λ j. is_some (b.pages f j)) b.geometry.limit
    ≡ total b.geometry.files (λ k. count_below (λ j. is_some (b.pages k j)) b.geometry.limit)
    + count_below (λ j. is_some (put2 b.pages f i page f j)) b.geometry.limit
    = file_change b.geometry f (λ k j. is_some (b.pages k j)) (λ k j. is_some (put2 b.pages f i page k j)) low
    (λ k d. ap (λ (m : ℕ → Option ℕ). (λ (j : ℕ). is_some (m j))) (put_other b.pages f row k d)) in
    let z : count_below (λ j. is_some (put2 b.pages f i page f j)) b.geometry.limit + bit (is_some (b.pages f i))
    ≡ count_below (λ j. is_some (b.pages f j)) b.geometry.limit + bit (is_some (put2 b.pages f i page f i))
    = count_below-change (λ j. is_some (b.pages f j)) (λ j. is_some (put2 b.pages f i page f j)) i b.geometry.limit in_limit
    (λ j d. ap is_some (ap (λ (m : ℕ → Option ℕ). m j) (put_same b.pages f row) ∙ put_other (b.pages f) i page j d)) in
    let w : bit (is_some (put2 b.pages f i page f i)) ≡ bit (is_some page) =
    ap (λ (m : Option ℕ). bit (is_some m)) (ap (λ (m : ℕ → Option ℕ). m i) (put_same b.pages f row) ∙ put_same (b.pages f) i page) in
    omega arith

-- what is there counts one, and what isn't counts none
there : {o : Option ℕ} {x : ℕ} → o ≡ Some x → bit (is_some o) ≡ 1
there e = ap (λ (m : Option ℕ). bit (is_some m)) e

gone : {o : Option ℕ} → o ≡ None → bit (is_some o) ≡ 0
gone e = ap (λ (m : Option ℕ). bit (is_some m)) e

-- an index is taken out of a set, if it is in it
taken_out : (set : ℕ → Bool) (i limit : ℕ) → i < limit → count_below set limit ≡ count_below (put set i false) limit + bit (set i)
taken_out set i limit low = here (set i) refl
  where
    here : (is : Bool) → set i ≡ is → count_below set limit ≡ count_below (put set i false) limit + bit is
    here true e = count_below-put_false set i limit low e
    here false e = (let z = ap (λ (m : ℕ → Bool). count_below m limit) (put_known set i false e) in omega arith)

-- each entry keeps the balance
pub balances : (b : Books) (e : Entry) (n : ℕ) → Kept b → May b e → Balances b n → Balances (after b e) (n + ignored_by e)
balances b (TakesSlot h f i) n k m s = omega arith
balances b (LeavesSlot h f i) n k m s = omega arith
balances b (Looks h f i) n k m s = omega arith
balances b (Finds h f i) n k m s = omega arith
balances b (Turns h f i) n k m s = omega arith
balances b (ClearsIndex h f i j) n k m s = omega arith
balances b (Evicts h f i j x) n k (at, all, page, empty) s =
    let own : Knows b h (Clearing f i j) = subst (Knows b h) at (k.knows h) in
    let a : paged_in (record b { pages = put2 b.pages f i None }) + bit (is_some (b.pages f i)) ≡ paged_in b + 0 =
    page_change b f i None own.0.0 own.0.1 in
    let z = there page in
    omega arith
balances b (Places h f i x) n k (bare, full, one) s =
    let own = is_bare b h f i k bare in
    let a : paged_in (record b { pages = put2 b.pages f i (Some x) }) + bit (is_some (b.pages f i)) ≡ paged_in b + 1 =
    page_change b f i (Some x) own.0.0 own.0.1 in
    let z = gone own.1 in
    omega arith
balances b (Translates h f i t v x) n k m s = omega arith
balances b (Takes h x) n k m s = omega arith
balances b (HandsOver h j x) n k m s = omega arith
balances b (Frees h x) n k m s = omega arith
balances b (Writes x old new) n k m s = omega arith
balances b (ClearsSome t out) n k m s = omega arith
balances b (EntersArea t a) n k m s = omega arith
balances b (LeavesArea t base) n k m s = omega arith
balances b (Resizes j frame) n k m s = omega arith
balances b (Accounts j) n k m s = omega arith
balances b (Settles j) n k m s = omega arith
balances b (Spends j) n k m s = omega arith
balances b (GivesBack j) n k m s = omega arith
balances b (Ignores j) n k m s = omega arith
balances b (Commits f from to p o l) n k (files, limit, low, parts) s =
    let a : reserved_in (record b { reserved = put b.reserved f (add_range (b.reserved f) from to) })
    + count_below (b.reserved f) b.geometry.limit ≡ reserved_in b + count_below (add_range (b.reserved f) from to) b.geometry.limit =
    marks_change b f (add_range (b.reserved f) from to) files in
    let z = count_below-added (b.reserved f) from to b.geometry.limit limit in
    omega arith
balances b (Deletes h f i p o) n k (bare, low, parts) s =
    let own = is_bare b h f i k bare in
    let a : reserved_in (record b { reserved = put b.reserved f (put (b.reserved f) i false) })
    + count_below (b.reserved f) b.geometry.limit ≡ reserved_in b + count_below (put (b.reserved f) i false) b.geometry.limit =
    marks_change b f (put (b.reserved f) i false) own.0.0 in
    let z = taken_out (b.reserved f) i b.geometry.limit own.0.1 in
    omega arith
balances b (CutsTail f from p o) n k (files, low, parts) s =
    let a : reserved_in (record b { reserved = put b.reserved f (cut_tail (b.reserved f) from) })
    + count_below (b.reserved f) b.geometry.limit ≡ reserved_in b + count_below (cut_tail (b.reserved f) from) b.geometry.limit =
    marks_change b f (cut_tail (b.reserved f) from) files in
    let z = count_below-cut_tail (b.reserved f) from b.geometry.limit in
    omega arith

-- so does each list of them
pub all_balance : (b : Books) (es : List Entry) (n : ℕ) → Kept b → AllMay b es → Balances b n → Balances (ends b es) (n + ignored_in es)
all_balance b [] n k m s = omega arith
all_balance b (e ∷ es) n k m s =
    let r : Balances (ends (after b e) es) (n + ignored_by e + ignored_in es) =
    all_balance (after b e) es (n + ignored_by e) (keeps b e k m.0) m.1 (balances b e n k m.0 s) in
    omega arith

-- the books of a pool that opens
pub opens_balanced : (g : Geometry) (frames : ℕ) → Balances (opens g frames) 0
opens_balanced g frames =
    let a : total g.files (λ f. count_below (λ i. false) g.limit) ≡ 0 =
    total_same g.files (λ _. 0) _ (λ j l. count_below_none _ g.limit (λ k d. refl)) ∙ total_none g.files in
    omega arith

-- and what they come to
pub always_balanced : (g : Geometry) (frames : ℕ) (es : List Entry) → AllMay (opens g frames) es
    → Balances (ends (opens g frames) es) (ignored_in es)
always_balanced g frames es m =
    let r : Balances (ends (opens g frames) es) (0 + ignored_in es) =
    all_balance (opens g frames) es 0 (opens_kept g frames) m (opens_balanced g frames) in
    omega arith

-- one of count and debt is 0, where the count is lowered, and where it is raised
low : (c d n : ℕ) → (c ≡ 0) ⊎ (d ≡ 0) → (c - n ≡ 0) ⊎ (d + (n - c) ≡ 0)
low c d n h = grind arith

high : (c d n : ℕ) → (c ≡ 0) ⊎ (d ≡ 0) → (c + (n - d) ≡ 0) ⊎ (d - n ≡ 0)
high c d n h = grind arith

-- so it is behind each entry
pub normal : (b : Books) (e : Entry) → (b.count ≡ 0) ⊎ (b.debt ≡ 0) → ((after b e).count ≡ 0) ⊎ ((after b e).debt ≡ 0)
normal b (Accounts n) d = high b.count b.debt n d
normal b (GivesBack n) d = high b.count b.debt n d
normal b (Settles n) d = low b.count b.debt n d
normal b (Spends n) d = low b.count b.debt n d
normal b e d = d

-- and behind each list of them
pub always_normal : (b : Books) (es : List Entry) → (b.count ≡ 0) ⊎ (b.debt ≡ 0) → ((ends b es).count ≡ 0) ⊎ ((ends b es).debt ≡ 0)
always_normal b [] h = h
always_normal b (e ∷ es) h = always_normal (after b e) es (normal b e h)

-- at rest
pub lost_at_rest : (g : Geometry) (frames : ℕ) (es : List Entry) → AllMay (opens g frames) es → IsAtRest (ends (opens g frames) es)
    → (ends (opens g frames) es).count + paged_in (ends (opens g frames) es) + ignored_in es
    ≡ reserved_in (ends (opens g frames) es) + (ends (opens g frames) es).debt
lost_at_rest g frames es m rest =
    here (ends (opens g frames) es) (ignored_in es) (always_balanced g frames es m) rest
  where
    here : (b : Books) (n : ℕ) → Balances b n → IsAtRest b → b.count + paged_in b + n ≡ reserved_in b + b.debt
    here b n h r = let x = r.0 in let y = r.1 in omega arith
