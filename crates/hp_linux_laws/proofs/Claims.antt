-- What follows for every run by Linux's rows, and for every run by repaired ones.
use Rattle.std.proofs.Common.{◌≡◌, ℕ, ◌+◌, refl, ap, sym, ◌∙◌, subst, arith, inl, inr}
use Rattle.std.specs.Prelude.{Bool, true, false}
use Rattle.hp_base.proofs.Totals.{total_none, total_same}
use Rattle.hp_machine.specs.Headline.{all_behind, all_ahead, reserved_in, vacant_in}
use Rattle.hp_machine.specs.State.{Geometry, State}
use Rattle.hp_machine.specs.Views.{behind, ahead}
use Rattle.hp_counterexamples.specs.Runs.{IsAtRest}
use Rattle.hp_linux.specs.Whole.{Linux, begins}
use Rattle.hp_accounts.specs.Books.{Books, opens}
use Rattle.hp_accounts.specs.Entries.{ends, ignored_in}
use Rattle.hp_accounts.specs.Laws.{Balances}
use Rattle.hp_accounts.proofs.Balancing.{always_balanced}
use Rattle.hp_accounts.proofs.Reserving.{Careful, always_careful, split}
use Rattle.hp_linux_laws.specs.Laws.{Always, Shows, Counts, IsListed, IsListedCarefully}
use Rattle.hp_linux_laws.specs.Laws.{TranslationsAgree, FramesAreInOnePlace, IsNeverTooHigh, IsOnlyLost}
use Rattle.hp_linux_laws.specs.Laws.{IsBalanced, IsBalancedAtRest, PagesAreReserved, IsExact, IsRight, paged_in}
use Rattle.hp_linux_laws.specs.MayRows.{MayRow}
use Rattle.hp_linux_laws.specs.RepairedRows.{AccountedRow, RepairedRow}
use Rattle.hp_linux_laws.proofs.Stepping.{books_of}
use Rattle.hp_linux_laws.proofs.Listing.{Known, kept}
use Rattle.hp_linux_laws.proofs.Runs.{IsKnown, may_booked, accounted_booked, repaired_booked, run_known, opens_known}

-- what is known behind every run
pub by_may : (law : Geometry → (frames : ℕ) → Linux → Type 0)
    → ((g : Geometry) (frames : ℕ) (l : Linux) → IsKnown false false g frames l → law g frames l) → Always MayRow law
by_may law h g frames hs l run =
    h g frames l (run_known false false MayRow may_booked g frames (begins g frames) hs l (opens_known false false g frames) run)

pub by_repaired : (law : Geometry → (frames : ℕ) → Linux → Type 0)
    → ((g : Geometry) (frames : ℕ) (l : Linux) → IsKnown true true g frames l → law g frames l) → Always RepairedRow law
by_repaired law h g frames hs l run =
    h g frames l (run_known true true RepairedRow repaired_booked g frames (begins g frames) hs l (opens_known true true g frames) run)

-- the books show the state
shown : (exact careful : Bool) (g : Geometry) (frames : ℕ) (l : Linux) (h : Known exact careful g frames l.state l.debt)
    → Shows (ends (opens g frames) h.es) l.state
shown exact careful g frames l h = subst (λ (b : Books). Shows b l.state) (sym h.shows) (record {
  geometry = refl;
  frames = refl;
  frame = refl;
  slots = refl;
  reserved = refl;
  pages = refl;
  mappings = refl;
  entries = refl;
  hands = h.held;
  owed = refl;
  promised = refl;
})

counted : (exact careful : Bool) (g : Geometry) (frames : ℕ) (l : Linux) (h : Known exact careful g frames l.state l.debt)
    → Counts (ends (opens g frames) h.es) l
counted exact careful g frames l h = subst (λ (b : Books). Counts b l) (sym h.shows) h.counts

pub listed : (exact careful : Bool) (g : Geometry) (frames : ℕ) (l : Linux) → IsKnown exact careful g frames l → IsListed g frames l
listed exact careful g frames l (h, one) = (h.es, h.may, shown exact careful g frames l h, counted exact careful g frames l h)

pub listed_carefully : (g : Geometry) (frames : ℕ) (l : Linux) → IsKnown true true g frames l → IsListedCarefully g frames l
listed_carefully g frames l (h, one) =
    (h.es, h.may, h.cares refl, h.accounts refl, shown true true g frames l h, counted true true g frames l h)

pub agrees : (exact careful : Bool) (g : Geometry) (frames : ℕ) (l : Linux) → IsKnown exact careful g frames l
    → TranslationsAgree g frames l
agrees exact careful g frames l (h, one) = (kept exact careful g frames l.state l.debt h).agree

pub placed_once : (exact careful : Bool) (g : Geometry) (frames : ℕ) (l : Linux) → IsKnown exact careful g frames l
    → FramesAreInOnePlace g frames l
placed_once exact careful g frames l (h, one) = (h.hands, h.held, (kept exact careful g frames l.state l.debt h).place.one)

-- the count, with what was ignored
balanced : (exact careful : Bool) (g : Geometry) (frames : ℕ) (l : Linux) (h : Known exact careful g frames l.state l.debt)
    → l.state.resv + all_behind l.state + paged_in l.state + ignored_in h.es ≡ reserved_in l.state + all_ahead l.state + l.debt
balanced exact careful g frames l h =
    let a : Balances (books_of l.state h.hands h.marks h.booked.0 h.booked.1) (ignored_in h.es) =
    subst (λ (b : Books). Balances b (ignored_in h.es)) h.shows (always_balanced g frames h.es h.may) in
    let b = h.counts in
    omega arith

pub never_too_high : (exact careful : Bool) (g : Geometry) (frames : ℕ) (l : Linux) → IsKnown exact careful g frames l
    → IsNeverTooHigh g frames l
never_too_high exact careful g frames l (h, one) = (let a = balanced exact careful g frames l h in omega arith)

-- at rest nothing is owed
at_rest : (s : State) → IsAtRest s → (all_behind s ≡ 0) × (all_ahead s ≡ 0)
at_rest s none = (
  total_same (s.geometry.tasks + 1) (λ _. 0) _ (λ j l. ap behind (none j (omega arith))) ∙ total_none (s.geometry.tasks + 1),
  total_same (s.geometry.tasks + 1) (λ _. 0) _ (λ j l. ap ahead (none j (omega arith))) ∙ total_none (s.geometry.tasks + 1),
)

pub only_lost : (exact careful : Bool) (g : Geometry) (frames : ℕ) (l : Linux) → IsKnown exact careful g frames l → IsOnlyLost g frames l
only_lost exact careful g frames l k rest =
    let a = never_too_high exact careful g frames l k in
    let b = (at_rest l.state rest).0 in
    let c = (at_rest l.state rest).1 in
    omega arith

-- repaired rows are careful
careful : (g : Geometry) (frames : ℕ) (l : Linux) (h : Known true true g frames l.state l.debt)
    → Careful (books_of l.state h.hands h.marks h.booked.0 h.booked.1)
careful g frames l h = subst Careful h.shows (always_careful g frames h.es h.may (h.cares refl))

pub pages_reserved : (g : Geometry) (frames : ℕ) (l : Linux) → IsKnown true true g frames l → PagesAreReserved g frames l
pages_reserved g frames l (h, one) = (careful g frames l h).pages

pub exact_count : (g : Geometry) (frames : ℕ) (l : Linux) → IsKnown true true g frames l → IsExact g frames l
exact_count g frames l (h, one) =
    let a = balanced true true g frames l h in
    let b = h.accounts refl in
    let c : reserved_in l.state ≡ vacant_in l.state + paged_in l.state =
    split (books_of l.state h.hands h.marks h.booked.0 h.booked.1) (careful g frames l h).pages in
    omega arith

pub right_count : (g : Geometry) (frames : ℕ) (l : Linux) → IsKnown true true g frames l → IsRight g frames l
right_count g frames l k rest =
    let a = exact_count g frames l k in
    let b = (at_rest l.state rest).0 in
    let c = (at_rest l.state rest).1 in
    elim k.1 [
      | inl z ↦ ((omega arith), (omega arith))
      | inr z ↦ ((omega arith), (omega arith))
    ]

-- accounted rows ignore nothing
pub by_accounted : (law : Geometry → (frames : ℕ) → Linux → Type 0)
    → ((g : Geometry) (frames : ℕ) (l : Linux) → IsKnown true false g frames l → law g frames l) → Always AccountedRow law
by_accounted law h g frames hs l run =
    h g frames l (run_known true false AccountedRow accounted_booked g frames (begins g frames) hs l (opens_known true false g frames) run)

pub balances : (g : Geometry) (frames : ℕ) (l : Linux) → IsKnown true false g frames l → IsBalanced g frames l
balances g frames l (h, one) = (let a = balanced true false g frames l h in let b = h.accounts refl in omega arith)

pub balances_at_rest : (g : Geometry) (frames : ℕ) (l : Linux) → IsKnown true false g frames l → IsBalancedAtRest g frames l
balances_at_rest g frames l k rest =
    (let a = balances g frames l k in let b = (at_rest l.state rest).0 in let c = (at_rest l.state rest).1 in omega arith)
