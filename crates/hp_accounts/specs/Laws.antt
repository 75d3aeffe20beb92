-- What the books of any list of entries keep.
use Rattle.std.specs.Prelude.{◌≡◌, ℕ, ◌+◌, true, Some, List}
use Rattle.hp_base.specs.Indices.{vacant}
use Rattle.hp_base.specs.Mappings.{find}
use Rattle.hp_base.specs.Numbers.{total}
use Rattle.hp_machine.specs.State.{Geometry}
use Rattle.hp_machine.specs.Headline.{OnePlace}
use Rattle.hp_accounts.specs.Books.{Books, Entered, opens, paged_in, reserved_in}
use Rattle.hp_accounts.specs.Entries.{Entry, TakesSlot, LeavesSlot, Looks, Finds, Turns, ClearsIndex, Evicts, Places, Translates}
use Rattle.hp_accounts.specs.Entries.{Takes, HandsOver, Frees, Writes, ClearsSome, EntersArea, LeavesArea, Resizes}
use Rattle.hp_accounts.specs.Entries.{Accounts, Settles, Spends, GivesBack, Ignores, Commits, Deletes, CutsTail, AllMay, ends, after}
use Rattle.std.specs.Prelude.{[], ◌∷◌}

-- what holds of the books behind each list of entries that have what they want
abbrev pub Always : (Books → List Entry → Type 0) → Type 0
Always law = (g : Geometry) (frames : ℕ) (es : List Entry) → AllMay (opens g frames) es → law (ends (opens g frames) es) es

-- each translation lies in a mapping of its task, and the file's page at its index is its frame
abbrev pub Agrees : Books → Type 0
Agrees b =
    (t v x : ℕ) → b.entries t v ≡ Some x
    → (place : ℕ × ℕ) × (find (b.mappings t) v ≡ Some place) × (b.pages place.0 place.1 ≡ Some x)

-- each frame is free, in one hand, the page of one index, or retired
abbrev pub FramesAreInOnePlace : Books → Type 0
FramesAreInOnePlace b = OnePlace b.frames b.frame b.hands b.pages

-- the count with what is owed, the pages, and what was ignored, are the indices in the maps with what is promised
abbrev pub Balances : Books → (ignored : ℕ) → Type 0
Balances b n = b.count + b.owed + paged_in b + n ≡ reserved_in b + b.promised + b.debt

-- no call owes anything, nor was promised anything that it hasn't entered
abbrev pub IsAtRest : Books → Type 0
IsAtRest b = (b.owed ≡ 0) × (b.promised ≡ 0)

-- ---- code that takes no index out of a map but under its slot, and places no page whose index isn't in the map

abbrev pub IsCareful : Books → Entry → Type 0
IsCareful b (TakesSlot h f i) = Unit {0}
IsCareful b (LeavesSlot h f i) = Unit {0}
IsCareful b (Looks h f i) = Unit {0}
IsCareful b (Finds h f i) = Unit {0}
IsCareful b (Turns h f i) = Unit {0}
IsCareful b (ClearsIndex h f i n) = Unit {0}
IsCareful b (Evicts h f i n x) = Unit {0}
IsCareful b (Places h f i x) = b.marks h ≡ Entered f i
IsCareful b (Translates h f i t v x) = Unit {0}
IsCareful b (Takes h x) = Unit {0}
IsCareful b (HandsOver h k x) = Unit {0}
IsCareful b (Frees h x) = Unit {0}
IsCareful b (Writes x old new) = Unit {0}
IsCareful b (ClearsSome t out) = Unit {0}
IsCareful b (EntersArea t a) = Unit {0}
IsCareful b (LeavesArea t base) = Unit {0}
IsCareful b (Resizes n frame) = Unit {0}
IsCareful b (Accounts n) = Unit {0}
IsCareful b (Settles n) = Unit {0}
IsCareful b (Spends n) = Unit {0}
IsCareful b (GivesBack n) = Unit {0}
IsCareful b (Ignores n) = Unit {0}
IsCareful b (Commits f from to p o l) = Unit {0}
IsCareful b (Deletes h f i p o) = Unit {0}
IsCareful b (CutsTail f from p o) = ⊥

abbrev pub AllCareful : Books → List Entry → Type 0
AllCareful b [] = Unit {0}
AllCareful b (e ∷ es) = IsCareful b e × AllCareful (after b e) es

-- a page's index is in its file's map
abbrev pub PagesAreReserved : Books → Type 0
PagesAreReserved b = (f i x : ℕ) → b.pages f i ≡ Some x → b.reserved f i ≡ true

-- how many indices of all files are in a reserve map and have no page
abbrev pub vacant_in : Books → ℕ
vacant_in b = total b.geometry.files (λ f. vacant b.geometry.limit (b.reserved f) (b.pages f))
