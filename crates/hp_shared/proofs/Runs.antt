-- Journals that go one entry further.
use Rattle.std.proofs.Common.{◌≡◌, ℕ, ◌+◌, List, [], ◌∷◌, ◌++◌, length, map, true, false, refl, sym, ap, subst, ◌∙◌, arith}
use Rattle.std.proofs.Common.{length-append}
use Rattle.std.proofs.lemmas.List.{length-map}
use Rattle.std.specs.List.{zip}
use Rattle.hp_base.specs.Text.{Sizes, sizes}
use Rattle.hp_base.specs.declared.config.Config.{Config}
use Rattle.hp_base.specs.declared.event.Event.{Event}
use Rattle.hp_machine.specs.Events as rows
use Rattle.hp_machine.specs.State.{State}
use Rattle.hp_machine.specs.declared.outcome.Outcome.{Outcome}
use Rattle.hp_core.specs.Readers.{config_of}
use Rattle.hp_core.specs.State.{CoreState, as_state}
use Rattle.hp_core.specs.Runs.{Row, Run, IsOpening, geometry}
use Rattle.hp_core.proofs.RunsOn.{run_none, run_more}
use Rattle.hp_shared.specs.declared.entry.Entry.{Entry}
use Rattle.hp_shared.specs.Journal.{Follows, IsFromOpening, IsCameTo, entry, events_of, gained, is_made, outcomes_of}
use Rattle.hp_shared.specs.Closing.{ClosesPoolOf, ClosesWith}
use Rattle.hp_shared.specs.States.{SeatState, next}

-- what is taken of each of a list with one more
map_more : {A B : Type 0} (f : A → B) (xs : List A) (x : A) → map f (xs ++ x ∷ []) ≡ map f xs ++ f x ∷ []
map_more f [] x = refl
map_more f (y ∷ ys) x = ap (λ zs. f y ∷ zs) (map_more f ys x)

-- one entry more
pub follows_more : (s mid new : CoreState) (es : List Entry) (e : Entry) → Follows s es mid → Row mid e.event e.outcome new
    → Follows s (es ++ e ∷ []) new
follows_more s mid new es e run row =
    subst (λ (os : List Outcome). Run s (events_of (es ++ e ∷ [])) os new) (sym (map_more (λ (x : Entry). x.outcome) es e))
    (subst (λ (vs : List Event). Run s vs (outcomes_of es ++ e.outcome ∷ []) new) (sym (map_more (λ (x : Entry). x.event) es e))
    (run_more s mid new (events_of es) (outcomes_of es) e.event e.outcome run row))

pub gained_made : (p : ℕ) (e : Event) (o : Outcome) → is_made o ≡ true → gained p e o ≡ entry p e o ∷ []
gained_made p e o made = rw made refl

pub gained_none : (p : ℕ) (e : Event) (o : Outcome) → is_made o ≡ false → gained p e o ≡ []
gained_none p e o held = rw held refl

-- nothing happened yet
pub follows_none : (s : CoreState) (es : List Entry) → es ≡ [] → Follows s es s
follows_none s es none = subst (λ (xs : List Entry). Follows s xs s) (sym none) (run_none s)

-- to the machine a copy is its source: nothing happened between the two
pub follows_copy : (s copy : CoreState) (es : List Entry) → es ≡ [] → as_state copy ≡ as_state s
    → config_of copy ≡ config_of s → Follows copy es s
unfolding Run config_of
follows_copy s copy es none same sizes = subst (λ (xs : List Entry). Follows copy xs s) (sym none) (sym same, refl, sym sizes)

-- what led to the source leads to the copy
pub follows_to_copy : (start s copy : CoreState) (es : List Entry) → Follows start es s → as_state copy ≡ as_state s
    → config_of copy ≡ config_of s → Follows start es copy
unfolding Run config_of
follows_to_copy start s copy es run same sizes = (
  subst (λ (m : State). rows.Run (as_state start) (zip (events_of es) (outcomes_of es)) m) (sym same) run.0,
  run.1,
  sizes
      ∙ run.2,
)

-- one run after the other
joined : (s m n : State) (xs ys : List (Event × Outcome)) → rows.Run s xs m → rows.Run m ys n → rows.Run s (xs ++ ys) n
joined s m n [] ys none run = subst (λ (x : State). rows.Run x ys n) none run
joined s m n (x ∷ xs) ys first run = (first.0, first.1, joined first.0 m n xs ys first.2 run)

pairs_joined : (es fs : List Entry) → zip (events_of (es ++ fs)) (outcomes_of (es ++ fs))
    ≡ zip (events_of es) (outcomes_of es) ++ zip (events_of fs) (outcomes_of fs)
pairs_joined [] fs = refl
pairs_joined (e ∷ es) fs = ap (λ (ps : List (Event × Outcome)). (e.event, e.outcome) ∷ ps) (pairs_joined es fs)

as_many : (es : List Entry) → length (outcomes_of es) ≡ length (events_of es)
as_many es = length-map es (λ (e : Entry). e.outcome) ∙ sym (length-map es (λ (e : Entry). e.event))

pub follows_on : (s m n : CoreState) (es fs : List Entry) → Follows s es m → Follows m fs n → Follows s (es ++ fs) n
unfolding Run
follows_on s m n es fs first next = (
  subst (λ (ps : List (Event × Outcome)). rows.Run (as_state s) ps (as_state n)) (sym (pairs_joined es fs))
      (joined (as_state s) (as_state m) (as_state n) _ _ first.0 next.0),
  as_many (es ++ fs),
  next.2 ∙ first.2,
)

-- after a cut the entries so far lead from the opening state to the copy
pub cut_origin : (first : ℕ) (start core copy : CoreState) (journal : List Entry)
    → ((earlier : List Entry) × (length earlier ≡ first) × IsFromOpening earlier start) → Follows start journal core
    → as_state copy ≡ as_state core → config_of copy ≡ config_of core
    → (earlier : List Entry) × (length earlier ≡ first + length journal) × IsFromOpening earlier copy
cut_origin first start core copy journal origin run same config =
    let earlier = origin.0 in
    let opening = origin.2 in (
      earlier ++ journal,
      omega (arith, length-append earlier journal, origin.1),
      (
        opening.0,
        opening.1,
        opening.2,
        follows_on opening.1 start copy earlier journal opening.3 (follows_to_copy start core copy journal run same config),
      ),
    )

-- the entries before the last cut and those since led to the core
pub came_to : (first : ℕ) (start core : CoreState) (journal : List Entry)
    → ((earlier : List Entry) × (length earlier ≡ first) × IsFromOpening earlier start) → Follows start journal core
    → IsCameTo core
came_to first start core journal origin run =
    let earlier = origin.0 in
    let opening = origin.2 in (
      earlier ++ journal,
      (opening.0, opening.1, opening.2, follows_on opening.1 start core earlier journal opening.3 run),
    )

-- an opening is one of each config with those sizes
opening_of : (config : Config) (z : Sizes) (s : CoreState) → (config_of s ≡ z) → (as_state s ≡ rows.opening (geometry z) z.frames)
    → z ≡ sizes config → IsOpening config s
unfolding IsOpening config_of
opening_of config z s size is same = (
  size ∙ same,
  is ∙ ap (λ (y : Sizes). rows.opening (geometry y) y.frames) same,
)

-- an opening has the sizes of its config
pub opening_sizes : (config : Config) (s : CoreState) → IsOpening config s → config_of s ≡ sizes config
unfolding IsOpening config_of
opening_sizes config s is = is.0

-- what led from an opening to a core of these sizes led there from an opening of them
pub opened_for : (config other : Config) (opened core : CoreState) (journal : List Entry) → IsOpening config opened
    → Follows opened journal core → config_of core ≡ sizes other → IsOpening other opened
unfolding IsOpening Run config_of
opened_for config other opened core journal is run same =
    opening_of other (sizes config) opened is.0 is.1 (sym is.0 ∙ sym run.2 ∙ same)

-- so a pool that is closed with a core of these sizes was opened with them
pub closes_pool_of : (config : Config) (seats : List SeatState) (core : CoreState) (first : ℕ) (journal : List Entry)
    → config_of core ≡ sizes config → ClosesWith seats core first journal → ClosesPoolOf config seats core first journal
unfolding Run config_of
closes_pool_of config seats core first journal same h =
    let from = h.3 in
    let start : config_of h.1 ≡ sizes config = sym h.5.2 ∙ same in
    (h.0, h.1, h.2, (from.1, opened_for from.0 config from.1 h.1 h.0 from.2 from.3 start, from.3), h.4, h.5)

-- and the other way round
pub closes_with : (config : Config) (seats : List SeatState) (core : CoreState) (first : ℕ) (journal : List Entry)
    → ClosesPoolOf config seats core first journal → ClosesWith seats core first journal
closes_with config seats core first journal h = (h.0, h.1, h.2, (config, h.3.0, h.3.1, h.3.2), h.4, h.5)

-- a copy of the opening state is one
pub opened : (config : Config) (s copy : CoreState) → IsOpening config s → as_state copy ≡ as_state s
    → config_of copy ≡ config_of s → IsOpening config copy
unfolding IsOpening config_of
opened config s copy is same sizes = (sizes ∙ is.0, same ∙ is.1)
