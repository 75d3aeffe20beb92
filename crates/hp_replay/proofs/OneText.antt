-- A trace has one text of its replay: whatever frames its takes give.
use Rattle.std.proofs.Common.{◌≡◌, ℕ, zero, suc, ◌+◌, List, [], ◌∷◌, ◌++◌, length, refl, sym, ap, ◌∙◌, subst}
use Rattle.std.specs.Prelude.{None, Some, is_some, codes}
use Rattle.std.specs.Fmt.{decimal}
use Rattle.std.proofs.lemmas.List.{append-nil}
use Rattle.hp_base.specs.Indices.{count_below, region_count}
use Rattle.hp_base.specs.Text.{Sizes, sizes}
use Rattle.hp_base.specs.declared.config.Config.{Config}
use Rattle.hp_base.specs.declared.event.Event.{Event}
use Rattle.hp_base.specs.declared.limits.TheConstants.{LIMIT, VPNS}
use Rattle.hp_machine.specs.Events as machine
use Rattle.hp_machine.specs.State.{State, Geometry}
use Rattle.hp_machine.specs.Text.{life_word}
use Rattle.hp_machine.specs.declared.outcome.Outcome.{Outcome}
use Rattle.hp_core.specs.Readers.{config_of, free_of, resv_of, used_of, quota_of, calls_of, size_of, reserved_of, regions_of}
use Rattle.hp_core.specs.Readers.{pages_of, changes_of, spare_of, life_of, mappings_of, entries_of}
use Rattle.hp_core.specs.Runs.{Row, IsOpening, geometry}
use Rattle.hp_core.specs.State.{CoreState, as_state}
use Rattle.hp_alike.proofs.Twins.{Twins, opening_twins, told_same, still_some, same_busy, same_life, same_resv, same_free}
use Rattle.hp_text.specs.Traces.{Spells, trace_text}
use Rattle.hp_replay.specs.Outcomes.{Run, RunOf, outcomes_text, used_text, pool_line, file_line, task_line, files_text}
use Rattle.hp_replay.specs.Outcomes.{tasks_text, state_text}
use Rattle.hp_replay.specs.Replaying.{Replayed}

-- two runs of the same events, from twins on, have the same outcomes and lead to twins
same_run : (s n v w : CoreState) (es : List Event) (os ps : List Outcome) → Twins (as_state s) (as_state n) → Run s es os v → Run n es ps w
    → (ps ≡ os) × Twins (as_state v) (as_state w)
unfolding Row
same_run s n v w [] [] [] t a b = (
  refl,
  subst (λ (x : CoreState). Twins (as_state x) (as_state w)) (sym a) (subst (λ (x : CoreState). Twins (as_state s) (as_state x)) (sym b) t),
)
same_run s n v w [] [] (p ∷ ps) t a b = absurd b
same_run s n v w [] (o ∷ os) ps t a b = absurd a
same_run s n v w (e ∷ es) [] ps t a b = absurd a
same_run s n v w (e ∷ es) (o ∷ os) [] t a b = absurd b
same_run s n v w (e ∷ es) (o ∷ os) (p ∷ ps) t (mid, row, run) (there, other, after) =
    let one = told_same (as_state s) (as_state n) (as_state mid) (as_state there) e o p t row.0 other.0 in
    let rest = same_run mid there v w es os ps one.1 run after in
    ((λ i. one.0 i ∷ rest.0 i), rest.1)

-- the sizes stay
sizes_stay : (s v : CoreState) (es : List Event) (os : List Outcome) → Run s es os v → config_of v ≡ config_of s
unfolding Row config_of
sizes_stay s v [] [] run = ap (λ (x : CoreState). x.sizes) run
sizes_stay s v [] (o ∷ os) run = absurd run
sizes_stay s v (e ∷ es) [] run = absurd run
sizes_stay s v (e ∷ es) (o ∷ os) (mid, row, run) = sizes_stay mid v es os run ∙ row.1

-- twins have one text of the pool's line,
same_calls : (s n : State) → Twins s n → count_below (λ t. is_some (n.calls t)) (n.geometry.tasks + 1)
    ≡ count_below (λ t. is_some (s.calls t)) (s.geometry.tasks + 1)
same_calls s n h =
    ap (λ (g : Geometry). count_below (λ t. is_some (n.calls t)) (g.tasks + 1)) (ap (λ (m : State). m.geometry) h.alike.1)
    ∙ (λ i. count_below (λ t. same_busy s n t h i) (s.geometry.tasks + 1))

same_used : (v w : CoreState) → Twins (as_state v) (as_state w) → used_text w ≡ used_text v
unfolding quota_of used_of
same_used v w h =
    let quota = ap (λ (m : State). m.geometry.quota) h.alike.1 in
    let used = ap (λ (m : State). m.used) h.alike.1 in
    λ i. elim (quota i) [ None ↦ [] | Some most ↦ codes " used " ++ decimal (used i) ]

same_pool : (v w : CoreState) → Twins (as_state v) (as_state w) → pool_line w ≡ pool_line v
unfolding free_of resv_of calls_of
same_pool v w h =
    let free = same_free (as_state v) (as_state w) h in
    let resv = same_resv (as_state v) (as_state w) h in
    let calls = same_calls (as_state v) (as_state w) h in
    let used = same_used v w h in
    λ i. codes "free " ++ (decimal (free i) ++ (codes " resv " ++ (decimal (resv i)
    ++ (codes " calls " ++ (decimal (calls i) ++ (used i ++ 10 ∷ []))))))

-- of each file's,
same_pages : (s n : State) (f : ℕ) → Twins s n
    → count_below (λ i. is_some (n.pages f i)) LIMIT ≡ count_below (λ i. is_some (s.pages f i)) LIMIT
same_pages s n f h =
    ap (λ (m : State). count_below (λ i. is_some (m.pages f i)) LIMIT) h.alike.1
    ∙ (λ j. count_below (λ i. still_some h.alike.0.to (s.pages f i) j) LIMIT)

same_file : (v w : CoreState) (f : ℕ) → Twins (as_state v) (as_state w) → file_line w f ≡ file_line v f
unfolding size_of reserved_of regions_of pages_of changes_of spare_of
same_file v w f h =
    let size = ap (λ (m : State). m.size f) h.alike.1 in
    let reserved = ap (λ (m : State). count_below (m.reserved f) LIMIT) h.alike.1 in
    let regions = ap (λ (m : State). region_count LIMIT (m.reserved f)) h.alike.1 in
    let pages = same_pages (as_state v) (as_state w) f h in
    let changes = ap (λ (m : State). m.pending f) h.alike.1 in
    let spare = ap (λ (m : State). m.spare f) h.alike.1 in
    λ i. codes "file " ++ (decimal f ++ (codes " size " ++ (decimal (size i) ++ (codes " reserved " ++ (decimal (reserved i)
    ++ (codes " regions " ++ (decimal (regions i) ++ (codes " pages " ++ (decimal (pages i) ++ (codes " changes " ++ (decimal (changes i)
    ++ (codes " spare " ++ (decimal (spare i) ++ 10 ∷ [])))))))))))))

same_files : (v w : CoreState) (n : ℕ) → Twins (as_state v) (as_state w) → files_text w n ≡ files_text v n
unfolding files_text
same_files v w zero h = refl
same_files v w (suc n) h = λ i. same_files v w n h i ++ same_file v w n h i

-- and of each task's
same_entries : (s n : State) (t : ℕ) → Twins s n
    → count_below (λ p. is_some (n.entries t p)) VPNS ≡ count_below (λ p. is_some (s.entries t p)) VPNS
same_entries s n t h =
    ap (λ (m : State). count_below (λ p. is_some (m.entries t p)) VPNS) h.alike.1
    ∙ (λ j. count_below (λ p. still_some h.alike.0.to (s.entries t p) j) VPNS)

same_task : (v w : CoreState) (t : ℕ) → Twins (as_state v) (as_state w) → task_line w t ≡ task_line v t
unfolding life_of mappings_of entries_of
same_task v w t h =
    let life = same_life (as_state v) (as_state w) t h in
    let mappings = ap (λ (m : State). length (m.mappings t)) h.alike.1 in
    let entries = same_entries (as_state v) (as_state w) t h in
    λ i. codes "task " ++ (decimal t ++ (codes " " ++ (life_word (life i) ++ (codes " mappings " ++ (decimal (mappings i)
    ++ (codes " entries " ++ (decimal (entries i) ++ 10 ∷ [])))))))

same_tasks : (v w : CoreState) (n : ℕ) → Twins (as_state v) (as_state w) → tasks_text w n ≡ tasks_text v n
unfolding tasks_text
same_tasks v w zero h = refl
same_tasks v w (suc n) h = λ i. same_tasks v w n h i ++ same_task v w (suc n) h i

-- so of the state
same_state : (v w : CoreState) → Twins (as_state v) (as_state w) → config_of w ≡ config_of v → state_text w ≡ state_text v
same_state v w h same =
    let pool = same_pool v w h in
    let files = ap (λ (z : Sizes). files_text w z.files) same ∙ same_files v w (config_of v).files h in
    let tasks = ap (λ (z : Sizes). tasks_text w z.tasks) same ∙ same_tasks v w (config_of v).tasks h in
    λ i. (pool i ++ files i) ++ tasks i

-- an opening has the sizes of its config
sized : (config : Config) (s : CoreState) → IsOpening config s → config_of s ≡ sizes config
unfolding IsOpening config_of
sized config s is = is.0

-- two runs of one trace have the same outcomes, and states with one text
pub one_run : (z : Sizes) (events : List Event) (os ps : List Outcome) (v w : CoreState) → RunOf z events os v → RunOf z events ps w
    → (ps ≡ os) × (state_text w ≡ state_text v)
unfolding IsOpening
one_run z events os ps v w a b =
    let opens : (c : Sizes) → c ≡ z → machine.opening (geometry c) c.frames ≡ machine.opening (geometry z) z.frames =
    λ c is. ap (λ (y : Sizes). machine.opening (geometry y) y.frames) is in
    let first = opening_twins (geometry z) z.frames (as_state a.first) (as_state b.first)
    (a.opening.1 ∙ opens (sizes a.config) a.sizes_are) (b.opening.1 ∙ opens (sizes b.config) b.sizes_are) in
    let both = same_run a.first b.first v w events os ps first a.run b.run in
    let there = sizes_stay b.first w events ps b.run ∙ (sized b.config b.first b.opening ∙ b.sizes_are) in
    let here = sizes_stay a.first v events os a.run ∙ (sized a.config a.first a.opening ∙ a.sizes_are) in
    (both.0, same_state v w both.1 (there ∙ sym here))

-- so two replays of the same bytes write the same
pub one_replay : ((bytes : List ℕ) (s t : Sizes) (es fs : List Event) → Spells bytes s es → Spells bytes t fs → (s ≡ t) × (es ≡ fs))
    → (all left more before one two : List ℕ) → Replayed (Some all) (Some left) (Some before) (Some one)
    → Replayed (Some all) (Some more) (Some before) (Some two) → two ≡ one
one_replay reading all left more before one two a b =
    let same = reading all b.sizes a.sizes b.events a.events (spelled more b) (spelled left a) in
    let run : RunOf a.sizes a.events b.outcomes b.core =
    subst (λ (z : Sizes). RunOf z a.events b.outcomes b.core) same.0
    (subst (λ (es : List Event). RunOf b.sizes es b.outcomes b.core) same.1 b.run) in
    let both = one_run a.sizes a.events a.outcomes b.outcomes a.core b.core a.run run in
    b.wrote ∙ ((λ i. before ++ (outcomes_text (both.0 i) ++ both.1 i)) ∙ sym a.wrote)
  where
    spelled : {text : List ℕ} (rest : List ℕ) → (h : Replayed (Some all) (Some rest) (Some before) (Some text))
        → Spells all h.sizes h.events
    spelled rest h = record {
      text = h.reads ∙ (ap (λ (l : List ℕ). trace_text h.sizes h.events ++ l) h.all ∙ append-nil (trace_text h.sizes h.events));
      trace = h.trace;
    }
