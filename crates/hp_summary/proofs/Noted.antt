-- What is noted of a run stays right, moment by moment.
use Rattle.std.proofs.Common.{◌≡◌, ◌≢◌, ℕ, zero, suc, ◌+◌, ◌-◌, ◌<◌, ◌≤◌, List, [], ◌∷◌, length, refl, sym, ap, subst, ◌∙◌, arith, inl, inr}
use Rattle.std.specs.Prelude.{◌↔◌, ◌⊎◌, Bool, true, false, Option, None, Some, IfSome, replicate, slice_index_or, slice_set}
use Rattle.std.specs.Option.{option_map}
use Rattle.std.proofs.lemmas.Bool.Decides.{nat_tests}
use Rattle.std.proofs.lemmas.List.{get_or-set_same, get_or-set_other, get_or_past, length-set}
use Rattle.hp_base.proofs.Puts.{same_or_other}
use Rattle.hp_base.specs.Text.{sizes}
use Rattle.hp_base.specs.declared.config.Config.{Config}
use Rattle.hp_base.specs.declared.event.Event.{Event}
use Rattle.hp_machine.specs.State.{State}
use Rattle.hp_machine.specs.Events.{IsReached, first, word_of}
use Rattle.hp_machine.specs.declared.call.Call.{Call}
use Rattle.hp_machine.specs.declared.outcome.Outcome.{Outcome}
use Rattle.hp_machine.specs.declared.outcome.Outcome.TheVariants.{Blocked}
use Rattle.hp_machine.specs.declared.phase.Phase.{Phase}
use Rattle.hp_laws.specs.Laws.{IsOf}
use Rattle.hp_laws.proofs.Nearing.{others_stay}
use Rattle.hp_laws.proofs.Reading.{step_cases}
use Rattle.hp_core.specs.Holding.{held_by, holding_of}
use Rattle.hp_core.specs.Passing.{may_wait, task_may_pass}
use Rattle.hp_core.specs.Readers.{config_of, phase_of}
use Rattle.hp_core.specs.Runs.{IsOfConfig, IsOpening, Row, geometry}
use Rattle.hp_core.proofs.Growing.{HeldOn, held_same}
use Rattle.hp_core.proofs.Holds.{HoldOn, holding_stays, holds_on_all, keeps_waiting}
use Rattle.hp_core.specs.State.{CoreState, as_state}
use Rattle.hp_core.specs.Waiting.{WaitsFor}
use Rattle.hp_alike.proofs.Twins.{opening_reached}
use Rattle.hp_watch.specs.Phases.{ArePhases}
use Rattle.hp_watch.proofs.Phases.{waits_not}
use Rattle.hp_phases.proofs.Places.{one_place, there}
use Rattle.hp_summary.specs.Facts.{IsHeldUp, StandTogether}
use Rattle.hp_watch.specs.Moments.{Moment, Once}
use Rattle.hp_summary.specs.Noting.{AreHeldUp, AreMet, IsLookedAt, IsQuiet}
use Rattle.hp_summary.specs.Phases.{ArePair, IsMarked, MeetsBelow, beside, pair_place}
use Rattle.hp_watch.proofs.Standing.{stands_there}

-- ---- pairs of phases

-- a pair is told by its place
one_pair : (p q a b : Phase) → pair_place p q ≡ pair_place a b → (p ≡ a) × (q ≡ b)
one_pair p q a b e = (
  one_place p a (omega (arith, e, (there p).0, (there q).0, (there a).0, (there b).0)),
  one_place q b (omega (arith, e, (there p).0, (there q).0, (there a).0, (there b).0)),
)

within : (p q : Phase) → pair_place p q < 729
within p q = omega (arith, (there p).0, (there q).0)

pub set_or_was : (marks : List Bool) (i k : ℕ) → i < length marks
    → (slice_index_or (slice_set marks i true) k false ≡ true) ↔ ((slice_index_or marks k false ≡ true) ⊎ (k ≡ i))
set_or_was marks i k in_range = elim (same_or_other k i) [
  | inl same ↦ (
    λ h. inr same,
    λ h. subst (λ (n : ℕ). slice_index_or (slice_set marks i true) n false ≡ true) (sym same) (get_or-set_same marks i true false in_range),
  )
  | inr other ↦ (
    λ h. inl (sym (get_or-set_other marks i k true false other) ∙ h),
    λ h. elim h [ inl was ↦ get_or-set_other marks i k true false other ∙ was | inr same ↦ absurd (other same) ],
  )
]

-- two phases are marked, in both orders
pub pair_marked : (marks : List Bool) (a b p q : Phase) → length marks ≡ 729
    → (IsMarked (slice_set (slice_set marks (pair_place a b) true) (pair_place b a) true) p q
    ↔ (IsMarked marks p q ⊎ ArePair p q a b))
unfolding IsMarked
pair_marked marks a b p q long = (
  λ h. elim (second.0 h) [
    | inl was ↦ elim (first.0 was) [
      | inl before ↦ inl before
      | inr same ↦ inr (inl (one_pair p q a b same))
    ]
    | inr same ↦ inr (inr (one_pair p q b a same))
  ],
  λ h. elim h [
    | inl was ↦ second.1 (inl (first.1 (inl was)))
    | inr pair ↦ elim pair [
      | inl e ↦ second.1 (inl (first.1 (inr (place p q a b e.0 e.1))))
      | inr e ↦ second.1 (inr (place p q b a e.0 e.1))
    ]
  ],
)
  where
    first : (slice_index_or (slice_set marks (pair_place a b) true) (pair_place p q) false ≡ true)
        ↔ ((slice_index_or marks (pair_place p q) false ≡ true) ⊎ (pair_place p q ≡ pair_place a b))
    first = set_or_was marks (pair_place a b) (pair_place p q) (omega (arith, within a b, long))

    second : (slice_index_or (slice_set (slice_set marks (pair_place a b) true) (pair_place b a) true) (pair_place p q) false ≡ true)
        ↔ ((slice_index_or (slice_set marks (pair_place a b) true) (pair_place p q) false ≡ true) ⊎ (pair_place p q ≡ pair_place b a))
    second = set_or_was (slice_set marks (pair_place a b) true) (pair_place b a) (pair_place p q)
        (omega (arith, within b a, long, length-set marks (pair_place a b) true))

    place : (p q a b : Phase) → p ≡ a → q ≡ b → pair_place p q ≡ pair_place a b
    place p q a b e d = ap (λ (x : Phase). pair_place x q) e ∙ ap (λ (x : Phase). pair_place a x) d

-- ---- who meets whom

-- the phases that the first so many tasks meet are marked
pub record AreMarkedBelow (phases : List (Option Phase)) (was marks : List Bool) (place n : ℕ) : Type 0 where
  pub long : length marks ≡ 729
  pub marked : (p q : Phase) → (IsMarked marks p q ↔ (IsMarked was p q ⊎ MeetsBelow phases place n p q))

pub none_below : (phases : List (Option Phase)) (marks : List Bool) (place : ℕ) → length marks ≡ 729
    → AreMarkedBelow phases marks marks place 0
none_below phases marks place long =
    record {
      long = long;
      marked = λ p q. (λ h. inl h, λ h. elim h [ inl was ↦ was | inr meets ↦ absurd (omega (arith, meets.3)) ]);
    }

-- one task more stands somewhere
pub one_below : (phases : List (Option Phase)) (was marks next : List Bool) (place n : ℕ) (at other : Phase)
    → slice_index_or phases place None ≡ Some at → beside phases place n ≡ Some other → length next ≡ 729
    → ((p q : Phase) → (IsMarked next p q ↔ (IsMarked marks p q ⊎ ArePair p q at other)))
    → AreMarkedBelow phases was marks place n → AreMarkedBelow phases was next place (n + 1)
one_below phases was marks next place n at other here there long more had =
    record {
      long = long;
      marked = λ p q. (
        λ h. elim ((more p q).0 h) [
          | inl before ↦ elim ((had.marked p q).0 before) [
            | inl w ↦ inl w
            | inr m ↦ inr (m.0, m.1, m.2, omega (arith, m.3), m.4, m.5, m.6)
          ]
          | inr pair ↦ inr (n, at, other, omega arith, here, there, pair)
        ],
        λ h. elim h [
          | inl w ↦ (more p q).1 (inl ((had.marked p q).1 (inl w)))
          | inr m ↦ elim (same_or_other m.0 n) [
            | inl same ↦ (more p q).1 (inr (those p q m.1 m.2 m.4
                (subst (λ (k : ℕ). beside phases place k ≡ Some m.2) same m.5) m.6))
            | inr apart ↦ (more p q).1 (inl ((had.marked p q).1 (inr (m.0, m.1, m.2, omega (arith, m.3, apart), m.4, m.5, m.6))))
          ]
        ],
      );
    }
  where
    one : {x y : Phase} → Some x ≡ Some y → x ≡ y
    one e = cc

    those : (p q a b : Phase) → slice_index_or phases place None ≡ Some a → beside phases place n ≡ Some b → ArePair p q a b
        → ArePair p q at other
    those p q a b e d pair =
        subst (λ (x : Phase). ArePair p q x other) (one (sym e ∙ here)) (subst (λ (x : Phase). ArePair p q a x) (one (sym d ∙ there)) pair)

-- or nowhere
pub none_more : (phases : List (Option Phase)) (was marks : List Bool) (place n : ℕ)
    → ((b : Phase) → beside phases place n ≡ Some b → ⊥)
    → AreMarkedBelow phases was marks place n → AreMarkedBelow phases was marks place (n + 1)
none_more phases was marks place n nobody had =
    record {
      long = had.long;
      marked = λ p q. (
        λ h. elim ((had.marked p q).0 h) [
          | inl w ↦ inl w
          | inr m ↦ inr (m.0, m.1, m.2, omega (arith, m.3), m.4, m.5, m.6)
        ],
        λ h. elim h [
          | inl w ↦ (had.marked p q).1 (inl w)
          | inr m ↦ elim (same_or_other m.0 n) [
            | inl same ↦ absurd (nobody m.2 (subst (λ (k : ℕ). beside phases place k ≡ Some m.2) same m.5))
            | inr apart ↦ (had.marked p q).1 (inr (m.0, m.1, m.2, omega (arith, m.3, apart), m.4, m.5, m.6))
          ]
        ],
      );
    }

-- a task that stands nowhere meets nobody
pub nobody_met : (phases : List (Option Phase)) (marks : List Bool) (place n : ℕ)
    → ((a : Phase) → slice_index_or phases place None ≡ Some a → ⊥) → (p q : Phase)
    → (IsMarked marks p q ↔ (IsMarked marks p q ⊎ MeetsBelow phases place n p q))
nobody_met phases marks place n nowhere p q = (λ h. inl h, λ h. elim h [ inl w ↦ w | inr m ↦ absurd (nowhere m.1 m.4) ])

-- ---- an event

stood : (s v : CoreState) (event : Event) (o : Outcome) (u : ℕ) → Row s event o v → (IsOf u event → ⊥) → phase_of v u ≡ phase_of s u
unfolding Row phase_of
stood s v event o u row other =
    ap (λ (x : Option Call). option_map word_of x) (others_stay (as_state s) (as_state v) event o u row.0 other).0

-- an event of no task that is there leaves all where they stand
pub phases_stay : (s v : CoreState) (event : Event) (o : Outcome) (phases : List (Option Phase)) → Row s event o v
    → ((u : ℕ) → 1 ≤ u → u ≤ length phases → IsOf u event → ⊥) → ArePhases s phases → ArePhases v phases
unfolding ArePhases
phases_stay s v event o phases row other were t d one there = were t d one there ∙ sym (stood s v event o t row (other t one there))

pub at_place : (v : CoreState) (phases : List (Option Phase)) (t : ℕ) (p : Phase) → ArePhases v phases → 1 ≤ t → t ≤ length phases
    → phase_of v t ≡ Some p → slice_index_or phases (t - 1) None ≡ Some p
unfolding ArePhases
at_place v phases t p are one there e = are t None one there ∙ e

in_place : (v : CoreState) (phases : List (Option Phase)) (k : ℕ) (p : Phase) → ArePhases v phases
    → slice_index_or phases k None ≡ Some p → phase_of v (k + 1) ≡ Some p
unfolding ArePhases
in_place v phases k p are e = elim (below k) [
  | inl lt ↦ sym (are (k + 1) None (omega arith) (omega (arith, lt))) ∙ (ap (λ (n : ℕ). slice_index_or phases n None) back ∙ e)
  | inr past ↦ (let bad : None ≡ Some p = sym (get_or_past phases k None past) ∙ e in absurd (cc))
]
  where
    back : k + 1 - 1 ≡ k
    back = omega arith

    below : (k : ℕ) → (k < length phases) ⊎ (length phases ≤ k)
    below k = grind arith

beside_other : (phases : List (Option Phase)) (place k : ℕ) → k ≢ place → beside phases place k ≡ slice_index_or phases k None
beside_other phases place k other = grind (arith, nat_tests)

beside_same : (phases : List (Option Phase)) (place k : ℕ) (b : Phase) → beside phases place k ≡ Some b
    → (k ≢ place) × (slice_index_or phases k None ≡ Some b)
beside_same phases place k b e = elim (same_or_other k place) [
  | inl same ↦ absurd (no (subst (λ (n : ℕ). beside phases place n ≡ Some b) same e))
  | inr other ↦ (other, sym (beside_other phases place k other) ∙ e)
]
  where
    no : beside phases place place ≡ Some b → ⊥
    no h = grind (arith, nat_tests)

-- the task of the event meets others where it stands then
pub met_more : (s v : CoreState) (event : Event) (o : Outcome) (t : ℕ) (phases : List (Option Phase)) (was marks : List Bool)
    (before : List Moment) → Row s event o v → ((u : ℕ) → IsOf u event → u ≡ t) → IsReached (as_state v) → IsOfConfig v
    → length phases ≡ (config_of v).tasks → ArePhases v phases → 1 ≤ t
    → ((p q : Phase) → (IsMarked marks p q ↔ (IsMarked was p q ⊎ MeetsBelow phases (t - 1) (length phases) p q)))
    → AreMet was s before → AreMet marks v (record { event = event; outcome = o; core = v } ∷ before)
unfolding Once StandTogether
met_more s v event o t phases was marks before row of reached sized long are first marked met =
    record {
      once = λ p q. (
        λ h. elim ((marked p q).0 h) [ inl w ↦ inr ((met.once p q).0 w) | inr m ↦ inl (meeting p q m) ],
        λ h. elim h [ inl now ↦ stands p q now | inr once ↦ (marked p q).1 (inl ((met.once p q).1 once)) ],
      );
      now = stands;
    }
  where
    meeting : (p q : Phase) → MeetsBelow phases (t - 1) (length phases) p q → StandTogether v p q
    meeting p q m =
        let b = beside_same phases (t - 1) m.0 m.2 m.5 in
        let own : phase_of v (t - 1 + 1) ≡ Some m.1 = in_place v phases (t - 1) m.1 are m.4 in
        let their : phase_of v (m.0 + 1) ≡ Some m.2 = in_place v phases m.0 m.2 are b.1 in
        elim m.6 [
          | inl e ↦ (
            t - 1 + 1,
            m.0 + 1,
            (λ same. b.0 (omega (arith, same))),
            own ∙ ap (λ (x : Phase). Some x) (sym e.0),
            their ∙ ap (λ (x : Phase). Some x) (sym e.1),
          )
          | inr e ↦ (
            m.0 + 1,
            t - 1 + 1,
            (λ same. b.0 (omega (arith, same))),
            their ∙ ap (λ (x : Phase). Some x) (sym e.0),
            own ∙ ap (λ (x : Phase). Some x) (sym e.1),
          )
        ]

    there_is : (u : ℕ) (p : Phase) → phase_of v u ≡ Some p → (1 ≤ u) × (u ≤ length phases)
    there_is u p e = let h = stands_there v u p reached sized e in (h.0, omega (arith, h.1, long))

    placed : (u : ℕ) (p : Phase) → phase_of v u ≡ Some p → slice_index_or phases (u - 1) None ≡ Some p
    placed u p e = at_place v phases u p are (there_is u p e).0 (there_is u p e).1 e

    stands : (p q : Phase) → StandTogether v p q → IsMarked marks p q
    stands p q (x, y, apart, ep, eq) = elim (same_or_other x t) [
      | inl same ↦ (marked p q).1 (inr (
        y - 1,
        p,
        q,
        omega (arith, (there_is y q eq).0, (there_is y q eq).1),
        subst (λ (u : ℕ). slice_index_or phases (u - 1) None ≡ Some p) same (placed x p ep),
        beside_other phases (t - 1) (y - 1) (λ e. apart (omega (arith, e, same, (there_is y q eq).0, first))) ∙ placed y q eq,
        inl (refl, refl),
      ))
      | inr other ↦ elim (same_or_other y t) [
        | inl same ↦ (marked p q).1 (inr (
          x - 1,
          q,
          p,
          omega (arith, (there_is x p ep).0, (there_is x p ep).1),
          subst (λ (u : ℕ). slice_index_or phases (u - 1) None ≡ Some q) same (placed y q eq),
          beside_other phases (t - 1) (x - 1) (λ e. apart (omega (arith, e, same, (there_is x p ep).0, first))) ∙ placed x p ep,
          inr (refl, refl),
        ))
        | inr neither ↦ (marked p q).1 (inl (met.now p q (
          x,
          y,
          apart,
          sym (stood s v event o x row (λ is. other (of x is))) ∙ ep,
          sym (stood s v event o y row (λ is. neither (of y is))) ∙ eq,
        )))
      ]
    ]

-- an event of no task that is there makes none meet
pub met_same : (s v : CoreState) (event : Event) (o : Outcome) (n : ℕ) (marks : List Bool)
    (before : List Moment) → Row s event o v → ((u : ℕ) → 1 ≤ u → u ≤ n → IsOf u event → ⊥) → IsReached (as_state v)
    → IsOfConfig v → n ≡ (config_of v).tasks
    → AreMet marks s before → AreMet marks v (record { event = event; outcome = o; core = v } ∷ before)
unfolding Once StandTogether
met_same s v event o n marks before row other reached sized long met =
    record {
      once = λ p q. (
        λ h. inr ((met.once p q).0 h),
        λ h. elim h [ inl now ↦ stands p q now | inr once ↦ (met.once p q).1 once ],
      );
      now = stands;
    }
  where
    were : (u : ℕ) (p : Phase) → phase_of v u ≡ Some p → phase_of s u ≡ Some p
    were u p e =
        let h = stands_there v u p reached sized e in
        sym (stood s v event o u row (other u h.0 (omega (arith, h.1, long)))) ∙ e

    stands : (p q : Phase) → StandTogether v p q → IsMarked marks p q
    stands p q (x, y, apart, ep, eq) = met.now p q (x, y, apart, were x p ep, were y q eq)

-- ---- who is held up

-- who waits for somebody stands where a step may be blocked
pub held_stands : (s : CoreState) (t : ℕ) → IsHeldUp s t → (w : Phase) × (phase_of s t ≡ Some w) × (may_wait w ≡ true)
unfolding IsHeldUp WaitsFor Row phase_of
held_stands s t (h, waits) =
    step_cases (as_state s) t true (Blocked h) (as_state s) ((w : Phase) × (phase_of s t ≡ Some w) × (may_wait w ≡ true)) (waits true).0
    (λ why e d. let bad : ⊥ = cc in absurd bad)
    (λ c lives e pool next r d. (
      word_of c,
      ap (λ (o : Option Call). option_map word_of o) e,
      by (word_of c) (may_wait (word_of c)) refl
          (ap (λ (o : Option Call). option_map word_of o) e),
    ))
  where
    by : (w : Phase) (b : Bool) → may_wait w ≡ b → phase_of s t ≡ Some w → may_wait w ≡ true
    by w true is at = is
    by w false is at = absurd (waits_not s t w at is true h s (waits true))

-- one mark more for each task that is held up
pub record AreWaiting (core : CoreState) (was marks : List Bool) (tasks n : ℕ) : Type 0 where
  pub long : length marks ≡ tasks
  pub below : (k : ℕ) → k < n → (slice_index_or marks k false ≡ true ↔ ((slice_index_or was k false ≡ true) ⊎ IsHeldUp core (k + 1)))
  pub rest : (k : ℕ) → n ≤ k → slice_index_or marks k false ≡ slice_index_or was k false

pub none_waiting : (core : CoreState) (marks : List Bool) (tasks : ℕ) → length marks ≡ tasks → AreWaiting core marks marks tasks 0
none_waiting core marks tasks long = record { long = long; below = λ k lt. absurd (omega (arith, lt)); rest = λ k le. refl }

pub one_waiting : (core : CoreState) (was marks : List Bool) (tasks n : ℕ) → n < tasks → IsHeldUp core (n + 1)
    → AreWaiting core was marks tasks n → AreWaiting core was (slice_set marks n true) tasks (n + 1)
one_waiting core was marks tasks n there held had =
    record {
      long = length-set marks n true ∙ had.long;
      below = λ k lt. elim (same_or_other k n) [
        | inl same ↦ (
          λ h. inr (subst (λ (u : ℕ). IsHeldUp core (u + 1)) (sym same) held),
          λ h. subst (λ (u : ℕ). slice_index_or (slice_set marks n true) u false ≡ true) (sym same)
              (get_or-set_same marks n true false (omega (arith, there, had.long))),
        )
        | inr other ↦ subst (λ (b : Bool). (b ≡ true) ↔ ((slice_index_or was k false ≡ true) ⊎ IsHeldUp core (k + 1)))
            (sym (get_or-set_other marks n k true false other)) (had.below k (omega (arith, lt, other)))
      ];
      rest = λ k le. get_or-set_other marks n k true false (λ e. absurd (omega (arith, e, le))) ∙ had.rest k (omega (arith, le));
    }

-- the task was marked before, or isn't held up
pub same_waiting : (core : CoreState) (was marks : List Bool) (tasks n : ℕ)
    → (slice_index_or marks n false ≡ true) ⊎ (IsHeldUp core (n + 1) → ⊥)
    → AreWaiting core was marks tasks n → AreWaiting core was marks tasks (n + 1)
same_waiting core was marks tasks n why had =
    record {
      long = had.long;
      below = λ k lt. elim (same_or_other k n) [
        | inl same ↦ subst (λ (u : ℕ). slice_index_or marks u false ≡ true ↔ ((slice_index_or was u false ≡ true) ⊎ IsHeldUp core (u + 1)))
            (sym same) (here why)
        | inr other ↦ had.below k (omega (arith, lt, other))
      ];
      rest = λ k le. had.rest k (omega (arith, le));
    }
  where
    here : (slice_index_or marks n false ≡ true) ⊎ (IsHeldUp core (n + 1) → ⊥)
        → (slice_index_or marks n false ≡ true ↔ ((slice_index_or was n false ≡ true) ⊎ IsHeldUp core (n + 1)))
    here (inl set) = (λ h. inl (sym (had.rest n (omega arith)) ∙ h), λ h. set)
    here (inr free) = (
      λ h. inl (sym (had.rest n (omega arith)) ∙ h),
      λ h. elim h [ inl w ↦ had.rest n (omega arith) ∙ w | inr held ↦ absurd (free held) ],
    )

-- behind an event whose task's call takes and leaves nothing by it, each other task that is held up was held up before
held_before : (s v : CoreState) (event : Event) (o : Outcome) (t u : ℕ) → IsReached (as_state s) → Row s event o v
    → ((x : ℕ) → IsOf x event → x ≡ t) → task_may_pass (phase_of s t) ≡ false → u ≢ t → IsHeldUp v u → IsHeldUp s u
unfolding Row IsHeldUp holding_of
held_before s v event o t u reached row of quiet other (h, waits) = (h, keeps_waiting v s u h back (sym stay.0) (sym stay.1) waits)
  where
    held : holding_of v t ≡ holding_of s t
    held = holding_stays s v event o t row of quiet

    on : HoldOn (as_state s) (as_state v)
    on = holds_on_all s v event o t reached row of (held_same _ _ held)

    stay : ((as_state v).calls u ≡ (as_state s).calls u) × ((as_state v).life u ≡ (as_state s).life u)
    stay = others_stay (as_state s) (as_state v) event o u row.0 (λ is. other (of u is))

    back : HoldOn (as_state v) (as_state s)
    back = record {
      reached = on.other;
      other = on.reached;
      geometry = sym on.geometry;
      held = λ x. elim (same_or_other x t) [
        | inl e ↦ subst (λ (k : ℕ). HeldOn (held_by ((as_state v).calls k)) (held_by ((as_state s).calls k))) (sym e)
            (held_same _ _ (sym held))
        | inr apart ↦ held_same _ _ (sym (ap held_by (others_stay (as_state s) (as_state v) event o x row.0 (λ is. apart (of x is))).0))
      ];
    }

-- so a task that is held up was marked before, or is looked at
newly_held : (s v : CoreState) (event : Event) (o : Outcome) (phases : List (Option Phase)) (was : List Bool) (t : ℕ) (quiet : Option ℕ)
    → IsReached (as_state s) → Row s event o v → ArePhases s phases → IfSome quiet (λ place. place < length phases)
    → IfSome quiet (λ place. IsQuiet event phases place) → 1 ≤ t → (IsHeldUp s t → slice_index_or was (t - 1) false ≡ true)
    → IsHeldUp v t → (slice_index_or was (t - 1) false ≡ true) ⊎ (IsLookedAt quiet (t - 1) × IsHeldUp v (t - 1 + 1))
unfolding ArePhases
newly_held s v event o phases was t None reached row are there is one marked held =
    let back : t ≡ t - 1 + 1 = omega (arith, one) in inr (tt, subst (λ (u : ℕ). IsHeldUp v u) back held)
newly_held s v event o phases was t (Some place) reached row are there is one marked held = elim (same_or_other (t - 1) place) [
  | inl e ↦ (let back : t ≡ t - 1 + 1 = omega (arith, one) in inr (e, subst (λ (u : ℕ). IsHeldUp v u) back held))
  | inr apart ↦ inl (marked (held_before s v event o (place + 1) t reached row is.alone keeps (λ same. apart (omega (arith, same, one))) held))
]
  where
    back : place ≡ place + 1 - 1
    back = omega arith

    stood_there : slice_index_or phases place None ≡ phase_of s (place + 1)
    stood_there = ap (λ (n : ℕ). slice_index_or phases n None) back ∙ are (place + 1) None (omega arith) (omega (arith, there))

    keeps : task_may_pass (phase_of s (place + 1)) ≡ false
    keeps = ap task_may_pass (sym stood_there) ∙ is.keeps

pub held_more : (s core : CoreState) (e : Event) (o : Outcome) (phases : List (Option Phase)) (was marks : List Bool)
    (before : List Moment) (tasks : ℕ) (quiet : Option ℕ) → IsReached (as_state s) → Row s e o core → ArePhases s phases
    → length phases ≡ tasks → IfSome quiet (λ place. place < tasks) → IfSome quiet (λ place. IsQuiet e phases place)
    → length was ≡ tasks → length marks ≡ tasks
    → ((k : ℕ) → k < tasks → (slice_index_or marks k false ≡ true
    ↔ ((slice_index_or was k false ≡ true) ⊎ (IsLookedAt quiet k × IsHeldUp core (k + 1)))))
    → AreHeldUp was s before → AreHeldUp marks core (record { event = e; outcome = o; core = core } ∷ before)
unfolding Once
held_more s core e o phases was marks before tasks quiet reached row are wide there is long same marked were =
    record {
      once = λ t one within.
          let now = marked (t - 1) (omega (arith, one, within, same)) in
          let had = were.once t one (omega (arith, within, same, long)) in
          let back : t - 1 + 1 ≡ t = omega (arith, one) in (
            λ h. elim (now.0 h) [
              | inl w ↦ inr (had.0 w)
              | inr held ↦ inl (subst (λ (u : ℕ). IsHeldUp core u) back held.1)
            ],
            λ h. elim h [
              | inl held ↦ stands t one within held
              | inr w ↦ now.1 (inl (had.1 w))
            ],
          );
      now = stands;
    }
  where
    within_all : IfSome quiet (λ place. place < length phases)
    within_all = subst (λ (n : ℕ). IfSome quiet (λ place. place < n)) (sym wide) there

    stands : (t : ℕ) → 1 ≤ t → t ≤ length marks → IsHeldUp core t → slice_index_or marks (t - 1) false ≡ true
    stands t one within held = (marked (t - 1) (omega (arith, one, within, same))).1
        (newly_held s core e o phases was t quiet reached row are within_all is one
        (λ h. were.now t one (omega (arith, within, same, long)) h) held)

-- ---- before any event

no_call : (config : Config) (s : CoreState) (t : ℕ) → IsOpening config s → phase_of s t ≡ None
unfolding IsOpening phase_of
no_call config s t opens = ap (λ (m : State). option_map word_of (m.calls t)) opens.1

unmarked : (n k : ℕ) → slice_index_or (replicate n false) k false ≡ true → ⊥
unmarked zero k h = (let bad : ⊥ = cc in bad)
unmarked (suc n) zero h = (let bad : ⊥ = cc in bad)
unmarked (suc n) (suc k) h = unmarked n k h

pub none_met : (config : Config) (s : CoreState) (n : ℕ) (marks : List Bool) → marks ≡ replicate n false → IsOpening config s
    → AreMet marks s []
unfolding Once StandTogether IsMarked
none_met config s n marks is opens =
    record {
      once = λ p q. (
        λ h. unmarked n (pair_place p q) (subst (λ (m : List Bool). slice_index_or m (pair_place p q) false ≡ true) is h),
        λ h. absurd h,
      );
      now = λ p q h. (let bad : None ≡ Some p = sym (no_call config s h.0 opens) ∙ h.3 in absurd (cc));
    }

pub none_held : (config : Config) (s : CoreState) (n : ℕ) (marks : List Bool) → marks ≡ replicate n false → IsOpening config s
    → AreHeldUp marks s []
unfolding Once
none_held config s n marks is opens =
    record {
      once = λ t one there. (
        λ h. unmarked n (t - 1) (subst (λ (m : List Bool). slice_index_or m (t - 1) false ≡ true) is h),
        λ h. absurd h,
      );
      now = λ t one there held. (
          let h = held_stands s t held in
          let bad : None ≡ Some h.0 = sym (no_call config s t opens) ∙ h.1 in absurd (cc)
          );
    }

-- a pool that opens is reached
pub opened_reached : (config : Config) (s : CoreState) → IsOpening config s → IsReached (as_state s)
unfolding IsOpening
opened_reached config s opens = subst IsReached (sym opens.1) (opening_reached (geometry (sizes config)) config.frames)
