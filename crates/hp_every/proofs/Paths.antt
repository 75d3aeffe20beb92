-- Schedules of the same events lead to places that differ in the names of frames alone.
use Rattle.std.proofs.Common.{◌≡◌, ℕ, ◌+◌, refl, ap, sym, ◌∙◌, subst, inl, inr, arith, List, [], ◌∷◌, ◌++◌}
use Rattle.std.specs.Prelude.{Bool, ◌-◌, slice_index, slice_set, if◌then◌else◌}
use Rattle.hp_base.specs.Text.{sizes}
use Rattle.hp_base.specs.declared.event.Event.{Event}
use Rattle.hp_base.specs.declared.event.Event.TheVariants.{Begin, Step, Kill, Resize}
use Rattle.hp_machine.specs.declared.outcome.Outcome.{Outcome}
use Rattle.hp_alike.proofs.Twins.{Twins, opening_twins, told_same}
use Rattle.hp_core.specs.State.{CoreState, as_state}
use Rattle.hp_core.specs.Runs.{IsOpening, Row, geometry}
use Rattle.hp_text.specs.declared.script.Script.{Script}
use Rattle.hp_watch.specs.Moments.{Moment, events_of}
use Rattle.hp_key.proofs.Tells.{cons_same}
use Rattle.hp_explore.specs.Schedule.{Plan}
use Rattle.hp_every.specs.Places.{AreAlike, outcomes_of}
use Rattle.hp_every.specs.Scheduled.{is_denied, is_kill}
use Rattle.hp_every.specs.Schedules.{AnyTurn, IsSchedule, Leads, Place, first_place, plan_for}

-- how many calls are begun behind the event
abbrev begun_after : Event → List ℕ → List ℕ
begun_after (Begin t op) made = slice_set made (t - 1) (slice_index made (t - 1) + 1)
begun_after (Step t granted) made = made
begun_after (Kill t) made = made
begun_after (Resize frames) made = made

abbrev one_if : Bool → ℕ
one_if b = if b then 1 else 0

-- the event alone tells what becomes of the calls, the denials and the kills
record Counts (p : Place) (event : Event) (q : Place) : Type 0 where
  pub made : q.made ≡ begun_after event p.made
  pub denials : p.denials ≡ q.denials + one_if (is_denied event)
  pub kills : p.kills ≡ q.kills + one_if (is_kill event)

counts_of : (p q : Place) (event same : Event) → event ≡ same → q.made ≡ begun_after same p.made
    → p.denials ≡ q.denials + one_if (is_denied same) → p.kills ≡ q.kills + one_if (is_kill same) → Counts p event q
counts_of p q event same is made denials kills = record {
  made = made ∙ ap (λ (e : Event). begun_after e p.made) (sym is);
  denials = denials ∙ ap (λ (e : Event). q.denials + one_if (is_denied e)) (sym is);
  kills = kills ∙ ap (λ (e : Event). q.kills + one_if (is_kill e)) (sym is);
}

none_more : (a b : ℕ) → b ≡ a → a ≡ b + 0
none_more a b e = omega (arith, e)

counts : (plan : Plan) (p q : Place) (event : Event) (outcome : Outcome) → AnyTurn plan p event outcome q → Counts p event q
counts plan p q event outcome turn = elim turn.choice [
  | inl c ↦ counts_of p q event (Begin turn.task c.op) c.is c.made (none_more _ _ c.denials) (none_more _ _ c.kills)
  | inr (inl c) ↦ counts_of p q event _ c.is c.made (none_more _ _ c.denials) (none_more _ _ c.kills)
  | inr (inr (inl c)) ↦ counts_of p q event _ c.is c.made c.denials (none_more _ _ c.kills)
  | inr (inr (inr c)) ↦ counts_of p q event _ c.is c.made (none_more _ _ c.denials) c.kills
]

-- two places that differ in the names of frames alone
record PlaceTwins (p q : Place) : Type 0 where
  pub cores : Twins (as_state p.core) (as_state q.core)
  pub sizes : p.core.sizes ≡ q.core.sizes
  pub made : p.made ≡ q.made
  pub denials : p.denials ≡ q.denials
  pub kills : p.kills ≡ q.kills

-- one turn of the same event
same_turn : (plan : Plan) (p q r s : Place) (event : Event) (o u : Outcome) → PlaceTwins p q → AnyTurn plan p event o r
    → AnyTurn plan q event u s → (o ≡ u) × PlaceTwins r s
unfolding Row
same_turn plan p q r s event o u h a b =
    let both = told_same (as_state p.core) (as_state q.core) (as_state r.core) (as_state s.core) event o u h.cores a.row.0 b.row.0 in
    let here = counts plan p r event o a in
    let there = counts plan q s event u b in
    let d = here.denials in
    let e = there.denials in
    let k = here.kills in
    let l = there.kills in
    let denials = h.denials in
    let kills = h.kills in (
      sym both.0,
      record {
        cores = both.1;
        sizes = a.row.1 ∙ (h.sizes ∙ sym b.row.1);
        made = here.made ∙ (ap (λ (made : List ℕ). begun_after event made) h.made ∙ sym there.made);
        denials = omega (arith, d, e, denials);
        kills = omega (arith, k, l, kills);
      },
    )

-- lists with something at their ends
pub never_empty : {A P : Type 0} (xs : List A) (x : A) → ◌≡◌ {A = List A} [] (xs ++ x ∷ []) → P
never_empty [] x e = absurd (cc)
never_empty (y ∷ xs) x e = absurd (cc)

pub last_same : {A : Type 0} (xs ys : List A) (x y : A) → xs ++ x ∷ [] ≡ ys ++ y ∷ [] → (xs ≡ ys) × (x ≡ y)
last_same [] [] x y e = (refl, (cons_same x y [] [] e).0)
last_same [] (b ∷ ys) x y e = never_empty ys y (cons_same x b [] (ys ++ y ∷ []) e).1
last_same (a ∷ xs) [] x y e = never_empty xs x (sym (cons_same a y (xs ++ x ∷ []) [] e).1)
last_same (a ∷ xs) (b ∷ ys) x y e =
    let one = cons_same a b (xs ++ x ∷ []) (ys ++ y ∷ []) e in
    let rest = last_same xs ys x y one.1 in
    (λ i. one.0 i ∷ rest.0 i, rest.1)

-- all turns
same_path : (plan : Plan) (f g : Place) (ms ns : List Moment) (p q : Place) → PlaceTwins f g → events_of ms ≡ events_of ns
    → Leads plan f ms p → Leads plan g ns q → (outcomes_of ms ≡ outcomes_of ns) × PlaceTwins p q
unfolding Leads
same_path plan f g [] [] p q h e a b =
    (refl, subst (λ (x : Place). PlaceTwins p x) (sym b) (subst (λ (x : Place). PlaceTwins x g) (sym a) h))
same_path plan f g [] (n ∷ ns) p q h e a b = never_empty (events_of ns) n.event e
same_path plan f g (m ∷ ms) [] p q h e a b = never_empty (events_of ms) m.event (sym e)
same_path plan f g (m ∷ ms) (n ∷ ns) p q h e (before, leads, core, turn) (other, there, same, made) =
    let last = last_same (events_of ms) (events_of ns) m.event n.event e in
    let so_far = same_path plan f g ms ns before other h last.0 leads there in
    let from = subst (λ (x : Event). AnyTurn plan other x n.outcome q) (sym last.1) made in
    let now = same_turn plan before other p q m.event m.outcome n.outcome so_far.1 turn from in
    (λ i. now.0 i ∷ so_far.0 i, now.1)

pub one_place : (script : Script) (denials kills : ℕ) (first other : CoreState) (moments others : List Moment) (p q : Place)
    → IsSchedule script denials kills first moments p → IsSchedule script denials kills other others q
    → events_of moments ≡ events_of others → (outcomes_of moments ≡ outcomes_of others) × AreAlike p q
unfolding IsOpening
one_place script denials kills first other moments others p q a b same =
    let twins : PlaceTwins (first_place script denials kills first) (first_place script denials kills other) = record {
      cores = opening_twins (geometry (sizes script.config)) script.config.frames (as_state first) (as_state other) a.opening.1 b.opening.1;
      sizes = a.opening.0 ∙ sym b.opening.0;
      made = refl;
      denials = refl;
      kills = refl;
    } in
    let both = same_path (plan_for script) (first_place script denials kills first) (first_place script denials kills other)
    moments others p q twins same a.leads b.leads in (
      both.0,
      record {
        state = both.1.cores.alike;
        sizes = both.1.sizes;
        made = both.1.made;
        denials = both.1.denials;
        kills = both.1.kills;
      },
    )
