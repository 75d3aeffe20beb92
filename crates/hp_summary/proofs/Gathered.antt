-- The facts of a run, gathered turn by turn; and of runs, whoever claimed them.
use Rattle.std.proofs.Common.{◌≡◌, ℕ, ◌+◌, ◌-◌, ◌<◌, ◌^◌, List, [], ◌∷◌, ◌++◌, length, refl, sym, ap, subst, ◌∙◌, arith}
use Rattle.std.specs.Prelude.{Result, Ok, Err, IfOk, OnOk, slice_index_or}
use Rattle.std.specs.List.{AllZip, range_with_len}
use Rattle.std.specs.List.Sorted.{IsSortedByKey, IsStableByKey}
use Rattle.std.specs.Ordering.{nat_cmp}
use Rattle.std.proofs.lemmas.List.{length-map}
use Rattle.hp_base.specs.Text.{Sizes}
use Rattle.hp_base.specs.declared.event.Event.{Event}
use Rattle.hp_machine.specs.declared.outcome.Outcome.{Outcome}
use Rattle.hp_core.specs.Runs.{IsOpening, Row}
use Rattle.hp_core.specs.State.{CoreState}
use Rattle.hp_core.specs.Readers.{config_of}
use Rattle.hp_base.specs.declared.config.Config.{Config}
use Rattle.hp_explore.specs.Explored.{EndsWell, IsExplored, IsRun, turn_limit}
use Rattle.hp_explore.specs.Schedule.{Plan, World, plan_of}
use Rattle.hp_explore.specs.SoFar.{RunState, EndsAs, GoesOn, IsSoFar}
use Rattle.hp_explore.specs.declared.line.RunLine.{RunLine}
use Rattle.hp_text.specs.declared.script.Script.{Script}
use Rattle.hp_summary.specs.Facts.{IsFactsOf}
use Rattle.hp_workers.proofs.Pieces.{made_long, made_there, pieces_joined}
use Rattle.rayon.proofs.ListFacts.{AllZip-weaken}
use Rattle.hp_summary.specs.Gathering.{AreCounted, AreFactsAt}
use Rattle.hp_summary.specs.Summaries.{AreFactsOf, IsSized, IsTallied, IsTallyOf}
use Rattle.hp_summary.specs.declared.gathering.Survey.{Survey}
use Rattle.hp_summary.specs.declared.tally.Tally.{Tally}
use Rattle.hp_watch.specs.Moments.{Moment, IsHistory, IsRunOf, last_of}
use Rattle.hp_summary.specs.Noting.{AreLong, AreNotes}
use Rattle.hp_watch.specs.declared.calls.EndedCall.{EndedCall}
use Rattle.hp_summary.specs.declared.facts.RunFacts.{RunFacts}
use Rattle.hp_summary.specs.declared.gathering.Batch.{Batch}
use Rattle.hp_summary.specs.declared.noting.Notes.{Notes}

-- what the run has made so far is noted
pub record IsNoted (script : Script) (seed deny kill run : ℕ) (r : RunState) (notes : Notes) : Type 0 where
  pub events : List Event
  pub so_far : IsSoFar script seed deny kill run events r
  pub first : CoreState
  pub moments : List Moment
  pub made : IsRunOf script.config events first moments
  pub last : r.world.core ≡ last_of first moments
  pub are : AreNotes notes r.world.core moments

pub noted_starts : (script : Script) (seed deny kill run : ℕ) (r : RunState) (n : Notes) → IsSoFar script seed deny kill run [] r
    → IsOpening script.config r.world.core → AreNotes n r.world.core [] → IsNoted script seed deny kill run r n
unfolding IsHistory
noted_starts script seed deny kill run r n so_far opens notes =
    record {
      events = [];
      so_far = so_far;
      first = r.world.core;
      moments = [];
      made = record { opening = opens; history = tt; made = refl };
      last = refl;
      are = notes;
    }

pub noted_goes_on : (script : Script) (seed deny kill run : ℕ) (plan : Plan) (old new : RunState) (n m : Notes) (e : Event) (o : Outcome)
    → IsNoted script seed deny kill run old n → plan ≡ plan_of script deny kill → Row old.world.core e o new.world.core
    → GoesOn plan old e new
    → ((was : CoreState) (before : List Moment) → Row was e o new.world.core → AreNotes n was before
    → AreNotes m new.world.core (record { event = e; outcome = o; core = new.world.core } ∷ before))
    → IsNoted script seed deny kill run new m
unfolding IsHistory
noted_goes_on script seed deny kill run plan old new n m e o had planned row goes saw =
    record {
      events = had.events ++ e ∷ [];
      so_far = goes script seed deny kill run had.events planned had.so_far;
      first = had.first;
      moments = record { event = e; outcome = o; core = new.world.core } ∷ had.moments;
      made = record {
        opening = had.made.opening;
        history = (had.made.history, subst (λ (s : CoreState). Row s e o new.world.core) had.last row);
        made = ap (λ (es : List Event). es ++ e ∷ []) had.made.made;
      };
      last = refl;
      are = saw old.world.core had.moments row had.are;
    }

pub are_facts : (script : Script) (seed deny kill run : ℕ) (plan : Plan) (r : RunState) (n : Notes) (facts : RunFacts)
    → IsNoted script seed deny kill run r n → plan ≡ plan_of script deny kill → AreLong n script.config.tasks
    → EndsAs plan r run facts.line → EndsWell facts.line.finish
    → IsSortedByKey (λ (x : EndedCall). x.task) nat_cmp facts.ended.items
    → IsStableByKey (λ (x : EndedCall). x.task) nat_cmp n.ended.items facts.ended.items
    → facts.held.items ≡ n.held.items → facts.met.items ≡ n.met.items → IsFactsOf script seed deny kill run facts
are_facts script seed deny kill run plan r n facts had planned long line ends sorted stable held met =
    record {
      events = had.events;
      first = had.first;
      moments = had.moments;
      explored = line script seed deny kill had.events planned had.so_far;
      ends = ends;
      made = had.made;
      answers = record {
        tasks = sorted;
        each = subst (λ (xs : List EndedCall). IsStableByKey (λ (x : EndedCall). x.task) nat_cmp xs facts.ended.items) had.are.ended stable;
      };
      tasks = ap (λ (xs : List _). length xs) held ∙ long.held;
      held = λ t one there. rw held (had.are.held.once t one (omega (arith, there, long.held)));
      pairs = ap (λ (xs : List _). length xs) met ∙ long.met;
      met = λ p q. rw met (had.are.met.once p q);
    }

-- the same between the turns
pub noted_same : (script : Script) (seed deny kill run : ℕ) (old new : RunState) (n : Notes)
    → IsNoted script seed deny kill run old n → new.world ≡ old.world → IsNoted script seed deny kill run new n
unfolding IsSoFar
noted_same script seed deny kill run old new n had same =
    record {
      events = had.events;
      so_far = subst (λ (w : World). (rest : List Event) (line : RunLine)
          → IsRun (plan_of script deny kill) run (turn_limit - w.turns) w rest line
          → IsExplored script seed deny kill run (had.events ++ rest) line) (sym same) had.so_far;
      first = had.first;
      moments = had.moments;
      made = had.made;
      last = ap (λ (w : World). w.core) same ∙ had.last;
      are = subst (λ (w : World). AreNotes n w.core had.moments) (sym same) had.are;
    }

pub long_at_first : (config : Config) (s : CoreState) (n : Notes) → IsOpening config s → AreLong n config.tasks
    → AreLong n (config_of s).tasks × ((config_of s).tasks ≡ config.tasks)
unfolding IsOpening config_of
long_at_first config s n opens long =
    let same : s.sizes.tasks ≡ config.tasks = ap (λ (z : Sizes). z.tasks) opens.0 in
    (subst (λ (t : ℕ). AreLong n t) (sym same) long, same)

pub same_tasks : (s v : CoreState) (e : Event) (o : Outcome) → Row s e o v → (config_of v).tasks ≡ (config_of s).tasks
unfolding Row config_of
same_tasks s v e o row = ap (λ (z : Sizes). z.tasks) row.1

-- ---- who claimed it

pub facts_there : {E : Type 0} (b : Batch) (place : ℕ) (r : Result RunFacts E)
    → IfOk r (λ facts. IsFactsOf b.script.now b.seed b.plan.now.deny b.plan.now.kill (b.first + place) facts)
    → IfOk r (λ facts. AreFactsAt b (b.first + place) facts)
unfolding AreFactsAt
facts_there b place r h = h

-- the facts at a place among those of all runs of the batch
pub facts_own : (b : Batch) (all : List RunFacts) (place : ℕ) (facts : RunFacts)
    → AllZip (λ (k : ℕ). AreFactsAt b (b.first + k)) (range_with_len 0 b.count) all → place < b.count
    → facts ≡ slice_index_or all place facts → AreFactsAt b (b.first + place) facts
facts_own b all place facts are there is = made_there (λ (k : ℕ). AreFactsAt b (b.first + k)) b.count place all facts are there is

-- ---- runs that are counted in order

pub on_ok : {V E : Type 0} (r : Result V E) (A B : Type 0) → (A → B) → OnOk r A → OnOk r B
on_ok (Ok v) A B f a = f a
on_ok (Err e) A B f a = tt

pub counted_room : (b : Batch) (runs : ℕ) (t : Tally) → AreCounted b runs t → runs + 1 < 2 ^ 32 → IsTallied t
counted_room b runs t h few =
    record { facts = h.facts; is = h.is; few = omega (arith, few, made_long (AreFactsAt b) 0 runs h.facts h.are) }

pub facts_held : (b : Batch) (run : ℕ) (facts : RunFacts) → AreFactsAt b run facts
    → (length facts.held.items ≡ b.script.now.config.tasks) × (length facts.met.items ≡ 729)
unfolding AreFactsAt
facts_held b run facts h = (h.tasks, h.pairs)

pub counted_more : (b : Batch) (runs : ℕ) (old new : Tally) (facts : RunFacts) → AreCounted b runs old → AreFactsAt b runs facts
    → length new.held.items ≡ length old.held.items → length new.met.items ≡ length old.met.items
    → ((before : List RunFacts) → IsTallyOf before old → IsTallyOf (before ++ facts ∷ []) new) → AreCounted b (runs + 1) new
counted_more b runs old new facts h is held met more =
    record {
      facts = h.facts ++ facts ∷ [];
      are = pieces_joined (AreFactsAt b) 0 runs runs 1 (runs + 1) h.facts (facts ∷ []) (h.facts ++ facts ∷ []) (omega arith) (omega arith) refl
          h.are (is, tt);
      is = more h.facts h.is;
      sized = record { held = held ∙ h.sized.held; met = met ∙ h.sized.met };
    }

-- ---- part by part

-- the script's first runs have been counted
pub record AreSurveyed (script : Script) (v : Survey) (runs : ℕ) (t : Tally) : Type 0 where
  pub facts : List RunFacts
  pub are : AreFactsOf script v runs facts
  pub is : IsTallyOf facts t
  pub sized : IsSized t script.config.tasks

module _ (script : Script) (v : Survey) (b : Batch) (of : b.script.now ≡ script) (seeded : b.seed ≡ v.seed)
    (planned : b.plan.now ≡ plan_of script v.chances.deny v.chances.kill) where
  into : (run : ℕ) (facts : RunFacts) → IsFactsOf script v.seed v.chances.deny v.chances.kill run facts → AreFactsAt b run facts
  unfolding AreFactsAt
  into run facts h =
      subst (λ (x : Script). IsFactsOf x b.seed b.plan.now.deny b.plan.now.kill run facts) (sym of)
      (subst (λ (x : ℕ). IsFactsOf script x b.plan.now.deny b.plan.now.kill run facts) (sym seeded)
      (subst (λ (x : Plan). IsFactsOf script v.seed x.deny x.kill run facts) (sym planned) h))

  back : (run : ℕ) (facts : RunFacts) → AreFactsAt b run facts → IsFactsOf script v.seed v.chances.deny v.chances.kill run facts
  unfolding AreFactsAt
  back run facts h =
      subst (λ (x : Plan). IsFactsOf script v.seed x.deny x.kill run facts) planned
      (subst (λ (x : ℕ). IsFactsOf script x b.plan.now.deny b.plan.now.kill run facts) seeded
      (subst (λ (x : Script). IsFactsOf x b.seed b.plan.now.deny b.plan.now.kill run facts) of h))

  pub batch_begins : (runs : ℕ) (t : Tally) → AreSurveyed script v runs t → AreCounted b runs t
  batch_begins runs t h =
      record {
        facts = h.facts;
        are = AllZip-weaken _ _ into (range_with_len 0 runs) h.facts h.are;
        is = h.is;
        sized = subst (λ (x : Script). IsSized t x.config.tasks) (sym of) h.sized;
      }

  pub batch_ends : (runs : ℕ) (t : Tally) → AreCounted b runs t → AreSurveyed script v runs t
  batch_ends runs t h =
      record {
        facts = h.facts;
        are = AllZip-weaken _ _ back (range_with_len 0 runs) h.facts h.are;
        is = h.is;
        sized = subst (λ (x : Script). IsSized t x.config.tasks) of h.sized;
      }

pub surveyed_few : (script : Script) (v : Survey) (runs : ℕ) (t : Tally) → AreSurveyed script v runs t → length t.turns.items ≡ runs
surveyed_few script v runs t h =
    ap (λ (xs : List ℕ). length xs) h.is.turns ∙ length-map h.facts (λ (f : RunFacts). f.line.turns) ∙ made_long _ 0 runs h.facts h.are
