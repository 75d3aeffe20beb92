-- The word that a page should hold, told from what happened.
use Rattle.std.specs.Prelude.{◌≡◌, ◌≢◌, ◌⊎◌, ℕ, Bool, Some, None, List, [], ◌∷◌, ◌++◌}
use Rattle.hp_base.specs.Mappings.{find}
use Rattle.hp_base.specs.declared.answer.Answer.TheVariants as answer
use Rattle.hp_base.specs.declared.event.Event.TheVariants.{Step}
use Rattle.hp_machine.specs.declared.touch.Access.TheVariants.{Load, Store}
use Rattle.hp_machine.specs.declared.touch.Look.{Look}
use Rattle.hp_machine.specs.declared.touch.Found.{Found}
use Rattle.hp_machine.specs.declared.touch.TouchPhase.TheVariants as touch
use Rattle.hp_machine.specs.declared.outcome.Outcome.TheVariants as outcome
use Rattle.hp_machine.specs.declared.call.Call.TheVariants as call
use Rattle.hp_laws.specs.Bounds.{calls_begun}
use Rattle.hp_laws.specs.Histories.{Moment, in_order}

-- a store found its page translated, and wrote that word at the file's index
abbrev pub StoredAtLook : (file index : ℕ) → Moment → (word : ℕ) → Type 0
StoredAtLook f i m w =
    (t : ℕ) × (grant : Bool) × (p : Look) × (m.event ≡ Step t grant)
    × (m.before.calls t ≡ Some (call.Touch (touch.Look p))) × (p.access ≡ Store w)
    × (find (m.before.mappings t) p.vpn ≡ Some (f, i)) × (m.outcome ≡ outcome.Ended answer.Done)

-- or found its page, translated it and wrote
abbrev pub StoredAtFound : (file index : ℕ) → Moment → (word : ℕ) → Type 0
StoredAtFound f i m w =
    (t : ℕ) × (grant : Bool) × (p : Found) × (m.event ≡ Step t grant)
    × (m.before.calls t ≡ Some (call.Touch (touch.Found p))) × (p.touch.access ≡ Store w)
    × (p.touch.file ≡ f) × (p.touch.index ≡ i)
    × (m.after.calls t ≡ Some (call.Touch (touch.Leave (record { touch = p.touch; answer = answer.Done }))))

abbrev pub Wrote : (file index : ℕ) → Moment → (word : ℕ) → Type 0
Wrote f i m w = StoredAtLook f i m w ⊎ StoredAtFound f i m w

-- a page was placed there
abbrev pub Placed : (file index : ℕ) → Moment → Type 0
Placed f i m = (m.before.pages f i ≡ None) × (m.after.pages f i ≢ None)

-- the event makes it the word there: a store's, or 0 where the page was placed
abbrev pub Sets : (file index : ℕ) → Moment → (word : ℕ) → Type 0
Sets f i m w = Wrote f i m w ⊎ (Placed f i m × (w ≡ 0))

-- the latest event that made a word there made it this one
abbrev pub LastWord : (file index : ℕ) → List Moment → (word : ℕ) → Type 0
LastWord f i [] w = ⊥
LastWord f i (m ∷ ms) w = Sets f i m w ⊎ (((v : ℕ) → Sets f i m v → ⊥) × LastWord f i ms w)

-- a load told that word of the file's index
abbrev pub ReadAtLook : (file index : ℕ) → Moment → (word : ℕ) → Type 0
ReadAtLook f i m w =
    (t : ℕ) × (grant : Bool) × (p : Look) × (m.event ≡ Step t grant)
    × (m.before.calls t ≡ Some (call.Touch (touch.Look p))) × (p.access ≡ Load)
    × (find (m.before.mappings t) p.vpn ≡ Some (f, i)) × (m.outcome ≡ outcome.Ended (answer.Word w))

abbrev pub ReadAtFound : (file index : ℕ) → Moment → (word : ℕ) → Type 0
ReadAtFound f i m w =
    (t : ℕ) × (grant : Bool) × (p : Found) × (m.event ≡ Step t grant)
    × (m.before.calls t ≡ Some (call.Touch (touch.Found p))) × (p.touch.access ≡ Load)
    × (p.touch.file ≡ f) × (p.touch.index ≡ i)
    × (m.after.calls t ≡ Some (call.Touch (touch.Leave (record { touch = p.touch; answer = answer.Word w }))))

abbrev pub Read : (file index : ℕ) → Moment → (word : ℕ) → Type 0
Read f i m w = ReadAtLook f i m w ⊎ ReadAtFound f i m w

-- at one of these moments a step of the task read that word, and it was the last word of its page then; the task began no
-- call after it, so the latest moment is of the same call
pub record ReadTheLastWord (task word : ℕ) (moments : List Moment) : Type 0 where
  pub later : List Moment
  pub read : Moment
  pub earlier : List Moment
  pub parts : moments ≡ later ++ (read ∷ earlier)
  pub grant : Bool
  pub own_step : read.event ≡ Step task grant
  pub same_call : calls_begun task (in_order later) ≡ 0
  pub file : ℕ
  pub index : ℕ
  pub told : Read file index read word
  pub last : LastWord file index earlier word
