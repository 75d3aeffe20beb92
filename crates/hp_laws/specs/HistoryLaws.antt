-- What the theorems say of the histories that lead to one state: each is the contract of a function of this crate, and of a call of a core.
use Rattle.std.specs.Prelude.{◌≡◌, ◌≤◌, ◌<◌, ℕ, Bool, true, Some, List, ◌∷◌, ◌++◌, length}
use Rattle.hp_base.specs.Mappings.{find}
use Rattle.hp_base.specs.declared.answer.Answer.{Answer}
use Rattle.hp_base.specs.declared.answer.Answer.TheVariants.{Word}
use Rattle.hp_base.specs.declared.event.Op.{Op}
use Rattle.hp_base.specs.declared.event.Event.TheVariants.{Begin, Step}
use Rattle.hp_machine.specs.State.{Geometry, State}
use Rattle.hp_machine.specs.Events.{first}
use Rattle.hp_machine.specs.declared.call.Call.TheVariants as call
use Rattle.hp_machine.specs.declared.outcome.Outcome.TheVariants.{Begun, Ended}
use Rattle.hp_machine.specs.declared.outcome.Life.TheVariants.{Alive}
use Rattle.hp_machine.specs.declared.touch.Look.{Look}
use Rattle.hp_machine.specs.declared.touch.Missing.{Missing}
use Rattle.hp_machine.specs.declared.touch.TouchPhase.TheVariants as touch
use Rattle.hp_laws.specs.Bounds.{most_steps, own_steps, calls_begun, SweepsFrom}
use Rattle.hp_laws.specs.Histories.{Moment, History, in_order}
use Rattle.hp_laws.specs.Promises.{IsPromised, IsUndisturbed, IsServed, TellsNoLack}
use Rattle.hp_laws.specs.Words.{LastWord, Read, ReadTheLastWord}

-- the state has a history, from the opening with so many frames on
abbrev pub HasHistory : (frames : ℕ) → State → Type 0
HasHistory frames s = (moments : List Moment) × History s.geometry frames moments s

-- of one call, from its begin on, the steps that moved or ended it are at most so many; of a truncation that has set
-- the size the top counts, where its sweep began
abbrev pub FewOwnSteps : State → Type 0
FewOwnSteps s = (g : Geometry) (frames : ℕ) (later : List Moment) (begins : Moment) (past : List Moment) (t top : ℕ) (op : Op)
    → History g frames (later ++ (begins ∷ past)) s → begins.event ≡ Begin t op → begins.outcome ≡ Begun
    → calls_begun t (in_order later) ≡ 0 → SweepsFrom t top later
    → own_steps t (in_order later) ≤ most_steps begins.before.geometry op (length (begins.before.mappings t)) top

-- what a map has promised is reserved and below the size, until a punch or a truncation takes it back
abbrev pub KeepsPromises : State → Type 0
KeepsPromises s =
    (g : Geometry) (frames : ℕ) (moments : List Moment) (f i : ℕ) → History g frames moments s
    → IsPromised f i moments → (s.reserved f i ≡ true) × (i < s.size f)

-- a touch whose index is promised where it asks what is missing never answers that there is no frame, nor that the quota is used up
abbrev pub PromisedNeverLacks : State → Type 0
PromisedNeverLacks s =
    (g : Geometry) (frames : ℕ) (ends : Moment) (later : List Moment) (asks : Moment) (past : List Moment) (t : ℕ)
    (grant last : Bool) (p : Missing) (answer : Answer)
    → History g frames (ends ∷ (later ++ (asks ∷ past))) s → calls_begun t (in_order later) ≡ 0
    → asks.event ≡ Step t grant → asks.before.calls t ≡ Some (call.Touch (touch.Missing p)) → IsPromised p.touch.file p.touch.index past
    → ends.event ≡ Step t last → ends.outcome ≡ Ended answer → TellsNoLack answer

-- a load or store of a mapped page, whose index is promised from its begin to its end, with no step denied and its task
-- not killed, answers with the word or done
abbrev pub PromisedIsServed : State → Type 0
PromisedIsServed s =
    (g : Geometry) (frames : ℕ) (ends : Moment) (later : List Moment) (begins : Moment) (past : List Moment) (t : ℕ)
    (op : Op) (look : Look) (f i : ℕ) (answer : Answer)
    → History g frames (ends ∷ (later ++ (begins ∷ past))) s → calls_begun t (in_order later) ≡ 0
    → begins.event ≡ Begin t op → begins.outcome ≡ Begun → first op ≡ call.Touch (touch.Look look)
    → find (begins.before.mappings t) look.vpn ≡ Some (f, i) → begins.before.life t ≡ Alive → IsUndisturbed t f i later (begins ∷ past)
    → ends.event ≡ Step t true → ends.outcome ≡ Ended answer → IsServed answer

-- a load tells the last word of its page at the step that reads it, and no other word is the last one
abbrev pub LoadsTellLastWords : State → Type 0
LoadsTellLastWords s = (g : Geometry) (frames : ℕ) (past : List Moment) (m : Moment) (f i word : ℕ)
    → History g frames (m ∷ past) s → Read f i m word → LastWord f i past word × ((other : ℕ) → LastWord f i past other → other ≡ word)

-- the word with which a load ends is the last word of its page at the step that read it, a step of the same call
abbrev pub LoadsEndWithLastWords : State → Type 0
LoadsEndWithLastWords s = (g : Geometry) (frames : ℕ) (past : List Moment) (m : Moment) (t : ℕ) (grant : Bool) (word : ℕ)
    → History g frames (m ∷ past) s → m.event ≡ Step t grant → m.outcome ≡ Ended (Word word) → ReadTheLastWord t word (m ∷ past)
