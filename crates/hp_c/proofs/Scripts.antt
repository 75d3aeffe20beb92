-- Why nothing is found in a script.
use Rattle.std.proofs.Common.{arith, ◌≡◌, ◌∙◌, ◌<◌, ◌≤◌, ◌⊎◌, List, ℕ, inl, inr, length, subst, sym}
use Rattle.std.specs.Prelude.{None, Some}
use Rattle.hp_base.specs.Text.{sizes}
use Rattle.hp_conditions.specs.Lines.{IsFaultOf}
use Rattle.hp_conditions.specs.declared.lines.ConditionsFault.{ConditionsFault}
use Rattle.hp_conditions.specs.declared.lines.ConditionsFault.TheVariants as lines
use Rattle.hp_every.specs.Schedules.{IsShortest, NoScheduleMeets, ScheduleMeets}
use Rattle.hp_every.specs.Search.{Question}
use Rattle.hp_hunt.specs.declared.condition.Condition.{Condition}
use Rattle.hp_layers.specs.declared.limits.Limits.{Limits}
use Rattle.hp_search.specs.Searching.{AreLong, IsAnswer, IsTooMany, IsWithin}
use Rattle.hp_search.specs.declared.reachability.Reachability.{Reachability}
use Rattle.hp_search.specs.declared.reachability.Reachability.TheVariants.{Never, Met, Cut}
use Rattle.hp_text.specs.ScriptLines.{HasLinesFault}
use Rattle.hp_text.specs.Streams.{source_at}
use Rattle.hp_text.specs.declared.fault.ReplayFault.{ReplayFault}
use Rattle.hp_text.specs.declared.fault.ReplayFault.TheVariants as fault
use Rattle.hp_text.specs.declared.trace.Trace.{Trace}
use Rattle.hp_watch.specs.Moments.{Moment}
use Rattle.hp_c.specs.Finding.{HasScriptFault, WhyNoRun, WhyNoSchedule}
use Rattle.hp_c.specs.Searches.{IsFaultBehind, Says, unread}
use Rattle.hp_c.specs.declared.search_words.BoundsWords.{BoundsWords}
use Rattle.hp_c.specs.declared.search_words.HuntWords.{HuntWords}

-- no conditions are read
pub unread_run : (w : HuntWords) (script conditions : List ℕ) (why : ConditionsFault) → IsFaultOf conditions why
    → WhyNoRun w script conditions (unread why)
unread_run w script conditions (lines.Line number) is = is
unread_run w script conditions lines.Memory is = (tt, λ line. absurd line)

pub unread_schedule : (w : BoundsWords) (script conditions : List ℕ) (why : ConditionsFault) → IsFaultOf conditions why
    → WhyNoSchedule w script conditions (unread why)
unread_schedule w script conditions (lines.Line number) is = is
unread_schedule w script conditions lines.Memory is = (tt, λ line. absurd line)

-- the script has a fault
pub bad_script : (script conditions : List ℕ) (cs : List Condition) (why : ReplayFault) → Says conditions cs → HasLinesFault script why
    → 0 ≡ source_at why 0 → IsFaultBehind conditions (HasScriptFault script) why
bad_script script conditions cs (fault.BadLine n) says is reads = (is, λ line. (cs, says))
bad_script script conditions cs fault.BadHeader says is reads = (is, λ line. (cs, says))
bad_script script conditions cs fault.Memory says is reads = (tt, λ line. absurd line)
bad_script script conditions cs fault.Write says is reads = (tt, λ line. absurd line)
bad_script script conditions cs fault.Read says is reads = absurd (omega (arith, reads))

-- ---- what a search of all schedules says, as it was found

pub answer_met : (a : Question) (every : Reachability) (trace : Trace) → every ≡ Met trace → IsAnswer a every
    → IsShortest a.script a.denials a.kills a.conditions trace.events.items × (sizes trace.config ≡ sizes a.script.config)
unfolding IsAnswer
answer_met a every trace is h = subst (IsAnswer a) is h

pub answer_never : (a : Question) (every : Reachability) → every ≡ Never → IsAnswer a every → NoScheduleMeets a.script a.denials a.kills a.conditions
unfolding IsAnswer
answer_never a every is h = subst (IsAnswer a) is h

pub answer_cut : (a : Question) (every : Reachability) (turns : ℕ) → every ≡ Cut turns → IsAnswer a every
    → (moments : List Moment) → ScheduleMeets a.script a.denials a.kills a.conditions moments → turns ≤ length moments
unfolding IsAnswer
answer_cut a every turns is h = subst (IsAnswer a) is h

pub within_met : (a : Question) (limits : Limits) (every : Reachability) (trace : Trace) → every ≡ Met trace → IsWithin a limits every
    → length trace.events.items < limits.turns
within_met a limits every trace is h = subst (IsWithin a limits) is h

pub within_cut : (a : Question) (limits : Limits) (every : Reachability) (turns : ℕ) → every ≡ Cut turns → limits.bytes ≡ None
    → IsWithin a limits every → ((turns ≡ limits.turns) × AreLong a turns) ⊎ IsTooMany a limits.states turns
within_cut a limits every turns is unlimited h = elim (subst (IsWithin a limits) is h) [
  | inl long ↦ inl long
  | inr wide ↦ elim wide [
    | inl many ↦ inr many
    | inr heavy ↦ absurd (let e : None ≡ Some heavy.many.0 = sym unlimited ∙ heavy.many.1 in cc)
  ]
]
