-- Why no small trace is found.
use Rattle.std.proofs.Common.{arith, ◌≡◌, List, ℕ}
use Rattle.hp_conditions.specs.Lines.{IsFaultOf}
use Rattle.hp_conditions.specs.declared.lines.ConditionsFault.{ConditionsFault}
use Rattle.hp_conditions.specs.declared.lines.ConditionsFault.TheVariants as lines
use Rattle.hp_hunt.specs.declared.condition.Condition.{Condition}
use Rattle.hp_text.specs.Streams.{source_at}
use Rattle.hp_text.specs.Traces.{HasFault}
use Rattle.hp_text.specs.Writing.{IsWriteFault}
use Rattle.hp_text.specs.declared.fault.ReplayFault.{ReplayFault}
use Rattle.hp_text.specs.declared.fault.ReplayFault.TheVariants as fault
use Rattle.hp_c.specs.Searches.{IsFaultBehind, Says, WhyNotSmall, unread}
use Rattle.hp_c.specs.Texts.{HasFaultTold}

-- no conditions are read
pub unread_small : (trace conditions : List ℕ) (why : ConditionsFault) → IsFaultOf conditions why → WhyNotSmall trace conditions (unread why)
unread_small trace conditions (lines.Line number) is = is
unread_small trace conditions lines.Memory is = (tt, λ line. absurd line)

-- the trace has a fault
pub bad_trace : (trace conditions : List ℕ) (cs : List Condition) (why : ReplayFault) → Says conditions cs → HasFault trace why
    → 0 ≡ source_at why 0 → IsFaultBehind conditions (HasFaultTold trace) why
bad_trace trace conditions cs (fault.BadLine n) says is reads = (is, λ line. (cs, says))
bad_trace trace conditions cs fault.BadHeader says is reads = (is, λ line. (cs, says))
bad_trace trace conditions cs fault.Memory says is reads = (tt, λ line. absurd line)
bad_trace trace conditions cs fault.Write says is reads = (tt, λ line. absurd line)
bad_trace trace conditions cs fault.Read says is reads = absurd (omega (arith, reads))

-- there was no memory for what was found, or for the search
pub no_memory : (conditions bytes : List ℕ) (Has : ReplayFault → Type 0) (why : ReplayFault) → Has fault.Memory → Has fault.Write
    → IsWriteFault why → IsFaultBehind conditions Has why
no_memory conditions bytes Has (fault.BadLine n) memory write is = absurd is
no_memory conditions bytes Has fault.BadHeader memory write is = absurd is
no_memory conditions bytes Has fault.Read memory write is = absurd is
no_memory conditions bytes Has fault.Memory memory write is = (memory, λ line. absurd line)
no_memory conditions bytes Has fault.Write memory write is = (write, λ line. absurd line)
