-- The fault of a replay is that of the bytes.
use Rattle.std.proofs.Common.{ℕ, List, ◌++◌, Option, Some, sym, subst, ◌∙◌, append_assoc}
use Rattle.hp_text.specs.declared.fault.ReplayFault.{ReplayFault}
use Rattle.hp_text.specs.declared.fault.ReplayFault.TheVariants.{BadLine, BadHeader, Read, Write, Memory}
use Rattle.hp_text.specs.Traces.{BeginsNoHeader, HasFault, IsLineFault, trace_text}
use Rattle.hp_replay.specs.Replaying.{Stopped}

-- the fault of a replay is that of the bytes
pub stopped_fault : (all left : List ℕ) (before after : Option (List ℕ)) (fault : ReplayFault) → IsLineFault fault
    → Stopped fault (Some all) (Some left) before after → HasFault all fault
stopped_fault all left before after BadHeader is s = subst BeginsNoHeader (sym s.reads) s.bad
stopped_fault all left before after (BadLine n) is s =
    record {
      sizes = s.sizes;
      events = s.events;
      rest = s.rest ++ left;
      parts = s.reads ∙ append_assoc (trace_text s.sizes s.events) s.rest left;
      trace = s.trace;
      number = s.number;
      bad = s.bad;
    }
stopped_fault all left before after Read is s = absurd is
stopped_fault all left before after Write is s = absurd is
stopped_fault all left before after Memory is s = absurd is
