-- The right machine has each of the laws that the others break.
use Rattle.hp_machine.specs.State.{State}
use Rattle.hp_machine.specs.Events.{IsReached}
use Rattle.hp_machine.specs.Headline.{Agrees, IsBelow}
use Rattle.hp_laws.proofs.Apart.{changes_are_calls, never_short, spares_suffice}
use Rattle.hp_laws.proofs.Runs.{headline}
use Rattle.hp_laws.specs.Laws.{NeverShort}
use Rattle.hp_laws.specs.Protocol.{ChangesAreCalls, SparesSuffice}
use Rattle.hp_counterexamples.specs.Runs.{FramesAreInOnePlace, FreeFramesSuffice, QuotaSuffices}

pub of_the_headline : (s : State) → IsReached s
    → Agrees s × FramesAreInOnePlace s × IsBelow s × FreeFramesSuffice s × QuotaSuffices s
of_the_headline s reached = let h = headline s reached in (h.agree, h.place, h.below, h.enough, h.within)

pub of_the_others : (s : State) → IsReached s → NeverShort s × SparesSuffice s × ChangesAreCalls s
of_the_others s reached = (λ t. never_short s t reached, spares_suffice s reached, changes_are_calls s reached)
