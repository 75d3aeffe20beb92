-- A round over a running pool: each call is made in a thread of its own.
use Rattle.std.specs.Prelude.{◌≡◌, ℕ, true, List, [], ◌∷◌, map, Result, Ok, Err, All, ◌⊎◌}
use Rattle.std.specs.List.{AllZip}
use Rattle.hp_base.specs.declared.answer.Answer.{Answer}
use Rattle.hp_base.specs.declared.event.Op.{Op}
use Rattle.hp_machine.specs.declared.outcome.Refusal.TheVariants as refusal
use Rattle.hp_shared.specs.declared.fault.Reply.TheVariants as reply
use Rattle.hp_client.specs.Crew.{MemberState, AllWork, given, resuming, has_member, work_at}
use Rattle.hp_client.specs.declared.crew.Work.{Work}
use Rattle.hp_client.specs.declared.crew.Work.TheVariants.{Idle, Call, Resume, Came}
use Rattle.hp_client.specs.declared.fault.ClientFault.{ClientFault}
use Rattle.hp_client.specs.declared.fault.ClientFault.TheVariants as fault

-- what came of a call: its answer, or why there is none
abbrev pub answer_of : Work → Result Answer ClientFault
answer_of Idle = Err (fault.Refused refusal.NotAlive)
answer_of (Call op) = Err (fault.Refused refusal.Idle)
answer_of Resume = Err (fault.Refused refusal.Idle)
answer_of (Came (Ok (reply.Ended answer))) = Ok answer
answer_of (Came (Ok (reply.Refused why))) = Err (fault.Refused why)
answer_of (Came (Err lack)) = Err fault.Memory

-- the calls' answers, in the list's order
abbrev pub AreAnswers : List MemberState → List (ℕ × Op) → List Answer → Type 0
AreAnswers members calls answers = AllZip (λ (call : ℕ × Op) answer. answer_of (work_at call.0 members) ≡ Ok answer) calls answers

-- the first of the calls, in the list's order, that has no answer has none for this reason
abbrev pub FirstUnanswered : List MemberState → List (ℕ × Op) → ClientFault → Type 0
FirstUnanswered members [] why = ⊥
FirstUnanswered members (call ∷ calls) why =
    (answer_of (work_at call.0 members) ≡ Err why)
    ⊎ ((answer : Answer) × (answer_of (work_at call.0 members) ≡ Ok answer) × FirstUnanswered members calls why)

-- each of the calls' tasks has a member
abbrev pub AreSeated : List MemberState → List (ℕ × Op) → Type 0
AreSeated members calls = All (λ (call : ℕ × Op). has_member call.0 members ≡ true) calls

-- Each member whose task has a call made it, and the others did nothing. The answers are what the calls came to.
pub record PoolRound (old : List MemberState) (calls : List (ℕ × Op)) (answers : List Answer) (new : List MemberState) : Type 0 where
  pub seated : AreSeated old calls
  pub made : AllWork (map (given calls) old) new
  pub answered : AreAnswers new calls answers

-- Memory was refused before anything happened; or a task has no member, and nothing happened; or all calls were made, and
-- the fault tells of the first in the list that has no answer.
abbrev pub PoolRoundStops : ClientFault → List MemberState → List (ℕ × Op) → List MemberState → Type 0
PoolRoundStops why old calls new =
    ((why ≡ fault.Memory) × (new ≡ old))
    ⊎ ((why ≡ fault.Refused refusal.NotAlive) × (new ≡ old) × ¬ (AreSeated old calls))
    ⊎ (AllWork (map (given calls) old) new × FirstUnanswered new calls why)

-- whether a call in flight came to its end, or there was none; else why not
abbrev pub end_of : Work → Result (Unit {0}) ClientFault
end_of Idle = Ok tt
end_of (Call op) = Err (fault.Refused refusal.InCall)
end_of Resume = Err (fault.Refused refusal.InCall)
end_of (Came (Ok (reply.Ended answer))) = Ok tt
end_of (Came (Ok (reply.Refused refusal.Idle))) = Ok tt
end_of (Came (Ok (reply.Refused refusal.NotAlive))) = Err (fault.Refused refusal.NotAlive)
end_of (Came (Ok (reply.Refused refusal.InCall))) = Err (fault.Refused refusal.InCall)
end_of (Came (Ok (reply.Refused refusal.BadSize))) = Err (fault.Refused refusal.BadSize)
end_of (Came (Err lack)) = Err fault.Memory

-- each call in flight came to its end
abbrev pub AreEnded : List MemberState → Type 0
AreEnded members = All (λ (member : MemberState). end_of member.work ≡ Ok tt) members

-- the first member, in their order, whose call didn't come to its end tells why
abbrev pub FirstUnended : List MemberState → ClientFault → Type 0
FirstUnended [] why = ⊥
FirstUnended (member ∷ members) why = (end_of member.work ≡ Err why) ⊎ ((end_of member.work ≡ Ok tt) × FirstUnended members why)

-- Each member went on with its call in flight, and each came to its end.
abbrev pub Finished : List MemberState → List MemberState → Type 0
Finished old new = AllWork (map resuming old) new × AreEnded new

-- Each member went on with its call in flight, and the fault tells of the first, in the seats' order, that didn't come to its end.
abbrev pub FinishFails : ClientFault → List MemberState → List MemberState → Type 0
FinishFails why old new = AllWork (map resuming old) new × FirstUnended new why
