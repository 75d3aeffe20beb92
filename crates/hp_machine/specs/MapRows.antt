-- The rows of a map, with and without a reservation: what one step in each phase may do.
use Rattle.std.specs.Prelude.{ℕ, ◌+◌, ◌-◌, ◌≤◌, Bool, true, false, Option, MatchBool, MatchOption, max, nat_lt}
use Rattle.hp_base.specs.Numbers.{put}
use Rattle.hp_base.specs.Indices.{missing}
use Rattle.hp_base.specs.Mappings.{IsRoom, entered}
use Rattle.hp_base.specs.declared.answer.Answer.TheVariants as answer
use Rattle.hp_machine.specs.State.{Pool, frees, exceeds_quota}
use Rattle.hp_machine.specs.Parts.{Goes, Ends, StartRow, is_bad_range, unlocked, ChangeRow, aborted, committed}
use Rattle.hp_machine.specs.declared.map.Start.{Start}
use Rattle.hp_machine.specs.declared.map.Room.{Room}
use Rattle.hp_machine.specs.declared.map.Missing.{Missing}
use Rattle.hp_machine.specs.declared.map.Changed.{Changed}
use Rattle.hp_machine.specs.declared.map.Abort.{Abort}
use Rattle.hp_machine.specs.declared.map.Accounted.{Accounted}
use Rattle.hp_machine.specs.declared.map.Settle.{Settle}
use Rattle.hp_machine.specs.declared.map.Enter.{Enter}
use Rattle.hp_machine.specs.declared.map.Leave.{Leave}
use Rattle.hp_machine.specs.declared.map.MapPhase.{MapPhase}
use Rattle.hp_machine.specs.declared.map.MapPhase.TheVariants as at
use Rattle.hp_machine.specs.declared.call.Turn.{Turn}

-- range check. Killed: Killed. File lock held: blocked. Else it is taken, to room
abbrev pub MapStartRow : Pool → (task : ℕ) → (killed : Bool) → Start → Turn MapPhase → Pool → Type 0
MapStartRow s t killed p turn new =
    StartRow s t killed p.map.file (is_bad_range s p.map.from p.map.len) answer.Killed (at.Start p)
    (at.Room (record { map = p.map })) turn new

-- no base: to leave (NoAddress). Denied: to leave (NoMemory). Else to missing, or to enter where nothing is reserved
abbrev pub MapRoomRow : Pool → (task : ℕ) → (grant : Bool) → Room → Turn MapPhase → Pool → Type 0
MapRoomRow s t grant p turn new =
    (found : Option ℕ) × IsRoom s.geometry.space (s.mappings t) p.map.len found
    × MatchOption found
    (Goes (at.Leave (record { map = p.map; answer = answer.NoAddress })) s turn new)
    (λ base. MatchBool grant
    (MatchBool p.map.reserve
    (Goes (at.Missing (record { map = p.map; base = base })) (record s { ready = put s.ready t true }) turn new)
    (Goes (at.Enter (record { map = p.map; base = base })) (record s { ready = put s.ready t true }) turn new))
    (Goes (at.Leave (record { map = p.map; answer = answer.NoMemory })) s turn new))

-- change of the whole range denied: to leave (NoMemory). Else to changed
abbrev pub MapMissingRow : Pool → (grant : Bool) → Missing → Turn MapPhase → Pool → Type 0
MapMissingRow s grant p turn new =
    ChangeRow s grant p.map.file p.map.from (p.map.from + p.map.len)
    (at.Leave (record { map = p.map; answer = answer.NoMemory }))
    (λ change. at.Changed (record { map = p.map; base = p.base; pending = change })) turn new

-- killed: to abort (Killed). The quota has less left than what is missing: to abort (NoQuota). Fewer free frames
-- than resv and what is missing: to abort (NoFrame). Else resv and used grow by what is missing, to accounted
abbrev pub MapChangedRow : Pool → (killed : Bool) → Changed → Turn MapPhase → Pool → Type 0
MapChangedRow s killed p turn new =
    MatchBool killed
    (Goes (at.Abort (record { map = p.map; pending = p.pending; answer = answer.Killed })) s turn new)
    (MatchBool (exceeds_quota s p.pending.missing)
    (Goes (at.Abort (record { map = p.map; pending = p.pending; answer = answer.NoQuota })) s turn new)
    (MatchBool (nat_lt (frees s - s.resv) p.pending.missing)
    (Goes (at.Abort (record { map = p.map; pending = p.pending; answer = answer.NoFrame })) s turn new)
    (Goes (at.Accounted (record { map = p.map; base = p.base; pending = p.pending }))
    (record s { resv = s.resv + p.pending.missing; used = s.used + p.pending.missing }) turn new)))

-- the change is aborted, to leave
abbrev pub MapAbortRow : Pool → Abort → Turn MapPhase → Pool → Type 0
MapAbortRow s p turn new = Goes (at.Leave (record { map = p.map; answer = p.answer })) (aborted s p.map.file) turn new

-- commit; added less than missing: to settle. Else to enter
abbrev pub MapAccountedRow : Pool → Accounted → Turn MapPhase → Pool → Type 0
MapAccountedRow s p turn new =
    let added = missing (s.reserved p.map.file) p.pending.from p.pending.to in
    MatchBool (nat_lt added p.pending.missing)
    (Goes (at.Settle (record { map = p.map; base = p.base; excess = p.pending.missing - added }))
    (committed s p.map.file p.pending) turn new)
    (Goes (at.Enter (record { map = p.map; base = p.base })) (committed s p.map.file p.pending) turn new)

-- resv and used minus what was accounted for and not added, to enter
abbrev pub MapSettleRow : Pool → Settle → Turn MapPhase → Pool → Type 0
MapSettleRow s p turn new =
    (p.excess ≤ s.resv) × (p.excess ≤ s.used)
    × Goes (at.Enter (record { map = p.map; base = p.base }))
    (record s { resv = s.resv - p.excess; used = s.used - p.excess }) turn new

-- the mapping is entered, size becomes the larger of size and from + len, to leave (Mapped)
abbrev pub MapEnterRow : Pool → (task : ℕ) → Enter → Turn MapPhase → Pool → Type 0
MapEnterRow s t p turn new =
    Goes (at.Leave (record { map = p.map; answer = answer.Mapped p.base }))
    (record s {
      mappings =
          put s.mappings t (entered (s.mappings t)
          (record { base = p.base; file = p.map.file; from = p.map.from; len = p.map.len }));
      ready = put s.ready t false;
      size = put s.size p.map.file (max (s.size p.map.file) (p.map.from + p.map.len));
    }) turn new

-- the file lock is left
abbrev pub MapLeaveRow : Pool → Leave → Turn MapPhase → Pool → Type 0
MapLeaveRow s p turn new = Ends p.answer (unlocked s p.map.file) turn new

-- what one step of a map may do
abbrev pub MapRow : Pool → (task : ℕ) → (killed grant : Bool) → MapPhase → Turn MapPhase → Pool → Type 0
MapRow s t killed grant (at.Start p) turn new = MapStartRow s t killed p turn new
MapRow s t killed grant (at.Room p) turn new = MapRoomRow s t grant p turn new
MapRow s t killed grant (at.Missing p) turn new = MapMissingRow s grant p turn new
MapRow s t killed grant (at.Changed p) turn new = MapChangedRow s killed p turn new
MapRow s t killed grant (at.Abort p) turn new = MapAbortRow s p turn new
MapRow s t killed grant (at.Accounted p) turn new = MapAccountedRow s p turn new
MapRow s t killed grant (at.Settle p) turn new = MapSettleRow s p turn new
MapRow s t killed grant (at.Enter p) turn new = MapEnterRow s t p turn new
MapRow s t killed grant (at.Leave p) turn new = MapLeaveRow s p turn new
