-- What a kernel was recorded to do, and what comes of it, event by event. The files are of `conformance/live/smallest/`.
use Rattle.std.specs.Prelude.{ℕ, true, false, None, List, []}
use Rattle.hp_base.specs.declared.event.Op.TheVariants as op
use Rattle.hp_base.specs.declared.event.Event.{Event}
use Rattle.hp_machine.specs.State.{Geometry}
use Rattle.hp_counterexamples.specs.Runs.{steps, deny, calls}

-- ---- events of recordings

-- a touch misses nothing and is overtaken by a truncation; it takes a reserved frame, and enters the index again
-- (count-lost-at-a-commit.bin)
abbrev pub lost_at_a_commit : List Event
lost_at_a_commit =
    calls 2 (op.MapNoReserve 0 0 1) 0 (calls 1 (op.Map 0 0 1) 7 (calls 1 (op.Load 0) 4 (steps 2 4
    (calls 2 (op.Truncate 0 0) 6 (steps 1 5 (calls 1 (op.Store 0 7) 1 []))))))

-- the same up to where it takes the frame
abbrev pub short_at_a_take : List Event
short_at_a_take =
    calls 2 (op.MapNoReserve 0 0 1) 0 (calls 1 (op.Map 0 0 1) 7 (calls 1 (op.Load 0) 4 (steps 2 4 (calls 2 (op.Truncate 0 0) 6 []))))

-- a touch has entered its index; a truncation takes it out, and the touch places its page; a punch takes the page away,
-- and its raise is refused (count-lost-by-a-refused-raise.bin)
abbrev pub lost_by_a_refused_raise : List Event
lost_by_a_refused_raise =
    calls 2 (op.MapNoReserve 0 0 1) 0 (calls 1 (op.MapNoReserve 0 0 1) 4 (calls 1 (op.Alloc 0 0 1 false) 11
    (calls 1 (op.Punch 0 0 1) 10 (calls 1 (op.Load 0) 6 (steps 2 4 (calls 2 (op.Unmap 0) 3 (calls 2 (op.Truncate 0 0) 6
    (steps 1 3 (calls 1 (op.Store 0 7) 1 (calls 1 (op.Punch 0 0 1) 10 []))))))))))

-- an unreserved touch has entered its index, at which a map finds nothing missing; it is refused memory and takes the
-- index out, and the map enters it again (count-lost-by-a-back-out.bin)
abbrev pub lost_by_a_back_out : List Event
lost_by_a_back_out =
    calls 2 (op.MapNoReserve 0 0 1) 0 (calls 1 (op.MapNoReserve 0 0 1) 4 (calls 1 (op.Load 0) 6 (steps 2 4
    (calls 2 (op.Map 0 0 1) 3 (deny 1 (steps 1 2 (steps 2 4 [])))))))

-- ---- events that are of no recording

-- a page above the size is touched, and nobody else calls
abbrev pub above_the_size : List Event
above_the_size = calls 1 (op.MapNoReserve 0 0 1) 4 (calls 1 (op.Truncate 0 0) 8 (calls 1 (op.Alloc 0 0 1 true) 10 (calls 1 (op.Load 0) 5 [])))

-- two files, one slot
abbrev pub two_files : (tasks limit : ℕ) → Geometry
two_files tasks limit = record { files = 2; slots = 1; tasks = tasks; limit = limit; space = 4; quota = None }

-- the first again, in a pool in which an index of another file is promised; then a touch that nobody promised anything takes
-- the last frame
abbrev pub promise_lost : List Event
promise_lost =
    calls 1 (op.Map 1 0 1) 7 (calls 2 (op.MapNoReserve 0 0 1) 0 (calls 1 (op.Map 0 0 1) 7 (calls 1 (op.Load 1) 4 (steps 2 4
    (calls 2 (op.Truncate 0 0) 6 (steps 1 5 (calls 2 (op.MapNoReserve 1 1 1) 4 (calls 2 (op.Load 1) 9 []))))))))

-- `lost_by_a_back_out` again, but the map goes on first, and answers before the touch is refused memory. (By other events that was
-- recorded, too: promise-taken-back.bin)
abbrev pub promise_made : List Event
promise_made =
    calls 2 (op.MapNoReserve 0 0 1) 0 (calls 1 (op.MapNoReserve 0 0 1) 4 (calls 1 (op.Load 0) 6 (steps 2 4 (calls 2 (op.Map 0 0 1) 7 []))))

abbrev pub promise_taken_back : List Event
promise_taken_back = deny 1 (steps 1 2 [])

-- then an allocation in another file takes the last frame, and the map's task touches its page
abbrev pub promise_touched : List Event
promise_touched = calls 1 (op.Alloc 1 0 1 false) 11 (calls 2 (op.Load 1) 7 [])
