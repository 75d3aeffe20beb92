-- Which operation of the core a call with byte offsets is, over numbers that don't wrap.
use Rattle.std.specs.Prelude.{◌≡◌, ℕ, ◌+◌, ◌-◌, ◌*◌, ◌/◌, ◌%◌, ◌==◌, ◌||◌, ◌&&◌, ◌∷◌, not, [], Result, Ok, Err}
use Rattle.std.specs.Prelude.{nat_lt, nat_le, if◌then◌else◌, Bool, true, false}
use Rattle.std.specs.Int.RustNames.{bit_and}
use Rattle.hp_base.specs.declared.answer.Answer.{Answer}
use Rattle.hp_base.specs.declared.answer.Answer.TheVariants.{Done, BadRange, Segv, NotMapped}
use Rattle.hp_base.specs.declared.event.Op.{Op}
use Rattle.hp_base.specs.declared.event.Op.TheVariants as op
use Rattle.hp_client.specs.Driving.{Rounds, Stops}
use Rattle.hp_client.specs.declared.fault.ClientFault.{ClientFault}
use Rattle.hp_client.specs.declared.fault.ClientFault.TheVariants.{Unaligned, NotSupported}
use Rattle.hp_client.specs.declared.bytes.Plan.{Plan}
use Rattle.hp_client.specs.declared.bytes.Plan.TheVariants.{Replies, Calls}

-- the bytes of a page
abbrev pub page : ℕ
page = 2097152

-- the most bytes of a file
abbrev pub most_bytes : ℕ
most_bytes = 4096 * 2097152

-- the addresses of a task
abbrev pub most_addresses : ℕ
most_addresses = 16384 * 2097152

-- no part of a page
abbrev pub is_whole : ℕ → Bool
is_whole bytes = (bytes % page) == 0

abbrev pub map_op : (reserve : Bool) → (file from len : ℕ) → Op
map_op true file from len = op.Map file from len
map_op false file from len = op.MapNoReserve file from len

-- a map of whole pages
abbrev pub map_plan : (file offset len : ℕ) → (reserve : Bool) → Result Plan ClientFault
map_plan file offset len reserve =
    if not (is_whole offset && is_whole len)
    then Err Unaligned
    else (if nat_lt most_bytes (offset + len)
    then Ok (Replies BadRange)
    else Ok (Calls (map_op reserve file (offset / page) (len / page))))

-- the end of the mapping that begins at the address
abbrev pub unmap_plan : (address : ℕ) → Result Plan ClientFault
unmap_plan address =
    if not (is_whole address)
    then Err Unaligned
    else (if nat_le most_addresses address
    then Ok (Replies NotMapped)
    else Ok (Calls (op.Unmap (address / page))))

-- a size of whole pages
abbrev pub truncate_plan : (file length : ℕ) → Result Plan ClientFault
truncate_plan file length =
    if not (is_whole length)
    then Err Unaligned
    else (if nat_lt most_bytes length
    then Ok (Replies BadRange)
    else Ok (Calls (op.Truncate file (length / page))))

-- bit 1 of a mode, and bit 2 (Linux: `FALLOC_FL_KEEP_SIZE`, `FALLOC_FL_PUNCH_HOLE`)
abbrev pub keeps_size : (bits : ℕ) → Bool
keeps_size bits = bit_and bits 1 == 1

abbrev pub punches : (bits : ℕ) → Bool
punches bits = bit_and bits 2 == 2

-- a punch of the pages from `from` to below `to`, if there are any
abbrev pub punch_pages : (file from to : ℕ) → Plan
punch_pages file from to = if nat_lt from to then Calls (op.Punch file from (to - from)) else Replies Done

-- an allocation takes every page that the bytes touch, and a punch every page that lies within them
abbrev pub in_pages : (bits file offset end : ℕ) → Plan
in_pages bits file offset end =
    if punches bits
    then punch_pages file ((offset + (page - 1)) / page) (end / page)
    else Calls (op.Alloc file (offset / page) ((end + (page - 1)) / page - offset / page) (keeps_size bits))

-- a mode has no other bits than these two, and doesn't punch without keeping the size
abbrev pub fallocate_plan : (bits file offset len : ℕ) → Result Plan ClientFault
fallocate_plan bits file offset len =
    if not (nat_lt bits 4) || (punches bits && not (keeps_size bits))
    then Err NotSupported
    else (if (len == 0) || nat_lt most_bytes (offset + len)
    then Ok (Replies BadRange)
    else Ok (in_pages bits file offset (offset + len)))

-- a touch of the page that holds the address
abbrev pub touch_plan : (address : ℕ) → (ℕ → Op) → Result Plan ClientFault
touch_plan address touch = Ok (if nat_le most_addresses address then Replies Segv else Calls (touch (address / page)))

-- the call is answered as planned: by itself, and the driver is as it was, or by a round of the one operation
abbrev pub IsAnswered : {D : Type 0} → Rounds D → Result Plan ClientFault → (task : ℕ) → (old : D) → Answer → (new : D) → Type 0
IsAnswered makes (Err fault) task old answer new = ⊥
IsAnswered makes (Ok (Replies reply)) task old answer new = (answer ≡ reply) × (new ≡ old)
IsAnswered makes (Ok (Calls op)) task old answer new = makes old ((task, op) ∷ []) (answer ∷ []) new

-- it isn't, as planned: it is refused, and the driver is as it was, or the round of the one operation stopped
abbrev pub IsUnanswered : {D : Type 0} → Stops D → Result Plan ClientFault → (task : ℕ) → (old : D) → ClientFault → (new : D) → Type 0
IsUnanswered stops (Err why) task old fault new = (fault ≡ why) × (new ≡ old)
IsUnanswered stops (Ok (Replies reply)) task old fault new = ⊥
IsUnanswered stops (Ok (Calls op)) task old fault new = stops fault old ((task, op) ∷ []) new
