-- Calls, named as a trace names them.
use Rattle.std.specs.Prelude.{ℕ, true, false, List, codes}
use Rattle.hp_base.specs.declared.event.Op.{Op}
use Rattle.hp_base.specs.declared.event.Op.TheVariants as op
use Rattle.hp_watch.specs.declared.call_word.CallWord.{CallWord}
use Rattle.hp_watch.specs.declared.call_word.CallWord.TheVariants as call

-- the call of an operation
abbrev pub word_of : Op → CallWord
word_of (op.Map file from len) = call.Map
word_of (op.MapNoReserve file from len) = call.MapNoReserve
word_of (op.Unmap base) = call.Unmap
word_of (op.Load vpn) = call.Load
word_of (op.Store vpn word) = call.Store
word_of (op.Alloc file from len false) = call.Alloc
word_of (op.Alloc file from len true) = call.AllocKeep
word_of (op.Punch file from len) = call.Punch
word_of (op.Truncate file new) = call.Truncate
word_of op.Exit = call.Exit

-- the first word of its operation in a trace
abbrev pub word_text : CallWord → List ℕ
word_text call.Nothing = codes "nothing"
word_text call.Map = codes "map"
word_text call.MapNoReserve = codes "mapn"
word_text call.Unmap = codes "unmap"
word_text call.Load = codes "load"
word_text call.Store = codes "store"
word_text call.Alloc = codes "alloc"
word_text call.AllocKeep = codes "allock"
word_text call.Punch = codes "punch"
word_text call.Truncate = codes "trunc"
word_text call.Exit = codes "exit"
