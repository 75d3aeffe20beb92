-- A stream that notes why the system refused a call.
use Rattle.hp_program.specs.declared.noted.Noted.{Noted}

-- the stream whose errors are noted
abbrev pub noted_stream : {S : Type 0} → Noted S → S
noted_stream noted = noted.stream
