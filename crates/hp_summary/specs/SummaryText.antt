-- The one spelling of a summary: a line for each fact, whose first word says which kind of fact it is.
use Rattle.std.specs.Prelude.{◌+◌, ◌-◌, ◌%◌, ◌^◌, ◌&&◌, ◌++◌, ◌∷◌, [], ℕ, List, codes, length, nat_le, nat_lt, if◌then◌else◌, slice_index_or}
use Rattle.std.specs.Fmt.{decimal}
use Rattle.std.specs.List.{flat_map, range_with_len}
use Rattle.hp_base.specs.Text.{answer_text}
use Rattle.hp_machine.specs.Text.{phase_word}
use Rattle.hp_machine.specs.declared.phase.Phase.{Phase}
use Rattle.hp_phases.specs.Phases.{all_phases, place_of}
use Rattle.hp_watch.specs.CallWords.{word_text}
use Rattle.hp_summary.specs.Phases.{pair_place}
use Rattle.hp_watch.specs.declared.calls.EndedCall.{EndedCall}
use Rattle.hp_summary.specs.declared.summary.Summary.{Summary}
use Rattle.hp_summary.specs.declared.tally.Ending.{Ending}

-- `runs N finished F limit L`
abbrev pub runs_line : Summary → List ℕ
runs_line s =
    codes "runs " ++ (decimal s.runs ++ (codes " finished " ++ (decimal s.finished
    ++ (codes " limit " ++ (decimal (s.runs - s.finished) ++ 10 ∷ [])))))

-- `turns least A median B most C`
abbrev pub turns_line : Summary → List ℕ
turns_line s =
    codes "turns least " ++ (decimal s.least ++ (codes " median " ++ (decimal s.median
    ++ (codes " most " ++ (decimal s.most ++ 10 ∷ [])))))

-- `held-up any N`: in so many runs some task was held up
abbrev pub any_line : Summary → List ℕ
any_line s = codes "held-up any " ++ (decimal s.some_held ++ 10 ∷ [])

-- `held-up T N`: in so many runs task T was
abbrev pub held_line : List ℕ → (place : ℕ) → List ℕ
held_line held k = codes "held-up " ++ (decimal (k + 1) ++ (codes " " ++ (decimal (slice_index_or held k 0) ++ 10 ∷ [])))

abbrev pub held_text : List ℕ → List ℕ
held_text held = flat_map (held_line held) (range_with_len 0 (length held))

-- `met P Q N`: in so many runs the two phases met. A pair stands once, and only where it met.
abbrev pub met_line : List ℕ → Phase → Phase → List ℕ
met_line met p q =
    if nat_le (place_of p) (place_of q) && nat_lt 0 (slice_index_or met (pair_place p q) 0)
    then codes "met " ++ (phase_word p ++ (codes " " ++ (phase_word q ++ (codes " "
    ++ (decimal (slice_index_or met (pair_place p q) 0) ++ 10 ∷ []))))) else []

abbrev pub met_text : List ℕ → List ℕ
met_text met = flat_map (λ p. flat_map (met_line met p) all_phases) all_phases

-- ` | T CALL ANSWER`: a call of task T that ended
abbrev pub call_text : EndedCall → List ℕ
call_text e = codes " | " ++ (decimal e.task ++ (codes " " ++ (word_text e.call ++ (codes " " ++ answer_text e.answer))))

-- `ending N run K seed S | T CALL ANSWER ..`: so many runs ended in this way, and run K, which has that seed, was the first
abbrev pub ending_line : (seed : ℕ) → Ending → List ℕ
ending_line seed e =
    codes "ending " ++ (decimal e.runs ++ (codes " run " ++ (decimal e.first ++ (codes " seed " ++ (decimal ((seed + e.first) % 2 ^ 64)
    ++ (flat_map call_text e.ended.items ++ 10 ∷ []))))))

-- `ending N other`: so many ended in other ways, where any did
abbrev pub other_line : (other : ℕ) → List ℕ
other_line other = if nat_lt 0 other then codes "ending " ++ (decimal other ++ (codes " other" ++ 10 ∷ [])) else []

abbrev pub summary_text : (seed : ℕ) → Summary → List ℕ
summary_text seed s =
    runs_line s ++ (turns_line s ++ (any_line s ++ (held_text s.held.items ++ (met_text s.met.items
    ++ (flat_map (ending_line seed) s.endings.items ++ other_line s.other)))))
