-- Where no task has a call in flight none is counted, so that the core can be copied.
use Rattle.std.proofs.Common.{◌≡◌, ℕ, ◌≤◌, Bool, true, false, Option, IsSome, is_some, List, refl, sym, ap, ◌∙◌}
use Rattle.std.proofs.Common.{arith}
use Rattle.std.specs.Prelude.{◌||◌}
use Rattle.std.specs.Option.{option_map}
use Rattle.hp_machine.specs.Events.{word_of}
use Rattle.hp_machine.specs.State as machine
use Rattle.hp_machine.specs.declared.call.Call.{Call}
use Rattle.hp_laws.specs.Laws.{CallersLive}
use Rattle.hp_core.specs.Readers.{calls_of, config_of, phase_of}
use Rattle.hp_core.specs.Runs.{IsOfConfig}
use Rattle.hp_core.specs.State.{CoreState, as_state}
use Rattle.hp_core.proofs.InFlight.{none_counts, some_of}
use Rattle.hp_shared.specs.Cutting.{NoneInFlight, is_seat_in_call}
use Rattle.hp_shared.specs.States.{SeatState}

-- neither of two
neither : (a b : Bool) → (a || b) ≡ false → a ≡ false
neither false b e = refl
neither true b e = e

pub no_calls : (core : CoreState) (seats : List SeatState) → IsOfConfig core → CallersLive (as_state core)
    → NoneInFlight core seats (config_of core).tasks → calls_of core ≡ 0
unfolding phase_of config_of
no_calls core seats config live none = none_counts core each
  where
    each : (t : ℕ) → IsSome ((as_state core).calls t) → ⊥
    each t there =
        let call = some_of ((as_state core).calls t) there in
        let lives = live t call.0 call.1 in
        let tasks : (as_state core).geometry.tasks ≡ core.sizes.tasks = ap (λ (g : machine.Geometry). g.tasks) config.0 in
        let within : t ≤ core.sizes.tasks = omega (arith, tasks, lives.1) in
        let idle : is_some (option_map word_of ((as_state core).calls t)) ≡ false =
        neither _ (is_seat_in_call t seats) (none t lives.0 within) in
        let busy : is_some (option_map word_of ((as_state core).calls t)) ≡ true =
        ap (λ (o : Option Call). is_some (option_map word_of o)) call.1 in
        let no : ◌≡◌ {A = Bool} false true = sym idle ∙ busy in
        absurd (cc)
