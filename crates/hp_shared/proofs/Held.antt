-- Whether a task is held up.
use Rattle.std.proofs.Common.{◌≡◌, ℕ, ◌≤◌, Bool, false, Option, Some, None, is_some, sym, subst, MatchBool}
use Rattle.hp_core.specs.Readers.{config_of}
use Rattle.hp_core.specs.State.{CoreState}
use Rattle.hp_core.specs.Waiting.{WaitsFor}

-- by the holder that is told, or by nobody
pub held_up : (s : CoreState) (t : ℕ) (w : Option ℕ) (b : Bool) → b ≡ is_some w → WaitsFor s t w
    → MatchBool b ((holder : ℕ) × WaitsFor s t (Some holder)) (1 ≤ t → t ≤ (config_of s).tasks → WaitsFor s t None)
held_up s t None b is waits =
    subst (λ (x : Bool). MatchBool x ((holder : ℕ) × WaitsFor s t (Some holder))
    (1 ≤ t → t ≤ (config_of s).tasks → WaitsFor s t None)) (sym is) (λ low high. waits)
held_up s t (Some holder) b is waits =
    subst (λ (x : Bool). MatchBool x ((h : ℕ) × WaitsFor s t (Some h))
    (1 ≤ t → t ≤ (config_of s).tasks → WaitsFor s t None)) (sym is) (holder, waits)

-- and where there is none, nobody holds it up
pub held_by_none : (core : CoreState) (task : ℕ) (holder : Option ℕ) (held : Bool) → held ≡ is_some holder → WaitsFor core task holder
    → held ≡ false → WaitsFor core task None
held_by_none core task None held is waits free = waits
held_by_none core task (Some holder) held is waits free = absurd cc
