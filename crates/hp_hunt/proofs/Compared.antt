-- A file that isn't there has nothing.
use Rattle.std.proofs.Common.{◌≡◌, ℕ, ◌<◌, Bool, true, false, refl, sym, subst}
use Rattle.std.specs.Prelude.{Option, None, Some, is_some}
use Rattle.hp_base.proofs.Counting.{count_below_none}
use Rattle.hp_base.specs.declared.limits.TheConstants.{LIMIT}
use Rattle.hp_core.specs.Readers.{config_of, pages_of, reserved_of}
use Rattle.hp_core.specs.Runs.{IsOfConfig}
use Rattle.hp_core.specs.State.{CoreState, as_state}
use Rattle.hp_laws.specs.Protocol.{LiesWithin}
use Rattle.hp_machine.specs.State as machine

-- the file is one of the config's
there : (s : CoreState) (f : ℕ) → IsOfConfig s → f < (as_state s).geometry.files → f < (config_of s).files
unfolding config_of
there s f sized within = subst (λ (g : machine.Geometry). f < g.files) sized.0 within

not_true : (b : Bool) → (b ≡ true → ⊥) → b ≡ false
not_true true bad = absurd (bad refl)
not_true false bad = refl

not_some : (o : Option ℕ) → ((x : ℕ) → o ≡ Some x → ⊥) → is_some o ≡ false
not_some None bad = refl
not_some (Some x) bad = absurd (bad x refl)

pub none_reserved : (s : CoreState) (f : ℕ) → LiesWithin (as_state s) → IsOfConfig s → (f < (config_of s).files → ⊥) → 0 ≡ reserved_of s f
unfolding reserved_of
none_reserved s f lies sized missing =
    sym (count_below_none ((as_state s).reserved f) LIMIT
    (λ i below. not_true ((as_state s).reserved f i) (λ is. missing (there s f sized (lies.reserved f i is).0))))

pub no_pages : (s : CoreState) (f : ℕ) → LiesWithin (as_state s) → IsOfConfig s → (f < (config_of s).files → ⊥) → 0 ≡ pages_of s f
unfolding pages_of
no_pages s f lies sized missing =
    sym (count_below_none (λ i. is_some ((as_state s).pages f i)) LIMIT
    (λ i below. not_some ((as_state s).pages f i) (λ x is. missing (there s f sized (lies.cached f i x is).0))))
