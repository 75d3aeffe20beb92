-- What each row of an unmap and of an exit did.
use Rattle.std.proofs.Common.{◌≡◌, ℕ, ◌+◌, refl, ap, ◌∙◌, length, arith}
use Rattle.std.specs.Prelude.{Bool, true, false, ◌==◌, ◌||◌, List, [], ◌∷◌, Some, if◌then◌else◌}
use Rattle.hp_base.specs.Numbers.{put}
use Rattle.hp_base.specs.Mappings.{is_base, without, first_base}
use Rattle.hp_base.specs.declared.answer.Answer.TheVariants as answer
use Rattle.hp_base.specs.declared.mapping.Mapping.{Mapping}
use Rattle.hp_base.proofs.Puts.{put_same}
use Rattle.hp_base.proofs.Spaces.{first_is_base}
use Rattle.hp_machine.specs.UnmapRows.{UnmapRow}
use Rattle.hp_machine.specs.ExitRows.{ExitRow}
use Rattle.hp_machine.specs.declared.unmap.UnmapPhase.{UnmapPhase}
use Rattle.hp_machine.specs.declared.unmap.UnmapPhase.TheVariants as unmap
use Rattle.hp_machine.specs.declared.exit.ExitPhase.{ExitPhase}
use Rattle.hp_machine.specs.declared.exit.ExitPhase.TheVariants as exit
use Rattle.hp_machine.specs.declared.call.Call.TheVariants as call
use Rattle.hp_machine.specs.declared.call.Turn.{Turn}
use Rattle.hp_machine.specs.State.{Pool, State, pool_of}
use Rattle.hp_laws.proofs.Invariant.{Inv}
use Rattle.hp_laws.proofs.Tables.{emptied}
use Rattle.hp_laws.proofs.Writes.{Nothing, Empties, Drops}
use Rattle.hp_laws.proofs.Did.{Did, went, over, ends_fits}
use Rattle.hp_laws.proofs.Shared.{by_test, by_option, stands_at}

-- a mapping fewer
fewer : (ms : List Mapping) (base : ℕ) → is_base ms base ≡ true → length (without ms base) + 1 ≡ length ms
fewer [] base e = (let d : false ≡ true = e in absurd (cc))
fewer (m ∷ ms) base e = here (m.base == base) (λ d. fewer ms base d) e
  where
    here : (b : Bool) → (is_base ms base ≡ true → length (without ms base) + 1 ≡ length ms) → (b || is_base ms base) ≡ true
        → length (if b then ms else m ∷ without ms base) + 1 ≡ length (m ∷ ms)
    here true rest d = omega arith
    here false rest d = let z = rest d in omega arith

-- where a mapping is taken away, the task has one fewer
fewer_at : (s : State) (t base : ℕ) → is_base (s.mappings t) base ≡ true
    → length (put s.mappings t (without (s.mappings t) base) t) + 1 ≡ length (s.mappings t)
fewer_at s t base e =
    ap (λ (m : List Mapping). length m + 1) (put_same s.mappings t (without (s.mappings t) base)) ∙ fewer (s.mappings t) base e

-- each row of an unmap wrote what fits and went on or ended
pub unmap_did : (s : State) (t : ℕ) (killed grant : Bool) (phase : UnmapPhase) (turn : Turn UnmapPhase) (new : Pool)
    → Inv s.geometry s → s.calls t ≡ Some (call.Unmap phase) → UnmapRow (pool_of s) t killed grant phase turn new
    → Did call.Unmap s t phase turn new
unmap_did s t killed grant (unmap.Start p) turn new h e row =
    by_test (is_base (s.mappings t) p.base) row
    (λ there r. went call.Unmap s t (unmap.Start p) _ turn new Nothing r (λ _ _. omega arith)
    (record { same = refl; fill = tt; own = record { slot = tt; lock = tt; facts = record { base = there } } }))
    (λ _ r. over call.Unmap s t (unmap.Start p) _ turn new Nothing r (λ _ _. omega arith)
    (ends_fits s t (Some (call.Unmap (unmap.Start p))) refl))
unmap_did s t killed grant (unmap.Clear p) turn new h e row =
    went call.Unmap s t (unmap.Clear p) _ turn new (Empties p.base) row (λ _ _. omega arith) (record {
      same = refl;
      fill = tt;
      own = record {
        slot = tt;
        lock = tt;
        facts = record { base = (stands_at s t _ h e).facts.base; empty = λ v x d. (emptied s t p.base t v x d).1 refl };
      };
    })
unmap_did s t killed grant (unmap.Drop p) turn new h e row =
    over call.Unmap s t (unmap.Drop p) answer.Done turn new (Drops p.base) row (λ _ _. omega arith)
    (record { clear = (stands_at s t _ h e).facts.empty; same = refl; fill = tt; own = record { slot = tt; lock = tt; facts = tt } })

-- and each row of an exit
pub exit_did : (s : State) (t : ℕ) (killed grant : Bool) (phase : ExitPhase) (turn : Turn ExitPhase) (new : Pool)
    → Inv s.geometry s → s.calls t ≡ Some (call.Exit phase) → ExitRow (pool_of s) t killed grant phase turn new
    → Did call.Exit s t phase turn new
exit_did s t killed grant exit.Start turn new h e row =
    by_option (first_base (s.mappings t)) row
    (λ _ r. went call.Exit s t exit.Start _ turn new Nothing r (λ _ _. omega arith)
    (record { same = refl; fill = tt; own = record { slot = tt; lock = tt; facts = tt } }))
    (λ base some r. went call.Exit s t exit.Start _ turn new Nothing r (λ _ _. omega arith) (record {
      same = refl;
      fill = tt;
      own = record { slot = tt; lock = tt; facts = record { base = first_is_base (s.mappings t) base some } };
    }))
exit_did s t killed grant (exit.Clear p) turn new h e row =
    went call.Exit s t (exit.Clear p) _ turn new (Empties p.base) row (λ _ _. omega arith) (record {
      same = refl;
      fill = tt;
      own = record {
        slot = tt;
        lock = tt;
        facts = record { base = (stands_at s t _ h e).facts.base; empty = λ v x d. (emptied s t p.base t v x d).1 refl };
      };
    })
exit_did s t killed grant (exit.Drop p) turn new h e row =
    let y = stands_at s t _ h e in
    let z = fewer_at s t p.base y.facts.base in
    by_option (first_base (without (s.mappings t) p.base)) row
    (λ _ r. went call.Exit s t (exit.Drop p) _ turn new (Drops p.base) r (λ _ _. omega arith)
    (record { clear = y.facts.empty; same = refl; fill = tt; own = record { slot = tt; lock = tt; facts = tt } }))
    (λ base some r. went call.Exit s t (exit.Drop p) _ turn new (Drops p.base) r (λ _ _. omega arith) (record {
      clear = y.facts.empty;
      same = refl;
      fill = tt;
      own = record {
        slot = tt;
        lock = tt;
        facts = record {
          base = ap (λ (m : List Mapping). is_base m base) (put_same s.mappings t (without (s.mappings t) p.base))
              ∙ first_is_base (without (s.mappings t) p.base) base some;
        };
      };
    }))
exit_did s t killed grant exit.Leave turn new h e row =
    over call.Exit s t exit.Leave answer.Done turn new Nothing row (λ _ _. omega arith)
    (ends_fits s t (Some (call.Exit exit.Leave)) refl)
