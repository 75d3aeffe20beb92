-- Each step of an unmap and of an exit as entries.
use Rattle.std.proofs.Common.{◌≡◌, ℕ, ◌+◌, refl, ap, sym, subst, arith, inl}
use Rattle.std.specs.Prelude.{Bool, Option, Some, None, List, [], ◌∷◌}
use Rattle.hp_base.specs.Mappings.{is_base, first_base, in_mapping, without, without_mapping}
use Rattle.hp_base.specs.Numbers.{put}
use Rattle.hp_base.specs.declared.answer.Answer.TheVariants as answer
use Rattle.hp_base.specs.declared.mapping.Mapping.{Mapping}
use Rattle.hp_base.proofs.Puts.{put_same, put_other}
use Rattle.hp_machine.specs.State.{Pool, pool_of}
use Rattle.hp_machine.specs.Events.{left}
use Rattle.hp_machine.specs.ExitRows.{ExitRow}
use Rattle.hp_machine.specs.Headline.{all_behind, all_ahead}
use Rattle.hp_machine.specs.Parts.{cleared}
use Rattle.hp_machine.specs.UnmapRows.{UnmapRow}
use Rattle.hp_machine.specs.declared.unmap.UnmapPhase.{UnmapPhase}
use Rattle.hp_machine.specs.declared.unmap.UnmapPhase.TheVariants as unmap
use Rattle.hp_machine.specs.declared.exit.ExitPhase.{ExitPhase}
use Rattle.hp_machine.specs.declared.exit.ExitPhase.TheVariants as exit
use Rattle.hp_machine.specs.declared.call.Call.{Call}
use Rattle.hp_machine.specs.declared.call.Call.TheVariants as call
use Rattle.hp_machine.specs.declared.call.Turn.{Turn}
use Rattle.hp_laws.proofs.Invariant.{AllWithin}
use Rattle.hp_laws.proofs.Shared.{by_test, by_option}
use Rattle.hp_laws.proofs.Tables.{emptied, within_without}
use Rattle.hp_accounts.specs.Entries.{ClearsSome, LeavesArea}
use Rattle.hp_linux_laws.proofs.Standing.{Stands, Emptied}
use Rattle.hp_linux_laws.proofs.Stepping.{From, Booked, same_hands, seen, quiet, went, over}

-- the mapping's translations are cleared
clears_area : (c : Call) (k : From c) (base : ℕ) (next : Call) → seen (Some next) ≡ seen (Some c)
    → ((es : ℕ → Option ℕ) → Emptied (k.state.mappings k.task) es base
    → Stands k.state.geometry k.careful (k.state.mappings k.task) es (k.marks k.task) (Some next))
    → Booked c k (cleared (pool_of k.state) k.task base) (Some next)
unfolding without_mapping
clears_area c k base next same known = record {
  es = ClearsSome k.task (in_mapping (k.state.mappings k.task) base) ∷ [];
  may = (tt, tt);
  careful = λ e. (tt, tt);
  exact = λ e. refl;
  tables = refl;
  hands = inl (same_hands c k (Some next) (ap (λ p. p.0) same));
  owed = ap (λ (n : ℕ). all_behind k.state + n) (sym (ap (λ p. p.1) same));
  promised = ap (λ (n : ℕ). all_ahead k.state + n) (sym (ap (λ p. p.2) same));
  marks = λ u d. refl;
  count = omega arith;
  stands = known _ (λ v x e. (emptied k.state k.task base k.task v x e).1 refl);
  others = λ u d. (refl, λ v x e. (emptied k.state k.task base u v x e).0);
  ranges = k.ranges;
  fits = k.fits;
}

-- the mapping goes
drops_area : (c : Call) (k : From c) (base : ℕ) (next : Option Call) → seen next ≡ seen (Some c)
    → Emptied (k.state.mappings k.task) (k.state.entries k.task) base
    → ((ms : List Mapping) → Stands k.state.geometry k.careful ms (k.state.entries k.task) (k.marks k.task) next)
    → Booked c k (record (pool_of k.state) { mappings = put k.state.mappings k.task (without (k.state.mappings k.task) base) }) next
drops_area c k base next same clear known = record {
  es = LeavesArea k.task base ∷ [];
  may = (clear, tt);
  careful = λ e. (tt, tt);
  exact = λ e. refl;
  tables = refl;
  hands = inl (same_hands c k next (ap (λ p. p.0) same));
  owed = ap (λ (n : ℕ). all_behind k.state + n) (sym (ap (λ p. p.1) same));
  promised = ap (λ (n : ℕ). all_ahead k.state + n) (sym (ap (λ p. p.2) same));
  marks = λ u d. refl;
  count = omega arith;
  stands = known _;
  others = λ u d. (put_other k.state.mappings k.task (without (k.state.mappings k.task) base) u d, λ v x e. e);
  ranges = subst (AllWithin k.state.geometry) (sym (put_same k.state.mappings k.task (without (k.state.mappings k.task) base)))
      (within_without k.state.geometry (k.state.mappings k.task) base k.ranges);
  fits = k.fits;
}

pub unmap_steps : (phase : UnmapPhase) (k : From (call.Unmap phase)) (killed grant : Bool) (turn : Turn UnmapPhase) (new : Pool)
    → UnmapRow (pool_of k.state) k.task killed grant phase turn new → Booked (call.Unmap phase) k new (left call.Unmap turn)
unmap_steps (unmap.Start p) k killed grant turn new row =
    by_test (is_base (k.state.mappings k.task) p.base) row
    (λ _ r. went call.Unmap _ k _ _ turn new r (quiet _ k _ _ refl refl refl k.stands k.fits))
    (λ _ r. over call.Unmap _ k _ _ turn new r (quiet _ k _ None refl refl refl k.stands k.fits))
unmap_steps (unmap.Clear p) k killed grant turn new r =
    went call.Unmap _ k _ _ turn new r (clears_area _ k p.base _ refl (λ es e. (k.stands, e)))
unmap_steps (unmap.Drop p) k killed grant turn new r =
    over call.Unmap _ k answer.Done _ turn new r (drops_area _ k p.base None refl k.stands.1 (λ ms. k.stands.0))

pub exit_steps : (phase : ExitPhase) (k : From (call.Exit phase)) (killed grant : Bool) (turn : Turn ExitPhase) (new : Pool)
    → ExitRow (pool_of k.state) k.task killed grant phase turn new → Booked (call.Exit phase) k new (left call.Exit turn)
exit_steps exit.Start k killed grant turn new row =
    by_option (first_base (k.state.mappings k.task)) row
    (λ _ r. went call.Exit _ k _ _ turn new r (quiet _ k _ _ refl refl refl k.stands k.fits))
    (λ base _ r. went call.Exit _ k _ _ turn new r (quiet _ k _ _ refl refl refl k.stands k.fits))
exit_steps (exit.Clear p) k killed grant turn new r =
    went call.Exit _ k _ _ turn new r (clears_area _ k p.base _ refl (λ es e. (k.stands, e)))
exit_steps (exit.Drop p) k killed grant turn new row =
    by_option (first_base (without (k.state.mappings k.task) p.base)) row
    (λ _ r. went call.Exit _ k _ _ turn new r (drops_area _ k p.base _ refl k.stands.1 (λ ms. k.stands.0)))
    (λ base _ r. went call.Exit _ k _ _ turn new r (drops_area _ k p.base _ refl k.stands.1 (λ ms. k.stands.0)))
exit_steps exit.Leave k killed grant turn new r =
    over call.Exit _ k answer.Done _ turn new r (quiet _ k _ None refl refl refl k.stands k.fits)
