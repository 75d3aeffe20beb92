-- How a run begins, goes on, and ends.
use Rattle.std.proofs.Common.{◌≡◌, ℕ, zero, suc, ◌+◌, ◌%◌, ◌^◌, ◌<◌, List, [], ◌∷◌, refl, ap}
use Rattle.std.proofs.Common.{◌∙◌, sym, subst, arith, inl, inr}
use Rattle.std.specs.Prelude.{true, false, Option, None, Some, is_some}
use Rattle.std.proofs.lemmas.Grind.{common_steps}
use Rattle.hp_base.specs.declared.event.Event.{Event}
use Rattle.hp_laws.proofs.Deciding.{never}
use Rattle.hp_explore.specs.declared.line.Finish.{Finish}
use Rattle.hp_explore.specs.declared.line.RunLine.{RunLine}
use Rattle.hp_explore.specs.declared.turned.Turned.{Turned}
use Rattle.hp_text.specs.declared.script.Script.{Script}
use Rattle.hp_explore.specs.Schedule.{Plan, World, IsStart, Turn, AreRunnable, plan_of}
use Rattle.hp_explore.specs.Explored.{IsClean, IsRun, IsExplored, line_of, idle_finish, last_finish, turn_limit}

-- a turn, and a run from there on
pub by_turn : (plan : Plan) (run left more : ℕ) (w v : World) (e : Event) (rest : List Event) (line : RunLine) → more ≡ left + 1
    → Turn plan w e v → IsClean v.core → IsRun plan run left v rest line → IsRun plan run more w (e ∷ rest) line
unfolding IsRun
by_turn plan run left zero w v e rest line is turn clean on = absurd (omega (arith, is))
by_turn plan run left (suc more) w v e rest line is turn clean on =
    inr (e, rest, v, refl, turn, inl (clean, subst (λ (n : ℕ). IsRun plan run n v rest line) (omega (arith, is)) on))

-- no task may take a turn
pub by_idling : (plan : Plan) (run left : ℕ) (w : World) → AreRunnable plan w []
    → IsRun plan run left w [] (line_of run (idle_finish plan w) w)
unfolding IsRun
by_idling plan run zero w idle = ([], idle, refl, refl)
by_idling plan run (suc left) w idle = inl (idle, refl, refl)

-- no turn is left
pub by_limit : (plan : Plan) (run none : ℕ) (w : World) (tasks : List ℕ) → none ≡ 0 → AreRunnable plan w tasks
    → IsRun plan run none w [] (line_of run (last_finish plan w tasks) w)
unfolding IsRun
by_limit plan run zero w tasks is can = (tasks, can, refl, refl)
by_limit plan run (suc none) w tasks is can = absurd (omega (arith, is))

-- a run from the start
pub explored : (script : Script) (seed deny kill run first left : ℕ) (plan : Plan) (w : World) (events : List Event) (line : RunLine)
    → plan ≡ plan_of script deny kill → first ≡ (seed + run) % 2 ^ 64 → left ≡ turn_limit → IsStart script first w
    → IsRun plan run left w events line → IsExplored script seed deny kill run events line
unfolding IsExplored
explored script seed deny kill run first left plan w events line planned seeded all start on = (
  w,
  subst (λ (n : ℕ). IsStart script n w) seeded start,
  subst (λ (p : Plan). IsRun p run turn_limit w events line) planned (subst (λ (n : ℕ). IsRun plan run n w events line) all on),
)

-- a turn's answer: nothing, or what it made
pub none_told : (o : Option Turned) → is_some o ≡ false → o ≡ None
none_told None e = refl
none_told (Some x) e = never (sym e)

pub some_told : (o : Option Turned) → is_some o ≡ true → (x : Turned) × (o ≡ Some x)
some_told None e = never e
some_told (Some x) e = (x, refl)

-- the line of a run that ends where its turn finds nobody
pub idle_line : (plan : Plan) (run : ℕ) (w v : World) (end : Finish) (line : RunLine) → line ≡ line_of run end v
    → end ≡ idle_finish plan v → v ≡ w → line ≡ line_of run (idle_finish plan w) w
idle_line plan run w v end line is ends same =
    is ∙ (ap (λ (f : Finish). line_of run f v) ends ∙ ap (λ (x : World). line_of run (idle_finish plan x) x) same)

-- a seed alone
pub seed_alone : (seed : ℕ) → seed < 2 ^ 64 → seed ≡ (seed + 0) % 2 ^ 64
seed_alone seed fits = grind (arith, common_steps)
