-- What a seat counts of its list, with one entry more.
use Rattle.std.proofs.Common.{◌≡◌, ◌+◌, List, [], ◌∷◌, ◌++◌, Bool, cond, count_by, refl, arith}
use Rattle.std.proofs.lemmas.List.Sums.{sum_by-cons}
use Rattle.hp_machine.specs.declared.phase.Phase.{Phase}
use Rattle.hp_shared.specs.declared.entry.Entry.{Entry}
use Rattle.hp_shared.specs.Calls.{phase_after, phase_from}

pub count_more : (f : Entry → Bool) (es : List Entry) (e : Entry) → count_by f (es ++ e ∷ []) ≡ count_by f es + cond (f e) 1 0
count_more f [] e = (let one = sum_by-cons (λ (x : Entry). cond (f x) 1 0) e [] in omega (arith, one))
count_more f (x ∷ es) e =
    let first = sum_by-cons (λ (y : Entry). cond (f y) 1 0) x es in
    let all = sum_by-cons (λ (y : Entry). cond (f y) 1 0) x (es ++ e ∷ []) in
    omega (arith, first, all, count_more f es e)

pub phase_more : (phase : Phase) (es : List Entry) (e : Entry)
    → phase_from phase (es ++ e ∷ []) ≡ phase_after (phase_from phase es) e.event e.outcome
phase_more phase [] e = refl
phase_more phase (x ∷ es) e = phase_more (phase_after phase x.event x.outcome) es e
