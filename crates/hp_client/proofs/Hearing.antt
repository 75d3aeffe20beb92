-- What was heard, call by call.
use Rattle.std.proofs.Common.{◌≡◌, ℕ, ◌+◌, ◌<◌, ◌≤◌, List, [], ◌∷◌, ◌++◌, length, take, get_or, refl, sym, ap, ◌∙◌, arith}
use Rattle.std.proofs.Common.{append_assoc}
use Rattle.std.proofs.lemmas.List.{take_more, take_all, length-take-le}
use Rattle.hp_base.specs.declared.answer.Answer.{Answer}
use Rattle.hp_base.specs.declared.event.Op.{Op}
use Rattle.hp_client.specs.Heard.{heard_of}

heard_more : (calls : List (ℕ × Op)) (answers : List Answer) (call : ℕ × Op) (answer : Answer) → length answers ≡ length calls
    → heard_of (calls ++ call ∷ []) (answers ++ answer ∷ []) ≡ heard_of calls answers ++ (call.0, call.1, answer) ∷ []
heard_more [] [] call answer long = refl
heard_more [] (b ∷ answers) call answer long = absurd (omega (arith, long))
heard_more (c ∷ calls) [] call answer long = absurd (omega (arith, long))
heard_more (c ∷ calls) (b ∷ answers) call answer long = ap (λ (xs : List (ℕ × Op
    × Answer)). (c.0, c.1, b) ∷ xs) (heard_more calls answers call answer (omega (arith, long)))

-- one more call was heard
pub heard_next : (i : ℕ) (calls : List (ℕ × Op)) (answers : List Answer) (call : ℕ
    × Op) (answer : Answer) (start heard more : List (ℕ × Op × Answer)) → i < length calls → length answers ≡ length calls
    → call ≡ get_or calls i call → answer ≡ get_or answers i answer
    → heard ≡ start ++ heard_of (take i calls) (take i answers) → more ≡ heard ++ (call.0, call.1, answer) ∷ []
    → more ≡ start ++ heard_of (take (i + 1) calls) (take (i + 1) answers)
heard_next i calls answers call answer start heard more within long is_call is_answer before longer =
    let c : take (i + 1) calls ≡ take i calls ++ call ∷ [] = take_more calls i call within
    ∙ ap (λ (x : ℕ × Op). take i calls ++ x ∷ []) (sym is_call) in
    let a : take (i + 1) answers ≡ take i answers ++ answer ∷ [] = take_more answers i answer (omega (arith, long, within))
    ∙ ap (λ (x : Answer). take i answers ++ x ∷ []) (sym is_answer) in
    let n : length (take i answers) ≡ length (take i calls) = length-take-le i answers (omega (arith, long, within))
    ∙ sym (length-take-le i calls (omega (arith, within))) in
    longer ∙ ap (λ (xs : List (ℕ × Op × Answer)). xs ++ (call.0, call.1, answer) ∷ []) before
    ∙ append_assoc start (heard_of (take i calls) (take i answers)) ((call.0, call.1, answer) ∷ [])
    ∙ ap (λ (xs : List (ℕ × Op × Answer)). start ++ xs) (sym (heard_more (take i calls) (take i answers) call answer n))
    ∙ ap (λ (xs : List (ℕ × Op)). start ++ heard_of xs (take i answers ++ answer ∷ [])) (sym c)
    ∙ ap (λ (xs : List Answer). start ++ heard_of (take (i + 1) calls) xs) (sym a)

-- all of them were
pub heard_all : (i : ℕ) (calls : List (ℕ × Op)) (answers : List Answer) (start heard : List (ℕ × Op × Answer))
    → length calls ≤ i → length answers ≡ length calls
    → heard ≡ start ++ heard_of (take i calls) (take i answers) → heard ≡ start ++ heard_of calls answers
heard_all i calls answers start heard past long before =
    before ∙ ap (λ (xs : List (ℕ × Op)). start ++ heard_of xs (take i answers)) (take_all i calls past)
    ∙ ap (λ (xs : List Answer). start ++ heard_of calls xs) (take_all i answers (omega (arith, long, past)))
