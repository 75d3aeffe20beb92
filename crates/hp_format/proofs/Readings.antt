-- Words of the loose form that are read are spelled so, and what is spelled so is read.
use Rattle.std.proofs.Common.{arith, ◌≡◌, ◌≤◌, ◌++◌, [], ℕ, Bool, true, false, List, Option, Some, None, refl, sym, ap, subst, ◌∙◌, inl, inr}
use Rattle.std.specs.Prelude.{codes, nat_le, if◌then◌else◌}
use Rattle.std.specs.Fmt.{decimal}
use Rattle.std.proofs.lemmas.Bool.{and_from, and_parts, le-leb, leb-true}
use Rattle.hp_base.specs.declared.event.Event.{Event}
use Rattle.hp_base.specs.declared.event.Event.TheVariants.{Begin, Step, Kill, Resize}
use Rattle.hp_text.specs.Fits.{IsShort}
use Rattle.hp_text.specs.Reading.{◌>>=◌, after_word, event_at, last_at, limit, number_at}
use Rattle.hp_text.proofs.Lines.{last_again, last_takes}
use Rattle.hp_text.proofs.Numbers.{bind_some, chosen, number_again, number_takes, word_takes}
use Rattle.hp_text.proofs.Options.{none_some, some_is}
use Rattle.hp_format.specs.Asked.{AreAsked, AreAskedOf, AskedFits, HasNoReading, HaveNoReading, IsAskedOf, IsRepeated, step_verb}
use Rattle.hp_format.specs.Reading.{is_few, repeated_at, times_at, until_at}
use Rattle.hp_format.specs.Tidy.{tidy}
use Rattle.hp_format.specs.declared.asked.Asked.{Asked}
use Rattle.hp_format.specs.declared.asked.Asked.TheVariants.{Nothing, Times, Until}
use Rattle.hp_format.specs.declared.asked.Goal.{Goal}

-- how many times
times_takes : (words : List ℕ) (times : ℕ) → times_at words ≡ Some times
    → (words ≡ codes " *" ++ decimal times) × (1 ≤ times) × (times ≤ 1000000)
unfolding times_at
times_takes words times e =
    let a = bind_some (after_word (codes " *") words) (λ rest. last_at rest >>= λ n. if is_few n then Some n else None) times e in
    let b = bind_some (last_at a.0) (λ n. if is_few n then Some n else None) times a.2 in
    elim (chosen (is_few b.0) (Some b.0) None (Some times) b.2) [
      | inl w ↦
          let few = and_parts (nat_le 1 b.0) (nat_le b.0 1000000) w.0 in
          let number : a.0 ≡ decimal b.0 = (last_takes a.0 b.0 b.1).0 in
          subst (λ (n : ℕ). (words ≡ codes " *" ++ decimal n) × (1 ≤ n) × (n ≤ 1000000)) (some_is _ _ w.1) (
            word_takes (codes " *") words a.0 a.1 ∙ ap (λ (t : List ℕ). codes " *" ++ t) number,
            leb-true 1 b.0 few.0,
            leb-true b.0 1000000 few.1,
          )
      | inr w ↦ absurd (none_some w.1)
    ]

times_again : (times : ℕ) → 1 ≤ times → times ≤ 1000000 → times_at (codes " *" ++ decimal times) ≡ Some times
unfolding times_at
times_again times some few =
    let number : last_at (decimal times) ≡ Some times = last_again times (omega arith) in
    let within : is_few times ≡ true = and_from _ _ (le-leb 1 times some) (le-leb times 1000000 few) in
    rw (number, within) refl

-- steps that are repeated
pub repeated_takes : (granted : Bool) (words behind : List ℕ) (task : ℕ) (rest : List ℕ) (times : ℕ)
    → after_word (step_verb granted) words ≡ Some behind → number_at limit behind ≡ Some (task, rest) → times_at rest ≡ Some times
    → AreAsked words (Times (Step task granted) times)
repeated_takes granted words behind task rest times verb number count =
    let n = number_takes limit behind task rest (omega arith) (omega arith) number in
    let t = times_takes rest times count in
    let all : behind ≡ decimal task ++ (codes " *" ++ decimal times) = n.0 ∙ ap (λ (t : List ℕ). decimal task ++ t) t.0 in
    (word_takes (step_verb granted) words behind verb ∙ ap (λ (t : List ℕ). step_verb granted ++ t) all, t.1, t.2)

repeated_again : (granted : Bool) (task times : ℕ) → IsShort task → 1 ≤ times → times ≤ 1000000
    → repeated_at granted (step_verb granted ++ (decimal task ++ (codes " *" ++ decimal times))) ≡ Some (Times (Step task granted) times)
unfolding repeated_at
repeated_again true task times fits some few =
    let read : number_at limit (decimal task ++ (codes " *" ++ decimal times)) ≡ Some (task, codes " *" ++ decimal times) =
    number_again limit task (codes " *" ++ decimal times) (omega arith) (omega arith) refl in
    let count = times_again times some few in
    rw (read, count) refl
repeated_again false task times fits some few =
    let read : number_at limit (decimal task ++ (codes " *" ++ decimal times)) ≡ Some (task, codes " *" ++ decimal times) =
    number_again limit task (codes " *" ++ decimal times) (omega arith) (omega arith) refl in
    let count = times_again times some few in
    rw (read, count) refl

no_repeat : (granted : Bool) (words : List ℕ) → repeated_at granted words ≡ None → (task times : ℕ) → IsShort task
    → IsRepeated words (Step task granted) times → ⊥
no_repeat granted words none task times fits is =
    none_some (sym none ∙ ap (repeated_at granted) is.0 ∙ repeated_again granted task times fits is.1 is.2)

-- steps until something is reached
pub until_takes : (words : List ℕ) (task : ℕ) (word : List ℕ) → until_at words ≡ Some (task, word)
    → words ≡ codes "step " ++ (decimal task ++ (codes " until " ++ word))
unfolding until_at
until_takes words task word e =
    let a = bind_some (after_word (codes "step ") words)
    (λ rest. number_at limit rest >>= λ task. after_word (codes " until ") task.1 >>= λ word. Some (task.0, word)) (task, word) e in
    let b = bind_some (number_at limit a.0) (λ task. after_word (codes " until ") task.1 >>= λ word. Some (task.0, word)) (task, word) a.2 in
    let d = bind_some (after_word (codes " until ") b.0.1) (λ word. Some (b.0.0, word)) (task, word) b.2 in
    let verb = word_takes (codes "step ") words a.0 a.1 in
    let number = number_takes limit a.0 b.0.0 b.0.1 (omega arith) (omega arith) b.1 in
    let last = word_takes (codes " until ") b.0.1 d.0 d.1 in
    subst (λ (p : ℕ × List ℕ). words ≡ codes "step " ++ (decimal p.0 ++ (codes " until " ++ p.1))) (some_is _ _ d.2)
    (verb ∙ ap (λ (t : List ℕ). codes "step " ++ t) (number.0 ∙ ap (λ (t : List ℕ). decimal b.0.0 ++ t) last))

pub until_again : (task : ℕ) (word : List ℕ) → IsShort task
    → until_at (codes "step " ++ (decimal task ++ (codes " until " ++ word))) ≡ Some (task, word)
unfolding until_at
until_again task word fits =
    let read : number_at limit (decimal task ++ (codes " until " ++ word)) ≡ Some (task, codes " until " ++ word) =
    number_again limit task (codes " until " ++ word) (omega arith) (omega arith) refl in
    rw read refl

-- words that are read as nothing
pub no_words : (words : List ℕ) → (words ≡ [] → ⊥) → repeated_at true words ≡ None → repeated_at false words ≡ None
    → ((task : ℕ) (goal : Goal) → IsShort task → AreAsked words (Until task goal) → ⊥) → HaveNoReading words
no_words words some granted denied until Nothing fits is = some is
no_words words some granted denied until (Times (Begin task op) times) fits is = is
no_words words some granted denied until (Times (Step task true) times) fits is = no_repeat true words granted task times fits is
no_words words some granted denied until (Times (Step task false) times) fits is = no_repeat false words denied task times fits is
no_words words some granted denied until (Times (Kill task) times) fits is = is
no_words words some granted denied until (Times (Resize frames) times) fits is = is
no_words words some granted denied until (Until task goal) fits is = until task goal fits is

-- a line that is no strict event, and whose words are read as nothing
pub no_reading : (line words : List ℕ) → event_at line ≡ None → words ≡ tidy line
    → ((asked : Asked) → AskedFits asked → AreAskedOf (event_at words) words asked → ⊥) → HasNoReading line
no_reading line words strict tidied none asked fits is =
    none asked fits (subst (λ (w : List ℕ). AreAskedOf (event_at w) w asked) (sym tidied)
    (subst (λ (o : Option Event). IsAskedOf o line asked) strict is))
