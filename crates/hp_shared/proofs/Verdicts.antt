-- A journal and lists have one verdict.
use Rattle.std.proofs.Common.{◌≡◌, ℕ, zero, suc, ◌+◌, List, [], ◌∷◌, take, drop, sym, ◌∙◌, subst, arith}
use Rattle.hp_shared.specs.declared.entry.Entry.{Entry}
use Rattle.hp_shared.specs.Journal.{Uses, Interleaves, FirstFailsAt, FailsNow, AllUsed, without_next}

-- after the first k places the rest is used as all of it would be
split : (p k : ℕ) (journal : List Entry) (ls mid rest : List (List Entry)) → Uses p (take k journal) ls mid
    → Uses p journal ls rest → Uses (p + k) (drop k journal) mid rest
split p zero journal ls mid rest a b =
    let P : List (List Entry) → Type 0 = λ x. Uses p journal x rest in
    let Q : ℕ → Type 0 = λ q. Uses q journal mid rest in
    let h : p ≡ p + 0 = omega arith in
    subst Q h (subst P a b)
split p (suc k) [] ls mid rest a b = sym a ∙ b
split p (suc k) (e ∷ es) ls mid rest a b =
    let same : b.1.0 ≡ a.1.0 = a.1.1.2 b.1.0 b.1.1.0 b.1.1.1 in
    let P : ℕ → Type 0 = λ i. Uses (p + 1) es (without_next ls i) rest in
    let Q : ℕ → Type 0 = λ q. Uses q (drop k es) mid rest in
    let h : p + 1 + k ≡ p + suc k = omega arith in
    subst Q h (split (p + 1) k es (without_next ls a.1.0) mid rest a.1.2 (subst P same b.1.2))

fails_here : (q : ℕ) (es : List Entry) (mid rest : List (List Entry)) → Uses q es mid rest → AllUsed rest → FailsNow q es mid → ⊥
fails_here q [] mid rest uses all fails = let P : List (List Entry) → Type 0 = λ x. AllUsed x in fails (subst P (sym uses) all)
fails_here q (e ∷ es) mid rest uses all fails = fails uses.0 uses.1.0 uses.1.1

-- an interleaving fails nowhere
pub one_verdict : (p : ℕ) (journal : List Entry) (ls : List (List Entry)) (n : ℕ) → Interleaves p journal ls
    → FirstFailsAt p journal ls n → ⊥
one_verdict p journal ls n good bad =
    let P : ℕ → Type 0 = λ q. FailsNow q (drop bad.0 journal) bad.3.0 in
    fails_here (p + bad.0) (drop bad.0 journal) bad.3.0 good.0 (split p bad.0 journal ls bad.3.0 good.0 bad.3.1 good.1) good.2
    (subst P bad.1 bad.3.2)
