-- The bytes before some point: no whole line yet, or lines of a trace and a rest.
use Rattle.std.proofs.Common.{◌≡◌, ℕ, zero, suc, ◌+◌, ◌<◌, List, ◌++◌, length, Option, Some, None, refl, sym, ap, subst, ◌∙◌}
use Rattle.std.proofs.Common.{arith, append_assoc, length-append}
use Rattle.std.specs.Prelude.{IfSome}
use Rattle.hp_text.specs.Lines.{opening_feed, feed_after, lines_after}
use Rattle.hp_text.specs.Traces.{trace_text}
use Rattle.hp_text.proofs.BadLines.{NoLine}
use Rattle.hp_text.proofs.Whole.{taken, TakenTrace, taken_trace, rest_is}

pub data Front (front back : List ℕ) : Type 0 where
  unbegun : (feed_after opening_feed front).lines ≡ 0 → (feed_after opening_feed front).rest ≡ front → Front front back
  begun : (t : TakenTrace front (lines_after opening_feed front) (feed_after opening_feed front).rest)
      → (feed_after opening_feed front).lines ≡ length t.trace.events + 1
      → front ++ back ≡ trace_text t.trace.sizes t.trace.events ++ ((feed_after opening_feed front).rest ++ back)
      → Front front back

pub front_of : (front back : List ℕ) → (feed_after opening_feed front).fault ≡ None → Front front back
front_of front back ok = by (feed_after opening_feed front).lines refl
  where
    by : (n : ℕ) → (feed_after opening_feed front).lines ≡ n → Front front back
    by zero none =
        let t = taken front ok in
        let lines = t.lines in
        let no_lines : length (lines_after opening_feed front) ≡ 0 = omega arith in
        unbegun none (rest_is (lines_after opening_feed front) (feed_after opening_feed front).rest front no_lines t.text)
    by (suc n) count =
        let t = taken_trace front n ok count in
        let lines = (taken front ok).lines in
        let counted = t.trace.count in
        begun t (omega arith)
        (ap (λ (x : List ℕ). x ++ back) (sym t.text)
        ∙ append_assoc (trace_text t.trace.sizes t.trace.events) (feed_after opening_feed front).rest back)

-- no header stands at the front of the bytes
pub no_header : (front back rest : List ℕ) (n : ℕ) (to : Option (List ℕ)) → n ≡ 0 → rest ≡ front
    → IfSome to (λ left. NoLine n (rest ++ (back ++ left))) → IfSome to (λ left. NoLine 0 ((front ++ back) ++ left))
no_header front back rest n None none is bad = tt
no_header front back rest n (Some left) none is bad =
    subst (λ (x : List ℕ). NoLine 0 x) (ap (λ (x : List ℕ). x ++ (back ++ left)) is ∙ sym (append_assoc front back left))
    (subst (λ (k : ℕ). NoLine k (rest ++ (back ++ left))) none bad)

-- no line stands at the front of what is left of them
pub bad_rest : (n k : ℕ) (rest back : List ℕ) (to : Option (List ℕ)) → n ≡ k + 1 → 0 < length (rest ++ back)
    → IfSome to (λ left. NoLine n (rest ++ (back ++ left)))
    → IfSome to (λ left. (0 < length ((rest ++ back) ++ left)) × NoLine (suc k) ((rest ++ back) ++ left))
bad_rest n k rest back None count some bad = tt
bad_rest n k rest back (Some left) count some bad =
    let add : n ≡ suc k = omega arith in
    let longer : length ((rest ++ back) ++ left) ≡ length (rest ++ back) + length left = length-append (rest ++ back) left in (
      omega arith,
      subst (λ (x : List ℕ). NoLine (suc k) x) (sym (append_assoc rest back left))
          (subst (λ (j : ℕ). NoLine j (rest ++ (back ++ left))) add bad),
    )
