-- Answers beside those allowed, one after the other.
use Rattle.std.proofs.Common.{◌≡◌, ℕ, zero, suc, ◌+◌, ◌<◌, ◌≤◌, Option, Some, None, is_some, Bool, true, false}
use Rattle.std.proofs.Common.{List, [], ◌∷◌, ◌++◌, All, length, take, drop, get_or, refl, sym, ap, subst, ◌∙◌, arith}
use Rattle.std.proofs.Common.{append_assoc, append-nil}
use Rattle.std.proofs.lemmas.List.{take_more, drop_more, take_all, take-append-drop, length-append}
use Rattle.std.proofs.lemmas.List.Elements.{All-append}
use Rattle.std.proofs.lemmas.List.Sums.{sum_by_more, sum_by_more_le}
use Rattle.hp_base.specs.declared.answer.Answer.{Answer}
use Rattle.hp_client.specs.Bytes.{IsAnswered, fallocate_plan}
use Rattle.hp_client.specs.Driving.{Rounds, Stops}
use Rattle.hp_client.specs.Judging.{Judges}
use Rattle.hp_client.specs.Tables.{Tried, IsRight, IsFirstWrong, LineRuns, LinesRun, LineStops, FrontRuns, answer_of, calls_in}
use Rattle.hp_client.specs.Tables.{calls_of, op_of}
use Rattle.hp_client.specs.declared.fault.ClientFault.{ClientFault}
use Rattle.hp_client.specs.declared.table.Line.{Line}
use Rattle.hp_client.specs.declared.table.Line.TheVariants.{Call, Race, Fallocate}
use Rattle.hp_client.specs.declared.table.Row.{Row}
use Rattle.hp_client.specs.declared.table.Allowed.{Allowed}
use Rattle.hp_client.specs.declared.work.Judged.{Judged}

one_right : (t : Answer × Answer) → IsRight t → All IsRight (t ∷ [])
one_right t is zero d within = is
one_right t is (suc k) d within = absurd (omega (arith, within))

one_longer : (tried : Tried) (t : Answer × Answer) → length (tried ++ t ∷ []) ≡ length tried + 1
one_longer tried t = length-append tried (t ∷ [])

-- an earlier wrong answer stays the first
stays_wrong : (tried : Tried) (t : Answer × Answer) (k : ℕ) → IsFirstWrong tried (Some k)
    → IsFirstWrong (tried ++ t ∷ []) (Some k)
stays_wrong tried t k (front, wrong, back, parts, right, not, is) = (
  front,
  wrong,
  back ++ t ∷ [],
  ap (λ (xs : Tried). xs ++ t ∷ []) parts
      ∙ append_assoc front (wrong ∷ back) (t ∷ []),
  right,
  not,
  is,
)

-- one more answer where one was wrong already
pub judges_past : (tried : Tried) (t : Answer × Answer) (old new : Judged) → new.calls ≡ old.calls + 1 → new.bad ≡ old.bad
    → is_some old.bad ≡ true → Judges tried old → Judges (tried ++ t ∷ []) new
judges_past tried t old new more same some judges = record {
  calls = (let l = one_longer tried t in let a = judges.calls in omega (arith, l, a, more));
  bad = subst (λ (o : Option ℕ). IsFirstWrong (tried ++ t ∷ []) o) (sym same) (still old.bad some judges.bad);
}
  where
    still : (o : Option ℕ) → is_some o ≡ true → IsFirstWrong tried o → IsFirstWrong (tried ++ t ∷ []) o
    still None e h = (let no : ◌≡◌ {A = Bool} false true = e in absurd (cc))
    still (Some k) e h = stays_wrong tried t k h

-- one more that is right
pub judges_right : (tried : Tried) (t : Answer × Answer) (old new : Judged) → new.calls ≡ old.calls + 1 → new.bad ≡ old.bad
    → IsRight t → Judges tried old → Judges (tried ++ t ∷ []) new
judges_right tried t old new more same right judges = record {
  calls = (let l = one_longer tried t in let a = judges.calls in omega (arith, l, a, more));
  bad = subst (λ (o : Option ℕ). IsFirstWrong (tried ++ t ∷ []) o) (sym same) (still old.bad judges.bad);
}
  where
    still : (o : Option ℕ) → IsFirstWrong tried o → IsFirstWrong (tried ++ t ∷ []) o
    still None h = All-append IsRight tried (t ∷ []) h (one_right t right)
    still (Some k) h = stays_wrong tried t k h

-- one more that is wrong, and the first
pub judges_wrong : (tried : Tried) (t : Answer × Answer) (old new : Judged) → new.calls ≡ old.calls + 1
    → new.bad ≡ Some (old.calls + 1) → old.bad ≡ None → ¬ IsRight t → Judges tried old → Judges (tried ++ t ∷ []) new
judges_wrong tried t old new more found none wrong judges = record {
  calls = (let l = one_longer tried t in let a = judges.calls in omega (arith, l, a, more));
  bad = subst (λ (o : Option ℕ). IsFirstWrong (tried ++ t ∷ []) o) (sym (found ∙ ap (λ (n : ℕ). Some (n + 1)) judges.calls))
      (tried, t, [], refl, subst (λ (o : Option ℕ). IsFirstWrong tried o) none judges.bad, wrong, refl);
}

-- the one answer of a round of one, and the two of a round of two
pub one_answer : (answers : List Answer) (a d : Answer) → length answers ≡ 1 → a ≡ get_or answers 0 d → answers ≡ a ∷ []
one_answer [] a d long first = absurd (omega (arith, long))
one_answer (x ∷ []) a d long first = rw (first) refl
one_answer (x ∷ y ∷ more) a d long first = absurd (omega (arith, long))

pub two_answers : (answers : List Answer) (a b d : Answer) → length answers ≡ 2 → a ≡ get_or answers 0 d
    → b ≡ get_or answers 1 d → answers ≡ a ∷ b ∷ []
two_answers [] a b d long first second = absurd (omega (arith, long))
two_answers (x ∷ []) a b d long first second = absurd (omega (arith, long))
two_answers (x ∷ y ∷ []) a b d long first second = rw (first, second) refl
two_answers (x ∷ y ∷ z ∷ more) a b d long first second = absurd (omega (arith, long))

-- the lines, over whatever they are run
module _ {D : Type 0} (makes : Rounds D) where
  run_more : (lines : List Line) (line : Line) (old mid new : D) (tried more : Tried) → LinesRun makes lines old tried mid
      → LineRuns makes line mid more new → LinesRun makes (lines ++ line ∷ []) old (tried ++ more) new
  run_more [] line old mid new tried more run one = (
    new,
    more,
    [],
    subst (λ (x : D). LineRuns makes line x more new) run.1 one,
    (refl, refl),
    ap (λ (xs : Tried). xs ++ more) run.0 ∙ sym (append-nil more),
  )
  run_more (first ∷ lines) line old mid new tried more run one = (
    run.0,
    run.1,
    run.2 ++ more,
    run.3,
    run_more lines line run.0 mid new run.2 more run.4 one,
    ap (λ (xs : Tried). xs ++ more) run.5 ∙ append_assoc run.1 run.2 more,
  )

  -- one more line ran
  pub run_next : (i : ℕ) (lines : List Line) (d : Line) (old mid new : D) (tried more : Tried) → i < length lines
      → LinesRun makes (take i lines) old tried mid → LineRuns makes (get_or lines i d) mid more new
      → LinesRun makes (take (i + 1) lines) old (tried ++ more) new
  run_next i lines d old mid new tried more within run one =
      subst (λ (xs : List Line). LinesRun makes xs old (tried ++ more) new) (sym (take_more lines i d within))
      (run_more (take i lines) (get_or lines i d) old mid new tried more run one)

  -- all of them did
  pub run_all : (i : ℕ) (lines : List Line) (old new : D) (tried : Tried) → length lines ≤ i
      → LinesRun makes (take i lines) old tried new
      → LinesRun makes lines old tried new
  run_all i lines old new tried past run =
      subst (λ (xs : List Line). LinesRun makes xs old tried new) (take_all i lines past) run

  -- what each kind of line does
  pub call_runs : (line : Line) (row : Row) (old new : D) (given : Answer) → line ≡ Call row
      → makes old ((row.0, op_of row.1) ∷ []) (given ∷ []) new → LineRuns makes line old ((given, answer_of row.2) ∷ []) new
  call_runs line row old new given is made =
      subst (λ (l : Line). LineRuns makes l old ((given, answer_of row.2) ∷ []) new) (sym is) (given, refl, made)

  pub race_runs : (line : Line) (first second : Row) (old new : D) (one two : Answer) → line ≡ Race first second
      → makes old ((first.0, op_of first.1) ∷ (second.0, op_of second.1) ∷ []) (one ∷ two ∷ []) new
      → LineRuns makes line old ((one, answer_of first.2) ∷ (two, answer_of second.2) ∷ []) new
  race_runs line first second old new one two is made =
      subst (λ (l : Line). LineRuns makes l old ((one, answer_of first.2) ∷ (two, answer_of second.2) ∷ []) new) (sym is)
      (one, two, refl, made)

  pub fallocate_runs : (line : Line) (task file bits offset len : ℕ) (allowed : Allowed) (old new : D) (given : Answer)
      → line ≡ Fallocate task file bits offset len allowed
      → IsAnswered makes (fallocate_plan bits file offset len) task old given new
      → LineRuns makes line old ((given, answer_of allowed) ∷ []) new
  fallocate_runs line task file bits offset len allowed old new given is done =
      subst (λ (l : Line). LineRuns makes l old ((given, answer_of allowed) ∷ []) new) (sym is) (given, refl, done)

  -- a front of the lines ran, and the next one stopped
  pub front_runs : (stops : Stops D) (fault : ClientFault) (i : ℕ) (lines : List Line) (d : Line) (old mid new : D) (tried : Tried)
      → i < length lines → LinesRun makes (take i lines) old tried mid → LineStops stops fault (get_or lines i d) mid new
      → FrontRuns makes stops fault lines old new
  front_runs stops fault i lines d old mid new tried within run stop = record {
    front = take i lines;
    line = get_or lines i d;
    back = drop (i + 1) lines;
    tried = tried;
    mid = mid;
    parts =
        sym (ap (λ (ys : List Line). take i lines ++ ys) (sym (drop_more lines i d within)) ∙ take-append-drop i lines);
    runs = run;
    stopped = stop;
  }

-- before the first answer
pub judges_none : (judged : Judged) → judged.calls ≡ 0 → judged.bad ≡ None → Judges [] judged
judges_none judged calls bad = record {
  calls = calls;
  bad = subst (λ (o : Option ℕ). IsFirstWrong [] o) (sym bad) (λ k d there. absurd (omega (arith, there)));
}

-- how many calls one more line has
pub calls_next : (i : ℕ) (lines : List Line) (d : Line) (before after : ℕ) → i < length lines → before ≡ calls_in (take i lines)
    → after ≡ before + calls_of (get_or lines i d) → after ≡ calls_in (take (i + 1) lines)
calls_next i lines d before after within was more =
    let one = sum_by_more calls_of lines i d within in
    omega (arith, one, was, more)

pub calls_few : (i : ℕ) (lines : List Line) (d : Line) (before : ℕ) → i < length lines → before ≡ calls_in (take i lines)
    → calls_in lines ≤ 100 → before + calls_of (get_or lines i d) ≤ 100
calls_few i lines d before within was few =
    let one = sum_by_more_le calls_of lines i d within in
    omega (arith, one, was, few)
