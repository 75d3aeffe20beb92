-- A line that is read is spelled so, and what is spelled so is read.
use Rattle.std.proofs.Common.{◌≡◌, ℕ, ◌^◌, ◌<◌, ◌≤◌, true, false, cond, List, [], ◌∷◌, ◌++◌, Option, Some, None, refl, sym, ap}
use Rattle.std.proofs.Common.{subst, ◌∙◌, append_assoc, arith, inl, inr, ◌⊎◌}
use Rattle.std.specs.Prelude.{codes}
use Rattle.std.specs.Option.{option_map_or}
use Rattle.std.specs.Fmt.{decimal}
use Rattle.std.proofs.lemmas.List.{append-nil}
use Rattle.std.proofs.lemmas.Bool.{and_parts, leb-true}
use Rattle.hp_base.specs.Text.{field, op_text, event_text, Sizes, sizes_text, are_sizes, quota_field}
use Rattle.hp_base.specs.Limits.{is_quota}
use Rattle.hp_base.specs.declared.event.Op.{Op}
use Rattle.hp_base.specs.declared.event.Op.TheVariants.{Map, MapNoReserve, Unmap, Load, Store, Alloc, Punch, Truncate, Exit}
use Rattle.hp_base.specs.declared.event.Event.{Event}
use Rattle.hp_base.specs.declared.event.Event.TheVariants.{Begin, Step, Kill, Resize}
use Rattle.hp_text.specs.Fits.{IsShort, OpFits, EventFits}
use Rattle.hp_text.specs.Reading.{◌>>=◌, after_word, number_at, field_at, ended, last_at, range_at, pair_at, option_or, behind}
use Rattle.hp_text.specs.Reading.{range_op_at, plain_op_at, op_at, event_at, last_field_at, quota_at, sizes_at, header_at, header_behind, limit}
use Rattle.hp_text.specs.Reading.{word_limit}
use Rattle.hp_text.proofs.Options.{none_some, some_is}
use Rattle.hp_text.proofs.Numbers.{chosen, bind_some, number_takes, number_again, word_takes, Stops}

ended_takes : {A : Type 0} (x : A) (bytes : List ℕ) (y : A) → ended x bytes ≡ Some y → (bytes ≡ []) × (x ≡ y)
ended_takes x [] y e = (refl, cc)
ended_takes x (b ∷ bytes) y e = absurd cc

field_takes : (most : ℕ) (bytes : List ℕ) (n : ℕ) (rest : List ℕ) → 9 ≤ most → most < 2 ^ 64
    → field_at most bytes ≡ Some (n, rest) → (bytes ≡ field n ++ rest) × (n ≤ most)
unfolding field_at
field_takes most bytes n rest low fits e =
    let a = bind_some (after_word (codes " ") bytes) (number_at most) (n, rest) e in
    let t = number_takes most a.0 n rest low fits a.2 in
    (word_takes (codes " ") bytes a.0 a.1 ∙ ap (λ (t : List ℕ). 32 ∷ t) t.0, t.1)

field_again : (most n : ℕ) (rest : List ℕ) → most < 2 ^ 64 → n ≤ most → Stops rest → field_at most (field n ++ rest) ≡ Some (n, rest)
unfolding field_at
field_again most n rest fits le stops = number_again most n rest fits le stops

pub last_takes : (bytes : List ℕ) (n : ℕ) → last_at bytes ≡ Some n → (bytes ≡ decimal n) × IsShort n
unfolding last_at
last_takes bytes n e =
    let a = bind_some (number_at limit bytes) (λ n. ended n.0 n.1) n e in
    let t = number_takes limit bytes a.0.0 a.0.1 (omega arith) (omega arith) a.1 in
    let b = ended_takes a.0.0 a.0.1 n a.2 in
    (t.0 ∙ rw (b.0, b.1) (append-nil (decimal n)), rw (← b.1) (omega (arith, t.1)))

pub last_again : (n : ℕ) → IsShort n → last_at (decimal n) ≡ Some n
unfolding last_at
last_again n fits =
    let read : number_at limit (decimal n) ≡ Some (n, []) =
    ap (number_at limit) (sym (append-nil (decimal n))) ∙ number_again limit n [] (omega arith) (omega arith) tt in
    rw read refl

-- three numbers
range_takes : (bytes : List ℕ) (r : ℕ × ℕ × ℕ) → range_at bytes ≡ Some r
    → (bytes ≡ decimal r.0 ++ (field r.1 ++ field r.2)) × IsShort r.0 × IsShort r.1 × IsShort r.2
unfolding range_at
range_takes bytes r e =
    let a = bind_some (number_at limit bytes)
    (λ file. field_at limit file.1 >>= λ from. field_at limit from.1 >>= λ len. ended (file.0, from.0, len.0) len.1) r e in
    let b = bind_some (field_at limit a.0.1) (λ from. field_at limit from.1 >>= λ len. ended (a.0.0, from.0, len.0) len.1) r a.2 in
    let d = bind_some (field_at limit b.0.1) (λ len. ended (a.0.0, b.0.0, len.0) len.1) r b.2 in
    let file = number_takes limit bytes a.0.0 a.0.1 (omega arith) (omega arith) a.1 in
    let from = field_takes limit a.0.1 b.0.0 b.0.1 (omega arith) (omega arith) b.1 in
    let len = field_takes limit b.0.1 d.0.0 d.0.1 (omega arith) (omega arith) d.1 in
    let end = ended_takes (a.0.0, b.0.0, d.0.0) d.0.1 r d.2 in
    let last : b.0.1 ≡ field d.0.0 = len.0 ∙ rw end.0 (append-nil (field d.0.0)) in
    let whole : bytes ≡ decimal a.0.0 ++ (field b.0.0 ++ field d.0.0) =
    file.0 ∙ ap (λ (t : List ℕ). decimal a.0.0 ++ t) (from.0 ∙ ap (λ (t : List ℕ). field b.0.0 ++ t) last) in
    subst (λ (r : ℕ × ℕ × ℕ). (bytes ≡ decimal r.0 ++ (field r.1 ++ field r.2)) × IsShort r.0 × IsShort r.1
    × IsShort r.2) end.1 (whole, omega (arith, file.1), omega (arith, from.1), omega (arith, len.1))

range_again : (file from len : ℕ) → IsShort file → IsShort from → IsShort len
    → range_at (decimal file ++ (field from ++ field len)) ≡ Some (file, from, len)
unfolding range_at
range_again file from len file_fits from_fits len_fits =
    let first = number_again limit file (field from ++ field len) (omega arith) (omega arith) refl in
    let second = field_again limit from (field len) (omega arith) (omega arith) refl in
    let third : field_at limit (field len) ≡ Some (len, []) =
    ap (field_at limit) (sym (append-nil (field len))) ∙ field_again limit len [] (omega arith) (omega arith) tt in
    rw (first, second, third) refl

-- two numbers
pair_takes : (most : ℕ) (bytes : List ℕ) (r : ℕ × ℕ) → 9 ≤ most → most < 2 ^ 64 → pair_at most bytes ≡ Some r
    → (bytes ≡ decimal r.0 ++ field r.1) × IsShort r.0 × (r.1 ≤ most)
unfolding pair_at
pair_takes most bytes r low high e =
    let a = bind_some (number_at limit bytes) (λ first. field_at most first.1 >>= λ second. ended (first.0, second.0) second.1) r e in
    let b = bind_some (field_at most a.0.1) (λ second. ended (a.0.0, second.0) second.1) r a.2 in
    let first = number_takes limit bytes a.0.0 a.0.1 (omega arith) (omega arith) a.1 in
    let second = field_takes most a.0.1 b.0.0 b.0.1 low high b.1 in
    let end = ended_takes (a.0.0, b.0.0) b.0.1 r b.2 in
    let last : a.0.1 ≡ field b.0.0 = second.0 ∙ rw end.0 (append-nil (field b.0.0)) in
    let whole : bytes ≡ decimal a.0.0 ++ field b.0.0 = first.0 ∙ ap (λ (t : List ℕ). decimal a.0.0 ++ t) last in
    subst (λ (r : ℕ × ℕ). (bytes ≡ decimal r.0 ++ field r.1) × IsShort r.0 × (r.1 ≤ most)) end.1 (whole, omega (arith, first.1), second.1)

pair_again : (most a b : ℕ) → most < 2 ^ 64 → IsShort a → b ≤ most → pair_at most (decimal a ++ field b) ≡ Some (a, b)
unfolding pair_at
pair_again most a b high a_fits b_fits =
    let first = number_again limit a (field b) (omega arith) (omega arith) refl in
    let second : field_at most (field b) ≡ Some (b, []) =
    ap (field_at most) (sym (append-nil (field b))) ∙ field_again most b [] high b_fits tt in
    rw (first, second) refl

-- ---- operations

pub behind_some : {A : Type 0} (word bytes : List ℕ) (read : List ℕ → Option A) (other : Option A) (y : A)
    → behind word bytes read other ≡ Some y → ((rest : List ℕ) × (bytes ≡ word ++ rest) × (read rest ≡ Some y)) ⊎ (other ≡ Some y)
behind_some {A} word bytes read other y e = by (after_word word bytes) refl e
  where
    by : (found : Option (List ℕ)) → after_word word bytes ≡ found → option_map_or read found other ≡ Some y
        → ((rest : List ℕ) × (bytes ≡ word ++ rest) × (read rest ≡ Some y)) ⊎ (other ≡ Some y)
    by (Some rest) is e = inl (rest, word_takes word bytes rest is, e)
    by None is e = inr e

abbrev pub Spells : List ℕ → Op → Type 0
Spells bytes op = (bytes ≡ op_text op) × OpFits op

pub op_again : (op : Op) → OpFits op → op_at (op_text op) ≡ Some op
unfolding op_at range_op_at plain_op_at
op_again (Map file from len) fits =
    let regrouped = append_assoc (decimal file) (field from) (field len) in
    rw (regrouped, range_again file from len fits.0 fits.1 fits.2) refl
op_again (MapNoReserve file from len) fits =
    let regrouped = append_assoc (decimal file) (field from) (field len) in
    rw (regrouped, range_again file from len fits.0 fits.1 fits.2) refl
op_again (Unmap base) fits = rw (last_again base fits) refl
op_again (Load vpn) fits = rw (last_again vpn fits) refl
op_again (Store vpn word) fits =
    let regrouped : (codes "store" ++ field vpn) ++ field word ≡ codes "store " ++ (decimal vpn ++ field word) =
    append_assoc (codes "store") (field vpn) (field word) in
    rw (regrouped, pair_again word_limit vpn word (omega arith) fits.0 (let l : word < 2 ^ 64 = fits.1 in omega arith)) refl
op_again (Alloc file from len true) fits =
    let regrouped = append_assoc (decimal file) (field from) (field len) in
    rw (regrouped, range_again file from len fits.0 fits.1 fits.2) refl
op_again (Alloc file from len false) fits =
    let regrouped = append_assoc (decimal file) (field from) (field len) in
    rw (regrouped, range_again file from len fits.0 fits.1 fits.2) refl
op_again (Punch file from len) fits =
    let regrouped = append_assoc (decimal file) (field from) (field len) in
    rw (regrouped, range_again file from len fits.0 fits.1 fits.2) refl
op_again (Truncate file new) fits =
    let regrouped : (codes "trunc" ++ field file) ++ field new ≡ codes "trunc " ++ (decimal file ++ field new) =
    append_assoc (codes "trunc") (field file) (field new) in
    rw (regrouped, pair_again limit file new (omega arith) fits.0 (let l : new < 2 ^ 32 = fits.1 in omega arith)) refl
op_again Exit fits = refl

-- what is made of a range
range_case : (word bytes rest : List ℕ) (make : ℕ → ℕ → ℕ → Op) (op : Op)
    → ((file from len : ℕ) → IsShort file × IsShort from × IsShort len → OpFits (make file from len))
    → ((file from len : ℕ) → word ++ ((decimal file ++ field from) ++ field len) ≡ op_text (make file from len))
    → bytes ≡ word ++ rest → (range_at rest >>= λ r. Some (make r.0 r.1 r.2)) ≡ Some op → Spells bytes op
range_case word bytes rest make op fits spelled parts e =
    let a = bind_some (range_at rest) (λ r. Some (make r.0 r.1 r.2)) op e in
    let t = range_takes rest a.0 a.1 in
    let text : rest ≡ (decimal a.0.0 ++ field a.0.1) ++ field a.0.2 =
    t.0 ∙ sym (append_assoc (decimal a.0.0) (field a.0.1) (field a.0.2)) in
    let whole : bytes ≡ op_text (make a.0.0 a.0.1 a.0.2) = parts ∙ ap (λ (t : List ℕ). word ++ t) text ∙ spelled a.0.0 a.0.1 a.0.2 in
    subst (λ (op : Op). Spells bytes op) (some_is _ _ a.2) (whole, fits a.0.0 a.0.1 a.0.2 (t.1, t.2, t.3))

-- what is made of one number
number_case : (word bytes rest : List ℕ) (make : ℕ → Op) (op : Op) → ((n : ℕ) → IsShort n → OpFits (make n))
    → ((n : ℕ) → word ++ decimal n ≡ op_text (make n)) → bytes ≡ word ++ rest
    → (last_at rest >>= λ n. Some (make n)) ≡ Some op → Spells bytes op
number_case word bytes rest make op fits spelled parts e =
    let a = bind_some (last_at rest) (λ n. Some (make n)) op e in
    let t = last_takes rest a.0 a.1 in
    let whole : bytes ≡ op_text (make a.0) = parts ∙ ap (λ (t : List ℕ). word ++ t) t.0 ∙ spelled a.0 in
    subst (λ (op : Op). Spells bytes op) (some_is _ _ a.2) (whole, fits a.0 t.1)

-- and of two
pair_case : (most : ℕ) (word bytes rest : List ℕ) (make : ℕ → ℕ → Op) (op : Op) → 9 ≤ most → most < 2 ^ 64
    → ((a b : ℕ) → IsShort a → b ≤ most → OpFits (make a b))
    → ((a b : ℕ) → word ++ (decimal a ++ field b) ≡ op_text (make a b)) → bytes ≡ word ++ rest
    → (pair_at most rest >>= λ r. Some (make r.0 r.1)) ≡ Some op → Spells bytes op
pair_case most word bytes rest make op low high fits spelled parts e =
    let a = bind_some (pair_at most rest) (λ r. Some (make r.0 r.1)) op e in
    let t = pair_takes most rest a.0 low high a.1 in
    let whole : bytes ≡ op_text (make a.0.0 a.0.1) = parts ∙ ap (λ (t : List ℕ). word ++ t) t.0 ∙ spelled a.0.0 a.0.1 in
    subst (λ (op : Op). Spells bytes op) (some_is _ _ a.2) (whole, fits a.0.0 a.0.1 t.1 t.2)

-- and of nothing
exit_case : (bytes rest : List ℕ) (op : Op) → bytes ≡ codes "exit" ++ rest → ended Exit rest ≡ Some op → Spells bytes op
exit_case bytes rest op parts e =
    let t = ended_takes Exit rest op e in
    let whole : bytes ≡ op_text Exit = parts ∙ ap (λ (t : List ℕ). codes "exit" ++ t) t.0 in
    subst (λ (op : Op). Spells bytes op) t.1 (whole, tt)

range_op_takes : (bytes : List ℕ) (op : Op) → range_op_at bytes ≡ Some op → Spells bytes op
unfolding range_op_at
range_op_takes bytes op e =
    elim (behind_some (codes "map ") bytes _ _ op e) [
      | inl w ↦ range_case (codes "map ") bytes w.0 Map op (λ _ _ _ f. f) (λ _ _ _. refl) w.1 w.2
      | inr e0 ↦ elim (behind_some (codes "mapn ") bytes _ _ op e0) [
        | inl w ↦ range_case (codes "mapn ") bytes w.0 MapNoReserve op (λ _ _ _ f. f) (λ _ _ _. refl) w.1 w.2
        | inr e1 ↦ elim (behind_some (codes "alloc ") bytes _ _ op e1) [
          | inl w ↦ range_case (codes "alloc ") bytes w.0 (λ file from len. Alloc file from len false) op
              (λ _ _ _ f. f) (λ _ _ _. refl) w.1 w.2
          | inr e2 ↦ elim (behind_some (codes "allock ") bytes _ _ op e2) [
            | inl w ↦ range_case (codes "allock ") bytes w.0 (λ file from len. Alloc file from len true) op
                (λ _ _ _ f. f) (λ _ _ _. refl) w.1 w.2
            | inr e3 ↦ elim (behind_some (codes "punch ") bytes _ _ op e3) [
              | inl w ↦ range_case (codes "punch ") bytes w.0 Punch op (λ _ _ _ f. f) (λ _ _ _. refl) w.1 w.2
              | inr e4 ↦ absurd (none_some e4)
            ]
          ]
        ]
      ]
    ]

plain_op_takes : (bytes : List ℕ) (op : Op) → plain_op_at bytes ≡ Some op → Spells bytes op
unfolding plain_op_at
plain_op_takes bytes op e =
    elim (behind_some (codes "load ") bytes _ _ op e) [
      | inl w ↦ number_case (codes "load ") bytes w.0 Load op (λ _ f. f) (λ _. refl) w.1 w.2
      | inr e0 ↦ elim (behind_some (codes "store ") bytes _ _ op e0) [
        | inl w ↦ pair_case word_limit (codes "store ") bytes w.0 Store op (omega arith) (omega arith)
            (λ _ word f g. (f, omega (arith, g))) (λ vpn word. sym (append_assoc (codes "store") (field vpn) (field word))) w.1 w.2
        | inr e1 ↦ elim (behind_some (codes "unmap ") bytes _ _ op e1) [
          | inl w ↦ number_case (codes "unmap ") bytes w.0 Unmap op (λ _ f. f) (λ _. refl) w.1 w.2
          | inr e2 ↦ elim (behind_some (codes "trunc ") bytes _ _ op e2) [
            | inl w ↦ pair_case limit (codes "trunc ") bytes w.0 Truncate op (omega arith) (omega arith)
                (λ _ new f g. (f, omega (arith, g)))
                (λ file new. sym (append_assoc (codes "trunc") (field file) (field new))) w.1 w.2
            | inr e3 ↦ elim (behind_some (codes "exit") bytes _ _ op e3) [
              | inl w ↦ exit_case bytes w.0 op w.1 w.2
              | inr e4 ↦ absurd (none_some e4)
            ]
          ]
        ]
      ]
    ]

pub op_takes : (bytes : List ℕ) (op : Op) → op_at bytes ≡ Some op → Spells bytes op
unfolding op_at
op_takes bytes op e = by (plain_op_at bytes) refl e
  where
    by : (first : Option Op) → plain_op_at bytes ≡ first → option_or first (range_op_at bytes) ≡ Some op → Spells bytes op
    by (Some found) is d = plain_op_takes bytes op (is ∙ d)
    by None is d = range_op_takes bytes op d

-- ---- events

abbrev pub SpellsEvent : List ℕ → Event → Type 0
SpellsEvent bytes event = (bytes ≡ event_text event) × EventFits event

pub event_again : (event : Event) → EventFits event → event_at (event_text event) ≡ Some event
unfolding event_at
event_again (Begin task op) is =
    let fits : IsShort task × OpFits op = is in
    let regrouped = append_assoc (decimal task) (codes " ") (op_text op) in
    rw (regrouped, number_again limit task (codes " " ++ op_text op) (omega arith) (omega (arith, fits.0)) refl, op_again op fits.1) refl
event_again (Step task true) is = rw (last_again task is) refl
event_again (Step task false) is = rw (last_again task is) refl
event_again (Kill task) is = rw (last_again task is) refl
event_again (Resize frames) is = rw (last_again frames is) refl

event_case : (word bytes rest : List ℕ) (make : ℕ → Event) (event : Event) → ((n : ℕ) → IsShort n → EventFits (make n))
    → ((n : ℕ) → word ++ decimal n ≡ event_text (make n)) → bytes ≡ word ++ rest
    → (last_at rest >>= λ n. Some (make n)) ≡ Some event → SpellsEvent bytes event
event_case word bytes rest make event is spelled parts e =
    let a = bind_some (last_at rest) (λ n. Some (make n)) event e in
    let t = last_takes rest a.0 a.1 in
    let whole : bytes ≡ event_text (make a.0) = parts ∙ ap (λ (t : List ℕ). word ++ t) t.0 ∙ spelled a.0 in
    subst (λ (event : Event). SpellsEvent bytes event) (some_is _ _ a.2) (whole, is a.0 t.1)

begin_case : (bytes rest : List ℕ) (event : Event) → bytes ≡ codes "begin " ++ rest
    → (number_at limit rest >>= λ task. after_word (codes " ") task.1 >>= λ text. op_at text >>= λ op. Some
    (Begin task.0 op)) ≡ Some event → SpellsEvent bytes event
begin_case bytes rest event parts e =
    let a = bind_some (number_at limit rest)
    (λ task. after_word (codes " ") task.1 >>= λ text. op_at text >>= λ op. Some (Begin task.0 op)) event e in
    let b = bind_some (after_word (codes " ") a.0.1) (λ text. op_at text >>= λ op. Some (Begin a.0.0 op)) event a.2 in
    let d = bind_some (op_at b.0) (λ op. Some (Begin a.0.0 op)) event b.2 in
    let task = number_takes limit rest a.0.0 a.0.1 (omega arith) (omega arith) a.1 in
    let space = word_takes (codes " ") a.0.1 b.0 b.1 in
    let op = op_takes b.0 d.0 d.1 in
    let text : rest ≡ decimal a.0.0 ++ (32 ∷ op_text d.0) =
    task.0 ∙ ap (λ (t : List ℕ). decimal a.0.0 ++ t) (space ∙ ap (λ (t : List ℕ). 32 ∷ t) op.0) in
    let regrouped : decimal a.0.0 ++ (32 ∷ op_text d.0) ≡ (decimal a.0.0 ++ (32 ∷ [])) ++ op_text d.0 =
    sym (append_assoc (decimal a.0.0) (32 ∷ []) (op_text d.0)) in
    let whole : bytes ≡ event_text (Begin a.0.0 d.0) = parts ∙ ap (λ (t : List ℕ). codes "begin " ++ t) (text ∙ regrouped) in
    let is : EventFits (Begin a.0.0 d.0) = (omega (arith, task.1), op.1) in
    subst (λ (event : Event). SpellsEvent bytes event) (some_is _ _ d.2) (whole, is)

pub event_takes : (bytes : List ℕ) (event : Event) → event_at bytes ≡ Some event → SpellsEvent bytes event
unfolding event_at
event_takes bytes event e =
    elim (behind_some (codes "begin ") bytes _ _ event e) [
      | inl w ↦ begin_case bytes w.0 event w.1 w.2
      | inr e0 ↦ elim (behind_some (codes "step ") bytes _ _ event e0) [
        | inl w ↦ event_case (codes "step ") bytes w.0 (λ n. Step n true) event (λ _ f. f) (λ _. refl) w.1 w.2
        | inr e1 ↦ elim (behind_some (codes "deny ") bytes _ _ event e1) [
          | inl w ↦ event_case (codes "deny ") bytes w.0 (λ n. Step n false) event (λ _ f. f) (λ _. refl) w.1 w.2
          | inr e2 ↦ elim (behind_some (codes "kill ") bytes _ _ event e2) [
            | inl w ↦ event_case (codes "kill ") bytes w.0 Kill event (λ _ f. f) (λ _. refl) w.1 w.2
            | inr e3 ↦ elim (behind_some (codes "resize ") bytes _ _ event e3) [
              | inl w ↦ event_case (codes "resize ") bytes w.0 Resize event (λ _ f. f) (λ _. refl) w.1 w.2
              | inr e4 ↦ absurd (none_some e4)
            ]
          ]
        ]
      ]
    ]

-- ---- the first line

abbrev pub SpellsHeader : List ℕ → Sizes → Type 0
SpellsHeader bytes s = (bytes ≡ sizes_text s) × (are_sizes s ≡ true)

last_field_takes : (bytes : List ℕ) (n : ℕ) → last_field_at bytes ≡ Some n → bytes ≡ field n
unfolding last_field_at
last_field_takes bytes n e =
    let a = bind_some (field_at limit bytes) (λ n. ended n.0 n.1) n e in
    let t = field_takes limit bytes a.0.0 a.0.1 (omega arith) (omega arith) a.1 in
    let b = ended_takes a.0.0 a.0.1 n a.2 in
    t.0 ∙ rw (b.0, b.1) (append-nil (field n))

-- five parts joined from the front, and from behind
five_parts : (a b c d e : List ℕ) → (((a ++ b) ++ c) ++ d) ++ e ≡ a ++ (b ++ (c ++ (d ++ e)))
five_parts a b c d e =
    append_assoc ((a ++ b) ++ c) d e ∙ (append_assoc (a ++ b) c (d ++ e) ∙ append_assoc a b (c ++ (d ++ e)))

-- a quota that is read is spelled so
quota_takes : (bytes : List ℕ) (quota : Option ℕ) → quota_at bytes ≡ Some quota → bytes ≡ quota_field quota
unfolding quota_at
quota_takes [] quota e = let none : None ≡ quota = some_is _ _ e in ap quota_field none
quota_takes (b ∷ bytes) quota e =
    let a = bind_some (last_field_at (b ∷ bytes)) (λ n. Some (Some n)) quota e in
    let some : Some a.0 ≡ quota = some_is _ _ a.2 in
    last_field_takes (b ∷ bytes) a.0 a.1 ∙ ap quota_field some

-- the numbers of a header, behind its word
abbrev pub numbers : Sizes → List ℕ
numbers s = decimal s.frames ++ (field s.files ++ (field s.slots ++ (field s.tasks ++ quota_field s.quota)))

-- they are the same, however they are put together
pub numbers_are : (s : Sizes)
    → (((decimal s.frames ++ field s.files) ++ field s.slots) ++ field s.tasks) ++ quota_field s.quota ≡ numbers s
numbers_are s = five_parts (decimal s.frames) (field s.files) (field s.slots) (field s.tasks) (quota_field s.quota)

sizes_takes : (bytes : List ℕ) (s : Sizes) → sizes_at bytes ≡ Some s → bytes ≡ numbers s
unfolding sizes_at
sizes_takes bytes s e =
    let a = bind_some (number_at limit bytes)
    (λ frames. field_at limit frames.1 >>= λ files. field_at limit files.1 >>= λ slots. field_at limit slots.1 >>=
    λ tasks. quota_at tasks.1 >>= λ quota. Some
    (record { frames = frames.0; files = files.0; slots = slots.0; tasks = tasks.0; quota = quota })) s e in
    let b = bind_some (field_at limit a.0.1)
    (λ files. field_at limit files.1 >>= λ slots. field_at limit slots.1 >>= λ tasks. quota_at tasks.1 >>=
    λ quota. Some (record { frames = a.0.0; files = files.0; slots = slots.0; tasks = tasks.0; quota = quota })) s a.2 in
    let d = bind_some (field_at limit b.0.1)
    (λ slots. field_at limit slots.1 >>= λ tasks. quota_at tasks.1 >>= λ quota. Some
    (record { frames = a.0.0; files = b.0.0; slots = slots.0; tasks = tasks.0; quota = quota })) s b.2 in
    let f = bind_some (field_at limit d.0.1)
    (λ tasks. quota_at tasks.1 >>= λ quota. Some
    (record { frames = a.0.0; files = b.0.0; slots = d.0.0; tasks = tasks.0; quota = quota })) s d.2 in
    let g = bind_some (quota_at f.0.1)
    (λ quota. Some (record { frames = a.0.0; files = b.0.0; slots = d.0.0; tasks = f.0.0; quota = quota })) s f.2 in
    let frames = number_takes limit bytes a.0.0 a.0.1 (omega arith) (omega arith) a.1 in
    let files = field_takes limit a.0.1 b.0.0 b.0.1 (omega arith) (omega arith) b.1 in
    let slots = field_takes limit b.0.1 d.0.0 d.0.1 (omega arith) (omega arith) d.1 in
    let tasks = field_takes limit d.0.1 f.0.0 f.0.1 (omega arith) (omega arith) f.1 in
    let quota = quota_takes f.0.1 g.0 g.1 in
    let fourth : d.0.1 ≡ field f.0.0 ++ quota_field g.0 = tasks.0 ∙ ap (λ (t : List ℕ). field f.0.0 ++ t) quota in
    let third : b.0.1 ≡ field d.0.0 ++ (field f.0.0 ++ quota_field g.0) =
    slots.0 ∙ ap (λ (t : List ℕ). field d.0.0 ++ t) fourth in
    let second : a.0.1 ≡ field b.0.0 ++ (field d.0.0 ++ (field f.0.0 ++ quota_field g.0)) =
    files.0 ∙ ap (λ (t : List ℕ). field b.0.0 ++ t) third in
    let whole : bytes ≡ decimal a.0.0 ++ (field b.0.0 ++ (field d.0.0 ++ (field f.0.0 ++ quota_field g.0))) =
    frames.0 ∙ ap (λ (t : List ℕ). decimal a.0.0 ++ t) second in
    subst (λ (s : Sizes). bytes ≡ numbers s) (some_is _ _ g.2) whole

-- a header behind any word
pub behind_takes : (word bytes : List ℕ) (s : Sizes) → header_behind word bytes ≡ Some s
    → (bytes ≡ word ++ numbers s) × (are_sizes s ≡ true)
unfolding header_behind
behind_takes word bytes s e =
    let a = bind_some (after_word word bytes) (λ text. sizes_at text >>= λ s. cond (are_sizes s) (Some s) None) s e in
    let b = bind_some (sizes_at a.0) (λ s. cond (are_sizes s) (Some s) None) s a.2 in
    let whole : bytes ≡ word ++ numbers b.0 =
    word_takes word bytes a.0 a.1 ∙ ap (λ (t : List ℕ). word ++ t) (sizes_takes a.0 b.0 b.1) in
    elim (chosen (are_sizes b.0) (Some b.0) None (Some s) b.2) [
      | inl w ↦ subst (λ (s : Sizes). (bytes ≡ word ++ numbers s) × (are_sizes s ≡ true)) (some_is _ _ w.1) (whole, w.0)
      | inr w ↦ absurd (none_some w.1)
    ]

-- that of a trace
pub header_takes : (bytes : List ℕ) (s : Sizes) → header_at bytes ≡ Some s → SpellsHeader bytes s
unfolding header_at header_behind
header_takes bytes s e =
    let t = behind_takes (codes "pool ") bytes s e in
    (t.0 ∙ ap (λ (t : List ℕ). codes "pool " ++ t) (sym (numbers_are s)), t.1)

last_field_again : (n : ℕ) → IsShort n → last_field_at (field n) ≡ Some n
unfolding last_field_at
last_field_again n fits =
    let read : field_at limit (field n) ≡ Some (n, []) =
    ap (field_at limit) (sym (append-nil (field n))) ∙ field_again limit n [] (omega arith) (omega arith) tt in
    rw read refl

-- a quota that is spelled is read so
quota_again : (quota : Option ℕ) → is_quota quota ≡ true → quota_at (quota_field quota) ≡ Some quota
unfolding quota_at
quota_again None fits = refl
quota_again (Some n) fits =
    let few = leb-true n 65536 fits in
    let read : last_field_at (field n) ≡ Some n = last_field_again n (omega arith) in
    ap (λ (o : Option ℕ). o >>= λ k. Some (Some k)) read

-- a number ends before it
pub quota_stops : (quota : Option ℕ) → Stops (quota_field quota)
quota_stops None = tt
quota_stops (Some n) = refl

pub sizes_again : (s : Sizes) → are_sizes s ≡ true → sizes_at (numbers s) ≡ Some s
unfolding sizes_at
sizes_again s within =
    let both = and_parts _ _ within in
    let p = and_parts _ _ both.0 in
    let q = and_parts _ _ p.0 in
    let r = and_parts _ _ q.0 in
    let frames = leb-true s.frames 4096 (and_parts _ _ r.0).1 in
    let files = leb-true s.files 16 (and_parts _ _ r.1).1 in
    let slots = leb-true s.slots 64 (and_parts _ _ q.1).1 in
    let tasks = leb-true s.tasks 64 (and_parts _ _ p.1).1 in
    let one = number_again limit s.frames (field s.files ++ (field s.slots ++ (field s.tasks ++ quota_field s.quota)))
    (omega arith) (omega arith) refl in
    let two = field_again limit s.files (field s.slots ++ (field s.tasks ++ quota_field s.quota)) (omega arith) (omega arith) refl in
    let three = field_again limit s.slots (field s.tasks ++ quota_field s.quota) (omega arith) (omega arith) refl in
    let four = field_again limit s.tasks (quota_field s.quota) (omega arith) (omega arith) (quota_stops s.quota) in
    let five = quota_again s.quota both.1 in
    rw (one, two, three, four, five) refl

-- a header behind any word
pub behind_again : (word bytes : List ℕ) (s : Sizes) → after_word word bytes ≡ Some (numbers s) → are_sizes s ≡ true
    → header_behind word bytes ≡ Some s
unfolding header_behind
behind_again word bytes s found within = rw (found, sizes_again s within, within) refl

-- that of a trace
pub header_again : (s : Sizes) → are_sizes s ≡ true → header_at (sizes_text s) ≡ Some s
unfolding header_at header_behind
header_again s within =
    ap header_at (ap (λ (t : List ℕ). codes "pool " ++ t) (numbers_are s))
    ∙ behind_again (codes "pool ") (codes "pool " ++ numbers s) s refl within
