use Rattle.std.proofs.Common.{ℕ, ◌≡◌, ◌<◌, ◌≤◌, ◌-◌, ◌+◌, Bool, true, false, cond, IsTrue, List, vec_len, vec_capacity, refl, ap, sym}
use Rattle.std.proofs.Common.{◌∙◌, arith}
use Rattle.std.specs.Prelude.{nat_lt}
use Rattle.std.proofs.lemmas.Bool.Decides.{nat_tests}
use Rattle.hp_base.specs.Indices.{count_below, splits}
use Rattle.hp_base.specs.Numbers.{put}
use Rattle.hp_base.specs.declared.limits.TheConstants.{LIMIT}
use Rattle.hp_base.proofs.Counting.{count_below-put_false}
use Rattle.hp_region.specs.declared.region.Region.{Region}
use Rattle.hp_region.specs.declared.map.RegionMap.TheInside.{Inside}
use Rattle.hp_region.specs.Bits.{has_bit}
use Rattle.hp_region.specs.Regions.{is_member, IsApartFrom}
use Rattle.hp_region.proofs.Sets.{absent-put, member_below_limit}
use Rattle.hp_region.proofs.map.RegionMap.remove_one.Goals as goal
use Rattle.hp_region.proofs.map.RegionMap.remove_one.Goals.{then-is_split+in_ok-take_capacity, else-is_split}

absent : (b : Bool) → (IsTrue b → false ≡ true) → b ≡ false
absent true h = sym (h refl)
absent false h = refl

pub returns-in_default-clause-members : goal.returns-in_default-clause-members
returns-in_default-clause-members c =
    let out = absent (is_member c.deref.result.now c.args.index) (c.in_default.ensures {u = tt}).found.1 in
    rw (← c.self.view_is, ← c.deref.ensures.value) (absent-put (is_member c.deref.result.now) c.args.index out)

-- the index was there, so that there is one less
one_less : (rs seen : List Region) (i count : ℕ) → IsApartFrom 0 rs → count ≡ count_below (is_member rs) LIMIT → seen ≡ rs
    → is_member seen i ≡ true → count ≡ count_below (put (is_member rs) i false) LIMIT + 1
one_less rs seen i count apart counted same there =
    let here : is_member rs i ≡ true = ap (λ (xs : List Region). is_member xs i) (sym same) ∙ there in
    counted ∙ count_below-put_false (is_member rs) i LIMIT (member_below_limit 0 rs i apart here) here

pub overflow_sub-self : goal.overflow_sub-self
overflow_sub-self c =
    let kept : c.if-is_split.self-inside.count ≡ c.self.inside.count =
    elim c.if-is_split.branch [
      | then-is_split+in_ok-take_capacity w ↦
          ap (λ (m : Inside). m.count) w.self-inside-is
      | else-is_split w ↦ ap (λ (m : Inside). m.count) w.self-inside-is
    ] in
    let less = one_less c.self.inside.regions.items c.deref.result.now c.args.index c.self.inside.count
    c.self.invariant.apart c.self.invariant.counted c.deref.ensures.value (c.in-Some.ensures.found.0 refl) in
    omega (arith, kept, less)

-- capacity is taken without a change of the regions
same : (c : goal.After-self-1) → c.if-is_split.self-inside.regions.items ≡ c.self.inside.regions.items
same c = elim c.if-is_split.branch [
  | then-is_split+in_ok-take_capacity w ↦ ap (λ (m : Inside). m.regions.items) w.self-inside-is ∙ w.take_capacity.ensures.items
  | else-is_split w ↦ ap (λ (m : Inside). m.regions.items) w.self-inside-is
]

left : (c : goal.After-self-1) → is_member c.carve.new.regions.items ≡ put (is_member c.self.inside.regions.items) c.args.index false
left c = c.carve.ensures.members ∙ ap (λ (rs : List Region). put (is_member rs) c.args.index false) (same c)

-- and without a change of the bits
marked : (c : goal.After-self-1) → has_bit c.if-is_split.self-inside.bits ≡ is_member c.self.inside.regions.items
marked c = elim c.if-is_split.branch [
  | then-is_split+in_ok-take_capacity w ↦ ap (λ (m : Inside). has_bit m.bits) w.self-inside-is ∙ c.self.invariant.marked
  | else-is_split w ↦ ap (λ (m : Inside). has_bit m.bits) w.self-inside-is ∙ c.self.invariant.marked
]

-- an index that is there lies below the limit
in_limit : (rs seen : List Region) (i : ℕ) → IsApartFrom 0 rs → seen ≡ rs → is_member seen i ≡ true → i < LIMIT
in_limit rs seen i apart same there = member_below_limit 0 rs i apart (ap (λ (xs : List Region). is_member xs i) (sym same) ∙ there)

pub take-requires : goal.take-requires
take-requires c =
    in_limit c.self.inside.regions.items c.deref.result.now c.args.index c.self.invariant.apart c.deref.ensures.value
    (c.in-Some.ensures.found.0 refl)

at_most : (b : Bool) (n m : ℕ) → m ≤ cond b (n + 1) n → m ≤ n + 1
at_most b n m h = grind arith

no_more : (b : Bool) (n m : ℕ) → b ≡ false → m ≤ cond b (n + 1) n → m ≤ n
no_more b n m off h = grind arith

spent : (pending spare : ℕ) → pending ≤ spare → pending ≤ cond (nat_lt pending spare) (spare - 1) spare
spent pending spare le = grind (arith, nat_tests)

covered : (c : goal.After-self-1) → c.if-is_split.self-inside.pending ≤ c.if-is_split.self-inside.spare
covered c = elim c.if-is_split.branch [
  | then-is_split+in_ok-take_capacity w ↦
      let kept = ap (λ (m : Inside). m.pending) w.self-inside-is in
      let now = ap (λ (m : Inside). m.spare) w.self-inside-is in
      omega (arith, kept, now, w.take_capacity.ensures.spare, spent c.self.inside.pending c.self.inside.spare c.self.invariant.covered)
  | else-is_split w ↦
      let kept = ap (λ (m : Inside). m.pending) w.self-inside-is in
      let now = ap (λ (m : Inside). m.spare) w.self-inside-is in
      omega (arith, kept, now, c.self.invariant.covered)
]

enough : (c : goal.After-self-1) → vec_len c.carve.new.regions + c.if-is_split.self-inside.spare ≤ vec_capacity c.carve.new.regions
enough c = elim c.if-is_split.branch [
  | then-is_split+in_ok-take_capacity w ↦
      let now = ap (λ (m : Inside). m.spare) w.self-inside-is in
      let len = ap (λ (m : Inside). vec_len m.regions) w.self-inside-is in
      let capacity = ap (λ (m : Inside). vec_capacity m.regions) w.self-inside-is in
      let most = at_most (splits (is_member c.if-is_split.self-inside.regions.items) c.args.index)
      (vec_len c.if-is_split.self-inside.regions) (vec_len c.carve.new.regions) c.carve.ensures.len in
      omega (arith, now, len, capacity, most, w.in_ok-take_capacity.ensures.enough, c.carve.ensures.capacity)
  | else-is_split w ↦
      let now = ap (λ (m : Inside). m.spare) w.self-inside-is in
      let len = ap (λ (m : Inside). vec_len m.regions) w.self-inside-is in
      let capacity = ap (λ (m : Inside). vec_capacity m.regions) w.self-inside-is in
      let whole = ap (λ (rs : List Region). splits (is_member rs) c.args.index) (same c ∙ sym c.deref-2.ensures.value)
      ∙ sym c.is_split.ensures ∙ w.if-is_split.false in
      let most = no_more (splits (is_member c.if-is_split.self-inside.regions.items) c.args.index)
      (vec_len c.if-is_split.self-inside.regions) (vec_len c.carve.new.regions) whole c.carve.ensures.len in
      omega (arith, now, len, capacity, most, c.self.invariant.capacity, c.carve.ensures.capacity)
]

pub invariant_of-self-2 : goal.invariant_of-self-2
invariant_of-self-2 c =
    let rs = c.self.inside.regions.items in
    let kept : c.if-is_split.self-inside.count ≡ c.self.inside.count =
    elim c.if-is_split.branch [
      | then-is_split+in_ok-take_capacity w ↦
          ap (λ (m : Inside). m.count) w.self-inside-is
      | else-is_split w ↦ ap (λ (m : Inside). m.count) w.self-inside-is
    ] in
    let less = one_less rs c.deref.result.now c.args.index c.self.inside.count c.self.invariant.apart
    c.self.invariant.counted c.deref.ensures.value (c.in-Some.ensures.found.0 refl) in
    record {
      apart = c.carve.ensures.apart;
      marked = c.take.ensures ∙ ap (λ (set : ℕ → Bool). put set c.args.index false) (marked c) ∙ sym (left c);
      counted = rw (left c) (omega (arith, kept, less));
      covered = covered c;
      capacity = enough c;
    }

pub returns-clause-members : goal.returns-clause-members
returns-clause-members c = rw (← c.self.view_is) (left c)
