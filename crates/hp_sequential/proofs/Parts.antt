-- The parts of rows that operations share, taken by a pool and by that pool with its frames renamed.
use Rattle.std.proofs.Common.{◌≡◌, ◌≢◌, ℕ, ◌+◌, ◌-◌, ◌<◌, refl, ap, sym, ◌∙◌, subst}
use Rattle.std.proofs.Math.Path.{fun_ext}
use Rattle.std.specs.Prelude.{Bool, true, false, not, ◌&&◌, ◌==◌, nat_le, nat_lt, Option, Some, None, MatchBool, MatchOption}
use Rattle.std.specs.Prelude.{List, if◌then◌else◌}
use Rattle.std.specs.Option.{option_map}
use Rattle.hp_base.specs.Numbers.{put, put2}
use Rattle.hp_base.specs.Indices.{missing}
use Rattle.hp_base.specs.Mappings.{is_there, find, in_mapping, without_index, without_mapping}
use Rattle.hp_base.specs.declared.answer.Answer.{Answer}
use Rattle.hp_base.specs.declared.mapping.Mapping.{Mapping}
use Rattle.hp_frames.specs.declared.frame.FrameState.{FrameState}
use Rattle.hp_frames.specs.declared.frame.FrameState.TheVariants.{Free, Hand, Placed, Retired}
use Rattle.hp_region.specs.Change.{Change}
use Rattle.hp_frames.specs.Bank.{is_active, is_free}
use Rattle.hp_machine.specs.State.{Pool, active_frames, actives, free_frames, frees, quota_is_used_up, slot_of}
use Rattle.hp_machine.specs.Parts.{Gives, Goes, StartRow, WantSlotRow, ChangeRow, CommitRow, TakeRow, SettleOneRow, placed}
use Rattle.hp_machine.specs.Parts.{UnmapIndexRow, EvictRow, cleared}
use Rattle.hp_machine.specs.declared.call.Turn.{Turn}
use Rattle.hp_machine.specs.declared.call.Turn.TheVariants.{Moved, Blocked, Ended}
use Rattle.hp_sequential.specs.Renaming.{Renaming}
use Rattle.hp_laws.proofs.Deciding.{some_same}
use Rattle.hp_sequential.proofs.Names.{count_renamed, put_map, put2_map, put_renamed, map_agrees, turned, turned_first}
use Rattle.hp_sequential.proofs.Names.{turned_other, turned_put}

-- the pool with its frames renamed
abbrev pub pool_renamed : {frames : ℕ} → Renaming frames → Pool → Pool
pool_renamed r s =
    record s {
      frame = λ y. s.frame (r.back y);
      pages = λ f i. option_map r.to (s.pages f i);
      entries = λ t v. option_map r.to (s.entries t v);
    }

-- the turn with the frames in its phase renamed
abbrev pub turn_renamed : {P : Type 0} → (P → P) → Turn P → Turn P
turn_renamed rename (Moved p) = Moved (rename p)
turn_renamed rename (Blocked p holder) = Blocked (rename p) holder
turn_renamed rename (Ended a) = Ended a

-- of a phase with no frame in hand
abbrev pub unnamed : {P : Type 0} → (ℕ → ℕ) → P → P
unnamed to p = p

-- a frame in use is neither free nor retired
abbrev pub IsUsed : FrameState → Type 0
IsUsed state = (state ≢ Free) × (state ≢ Retired)

-- pages and entries name frames in use, and the free ones are there
pub record Used (frames : ℕ) (s : Pool) : Type 0 where
  pub pages : (f i x : ℕ) → s.pages f i ≡ Some x → IsUsed (s.frame x)
  pub entries : (t v x : ℕ) → s.entries t v ≡ Some x → IsUsed (s.frame x)
  pub real : (x : ℕ) → s.frame x ≡ Free → x < frames
  pub count : s.frames ≡ frames

-- The pool went on to `new` and the renamed one to `there`: the same, under names by which each frame in use is
-- called as before.
pub record Follows (P : Type 0) (rename : (ℕ → ℕ) → P → P) (frames : ℕ) (s : Pool) (r : Renaming frames)
    (turn : Turn P) (new : Pool) (other : Turn P) (there : Pool) : Type 0 where
  pub names : Renaming frames
  pub keeps : (x : ℕ) → IsUsed (s.frame x) → names.to x ≡ r.to x
  pub turns : other ≡ turn_renamed (rename names.to) turn
  pub pools : there ≡ pool_renamed names new
  pub count : new.frames ≡ s.frames

-- two rows that split by one test
pub by_tests : {A B C D E : Type 0} (b : Bool) → MatchBool b A B → MatchBool b C D
    → (b ≡ true → A → C → E) → (b ≡ false → B → D → E) → E
by_tests true m n on off = on refl m n
by_tests false m n on off = off refl m n

-- or by a test that tells the same
pub by_like_tests : {A B C D E : Type 0} (b c : Bool) → c ≡ b → MatchBool b A B → MatchBool c C D → (b ≡ true → A → C → E)
    → (b ≡ false → B → D → E) → E
by_like_tests {A} {B} {C} {D} b c e m n on off = by_tests b m (subst (λ (d : Bool). MatchBool d C D) e n) on off

-- two rows that split by one option
pub by_options : {T A C E : Type 0} {B D : T → Type 0} (o : Option T) → MatchOption o A B → MatchOption o C D
    → (o ≡ None → A → C → E) → ((x : T) → o ≡ Some x → B x → D x → E) → E
by_options None m n off on = off refl m n
by_options (Some x) m n off on = on x refl m n

-- or by an option that is the same
pub by_like_options : {T A C E : Type 0} {B D : T → Type 0} (o o' : Option T) → o' ≡ o → MatchOption o A B → MatchOption o' C D
    → (o ≡ None → A → C → E) → ((x : T) → o ≡ Some x → B x → D x → E) → E
by_like_options {T} {A} {C} {E} {B} {D} o o' e m n off on = by_options o m (subst (λ (q : Option T). MatchOption q C D) e n) off on

-- or by a frame and its other name
pub by_names : {T A C E : Type 0} {B : T → Type 0} (D : T → Type 0) (to : T → T) (o : Option T) → MatchOption o A B
    → MatchOption (option_map to o) C D → (o ≡ None → A → C → E) → ((x : T) → o ≡ Some x → B x → D (to x) → E) → E
by_names D to None m n off on = off refl m n
by_names D to (Some x) m n off on = on x refl m n

-- both rows at one leaf, under the names as they are
pub leaf : {P : Type 0} {rename : (ℕ → ℕ) → P → P} {frames : ℕ} {s : Pool} {r : Renaming frames}
    {turn other wanted wanted' : Turn P} {new there after after' : Pool}
    → Gives wanted after turn new → Gives wanted' after' other there → wanted' ≡ turn_renamed (rename r.to) wanted
    → after' ≡ pool_renamed r after → after.frames ≡ s.frames → Follows P rename frames s r turn new other there
leaf {rename = rename} {r = r} a b e d k = record {
  names = r;
  keeps = λ x h. refl;
  turns = b.0 ∙ (e ∙ sym (ap (turn_renamed (rename r.to)) a.0));
  pools = b.1 ∙ (d ∙ sym (ap (pool_renamed r) a.1));
  count = ap (λ (m : Pool). m.frames) a.1 ∙ k;
}

-- and where the change names no frame
pub plain : {P : Type 0} {rename : (ℕ → ℕ) → P → P} {frames : ℕ} {s : Pool} {r : Renaming frames}
    {turn other wanted : Turn P} {new there after : Pool}
    → Gives wanted after turn new → Gives (turn_renamed (rename r.to) wanted) (pool_renamed r after) other there
    → after.frames ≡ s.frames → Follows P rename frames s r turn new other there
plain a b k = leaf a b refl refl k

-- the rows that operations share move a pool and the renamed one alike: where a lock is taken
pub start_row : {P : Type 0} {rename : (ℕ → ℕ) → P → P} {frames : ℕ} {s : Pool} {r : Renaming frames}
    {turn other : Turn P} {new there : Pool} (t : ℕ) (killed : Bool) (f : ℕ) (bad : Bool) (at_kill : Answer) (here next : P)
    → StartRow s t killed f bad at_kill here next turn new
    → StartRow (pool_renamed r s) t killed f bad at_kill (rename r.to here) (rename r.to next) other there
    → Follows P rename frames s r turn new other there
start_row {s = s} t killed f bad at_kill here next a b =
    by_tests (nat_le s.geometry.files f) a b
    (λ _ a b. plain a b refl)
    (λ _ a b. by_tests bad a b
    (λ _ a b. plain a b refl)
    (λ _ a b. by_tests killed a b
    (λ _ a b. plain a b refl)
    (λ _ a b. by_options (s.locks f) a b (λ _ a b. plain a b refl) (λ holder _ a b. plain a b refl))))

-- where a slot is taken
pub want_row : {P : Type 0} {rename : (ℕ → ℕ) → P → P} {frames : ℕ} {s : Pool} {r : Renaming frames}
    {turn other : Turn P} {new there : Pool} (t f i : ℕ) (here next : P)
    → WantSlotRow s t f i here next turn new
    → WantSlotRow (pool_renamed r s) t f i (rename r.to here) (rename r.to next) other there
    → Follows P rename frames s r turn new other there
want_row {s = s} t f i here next a b =
    by_options (s.slots (slot_of s.geometry f i)) a b (λ _ a b. plain a b refl) (λ holder _ a b. plain a b refl)

-- where a change is begun
pub change_row : {P : Type 0} {rename : (ℕ → ℕ) → P → P} {frames : ℕ} {s : Pool} {r : Renaming frames}
    {turn other : Turn P} {new there : Pool} (grant : Bool) (f from to : ℕ) (denied : P) (changed : Change → P)
    → ChangeRow s grant f from to denied changed turn new
    → ChangeRow (pool_renamed r s) grant f from to (rename r.to denied) (λ change. rename r.to (changed change)) other there
    → Follows P rename frames s r turn new other there
change_row {s = s} grant f from to denied changed a b =
    by_tests ((s.spare f == s.pending f) && not grant) a b (λ _ a b. plain a b refl) (λ _ a b. plain a b refl)

-- where it is committed
pub commit_row : {P : Type 0} {rename : (ℕ → ℕ) → P → P} {frames : ℕ} {s : Pool} {r : Renaming frames}
    {turn other : Turn P} {new there : Pool} (f : ℕ) (change : Change) (settle next : P)
    → CommitRow s f change settle next turn new
    → CommitRow (pool_renamed r s) f change (rename r.to settle) (rename r.to next) other there
    → Follows P rename frames s r turn new other there
commit_row {s = s} f change settle next a b =
    by_tests (nat_lt (missing (s.reserved f) change.from change.to) change.missing) a b (λ _ a b. plain a b refl)
    (λ _ a b. plain a b refl)

-- where one reservation is given back
pub settle_row : {P : Type 0} {rename : (ℕ → ℕ) → P → P} {frames : ℕ} {s : Pool} {r : Renaming frames}
    {turn other : Turn P} {new there : Pool} (next : P)
    → SettleOneRow s next turn new → SettleOneRow (pool_renamed r s) (rename r.to next) other there
    → Follows P rename frames s r turn new other there
settle_row next a b = plain a.2 b.2 refl

-- as many frames are free
pub frees_renamed : {frames : ℕ} (s : Pool) (r : Renaming frames) → s.frames ≡ frames → frees (pool_renamed r s) ≡ frees s
unfolding free_frames
frees_renamed s r e = rw e (count_renamed r (λ x. is_free (s.frame x)))

-- and as many aren't retired
pub actives_renamed : {frames : ℕ} (s : Pool) (r : Renaming frames) → s.frames ≡ frames → actives (pool_renamed r s) ≡ actives s
unfolding active_frames
actives_renamed s r e = rw e (count_renamed r (λ x. is_active (s.frame x)))

-- a table of frames under names that call those alike which stand in it
table_agrees : (p q : ℕ → ℕ) (o : ℕ → ℕ → Option ℕ) → ((k j x : ℕ) → o k j ≡ Some x → q x ≡ p x)
    → ◌≡◌ {A = ℕ → ℕ → Option ℕ} (λ k j. option_map p (o k j)) (λ k j. option_map q (o k j))
table_agrees p q o h = fun_ext (λ k. fun_ext (λ j. sym (map_agrees p q (o k j) (λ x e. h k j x e))))

-- frames go elsewhere: pages and entries are named as before by names that call all in use as before
pub elsewhere : {frames more : ℕ} (s : Pool) (r : Renaming frames) (names : Renaming more) (n resv used : ℕ)
    (frame frame' : ℕ → FrameState)
    → Used frames s → ((x : ℕ) → IsUsed (s.frame x) → names.to x ≡ r.to x) → frame' ≡ (λ y. frame (names.back y))
    → ◌≡◌ {A = Pool} (record (pool_renamed r s) { frames = n; frame = frame'; resv = resv; used = used })
    (pool_renamed names (record s { frames = n; frame = frame; resv = resv; used = used }))
elsewhere s r names n resv used frame frame' h keeps same =
    let pages = table_agrees r.to names.to s.pages (λ f i x e. keeps x (h.pages f i x e)) in
    let entries = table_agrees r.to names.to s.entries (λ t v x e. keeps x (h.entries t v x e)) in
    λ i. record s { frames = n; frame = same i; resv = resv; used = used; pages = pages i; entries = entries i }

-- Each pool takes a free frame of its own. Call the first one's frame as the second one's is called: nothing that is
-- in use has another name then.
takes : {P : Type 0} {rename : (ℕ → ℕ) → P → P} {frames : ℕ} {s : Pool} {r : Renaming frames} {turn other : Turn P}
    {new there : Pool} (resv used x y : ℕ) (taken : ℕ → P)
    → Used frames s → s.frame x ≡ Free → s.frame (r.back y) ≡ Free
    → Goes (taken x) (record s { frame = put s.frame x Hand; resv = resv; used = used }) turn new
    → Goes (taken y) (record (pool_renamed r s) { frame = put (λ z. s.frame (r.back z)) y Hand; resv = resv; used = used }) other there
    → ((to : ℕ → ℕ) (z : ℕ) → taken (to z) ≡ rename to (taken z)) → Follows P rename frames s r turn new other there
takes {rename = rename} {s = s} {r = r} resv used x y taken h e d a b same =
    let l = h.real x e in
    let m = h.real (r.back y) d in
    let names = turned r x (r.back y) l m in
    let called : names.to x ≡ y = turned_first r x (r.back y) l m ∙ r.here y in
    let keeps : (z : ℕ) → IsUsed (s.frame z) → names.to z ≡ r.to z =
    λ z used. turned_other r x (r.back y) l m z (λ q. used.0 (ap s.frame q ∙ e)) (λ q. used.0 (ap s.frame q ∙ d)) in
    let frame : ◌≡◌ {A = ℕ → FrameState} (put (λ z. s.frame (r.back z)) y Hand) (λ z. put s.frame x Hand (names.back z)) =
    ap (λ (w : ℕ). put (λ z. s.frame (r.back z)) w Hand) (sym (r.here y))
    ∙ turned_put r x (r.back y) l m s.frame Hand (e ∙ sym d) in
    record {
      names = names;
      keeps = keeps;
      turns =
          b.0 ∙ (ap (λ (w : ℕ). Moved (taken w)) (sym called)
          ∙ (ap (λ p. Moved p) (same names.to x) ∙ sym (ap (turn_renamed (rename names.to)) a.0)));
      pools =
          b.1
          ∙ (elsewhere s r names s.frames resv used (put s.frame x Hand) _ h keeps frame ∙ sym (ap (pool_renamed names) a.1));
      count = ap (λ (m : Pool). m.frames) a.1;
    }

-- where a frame is taken: each pool takes one of its own, and the names are turned to fit
pub take_row : {P : Type 0} {rename : (ℕ → ℕ) → P → P} {frames : ℕ} {s : Pool} {r : Renaming frames}
    {turn other : Turn P} {new there : Pool} (missing : ℕ) (refused : Answer → P) (taken : ℕ → P)
    → Used frames s → TakeRow s missing refused taken turn new
    → TakeRow (pool_renamed r s) missing (λ a. rename r.to (refused a)) taken other there
    → ((to : ℕ → ℕ) (z : ℕ) → taken (to z) ≡ rename to (taken z)) → Follows P rename frames s r turn new other there
take_row {s = s} {r = r} m refused taken h a b same =
    by_tests (m == 0) a b
    (λ _ a b. takes (s.resv - 1) s.used a.0 b.0 taken h a.1 b.1 a.3 b.3 same)
    (λ _ a b. by_tests (quota_is_used_up s) a b
    (λ _ a b. plain a b refl)
    (λ _ a b. by_like_tests (frees s == s.resv) (frees (pool_renamed r s) == s.resv)
    (ap (λ (n : ℕ). n == s.resv) (frees_renamed s r h.count)) a b
    (λ _ a b. plain a b refl)
    (λ _ a b. takes s.resv (s.used + 1) a.0 b.0 taken h a.1 b.1 a.2 b.2 same)))

-- a frame in hand is placed or freed
pub placed_renamed : {frames : ℕ} (s : Pool) (r : Renaming frames) (f i x : ℕ)
    → placed (pool_renamed r s) f i (r.to x) ≡ pool_renamed r (placed s f i x)
placed_renamed s r f i x =
    let frame = put_renamed r s.frame x (Placed 0) in
    let pages = put2_map (option_map r.to) s.pages f i (Some x) in
    λ k. record (pool_renamed r s) { frame = frame k; pages = pages k }

-- where one is freed
pub freed_renamed : {frames : ℕ} (s : Pool) (r : Renaming frames) (x resv used : ℕ)
    → ◌≡◌ {A = Pool} (record (pool_renamed r s) { frame = put (λ y. s.frame (r.back y)) (r.to x) Free; resv = resv; used = used })
    (pool_renamed r (record s { frame = put s.frame x Free; resv = resv; used = used }))
freed_renamed s r x resv used =
    let frame = put_renamed r s.frame x Free in λ k. record (pool_renamed r s) { frame = frame k; resv = resv; used = used }

-- a page goes into a hand
pub evict_row : {P : Type 0} {rename : (ℕ → ℕ) → P → P} {frames : ℕ} {s : Pool} {r : Renaming frames}
    {turn other : Turn P} {new there : Pool} (f i : ℕ) (next : ℕ → P)
    → EvictRow s f i next turn new → EvictRow (pool_renamed r s) f i next other there
    → ((z : ℕ) → next (r.to z) ≡ rename r.to (next z)) → Follows P rename frames s r turn new other there
evict_row {P} {s = s} {r = r} {other = other} {there = there} f i next a b same =
    let is : b.0 ≡ r.to a.0 = some_same (sym b.1 ∙ ap (option_map r.to) a.1) in
    let named = subst (λ (y : ℕ). Goes (next y)
    (record (pool_renamed r s) {
      pages = put2 (λ k j. option_map r.to (s.pages k j)) f i None;
      frame = put (λ z. s.frame (r.back z)) y Hand;
    }) other there) is b.2 in
    let frame = put_renamed r s.frame a.0 Hand in
    let pages = put2_map (option_map r.to) s.pages f i None in
    leaf a.2 named (ap (λ p. Moved p) (same a.0)) (λ k. record (pool_renamed r s) { frame = frame k; pages = pages k }) refl

-- an entry that goes goes under any names
gone_renamed : (to : ℕ → ℕ) (gone : Bool) (o : Option ℕ)
    → ◌≡◌ {A = Option ℕ} (if gone then None else option_map to o) (option_map to (if gone then None else o))
gone_renamed to true o = refl
gone_renamed to false o = refl

-- where an index's entries go, in one table
index_renamed : (to : ℕ → ℕ) (mappings : List Mapping) (entries : ℕ → Option ℕ) (f i : ℕ)
    → ◌≡◌ {A = ℕ → Option ℕ} (without_index mappings (λ v. option_map to (entries v)) f i)
    (λ v. option_map to (without_index mappings entries f i v))
unfolding without_index
index_renamed to mappings entries f i = fun_ext (λ v. gone_renamed to (is_there (find mappings v) f i) (entries v))

-- where a mapping's do
mapping_renamed : (to : ℕ → ℕ) (mappings : List Mapping) (entries : ℕ → Option ℕ) (base : ℕ)
    → ◌≡◌ {A = ℕ → Option ℕ} (without_mapping mappings (λ v. option_map to (entries v)) base)
    (λ v. option_map to (without_mapping mappings entries base v))
unfolding without_mapping
mapping_renamed to mappings entries base = fun_ext (λ v. gone_renamed to (in_mapping mappings base v) (entries v))

-- one task's entries, under other names
entries_renamed : (to : ℕ → ℕ) (table : ℕ → ℕ → Option ℕ) (t : ℕ) (entries entries' : ℕ → Option ℕ)
    → entries' ≡ (λ v. option_map to (entries v))
    → ◌≡◌ {A = ℕ → ℕ → Option ℕ} (put (λ u v. option_map to (table u v)) t entries') (λ u v. option_map to (put table t entries u v))
entries_renamed to table t entries entries' e =
    ap (put (λ u v. option_map to (table u v)) t) e
    ∙ put_map {A = ℕ → Option ℕ} {B = ℕ → Option ℕ} (λ row v. option_map to (row v)) table t entries

-- so in the pool
pub cleared_renamed : {frames : ℕ} (s : Pool) (r : Renaming frames) (t base : ℕ)
    → cleared (pool_renamed r s) t base ≡ pool_renamed r (cleared s t base)
cleared_renamed s r t base =
    let table = entries_renamed r.to s.entries t _ _ (mapping_renamed r.to (s.mappings t) (s.entries t) base) in
    λ k. record (pool_renamed r s) { entries = table k }

-- where one task's entries of an index go
pub unmap_row : {P : Type 0} {rename : (ℕ → ℕ) → P → P} {frames : ℕ} {s : Pool} {r : Renaming frames}
    {turn other : Turn P} {new there : Pool} (k f i : ℕ) (more last : P)
    → UnmapIndexRow s k f i more last turn new
    → UnmapIndexRow (pool_renamed r s) k f i (rename r.to more) (rename r.to last) other there
    → Follows P rename frames s r turn new other there
unmap_row {s = s} {r = r} k f i more last a b =
    let table = entries_renamed r.to s.entries k _ _ (index_renamed r.to (s.mappings k) (s.entries k) f i) in
    by_tests (nat_lt k s.geometry.tasks) a b
    (λ _ a b. leaf a b refl (λ j. record (pool_renamed r s) { entries = table j }) refl)
    (λ _ a b. leaf a b refl (λ j. record (pool_renamed r s) { entries = table j }) refl)
