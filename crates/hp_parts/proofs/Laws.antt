-- What one write to a list does to the functions that the machine sees, and what they tell.
use Rattle.std.proofs.Common.{◌≡◌, ◌≢◌, ℕ, ◌+◌, ◌-◌, ◌<◌, ◌≤◌, List, length, get_or, set, refl, sym, ◌∙◌, ap, subst, arith, inl, inr}
use Rattle.std.proofs.Math.Path.{fun_ext}
use Rattle.std.specs.Prelude.{Bool, false, Option, Some, None, ◌==◌, ◌⊎◌, slice_get, slice_set, slice_index_or}
use Rattle.std.specs.Ordering.{nat_cmp}
use Rattle.std.specs.FinMap.{FinMap, get, insert, remove, gets}
use Rattle.std.proofs.lemmas.Bool.{ne_eqb}
use Rattle.std.proofs.lemmas.Bool.Decides.{nat_tests}
use Rattle.std.proofs.lemmas.Grind.{common_steps}
use Rattle.std.proofs.lemmas.List.{get_or-set_same, get_or-set_other, get_or_past, get_or_read, set-get_or, length-set}
use Rattle.std.proofs.lemmas.Option.{get_or_from_slice_get, slice_get-get_or, slice_get_within}
use Rattle.hp_base.specs.Numbers.{put, put2}
use Rattle.hp_base.proofs.Puts.{put_same, put_other, put_self, put_tells, same_or_other}
use Rattle.hp_base.proofs.Lists.{at_set, at_same}
use Rattle.hp_frames.specs.Bank as bank
use Rattle.hp_frames.specs.declared.frame.FrameState.{FrameState}
use Rattle.hp_frames.specs.declared.frame.FrameState.TheVariants.{Hand, Placed}
use Rattle.hp_region.specs.Regions.{is_member}
use Rattle.hp_region.specs.declared.region.Region.{Region}
use Rattle.hp_chunks.specs.Framed.{ChunkCapacity, NoMoreChunks}
use Rattle.hp_table.specs.Table.{SpaceCapacity, NoMoreCapacity, Table}
use Rattle.hp_machine.specs.State as machine
use Rattle.hp_parts.specs.declared.parts.FileState.{FileState}
use Rattle.hp_parts.specs.Capacity.{map_capacities_of, cache_capacities_of, capacities_by_task}
use Rattle.hp_parts.specs.View.{no_file, no_table, holders_of, sizes_of, pendings_of, spares_of, sets_of, pages_of, table_of}
use Rattle.hp_parts.specs.View.{ready_by_task, mappings_by_task, entries_of}

-- the bank's count of free frames is the machine's
pub free_frames_is : (xs : List FrameState) → machine.free_frames (bank.frame_at xs) (length xs) ≡ bank.free_frames xs
unfolding machine.free_frames bank.count_of
free_frames_is xs = refl

-- holders
pub holders_set : (xs : List (Option ℕ)) (k : ℕ) (h : Option ℕ) → k < length xs → holders_of (slice_set xs k h) ≡ put (holders_of xs) k h
unfolding holders_of
holders_set xs k h l = at_set (λ o. o) None xs k h l

pub holders_at : (xs : List (Option ℕ)) (k : ℕ) → holders_of xs k ≡ slice_index_or xs k None
unfolding holders_of
holders_at xs x = refl

-- what a finite map tells after one of its keys has a value
get_inserted : (m : FinMap nat_cmp ℕ) (k x : ℕ) → ◌≡◌ {A = ℕ → Option ℕ} (λ j. get (insert m k x) j) (put (λ j. get m j) k (Some x))
get_inserted m k x = fun_ext (λ j. here j (put_tells (λ j. get m j) k (Some x) j))
  where
    here : (j : ℕ)
        → ((j ≡ k) × (put (λ j. get m j) k (Some x) j ≡ Some x)) ⊎ ((j ≢ k) × (put (λ j. get m j) k (Some x) j ≡ get m j))
        → get (insert m k x) j ≡ put (λ j. get m j) k (Some x) j
    here j tells = grind (arith, gets, nat_tests)

get_removed : (m : FinMap nat_cmp ℕ) (k : ℕ) → ◌≡◌ {A = ℕ → Option ℕ} (λ j. get (remove m k) j) (put (λ j. get m j) k None)
get_removed m k = fun_ext (λ j. here j (put_tells (λ j. get m j) k None j))
  where
    here : (j : ℕ) → ((j ≡ k) × (put (λ j. get m j) k None j ≡ None)) ⊎ ((j ≢ k) × (put (λ j. get m j) k None j ≡ get m j))
        → get (remove m k) j ≡ put (λ j. get m j) k None j
    here j tells = grind (arith, gets, nat_tests)

-- what is written at a place stands to what was there as each thing does to itself, and no other place was written
related_put : {A : Type 0} (R : A → A → Type 0) (g : ℕ → A) (k : ℕ) (a : A) (j : ℕ) → ((b : A) → R b b) → R a (g k) → R (put g k a j) (g j)
related_put {A} R g k a j same here = elim (same_or_other j k) [
  | inl e ↦ subst (λ (w : ℕ). R (put g k a w) (g w)) (sym e) (subst (λ (b : A). R b (g k)) (sym (put_same g k a)) here)
  | inr other ↦ subst (λ (b : A). R b (g j)) (sym (put_other g k a j other)) (same (g j))
]

-- files
pub sizes_at : (xs : List FileState) (f : ℕ) → sizes_of xs f ≡ (slice_index_or xs f no_file).size
unfolding sizes_of
sizes_at xs f = refl

pub pendings_at : (xs : List FileState) (f : ℕ) → pendings_of xs f ≡ (slice_index_or xs f no_file).map.pending
unfolding pendings_of
pendings_at xs f = refl

pub spares_at : (xs : List FileState) (f : ℕ) → spares_of xs f ≡ (slice_index_or xs f no_file).map.spare
unfolding spares_of
spares_at xs f = refl

pub sets_at : (xs : List FileState) (f : ℕ) → sets_of xs f ≡ is_member (slice_index_or xs f no_file).map.regions
unfolding sets_of
sets_at xs f = refl

pub sizes_set : (xs : List FileState) (f : ℕ) (y : FileState) → f < length xs → sizes_of (slice_set xs f y) ≡ put (sizes_of xs) f y.size
unfolding sizes_of
sizes_set xs f y l = at_set (λ file. file.size) no_file xs f y l

pub sizes_same : (xs : List FileState) (f : ℕ) (y : FileState) → f < length xs → y.size ≡ (slice_index_or xs f no_file).size
    → sizes_of (slice_set xs f y) ≡ sizes_of xs
unfolding sizes_of
sizes_same xs f y l e = at_same (λ file. file.size) no_file xs f y l e

pub pendings_set : (xs : List FileState) (f : ℕ) (y : FileState) → f < length xs
    → pendings_of (slice_set xs f y) ≡ put (pendings_of xs) f y.map.pending
unfolding pendings_of
pendings_set xs f y l = at_set (λ file. file.map.pending) no_file xs f y l

pub pendings_same : (xs : List FileState) (f : ℕ) (y : FileState) → f < length xs
    → y.map.pending ≡ (slice_index_or xs f no_file).map.pending → pendings_of (slice_set xs f y) ≡ pendings_of xs
unfolding pendings_of
pendings_same xs f y l e = at_same (λ file. file.map.pending) no_file xs f y l e

pub spares_set : (xs : List FileState) (f : ℕ) (y : FileState) → f < length xs
    → spares_of (slice_set xs f y) ≡ put (spares_of xs) f y.map.spare
unfolding spares_of
spares_set xs f y l = at_set (λ file. file.map.spare) no_file xs f y l

pub spares_same : (xs : List FileState) (f : ℕ) (y : FileState) → f < length xs
    → y.map.spare ≡ (slice_index_or xs f no_file).map.spare → spares_of (slice_set xs f y) ≡ spares_of xs
unfolding spares_of
spares_same xs f y l e = at_same (λ file. file.map.spare) no_file xs f y l e

pub sets_set : (xs : List FileState) (f : ℕ) (y : FileState) → f < length xs
    → sets_of (slice_set xs f y) ≡ put (sets_of xs) f (is_member y.map.regions)
unfolding sets_of
sets_set xs f y l = at_set {B = ℕ → Bool} (λ file. is_member file.map.regions) no_file xs f y l

pub sets_same : (xs : List FileState) (f : ℕ) (y : FileState) → f < length xs
    → y.map.regions ≡ (slice_index_or xs f no_file).map.regions → sets_of (slice_set xs f y) ≡ sets_of xs
unfolding sets_of
sets_same xs f y l e =
    at_same {B = ℕ → Bool} (λ file. is_member file.map.regions) no_file xs f y l
    (ap {B = ℕ → Bool} (λ (rs : List Region). is_member rs) e)

pub pages_at : (xs : List FileState) (f i : ℕ) → pages_of xs f i ≡ get (slice_index_or xs f no_file).cache.pages i
unfolding pages_of
pages_at xs f i = refl

pub pages_are : (xs : List FileState) (f : ℕ) → ◌≡◌ {A = ℕ → Option ℕ} (pages_of xs f) (get (slice_index_or xs f no_file).cache.pages)
unfolding pages_of
pages_are xs f = refl

pub pages_same : (xs : List FileState) (f : ℕ) (y : FileState) → f < length xs → y.cache.pages ≡ (slice_index_or xs f no_file).cache.pages
    → pages_of (slice_set xs f y) ≡ pages_of xs
unfolding pages_of
pages_same xs f y l e =
    at_same {B = ℕ → Option ℕ} (λ file. get file.cache.pages) no_file xs f y l (ap {B = ℕ → Option ℕ} (λ (m : FinMap nat_cmp ℕ). get m) e)

-- one page comes, or goes
pages_put : (xs : List FileState) (f i : ℕ) (o : Option ℕ) (y : FileState) → f < length xs
    → ◌≡◌ {A = ℕ → Option ℕ} (λ j. get y.cache.pages j) (put (λ j. get (slice_index_or xs f no_file).cache.pages j) i o)
    → pages_of (slice_set xs f y) ≡ put2 (pages_of xs) f i o
unfolding pages_of
pages_put xs f i o y l e =
    at_set {B = ℕ → Option ℕ} (λ file. get file.cache.pages) no_file xs f y l
    ∙ ap (λ (m : ℕ → Option ℕ). put (λ (k : ℕ). get (slice_index_or xs k no_file).cache.pages) f m) e

pub pages_placed : (xs : List FileState) (f i x : ℕ) (y : FileState) → f < length xs
    → y.cache.pages ≡ insert (slice_index_or xs f no_file).cache.pages i x → pages_of (slice_set xs f y) ≡ put2 (pages_of xs) f i (Some x)
pages_placed xs f i x y l e =
    pages_put xs f i (Some x) y l
    (ap {B = ℕ → Option ℕ} (λ (m : FinMap nat_cmp ℕ) (j : ℕ). get m j) e ∙ get_inserted (slice_index_or xs f no_file).cache.pages i x)

pub pages_evicted : (xs : List FileState) (f i : ℕ) (y : FileState) → f < length xs
    → y.cache.pages ≡ remove (slice_index_or xs f no_file).cache.pages i → pages_of (slice_set xs f y) ≡ put2 (pages_of xs) f i None
pages_evicted xs f i y l e =
    pages_put xs f i None y l
    (ap {B = ℕ → Option ℕ} (λ (m : FinMap nat_cmp ℕ) (j : ℕ). get m j) e ∙ get_removed (slice_index_or xs f no_file).cache.pages i)

-- one index leaves a file's set
pub sets_without : (xs : List FileState) (f i : ℕ) (y : FileState) → f < length xs
    → is_member y.map.regions ≡ put (is_member (slice_index_or xs f no_file).map.regions) i false
    → sets_of (slice_set xs f y) ≡ put2 (sets_of xs) f i false
unfolding sets_of
sets_without xs f i y l e =
    at_set {B = ℕ → Bool} (λ file. is_member file.map.regions) no_file xs f y l
    ∙ ap (λ (m : ℕ → Bool). put (λ (k : ℕ). is_member (slice_index_or xs k no_file).map.regions) f m) e

-- the capacity of a file's parts
pub map_capacities_same : (xs : List FileState) (f : ℕ) (y : FileState) → f < length xs
    → y.map.capacity ≡ (slice_index_or xs f no_file).map.capacity → map_capacities_of (slice_set xs f y) ≡ map_capacities_of xs
unfolding map_capacities_of
map_capacities_same xs f y l e = at_same (λ file. file.map.capacity) no_file xs f y l e

pub cache_capacities_same : (xs : List FileState) (f : ℕ) (y : FileState) → f < length xs
    → y.cache.capacity ≡ (slice_index_or xs f no_file).cache.capacity → cache_capacities_of (slice_set xs f y) ≡ cache_capacities_of xs
unfolding cache_capacities_of
cache_capacities_same xs f y l e = at_same (λ file. file.cache.capacity) no_file xs f y l e

-- a cache may give chunks back
no_more_chunks : (capacity : ChunkCapacity) → NoMoreChunks capacity capacity
no_more_chunks capacity = (omega arith, refl)

pub cache_capacities_shrink : (xs : List FileState) (f : ℕ) (y : FileState) (file : ℕ) → f < length xs
    → NoMoreChunks y.cache.capacity (slice_index_or xs f no_file).cache.capacity
    → NoMoreChunks (cache_capacities_of (slice_set xs f y) file) (cache_capacities_of xs file)
unfolding cache_capacities_of
cache_capacities_shrink xs f y file l less =
    let before : ℕ → ChunkCapacity = λ (k : ℕ). (slice_index_or xs k no_file).cache.capacity in
    subst (λ (after : ℕ → ChunkCapacity). NoMoreChunks (after file) (before file)) (sym (at_set (λ x. x.cache.capacity) no_file xs f y l))
    (related_put NoMoreChunks before f y.cache.capacity file no_more_chunks less)

-- tasks
pub ready_at : (xs : List Table) (t : ℕ) → ready_by_task xs t ≡ (table_of xs t).ready
unfolding ready_by_task
ready_at xs t = refl

pub mappings_at : (xs : List Table) (t : ℕ) → mappings_by_task xs t ≡ (table_of xs t).mappings
unfolding mappings_by_task
mappings_at xs t = refl

-- what is seen of a function that changes at one place
seen_put : {A B : Type 0} (v : A → B) (f : ℕ → A) (k : ℕ) (a : A)
    → ◌≡◌ {A = ℕ → B} (λ (j : ℕ). v (put f k a j)) (put (λ (j : ℕ). v (f j)) k (v a))
seen_put {A} {B} v f k a = fun_ext (λ j. elim (same_or_other j k) [
  | inl e ↦ subst (λ (w : ℕ). v (put f k a w) ≡ put (λ (u : ℕ). v (f u)) k (v a) w) (sym e)
      (ap v (put_same f k a) ∙ sym (put_same (λ (u : ℕ). v (f u)) k (v a)))
  | inr h ↦ ap v (put_other f k a j h) ∙ sym (put_other (λ (u : ℕ). v (f u)) k (v a) j h)
])

put_known : {A : Type 0} (f : ℕ → A) (k : ℕ) (v : A) → f k ≡ v → put f k v ≡ f
put_known {A} f k v e = subst (λ (w : A). put f k w ≡ f) e (put_self f k)

at_task : (xs : List Table) (t : ℕ) (y : Table) → 1 ≤ t → t ≤ length xs → table_of (slice_set xs (t - 1) y) t ≡ y
at_task xs t y low high = grind (arith, common_steps, nat_tests, get_or-set_same)

off_task : (xs : List Table) (t : ℕ) (y : Table) (j : ℕ) → 1 ≤ t → j ≢ t → table_of (slice_set xs (t - 1) y) j ≡ table_of xs j
off_task xs t y j low h = elim (same_or_other j 0) [
  | inl e ↦ rw e refl
  | inr d ↦ (let q : (j == 0) ≡ false = ne_eqb j 0 d in rw q (get_or-set_other xs (t - 1) (j - 1) y no_table (λ e. h (omega arith))))
]

table_set : (xs : List Table) (t : ℕ) (y : Table) → 1 ≤ t → t ≤ length xs
    → ◌≡◌ {A = ℕ → Table} (λ j. table_of (slice_set xs (t - 1) y) j) (put (λ j. table_of xs j) t y)
table_set xs t y low high = fun_ext (λ j. elim (same_or_other j t) [
  | inl e ↦ subst (λ (w : ℕ). table_of (slice_set xs (t - 1) y) w ≡ put (λ j. table_of xs j) t y w) (sym e)
      (at_task xs t y low high ∙ sym (put_same (λ j. table_of xs j) t y))
  | inr h ↦ off_task xs t y j low h ∙ sym (put_other (λ j. table_of xs j) t y j h)
])

-- a part of one task's table changes
seen_set : {B : Type 0} (v : Table → B) (xs : List Table) (t : ℕ) (y : Table) → 1 ≤ t → t ≤ length xs
    → ◌≡◌ {A = ℕ → B} (λ j. v (table_of (slice_set xs (t - 1) y) j)) (put (λ j. v (table_of xs j)) t (v y))
seen_set {B} v xs t y low high =
    ap {B = ℕ → B} (λ (g : ℕ → Table). λ (j : ℕ). v (g j)) (table_set xs t y low high) ∙ seen_put v (λ j. table_of xs j) t y

pub ready_set : (xs : List Table) (t : ℕ) (y : Table) → 1 ≤ t → t ≤ length xs
    → ready_by_task (slice_set xs (t - 1) y) ≡ put (ready_by_task xs) t y.ready
unfolding ready_by_task
ready_set xs t y low high = seen_set (λ (d : Table). d.ready) xs t y low high

pub ready_same : (xs : List Table) (t : ℕ) (y : Table) → 1 ≤ t → t ≤ length xs → y.ready ≡ (table_of xs t).ready
    → ready_by_task (slice_set xs (t - 1) y) ≡ ready_by_task xs
unfolding ready_by_task
ready_same xs t y low high e =
    seen_set (λ (d : Table). d.ready) xs t y low high ∙ put_known (λ j. (table_of xs j).ready) t y.ready (sym e)

pub mappings_set : (xs : List Table) (t : ℕ) (y : Table) → 1 ≤ t → t ≤ length xs
    → mappings_by_task (slice_set xs (t - 1) y) ≡ put (mappings_by_task xs) t y.mappings
unfolding mappings_by_task
mappings_set xs t y low high = seen_set (λ (d : Table). d.mappings) xs t y low high

pub mappings_same : (xs : List Table) (t : ℕ) (y : Table) → 1 ≤ t → t ≤ length xs → y.mappings ≡ (table_of xs t).mappings
    → mappings_by_task (slice_set xs (t - 1) y) ≡ mappings_by_task xs
unfolding mappings_by_task
mappings_same xs t y low high e =
    seen_set (λ (d : Table). d.mappings) xs t y low high ∙ put_known (λ j. (table_of xs j).mappings) t y.mappings (sym e)

pub entries_at : (xs : List Table) (t v : ℕ) → entries_of xs t v ≡ get (table_of xs t).entries v
unfolding entries_of
entries_at xs t v = refl

pub entries_same : (xs : List Table) (t : ℕ) (y : Table) → 1 ≤ t → t ≤ length xs → y.entries ≡ (table_of xs t).entries
    → entries_of (slice_set xs (t - 1) y) ≡ entries_of xs
unfolding entries_of
entries_same xs t y low high e =
    seen_set {B = ℕ → Option ℕ} (λ (d : Table) (w : ℕ). get d.entries w) xs t y low high
    ∙ put_known {A = ℕ → Option ℕ} (λ j w. get (table_of xs j).entries w) t (λ w. get y.entries w)
    (ap {B = ℕ → Option ℕ} (λ (m : FinMap nat_cmp ℕ) (w : ℕ). get m w) (sym e))

-- one entry comes
pub entries_installed : (xs : List Table) (t v x : ℕ) (y : Table) → 1 ≤ t → t ≤ length xs
    → y.entries ≡ insert (table_of xs t).entries v x → entries_of (slice_set xs (t - 1) y) ≡ put2 (entries_of xs) t v (Some x)
unfolding entries_of
entries_installed xs t v x y low high e =
    seen_set {B = ℕ → Option ℕ} (λ (d : Table) (w : ℕ). get d.entries w) xs t y low high
    ∙ ap (λ (m : ℕ → Option ℕ). put (λ (j : ℕ) (w : ℕ). get (table_of xs j).entries w) t m)
    (ap {B = ℕ → Option ℕ} (λ (m : FinMap nat_cmp ℕ) (w : ℕ). get m w) e ∙ get_inserted (table_of xs t).entries v x)

pub entries_are : (xs : List Table) (t : ℕ) → ◌≡◌ {A = ℕ → Option ℕ} (entries_of xs t) (get (table_of xs t).entries)
unfolding entries_of
entries_are xs t = refl

-- some go
pub entries_set : (xs : List Table) (t : ℕ) (y : Table) → 1 ≤ t → t ≤ length xs
    → entries_of (slice_set xs (t - 1) y) ≡ put (entries_of xs) t (get y.entries)
unfolding entries_of
entries_set xs t y low high = seen_set {B = ℕ → Option ℕ} (λ (d : Table) (w : ℕ). get d.entries w) xs t y low high

-- a space may give some memory back
no_more_capacity : (capacity : SpaceCapacity) → NoMoreCapacity capacity capacity
no_more_capacity capacity = record { mappings = refl; gaps = refl; entries = no_more_chunks capacity.entries; places = omega arith }

pub task_capacities_shrink : (xs : List Table) (t : ℕ) (y : Table) (task : ℕ) → 1 ≤ t → t ≤ length xs
    → NoMoreCapacity y.capacity (table_of xs t).capacity
    → NoMoreCapacity (capacities_by_task (slice_set xs (t - 1) y) task) (capacities_by_task xs task)
unfolding capacities_by_task
task_capacities_shrink xs t y task low high less =
    let before : ℕ → SpaceCapacity = λ (j : ℕ). (table_of xs j).capacity in
    subst (λ (after : ℕ → SpaceCapacity). NoMoreCapacity (after task) (before task))
    (sym (seen_set (λ (d : Table). d.capacity) xs t y low high))
    (related_put NoMoreCapacity before t y.capacity task no_more_capacity less)

-- frames
pub frame_at_set : (xs : List FrameState) (x : ℕ) (s : FrameState) → x < length xs
    → bank.frame_at (slice_set xs x s) ≡ put (bank.frame_at xs) x s
unfolding bank.frame_at
frame_at_set xs x s l = at_set (λ (state : FrameState). state) Hand xs x s l

pub frame_at_is : (xs : List FrameState) (x : ℕ) (s : FrameState) → slice_get xs x ≡ Some s → bank.frame_at xs x ≡ s
unfolding bank.frame_at
frame_at_is xs x s e = get_or_from_slice_get xs x s Hand e

pub frame_got : (xs : List FrameState) (x : ℕ) (s : FrameState) → x < length xs → bank.frame_at xs x ≡ s → slice_get xs x ≡ Some s
unfolding bank.frame_at
frame_got xs x s l e = slice_get-get_or xs x Hand l ∙ ap Some e

-- a page's frame has a word, as the bank says it
pub word_of : (xs : List FrameState) (x : ℕ) → x < length xs → ((word : ℕ) × (bank.frame_at xs x ≡ Placed word))
    → (word : ℕ) × (slice_get xs x ≡ Some (Placed word))
word_of xs x l placed = (placed.0, frame_got xs x (Placed placed.0) l placed.1)

pub ruleset lock_laws = (holders_at, holders_set, get_or_past, length-set)

pub ruleset room_laws = (
  nat_tests,
  ne_eqb,
  set-get_or,
  mappings_at,
  mappings_same,
  ready_set,
  entries_same,
  length-set,
  task_capacities_shrink,
)

pub ruleset change_laws = (
  nat_tests,
  set-get_or,
  sizes_same,
  pendings_at,
  pendings_set,
  spares_at,
  spares_set,
  spares_same,
  sets_at,
  sets_same,
  pages_same,
  length-set,
  map_capacities_same,
  cache_capacities_same,
)

pub ruleset commit_laws = (
  sizes_same,
  pendings_at,
  pendings_set,
  spares_at,
  spares_set,
  sets_at,
  sets_set,
  pages_same,
  length-set,
  map_capacities_same,
  cache_capacities_same,
)

pub ruleset enter_laws = (
  nat_tests,
  ne_eqb,
  sizes_at,
  sizes_set,
  pendings_same,
  spares_same,
  sets_same,
  pages_same,
  mappings_at,
  mappings_set,
  ready_at,
  ready_set,
  entries_same,
  length-set,
  map_capacities_same,
  cache_capacities_same,
  task_capacities_shrink,
)

pub ruleset frame_laws = (frame_at_set, frame_at_is, frame_got, slice_get_within, length-set)

pub ruleset take_laws = (free_frames_is, frame_at_set, frame_at_is, slice_get_within, length-set)

pub ruleset look_laws = (nat_tests, ne_eqb, get_or_read, mappings_at, entries_at, frame_at_is, frame_got)

pub ruleset size_laws = (
  sizes_at,
  sizes_set,
  pendings_same,
  spares_same,
  sets_same,
  pages_same,
  length-set,
  map_capacities_same,
  cache_capacities_same,
)

pub ruleset page_laws = (sizes_at, pages_at)

pub ruleset place_laws = (
  sizes_at,
  sizes_same,
  pendings_same,
  spares_same,
  sets_same,
  pages_at,
  pages_placed,
  frame_at_set,
  frame_at_is,
  frame_got,
  length-set,
  map_capacities_same,
  cache_capacities_same,
)

pub ruleset install_laws = (
  nat_tests,
  ne_eqb,
  sizes_at,
  pages_at,
  mappings_at,
  mappings_same,
  ready_same,
  entries_at,
  entries_installed,
  frame_at_is,
  frame_got,
  length-set,
  task_capacities_shrink,
)

pub ruleset clear_laws = (
  nat_tests,
  ne_eqb,
  mappings_at,
  mappings_same,
  ready_same,
  entries_are,
  entries_set,
  length-set,
  task_capacities_shrink,
)

pub ruleset drop_laws = (
  nat_tests,
  ne_eqb,
  mappings_at,
  mappings_set,
  ready_same,
  entries_at,
  entries_same,
  length-set,
  task_capacities_shrink,
)

pub ruleset evict_laws = (
  sizes_same,
  pendings_same,
  spares_same,
  sets_same,
  pages_at,
  pages_evicted,
  frame_at_set,
  frame_at_is,
  frame_got,
  slice_get_within,
  length-set,
  map_capacities_same,
  cache_capacities_shrink,
)

pub ruleset delete_laws = (
  nat_tests,
  set-get_or,
  sizes_same,
  pendings_at,
  pendings_same,
  spares_at,
  spares_set,
  sets_at,
  sets_without,
  pages_same,
  length-set,
  map_capacities_same,
  cache_capacities_same,
)

pub ruleset tail_laws = (
  get_or_read,
  sizes_same,
  pendings_at,
  pendings_same,
  spares_at,
  spares_same,
  sets_at,
  sets_set,
  pages_same,
  length-set,
  map_capacities_same,
  cache_capacities_same,
)
