use Rattle.std.proofs.Common.{◌≡◌, ℕ, ◌+◌, ◌≤◌, List, true≢false, ap, sym, ◌∙◌, arith}
use Rattle.std.proofs.lemmas.List.Sums.{prefix_len-le-length}
use Rattle.std.specs.FinMap as map
use Rattle.std.specs.List.{insert, prefix_len, remove}
use Rattle.hp_base.specs.declared.limits.TheConstants.{LIMIT, VPNS}
use Rattle.hp_base.specs.declared.mapping.Mapping.{Mapping}
use Rattle.hp_base.specs.Mappings.{entered, find, fits}
use Rattle.hp_table.specs.Gaps.{gaps_of}
use Rattle.hp_table.specs.Table.{Table}
use Rattle.hp_table.proofs.Agreeing.{agree_other}
use Rattle.hp_table.proofs.GapsOf.{remove_insert}
use Rattle.hp_table.proofs.Mapped.{found_stays, found_same}
use Rattle.hp_table.proofs.Spread.{begins, insert_is, All-entered, IsSpread-entered}
use Rattle.hp_table.proofs.space.Space.enter.Goals as goal

pub insert-requires : goal.insert-requires
insert-requires c = omega (arith, c.begun-at.ensures, c.deref.ensures.len, prefix_len-le-length (begins c.args.base) c.deref.result.now)

-- the list with the mapping at its place
placed : (ms seen later : List Mapping) (new : Mapping) (at : ℕ) → at ≡ prefix_len (begins new.base) seen → seen ≡ ms
    → later ≡ insert ms at new → later ≡ entered ms new
placed ms seen later new at place same edited = edited ∙ insert_is ms seen new at place same

items : (c : goal.After-self-1)
    → c.insert.new.self.items ≡ entered c.self.inside.mappings.items
    (record { base = c.args.base; file = c.args.file; from = c.args.from; len = c.args.len })
items c =
    placed c.self.inside.mappings.items c.deref.result.now c.insert.new.self.items
    (record { base = c.args.base; file = c.args.file; from = c.args.from; len = c.args.len }) c.begun-at.result
    c.begun-at.ensures c.deref.ensures.value (rw c.unwrap.ensures at c.insert.ensures.items)

pub fill-requires-clause-gaps : goal.fill-requires-clause-gaps
fill-requires-clause-gaps c =
    let ms = c.self.inside.mappings.items in
    let new : Mapping = record { base = c.args.base; file = c.args.file; from = c.args.from; len = c.args.len } in
    let edited = rw c.unwrap.ensures at c.insert.ensures.items in
    let bound = rw c.deref.ensures.value at (prefix_len-le-length (begins c.args.base) c.deref.result.now) in
    let place = rw c.deref.ensures.value at c.begun-at.ensures in
    let gone = ap (λ (xs : List Mapping). remove xs c.begun-at.result) (c.deref-2.ensures.value ∙ edited)
    ∙ remove_insert ms c.begun-at.result new (omega (arith, bound, place)) in
    c.self.invariant.gaps ∙ sym (ap (gaps_of 0) gone)

pub fill-requires-clause-spread : goal.fill-requires-clause-spread
fill-requires-clause-spread c =
    let ms = c.self.inside.mappings.items in
    let new : Mapping = record { base = c.args.base; file = c.args.file; from = c.args.from; len = c.args.len } in
    let room = ap (λ (t : Table). fits VPNS t.mappings c.args.base c.args.len) c.self.view_is ∙ c.requires.fits in
    let placed = placed ms c.deref.result.now c.insert.new.self.items new c.begun-at.result c.begun-at.ensures
    c.deref.ensures.value (rw c.unwrap.ensures at c.insert.ensures.items) in
    rw (c.deref-2.ensures.value, placed) (IsSpread-entered VPNS 0 ms new c.self.invariant.spread (omega arith) c.requires.some room)

pub invariant_of-self : goal.invariant_of-self
invariant_of-self c =
    let ms = c.self.inside.mappings.items in
    let new : Mapping = record { base = c.args.base; file = c.args.file; from = c.args.from; len = c.args.len } in
    let room = ap (λ (t : Table). fits VPNS t.mappings c.args.base c.args.len) c.self.view_is ∙ c.requires.fits in
    let ready = ap (λ (t : Table). t.ready) c.self.view_is ∙ c.requires.ready in
    let grown = rw c.unwrap.ensures at c.insert.ensures.len in
    record {
      spread = rw (items c) (IsSpread-entered VPNS 0 ms new c.self.invariant.spread (omega arith) c.requires.some room);
      in_files = rw (items c) (All-entered (λ m. m.from + m.len ≤ LIMIT) ms new c.self.invariant.in_files c.requires.in_file);
      mapped = rw (items c) (λ v some. found_stays ms new VPNS v room (c.self.invariant.mapped v some));
      agree =
          rw (items c) (agree_other (find ms) (map.get c.self.inside.entries.frames) c.self.inside.places c.self.invariant.agree
          (find (entered ms new)) (λ v some. found_same ms new VPNS v room (c.self.invariant.mapped v some)));
      gaps = c.fill.ensures.gaps ∙ ap (gaps_of 0) c.deref-2.ensures.value;
      places = omega (arith, (c.self.invariant.capacity ready).1, grown, c.fill.ensures.capacity);
      capacity = λ ready. absurd (true≢false (sym ready));
    }

pub returns-clause-mappings : goal.returns-clause-mappings
returns-clause-mappings c = rw (← c.self.view_is) (items c)
