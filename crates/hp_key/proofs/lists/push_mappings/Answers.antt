use Rattle.std.proofs.Common.{◌∙◌, ◌+◌, ◌-◌, ◌<◌, ◌≡◌, ◌++◌, length, get_or, ap, sym, arith, refl}
use Rattle.hp_base.specs.Mappings.{find}
use Rattle.hp_base.specs.declared.mapping.Mapping.{Mapping}
use Rattle.hp_key.specs.Key.{mapping_words}
use Rattle.hp_key.proofs.Mapped.{base_is, end_is, end_next, next_at, next_mapping, spread_ends}
use Rattle.hp_key.proofs.Writing.{one_more, read_is, some_is}
use Rattle.hp_key.proofs.lists.push_mappings.Goals as goal

no_mapping : Mapping
no_mapping = record { base = 0; file = 0; from = 0; len = 0 }

pub overflow_cast-count : goal.overflow_cast-count
overflow_cast-count c =
    let few = spread_ends 16384 0 c.args.space.now.mappings c.mappings-count.ensures.spread in
    omega (arith, few, c.mappings-count.ensures.value)

pub next_base-base-requires : goal.next_base-base-requires
next_base-base-requires c =
    let ms = c.args.space.now.mappings in
    let k = c.loop.counter in
    let within : k < length ms = omega (arith, c.loop-test.true, c.mappings-count.ensures.value) in
    let next = next_mapping 16384 0 ms k no_mapping c.mappings-count.ensures.spread within in
    omega (arith, next.above, next.within, c.loop.invariant.end)

pub end_of-end-requires : goal.end_of-end-requires
end_of-end-requires c =
    let ms = c.args.space.now.mappings in
    let k = c.loop.counter in
    let within : k < length ms = omega (arith, c.loop-test.true, c.mappings-count.ensures.value) in
    let next = next_at ms k c.loop.end no_mapping c.mappings-count.ensures.spread within c.loop.invariant.end in
    let found = c.next_base-base.ensures in
    let is = base_is c.next_base-base.result next found.above found.none found.begins in
    omega (arith, next.within, next.some, is)

pub unwrap-file-requires : goal.unwrap-file-requires
unwrap-file-requires c =
    let ms = c.args.space.now.mappings in
    let k = c.loop.counter in
    let m = get_or ms k no_mapping in
    let within : k < length ms = omega (arith, c.loop-test.true, c.mappings-count.ensures.value) in
    let next = next_at ms k c.loop.end no_mapping c.mappings-count.ensures.spread within c.loop.invariant.end in
    let found = c.next_base-base.ensures in
    let is = base_is c.next_base-base.result next found.above found.none found.begins in
    some_is c.find.result (m.file, m.from) (c.find.ensures.found ∙ (ap (find ms) (c.new.ensures ∙ is) ∙ next.found))

pub loop-preserved : goal.loop-preserved
loop-preserved c =
    let ms = c.args.space.now.mappings in
    let k = c.loop.counter in
    let m = get_or ms k no_mapping in
    let within : k < length ms = omega (arith, c.loop-test.true, c.mappings-count.ensures.value) in
    let next = next_at ms k c.loop.end no_mapping c.mappings-count.ensures.spread within c.loop.invariant.end in
    let found = c.next_base-base.ensures in
    let is = base_is c.next_base-base.result next found.above found.none found.begins in
    let place : c.unwrap-file.result ≡ (m.file, m.from) = read_is c.find.result c.unwrap-file.result (m.file, m.from) c.unwrap-file.ensures
    (c.find.ensures.found ∙ (ap (find ms) (c.new.ensures ∙ is) ∙ next.found)) in
    let last : c.end_of-end.result ≡ m.base + m.len =
    end_is c.next_base-base.result c.end_of-end.result next is c.end_of-end.ensures.above c.end_of-end.ensures.all
    c.end_of-end.ensures.ends c.end_of-end.ensures.within in
    let long : c.end_of-end.result - c.next_base-base.result ≡ m.len = omega (arith, is, last) in
    let before = c.loop.words.items in
    let more : c.push_mapping.new.words.items ≡ before ++ mapping_words m =
    c.in_ok-push_mapping.ensures
    ∙ (λ i. before
    ++ mapping_words (record { base = (c.new-in-loop.ensures ∙ is) i; file = (place i).0; from = (place i).1; len = long i })) in
    record {
      written = one_more mapping_words c.args.words.now.items before c.push_mapping.new.words.items (length ms) ms k m no_mapping within
          refl c.loop.invariant.written more;
      end = last ∙ sym (end_next 0 ms k no_mapping within);
    }
