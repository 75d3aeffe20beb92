use Rattle.std.proofs.Common.{◌∙◌, ℕ, ◌++◌, length, ap}
use Rattle.std.specs.List.{flat_map}
use Rattle.std.specs.FinMap as map
use Rattle.hp_chunks.specs.Framed.{entry_at}
use Rattle.hp_key.specs.Key.{page_words}
use Rattle.hp_key.proofs.Writing.{one_index, pages_begin, pages_counted, pages_end}
use Rattle.hp_key.proofs.lists.push_pages.Goals as goal

pub loop-number-init : goal.loop-number-init
loop-number-init c =
    let pages = c.args.cache.now.pages in
    pages_begin (page_words c.args.bank.now.frames) (map.get pages) c.args.words.now.items c.push.new.self.items c.count.result
    (length (map.entries pages)) c.in_ok-push.ensures.items
    (pages_counted pages c.top-number-end.result c.count.result c.top-number-end.ensures.end c.top-number-end.ensures.in_limit
    c.count.ensures.count)

pub loop-number-preserved : goal.loop-number-preserved
loop-number-preserved c =
    let pages = c.args.cache.now.pages in
    let words = page_words c.args.bank.now.frames in
    one_index words (map.get pages) c.args.words.now.items c.loop-number.words.items c.push_page.new.words.items
    (length (map.entries pages)) c.loop-number.number c.loop-number.invariant
    (c.in_ok-push_page.ensures
    ∙ ap (λ (i : ℕ). c.loop-number.words.items ++ flat_map words (entry_at i (map.get pages i))) c.new.ensures)

pub returns : goal.returns
returns c =
    pages_end (page_words c.args.bank.now.frames) c.args.cache.now.pages c.args.words.now.items c.loop-number.words.items
    c.top-number-end.result c.loop-number.number c.top-number-end.ensures.end c.loop-number-test.false c.loop-number.invariant
