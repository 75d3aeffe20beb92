use Rattle.std.proofs.Common.{◌≡◌, arith}
use Rattle.std.specs.Prelude.{Some}
use Rattle.hp_parts.specs.View.{entries_of}
use Rattle.hp_parts.proofs.Laws.{look_laws, word_of}
use Rattle.hp_fault.proofs.touch.from_look.Goals as goal

-- the frame that the entry tells is a page's
pub use_page-requires : goal.use_page-requires
use_page-requires c =
    let e : entries_of c.args.parts.now.spaces.items c.args.task c.args.phase.vpn ≡ Some c.in-Some-translate.frame =
    grind (arith, look_laws) in
    let page = rw e at c.requires.page in
    word_of c.args.parts.now.bank.frames _ page.0 page.1
