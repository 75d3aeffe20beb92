use Rattle.hp_text.proofs.Feeding.{feed_after-append, lines_after-append}
use Rattle.hp_text.proofs.laws.pieces_do_not_show.Goals as goal

pub returns-clause-held : goal.returns-clause-held
returns-clause-held c = feed_after-append

pub returns-clause-lines : goal.returns-clause-lines
returns-clause-lines c = lines_after-append
