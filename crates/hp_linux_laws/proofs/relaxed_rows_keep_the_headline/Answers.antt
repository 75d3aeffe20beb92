use Rattle.hp_linux_laws.proofs.Relaxed.{relaxed_headline}
use Rattle.hp_linux_laws.proofs.relaxed_rows_keep_the_headline.Goals as goal

pub returns : goal.returns
returns c = relaxed_headline
