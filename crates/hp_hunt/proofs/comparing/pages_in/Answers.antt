use Rattle.std.proofs.Common.{ap, arith}
use Rattle.hp_base.specs.Text.{Sizes}
use Rattle.hp_hunt.proofs.Compared.{no_pages}
use Rattle.hp_hunt.proofs.comparing.pages_in.Goals as goal

pub returns : goal.returns
returns c =
    no_pages c.args.core.now c.args.file c.nothing_lies_beyond_the_limits.ensures c.always.ensures.config
    (λ there. omega (arith, there, c.if-number-config.false, c.number.ensures, ap (λ (z : Sizes). z.files) c.config.ensures))
