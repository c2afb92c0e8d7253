use Rattle.std.proofs.Common.{rules, sym}
use Rattle.der_base.specs.Tag.{label}
use Rattle.der_base.proofs.TextLemmas.{two_digits}
use Rattle.der_base.proofs.tag.TagDebug.fmt.Goals as goal

pub returns : goal.returns
returns g c =
    rw (sym (two_digits (label c.args.self.now).number)) (search (rules, c.number-number.ensures, c.in_radix.ensures, c.laid_out.ensures, c.write.ensures))
