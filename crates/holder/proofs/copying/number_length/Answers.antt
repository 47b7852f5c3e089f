use Rattle.std.proofs.Common.{rules, ap, sym, length}
use Rattle.std.proofs.lemmas.Fmt.{decimal_digit}
use Rattle.holder.proofs.copying.number_length.Goals as goal

pub returns-in-0-to-9-clause-octets : goal.returns-in-0-to-9-clause-octets
returns-in-0-to-9-clause-octets c = sym (ap length (decimal_digit c.args.number (search rules)))
