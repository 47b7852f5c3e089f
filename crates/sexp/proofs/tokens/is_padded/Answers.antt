use Rattle.sexp.proofs.Scan.{padded_short}
use Rattle.sexp.proofs.tokens.is_padded.Goals as goal

pub returns-in_default : goal.returns-in_default
returns-in_default c = padded_short c.args.text.now c.in_default.len_below
