use Rattle.std.proofs.Common.{length}
use Rattle.sexp.proofs.Scan.{Sofar}
use Rattle.sexp.proofs.tokens.length_of.Given as goal

abbrev pub invariant-loop-rest : goal.invariant-loop-rest
invariant-loop-rest l = Sofar l.text l.rest l.length

abbrev pub decreases-loop-rest : goal.decreases-loop-rest
decreases-loop-rest l = length l.rest
