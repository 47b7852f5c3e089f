use Rattle.std.proofs.Common.{length}
use Rattle.sexp.specs.Elements.{count}
use Rattle.holder.specs.Placed.{erase}
use Rattle.holder.specs.Walks.{run_of}
use Rattle.holder.proofs.Loops.{Putting}
use Rattle.holder.proofs.elements.Element.+put_text.Given as goal

abbrev pub decreases-put_text : goal.decreases-put_text
decreases-put_text g l = length l.output.now

abbrev pub invariant-loop-rest : goal.invariant-loop-rest
invariant-loop-rest g l = Putting l.self (run_of l.rest) l.at l.fn.output l.output

abbrev pub decreases-loop-rest : goal.decreases-loop-rest
decreases-loop-rest g l = count (erase (run_of l.rest))
