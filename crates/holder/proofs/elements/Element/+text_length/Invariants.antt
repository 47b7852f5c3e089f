use Rattle.sexp.specs.Elements.{count, depth}
use Rattle.holder.specs.Placed.{erase}
use Rattle.holder.specs.Walks.{first_of, run_of}
use Rattle.holder.proofs.Loops.{Counted}
use Rattle.holder.proofs.elements.Element.+text_length.Given as goal

abbrev pub decreases-text_length : goal.decreases-text_length
decreases-text_length g l = depth (first_of l.self.now)

abbrev pub invariant-loop-rest : goal.invariant-loop-rest
invariant-loop-rest g l = Counted l.self (run_of l.rest) l.total

abbrev pub decreases-loop-rest : goal.decreases-loop-rest
decreases-loop-rest g l = count (erase (run_of l.rest))
