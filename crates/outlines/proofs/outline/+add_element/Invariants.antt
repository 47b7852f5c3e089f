use Rattle.sexp.specs.Elements.{count, depth}
use Rattle.holder.specs.Placed.{erase}
use Rattle.holder.specs.Walks.{first_of, run_of}
use Rattle.outlines.proofs.Lists.{Listing}
use Rattle.outlines.proofs.outline.+add_element.Given as goal

-- the depth that is left
abbrev pub decreases-add_element : goal.decreases-add_element
decreases-add_element g l = depth (first_of l.element.now)

abbrev pub invariant-loop-rest : goal.invariant-loop-rest
invariant-loop-rest g l = Listing l.element (run_of l.rest) l.depth l.fn.lines.items l.lines.items

abbrev pub decreases-loop-rest : goal.decreases-loop-rest
decreases-loop-rest g l = count (erase (run_of l.rest))
