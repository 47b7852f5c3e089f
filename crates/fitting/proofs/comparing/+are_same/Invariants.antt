use Rattle.sexp.specs.Elements.{count}
use Rattle.holder.specs.Placed.{run_at}
use Rattle.holder.specs.Walks.{first_of}
use Rattle.fitting.specs.Cursors.{elements_from}
use Rattle.fitting.proofs.Sameness.{Comparing}
use Rattle.fitting.proofs.comparing.+are_same.Given as goal

-- how many elements there are, those inside it counted
abbrev pub decreases-are_same : goal.decreases-are_same
decreases-are_same g l = count (first_of (run_at l.one (g.H.Holder.meaning l.holder.now).tree))

abbrev pub invariant-loop-ones : goal.invariant-loop-ones
invariant-loop-ones g l =
    let tree = (g.H.Holder.meaning l.holder).tree in
    Comparing tree (run_at l.fn.one tree) (run_at l.fn.other tree) l.ones l.others

-- those left
abbrev pub decreases-loop-ones : goal.decreases-loop-ones
decreases-loop-ones g l = count (elements_from (g.H.Holder.meaning l.holder).tree l.ones)
