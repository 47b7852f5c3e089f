use Rattle.sexp.specs.Elements.{Elements, count}
use Rattle.holder.specs.Placed.{run_at}
use Rattle.holder.specs.Walks.{first_of}
use Rattle.fitting.specs.Cursors.{elements_from}
use Rattle.fitting.specs.Pieces.{IsSize}
use Rattle.fitting.proofs.Loops.{InList}
use Rattle.fitting.proofs.pieces.+size_of.Given as goal

-- how many elements there are, those inside it counted
abbrev pub decreases-size_of : goal.decreases-size_of
decreases-size_of g l = count (first_of (run_at l.place (g.H.Holder.meaning l.holder.now).tree))

-- the size is that of the elements passed
abbrev pub invariant-loop-rest : goal.invariant-loop-rest
invariant-loop-rest g l =
    let tree = (g.H.Holder.meaning l.holder).tree in
    (done : Elements) × InList tree (run_at l.fn.place tree) done l.rest × IsSize done l.inner

-- those left
abbrev pub decreases-loop-rest : goal.decreases-loop-rest
decreases-loop-rest g l = count (elements_from (g.H.Holder.meaning l.holder).tree l.rest)
