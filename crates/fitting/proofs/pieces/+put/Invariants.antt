use Rattle.std.proofs.Common.{[], ◌∷◌}
use Rattle.sexp.specs.Elements.{Elements, count}
use Rattle.holder.specs.Placed.{run_at}
use Rattle.holder.specs.Walks.{first_of}
use Rattle.fitting.specs.Cursors.{elements_from}
use Rattle.fitting.proofs.Loops.{InList}
use Rattle.fitting.proofs.Putting.{Putting}
use Rattle.fitting.proofs.pieces.+put.Given as goal

-- how many elements there are, those inside it counted
abbrev pub decreases-put : goal.decreases-put
decreases-put g l = count (first_of (run_at l.place (g.H.Holder.meaning l.holder.now).tree))

-- "(" is put, and the text of the elements passed
abbrev pub invariant-loop-rest : goal.invariant-loop-rest
invariant-loop-rest g l =
    let tree = (g.H.Holder.meaning l.holder).tree in
    (done : Elements) × InList tree (run_at l.fn.place tree) done l.rest × Putting (40 ∷ []) done l.end l.fn.output l.output

-- those left
abbrev pub decreases-loop-rest : goal.decreases-loop-rest
decreases-loop-rest g l = count (elements_from (g.H.Holder.meaning l.holder).tree l.rest)
