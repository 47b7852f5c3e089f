use Rattle.std.proofs.Common.{[], Some}
use Rattle.sexp.specs.Elements.{Elements}
use Rattle.fitting.specs.Cursors.{elements_from}
use Rattle.fitting.proofs.Loops.{InRun}
use Rattle.fitting.proofs.Putting.{Putting}
use Rattle.fitting.proofs.pieces.put_run.Given as goal

-- the text of the elements passed is put
abbrev pub invariant-loop : goal.invariant-loop
invariant-loop g l =
    let tree = (g.H.Holder.meaning l.holder).tree in
    (done : Elements) × InRun tree (elements_from tree (Some l.fn.first)) done l.counter l.rest × Putting [] done l.end l.fn.output l.output
