use Rattle.std.proofs.Common.{Some}
use Rattle.sexp.specs.Elements.{Elements}
use Rattle.fitting.specs.Cursors.{elements_from}
use Rattle.fitting.specs.Pieces.{IsSize}
use Rattle.fitting.proofs.Loops.{InRun}
use Rattle.fitting.proofs.pieces.size_of_run.Given as goal

-- the size is that of the elements passed
abbrev pub invariant-loop : goal.invariant-loop
invariant-loop g l =
    let tree = (g.H.Holder.meaning l.holder).tree in
    (done : Elements) × InRun tree (elements_from tree (Some l.fn.first)) done l.counter l.rest × IsSize done l.size
