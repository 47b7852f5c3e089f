use Rattle.std.proofs.Common.{take}
use Rattle.holder.specs.Placed.{erase}
use Rattle.rules.proofs.Books.{enumerate}
use Rattle.fitting.proofs.Running.{SoFar}
use Rattle.fitting.proofs.runs.run.Given as goal

abbrev pub invariant-loop-call : goal.invariant-loop-call
invariant-loop-call g l =
    let tree = (g.H.Holder.meaning l.holder).tree in
    SoFar l.book tree (enumerate l.book (erase tree)) (take l.call-index l.calls) l.answers.items l.job
