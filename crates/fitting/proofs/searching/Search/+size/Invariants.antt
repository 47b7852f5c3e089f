use Rattle.sexp.specs.Elements.{Elements, count}
use Rattle.holder.specs.Placed.{run_at}
use Rattle.holder.specs.Walks.{first_of}
use Rattle.texts.specs.Label.{text_tree}
use Rattle.fitting.specs.Cursors.{elements_from}
use Rattle.fitting.specs.Pieces.{IsSize}
use Rattle.fitting.proofs.Loops.{InList}
use Rattle.fitting.proofs.Filled.{filled}
use Rattle.fitting.proofs.searching.Search.+size.Given as goal

-- how many elements of the template there are, those inside it counted
abbrev pub decreases-size : goal.decreases-size
decreases-size g l = count (first_of (run_at l.place (text_tree l.self.now.text.text.now)))

-- the size is that of what the elements passed give
abbrev pub invariant-loop-rest : goal.invariant-loop-rest
invariant-loop-rest g l =
    let tree = text_tree l.self.text.text.now in
    (passed : Elements) × InList tree (run_at l.fn.place tree) passed l.rest × IsSize (filled (g.H.Holder.meaning l.self.record.now).tree l.self passed) l.inner

-- those left
abbrev pub decreases-loop-rest : goal.decreases-loop-rest
decreases-loop-rest g l = count (elements_from (text_tree l.self.text.text.now) l.rest)
