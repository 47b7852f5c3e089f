use Rattle.std.proofs.Common.{[], ◌∷◌}
use Rattle.sexp.specs.Elements.{Elements, count}
use Rattle.holder.specs.Placed.{run_at}
use Rattle.holder.specs.Walks.{first_of}
use Rattle.texts.specs.Label.{text_tree}
use Rattle.fitting.specs.Cursors.{elements_from}
use Rattle.fitting.proofs.Loops.{InList}
use Rattle.fitting.proofs.Putting.{Putting}
use Rattle.fitting.proofs.Filled.{filled}
use Rattle.fitting.proofs.searching.Search.+put.Given as goal

-- how many elements of the template there are, those inside it counted
abbrev pub decreases-put : goal.decreases-put
decreases-put g l = count (first_of (run_at l.place (text_tree l.self.now.text.text.now)))

-- "(" is put, and the text of what the elements passed give
abbrev pub invariant-loop-rest : goal.invariant-loop-rest
invariant-loop-rest g l =
    let tree = text_tree l.self.text.text.now in
    (passed : Elements) × InList tree (run_at l.fn.place tree) passed l.rest × Putting (40 ∷ []) (filled (g.H.Holder.meaning l.self.record.now).tree l.self passed) l.end l.fn.output l.output

-- those left
abbrev pub decreases-loop-rest : goal.decreases-loop-rest
decreases-loop-rest g l = count (elements_from (text_tree l.self.text.text.now) l.rest)
