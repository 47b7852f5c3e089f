use Rattle.sexp.specs.Elements.{count}
use Rattle.holder.specs.Placed.{erase}
use Rattle.holder.specs.Walks.{first_of}
use Rattle.texts.specs.Walked.{run_from}
use Rattle.books.specs.Meant.{run_from_next}
use Rattle.books.proofs.Listing.{Listing}
use Rattle.books.proofs.checking.Check.+element.Given as goal

-- the elements that are left
abbrev pub decreases-element : goal.decreases-element
decreases-element l = count (first_of (run_from l.self.now.record.text.now l.place))

abbrev pub invariant-loop-rest : goal.invariant-loop-rest
invariant-loop-rest l = Listing l.fn.self l.place l.self l.rest

abbrev pub decreases-loop-rest : goal.decreases-loop-rest
decreases-loop-rest l = count (erase (run_from_next l.fn.self.record.text.now l.rest))
