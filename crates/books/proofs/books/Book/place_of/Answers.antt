use Rattle.std.proofs.Common.{arith}
use Rattle.books.proofs.Taken.{book_lawful}
use Rattle.books.proofs.Numbered.{no_zero, past, standing}
use Rattle.books.proofs.books.Book.place_of.Goals as goal

pub returns-in_err-checked_sub-clause-stands : goal.returns-in_err-checked_sub-clause-stands
returns-in_err-checked_sub-clause-stands c = rw c.from_residual.ensures (no_zero c.args.self.now c.args.rule (grind arith))

pub returns-in_err-checked_sub-clause-lawful : goal.returns-in_err-checked_sub-clause-lawful
returns-in_err-checked_sub-clause-lawful c = rw (← c.self.view_is) (book_lawful c.self.invariant)

pub returns-in_err-place-clause-stands : goal.returns-in_err-place-clause-stands
returns-in_err-place-clause-stands c =
    rw (← c.self.view_is, c.from_residual-in_err-place.ensures)
    (past c.self.invariant c.args.rule c.in_ok-checked_sub.ensures c.in_err-place.ensures.lookup.3)

pub returns-in_err-place-clause-lawful : goal.returns-in_err-place-clause-lawful
returns-in_err-place-clause-lawful c = rw (← c.self.view_is) (book_lawful c.self.invariant)

pub returns-clause-stands : goal.returns-clause-stands
returns-clause-stands c =
    let at = c.in_ok-place.ensures.lookup.3 in
    rw (← c.self.view_is) (standing c.self.invariant c.args.rule c.in_ok-checked_sub.ensures at.0 (at.1 0))

pub returns-clause-lawful : goal.returns-clause-lawful
returns-clause-lawful c = rw (← c.self.view_is) (book_lawful c.self.invariant)
