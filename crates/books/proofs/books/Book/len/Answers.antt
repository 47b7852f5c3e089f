use Rattle.books.proofs.Taken.{book_lawful}
use Rattle.books.proofs.books.Book.len.Goals as goal

pub returns-clause-lawful : goal.returns-clause-lawful
returns-clause-lawful c = rw (← c.self.view_is) (book_lawful c.self.invariant)
