use Rattle.rules.proofs.Books.{keys_tell_fits, complete_list_exists, at_most_one_complete}
use Rattle.cases.proofs.Cases.{cases_hold}
use Rattle.books.proofs.Taken.{book_lawful}
use Rattle.books.proofs.drafts.Draft.close.Goals as goal

pub returns-clause-lawful : goal.returns-clause-lawful
returns-clause-lawful c = book_lawful c.self.invariant.0

pub returns-clause-keys : goal.returns-clause-keys
returns-clause-keys c = keys_tell_fits

pub returns-clause-some : goal.returns-clause-some
returns-clause-some c = complete_list_exists

pub returns-clause-one : goal.returns-clause-one
returns-clause-one c = at_most_one_complete

pub returns-clause-cases : goal.returns-clause-cases
returns-clause-cases c = cases_hold
