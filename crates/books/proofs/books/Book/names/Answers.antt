use Rattle.books.proofs.Numbered.{at_pattern, names_read}
use Rattle.books.proofs.books.Book.names.Goals as goal

pub check_pattern-requires : goal.check_pattern-requires
check_pattern-requires c =
    let at = c.in_ok-text in
    at_pattern c.args.self.now c.args.rule at.text at.place at.ensures.stands c.in_ok-pattern.ensures

pub returns-clause-names : goal.returns-clause-names
returns-clause-names c =
    let at = c.in_ok-text in
    rw c.ok.ensures.value
    (names_read c.args.self.now c.args.rule at.text at.place at.ensures.stands c.in_ok-pattern.ensures c.check_pattern.result c.check_pattern.ensures)
