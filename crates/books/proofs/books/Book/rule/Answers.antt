use Rattle.books.proofs.Numbered.{at_pattern, no_template, lies}
use Rattle.books.proofs.books.Book.rule.Goals as goal

pub next_after-requires : goal.next_after-requires
next_after-requires c =
    let at = c.in_ok-text in
    at_pattern c.args.self.now c.args.rule at.text at.place at.ensures.stands c.in_ok-pattern.ensures

pub returns-in_err-template-clause-held : goal.returns-in_err-template-clause-held
returns-in_err-template-clause-held c =
    let at = c.in_ok-text in
    rw c.from_residual-in_err-template.ensures
    (no_template c.args.self.now c.args.rule at.text at.place at.ensures.stands c.in_ok-pattern.ensures c.in_err-template.ensures)

pub returns-clause-held : goal.returns-clause-held
returns-clause-held c =
    let at = c.in_ok-text in
    lies c.args.self.now c.args.rule at.text at.place at.ensures.stands c.in_ok-pattern.ensures c.in_ok-template.ensures
