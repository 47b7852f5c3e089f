use Rattle.std.proofs.Common.{◌≡◌, ◌∙◌, ap, Some, None, arith}
use Rattle.std.proofs.lemmas.Result.{err_from_is_err_and}
use Rattle.sexp.specs.declared.refusals.Refusal.TheVariants.{NoRule}
use Rattle.books.specs.Drafts.{Drafted, take_verdict, taking}
use Rattle.books.proofs.Runs.{passed_stands}
use Rattle.books.proofs.Taken.{book_lawful, keeps_more, none_refused, full_refused, fault_refused, not_refused, taken_one}
use Rattle.books.proofs.Lawful.{taken_written}
use Rattle.books.proofs.drafts.Draft.take.Goals as goal

pub returns-clause-left : goal.returns-clause-left
returns-clause-left c =
    let d = c.self.inside in
    let is : d.next ≡ Some c.in_ok-place.place = grind arith in
    taken_one c.self.invariant.0 is c.self.invariant.1 c.if-self-ge-MOST_RULES.false c.in_ok-check_rule.ensures d.record.ok _ c.next_after-self-inside.ensures
    ∙ ap (λ (w : Drafted). taking w (take_verdict w)) c.self.view_is

pub returns-in_err-place-clause-refused : goal.returns-in_err-place-clause-refused
returns-in_err-place-clause-refused c =
    let is : c.self.inside.next ≡ None = grind arith in
    let no : c.in_err-place.field-0.0 ≡ NoRule = grind arith in
    let p = err_from_is_err_and c.from_residual.result c.from_residual.ensures.1 in
    rw (← c.self.view_is, p.1, p.2, no) (none_refused c.self.invariant.0 is)

pub returns-in_err-place-clause-lawful : goal.returns-in_err-place-clause-lawful
returns-in_err-place-clause-lawful c = rw (← c.self.view_is) (book_lawful c.self.invariant.0)

pub returns-then-self-ge-MOST_RULES-clause-refused : goal.returns-then-self-ge-MOST_RULES-clause-refused
returns-then-self-ge-MOST_RULES-clause-refused c =
    let is : c.self.inside.next ≡ Some c.in_ok-place.place = grind arith in
    rw (← c.self.view_is) (full_refused c.self.invariant.0 is c.self.invariant.1 c.if-self-ge-MOST_RULES.true)

pub returns-then-self-ge-MOST_RULES-clause-lawful : goal.returns-then-self-ge-MOST_RULES-clause-lawful
returns-then-self-ge-MOST_RULES-clause-lawful c = rw (← c.self.view_is) (book_lawful c.self.invariant.0)

pub returns-in_err-check_rule-clause-refused : goal.returns-in_err-check_rule-clause-refused
returns-in_err-check_rule-clause-refused c =
    let is : c.self.inside.next ≡ Some c.in_ok-place.place = grind arith in
    let p = err_from_is_err_and c.from_residual-in_err-check_rule.result c.from_residual-in_err-check_rule.ensures.1 in
    rw (← c.self.view_is, p.1, p.2)
    (fault_refused c.self.invariant.0 is c.self.invariant.1 c.if-self-ge-MOST_RULES.false _ c.in_err-check_rule.ensures)

pub returns-in_err-check_rule-clause-lawful : goal.returns-in_err-check_rule-clause-lawful
returns-in_err-check_rule-clause-lawful c = rw (← c.self.view_is) (book_lawful c.self.invariant.0)

pub invariant_of-self : goal.invariant_of-self
invariant_of-self c =
    let d = c.self.inside in
    let is : d.next ≡ Some c.in_ok-place.place = grind arith in (
      keeps_more c.self.invariant.0 c.in_ok-place.place c.if-self-ge-MOST_RULES.false c.in_ok-check_rule.ensures,
      passed_stands d.record.text.now d.record.ok d.next c.in_ok-place.place is c.self.invariant.1 _ c.next_after-self-inside.ensures,
    )

pub returns-clause-refused : goal.returns-clause-refused
returns-clause-refused c =
    let is : c.self.inside.next ≡ Some c.in_ok-place.place = grind arith in
    rw (← c.self.view_is)
    (not_refused c.self.invariant.0 is c.self.invariant.1 c.if-self-ge-MOST_RULES.false c.in_ok-check_rule.ensures)

pub returns-clause-lawful : goal.returns-clause-lawful
returns-clause-lawful c =
    book_lawful (keeps_more c.self.invariant.0 c.in_ok-place.place c.if-self-ge-MOST_RULES.false c.in_ok-check_rule.ensures)

pub returns-in_err-place-clause-written : goal.returns-in_err-place-clause-written
returns-in_err-place-clause-written c = taken_written c.args.self.now

pub returns-then-self-ge-MOST_RULES-clause-written : goal.returns-then-self-ge-MOST_RULES-clause-written
returns-then-self-ge-MOST_RULES-clause-written c = taken_written c.args.self.now

pub returns-in_err-check_rule-clause-written : goal.returns-in_err-check_rule-clause-written
returns-in_err-check_rule-clause-written c = taken_written c.args.self.now

pub returns-clause-written : goal.returns-clause-written
returns-clause-written c = taken_written c.args.self.now
