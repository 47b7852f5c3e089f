use Rattle.std.proofs.Common.{◌≡◌, ◌∙◌, ap, Some, arith}
use Rattle.books.specs.Drafts.{skipped}
use Rattle.books.proofs.Runs.{passed_stands}
use Rattle.books.proofs.Taken.{passed_one}
use Rattle.books.proofs.drafts.Draft.skip.Goals as goal

pub returns-clause-left : goal.returns-clause-left
returns-clause-left c =
    let d = c.self.inside in
    let is : d.next ≡ Some c.in_ok-passed.passed = grind arith in
    passed_one c.self.invariant.0 is c.self.invariant.1 d.record.ok _ c.next_after-self-inside.ensures ∙ ap skipped c.self.view_is

pub invariant_of-self : goal.invariant_of-self
invariant_of-self c =
    let d = c.self.inside in
    let is : d.next ≡ Some c.in_ok-passed.passed = grind arith in (
      c.self.invariant.0,
      passed_stands d.record.text.now d.record.ok d.next c.in_ok-passed.passed is c.self.invariant.1 _ c.next_after-self-inside.ensures,
    )
