use Rattle.std.proofs.Common.{◌≤◌, subst, arith}
use Rattle.sexp.specs.Elements.{none}
use Rattle.sexp.specs.Tokens.{lexeme_at, TellsToken}
use Rattle.sexp.specs.Checks.{FindsThat}
use Rattle.sexp.proofs.Spanned.{found_atom, found_list, spans_none, spans_more, spans_deep, spans_close}
use Rattle.sexp.proofs.reader.Progress.+element.Goals as goal

pub returns-in-Atom : goal.returns-in-Atom
returns-in-Atom t c =
    let told = subst (λ k. TellsToken c.args.self.cursor (lexeme_at c.args.self.cursor) k c.in_ok-step.step.next) c.in-Atom.is c.in_ok-step.ensures.token in
    found_atom c.args.self c.in_ok-step.step.next c.max-deepest.result c.in-Atom.octets.now told.0 told.1 told.3 c.max-deepest.ensures

pub loop-behind-init : goal.loop-behind-init
loop-behind-init t c = let level : c.in_ok-step.step.next.depth ≤ c.max-deepest-in-Opening.result = omega (arith, c.max-deepest-in-Opening.ensures) in ((none, spans_none _ level), level)

pub loop-behind-preserved : goal.loop-behind-preserved
loop-behind-preserved t c =
    let found = subst (FindsThat c.loop-behind.at) c.in-Element.is c.in_ok-behind-in-Opening.ensures in
    let so_far = c.loop-behind.invariant.0 in
    let more = spans_more _ c.loop-behind.at c.in-Element.behind so_far.0 found.0.0 so_far.1 found.0.2 in
    ((_, more), spans_deep _ c.in-Element.behind _ more)

pub returns-in-Close : goal.returns-in-Close
returns-in-Close t c =
    let told = subst (λ k. TellsToken c.args.self.cursor (lexeme_at c.args.self.cursor) k c.in_ok-step.step.next) c.in-Opening.is c.in_ok-step.ensures.token in
    let found = subst (FindsThat c.loop-behind.at) c.in-Close.is c.in_ok-behind-in-Opening.ensures in
    let so_far = c.loop-behind.invariant.0 in
    found_list c.args.self c.in_ok-step.step.next c.max-deepest-in-Opening.result c.in-Close.behind so_far.0 told.0 told.2 c.max-deepest-in-Opening.ensures (spans_close _ c.loop-behind.at c.in-Close.behind so_far.0 so_far.1 found)
