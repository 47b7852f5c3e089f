use Rattle.std.proofs.Common.{◌-◌, ◌≤◌, length}
use Rattle.sexp.specs.Checks.{Spans}
use Rattle.sexp.specs.Elements.{Elements}
use Rattle.sexp.proofs.reader.Progress.+element.Given as goal

-- the depth that is left
abbrev pub decreases-element : goal.decreases-element
decreases-element l = 33 - l.self.cursor.depth

-- the elements passed so far
abbrev pub invariant-loop-behind : goal.invariant-loop-behind
invariant-loop-behind l = ((es : Elements) × Spans l.initial.at l.at es) × (l.at.cursor.depth ≤ l.at.deepest)

-- the text that is left
abbrev pub decreases-loop-behind : goal.decreases-loop-behind
decreases-loop-behind l = length l.initial.at.cursor.text.now - l.at.cursor.at
