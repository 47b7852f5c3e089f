use Rattle.std.proofs.Common.{length}
use Rattle.tables.proofs.Passing.{Passed}
use Rattle.tables.proofs.checking.+behind_first.Given as goal

-- the levels that are left
abbrev pub decreases-behind_first : goal.decreases-behind_first
decreases-behind_first l = l.levels

-- the elements passed so far
abbrev pub invariant-loop-inner : goal.invariant-loop-inner
invariant-loop-inner l = Passed l.beside l.deeper l.initial.inner l.inner

-- the nodes that are left
abbrev pub decreases-loop-inner : goal.decreases-loop-inner
decreases-loop-inner l = length l.inner
