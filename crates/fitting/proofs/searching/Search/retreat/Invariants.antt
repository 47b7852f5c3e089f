use Rattle.std.proofs.Common.{length}
use Rattle.fitting.proofs.Backing.{Backed}
use Rattle.fitting.proofs.searching.Search.retreat.Given as goal

abbrev pub invariant-loop-mark : goal.invariant-loop-mark
invariant-loop-mark g l = Backed (g.H.Holder.meaning l.initial.self.«record».now).tree l.initial.self l.self

abbrev pub decreases-loop-mark : goal.decreases-loop-mark
decreases-loop-mark g l = length l.self.trail.entries
