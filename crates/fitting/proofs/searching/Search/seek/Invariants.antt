use Rattle.std.proofs.Common.{◌-◌, ◌^◌}
use Rattle.fitting.specs.Moves.{number}
use Rattle.fitting.proofs.Seeking.{Sought}
use Rattle.fitting.proofs.searching.Search.seek.Given as goal

abbrev pub invariant-loop-self : goal.invariant-loop-self
invariant-loop-self g l = Sought (g.H.Holder.meaning l.initial.self.«record».now).tree l.initial.self l.self

abbrev pub decreases-loop-self : goal.decreases-loop-self
decreases-loop-self g l = 65536 ^ 4 - number l.self.lengths
