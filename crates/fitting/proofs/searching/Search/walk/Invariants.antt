use Rattle.fitting.specs.Moves.{steps_left}
use Rattle.fitting.proofs.Seeking.{Walked}
use Rattle.fitting.proofs.searching.Search.walk.Given as goal

abbrev pub invariant-loop : goal.invariant-loop
invariant-loop g l = Walked (g.H.Holder.meaning l.initial.self.«record».now).tree l.initial.self l.self

abbrev pub decreases-loop : goal.decreases-loop
decreases-loop g l = steps_left l.self
