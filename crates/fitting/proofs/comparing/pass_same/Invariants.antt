use Rattle.fitting.proofs.Passing.{PassesSame}
use Rattle.fitting.proofs.comparing.pass_same.Given as goal

abbrev pub invariant-loop : goal.invariant-loop
invariant-loop g l = PassesSame (g.H.Holder.meaning l.holder).tree l.fn.run l.fn.from l.counter l.same l.at
