use Rattle.std.proofs.Common.{Some}
use Rattle.fitting.specs.Cursors.{Passes}
use Rattle.fitting.proofs.comparing.pass.Given as goal

abbrev pub invariant-loop : goal.invariant-loop
invariant-loop g l = Passes (g.H.Holder.meaning l.holder).tree l.fn.from l.counter (Some l.at)
