use Rattle.std.proofs.Common.{ap}
use Rattle.fitting.proofs.Seeking.{steps_like, walked_more, walks_done, walks_stuck}
use Rattle.fitting.proofs.searching.Search.walk.Goals as goal

pub loop-preserved : goal.loop-preserved
loop-preserved g c = walked_more c.loop.invariant (steps_like (ap (λ r. (g.H.Holder.meaning r.now).tree) c.loop.invariant.holder) c.in-Laid.ensures)

pub returns-in-Stuck : goal.returns-in-Stuck
returns-in-Stuck g c = walks_stuck c.loop.invariant (steps_like (ap (λ r. (g.H.Holder.meaning r.now).tree) c.loop.invariant.holder) c.in-Stuck.ensures)

pub returns-in-Done : goal.returns-in-Done
returns-in-Done g c = walks_done c.loop.invariant (steps_like (ap (λ r. (g.H.Holder.meaning r.now).tree) c.loop.invariant.holder) c.in-Done.ensures)
