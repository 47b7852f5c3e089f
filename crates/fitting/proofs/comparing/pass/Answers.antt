use Rattle.std.proofs.Common.{rules, ◌≡◌, None}
use Rattle.fitting.proofs.Passing.{passes_end, passes_more}
use Rattle.fitting.proofs.comparing.pass.Goals as goal

pub returns-in_err-at : goal.returns-in_err-at
returns-in_err-at g c =
    let none : c.from_residual.result ≡ None = search rules in
    rw none (passes_end _ c.args.from _ c.loop.counter c.args.count (search rules) c.loop.invariant c.in_err-at.was)

pub loop-preserved : goal.loop-preserved
loop-preserved g c =
    passes_more (g.H.Holder.meaning c.args.holder.now) c.args.from _ _ _ c.loop.counter c.loop.invariant c.in_ok-at.was c.next_after-at.ensures
