use Rattle.holder.specs.Placed.{erase}
use Rattle.rules.proofs.Books.{enumerate}
use Rattle.fitting.proofs.Equal.{equal_records}
use Rattle.fitting.proofs.Running.{so_far_none}
use Rattle.fitting.proofs.Handing.{call_made, calls_made}
use Rattle.fitting.proofs.runs.run.Goals as goal

pub loop-call-init : goal.loop-call-init
loop-call-init g c =
    let tree = (g.H.Holder.meaning c.args.holder.now).tree in
    rw (c.open-job.ensures, c.new-answers.ensures.items) (so_far_none c.args.book.now tree (enumerate c.args.book.now (erase tree)))

pub loop-call-preserved : goal.loop-call-preserved
loop-call-preserved g c =
    let within = (g.H.Holder.meaning c.args.holder.now).lawful.within in
    call_made c.args.calls.now _ c.len.ensures.lawful within.few c.loop-call-test.true c.in_ok-push.ensures.items c.loop-call.invariant c.in_ok-told.ensures

pub returns-clause-list : goal.returns-clause-list
returns-clause-list g c = calls_made c.len.ensures.lawful c.loop-call-test.false c.loop-call.invariant

pub returns-clause-same : goal.returns-clause-same
returns-clause-same g c =
    let tree = (g.H.Holder.meaning c.args.holder.now).tree in
    equal_records c.args.book.now tree c.args.calls.now c.loop-call.answers.items (calls_made c.len.ensures.lawful c.loop-call-test.false c.loop-call.invariant)
