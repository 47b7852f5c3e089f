use Rattle.std.proofs.Common.{rules, ◌≡◌, ◌-◌, length, take, drop, arith, length-take, length-drop}
use Rattle.sexp.specs.Elements.{◌then◌}
use Rattle.holder.specs.Placed.{run_at}
use Rattle.holder.specs.Walks.{first_of}
use Rattle.fitting.proofs.Loops.{run_goes_on, run_stands, run_more, run_front}
use Rattle.fitting.proofs.Putting.{putting_more, run_room}
use Rattle.fitting.proofs.pieces.put_run.Goals as goal

pub unreachable-requires : goal.unreachable-requires
unreachable-requires g c = run_goes_on c.args.count c.loop.invariant.1 c.loop-test.true c.requires.many c.in_default.is

pub put-end-requires-clause-stands : goal.put-end-requires-clause-stands
put-end-requires-clause-stands g c = run_stands c.args.count c.loop.invariant.1 c.loop-test.true c.requires.many c.in-Some.is

pub put-end-requires-clause-room : goal.put-end-requires-clause-room
put-end-requires-clause-room g c =
    let out = c.loop.output in
    let at = c.loop.end in
    let room = run_room (g.H.Holder.meaning c.args.holder.now) c.args.count c.loop.invariant.1 c.loop-test.true c.requires.many c.in-Some.is in
    let part : length (take (length out - at) (drop at out)) ≡ length out - at = simp (length-take, length-drop) (omega arith) in
    omega (arith, part, room, c.loop.auto.output, c.requires.room, c.loop.invariant.2.end)

pub next_after-rest-requires : goal.next_after-rest-requires
next_after-rest-requires g c = run_stands c.args.count c.loop.invariant.1 c.loop-test.true c.requires.many c.in-Some.is

pub loop-preserved : goal.loop-preserved
loop-preserved g c =
    let m = g.H.Holder.meaning c.args.holder.now in
    let so_far = c.loop.invariant in
    let element = first_of (run_at c.in-Some.at m.tree) in
    let stands = run_stands c.args.count so_far.1 c.loop-test.true c.requires.many c.in-Some.is in
    (so_far.0 then element, run_more m so_far.1 stands c.in-Some.is c.next_after-rest.ensures, putting_more element so_far.2 c.put-end.ensures.end c.put-end.ensures.put)

pub returns-clause-end : goal.returns-clause-end
returns-clause-end g c =
    let so_far = c.loop.invariant in
    rw (run_front c.args.count so_far.1 (search rules)) so_far.2.end

pub returns-clause-put : goal.returns-clause-put
returns-clause-put g c =
    let so_far = c.loop.invariant in
    rw (run_front c.args.count so_far.1 (search rules)) so_far.2.put
