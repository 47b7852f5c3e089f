use Rattle.std.proofs.Common.{rules}
use Rattle.sexp.specs.Elements.{◌then◌}
use Rattle.holder.specs.Placed.{run_at}
use Rattle.holder.specs.Walks.{first_of}
use Rattle.fitting.proofs.Loops.{run_goes_on, run_stands, run_more, run_front}
use Rattle.fitting.proofs.pieces.size_of_run.Goals as goal

pub unreachable-requires : goal.unreachable-requires
unreachable-requires g c = run_goes_on c.args.count c.loop.invariant.1 c.loop-test.true c.requires c.in_default.is

pub size_of-requires : goal.size_of-requires
size_of-requires g c = run_stands c.args.count c.loop.invariant.1 c.loop-test.true c.requires c.in-Some.is

pub next_after-rest-requires : goal.next_after-rest-requires
next_after-rest-requires g c = run_stands c.args.count c.loop.invariant.1 c.loop-test.true c.requires c.in-Some.is

pub loop-preserved : goal.loop-preserved
loop-preserved g c =
    let m = g.H.Holder.meaning c.args.holder.now in
    let so_far = c.loop.invariant in
    let element = first_of (run_at c.in-Some.at m.tree) in
    let stands = run_stands c.args.count so_far.1 c.loop-test.true c.requires c.in-Some.is in
    (so_far.0 then element, run_more m so_far.1 stands c.in-Some.is c.next_after-rest.ensures, c.then-size.ensures so_far.0 element so_far.2 c.size_of.ensures)

pub returns : goal.returns
returns g c =
    let so_far = c.loop.invariant in
    rw (run_front c.args.count so_far.1 (search rules)) so_far.2
