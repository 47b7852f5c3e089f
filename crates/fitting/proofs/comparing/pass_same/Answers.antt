use Rattle.std.proofs.Common.{rules, ◌≡◌, ◌≢◌, None}
use Rattle.holder.specs.Placed.{run_at, Stands}
use Rattle.holder.specs.Walks.{first_of}
use Rattle.fitting.proofs.Passing.{same_goes_on, same_stands, same_end, same_differ, same_more, same_all}
use Rattle.fitting.proofs.comparing.pass_same.Goals as goal

pub returns-in_err-one : goal.returns-in_err-one
returns-in_err-one g c = absurd (same_goes_on _ _ _ _ _ c.loop.counter c.args.count c.loop.invariant (search rules) c.requires.many c.in_err-one.was)

pub returns-in_err-other : goal.returns-in_err-other
returns-in_err-other g c =
    let none : c.from_residual-in_err-other.result ≡ None = search rules in
    rw none (same_end _ _ _ _ _ c.loop.counter c.args.count c.loop.invariant (search rules) c.requires.many c.in_err-other.was)

pub are_same-requires-clause-one : goal.are_same-requires-clause-one
are_same-requires-clause-one g c =
    same_stands _ _ _ _ _ _ c.loop.counter c.args.count c.loop.invariant (search rules) c.requires.many c.in_ok-one.was

pub returns-then-not-are_same : goal.returns-then-not-are_same
returns-then-not-are_same g c =
    let tree = (g.H.Holder.meaning c.args.holder.now).tree in
    let differ : first_of (run_at c.in_ok-one.one tree) ≢ first_of (run_at c.in_ok-other.other tree) = search rules in
    same_differ (g.H.Holder.meaning c.args.holder.now) _ _ _ _ _ _ c.loop.counter c.args.count c.loop.invariant (search rules) c.requires.many c.in_ok-one.was c.in_ok-other.was differ

pub loop-preserved : goal.loop-preserved
loop-preserved g c =
    let tree = (g.H.Holder.meaning c.args.holder.now).tree in
    let stands : Stands (run_at c.in_ok-one.one tree) = same_stands _ _ _ _ _ _ c.loop.counter c.args.count c.loop.invariant (search rules) c.requires.many c.in_ok-one.was in
    let same : first_of (run_at c.in_ok-one.one tree) ≡ first_of (run_at c.in_ok-other.other tree) = search rules in
    same_more (g.H.Holder.meaning c.args.holder.now) _ _ _ _ _ _ _ _ c.loop.counter c.loop.invariant stands c.in_ok-one.was c.in_ok-other.was same c.next_after-same.ensures c.next_after-at.ensures

pub returns : goal.returns
returns g c = same_all _ _ _ _ _ c.loop.counter c.args.count (search rules) c.requires.many c.loop.invariant
