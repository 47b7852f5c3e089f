use Rattle.std.proofs.Common.{rules, ◌≡◌, ◌<◌}
use Rattle.sexp.specs.Elements.{count}
use Rattle.holder.specs.Placed.{run_at, Stands}
use Rattle.holder.specs.Walks.{first_of}
use Rattle.fitting.specs.Cursors.{elements_from}
use Rattle.fitting.proofs.Cursors.{count_less}
use Rattle.fitting.proofs.Sameness.{comparing_none, comparing_more}
use Rattle.fitting.proofs.comparing.+are_same.Goals as goal

pub loop-ones-init : goal.loop-ones-init
loop-ones-init g t c =
    comparing_none (g.H.Holder.meaning c.args.holder.now) c.args.one c.args.other _ _ (search rules) (search rules) c.first_in-ones.ensures c.first_in-others.ensures

pub loop-ones-smaller : goal.loop-ones-smaller
loop-ones-smaller g t c =
    let m = g.H.Holder.meaning c.args.holder.now in
    let stands : Stands (run_at c.in-Some.one m.tree) = rw c.in-Some.is at c.loop-ones.invariant.one_lies in
    let less : count (elements_from m.tree c.next_after-ones.result) < count (elements_from m.tree c.loop-ones.ones) = rw c.in-Some.is (count_less m c.in-Some.one _ stands c.next_after-ones.ensures) in
    less

pub loop-ones-preserved : goal.loop-ones-preserved
loop-ones-preserved g t c =
    let tree = (g.H.Holder.meaning c.args.holder.now).tree in
    let same : first_of (run_at c.in-Some.one tree) ≡ first_of (run_at c.in-Some-others.other tree) = search rules in
    comparing_more (g.H.Holder.meaning c.args.holder.now) _ _ _ _ _ _ _ _ c.loop-ones.invariant c.in-Some.is c.in-Some-others.is same c.next_after-ones.ensures c.next_after-others.ensures
