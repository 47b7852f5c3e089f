use Rattle.std.proofs.Common.{rules, ◌≡◌, ◌-◌, ◌<◌, ◌≤◌, length, take, drop, ◌∙◌, arith, length-set, length-take, length-drop}
use Rattle.sexp.specs.Elements.{count, none, ◌then◌}
use Rattle.sexp.specs.Text.{text}
use Rattle.holder.specs.Placed.{run_at}
use Rattle.holder.specs.Walks.{first_of}
use Rattle.fitting.specs.Cursors.{elements_from}
use Rattle.fitting.proofs.Cursors.{count_less}
use Rattle.fitting.proofs.Loops.{list_begins, list_stands, list_less, list_more, list_ends}
use Rattle.fitting.proofs.Putting.{putting_begins, putting_more, putting_ends, list_room, end_room}
use Rattle.fitting.proofs.pieces.+put.Goals as goal

pub loop-rest-init : goal.loop-rest-init
loop-rest-init g t c =
    let begun = list_begins (g.H.Holder.meaning c.args.holder.now) c.args.place _ (search rules) c.first_in-rest.ensures in
    (none, begun, putting_begins c.args.output.now (omega (arith, end_room begun.whole, c.requires.room)))

pub put-end-requires : goal.put-end-requires
put-end-requires g t c κs within =
    let m = g.H.Holder.meaning c.args.holder.now in
    let out = c.loop-rest.output in
    let at = c.loop-rest.end in
    let inside = c.loop-rest.invariant.1 in
    let less = list_less m inside c.in-Some.is in
    let same : length out ≡ length c.args.output.now = c.loop-rest.auto.output ∙ length-set c.args.output.now 0 40 in
    let part : length (take (length out - at) (drop at out)) ≡ length out - at = simp (length-take, length-drop) (omega arith) in
    let room : length (text (first_of (run_at c.in-Some.at m.tree))) ≤ length (take (length out - at) (drop at out)) = omega (arith, part, same, c.requires.room, list_room m inside c.in-Some.is, c.loop-rest.invariant.2.end) in
    (search (rules, less), (within, (list_stands inside c.in-Some.is, room)))

pub loop-rest-smaller : goal.loop-rest-smaller
loop-rest-smaller g t c =
    let m = g.H.Holder.meaning c.args.holder.now in
    let stands = list_stands c.loop-rest.invariant.1 c.in-Some.is in
    let less : count (elements_from m.tree c.next_after-rest.result) < count (elements_from m.tree c.loop-rest.rest) = rw c.in-Some.is (count_less m c.in-Some.at _ stands c.next_after-rest.ensures) in
    less

pub loop-rest-preserved : goal.loop-rest-preserved
loop-rest-preserved g t c =
    let m = g.H.Holder.meaning c.args.holder.now in
    let so_far = c.loop-rest.invariant in
    let element = first_of (run_at c.in-Some.at m.tree) in
    (so_far.0 then element, list_more m so_far.1 c.in-Some.is c.next_after-rest.ensures, putting_more element so_far.2 c.put-end.ensures.end c.put-end.ensures.put)

pub bounds-output-end : goal.bounds-output-end
bounds-output-end g t c =
    let same : length c.loop-rest.output ≡ length c.args.output.now = c.loop-rest.auto.output ∙ length-set c.args.output.now 0 40 in
    omega (arith, same, c.requires.room, end_room (list_ends c.loop-rest.invariant.1 c.in_default.is), c.loop-rest.invariant.2.end)

pub returns-in_default-clause-end : goal.returns-in_default-clause-end
returns-in_default-clause-end g t c = omega (arith, end_room (list_ends c.loop-rest.invariant.1 c.in_default.is), c.loop-rest.invariant.2.end)

pub returns-in_default-clause-put : goal.returns-in_default-clause-put
returns-in_default-clause-put g t c =
    let same : length c.loop-rest.output ≡ length c.args.output.now = c.loop-rest.auto.output ∙ length-set c.args.output.now 0 40 in
    let so_far = c.loop-rest.invariant in
    let whole = list_ends so_far.1 c.in_default.is in
    putting_ends so_far.2 whole (omega (arith, same, c.requires.room, end_room whole, so_far.2.end))
