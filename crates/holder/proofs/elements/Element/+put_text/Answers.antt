use Rattle.std.proofs.Common.{◌≡◌, ◌-◌, ◌<◌, length, take, drop, ap, ◌∙◌, arith, rules, length-set, length-take, length-drop}
use Rattle.holder.specs.Walks.{run_of}
use Rattle.holder.proofs.Loops.{putting_none, putting_more, putting_all, room_first}
use Rattle.holder.proofs.elements.Element.+put_text.Goals as goal

pub loop-rest-init : goal.loop-rest-init
loop-rest-init g t c = putting_none _ _ _ c.in-List.ensures.shows.0 c.in-List.ensures.shows.1 c.requires

pub put_text-at-requires : goal.put_text-at-requires
put_text-at-requires g t c κs within =
    let out = c.loop-rest.output in
    let at = c.loop-rest.at in
    let same : length out ≡ length c.args.output.now = c.loop-rest.auto.output ∙ length-set c.args.output.now 0 40 in
    let room = room_first _ _ _ _ _ _ c.loop-rest.invariant (ap run_of c.in-Some.is) (rw same c.requires) in
    let part : length (take (length out - at) (drop at out)) ≡ length out - at = simp (length-take, length-drop) (omega arith) in
    let less : length (take (length out - at) (drop at out)) < length c.args.output.now = omega (arith, c.loop-rest.invariant.some) in
    (search (rules, less), (within, omega arith))

pub loop-rest-preserved : goal.loop-rest-preserved
loop-rest-preserved g t c =
    putting_more _ _ _ _ _ _ _ _ _ c.loop-rest.invariant (ap run_of c.in-Some.is) c.put_text-at.ensures.end c.put_text-at.ensures.put c.next-rest.ensures.behind

pub returns-in_default-clause-put : goal.returns-in_default-clause-put
returns-in_default-clause-put g t c =
    let same : length c.loop-rest.output ≡ length c.args.output.now = c.loop-rest.auto.output ∙ length-set c.args.output.now 0 40 in
    putting_all _ _ _ _ _ c.loop-rest.invariant (ap run_of c.in_default.is) (rw same c.requires)
