use Rattle.std.proofs.Common.{rules, ◌<◌}
use Rattle.sexp.specs.Elements.{count, none, ◌then◌}
use Rattle.holder.specs.Placed.{run_at, IsAtom}
use Rattle.holder.specs.Walks.{first_of}
use Rattle.holder.proofs.Walk.{atom_short}
use Rattle.fitting.specs.Cursors.{elements_from}
use Rattle.fitting.proofs.Cursors.{count_less}
use Rattle.fitting.proofs.Loops.{list_begins, list_stands, list_less, list_more, list_ends}
use Rattle.fitting.proofs.pieces.+size_of.Goals as goal

pub of_atom-requires : goal.of_atom-requires
of_atom-requires g t c =
    let m = g.H.Holder.meaning c.args.holder.now in
    let atom : IsAtom (run_at c.args.place m.tree) = search rules in
    rw c.length_at.ensures (atom_short m c.args.place atom)

pub loop-rest-init : goal.loop-rest-init
loop-rest-init g t c = (none, list_begins (g.H.Holder.meaning c.args.holder.now) c.args.place _ (search rules) c.first_in-rest.ensures, c.none-inner.ensures)

pub size_of-requires : goal.size_of-requires
size_of-requires g t c κs within =
    let inside = c.loop-rest.invariant.1 in
    let less = list_less (g.H.Holder.meaning c.args.holder.now) inside c.in-Some.is in
    (search (rules, less), (within, list_stands inside c.in-Some.is))

pub loop-rest-smaller : goal.loop-rest-smaller
loop-rest-smaller g t c =
    let m = g.H.Holder.meaning c.args.holder.now in
    let stands = list_stands c.loop-rest.invariant.1 c.in-Some.is in
    let less : count (elements_from m.tree c.next_after-rest.result) < count (elements_from m.tree c.loop-rest.rest) = rw c.in-Some.is (count_less m c.in-Some.at _ stands c.next_after-rest.ensures) in
    less

pub loop-rest-preserved : goal.loop-rest-preserved
loop-rest-preserved g t c =
    let m = g.H.Holder.meaning c.args.holder.now in
    let so_far = c.loop-rest.invariant in
    let element = first_of (run_at c.in-Some.at m.tree) in
    (so_far.0 then element, list_more m so_far.1 c.in-Some.is c.next_after-rest.ensures, c.then-inner.ensures so_far.0 element so_far.2 c.size_of.ensures)

pub returns-in_default : goal.returns-in_default
returns-in_default g t c =
    let so_far = c.loop-rest.invariant in
    rw (list_ends so_far.1 c.in_default.is) (c.listed.ensures _ so_far.2)
