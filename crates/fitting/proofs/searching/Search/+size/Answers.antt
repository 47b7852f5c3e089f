use Rattle.std.proofs.Common.{rules, ◌<◌, subst, sym}
use Rattle.sexp.specs.Elements.{count, none, ◌then◌}
use Rattle.holder.specs.Placed.{run_at}
use Rattle.holder.specs.Walks.{first_of}
use Rattle.texts.specs.Label.{text_tree}
use Rattle.texts.specs.Meant.{meant}
use Rattle.fitting.specs.Cursors.{elements_from}
use Rattle.fitting.specs.Pieces.{IsSize}
use Rattle.fitting.specs.Filling.{filled_at}
use Rattle.fitting.proofs.Cursors.{count_less}
use Rattle.fitting.proofs.Loops.{list_begins, list_stands, list_less, list_more}
use Rattle.fitting.proofs.Filled.{filled, atom_fills, atom_gives, next_holds, filled_more, list_gives}
use Rattle.fitting.proofs.searching.Search.+size.Goals as goal

pub loop-rest-init : goal.loop-rest-init
loop-rest-init g t c =
    let s = c.args.self.now in
    (none, list_begins (meant s.text.text.now s.text.ok) c.args.place _ (search rules) c.first_in-rest.ensures, c.none-inner.ensures)

pub size-requires : goal.size-requires
size-requires g t c κs within =
    let s = c.args.self.now in
    let inside = c.loop-rest.invariant.1 in
    let less = list_less (meant s.text.text.now s.text.ok) inside c.in-Some.is in
    (search (rules, less), (within, next_holds (g.H.Holder.meaning s.record.now).tree s c.args.place inside c.in-Some.is c.requires))

pub loop-rest-smaller : goal.loop-rest-smaller
loop-rest-smaller g t c =
    let s = c.args.self.now in
    let tree = text_tree s.text.text.now in
    let stands = list_stands c.loop-rest.invariant.1 c.in-Some.is in
    let less : count (elements_from tree c.next_after-rest.result) < count (elements_from tree c.loop-rest.rest) = rw c.in-Some.is (count_less (meant s.text.text.now s.text.ok) c.in-Some.at _ stands c.next_after-rest.ensures) in
    less

pub loop-rest-preserved : goal.loop-rest-preserved
loop-rest-preserved g t c =
    let s = c.args.self.now in
    let rec = (g.H.Holder.meaning s.record.now).tree in
    let so_far = c.loop-rest.invariant in
    let element = first_of (run_at c.in-Some.at (text_tree s.text.text.now)) in
    let more : IsSize (filled rec s so_far.0 then filled_at rec s c.in-Some.at) c.then-inner.result = c.then-inner.ensures (filled rec s so_far.0) (filled_at rec s c.in-Some.at) so_far.2 c.size.ensures in
    (so_far.0 then element, list_more (meant s.text.text.now s.text.ok) so_far.1 c.in-Some.is c.next_after-rest.ensures, subst (λ es. IsSize es c.then-inner.result) (sym (filled_more rec s c.args.place so_far.1 c.in-Some.is)) more)

pub size_of_atom-requires : goal.size_of_atom-requires
size_of_atom-requires g t c =
    let s = c.args.self.now in
    atom_fills (g.H.Holder.meaning s.record.now).tree s c.args.place c.requires c.in-Ok.ensures.element c.in-Atom.is

pub returns-in_default : goal.returns-in_default
returns-in_default g t c =
    let s = c.args.self.now in
    let rec = (g.H.Holder.meaning s.record.now).tree in
    let so_far = c.loop-rest.invariant in
    rw (list_gives rec s c.args.place so_far.1 c.in_default.is) (c.listed.ensures (filled rec s so_far.0) so_far.2)

pub returns-in-Atom : goal.returns-in-Atom
returns-in-Atom g t c =
    let s = c.args.self.now in
    rw (atom_gives (g.H.Holder.meaning s.record.now).tree s c.args.place c.requires c.in-Ok.ensures.element c.in-Atom.is) c.size_of_atom.ensures
