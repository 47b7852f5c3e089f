use Rattle.std.proofs.Common.{rules, ◌≡◌, ◌+◌, ◌-◌, ◌<◌, ◌≤◌, ◌∙◌, [], ◌∷◌, length, take, drop, subst, sym, arith, length-set, length-take, length-drop}
use borrow.Rule.Slice.PartMut.{put_mid}
use Rattle.sexp.specs.Elements.{count, none, ◌then◌}
use Rattle.sexp.specs.Text.{text}
use Rattle.holder.specs.Placed.{run_at}
use Rattle.holder.specs.Walks.{first_of}
use Rattle.texts.specs.Label.{text_tree}
use Rattle.texts.specs.Meant.{meant}
use Rattle.fitting.specs.Cursors.{elements_from}
use Rattle.fitting.specs.Filling.{filled_at}
use Rattle.fitting.proofs.Cursors.{count_less}
use Rattle.fitting.proofs.Loops.{list_begins, list_stands, list_less, list_more}
use Rattle.fitting.proofs.Putting.{Putting, putting_begins, putting_more, putting_ends, end_room}
use Rattle.fitting.proofs.Filled.{filled, atom_fills, atom_gives, next_holds, filled_more, filled_room, filled_some, list_gives}
use Rattle.fitting.proofs.searching.Search.+put.Goals as goal

pub loop-rest-init : goal.loop-rest-init
loop-rest-init g t c =
    let s = c.args.self.now in
    let rec = (g.H.Holder.meaning s.record.now).tree in
    let begun = list_begins (meant s.text.text.now s.text.ok) c.args.place _ (search rules) c.first_in-rest.ensures in
    (none, begun, putting_begins c.args.output.now (omega (arith, filled_some rec s c.args.place begun, c.requires.room)))

pub put-end-requires : goal.put-end-requires
put-end-requires g t c κs within =
    let s = c.args.self.now in
    let rec = (g.H.Holder.meaning s.record.now).tree in
    let out = c.loop-rest.output in
    let at = c.loop-rest.end in
    let inside = c.loop-rest.invariant.1 in
    let less = list_less (meant s.text.text.now s.text.ok) inside c.in-Some.is in
    let same : length out ≡ length c.args.output.now = c.loop-rest.auto.output ∙ length-set c.args.output.now 0 40 in
    let part : length (take (length out - at) (drop at out)) ≡ length out - at = simp (length-take, length-drop) (omega arith) in
    let room : length (text (filled_at rec s c.in-Some.at)) ≤ length (take (length out - at) (drop at out)) = omega (arith, part, same, c.requires.room, filled_room rec s c.args.place inside c.in-Some.is, c.loop-rest.invariant.2.end) in
    (search (rules, less), (within, (next_holds rec s c.args.place inside c.in-Some.is c.requires.holds, room)))

pub loop-rest-smaller : goal.loop-rest-smaller
loop-rest-smaller g t c =
    let s = c.args.self.now in
    let tree = text_tree s.text.text.now in
    let stands = list_stands c.loop-rest.invariant.1 c.in-Some.is in
    let less : count (elements_from tree c.next_after-rest.result) < count (elements_from tree c.loop-rest.rest) = rw c.in-Some.is (count_less (meant s.text.text.now s.text.ok) c.in-Some.at _ stands c.next_after-rest.ensures) in
    less

pub loop-rest-preserved : goal.loop-rest-preserved
loop-rest-preserved g t c =
    let s = c.args.self.now in
    let rec = (g.H.Holder.meaning s.record.now).tree in
    let so_far = c.loop-rest.invariant in
    let out = c.loop-rest.output in
    let at = c.loop-rest.end in
    let element = first_of (run_at c.in-Some.at (text_tree s.text.text.now)) in
    let more = putting_more (filled_at rec s c.in-Some.at) {done = filled rec s so_far.0} so_far.2 c.put-end.ensures.end c.put-end.ensures.put in (
      so_far.0 then element,
      list_more (meant s.text.text.now s.text.ok) so_far.1 c.in-Some.is c.next_after-rest.ensures,
      subst (λ es. Putting (40 ∷ []) es (at + c.put-end.result) c.args.output.now (put_mid at (length out - at) out c.put-end.new.output)) (sym (filled_more rec s c.args.place so_far.1 c.in-Some.is)) more,
    )

pub bounds-output-end : goal.bounds-output-end
bounds-output-end g t c =
    let s = c.args.self.now in
    let same : length c.loop-rest.output ≡ length c.args.output.now = c.loop-rest.auto.output ∙ length-set c.args.output.now 0 40 in
    let whole = list_gives (g.H.Holder.meaning s.record.now).tree s c.args.place c.loop-rest.invariant.1 c.in_default.is in
    omega (arith, same, c.requires.room, end_room whole, c.loop-rest.invariant.2.end)

pub put_atom-requires-clause-fills : goal.put_atom-requires-clause-fills
put_atom-requires-clause-fills g t c =
    let s = c.args.self.now in
    atom_fills (g.H.Holder.meaning s.record.now).tree s c.args.place c.requires.holds c.in-Ok.ensures.element c.in-Atom.is

pub put_atom-requires-clause-room : goal.put_atom-requires-clause-room
put_atom-requires-clause-room g t c =
    let s = c.args.self.now in
    subst (λ es. length (text es) ≤ length c.args.output.now) (atom_gives (g.H.Holder.meaning s.record.now).tree s c.args.place c.requires.holds c.in-Ok.ensures.element c.in-Atom.is) c.requires.room

pub returns-in-Atom-clause-end : goal.returns-in-Atom-clause-end
returns-in-Atom-clause-end g t c =
    let s = c.args.self.now in
    rw (atom_gives (g.H.Holder.meaning s.record.now).tree s c.args.place c.requires.holds c.in-Ok.ensures.element c.in-Atom.is) c.put_atom.ensures.end

pub returns-in_default-clause-end : goal.returns-in_default-clause-end
returns-in_default-clause-end g t c =
    let s = c.args.self.now in
    omega (arith, end_room (list_gives (g.H.Holder.meaning s.record.now).tree s c.args.place c.loop-rest.invariant.1 c.in_default.is), c.loop-rest.invariant.2.end)

pub returns-in_default-clause-put : goal.returns-in_default-clause-put
returns-in_default-clause-put g t c =
    let s = c.args.self.now in
    let rec = (g.H.Holder.meaning s.record.now).tree in
    let same : length c.loop-rest.output ≡ length c.args.output.now = c.loop-rest.auto.output ∙ length-set c.args.output.now 0 40 in
    let so_far = c.loop-rest.invariant in
    let whole = list_gives rec s c.args.place so_far.1 c.in_default.is in
    putting_ends {done = filled rec s so_far.0} so_far.2 whole (omega (arith, same, c.requires.room, end_room whole, so_far.2.end))

pub returns-in-Atom-clause-put : goal.returns-in-Atom-clause-put
returns-in-Atom-clause-put g t c =
    let s = c.args.self.now in
    rw (atom_gives (g.H.Holder.meaning s.record.now).tree s c.args.place c.requires.holds c.in-Ok.ensures.element c.in-Atom.is) c.put_atom.ensures.put
