use Rattle.std.proofs.Common.{rules, ◌≡◌, suc, length}
use Rattle.holder.specs.declared.kinds.Kind.TheVariants.{List as ListKind, Atom as AtomKind}
use Rattle.holder.specs.Placed.{run_at, front, inside, kind_of}
use Rattle.texts.specs.Label.{text_tree}
use Rattle.fitting.proofs.Cursors.{kind_atom, kind_list}
use Rattle.fitting.proofs.Laying.{element_stands, enter_none, enter_atom, enters}
use Rattle.fitting.proofs.searching.Search.enter.Goals as goal

pub returns-in_default : goal.returns-in_default
returns-in_default g c =
    let from = c.args.self.now in
    enter_none (g.H.Holder.meaning from.record.now) from c.requires.sound c.requires.cursor c.args.pattern c.requires.at c.requires.list c.in_default.is

pub returns-then-eq : goal.returns-then-eq
returns-then-eq g c =
    let from = c.args.self.now in
    let m = g.H.Holder.meaning from.record.now in
    let place = c.in-Some.place in
    let kind : kind_of (run_at place m.tree) ≡ AtomKind = search rules in
    let stands = element_stands m from c.requires.sound c.requires.cursor c.args.pattern c.requires.at place c.in-Some.is in
    enter_atom m from c.requires.sound c.requires.cursor c.args.pattern c.requires.at c.requires.list place c.in-Some.is (kind_atom (run_at place m.tree) stands kind)

pub returns : goal.returns
returns g c =
    let from = c.args.self.now in
    let m = g.H.Holder.meaning from.record.now in
    let place = c.in-Some.place in
    let kind : kind_of (run_at place m.tree) ≡ ListKind = search rules in
    let stands = element_stands m from c.requires.sound c.requires.cursor c.args.pattern c.requires.at place c.in-Some.is in
    let first : c.first_in.result ≡ front (inside (run_at c.args.pattern (text_tree from.text.text.now))) = rw c.mark.ensures at c.first_in.ensures in
    let first_held : c.first_in-2.result ≡ front (inside (run_at place m.tree)) = rw c.mark.ensures at c.first_in-2.ensures in
    let many : c.len.result ≡ suc (length from.trail.entries) = rw c.mark.ensures at c.len.ensures in
    rw (c.mark.ensures, first, first_held, many)
    (enters m from c.requires.sound c.requires.cursor c.args.pattern c.requires.at c.requires.list place c.in-Some.is (kind_list (run_at place m.tree) stands kind))
