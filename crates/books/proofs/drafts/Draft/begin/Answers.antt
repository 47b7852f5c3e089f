use Rattle.std.proofs.Common.{[], arith}
use Rattle.sexp.specs.Reading.{verdict}
use Rattle.books.proofs.Begun.{takes, atom_answer, root_list, list_answer, begun_stands, begun_left}
use Rattle.books.proofs.drafts.Draft.begin.Goals as goal

pub first_in-self-inside-requires : goal.first_in-self-inside-requires
first_in-self-inside-requires c =
    let f = c.in_ok-fill.ensures in
    let is = takes (verdict c.args.text.now) c.args.text.now _ _ f.taken in
    root_list is f.meant c.root-root.ensures c.in-List.ensures

pub invariant_of-self : goal.invariant_of-self
invariant_of-self c =
    let f = c.in_ok-fill.ensures in
    let is = takes (verdict c.args.text.now) c.args.text.now _ _ f.taken in (
      record { few = omega arith; room = c.self.invariant.0.room; each = tt },
      begun_stands is f.meant c.root-root.ensures c.in-List.ensures c.fill.new.self.ok c.first_in-self-inside.ensures,
    )

pub returns-in-Atom-clause-answer : goal.returns-in-Atom-clause-answer
returns-in-Atom-clause-answer c =
    let f = c.in_ok-fill.ensures in
    let is = takes (verdict c.args.text.now) c.args.text.now _ _ f.taken in
    atom_answer is f.meant c.root-root.ensures c.in-Atom.ensures

pub returns-in-List-clause-answer : goal.returns-in-List-clause-answer
returns-in-List-clause-answer c =
    let f = c.in_ok-fill.ensures in
    let is = takes (verdict c.args.text.now) c.args.text.now _ _ f.taken in
    list_answer is f.meant c.root-root.ensures c.in-List.ensures

pub returns-in-List-clause-left : goal.returns-in-List-clause-left
returns-in-List-clause-left c =
    let f = c.in_ok-fill.ensures in
    let is = takes (verdict c.args.text.now) c.args.text.now _ _ f.taken in
    let left = begun_left is f.meant c.root-root.ensures c.in-List.ensures c.fill.new.self.ok c.first_in-self-inside.ensures in
    λ i. record { taken = []; left = left i }
