use Rattle.std.proofs.Common.{rules}
use Rattle.books.proofs.Halves.{pattern_stands, no_second, template_stands, no_third, third}
use Rattle.books.proofs.sides.halves.Goals as goal

pub next_after-requires : goal.next_after-requires
next_after-requires c =
    let t = c.args.text in
    pattern_stands t.text.now t.ok c.args.place c.in_ok-pattern.pattern (search rules) c.in_ok-pattern.ensures

pub returns-in_err-template : goal.returns-in_err-template
returns-in_err-template c =
    let t = c.args.text in
    rw c.from_residual-in_err-template.ensures
    (no_second t.text.now t.ok c.args.place c.in_ok-pattern.pattern (search rules) c.in_ok-pattern.ensures c.in_err-template.ensures)

pub next_after-requires-2 : goal.next_after-requires-2
next_after-requires-2 c =
    let t = c.args.text in
    template_stands t.text.now t.ok c.args.place c.in_ok-pattern.pattern (search rules) c.in_ok-pattern.ensures c.in_ok-template.template c.in_ok-template.ensures

pub returns-in-None : goal.returns-in-None
returns-in-None c =
    let t = c.args.text in
    no_third t.text.now t.ok c.args.place c.in_ok-pattern.pattern (search rules) c.in_ok-pattern.ensures c.in_ok-template.template c.in_ok-template.ensures c.in-None.ensures

pub returns-in-Some : goal.returns-in-Some
returns-in-Some c =
    let t = c.args.text in
    third t.text.now t.ok c.args.place c.in_ok-pattern.pattern (search rules) c.in_ok-pattern.ensures c.in_ok-template.template c.in_ok-template.ensures c.in-Some.field-0 c.in-Some.ensures
