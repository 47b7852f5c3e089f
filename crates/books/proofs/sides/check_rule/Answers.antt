use Rattle.std.proofs.Common.{◌∙◌}
use Rattle.holder.specs.Placed.{inside, behind}
use Rattle.texts.specs.Label.{text_tree}
use Rattle.texts.specs.Walked.{run_from}
use Rattle.books.proofs.Runs.{placed_at}
use Rattle.books.proofs.Halves.{no_rule, sides, both}
use Rattle.books.proofs.sides.check_rule.Goals as goal

pub returns-in_default : goal.returns-in_default
returns-in_default c =
    let tree = text_tree c.args.text.text.now in
    no_rule (run_from c.args.text.text.now c.args.place) c.args.place (placed_at c.args.place tree c.requires) c.in_default.ensures

pub returns : goal.returns
returns c =
    let r = run_from c.args.text.text.now c.args.place in
    let h = c.in-Some.ensures in
    let p = c.in_ok-names.ensures in
    let q = c.in_ok-check_template.ensures in
    sides r h.0 h.1 ∙ both (inside r) (behind (inside r)) c.in_ok-names.names c.in_ok-check_template.field-0 (rw h.2 at p) (rw h.3 at q)
