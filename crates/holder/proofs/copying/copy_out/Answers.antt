use Rattle.std.proofs.Common.{rules}
use Rattle.holder.proofs.Undoing.{undone}
use Rattle.holder.proofs.copying.copy_out.Goals as goal

pub returns-then-length-gt-MOST_TEXT-clause-undo :
    goal.returns-then-length-gt-MOST_TEXT-clause-undo
returns-then-length-gt-MOST_TEXT-clause-undo g c =
    undone (g.H.Holder.meaning c.args.holder.now) c.args.output.now c.args.output.now _ (search rules) (search rules)

pub returns-then-output-length-clause-undo : goal.returns-then-output-length-clause-undo
returns-then-output-length-clause-undo g c =
    undone (g.H.Holder.meaning c.args.holder.now) c.args.output.now c.args.output.now _ (search rules) (search rules)

pub returns-clause-undo : goal.returns-clause-undo
returns-clause-undo g c =
    undone (g.H.Holder.meaning c.args.holder.now) c.args.output.now c.put_text.new.output _ (search rules) (search rules)
