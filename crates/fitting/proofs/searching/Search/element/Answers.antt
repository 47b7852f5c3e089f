use Rattle.std.proofs.Common.{subst}
use Rattle.holder.specs.Placed.{run_at}
use Rattle.texts.specs.Label.{text_tree}
use Rattle.texts.specs.Walked.{FirstToken}
use Rattle.fitting.proofs.Laying.{stands}
use Rattle.fitting.proofs.Naming.{atom_told}
use Rattle.fitting.proofs.searching.Search.element.Goals as goal

pub atom-requires-clause-is : goal.atom-requires-clause-is
atom-requires-clause-is g c =
    let from = c.args.self.now in
    let run = run_at c.args.pattern (text_tree from.text.text.now) in
    let s = stands (g.H.Holder.meaning from.record.now) from c.requires.sound c.requires.cursor c.args.pattern c.requires.at in
    atom_told run c.in-Atom.offset c.in-Atom.octets (subst (FirstToken run) c.in-Atom.is (c.in-Ok.ensures.element s))
