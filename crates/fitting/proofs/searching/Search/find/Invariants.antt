use Rattle.texts.specs.Label.{text_tree}
use Rattle.fitting.proofs.Naming.{NoneOf}
use Rattle.fitting.proofs.searching.Search.find.Given as goal

abbrev pub invariant-loop-index : goal.invariant-loop-index
invariant-loop-index g l = NoneOf (text_tree l.self.text.text.now) (g.H.Holder.meaning l.self.record.now).tree l.self.trail.entries l.name l.index
