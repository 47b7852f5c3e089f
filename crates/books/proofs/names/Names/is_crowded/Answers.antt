use Rattle.std.proofs.Common.{length, ap, sym, ◌∙◌, arith}
use Rattle.std.proofs.lemmas.Bool.{le-leb}
use Rattle.books.proofs.Slots.{full, length_first}
use Rattle.books.proofs.names.Names.is_crowded.Goals as goal

pub returns-then-self-ge-MOST_NAMES : goal.returns-then-self-ge-MOST_NAMES
returns-then-self-ge-MOST_NAMES c =
    le-leb 16 c.self.inside.count (omega arith)
    ∙ sym (full c.args.sign c.args.self.now (omega (arith, length_first c.self.inside.names c.self.inside.count c.self.invariant.0 c.self.invariant.1, ap length c.self.view_is)))
