use Rattle.std.proofs.Common.{arith}
use Rattle.sexp.specs.Elements.{none}
use Rattle.sexp.proofs.Runs.{length_list}
use Rattle.fitting.proofs.pieces.Size.listed.Goals as goal

pub returns : goal.returns
returns c es is =
    record {
      elements = omega (arith, c.saturating_add.ensures, is.elements);
      depth = omega (arith, c.saturating_add-2.ensures, is.depth);
      octets = omega (arith, c.saturating_add-3.ensures, is.octets, length_list es none);
    }
