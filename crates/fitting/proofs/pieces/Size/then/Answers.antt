use Rattle.std.proofs.Common.{arith}
use Rattle.sexp.proofs.Runs.{count-then, depth-then, length-then}
use Rattle.fitting.proofs.pieces.Size.then.Goals as goal

pub returns : goal.returns
returns c es fs one other =
    record {
      elements = omega (arith, c.saturating_add.ensures, one.elements, other.elements, count-then es fs);
      depth = omega (arith, c.max.ensures, one.depth, other.depth, depth-then es fs);
      octets = omega (arith, c.saturating_add-2.ensures, one.octets, other.octets, length-then es fs);
    }
