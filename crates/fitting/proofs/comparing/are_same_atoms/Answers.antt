use Rattle.std.proofs.Common.{rules}
use Rattle.fitting.proofs.Sameness.{same_octets}
use Rattle.fitting.proofs.comparing.are_same_atoms.Goals as goal

pub returns : goal.returns
returns g c = same_octets _ _ c.loop-index.index (search rules) (search rules) c.loop-index.invariant
