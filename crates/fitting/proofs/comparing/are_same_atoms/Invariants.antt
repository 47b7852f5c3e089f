use Rattle.std.proofs.Common.{◌≡◌, take}
use Rattle.holder.specs.Placed.{run_at, octets_of}
use Rattle.fitting.proofs.comparing.are_same_atoms.Given as goal

-- the octets compared so far are the same
abbrev pub invariant-loop-index : goal.invariant-loop-index
invariant-loop-index g l = let tree = (g.H.Holder.meaning l.holder).tree in take l.index (octets_of (run_at l.one tree)) ≡ take l.index (octets_of (run_at l.other tree))
