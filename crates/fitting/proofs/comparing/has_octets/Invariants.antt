use Rattle.std.proofs.Common.{◌≡◌, take}
use Rattle.holder.specs.Placed.{run_at, octets_of}
use Rattle.fitting.proofs.comparing.has_octets.Given as goal

-- the octets compared so far are the same
abbrev pub invariant-loop-index : goal.invariant-loop-index
invariant-loop-index g l = take l.index (octets_of (run_at l.place (g.H.Holder.meaning l.holder).tree)) ≡ take l.index l.octets
