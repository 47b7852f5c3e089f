use Rattle.std.proofs.Common.{◌≡◌, ◌++◌, take, drop}
use Rattle.holder.specs.Placed.{run_at, octets_of}
use Rattle.fitting.proofs.pieces.put_octets.Given as goal

abbrev pub invariant-loop-index : goal.invariant-loop-index
invariant-loop-index g l = l.octet-items ≡ take l.index (octets_of (run_at l.place (g.H.Holder.meaning l.holder).tree)) ++ drop l.index l.initial.octet-items
