use Rattle.std.proofs.Common.{◌≡◌, ◌++◌, take, drop}
use Rattle.holder.proofs.elements.Octets.put.Given as goal

abbrev pub invariant-loop-index : goal.invariant-loop-index
invariant-loop-index g l = l.part ≡ take l.index l.self ++ drop l.index l.initial.part
