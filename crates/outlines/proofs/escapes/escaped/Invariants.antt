use Rattle.std.proofs.Common.{◌≡◌, take}
use Rattle.std.specs.List.{flat_map}
use Rattle.outlines.specs.Escapes.{shown}
use Rattle.outlines.proofs.escapes.escaped.Given as goal

-- the octets shown so far
abbrev pub invariant-loop-octet : goal.invariant-loop-octet
invariant-loop-octet l = l.line.items ≡ flat_map shown (take l.octet-index l.octets)
