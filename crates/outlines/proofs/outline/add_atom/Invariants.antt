use Rattle.std.proofs.Common.{◌≡◌, ◌++◌, take}
use Rattle.std.specs.List.{flat_map}
use Rattle.outlines.specs.Escapes.{shown}
use Rattle.outlines.proofs.outline.add_atom.Given as goal

-- the octets shown so far
abbrev pub invariant-loop-index : goal.invariant-loop-index
invariant-loop-index g l = l.lines.items ≡ l.initial.lines.items ++ flat_map shown (take l.index l.octets)
