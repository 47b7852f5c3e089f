use Rattle.std.proofs.Common.{◌≡◌, ◌++◌, take}
use Rattle.std.specs.List.{flat_map}
use Rattle.kandrivo.specs.Lines.{name_shown}
use Rattle.kandrivo.proofs.taking.rule_line.Given as goal

-- the names shown so far
abbrev pub invariant-loop-name : goal.invariant-loop-name
invariant-loop-name l = l.line.items ≡ l.initial.line.items ++ flat_map name_shown (take l.name-index l.names)
