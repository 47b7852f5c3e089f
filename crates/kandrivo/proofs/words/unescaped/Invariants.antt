use Rattle.std.proofs.Common.{length}
use Rattle.kandrivo.proofs.Reading.{Reads}
use Rattle.kandrivo.proofs.words.unescaped.Given as goal

-- what is read so far
abbrev pub invariant-loop-rest : goal.invariant-loop-rest
invariant-loop-rest l = Reads l.text l.octets.items l.rest

abbrev pub decreases-loop-rest : goal.decreases-loop-rest
decreases-loop-rest l = length l.rest
