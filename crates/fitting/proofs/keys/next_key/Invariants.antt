use Rattle.std.proofs.Common.{◌+◌, ◌-◌, length}
use Rattle.holder.specs.Copies.{record_of}
use Rattle.fitting.specs.Keys.{position_past}
use Rattle.fitting.proofs.Asking.{Asks}
use Rattle.fitting.proofs.keys.next_key.Given as goal

abbrev pub invariant-loop-rule : goal.invariant-loop-rule
invariant-loop-rule g l = Asks l.book (record_of (g.H.Holder.meaning l.holder)) (position_past l.fn.behind) l.number l.lengths

abbrev pub decreases-loop-rule : goal.decreases-loop-rule
decreases-loop-rule g l = length l.book + 1 - l.number
