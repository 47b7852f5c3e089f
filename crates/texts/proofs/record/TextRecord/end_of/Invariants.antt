use Rattle.std.proofs.Common.{◌≡◌, ◌-◌, length}
use Rattle.texts.specs.Walked.{run_from, end_at}
use Rattle.texts.proofs.Passing.{Ahead}
use Rattle.texts.proofs.record.TextRecord.end_of.Given as goal

abbrev pub invariant-loop-cursor : goal.invariant-loop-cursor
invariant-loop-cursor l =
    record { same : l.cursor.text ≡ l.self.text; ahead : Ahead (end_at l.place (run_from l.self.text.now l.place)) l.cursor }

abbrev pub decreases-loop-cursor : goal.decreases-loop-cursor
decreases-loop-cursor l = length l.self.text.now - l.cursor.at
