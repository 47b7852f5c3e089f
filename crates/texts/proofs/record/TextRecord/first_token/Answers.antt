use Rattle.texts.specs.Walked.{run_from, reading_at, end_at}
use Rattle.texts.proofs.Standing.{found}
use Rattle.texts.proofs.Passing.{first_after, never_fault}
use Rattle.texts.proofs.record.TextRecord.first_token.Goals as goal

pub unreachable-requires : goal.unreachable-requires
unreachable-requires c =
    let held = c.args.self.now in
    let place = c.args.place in
    let run = run_from held.text.now place in
    let at = found held.text.now place held.ok c.requires in
    never_fault (end_at place run) (reading_at held.text place) c.in-Err.field-0 (first_after held.text place run at c.requires) c.in-Err.ensures.token
