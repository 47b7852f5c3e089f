use Rattle.std.proofs.Common.{◌∙◌, arith}
use Rattle.texts.specs.Walked.{run_from, reading_at, end_at}
use Rattle.texts.proofs.Standing.{found}
use Rattle.texts.proofs.Passing.{first_after, at_end, stepped, told, never_fault}
use Rattle.texts.proofs.record.TextRecord.end_of.Goals as goal

pub loop-cursor-init : goal.loop-cursor-init
loop-cursor-init c =
    let held = c.args.self.now in
    let place = c.args.place in
    let run = run_from held.text.now place in
    let at = found held.text.now place held.ok c.requires in
    let step = told (end_at place run) (reading_at held.text place) c.first_token.result (first_after held.text place run at c.requires) c.first_token.ensures in
    record { same = step.same; ahead = step.ahead }

pub unreachable-requires : goal.unreachable-requires
unreachable-requires c =
    let from = c.loop-cursor.cursor in
    let end = end_at c.args.place (run_from c.args.self.now.text.now c.args.place) in
    never_fault end from c.in-Err.field-0 (stepped end from c.loop-cursor.invariant.ahead (omega arith)) c.in-Err.ensures.token

pub loop-cursor-preserved : goal.loop-cursor-preserved
loop-cursor-preserved c =
    let from = c.loop-cursor.cursor in
    let end = end_at c.args.place (run_from c.args.self.now.text.now c.args.place) in
    let step = told end from c.in-Ok.step (stepped end from c.loop-cursor.invariant.ahead (omega arith)) c.in-Ok.ensures.token in
    record { same = step.same ∙ c.loop-cursor.invariant.same; ahead = step.ahead }

pub returns : goal.returns
returns c =
    let held = c.args.self.now in
    let place = c.args.place in
    let run = run_from held.text.now place in
    let at = found held.text.now place held.ok c.requires in
    at_end held.text place run at c.loop-cursor.cursor c.loop-cursor.invariant.same c.requires c.loop-cursor.invariant.ahead (omega arith)
