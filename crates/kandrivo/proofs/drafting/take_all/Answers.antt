use Rattle.std.proofs.Common.{Err, ap, ◌∙◌}
use Rattle.kandrivo.proofs.Progress.{taken_writes, all_taken}
use Rattle.kandrivo.proofs.drafting.take_all.Goals as goal

pub loop-refusal-preserved : goal.loop-refusal-preserved
loop-refusal-preserved c =
    let h = c.take.ensures in
    taken_writes c.loop-refusal.draft c.take.new.self h.answer h.left c.loop-refusal.invariant h.written c.in-Ok.is

pub returns-in-Err-NoRule : goal.returns-in-Err-NoRule
returns-in-Err-NoRule c =
    let h = c.take.ensures in
    all_taken c.loop-refusal.draft c.take.new.self h.answer h.left c.loop-refusal.invariant h.refused (c.in-Err-NoRule.is ∙ ap Err c.in-Err-NoRule.field-0-is)
