use Rattle.std.proofs.Common.{rules, ap, ◌∙◌, sym, length}
use Rattle.readings.proofs.Places.{one_digit}
use Rattle.readings.proofs.record.answers.ReadingsRecordHolder.length_at.Goals as goal

pub returns-in-0-to-9 : goal.returns-in-0-to-9
returns-in-0-to-9 c = sym (ap length (c.reading_at.ensures ∙ one_digit c.reading_at.result (search rules) (search rules)))
