use Rattle.std.proofs.Common.{rules}
use Rattle.outlines.proofs.Lines.{filled}
use Rattle.outlines.proofs.outline.add_list.Goals as goal

pub returns-in-Some : goal.returns-in-Some
returns-in-Some g c = let e = filled c.in-Some.field-0 (search rules) in search (rules, e)
