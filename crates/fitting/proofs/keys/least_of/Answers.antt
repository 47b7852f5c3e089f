use Rattle.fitting.proofs.Rules.{lawful_pattern}
use Rattle.fitting.proofs.keys.least_of.Goals as goal

pub least-requires-clause-pattern : goal.least-requires-clause-pattern
least-requires-clause-pattern g c = lawful_pattern c.requires.rule.1
