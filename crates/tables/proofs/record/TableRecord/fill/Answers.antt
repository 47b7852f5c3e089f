use Rattle.tables.proofs.Meaning.{meant_table}
use Rattle.tables.proofs.record.TableRecord.fill.Goals as goal

pub returns-then-not-is_table-clause-means : goal.returns-then-not-is_table-clause-means
returns-then-not-is_table-clause-means c = meant_table _ _ c.args.self.now.ok

pub returns-clause-means : goal.returns-clause-means
returns-clause-means c = meant_table _ _ _
