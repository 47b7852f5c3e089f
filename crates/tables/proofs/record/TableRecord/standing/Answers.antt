use Rattle.tables.proofs.Spots.{stood_there}
use Rattle.tables.proofs.record.TableRecord.standing.Goals as goal

pub returns : goal.returns
returns c =
    stood_there _ _ c.args.self.now.ok c.args.place c.from-place.result c.from.result c.from-place.ensures c.from.ensures c.requires
