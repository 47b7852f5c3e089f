use Rattle.fitting.proofs.Laying.{atom_writes}
use Rattle.fitting.proofs.searching.Search.atom.Goals as goal

pub unreachable-requires : goal.unreachable-requires
unreachable-requires g c =
    let from = c.args.self.now in
    atom_writes (g.H.Holder.meaning from.record.now) from c.requires.sound c.requires.cursor c.args.pattern c.requires.at c.args.octets.now c.requires.is c.in-None.ensures
