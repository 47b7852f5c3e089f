use Rattle.rules.proofs.Writing.{sign_writes}
use Rattle.fitting.proofs.Filled.{name_gives, name_found}
use Rattle.fitting.proofs.searching.Search.size_of_atom.Goals as goal

pub unreachable-requires : goal.unreachable-requires
unreachable-requires g c =
    let s = c.args.self.now in
    name_found (g.H.Holder.meaning s.record.now).tree s c.args.octets.now c.requires c.in-Some-Name.ensures c.in-Some-Name.field-0-is c.in-None-find.ensures

pub unreachable-requires-in-None : goal.unreachable-requires-in-None
unreachable-requires-in-None g c = sign_writes c.args.octets.now c.requires.signed c.in-None.ensures

pub returns-in-Some : goal.returns-in-Some
returns-in-Some g c =
    let s = c.args.self.now in
    rw (name_gives (g.H.Holder.meaning s.record.now).tree s c.args.octets.now c.in-Some.mark c.in-Some.first c.in-Some-Name.ensures c.in-Some-Name.field-0-is c.in-Some.ensures) c.size_of_run.ensures
