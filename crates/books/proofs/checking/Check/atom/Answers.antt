use Rattle.books.specs.Checks.{seen_by}
use Rattle.books.proofs.Scans.{unsigned}
use Rattle.books.proofs.checking.Check.atom.Goals as goal

pub returns-in-None : goal.returns-in-None
returns-in-None c = unsigned c.args.self.now.side (seen_by c.args.self.now) c.args.offset c.args.octets.now c.in-None.ensures
