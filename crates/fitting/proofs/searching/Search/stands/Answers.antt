use Rattle.fitting.proofs.Finding.{tells_all, tells_stuck}
use Rattle.fitting.proofs.searching.Search.stands.Goals as goal

pub returns-then-walk : goal.returns-then-walk
returns-then-walk g c = tells_all c.are_zeros.result c.are_zeros.ensures c.if-walk.ensures

pub returns-else-walk : goal.returns-else-walk
returns-else-walk g c = rw c.if-walk.false (tells_stuck c.if-walk.ensures)
