use Rattle.holder.specs.Placed.{erase}
use Rattle.rules.specs.Bindings.{width}
use Rattle.vectors.proofs.drafts.take_all.Given as goal

-- the elements that are left
abbrev pub decreases-loop-number : goal.decreases-loop-number
decreases-loop-number l = width (erase l.draft.left)
