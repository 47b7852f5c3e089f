use Rattle.holder.specs.Placed.{erase}
use Rattle.rules.specs.Bindings.{width}
use Rattle.kandrivo.proofs.taking.take_all.Given as goal

-- the elements that are left
abbrev pub decreases-loop-answers : goal.decreases-loop-answers
decreases-loop-answers l = width (erase l.draft.left)
