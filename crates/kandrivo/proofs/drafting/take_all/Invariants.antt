use Rattle.std.proofs.Common.{◌≡◌}
use Rattle.holder.specs.Placed.{erase}
use Rattle.rules.specs.Bindings.{width}
use Rattle.kandrivo.specs.Books.{drafted}
use Rattle.kandrivo.proofs.drafting.take_all.Given as goal

-- what is taken and what is left are as at first
abbrev pub invariant-loop-refusal : goal.invariant-loop-refusal
invariant-loop-refusal l = drafted l.draft ≡ drafted l.initial.draft

-- the elements that are left
abbrev pub decreases-loop-refusal : goal.decreases-loop-refusal
decreases-loop-refusal l = width (erase l.draft.left)
