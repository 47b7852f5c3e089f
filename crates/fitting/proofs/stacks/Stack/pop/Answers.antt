use Rattle.std.proofs.Common.{rules, ◌≡◌, sym, ◌+◌, ◌<◌, length, ap, ◌∙◌}
use Rattle.fitting.proofs.Stacking.{last_first}
use Rattle.fitting.proofs.stacks.Stack.pop.Goals as goal

pub returns : goal.returns
returns g c =
    let slots = c.self.inside.slots.now in
    let below = c.in_ok-below.below in
    let deep : c.self.inside.depth ≡ below + 1 = search rules in
    let inside : below < length slots = search rules in
    sym c.self.view_is ∙ ap (λ xs. record { entries = xs; room = length slots }) (rw deep (last_first slots below _ inside))
