use Rattle.std.proofs.Common.{◌≡◌, ◌-◌, length}
use Rattle.sexp.specs.Elements.{Elements}
use Rattle.loading.specs.Fills.{Fills}
use Rattle.loading.proofs.loading.Loader.+element.Given as goal

-- the depth that is left
abbrev pub decreases-element : goal.decreases-element
decreases-element l = 33 - l.self.now.cursor.depth

-- the elements passed and written so far
abbrev pub invariant-loop : goal.invariant-loop
invariant-loop l =
    (l.self.nodes.ghost_name ≡ l.initial.self.nodes.ghost_name) × (l.self.mark.ghost_name ≡ l.initial.self.mark.ghost_name) × ((es : Elements) × Fills l.initial.self l.self es)

-- the text that is left
abbrev pub decreases-loop : goal.decreases-loop
decreases-loop l = length l.initial.self.cursor.text.now - l.self.cursor.at
