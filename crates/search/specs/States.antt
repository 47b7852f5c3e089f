-- States of a search: what is bound, what is left to match, and where to try again. Assumes nothing.
use Rattle.std.specs.Prelude.{◌≡◌, ℕ, ◌⊎◌, List, [], ◌∷◌, ◌++◌}
use Rattle.sexp.specs.Elements.{Elements, none, atom, list, ◌then◌}
use Rattle.rules.specs.declared.signs.Sign.TheVariants.{Segment}
use Rattle.rules.specs.Patterns.{Pattern}
use Rattle.rules.specs.Bindings.{Binding, binding}
use Rattle.rules.specs.Goals.{Goal, Completes, Grows}

-- a choice point: a segment that stands for a run so far, with the bindings in front of it, the pattern and the elements behind it in its
-- list, and the goals behind that list
pub record Choice : Type 0 where
  pub bound : List Binding
  pub name : List ℕ
  pub run : Elements
  pub pattern : Pattern
  pub left : Elements
  pub goals : List Goal

-- the choice point behind these bindings, of a segment that stands for a run so far
abbrev pub choice : List Binding → List ℕ → Elements → Pattern → Elements → List Goal → Choice
choice b name x p es gs = record { bound = b; name = name; run = x; pattern = p; left = es; goals = gs }

-- what is bound, what is left to match, and the choice points, the last one first
pub record State : Type 0 where
  pub bound : List Binding
  pub goals : List Goal
  pub choices : List Choice

-- the state of these bindings, goals and choice points
abbrev pub state : List Binding → List Goal → List Choice → State
state b gs cs = record { bound = b; goals = gs; choices = cs }

-- the bindings m are met where the segment of a choice point stands for more than it does so far
abbrev pub BeyondIn : Choice → Elements → List Binding → Type 0
BeyondIn c none m = ⊥
BeyondIn c (atom a es) m = Grows c.bound c.name (c.run then atom a none) c.pattern es c.goals m
BeyondIn c (list inner es) m = Grows c.bound c.name (c.run then list inner none) c.pattern es c.goals m

abbrev pub Beyond : Choice → List Binding → Type 0
Beyond c m = BeyondIn c c.left m

-- they are met at one of these choice points
abbrev pub Later : List Choice → List Binding → Type 0
Later [] m = ⊥
Later (c ∷ cs) m = Beyond c m ⊎ Later cs m

-- they are met from a state on
abbrev pub Ahead : State → List Binding → Type 0
Ahead s m = Completes s.bound s.goals m ⊎ Later s.choices m

-- the bindings begin with those of the last choice point and its segment's, and those with the ones of the choice point before
abbrev pub Chained : List Binding → List Choice → Type 0
Chained b [] = Unit {0}
Chained b (c ∷ cs) = ((more : List Binding) × (b ≡ c.bound ++ (binding Segment c.name c.run ∷ more))) × Chained c.bound cs
