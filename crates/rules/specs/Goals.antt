-- What is left to match, and the bindings that complete it. Assumes nothing.
use Rattle.std.specs.Prelude.{◌≡◌, ℕ, Bool, false, ◌||◌, List, [], ◌∷◌, ◌++◌}
use Rattle.std.specs.Str.{bytes_eq}
use Rattle.sexp.specs.Elements.{Elements, ◌then◌}
use Rattle.rules.specs.declared.signs.Sign.TheVariants.{Segment}
use Rattle.rules.specs.Patterns.{Pattern, Slot, slots, without, firsts}
use Rattle.rules.specs.Bindings.{Binding, binding, fill, bound, Singles}

-- the rest of a pattern, and the elements that it must give
abbrev pub Goal : Type 0
Goal = Pattern × Elements

-- every goal's pattern, filled, is its elements
abbrev pub Filled : List Binding → List Goal → Type 0
Filled m [] = Unit {0}
Filled m (g ∷ gs) = (fill m g.0 ≡ g.1) × Filled m gs

-- the names of the goals' patterns, as often as they have them
abbrev pub goal_slots : List Goal → List Slot
goal_slots [] = []
goal_slots (g ∷ gs) = slots g.0 ++ goal_slots gs

-- a name is bound
abbrev pub is_bound : List ℕ → List Binding → Bool
is_bound name [] = false
is_bound name (b ∷ bs) = bytes_eq name b.slot.name || is_bound name bs

-- those whose names are not bound
abbrev pub unbound : List Binding → List Slot → List Slot
unbound [] ss = ss
unbound (b ∷ bs) ss = without b.slot.name (unbound bs ss)

-- the bindings m complete the bindings b for the goals gs: m is b, and behind it new bindings of exactly those of the goals' names
-- that b does not bind, in the order of first occurrence, each new variable for one element; and every goal's pattern, filled from m,
-- is its elements
pub record Completes (b : List Binding) (gs : List Goal) (m : List Binding) : Type 0 where
  pub new : List Binding
  pub extends : m ≡ b ++ new
  pub names : bound new ≡ unbound b (firsts (goal_slots gs))
  pub single : Singles new
  pub filled : Filled m gs

-- a segment that begins with x, where es and then the goals gs are left: it takes some more of es, perhaps none, and the bindings m complete the rest
pub record Grows (b : List Binding) (name : List ℕ) (x : Elements) (p : Pattern) (es : Elements) (gs : List Goal) (m : List Binding) : Type 0 where
  pub more : Elements
  pub rest : Elements
  pub parts : es ≡ more then rest
  pub completes : Completes (b ++ (binding Segment name (x then more) ∷ [])) ((p, rest) ∷ gs) m
