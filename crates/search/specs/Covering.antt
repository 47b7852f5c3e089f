-- Which fits a search is still to meet, and the states that meet them. Assumes nothing.
use Rattle.std.specs.Prelude.{◌≡◌, ℕ, ◌⊎◌, List, [], ◌∷◌, ◌++◌, length}
use Rattle.sexp.specs.Elements.{Elements}
use Rattle.rules.specs.Patterns.{Pattern, Slot, names, firsts}
use Rattle.rules.specs.Bindings.{Binding, bound, lengths}
use Rattle.rules.specs.Fits.{Fit}
use Rattle.rules.specs.Keys.{four, Smaller}
use Rattle.rules.specs.Goals.{goal_slots, unbound, Completes}
use Rattle.search.specs.States.{Choice, State, Later, Ahead, Chained}
use Rattle.search.specs.Least.{Position, behind, IsAfter}

-- what a search is to meet: every fit past a position, and no other; or, while it lays its segments with given lengths, every fit from
-- these lengths on
pub data Aim : Type 0 where
  past : Position → Aim
  along : List ℕ → Aim

-- the lengths that may be met
abbrev pub Allowed : Aim → List ℕ → Type 0
Allowed (past position) ls = IsAfter position ls
Allowed (along ks) ls = Unit {0}

-- the lengths that must be met
abbrev pub Wanted : Aim → List ℕ → Type 0
Wanted (past position) ls = IsAfter position ls
Wanted (along ks) ls = (ls ≡ ks) ⊎ Smaller ks ls

-- the position past which the fits are that are met by trying again
abbrev pub tried : Aim → Position
tried (past position) = position
tried (along ks) = behind ks

-- the names that are bound, and behind them those still to come
abbrev pub all_names : State → List Slot
all_names s = bound s.bound ++ unbound s.bound (firsts (goal_slots s.goals))

-- a state on the way along four lengths: the segments bound so far have the first of these, and the pattern's names are those bound and
-- those still to come
pub record Tight (p : Pattern) (ks : List ℕ) (s : State) : Type 0 where
  pub long : length ks ≡ 4
  pub left : List ℕ
  pub parts : ks ≡ lengths s.bound ++ left
  pub named : all_names s ≡ names p

-- the segments are laid as the aim wants
abbrev pub Laid : Pattern → Aim → State → Type 0
Laid p (past position) s = Unit {0}
Laid p (along ks) s = Tight p ks s

-- from a state on, a search for the fits of a pattern and a record meets what it is to meet
pub record Covers (p : Pattern) (e : Elements) (aim : Aim) (s : State) : Type 0 where
  pub sound : (m : List Binding) → Ahead s m → Fit p e m × Allowed aim (four (lengths m))
  pub whole : (m : List Binding) → Fit p e m → Wanted aim (four (lengths m)) → Ahead s m
  pub chained : Chained s.bound s.choices
  pub laid : Laid p aim s

-- nothing that is to be met completes what is bound for the goals
pub record Dead (aim : Aim) (s : State) : Type 0 where
  pub unmet : (m : List Binding) → Completes s.bound s.goals m → Wanted aim (four (lengths m)) → ⊥

-- each choice point begins with the one before
abbrev pub Linked : List Choice → Type 0
Linked [] = Unit {0}
Linked (c ∷ cs) = Chained c.bound cs

-- by trying again at choice points, it meets every fit past a position, and no other
pub record CoversLater (p : Pattern) (e : Elements) (position : Position) (cs : List Choice) : Type 0 where
  pub sound : (m : List Binding) → Later cs m → Fit p e m × IsAfter position (four (lengths m))
  pub whole : (m : List Binding) → Fit p e m → IsAfter position (four (lengths m)) → Later cs m
  pub linked : Linked cs
