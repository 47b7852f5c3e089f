-- What the private functions that walk a record tell. Assumes nothing.
use Rattle.std.specs.Prelude.{ℕ, ◌≤◌, List, ◌∷◌, ◌++◌, length, drop, decimal, Option, Some, None}
use Rattle.sexp.specs.Elements.{Elements, none, atom, list, count, ShortAtoms}
use Rattle.holder.specs.Placed.{Placed, nothing, atom_at, list_at, erase}

-- the run that begins with an element, or with none
abbrev pub run_of : Option Placed → Placed
run_of None = nothing
run_of (Some r) = r

-- a run's first element by itself
abbrev pub first_of : Placed → Elements
first_of nothing = none
first_of (atom_at p a es) = atom a none
first_of (list_at p inner es) = list (erase inner) none

-- a run that keeps within the limits of a record, but for its depth
pub record Limited (es : Elements) : Type 0 where
  pub few : count es ≤ 4096
  pub short : ShortAtoms es

-- the text of an atom of these octets
abbrev pub atom_text : List ℕ → List ℕ
atom_text os = decimal (length os) ++ (58 ∷ os)

-- an output with a text put at its front
abbrev pub put_front : (t out : List ℕ) → List ℕ
put_front t out = t ++ drop (length t) out
