-- The canonical text of a record, as a function. Assumes nothing.
use Rattle.std.specs.Prelude.{ℕ, List, [], ◌∷◌, ◌++◌, length, decimal}
use Rattle.sexp.specs.Elements.{Atom, octets, Elements, none, atom, list}

-- an atom's text and then rest: the length in decimal, a colon (58), the octets
abbrev pub atom_then : Atom → List ℕ → List ℕ
atom_then (octets os) rest = decimal (length os) ++ (58 ∷ (os ++ rest))

-- a run's text and then rest: a list is "(" (40), its elements and ")" (41)
abbrev pub text_then : Elements → List ℕ → List ℕ
text_then none rest = rest
text_then (atom a es) rest = atom_then a (text_then es rest)
text_then (list inner es) rest = 40 ∷ text_then inner (41 ∷ text_then es rest)

abbrev pub text : Elements → List ℕ
text es = text_then es []
