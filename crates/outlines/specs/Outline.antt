-- The outline of a record. Assumes nothing.
use Rattle.std.specs.Prelude.{ℕ, ◌+◌, ◌*◌, List, [], ◌∷◌, ◌++◌, replicate, codes}
use Rattle.std.specs.List.{flat_map}
use Rattle.sexp.specs.Elements.{octets, Elements, none, atom, list}
use Rattle.outlines.specs.Escapes.{shown}

-- an atom's line: its octets in quotes
abbrev pub atom_line : List ℕ → List ℕ
atom_line os = 34 ∷ (flat_map shown os ++ (34 ∷ (10 ∷ [])))

-- a list's line
abbrev pub list_line : Elements → List ℕ
list_line none = codes "empty list\n"
list_line (atom a es) = codes "list\n"
list_line (list inner es) = codes "list\n"

-- the lines of a run whose elements stand in n lists, one in another
abbrev pub outline : ℕ → Elements → List ℕ
outline n none = []
outline n (atom (octets os) es) = replicate (2 * n) 32 ++ (atom_line os ++ outline n es)
outline n (list inner es) = replicate (2 * n) 32 ++ (list_line inner ++ (outline (n + 1) inner ++ outline n es))
