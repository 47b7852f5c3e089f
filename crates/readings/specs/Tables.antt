-- The record of a run of readings, with its places. Assumes nothing.
use Rattle.std.specs.Prelude.{ℕ, ◌+◌, List, [], ◌∷◌, ℤ}
use Rattle.std.specs.Fmt.{signed_decimal}
use Rattle.sexp.specs.Elements.{octets}
use Rattle.holder.specs.Placed.{Placed, nothing, atom_at, list_at}

-- the readings as decimal atoms, the first at the place p, each next one at the next place
abbrev pub row : ℕ → List ℤ → Placed
row p [] = nothing
row p (z ∷ zs) = atom_at p (octets (signed_decimal z)) (row (p + 1) zs)

-- the list of the readings, at the place 0
abbrev pub table : List ℤ → Placed
table zs = list_at 0 (row 1 zs) nothing
