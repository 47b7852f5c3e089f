-- A table's record, with the places of its elements. Assumes nothing.
use Rattle.std.specs.Prelude.{ℕ, ◌+◌}
use Rattle.sexp.specs.Elements.{Elements, none, atom, list, count}
use Rattle.holder.specs.Placed.{Placed, nothing, atom_at, list_at}
use Rattle.tables.specs.Places.{number}

-- a run of elements, the first one's node at the index, each next one's behind the nodes of the one before; end is the index behind the list around them
abbrev pub planted : (index end : ℕ) → Elements → Placed
planted index end none = nothing
planted index end (atom a es) = atom_at (number index end) a (planted (index + 1) end es)
planted index end (list inner es) =
    list_at (number index end) (planted (index + 1) (index + 1 + count inner) inner) (planted (index + 1 + count inner) end es)
