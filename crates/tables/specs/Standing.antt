-- What a table's node says of the element that stands at its place. Assumes nothing.
use Rattle.std.specs.Prelude.{◌≡◌, ℕ, ◌+◌, ◌≤◌, List, cond, ◌==◌, nat_lt}
use Rattle.std.specs.Bool.{then_some}
use Rattle.holder.specs.declared.kinds.Kind.TheVariants.{List as ListKind, Atom as AtomKind}
use Rattle.holder.specs.Placed.{Placed, front, inside, behind, octets_of, kind_of, IsList, IsAtom}
use Rattle.tables.specs.declared.nodes.Node.{Node}
use Rattle.tables.specs.declared.places.Place.{Place}
use Rattle.tables.specs.Begins.{AtomNode}
use Rattle.tables.specs.Places.{number}

-- the node n at a place is that of the first element of the run r, and tells its kind, an atom's octets, the place of a list's first element, and that of the next element
pub record Standing (beside : List ℕ) (place : Place) (n : Node) (r : Placed) : Type 0 where
  pub kind : kind_of r ≡ cond (n.kind == 0) ListKind AtomKind
  pub atom : IsAtom r → AtomNode beside (octets_of r) n
  pub inside : IsList r → front (inside r) ≡ then_some (nat_lt 1 n.span) (number (place.index + 1) (place.index + n.span))
  pub behind : front (behind r) ≡ then_some (nat_lt (place.index + n.span) place.end) (number (place.index + n.span) place.end)
  pub within : place.index + n.span ≤ place.end
  pub most : place.end ≤ 4096
