-- Records in which each element has a place, and what is asked of them. Assumes nothing.
use Rattle.std.specs.Prelude.{ℕ, cond, List, [], ◌∷◌, ◌++◌, Some, None, Option, ◌==◌, ◌≢◌}
use Rattle.sexp.specs.Elements.{Atom, octets, Elements, none, atom, list, Record, Within}
use Rattle.holder.specs.declared.kinds.Kind.{Kind}
use Rattle.holder.specs.declared.kinds.Kind.TheVariants.{List as ListKind, Atom as AtomKind}

-- a run of elements, each with its place
pub data Placed : Type 0 where
  nothing : Placed
  atom_at : ℕ → Atom → Placed → Placed
  list_at : ℕ → Placed → Placed → Placed

-- the same run without its places
abbrev pub erase : Placed → Elements
erase nothing = none
erase (atom_at p a es) = atom a (erase es)
erase (list_at p inner es) = list (erase inner) (erase es)

-- the places of a run, in the order of the text
abbrev pub places : Placed → List ℕ
places nothing = []
places (atom_at p a es) = p ∷ places es
places (list_at p inner es) = p ∷ (places inner ++ places es)

-- p is none of these places
abbrev pub Absent : ℕ → List ℕ → Type 0
Absent p [] = Unit {0}
Absent p (q ∷ qs) = (p ≢ q) × Absent p qs

-- no two of these places are the same
abbrev pub Apart : List ℕ → Type 0
Apart [] = Unit {0}
Apart (p ∷ ps) = Absent p ps × Apart ps

-- one element, within the limits, and no two elements share a place
pub record Lawful (tree : Placed) : Type 0 where
  pub root : Record (erase tree)
  pub within : Within (erase tree)
  pub apart : Apart (places tree)

-- what a holder means: a lawful record with places
pub record Meaning : Type 0 where
  pub tree : Placed
  pub lawful : Lawful tree

infixr 40 ◌or_else◌
-- the first run, or the second where the first has no element
abbrev pub ◌or_else◌ : Placed → Placed → Placed
nothing or_else fs = fs
atom_at p a es or_else fs = atom_at p a es
list_at p inner es or_else fs = list_at p inner es

-- the run that begins at a place: the element there and those behind it in its list; nothing where no element has the place
abbrev pub run_at : ℕ → Placed → Placed
run_at p nothing = nothing
run_at p (atom_at q a es) = cond (p == q) (atom_at q a es) (run_at p es)
run_at p (list_at q inner es) = cond (p == q) (list_at q inner es) (run_at p inner or_else run_at p es)

-- the place of a run's first element, or none
abbrev pub front : Placed → Option ℕ
front nothing = None
front (atom_at p a es) = Some p
front (list_at p inner es) = Some p

-- the elements of a run's first element, a list
abbrev pub inside : Placed → Placed
inside nothing = nothing
inside (atom_at p a es) = nothing
inside (list_at p inner es) = inner

-- the run behind its first element
abbrev pub behind : Placed → Placed
behind nothing = nothing
behind (atom_at p a es) = es
behind (list_at p inner es) = es

-- the octets of a run's first element, an atom
abbrev pub spelled : Atom → List ℕ
spelled (octets os) = os

abbrev pub octets_of : Placed → List ℕ
octets_of nothing = []
octets_of (atom_at p a es) = spelled a
octets_of (list_at p inner es) = []

abbrev pub kind_of : Placed → Kind
kind_of nothing = ListKind
kind_of (atom_at p a es) = AtomKind
kind_of (list_at p inner es) = ListKind

-- a run begins with an element, with a list, with an atom
abbrev pub Stands : Placed → Type 0
Stands nothing = ⊥
Stands (atom_at p a es) = Unit {0}
Stands (list_at p inner es) = Unit {0}

abbrev pub IsList : Placed → Type 0
IsList nothing = ⊥
IsList (atom_at p a es) = ⊥
IsList (list_at p inner es) = Unit {0}

abbrev pub IsAtom : Placed → Type 0
IsAtom nothing = ⊥
IsAtom (atom_at p a es) = Unit {0}
IsAtom (list_at p inner es) = ⊥
