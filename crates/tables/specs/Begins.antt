-- What a run of nodes says, by cases on the elements that it lays out. Assumes nothing.
use Rattle.std.specs.Prelude.{◌≡◌, ℕ, ◌+◌, ◌≤◌, List, [], ◌∷◌, length, take, drop}
use Rattle.sexp.specs.Elements.{octets, Elements, none, atom, list, count, Within}
use Rattle.tables.specs.declared.nodes.Node.{Node}

-- the node of a list that holds so many nodes
pub record ListNode (held : ℕ) (n : Node) : Type 0 where
  pub kind : n.kind ≡ 0
  pub span : n.span ≡ 1 + held
  pub no_offset : n.offset ≡ 0
  pub no_length : n.length ≡ 0

-- the node of an atom of the octets os
pub record AtomNode (beside os : List ℕ) (n : Node) : Type 0 where
  pub kind : n.kind ≡ 1
  pub span : n.span ≡ 1
  pub inside : n.offset + n.length ≤ length beside
  pub spelled : os ≡ take n.length (drop n.offset beside)

-- the nodes begin with those that lay out the elements
abbrev pub Begins : (beside : List ℕ) → List Node → Elements → Type 0
Begins beside ns none = Unit {0}
Begins beside [] (atom a es) = ⊥
Begins beside [] (list inner es) = ⊥
Begins beside (n ∷ ns) (atom (octets os) es) = AtomNode beside os n × Begins beside ns es
Begins beside (n ∷ ns) (list inner es) = ListNode (count inner) n × (Begins beside ns inner × Begins beside (drop (count inner) ns) es)

-- a run of one element
abbrev pub One : Elements → Type 0
One none = ⊥
One (atom a es) = count es ≡ 0
One (list inner es) = count es ≡ 0

-- the nodes are those of one element within the limits
pub record Single (beside : List ℕ) (ns : List Node) (e : Elements) : Type 0 where
  pub begins : Begins beside ns e
  pub all : count e ≡ length ns
  pub one : One e
  pub within : Within e
