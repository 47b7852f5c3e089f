-- When a run of nodes is a table record. Assumes nothing.
use Rattle.std.specs.Prelude.{ℕ, ◌+◌, ◌≤◌, List, [], ◌∷◌, ◌++◌, length, take, drop}
use Rattle.sexp.specs.Elements.{Elements, none, atom, list, octets, Record, Within}
use Rattle.tables.specs.declared.nodes.Node.{Node}

-- a list that spans so many nodes, itself included
abbrev pub list_node : (span : ℕ) → Node
list_node span = record { kind = 0; span = span; offset = 0; length = 0 }

-- an atom of len octets that lie at the offset `at`
abbrev pub atom_node : (at len : ℕ) → Node
atom_node at len = record { kind = 1; span = 1; offset = at; length = len }

-- the nodes lay out a run of elements, with the octets of its atoms beside them: an atom's lie within them, a list's elements follow it, each where the one before ends, and fill its span
pub data Lays (beside : List ℕ) : List Node → Elements → Type 0 where
  empty : Lays beside [] none
  leaf : {at len : ℕ} {rest : List Node} {es : Elements} → at + len ≤ length beside → Lays beside rest es → Lays beside (atom_node at len ∷ rest) (atom (octets (take len (drop at beside))) es)
  branch : {within rest : List Node} {inner es : Elements} → Lays beside within inner → Lays beside rest es → Lays beside (list_node (1 + length within) ∷ (within ++ rest)) (list inner es)

-- the nodes are the table of a record within the limits
pub record Table (beside : List ℕ) (nodes : List Node) (e : Elements) : Type 0 where
  pub lays : Lays beside nodes e
  pub root : Record e
  pub within : Within e

-- the nodes are the table of some record
pub record IsTable (beside : List ℕ) (nodes : List Node) : Type 0 where
  pub elements : Elements
  pub table : Table beside nodes elements
