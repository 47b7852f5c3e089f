-- The nodes that a record's text is loaded into. Assumes nothing.
use Rattle.std.specs.Prelude.{ℕ, ◌+◌, List, [], ◌∷◌, ◌++◌, length, decimal}
use Rattle.sexp.specs.Elements.{Elements, none, atom, list, octets, count}
use Rattle.sexp.specs.Text.{atom_then, text}
use Rattle.tables.specs.declared.nodes.Node.{Node}
use Rattle.tables.specs.Nodes.{list_node, atom_node}

-- the nodes of a run whose text begins at the offset p: a list's spans it and all that it holds, whose nodes follow it; an atom's tells where its octets lie, right behind its colon, even if it has none
abbrev pub nodes_from : (p : ℕ) → Elements → List Node
nodes_from p none = []
nodes_from p (atom (octets os) es) = atom_node (p + (length (decimal (length os)) + 1)) (length os) ∷ nodes_from (p + length (atom_then (octets os) [])) es
nodes_from p (list inner es) = list_node (1 + count inner) ∷ (nodes_from (p + 1) inner ++ nodes_from (p + (length (text inner) + 2)) es)
