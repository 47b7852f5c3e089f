-- What the private functions that check nodes tell. Assumes nothing.
use Rattle.std.specs.Prelude.{◌≡◌, ℕ, ◌≤◌, List, drop, Some, None, Option}
use Rattle.sexp.specs.Elements.{Elements, count, depth, ShortAtoms}
use Rattle.tables.specs.declared.nodes.Node.{Node}
use Rattle.tables.specs.declared.nodes.Content.{Content}
use Rattle.tables.specs.declared.nodes.Content.TheVariants.{List as ListContent, Atom as AtomContent}
use Rattle.tables.specs.Begins.{ListNode, AtomNode, Begins, One}

-- what a node says: a list that holds so many nodes, or an atom of octets; nothing where it is the node of neither
abbrev pub Says : (beside : List ℕ) → Node → Option Content → Type 0
Says beside n (Some (ListContent held)) = ListNode held n
Says beside n (Some (AtomContent os)) = AtomNode beside os.now n
Says beside n None = ((held : ℕ) → ListNode held n → ⊥) × ((os : List ℕ) → AtomNode beside os n → ⊥)

-- the nodes begin with those of one element, of at most so many levels
pub record Fits (beside : List ℕ) (levels : ℕ) (ns : List Node) (e : Elements) : Type 0 where
  pub begins : Begins beside ns e
  pub one : One e
  pub shallow : depth e ≤ levels
  pub short : ShortAtoms e

-- such an element comes first, and rest are the nodes behind it
pub record FitsBefore (beside : List ℕ) (levels : ℕ) (ns rest : List Node) : Type 0 where
  pub first : Elements
  pub fits : Fits beside levels ns first
  pub behind : rest ≡ drop (count first) ns

-- no such element comes first
abbrev pub NoneFits : (beside : List ℕ) (levels : ℕ) → List Node → Type 0
NoneFits beside levels ns = (e : Elements) → Fits beside levels ns e → ⊥
