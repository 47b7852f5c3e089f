-- What a table means as a record, and what filling a record with a table does. Assumes nothing.
use Rattle.std.specs.Prelude.{◌≡◌, ℕ, List, length, Ok, Err, Result}
use Rattle.sexp.specs.declared.refusals.Refusal.{Refusal}
use Rattle.sexp.specs.declared.refusals.Refusal.TheVariants.{NotATable}
use Rattle.sexp.specs.Elements.{Elements}
use Rattle.holder.specs.Copies.{record_of}
use Rattle.holder.specs.Placed.{Meaning}
use Rattle.tables.specs.declared.nodes.Node.{Node}
use Rattle.tables.specs.Nodes.{Table, IsTable}
use Rattle.tables.specs.Planted.{planted}
use Rattle.tables.specs.Unique.{the_table}
use Rattle.tables.specs.Lawful.{planted_lawful}

-- the record that the nodes lay out, each element at its place
abbrev pub meant : (beside : List ℕ) (nodes : List Node) → ∥ IsTable beside nodes ∥₁ → Meaning
meant beside nodes ok =
    let t = the_table beside nodes ok in
    record { tree = planted 0 (length nodes) t.elements; lawful = planted_lawful (length nodes) t.elements t.table.root t.table.within }

-- the nodes are the table of the record that is meant, and of no other
pub record MeansItsTable (beside : List ℕ) (nodes : List Node) (m : Meaning) : Type 0 where
  pub lays : Table beside nodes (record_of m)
  pub only : (e : Elements) → Table beside nodes e → e ≡ record_of m

-- what filling a record does: nodes and octets that are the table of a record are taken in place of those held; any others are refused, and those held stay
abbrev pub Fills : (nodes old new : List Node) (beside old_beside new_beside : List ℕ) → Result (Unit {0}) Refusal → Type 0
Fills nodes old new beside old_beside new_beside (Ok done) = IsTable beside nodes × (new ≡ nodes) × (new_beside ≡ beside)
Fills nodes old new beside old_beside new_beside (Err k) = (IsTable beside nodes → ⊥) × (k ≡ NotATable) × (new ≡ old) × (new_beside ≡ old_beside)
