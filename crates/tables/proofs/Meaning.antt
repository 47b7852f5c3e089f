-- What a table means is the one record that it lays out. Assumes nothing.
use Rattle.std.proofs.Common.{◌≤◌, ℕ, List, [], ◌∷◌, length, sym, refl, subst, arith}
use Rattle.sexp.specs.Elements.{none, list}
use Rattle.holder.specs.Copies.{record_of}
use Rattle.tables.specs.declared.nodes.Node.{Node}
use Rattle.tables.specs.Nodes.{list_node, empty, branch, Table, IsTable}
use Rattle.tables.specs.Unique.{lays_count, the_table, table_same}
use Rattle.tables.specs.Lawful.{erase_planted}
use Rattle.tables.specs.Meant.{meant, MeansItsTable}

pub meant_table : (o : List ℕ) (ns : List Node) (ok : ∥ IsTable o ns ∥₁) → MeansItsTable o ns (meant o ns ok)
meant_table o ns ok =
    let t = the_table o ns ok in
    let lays : Table o ns (record_of (meant o ns ok)) = subst (Table o ns) (sym (erase_planted 0 (length ns) t.elements)) t.table in
    record { lays = lays; only = λ e table. table_same o ns e (record_of (meant o ns ok)) table lays }

-- a table has few nodes
pub few_nodes : (o : List ℕ) (ns : List Node) → ∥ IsTable o ns ∥₁ → length ns ≤ 4096
few_nodes o ns ok =
    let t = (the_table o ns ok).table in
    omega (arith, lays_count t.lays, t.within.few)

-- the table of the empty list
empty_list : Table [] (list_node 1 ∷ []) (list none none)
empty_list =
    record { lays = branch empty empty; root = refl; within = record { few = omega arith; shallow = omega arith; short = (tt, tt) } }

pub empty_table : ∥ IsTable [] (list_node 1 ∷ []) ∥₁
empty_table = ∣ record { elements = list none none; table = empty_list } ∣₁
