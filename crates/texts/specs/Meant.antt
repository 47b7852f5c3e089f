-- The meaning of a text record: its tree, and that it is lawful. Assumes nothing.
use Rattle.std.specs.Prelude.{◌≡◌, ℕ, true, List}
use Rattle.sexp.specs.Reading.{verdict}
use Rattle.holder.specs.Placed.{Meaning}
use Rattle.texts.specs.Label.{accepts, text_tree}
use Rattle.texts.specs.Lawful.{lawful}

abbrev pub meant : (t : List ℕ) → accepts (verdict t) ≡ true → Meaning
meant t ok = record { tree = text_tree t; lawful = lawful t ok }
