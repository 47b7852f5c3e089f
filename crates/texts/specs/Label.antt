-- What an accepted text holds, each element placed at the offset of its first octet. Assumes nothing.
use Rattle.std.specs.Prelude.{ℕ, ◌+◌, Bool, true, false, List, [], length}
use Rattle.sexp.specs.Elements.{Elements, none, atom, list}
use Rattle.sexp.specs.Reading.{Verdict, accepted, rejected, verdict}
use Rattle.sexp.specs.Text.{atom_then, text}
use Rattle.holder.specs.Placed.{Placed, nothing, atom_at, list_at}

-- a run whose text begins at the offset p, each element at its own offset:
-- an atom's is that of its first digit, a list's that of its "("
abbrev pub label : ℕ → Elements → Placed
label p none = nothing
label p (atom a es) = atom_at p a (label (p + length (atom_then a [])) es)
label p (list inner es) = list_at p (label (p + 1) inner) (label (p + (length (text inner) + 2)) es)

abbrev pub accepts : Verdict → Bool
accepts (accepted e) = true
accepts (rejected k) = false

-- the record that was read
abbrev pub held : Verdict → Elements
held (accepted e) = e
held (rejected k) = none

-- the record of a text, with offsets for places
abbrev pub text_tree : List ℕ → Placed
text_tree t = label 0 (held (verdict t))
