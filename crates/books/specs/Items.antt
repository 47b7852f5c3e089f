-- The elements of a run in the order of the text. Assumes nothing.
use Rattle.std.specs.Prelude.{ℕ, List, [], ◌∷◌, ◌++◌, Option, Some, None}
use Rattle.sexp.specs.Elements.{octets}
use Rattle.holder.specs.Placed.{Placed, nothing, atom_at, list_at}

-- an element's place, with an atom's octets
pub record Item : Type 0 where
  pub place : ℕ
  pub atom : Option (List ℕ)

-- those of a run, each in front of those that it holds
abbrev pub items : Placed → List Item
items nothing = []
items (atom_at p (octets os) es) = record { place = p; atom = Some os } ∷ items es
items (list_at p inner es) = record { place = p; atom = None } ∷ (items inner ++ items es)

-- those of a run's first element
abbrev pub first_items : Placed → List Item
first_items nothing = []
first_items (atom_at p (octets os) es) = record { place = p; atom = Some os } ∷ []
first_items (list_at p inner es) = record { place = p; atom = None } ∷ items inner
