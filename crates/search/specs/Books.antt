-- The least fit of a book behind a position. Assumes nothing.
use Rattle.std.specs.Prelude.{◌≡◌, ◌⊎◌, List, Option, Some, None}
use Rattle.sexp.specs.Elements.{Elements}
use Rattle.rules.specs.Patterns.{Rule}
use Rattle.rules.specs.Fits.{Numbered, BookFit}
use Rattle.rules.specs.Keys.{Key, key, Before}

-- before all keys, or behind one
pub data BookPosition : Type 0 where
  first : BookPosition
  past : Key → BookPosition

abbrev pub IsPast : BookPosition → Key → Type 0
IsPast first k = Unit {0}
IsPast (past l) k = Before l k

-- the key of a fit of a book and a record
abbrev pub OfBookFit : List Rule → Elements → Key → Type 0
OfBookFit book e k = (f : Numbered) × BookFit book e f × (key f ≡ k)

-- the least key behind a position that belongs to a fit of a book and a record, or that there is none
abbrev pub LeastPast : List Rule → Elements → BookPosition → Option Key → Type 0
LeastPast book e position (Some k) =
    OfBookFit book e k × IsPast position k × ((l : Key) → OfBookFit book e l → IsPast position l → (k ≡ l) ⊎ Before k l)
LeastPast book e position None = (l : Key) → OfBookFit book e l → IsPast position l → ⊥
