-- The least fit behind a position. Assumes nothing.
use Rattle.std.specs.Prelude.{◌≡◌, ℕ, ◌⊎◌, List, Option, Some, None}
use Rattle.sexp.specs.Elements.{Elements}
use Rattle.rules.specs.Patterns.{Pattern}
use Rattle.rules.specs.Bindings.{Binding, lengths}
use Rattle.rules.specs.Fits.{Fit}
use Rattle.rules.specs.Keys.{four, Smaller}

-- where a search begins: before all keys of a rule, or behind the one of these lengths
pub data Position : Type 0 where
  start : Position
  behind : List ℕ → Position

abbrev pub IsAfter : Position → List ℕ → Type 0
IsAfter start ls = Unit {0}
IsAfter (behind ks) ls = Smaller ks ls

-- these lengths belong to a fit of a pattern and a record
abbrev pub OfFit : Pattern → Elements → List ℕ → Type 0
OfFit p e ls = (m : List Binding) × Fit p e m × (four (lengths m) ≡ ls)

-- the least lengths behind a position that belong to a fit, or that there are none
abbrev pub LeastAfter : Pattern → Elements → Position → Option (List ℕ) → Type 0
LeastAfter p e position (Some ls) =
    OfFit p e ls × IsAfter position ls × ((ks : List ℕ) → OfFit p e ks → IsAfter position ks → (ls ≡ ks) ⊎ Smaller ls ks)
LeastAfter p e position None = (ks : List ℕ) → OfFit p e ks → IsAfter position ks → ⊥
