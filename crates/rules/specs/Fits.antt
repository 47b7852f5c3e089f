-- Fits of a pattern and a record, of a book and a record. Assumes nothing.
use Rattle.std.specs.Prelude.{◌≡◌, ℕ, zero, suc, List, [], ◌∷◌}
use Rattle.sexp.specs.Elements.{Elements}
use Rattle.rules.specs.Patterns.{Pattern, Rule, names}
use Rattle.rules.specs.Bindings.{Binding, fill, bound, Singles}

-- the bindings are a fit of a pattern and a record: they bind exactly the pattern's names, in the order of first occurrence,
-- and the pattern filled from them is the record
pub record Fit (p : Pattern) (e : Elements) (bs : List Binding) : Type 0 where
  pub names : bound bs ≡ names p
  pub single : Singles bs
  pub fills : fill bs p ≡ e

-- r is the n-th rule of a book, from 1
abbrev pub IsRule : List Rule → ℕ → Rule → Type 0
IsRule [] n r = ⊥
IsRule (q ∷ rs) zero r = ⊥
IsRule (q ∷ rs) (suc zero) r = q ≡ r
IsRule (q ∷ rs) (suc (suc n)) r = IsRule rs (suc n) r

-- a rule's number, and what its names stand for
pub record Numbered : Type 0 where
  pub rule : ℕ
  pub bindings : List Binding

-- a fit of a book and a record
abbrev pub BookFit : List Rule → Elements → Numbered → Type 0
BookFit book e f = (r : Rule) × IsRule book f.rule r × Fit r.pattern e f.bindings
