-- Where something stands in a record's list: a place, or behind the last element. Assumes nothing.
use Rattle.std.specs.Prelude.{◌≡◌, ℕ, zero, suc, ◌<◌, ◌≤◌, Option, Some, None}
use Rattle.sexp.specs.Elements.{Elements, none, atom, list, ◌then◌}
use Rattle.holder.specs.Placed.{Placed, nothing, erase, run_at, Stands}
use Rattle.rules.specs.Bindings.{width}
use Rattle.fitting.specs.Occurs.{behind_all}

-- the run that begins at a cursor
abbrev pub run_from : Placed → Option ℕ → Placed
run_from tree None = nothing
run_from tree (Some p) = run_at p tree

-- its elements
abbrev pub elements_from : Placed → Option ℕ → Elements
elements_from tree at = erase (run_from tree at)

-- a place is one where an element stands
abbrev pub Lies : Placed → Option ℕ → Type 0
Lies tree None = Unit {0}
Lies tree (Some p) = Stands (run_at p tree)

-- the first n elements of a run, and those behind them
abbrev pub front : ℕ → Elements → Elements
front zero es = none
front (suc n) none = none
front (suc n) (atom a es) = atom a (front n es)
front (suc n) (list inner es) = list inner (front n es)

abbrev pub back : ℕ → Elements → Elements
back zero es = es
back (suc n) none = none
back (suc n) (atom a es) = back n es
back (suc n) (list inner es) = back n es

-- n elements are passed from one cursor to another; or there are fewer
abbrev pub Passes : Placed → Option ℕ → ℕ → Option (Option ℕ) → Type 0
Passes tree from n (Some to) = Lies tree to × (n ≤ width (elements_from tree from)) × (run_from tree to ≡ behind_all n (run_from tree from))
Passes tree from n None = width (elements_from tree from) < n

-- elements that are the run x are passed from one cursor to another; or the elements there do not begin with x
abbrev pub PassesRun : Placed → Option ℕ → Elements → Option (Option ℕ) → Type 0
PassesRun tree from x (Some to) =
    Lies tree to × (elements_from tree from ≡ x then elements_from tree to) × (run_from tree to ≡ behind_all (width x) (run_from tree from))
PassesRun tree from x None = (rest : Elements) → elements_from tree from ≡ x then rest → ⊥
