-- Where what a name stands for lies in a record. Assumes nothing.
use Rattle.std.specs.Prelude.{◌≢◌, ℕ, zero, suc, List}
use Rattle.sexp.specs.Elements.{Atom}
use Rattle.holder.specs.Placed.{Placed, inside, behind}
use Rattle.rules.specs.declared.signs.Sign.{Sign}
use Rattle.rules.specs.Complete.{In}
use Rattle.rules.specs.Patterns.{Pattern, constant, slot, group, slots}
use Rattle.rules.specs.Bindings.{Binding, value, width}

-- a name is one of a pattern's
abbrev pub Occurs : List ℕ → Pattern → Type 0
Occurs name p = (sign : Sign) × In (record { sign = sign; name = name }) (slots p)

-- the run behind the first n elements of another
abbrev pub behind_all : ℕ → Placed → Placed
behind_all zero r = r
behind_all (suc n) r = behind_all n (behind r)

-- a pattern, filled from the bindings m, is the elements of the run r: x is the run that begins where the name's first occurrence does
pub data FirstAt (m : List Binding) (name : List ℕ) : Pattern → (r x : Placed) → Type 0 where
  here : (sign : Sign) (p : Pattern) (r : Placed) → FirstAt m name (slot sign name p) r r
  past_constant : (a : Atom) {p : Pattern} {r x : Placed} → FirstAt m name p (behind r) x → FirstAt m name (constant a p) r x
  past_name : (sign : Sign) (o : List ℕ) {p : Pattern} {r x : Placed} → o ≢ name → FirstAt m name p (behind_all (width (value o m)) r) x → FirstAt m name (slot sign o p) r x
  in_list : {inner : Pattern} (p : Pattern) {r x : Placed} → FirstAt m name inner (inside r) x → FirstAt m name (group inner p) r x
  past_list : (inner : Pattern) {p : Pattern} {r x : Placed} → (Occurs name inner → ⊥) → FirstAt m name p (behind r) x → FirstAt m name (group inner p) r x
