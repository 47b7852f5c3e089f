-- What is told of an atom of a pattern, and of elements whose atoms all have a sign. Assumes nothing.
use Rattle.std.specs.Prelude.{◌≡◌, ◌⊎◌, ℕ, List, [], ◌∷◌, Option, Some, None}
use Rattle.rules.specs.declared.signs.Sign.{Sign}
use Rattle.rules.specs.declared.signs.PatternAtom.{PatternAtom}
use Rattle.rules.specs.declared.signs.PatternAtom.TheVariants.{Constant, Name}
use Rattle.sexp.specs.Elements.{octets, Elements, none, atom, list}
use Rattle.rules.specs.Patterns.{Pattern, quote, sign_octet, read_atom}

-- what octets are as an atom of a pattern: they begin with its sign; or they begin with none
abbrev pub ReadsAtom : List ℕ → Option PatternAtom → Type 0
ReadsAtom os (Some (Constant rest)) = os ≡ quote ∷ rest.now
ReadsAtom os (Some (Name sign rest)) = os ≡ sign_octet sign ∷ rest.now
ReadsAtom os None = (p : Pattern) → read_atom os p ≡ p

-- octets begin with a sign
abbrev pub HasSign : List ℕ → Type 0
HasSign [] = ⊥
HasSign (o ∷ os) = (o ≡ quote) ⊎ ((sign : Sign) × (o ≡ sign_octet sign))

-- every atom of a run begins with a sign
abbrev pub Signed : Elements → Type 0
Signed none = Unit {0}
Signed (atom (octets os) es) = HasSign os × Signed es
Signed (list inner es) = Signed inner × Signed es
