-- What an element is found to be. Assumes nothing.
use Rattle.std.specs.Prelude.{◌≡◌, Option, Some, None}
use Rattle.holder.specs.declared.elements.Content.{Content}
use Rattle.holder.specs.declared.elements.Content.TheVariants.{List as ListContent, Atom as AtomContent}
use Rattle.holder.specs.Placed.{Placed, inside, octets_of, Stands, IsList, IsAtom}
use Rattle.holder.specs.Walks.{run_of}

-- a first element, where there is one, is an element
abbrev pub Standing : Option Placed → Type 0
Standing None = Unit {0}
Standing (Some r) = Stands r

-- a list with its first element, or an atom's octets
abbrev pub Shows : {H : Type 0} → Content H → Placed → Type 0
Shows (ListContent first) r = IsList r × (run_of first ≡ inside r) × Standing first
Shows (AtomContent os) r = IsAtom r × (os ≡ octets_of r)
