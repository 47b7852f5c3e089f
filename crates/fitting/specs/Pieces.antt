-- How large runs of elements are. Assumes nothing.
use Rattle.std.specs.Prelude.{◌≡◌, ℕ, ◌^◌, ◌-◌, Bool, ◌&&◌, nat_le, min, length}
use Rattle.sexp.specs.Elements.{Elements, count, depth}
use Rattle.sexp.specs.Text.{text}
use Rattle.fitting.specs.declared.pieces.Size.{Size}

-- a number, or the largest of 64 bits
abbrev pub capped : ℕ → ℕ
capped n = min n (2 ^ 64 - 1)

-- the size of a run
pub record IsSize (es : Elements) (s : Size) : Type 0 where
  pub elements : s.elements ≡ capped (count es)
  pub depth : s.depth ≡ capped (depth es)
  pub octets : s.octets ≡ capped (length (text es))

-- whether a record may be so large
abbrev pub is_within : Elements → Bool
is_within es = nat_le (count es) 4096 && (nat_le (depth es) 32 && nat_le (length (text es)) 32768)
