-- What writes a pattern is read as that, and elements whose atoms have signs are what writes the pattern read of them. Assumes nothing.
use Rattle.std.proofs.Common.{◌≡◌, ℕ, List, [], ◌∷◌, inl, inr, sym, refl, ap, ap₂, ◌∙◌}
use Rattle.sexp.specs.Elements.{octets, Elements, none, atom, list, ◌then◌}
use Rattle.rules.specs.declared.signs.Sign.{Sign}
use Rattle.rules.specs.declared.signs.Sign.TheVariants.{Variable, Segment}
use Rattle.rules.specs.Patterns.{Pattern, done, constant, slot, group, sign_octet, written, read_atom, pattern_of}
use Rattle.rules.specs.Signs.{HasSign, Signed}

pub pattern_of-written : (p : Pattern) → pattern_of (written p) ≡ p
pattern_of-written done = refl
pattern_of-written (constant (octets os) p) = ap (constant (octets os)) (pattern_of-written p)
pattern_of-written (slot Variable name p) = ap (slot Variable name) (pattern_of-written p)
pattern_of-written (slot Segment name p) = ap (slot Segment name) (pattern_of-written p)
pattern_of-written (group inside p) = ap₂ group (pattern_of-written inside) (pattern_of-written p)

pub written-signed : (p : Pattern) → Signed (written p)
written-signed done = tt
written-signed (constant (octets os) p) = (inl refl, written-signed p)
written-signed (slot sign name p) = (inr (sign, refl), written-signed p)
written-signed (group inside p) = (written-signed inside, written-signed p)

-- an atom with a sign is written as it was
written-read_atom : (os : List ℕ) (p : Pattern) → HasSign os → written (read_atom os p) ≡ atom (octets os) (written p)
written-read_atom [] p h = absurd h
written-read_atom (o ∷ os) p (inl e) = rw e refl
written-read_atom (o ∷ os) p (inr h) = go h.0 h.1
  where
    go : (sign : Sign) → o ≡ sign_octet sign → written (read_atom (o ∷ os) p) ≡ atom (octets (o ∷ os)) (written p)
    go Variable e = rw e refl
    go Segment e = rw e refl

pub written-pattern_of : (es : Elements) → Signed es → written (pattern_of es) ≡ es
written-pattern_of none h = refl
written-pattern_of (atom (octets os) es) h = written-read_atom os (pattern_of es) h.0 ∙ ap (atom (octets os)) (written-pattern_of es h.1)
written-pattern_of (list inner es) h = ap₂ list (written-pattern_of inner h.0) (written-pattern_of es h.1)

-- octets with a sign write something
pub sign_writes : (os : List ℕ) → HasSign os → ((p : Pattern) → read_atom os p ≡ p) → ⊥
sign_writes os signed n =
    let no : none ≡ atom (octets os) none = ap written (sym (n done)) ∙ written-pattern_of (atom (octets os) none) (signed, tt) in
    cc

-- what has signs in the whole has them in each part
pub signed_then : (x y : Elements) → Signed (x then y) → Signed x × Signed y
signed_then none y h = (tt, h)
signed_then (atom (octets os) x) y h = let t = signed_then x y h.1 in ((h.0, t.0), t.1)
signed_then (list inner x) y h = let t = signed_then x y h.1 in ((h.0, t.0), t.1)
