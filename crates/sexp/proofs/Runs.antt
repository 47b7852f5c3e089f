-- Laws of runs: `then` with count, depth, short atoms, text and reading. Assumes nothing.
use Rattle.std.proofs.Common.{◌≡◌, ℕ, ◌+◌, max, List, [], ◌∷◌, ◌++◌, length, sym, refl, ap, ◌∙◌, append_assoc, arith}
use Rattle.std.proofs.lemmas.List.{length-append}
use Rattle.sexp.specs.Elements.{Atom, octets, Elements, none, atom, list, ◌then◌, count, depth, ShortAtoms}
use Rattle.sexp.specs.Text.{atom_then, text_then, text}
use Rattle.sexp.specs.Reading.{Reading, refused, read, before, onward, opened, closed}

pub then-none : (es : Elements) → es then none ≡ es
then-none none = refl
then-none (atom a es) = ap (atom a) (then-none es)
then-none (list inner es) = ap (list inner) (then-none es)

pub then_assoc : (es fs gs : Elements) → (es then fs) then gs ≡ es then (fs then gs)
then_assoc none fs gs = refl
then_assoc (atom a es) fs gs = ap (atom a) (then_assoc es fs gs)
then_assoc (list inner es) fs gs = ap (list inner) (then_assoc es fs gs)

pub count-then : (es fs : Elements) → count (es then fs) ≡ count es + count fs
count-then none fs = omega arith
count-then (atom a es) fs = omega (arith, count-then es fs)
count-then (list inner es) fs = omega (arith, count-then es fs)

pub depth-then : (es fs : Elements) → depth (es then fs) ≡ max (depth es) (depth fs)
depth-then none fs = omega arith
depth-then (atom a es) fs = omega (arith, depth-then es fs)
depth-then (list inner es) fs = omega (arith, depth-then es fs)

pub short_then : (es fs : Elements) → ShortAtoms es → ShortAtoms fs → ShortAtoms (es then fs)
short_then none fs h k = k
short_then (atom a es) fs h k = (h.0, short_then es fs h.1 k)
short_then (list inner es) fs h k = (h.0, short_then es fs h.1 k)

pub short_parts : (es fs : Elements) → ShortAtoms (es then fs) → ShortAtoms es × ShortAtoms fs
short_parts none fs h = (tt, h)
short_parts (atom a es) fs h = let p = short_parts es fs h.1 in ((h.0, p.0), p.1)
short_parts (list inner es) fs h = let p = short_parts es fs h.1 in ((h.0, p.0), p.1)

pub text_then-then : (es fs : Elements) (r : List ℕ) → text_then (es then fs) r ≡ text_then es (text_then fs r)
text_then-then none fs r = refl
text_then-then (atom (octets os) es) fs r = ap (atom_then (octets os)) (text_then-then es fs r)
text_then-then (list inner es) fs r = ap (λ t. 40 ∷ text_then inner (41 ∷ t)) (text_then-then es fs r)

-- a run's text and then a rest is the text in front of the rest
pub text_then-append : (es : Elements) (r s : List ℕ) → text_then es (r ++ s) ≡ text_then es r ++ s
text_then-append none r s = refl
text_then-append (atom (octets os) es) r s = rw (text_then-append es r s) (simp append_assoc)
text_then-append (list inner es) r s = ap (40 ∷◌) (ap (λ t. text_then inner (41 ∷ t)) (text_then-append es r s) ∙ text_then-append inner (41 ∷ text_then es r) s)

pub text_front : (es : Elements) (r : List ℕ) → text_then es r ≡ text es ++ r
text_front es r = text_then-append es [] r

-- how long the texts of runs are
pub length_atom : (a : Atom) (es : Elements) → length (text (atom a es)) ≡ length (atom_then a []) + length (text es)
length_atom a es = ap length (text_front (atom a none) (text es)) ∙ length-append (atom_then a []) (text es)

pub length_list : (inner es : Elements) → length (text (list inner es)) ≡ length (text inner) + 2 + length (text es)
length_list inner es = omega (arith, ap length (text_front inner (41 ∷ text es)), length-append (text inner) (41 ∷ text es))

pub length-then : (es fs : Elements) → length (text (es then fs)) ≡ length (text es) + length (text fs)
length-then es fs = ap length (text_then-then es fs [] ∙ text_front es (text fs)) ∙ length-append (text es) (text fs)

-- reading on with nothing, and with one run and then another
pub onward-none : (R : Reading) → onward none R ≡ R
onward-none (refused r) = refl
onward-none (read []) = refl
onward-none (read (x ∷ rests)) = refl

pub onward_then : (es fs : Elements) (R : Reading) → onward es (onward fs R) ≡ onward (es then fs) R
onward_then es fs (refused r) = refl
onward_then es fs (read []) = refl
onward_then es fs (read (x ∷ rests)) = ap (λ y. read (y ∷ rests)) (sym (then_assoc es fs x))

-- a list that opens here, whose elements are es, and that closes behind them
pub opened_closed : (es : Elements) (R : Reading) → opened (onward es (closed R)) ≡ onward (list es none) R
opened_closed es (refused r) = refl
opened_closed es (read rests) = ap (λ x. read (before (list x none) rests)) (then-none es)
