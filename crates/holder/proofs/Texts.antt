-- The text of a run: that of its first element, and then that of those behind it.
use Rattle.std.proofs.Common.{◌≡◌, ℕ, ◌*◌, ◌≤◌, List, [], ◌∷◌, ◌++◌, length, refl, ap, append_assoc, append-nil, arith, length-append}
use Rattle.std.proofs.lemmas.Fmt.{length-decimal-le}
use Rattle.sexp.specs.Elements.{octets, Elements, none, atom, list, count, ShortAtoms}
use Rattle.sexp.specs.Text.{text_then, text}
use Rattle.sexp.proofs.Runs.{text_then-append, text_front}
use Rattle.holder.specs.Placed.{Placed, nothing, atom_at, list_at, erase, inside, behind, IsList}
use Rattle.holder.specs.Walks.{first_of, Limited}

pub text_first : (r : Placed) → text (erase r) ≡ text (first_of r) ++ text (erase (behind r))
text_first nothing = refl
text_first (atom_at p (octets os) es) = simp (append_assoc, append-nil)
text_first (list_at p inner es) = ap (λ (t : List ℕ). 40 ∷ t) (text_then-append (erase inner) (41 ∷ []) (text (erase es)))

pub text_list : (r : Placed) → IsList r → text (first_of r) ≡ 40 ∷ (text (erase (inside r)) ++ (41 ∷ []))
text_list nothing s = absurd s
text_list (atom_at p a es) s = absurd s
text_list (list_at p inner es) s = rw (text_front (erase inner) (41 ∷ [])) refl

-- an element's text has at most 1,030 octets for itself
pub length_text_most : (es : Elements) → ShortAtoms es → length (text es) ≤ 1030 * count es
length_text_most none s = omega arith
length_text_most (atom (octets os) es) s =
    let d = length-decimal-le 4 (length os) (omega arith) (omega arith) (omega arith) in
    let i = length_text_most es s.1 in
    simp length-append (omega arith)
length_text_most (list inner es) s =
    let i = length_text_most inner s.0 in
    let j = length_text_most es s.1 in
    rw (text_front inner (41 ∷ text_then es [])) (simp length-append (omega arith))

-- so that of a run of a record's elements has at most 1,030 for each of 4,096
pub text_most : (es : Elements) → Limited es → length (text es) ≤ 4218880
text_most es h = omega (arith, length_text_most es h.short, h.few)
