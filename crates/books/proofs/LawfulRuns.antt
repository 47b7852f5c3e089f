-- A run of elements, its items in the order of the text, and the pattern that it writes. Assumes nothing.
use Rattle.std.proofs.Common.{◌≡◌, ℕ, ◌≤◌, List, [], ◌∷◌, ◌++◌, length, eqb, Some, sym, refl, ap, ap₂, ◌∙◌, inl, inr, append-nil, arith}
use Rattle.std.proofs.lemmas.Bool.{cases_Bool, eqb-true}
use Rattle.std.proofs.lemmas.List.{length-append}
use Rattle.sexp.specs.Elements.{octets, none, count, Record}
use Rattle.holder.specs.Placed.{Placed, nothing, atom_at, list_at, erase, Stands}
use Rattle.holder.specs.Walks.{first_of}
use Rattle.rules.specs.Complete.{In}
use Rattle.rules.specs.Patterns.{Pattern, read_atom, pattern_of, slots}
use Rattle.rules.specs.Bindings.{width}
use Rattle.books.specs.Items.{Item, items, first_items}
use Rattle.rules.specs.Signs.{HasSign, Signed}
use Rattle.books.specs.Faults.{name_before, written_by}
use Rattle.rules.proofs.Orders.{in_left, in_right}
use Rattle.books.proofs.FaultsItem.{written_then}

-- a run of some width begins with an element, which is a record
pub stands_width : (r : Placed) → 1 ≤ width (erase r) → Stands r
stands_width nothing h = omega arith
stands_width (atom_at p a es) h = tt
stands_width (list_at p inner es) h = tt

pub first_record : (r : Placed) → Stands r → Record (first_of r)
first_record nothing h = absurd h
first_record (atom_at p a es) h = refl
first_record (list_at p inner es) h = refl

-- how many elements
pub count_items : (r : Placed) → count (erase r) ≡ length (items r)
count_items nothing = refl
count_items (atom_at p (octets os) es) = omega (arith, count_items es)
count_items (list_at p inner es) = omega (arith, count_items inner, count_items es, length-append (items inner) (items es))

pub count_first : (r : Placed) → count (first_of r) ≡ length (first_items r)
count_first nothing = refl
count_first (atom_at p (octets os) es) = refl
count_first (list_at p inner es) = omega (arith, count_items inner)

-- the names that they write
slots_read : (os : List ℕ) (p : Pattern) → slots (read_atom os p) ≡ name_before os (slots p)
slots_read [] p = refl
slots_read (o ∷ os) p = elim (cases_Bool (eqb o 39)) [
  | inl e ↦ rw (eqb-true o 39 e)
  | inr e ↦ elim (cases_Bool (eqb o 58)) [
    | inl v ↦ rw (e, v, read_atom, name_before)
    | inr v ↦ elim (cases_Bool (eqb o 33)) [ inl s ↦ rw (e, v, s, read_atom, name_before) | inr s ↦ rw (e, v, s, read_atom, name_before) ]
  ]
]

pub slots_items : (r : Placed) → slots (pattern_of (erase r)) ≡ written_by (items r)
slots_items nothing = refl
slots_items (atom_at p (octets os) es) = slots_read os (pattern_of (erase es)) ∙ ap (name_before os) (slots_items es)
slots_items (list_at p inner es) = ap₂ (λ x y. x ++ y) (slots_items inner) (slots_items es) ∙ sym (written_then (items inner) (items es))

pub slots_first : (r : Placed) → slots (pattern_of (first_of r)) ≡ written_by (first_items r)
slots_first nothing = refl
slots_first (atom_at p (octets os) es) = slots_read os (pattern_of none)
slots_first (list_at p inner es) = append-nil (slots (pattern_of (erase inner))) ∙ slots_items inner

-- each atom among these has a sign
abbrev pub AllSigned : List Item → Type 0
AllSigned is = (i : Item) (os : List ℕ) → In i is → i.atom ≡ Some os → HasSign os

pub signed_items : (r : Placed) → AllSigned (items r) → Signed (erase r)
signed_items nothing h = tt
signed_items (atom_at p (octets os) es) h = (h (record { place = p; atom = Some os }) os (inl refl) refl, signed_items es (λ i qs m e. h i qs (inr m) e))
signed_items (list_at p inner es) h = (signed_items inner (λ i qs m e. h i qs (inr (in_left i (items inner) (items es) m)) e), signed_items es (λ i qs m e. h i qs (inr (in_right i (items inner) (items es) m)) e))

pub signed_first : (r : Placed) → AllSigned (first_items r) → Signed (first_of r)
signed_first nothing h = tt
signed_first (atom_at p (octets os) es) h = (h (record { place = p; atom = Some os }) os (inl refl) refl, tt)
signed_first (list_at p inner es) h = (signed_items inner (λ i qs m e. h i qs (inr m) e), tt)
