-- Every run of a lawful tree is found again at the place of its first element.
use Rattle.std.proofs.Common.{◌≡◌, ℕ, ◌≤◌, eqb, ◌⊎◌, List, [], ◌∷◌, ◌++◌, length, Some, sym, refl, ◌∙◌, inl, inr, arith}
use Rattle.std.proofs.lemmas.Bool.{eq-eqb, ne_eqb, cases_Bool}
use Rattle.sexp.specs.Elements.{Atom, octets, count, depth, ShortAtoms}
use Rattle.holder.specs.Placed.{Placed, nothing, atom_at, list_at, erase, places, Absent, Apart, Meaning, ◌or_else◌, run_at, front, inside, behind, octets_of, Stands, IsList, IsAtom}
use Rattle.holder.specs.Walks.{Limited}

-- p is one of the places
abbrev pub In : ℕ → List ℕ → Type 0
In p [] = ⊥
In p (q ∷ qs) = (p ≡ q) ⊎ In p qs

pub in_left : (p : ℕ) (xs ys : List ℕ) → In p xs → In p (xs ++ ys)
in_left p [] ys i = absurd i
in_left p (x ∷ xs) ys (inl e) = inl e
in_left p (x ∷ xs) ys (inr i) = inr (in_left p xs ys i)

pub in_right : (p : ℕ) (xs ys : List ℕ) → In p ys → In p (xs ++ ys)
in_right p [] ys i = i
in_right p (x ∷ xs) ys i = inr (in_right p xs ys i)

pub apart_from : (p q : ℕ) (qs : List ℕ) → Absent p qs → In q qs → q ≡ p → ⊥
apart_from p q [] far i e = i
apart_from p q (x ∷ xs) far (inl i) e = far.0 (sym e ∙ i)
apart_from p q (x ∷ xs) far (inr i) e = apart_from p q xs far.1 i e

pub absent_left : (p : ℕ) (xs ys : List ℕ) → Absent p (xs ++ ys) → Absent p xs
absent_left p [] ys far = tt
absent_left p (x ∷ xs) ys far = (far.0, absent_left p xs ys far.1)

pub absent_right : (p : ℕ) (xs ys : List ℕ) → Absent p (xs ++ ys) → Absent p ys
absent_right p [] ys far = far
absent_right p (x ∷ xs) ys far = absent_right p xs ys far.1

pub apart_left : (xs ys : List ℕ) → Apart (xs ++ ys) → Apart xs
apart_left [] ys far = tt
apart_left (x ∷ xs) ys far = (absent_left x xs ys far.0, apart_left xs ys far.1)

pub apart_right : (xs ys : List ℕ) → Apart (xs ++ ys) → Apart ys
apart_right [] ys far = far
apart_right (x ∷ xs) ys far = apart_right xs ys far.1

-- a place of the second part is none of the first
pub absent_first : (q : ℕ) (xs ys : List ℕ) → Apart (xs ++ ys) → In q ys → Absent q xs
absent_first q [] ys far i = tt
absent_first q (x ∷ xs) ys far i = (apart_from x q (xs ++ ys) far.0 (in_right q xs ys i), absent_first q xs ys far.1 i)

pub absent_nothing : (p : ℕ) (t : Placed) → Absent p (places t) → run_at p t ≡ nothing
absent_nothing p nothing far = refl
absent_nothing p (atom_at q a es) far = rw (ne_eqb p q far.0) (absent_nothing p es far.1)
absent_nothing p (list_at q inner es) far =
    rw (ne_eqb p q far.0, absent_nothing p inner (absent_left p (places inner) (places es) far.1)) (absent_nothing p es (absent_right p (places inner) (places es) far.1))

-- r is a run of t: t itself, or a run of what t holds or of what stands behind its first element
pub data Part (r : Placed) : Placed → Type 0 where
  whole : Part r r
  after : {p : ℕ} {a : Atom} {es : Placed} → Part r es → Part r (atom_at p a es)
  within : {p : ℕ} {inner es : Placed} → Part r inner → Part r (list_at p inner es)
  later : {p : ℕ} {inner es : Placed} → Part r es → Part r (list_at p inner es)

pub part_part : (q r t : Placed) → Part q r → Part r t → Part q t
part_part q r _ part whole = part
part_part q r (atom_at p a es) part (after h) = after (part_part q r es part h)
part_part q r (list_at p inner es) part (within h) = within (part_part q r inner part h)
part_part q r (list_at p inner es) part (later h) = later (part_part q r es part h)

-- the place of a run's first element is one of the places
pub part_in : (q : ℕ) (r t : Placed) → Part r t → front r ≡ Some q → In q (places t)
part_in q (nothing) _ whole e = cc
part_in q (atom_at p a es) _ whole e = inl (cc)
part_in q (list_at p inner es) _ whole e = inl (cc)
part_in q r (atom_at p a es) (after h) e = inr (part_in q r es h e)
part_in q r (list_at p inner es) (within h) e = inr (in_left q (places inner) (places es) (part_in q r inner h e))
part_in q r (list_at p inner es) (later h) e = inr (in_right q (places inner) (places es) (part_in q r es h e))

pub or_first : (q : ℕ) (r s : Placed) → front r ≡ Some q → r or_else s ≡ r
or_first q nothing s e = cc
or_first q (atom_at p a es) s e = refl
or_first q (list_at p inner es) s e = refl

pub found : (q : ℕ) (r t : Placed) → Part r t → Apart (places t) → front r ≡ Some q → run_at q t ≡ r
found q nothing _ whole far e = refl
found q (atom_at p a es) _ whole far e = rw (eq-eqb q p (cc)) refl
found q (list_at p inner es) _ whole far e = rw (eq-eqb q p (cc)) refl
found q r (atom_at p a es) (after h) far e =
    rw (ne_eqb q p (apart_from p q (places es) far.0 (part_in q r es h e))) (found q r es h far.1 e)
found q r (list_at p inner es) (within h) far e =
    rw (ne_eqb q p (apart_from p q (places inner ++ places es) far.0 (in_left q (places inner) (places es) (part_in q r inner h e))), found q r inner h (apart_left (places inner) (places es) far.1) e) (or_first q r (run_at q es) e)
found q r (list_at p inner es) (later h) far e =
    rw (ne_eqb q p (apart_from p q (places inner ++ places es) far.0 (in_right q (places inner) (places es) (part_in q r es h e))), absent_nothing q inner (absent_first q (places inner) (places es) far.1 (part_in q r es h e))) (found q r es h (apart_right (places inner) (places es) far.1) e)

-- what stands at a place is a run of the tree
pub part_at : (p : ℕ) (t : Placed) → Stands (run_at p t) → Part (run_at p t) t
part_at p nothing s = absurd s
part_at p (atom_at q a es) s =
    elim (cases_Bool (eqb p q)) as (λ _. Part (run_at p (atom_at q a es)) (atom_at q a es)) [
      | inl e ↦ rw e whole
      | inr e ↦ rw e (after (part_at p es (rw e at s)))
    ]
part_at p (list_at q inner es) s =
    elim (cases_Bool (eqb p q)) as (λ _. Part (run_at p (list_at q inner es)) (list_at q inner es)) [
      | inl e ↦ rw e whole
      | inr e ↦ rw e (part_or (run_at p inner) (run_at p es) (rw e at s) (part_at p inner) (part_at p es))
    ]
  where
    part_or : (x y : Placed) → Stands (x or_else y) → (Stands x → Part x inner) → (Stands y → Part y es) → Part (x or_else y) (list_at q inner es)
    part_or nothing y s f g = later (g s)
    part_or (atom_at r a xs) y s f g = within (f tt)
    part_or (list_at r i xs) y s f g = within (f tt)

pub part_inside : (q : ℕ) (r : Placed) → front (inside r) ≡ Some q → Part (inside r) r
part_inside q nothing e = cc
part_inside q (atom_at p a es) e = cc
part_inside q (list_at p inner es) e = within whole

pub part_behind : (q : ℕ) (r : Placed) → front (behind r) ≡ Some q → Part (behind r) r
part_behind q nothing e = cc
part_behind q (atom_at p a es) e = after whole
part_behind q (list_at p inner es) e = later whole

-- a run has a first element exactly when it has a front
pub front_stands : (q : ℕ) (r : Placed) → front r ≡ Some q → Stands r
front_stands q nothing e = cc
front_stands q (atom_at p a es) e = tt
front_stands q (list_at p inner es) e = tt

pub list_stands : (r : Placed) → IsList r → Stands r
list_stands nothing s = absurd s
list_stands (atom_at p a es) s = tt
list_stands (list_at p inner es) s = tt

pub atom_stands : (r : Placed) → IsAtom r → Stands r
atom_stands nothing s = absurd s
atom_stands (atom_at p a es) s = tt
atom_stands (list_at p inner es) s = tt

-- the run at the place of the first element of a list is what the list holds
pub first_found : (t : Placed) (p q : ℕ) → Apart (places t) → IsList (run_at p t) → front (inside (run_at p t)) ≡ Some q → run_at q t ≡ inside (run_at p t)
first_found t p q far s e =
    found q (inside (run_at p t)) t (part_part (inside (run_at p t)) (run_at p t) t (part_inside q (run_at p t) e) (part_at p t (list_stands (run_at p t) s))) far e

-- the run at the place of the next element is what stands behind this one
pub next_found : (t : Placed) (p q : ℕ) → Apart (places t) → Stands (run_at p t) → front (behind (run_at p t)) ≡ Some q → run_at q t ≡ behind (run_at p t)
next_found t p q far s e =
    found q (behind (run_at p t)) t (part_part (behind (run_at p t)) (run_at p t) t (part_behind q (run_at p t) e) (part_at p t s)) far e

-- a run keeps within the limits of the tree
pub part_count : (r t : Placed) → Part r t → count (erase r) ≤ count (erase t)
part_count r _ whole = omega arith
part_count r (atom_at p a es) (after h) = omega (arith, part_count r es h)
part_count r (list_at p inner es) (within h) = omega (arith, part_count r inner h)
part_count r (list_at p inner es) (later h) = omega (arith, part_count r es h)

pub part_depth : (r t : Placed) → Part r t → depth (erase r) ≤ depth (erase t)
part_depth r _ whole = omega arith
part_depth r (atom_at p a es) (after h) = omega (arith, part_depth r es h)
part_depth r (list_at p inner es) (within h) = omega (arith, part_depth r inner h)
part_depth r (list_at p inner es) (later h) = omega (arith, part_depth r es h)

pub part_short : (r t : Placed) → Part r t → ShortAtoms (erase t) → ShortAtoms (erase r)
part_short r _ whole s = s
part_short r (atom_at p a es) (after h) s = part_short r es h s.1
part_short r (list_at p inner es) (within h) s = part_short r inner h s.0
part_short r (list_at p inner es) (later h) s = part_short r es h s.1

pub first_stands : (m : Meaning) (p q : ℕ) → IsList (run_at p m.tree) → front (inside (run_at p m.tree)) ≡ Some q → Stands (run_at q m.tree)
first_stands m p q s e = rw (first_found m.tree p q m.lawful.apart s e) (front_stands q (inside (run_at p m.tree)) e)

pub next_stands : (m : Meaning) (p q : ℕ) → Stands (run_at p m.tree) → front (behind (run_at p m.tree)) ≡ Some q → Stands (run_at q m.tree)
next_stands m p q s e = rw (next_found m.tree p q m.lawful.apart s e) (front_stands q (behind (run_at p m.tree)) e)

pub limited : (m : Meaning) (p : ℕ) → Stands (run_at p m.tree) → Limited (erase (run_at p m.tree))
limited m p s =
    let part = part_at p m.tree s in
    record { few = omega (arith, part_count (run_at p m.tree) m.tree part, m.lawful.within.few); short = part_short (run_at p m.tree) m.tree part m.lawful.within.short }

-- an atom has at most 1,024 octets
pub atom_short : (m : Meaning) (p : ℕ) → IsAtom (run_at p m.tree) → length (octets_of (run_at p m.tree)) ≤ 1024
atom_short m p s = small (run_at p m.tree) s (limited m p (atom_stands (run_at p m.tree) s)).short
  where
    small : (r : Placed) → IsAtom r → ShortAtoms (erase r) → length (octets_of r) ≤ 1024
    small nothing s h = absurd s
    small (atom_at q (octets os) es) s h = h.0
    small (list_at q inner es) s h = absurd s
