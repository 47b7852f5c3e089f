-- Where cursors go in a lawful record, and the fronts and backs of runs. Assumes nothing.
use Rattle.std.proofs.Common.{◌≡◌, ℕ, zero, suc, ◌+◌, ◌<◌, ◌≤◌, Option, Some, refl, sym, ap, ◌∙◌, arith}
use Rattle.sexp.specs.Elements.{Elements, none, atom, list, octets, ◌then◌, Record, count}
use Rattle.sexp.proofs.Runs.{count-then}
use Rattle.sexp.proofs.Whole.{some_elements}
use Rattle.holder.specs.Placed.{Placed, nothing, atom_at, list_at, erase, Meaning, run_at, front as place_of, inside, behind, octets_of, kind_of, Stands, IsList, IsAtom}
use Rattle.holder.specs.declared.kinds.Kind.TheVariants.{List as ListKind, Atom as AtomKind}
use Rattle.holder.specs.Walks.{first_of}
use Rattle.holder.proofs.Walk.{whole, found, first_found, next_found}
use Rattle.rules.specs.Bindings.{width}
use Rattle.rules.proofs.Runs.{width-then, first_none}
use Rattle.books.proofs.LawfulRuns.{first_record}
use Rattle.fitting.specs.Occurs.{behind_all}
use Rattle.fitting.specs.Cursors.{run_from, elements_from, Lies, front, back, Passes}

-- a run that stands in a tree is the run from its place
pub run_of_place : (t r : Placed) → ((q : ℕ) → place_of r ≡ Some q → run_at q t ≡ r) → run_from t (place_of r) ≡ r
run_of_place t nothing f = refl
run_of_place t (atom_at q a es) f = f q refl
run_of_place t (list_at q inner es) f = f q refl

pub lies_of_place : (t r : Placed) → ((q : ℕ) → place_of r ≡ Some q → run_at q t ≡ r) → Lies t (place_of r)
lies_of_place t nothing f = tt
lies_of_place t (atom_at q a es) f = rw (f q refl) tt
lies_of_place t (list_at q inner es) f = rw (f q refl) tt

-- a run is its first element and then those behind it
pub first_then : (r : Placed) → erase r ≡ first_of r then erase (behind r)
first_then nothing = refl
first_then (atom_at p a es) = refl
first_then (list_at p inner es) = refl

pub first_of_list : (r : Placed) → IsList r → first_of r ≡ list (erase (inside r)) none
first_of_list nothing s = absurd s
first_of_list (atom_at p a es) s = absurd s
first_of_list (list_at p inner es) s = refl

pub first_of_atom : (r : Placed) → IsAtom r → first_of r ≡ atom (octets (octets_of r)) none
first_of_atom nothing s = absurd s
first_of_atom (atom_at p (octets os) es) s = refl
first_of_atom (list_at p inner es) s = absurd s

-- what an element's kind says
pub kind_list : (r : Placed) → Stands r → kind_of r ≡ ListKind → IsList r
kind_list nothing s e = s
kind_list (atom_at p a es) s e = cc
kind_list (list_at p inner es) s e = tt

pub kind_atom : (r : Placed) → Stands r → kind_of r ≡ AtomKind → IsAtom r
kind_atom nothing s e = s
kind_atom (atom_at p a es) s e = tt
kind_atom (list_at p inner es) s e = cc

pub width_record : (x : Elements) → Record x → width x ≡ 1
width_record none r = absurd r
width_record (atom a es) r = ap (λ es. suc (width es)) r
width_record (list inner es) r = ap (λ es. suc (width es)) r

-- what the root's place leads to
pub root_run : (m : Meaning) (p : ℕ) → place_of m.tree ≡ Some p → run_at p m.tree ≡ m.tree
root_run m p e = found p m.tree m.tree whole m.lawful.apart e

-- what the place of the next element leads to
pub next_run : (m : Meaning) (p : ℕ) (next : Option ℕ) → Stands (run_at p m.tree) → next ≡ place_of (behind (run_at p m.tree)) → run_from m.tree next ≡ behind (run_at p m.tree)
next_run m p next s e = rw e (run_of_place m.tree (behind (run_at p m.tree)) (λ q is. next_found m.tree p q m.lawful.apart s is))

pub next_lies : (m : Meaning) (p : ℕ) (next : Option ℕ) → Stands (run_at p m.tree) → next ≡ place_of (behind (run_at p m.tree)) → Lies m.tree next
next_lies m p next s e = rw e (lies_of_place m.tree (behind (run_at p m.tree)) (λ q is. next_found m.tree p q m.lawful.apart s is))

pub next_elements : (m : Meaning) (p : ℕ) (next : Option ℕ) → Stands (run_at p m.tree) → next ≡ place_of (behind (run_at p m.tree)) → elements_from m.tree (Some p) ≡ first_of (run_at p m.tree) then elements_from m.tree next
next_elements m p next s e = first_then (run_at p m.tree) ∙ ap (λ r. first_of (run_at p m.tree) then erase r) (sym (next_run m p next s e))

-- what the place of a list's first element leads to
pub first_run : (m : Meaning) (p : ℕ) (first : Option ℕ) → IsList (run_at p m.tree) → first ≡ place_of (inside (run_at p m.tree)) → run_from m.tree first ≡ inside (run_at p m.tree)
first_run m p first s e = rw e (run_of_place m.tree (inside (run_at p m.tree)) (λ q is. first_found m.tree p q m.lawful.apart s is))

pub first_lies : (m : Meaning) (p : ℕ) (first : Option ℕ) → IsList (run_at p m.tree) → first ≡ place_of (inside (run_at p m.tree)) → Lies m.tree first
first_lies m p first s e = rw e (lies_of_place m.tree (inside (run_at p m.tree)) (λ q is. first_found m.tree p q m.lawful.apart s is))

pub first_elements : (m : Meaning) (p : ℕ) (first : Option ℕ) → IsList (run_at p m.tree) → first ≡ place_of (inside (run_at p m.tree)) → first_of (run_at p m.tree) ≡ list (elements_from m.tree first) none
first_elements m p first s e = first_of_list (run_at p m.tree) s ∙ ap (λ r. list (erase r) none) (sym (first_run m p first s e))

-- a place is one where elements begin; behind the last element there are none
pub width_stands : (r : Placed) → Stands r → 1 ≤ width (erase r)
width_stands nothing s = absurd s
width_stands (atom_at p a es) s = omega arith
width_stands (list_at p inner es) s = omega arith

pub width_next : (m : Meaning) (p : ℕ) (next : Option ℕ) → Stands (run_at p m.tree) → next ≡ place_of (behind (run_at p m.tree)) → width (elements_from m.tree (Some p)) ≡ suc (width (elements_from m.tree next))
width_next m p next s e =
    let x = first_of (run_at p m.tree) in
    let y = elements_from m.tree next in
    ap width (next_elements m p next s e) ∙ width-then x y ∙ omega (arith, width_record x (first_record (run_at p m.tree) s))

pub count_next : (m : Meaning) (p : ℕ) (next : Option ℕ) → Stands (run_at p m.tree) → next ≡ place_of (behind (run_at p m.tree)) → count (elements_from m.tree (Some p)) ≡ count (first_of (run_at p m.tree)) + count (elements_from m.tree next)
count_next m p next s e = ap count (next_elements m p next s e) ∙ count-then (first_of (run_at p m.tree)) (elements_from m.tree next)

pub count_less : (m : Meaning) (p : ℕ) (next : Option ℕ) → Stands (run_at p m.tree) → next ≡ place_of (behind (run_at p m.tree)) → count (elements_from m.tree next) < count (elements_from m.tree (Some p))
count_less m p next s e = omega (arith, count_next m p next s e, some_elements (first_of (run_at p m.tree)) (first_record (run_at p m.tree) s))

pub count_first : (m : Meaning) (p : ℕ) (first : Option ℕ) → IsList (run_at p m.tree) → first ≡ place_of (inside (run_at p m.tree)) → count (first_of (run_at p m.tree)) ≡ suc (count (elements_from m.tree first))
count_first m p first s e = ap count (first_elements m p first s e) ∙ omega arith

-- the front of two runs, one behind the other
pub front-then : (x y : Elements) → front (width x) (x then y) ≡ x
front-then none y = refl
front-then (atom a x) y = ap (atom a) (front-then x y)
front-then (list inner x) y = ap (list inner) (front-then x y)

-- a run is its front and then its back
pub front_then_back : (n : ℕ) (es : Elements) → front n es then back n es ≡ es
front_then_back zero es = refl
front_then_back (suc n) none = refl
front_then_back (suc n) (atom a es) = ap (atom a) (front_then_back n es)
front_then_back (suc n) (list inner es) = ap (list inner) (front_then_back n es)

pub width-front : (n : ℕ) (es : Elements) → n ≤ width es → width (front n es) ≡ n
width-front zero es h = refl
width-front (suc n) none h = absurd (omega arith)
width-front (suc n) (atom a es) h = ap suc (width-front n es (omega arith))
width-front (suc n) (list inner es) h = ap suc (width-front n es (omega arith))

pub width-back : (n : ℕ) (es : Elements) → n ≤ width es → n + width (back n es) ≡ width es
width-back n es h = omega (arith, width-then (front n es) (back n es), width-front n es h, ap width (front_then_back n es))

-- the run behind so many elements has those of the back
pub behind_all_back : (n : ℕ) (r : Placed) → erase (behind_all n r) ≡ back n (erase r)
behind_all_back zero r = refl
behind_all_back (suc n) nothing = behind_all_back n nothing ∙ back_none n
  where
    back_none : (n : ℕ) → back n none ≡ none
    back_none zero = refl
    back_none (suc n) = refl
behind_all_back (suc n) (atom_at p a es) = behind_all_back n es
behind_all_back (suc n) (list_at p inner es) = behind_all_back n es

pub passed_back : (t : Placed) (from to : Option ℕ) (n : ℕ) → Passes t from n (Some to) → elements_from t to ≡ back n (elements_from t from)
passed_back t from to n passed = ap erase passed.2 ∙ behind_all_back n (run_from t from)

-- and behind it the next
pub behind_all_more : (n : ℕ) (r : Placed) → behind (behind_all n r) ≡ behind_all (suc n) r
behind_all_more zero r = refl
behind_all_more (suc n) r = behind_all_more n (behind r)

-- one element more in front
pub back_more : (n : ℕ) (es x rest : Elements) → Record x → back n es ≡ x then rest → back (suc n) es ≡ rest
back_more zero es x rest r e = rw e (one x r)
  where
    one : (x : Elements) → Record x → back 1 (x then rest) ≡ rest
    one none r = absurd r
    one (atom a x) r = ap (λ x. x then rest) r
    one (list inner x) r = ap (λ x. x then rest) r
back_more (suc n) none x rest r e = absurd (first_none x rest r e)
back_more (suc n) (atom a es) x rest r e = back_more n es x rest r e
back_more (suc n) (list inner es) x rest r e = back_more n es x rest r e

pub front_more : (n : ℕ) (es x rest : Elements) → Record x → back n es ≡ x then rest → front (suc n) es ≡ front n es then x
front_more zero es x rest r e = rw e (one x r)
  where
    one : (x : Elements) → Record x → front 1 (x then rest) ≡ x
    one none r = absurd r
    one (atom a x) r = ap (atom a) (sym r)
    one (list inner x) r = ap (list inner) (sym r)
front_more (suc n) none x rest r e = absurd (first_none x rest r e)
front_more (suc n) (atom a es) x rest r e = ap (atom a) (front_more n es x rest r e)
front_more (suc n) (list inner es) x rest r e = ap (list inner) (front_more n es x rest r e)

-- a shorter front is the front of a longer one
pub front_less : (n k : ℕ) (es : Elements) → n ≤ k → (rest : Elements) × (front k es ≡ front n es then rest)
front_less zero k es h = (front k es, refl)
front_less (suc n) zero es h = absurd (omega arith)
front_less (suc n) (suc k) none h = (none, refl)
front_less (suc n) (suc k) (atom a es) h = let s = front_less n k es (omega arith) in (s.0, ap (atom a) s.1)
front_less (suc n) (suc k) (list inner es) h = let s = front_less n k es (omega arith) in (s.0, ap (list inner) s.1)
