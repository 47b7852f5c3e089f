-- Runs of elements: taking one apart, telling two apart, the front of one. Assumes nothing.
use Rattle.std.proofs.Common.{◌≡◌, ℕ, zero, suc, ◌+◌, ◌≤◌, Bool, true, false, ◌&&◌, Some, None, Option, Decides, bytes_eq, true≢false, sym, refl, ap, ap₂, ◌∙◌, arith}
use Rattle.std.proofs.lemmas.Slice.Eq.{bytes_eq-Decides}
use Rattle.std.proofs.lemmas.Bool.Decides.{Decides-like, Decides-and}
use Rattle.sexp.specs.Elements.{Atom, octets, Elements, none, atom, list, ◌then◌, Record, count}
use Rattle.rules.specs.Bindings.{width}

-- equal runs have equal parts, and runs of different beginnings are not equal
pub atom_same : {a c : Atom} {es fs : Elements} → atom a es ≡ atom c fs → (a ≡ c) × (es ≡ fs)
atom_same p = (cc, cc)

pub list_same : {inner other es fs : Elements} → list inner es ≡ list other fs → (inner ≡ other) × (es ≡ fs)
list_same p = (cc, cc)

pub none_not_atom : {a : Atom} {es : Elements} → none ≡ atom a es → ⊥
none_not_atom p = cc

pub none_not_list : {inner es : Elements} → none ≡ list inner es → ⊥
none_not_list p = cc

pub atom_not_list : {a : Atom} {es inner fs : Elements} → atom a es ≡ list inner fs → ⊥
atom_not_list p = cc

pub width-then : (es fs : Elements) → width (es then fs) ≡ width es + width fs
width-then none fs = omega arith
width-then (atom a es) fs = omega (arith, width-then es fs)
width-then (list inner es) fs = omega (arith, width-then es fs)

-- a run has no fewer elements than its width
pub width_count : (es : Elements) → width es ≤ count es
width_count none = omega arith
width_count (atom a es) = omega (arith, width_count es)
width_count (list inner es) = omega (arith, width_count es)

-- fronts of equal width are equal, and so are the rests
pub then_same : (es fs x y : Elements) → width es ≡ width fs → es then x ≡ fs then y → (es ≡ fs) × (x ≡ y)
then_same none none x y w p = (refl, p)
then_same none (atom b fs) x y w p = absurd (omega arith)
then_same none (list other fs) x y w p = absurd (omega arith)
then_same (atom a es) none x y w p = absurd (omega arith)
then_same (atom a es) (atom b fs) x y w p =
    let q = atom_same p in
    let t = then_same es fs x y (omega arith) q.1 in
    (ap₂ atom q.0 t.0, t.1)
then_same (atom a es) (list other fs) x y w p = absurd (atom_not_list p)
then_same (list inner es) none x y w p = absurd (omega arith)
then_same (list inner es) (atom b fs) x y w p = absurd (atom_not_list (sym p))
then_same (list inner es) (list other fs) x y w p =
    let q = list_same p in
    let t = then_same es fs x y (omega arith) q.1 in
    (ap₂ list q.0 t.0, t.1)

-- one front, and so one rest
pub then_cancel : (es x y : Elements) → es then x ≡ es then y → x ≡ y
then_cancel es x y p = (then_same es es x y refl p).1

-- a run splits at each width up to its own
pub split_at : (n : ℕ) (es : Elements) → n ≤ width es → (x : Elements) × (rest : Elements) × (es ≡ x then rest) × (width x ≡ n)
split_at zero es h = (none, es, refl, refl)
split_at (suc n) none h = absurd (omega arith)
split_at (suc n) (atom a es) h = let s = split_at n es (omega arith) in (atom a s.0, s.1, ap (atom a) s.2, ap suc s.3)
split_at (suc n) (list inner es) h = let s = split_at n es (omega arith) in (list inner s.0, s.1, ap (list inner) s.2, ap suc s.3)

-- a front of one element is the first one
pub first_none : (x rest : Elements) → Record x → none ≡ x then rest → ⊥
first_none none rest r e = r
first_none (atom a x) rest r e = none_not_atom e
first_none (list inner x) rest r e = none_not_list e

pub first_atom : (a : Atom) (es x rest : Elements) → Record x → atom a es ≡ x then rest → (x ≡ atom a none) × (rest ≡ es)
first_atom a es none rest r e = absurd r
first_atom a es (atom c x) rest r e = let q = atom_same e in (ap₂ atom (sym q.0) r, sym (q.1 ∙ ap (λ y. y then rest) r))
first_atom a es (list inner x) rest r e = absurd (atom_not_list e)

pub first_list : (inner es x rest : Elements) → Record x → list inner es ≡ x then rest → (x ≡ list inner none) × (rest ≡ es)
first_list inner es none rest r e = absurd r
first_list inner es (atom c x) rest r e = absurd (atom_not_list (sym e))
first_list inner es (list other x) rest r e = let q = list_same e in (ap₂ list (sym q.0) r, sym (q.1 ∙ ap (λ y. y then rest) r))

-- a test of runs for being equal
abbrev pub atoms_equal : Atom → Atom → Bool
atoms_equal (octets os) (octets xs) = bytes_eq os xs

abbrev pub runs_equal : Elements → Elements → Bool
runs_equal none none = true
runs_equal none (atom b fs) = false
runs_equal none (list other fs) = false
runs_equal (atom a es) none = false
runs_equal (atom a es) (atom b fs) = atoms_equal a b && runs_equal es fs
runs_equal (atom a es) (list other fs) = false
runs_equal (list inner es) none = false
runs_equal (list inner es) (atom b fs) = false
runs_equal (list inner es) (list other fs) = runs_equal inner other && runs_equal es fs

pub atoms_equal-Decides : (a b : Atom) → Decides (atoms_equal a b) (a ≡ b)
atoms_equal-Decides (octets os) (octets xs) = ((λ t. ap octets ((bytes_eq-Decides os xs).0 t)), (λ p. (bytes_eq-Decides os xs).1 cc))

pub runs_equal-Decides : (es fs : Elements) → Decides (runs_equal es fs) (es ≡ fs)
runs_equal-Decides none none = ((λ t. refl), (λ p. refl))
runs_equal-Decides none (atom b fs) = ((λ t. absurd cc), (λ p. absurd (none_not_atom p)))
runs_equal-Decides none (list other fs) = ((λ t. absurd cc), (λ p. absurd (none_not_list p)))
runs_equal-Decides (atom a es) none = ((λ t. absurd cc), (λ p. absurd (none_not_atom (sym p))))
runs_equal-Decides (atom a es) (atom b fs) =
    Decides-like _ (λ t. ap₂ atom t.0 t.1) (λ p. atom_same p) (Decides-and _ _ (atoms_equal-Decides a b) (runs_equal-Decides es fs))
runs_equal-Decides (atom a es) (list other fs) = ((λ t. absurd cc), (λ p. absurd (atom_not_list p)))
runs_equal-Decides (list inner es) none = ((λ t. absurd cc), (λ p. absurd (none_not_list (sym p))))
runs_equal-Decides (list inner es) (atom b fs) = ((λ t. absurd cc), (λ p. absurd (atom_not_list (sym p))))
runs_equal-Decides (list inner es) (list other fs) =
    Decides-like _ (λ t. ap₂ list t.0 t.1) (λ p. list_same p) (Decides-and _ _ (runs_equal-Decides inner other) (runs_equal-Decides es fs))

-- what stands behind the front x of a run; nothing where x is no front
abbrev pub behind_front : Elements → Elements → Option Elements
behind_front none es = Some es
behind_front (atom a x) none = None
behind_front (atom a x) (atom b es) = elim (atoms_equal a b) [ true ↦ behind_front x es | false ↦ None ]
behind_front (atom a x) (list other es) = None
behind_front (list inner x) none = None
behind_front (list inner x) (atom b es) = None
behind_front (list inner x) (list other es) = elim (runs_equal inner other) [ true ↦ behind_front x es | false ↦ None ]

-- it tells so
abbrev pub TellsFront : Elements → Elements → Option Elements → Type 0
TellsFront x es (Some rest) = es ≡ x then rest
TellsFront x es None = (rest : Elements) → es ≡ x then rest → ⊥

pub behind_front-tells : (x es : Elements) → TellsFront x es (behind_front x es)
behind_front-tells none es = refl
behind_front-tells (atom a x) none = λ rest p. none_not_atom p
behind_front-tells (atom a x) (atom b es) = go (atoms_equal a b) (atoms_equal-Decides a b) (behind_front x es) (behind_front-tells x es)
  where
    go : (t : Bool) → Decides t (a ≡ b) → (o : Option Elements) → TellsFront x es o → TellsFront (atom a x) (atom b es) (elim t [ true ↦ o | false ↦ None ])
    go true d (Some rest) h = ap₂ atom (sym (d.0 refl)) h
    go true d None h = λ rest p. h rest (atom_same p).1
    go false d o h = λ rest p. true≢false (sym (d.1 (sym (atom_same p).0)))
behind_front-tells (atom a x) (list other es) = λ rest p. atom_not_list (sym p)
behind_front-tells (list inner x) none = λ rest p. none_not_list p
behind_front-tells (list inner x) (atom b es) = λ rest p. atom_not_list p
behind_front-tells (list inner x) (list other es) = go (runs_equal inner other) (runs_equal-Decides inner other) (behind_front x es) (behind_front-tells x es)
  where
    go : (t : Bool) → Decides t (inner ≡ other) → (o : Option Elements) → TellsFront x es o → TellsFront (list inner x) (list other es) (elim t [ true ↦ o | false ↦ None ])
    go true d (Some rest) h = ap₂ list (sym (d.0 refl)) h
    go true d None h = λ rest p. h rest (list_same p).1
    go false d o h = λ rest p. true≢false (sym (d.1 (sym (list_same p).0)))
