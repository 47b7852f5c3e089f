-- The grammar derives from a record its text and no other, and a text determines its record. Assumes nothing.
use Rattle.std.proofs.Common.{◌≡◌, ℕ, ◌^◌, ◌<◌, List, [], ◌∷◌, ◌++◌, length, take, drop, decimal, sym, refl, ap, ◌∙◌, ap₂, append_assoc, append-nil, arith}
use Rattle.std.proofs.lemmas.List.{length-append, take_at, drop_at}
use Rattle.std.proofs.lemmas.Fmt.{decimal_injective}
use Rattle.sexp.specs.Elements.{Atom, octets, Elements, none, atom, list, ◌then◌, Record, Same, size, ShortAtoms}
use Rattle.sexp.specs.Text.{atom_then, text_then, text}
use Rattle.sexp.specs.Grammar.{Digit, Decimal, verbatim, CString, plain, CSexp, CSexps}
use Rattle.sexp.specs.Reading.{digits, behind}
use Rattle.sexp.proofs.Runs.{text_then-then, text_front}
use Rattle.sexp.proofs.Lexing.{decimal_digits, first_same, stops_colon, digits_split, behind_split}
use Rattle.sexp.proofs.Decimal.{decimal_text, decimal_is}

-- each atom fits a memory, so that `decimal` writes its length
abbrev pub Held : Elements → Type 0
Held none = Unit {0}
Held (atom a es) = (size a < 2 ^ 64) × Held es
Held (list inner es) = Held inner × Held es

pub short_held : (es : Elements) → ShortAtoms es → Held es
short_held none h = tt
short_held (atom a es) h = (omega arith, short_held es h.1)
short_held (list inner es) h = (short_held inner h.0, short_held es h.1)

held_then : (es fs : Elements) → Held es → Held fs → Held (es then fs)
held_then none fs h k = k
held_then (atom a es) fs h k = (h.0, held_then es fs h.1 k)
held_then (list inner es) fs h k = (h.0, held_then es fs h.1 k)

held_parts : (es fs : Elements) → Held (es then fs) → Held es × Held fs
held_parts none fs h = (tt, h)
held_parts (atom a es) fs h = let p = held_parts es fs h.1 in ((h.0, p.0), p.1)
held_parts (list inner es) fs h = let p = held_parts es fs h.1 in ((h.0, p.0), p.1)

-- what is derived is the text
string_text : {t : List ℕ} {a : Atom} → CString t a → size a < 2 ^ 64 → t ≡ atom_then a []
string_text (plain (verbatim {ds} {os} d)) h = ap₂ (λ (x y : List ℕ). x ++ (58 ∷ y)) (decimal_text d h) (sym (append-nil os))

mutual
  pub sexp_text : {t : List ℕ} {e : Elements} → CSexp t e → Held e → t ≡ text e
  sexp_text (CSexp.string c) h = string_text c h.0
  sexp_text (CSexp.parens {t} {es} d) h = ap (40 ∷◌) (ap (λ (x : List ℕ). x ++ (41 ∷ [])) (sexps_text d h.0) ∙ sym (text_front es (41 ∷ [])))

  pub sexps_text : {t : List ℕ} {es : Elements} → CSexps t es → Held es → t ≡ text es
  sexps_text CSexps.nothing h = refl
  sexps_text (CSexps.more {t} {u} {e} {es} d ds) h =
      let p = held_parts e es h in
      ap₂ ◌++◌ (sexp_text d p.0) (sexps_text ds p.1) ∙ sym (text_then-then e es [] ∙ text_front e (text es))

-- atoms are no longer than the text
string_held : {t : List ℕ} {a : Atom} → CString t a → length t < 2 ^ 64 → size a < 2 ^ 64
string_held (plain (verbatim {ds} {os} d)) h = omega (arith, length-append ds (58 ∷ os))

mutual
  pub sexp_held : {t : List ℕ} {e : Elements} → CSexp t e → length t < 2 ^ 64 → Held e
  sexp_held (CSexp.string c) h = (string_held c h, tt)
  sexp_held (CSexp.parens {t} {es} d) h = (sexps_held d (omega (arith, length-append t (41 ∷ []))), tt)

  pub sexps_held : {t : List ℕ} {es : Elements} → CSexps t es → length t < 2 ^ 64 → Held es
  sexps_held CSexps.nothing h = tt
  sexps_held (CSexps.more {t} {u} {e} {es} d ds) h =
      held_then e es (sexp_held d (omega (arith, length-append t u))) (sexps_held ds (omega (arith, length-append t u)))

-- only records are derived
pub sexp_record : {t : List ℕ} {e : Elements} → CSexp t e → Record e
sexp_record (CSexp.string c) = refl
sexp_record (CSexp.parens d) = refl

-- the text is derived
string_derived : (os : List ℕ) → length os < 2 ^ 64 → CString (decimal (length os) ++ (58 ∷ os)) (octets os)
string_derived os h = plain (verbatim (decimal_is (length os) h))

pub sexps_derived : (es : Elements) → Held es → CSexps (text es) es
sexps_derived none h = CSexps.nothing
sexps_derived (atom (octets os) es) h =
    rw append_assoc at (CSexps.more (CSexp.string (string_derived os h.0)) (sexps_derived es h.1))
sexps_derived (list inner es) h =
    rw (text_front inner (41 ∷ text es)) (rw append_assoc at (CSexps.more (CSexp.parens (sexps_derived inner h.0)) (sexps_derived es h.1)))

pub sexp_derived : (e : Elements) → Record e → Held e → CSexp (text e) e
sexp_derived none p h = absurd p
sexp_derived (atom (octets os) es) p h = rw (p, append-nil) (CSexp.string (string_derived os h.0))
sexp_derived (list inner es) p h = rw (p, text_front inner (41 ∷ [])) (CSexp.parens (sexps_derived inner h.0))

-- what may follow a run: ")", or nothing
abbrev pub Ends : List ℕ → Type 0
Ends [] = Unit {0}
Ends (o ∷ rest) = o ≡ 41

-- an atom's text begins with a digit
atom_begins : (a : Atom) (r : List ℕ) → size a < 2 ^ 64 → (d : ℕ) × (rest : List ℕ) × (atom_then a r ≡ d ∷ rest) × Digit d
atom_begins (octets os) r h = go (decimal_is (length os) h)
  where
    go : {ds : List ℕ} {n : ℕ} → Decimal ds n → (d : ℕ) × (rest : List ℕ) × (ds ++ (58 ∷ (os ++ r)) ≡ d ∷ rest) × Digit d
    go Decimal.zero = (48, _, refl, (omega arith, omega arith))
    go (Decimal.positive {d} {ds} a b k) = (d, _, refl, (omega arith, b))

ends_not : (a : Atom) (r s : List ℕ) → size a < 2 ^ 64 → Ends r → r ≡ atom_then a s → ⊥
ends_not a [] s h k p = let b = atom_begins a s h in let q : [] ≡ b.0 ∷ b.1 = p ∙ b.2 in let z : ◌≡◌ {A = ℕ} 0 1 = cc in omega arith
ends_not a (o ∷ rest) s h k p = let b = atom_begins a s h in let q : o ≡ b.0 = first_same (p ∙ b.2) in let d : Digit b.0 = b.3 in omega arith

ends_not_list : (r s : List ℕ) → Ends r → r ≡ 40 ∷ s → ⊥
ends_not_list [] s k p = let z : ◌≡◌ {A = ℕ} 0 1 = cc in omega arith
ends_not_list (o ∷ rest) s k p = omega (arith, first_same p)

atom_not_list : (a : Atom) (r s : List ℕ) → size a < 2 ^ 64 → atom_then a r ≡ 40 ∷ s → ⊥
atom_not_list a r s h p = let b = atom_begins a r h in let q : b.0 ≡ 40 = first_same (sym b.2 ∙ p) in let d : Digit b.0 = b.3 in omega arith

-- an atom's text, taken apart again
atom_digits : (os r : List ℕ) → length os < 2 ^ 64 → digits (atom_then (octets os) r) ≡ decimal (length os)
atom_digits os r h = digits_split (decimal (length os)) (58 ∷ (os ++ r)) (decimal_digits (decimal_is (length os) h)) (stops_colon (os ++ r))

atom_behind : (os r : List ℕ) → length os < 2 ^ 64 → behind (atom_then (octets os) r) ≡ 58 ∷ (os ++ r)
atom_behind os r h = behind_split (decimal (length os)) (58 ∷ (os ++ r)) (decimal_digits (decimal_is (length os) h)) (stops_colon (os ++ r))

atom_same : (os xs r s : List ℕ) → length os < 2 ^ 64 → length xs < 2 ^ 64 → atom_then (octets os) r ≡ atom_then (octets xs) s → (os ≡ xs) × (r ≡ s)
atom_same os xs r s h k p = (same, rest)
  where
    len : length os ≡ length xs
    len = decimal_injective (length os) (length xs) h k (sym (atom_digits os r h) ∙ ap digits p ∙ atom_digits xs s k)

    tail : os ++ r ≡ xs ++ s
    tail = ap (drop 1) (sym (atom_behind os r h) ∙ ap behind p ∙ atom_behind xs s k)

    same : os ≡ xs
    same = sym (take_at os r (length os) refl) ∙ ap (take (length os)) tail ∙ take_at xs s (length os) (sym len)

    rest : r ≡ s
    rest = sym (drop_at os r (length os) refl) ∙ ap (drop (length os)) tail ∙ drop_at xs s (length os) (sym len)

pub runs_same : (e f : Elements) (r s : List ℕ) → Held e → Held f → Ends r → Ends s → text_then e r ≡ text_then f s → (e ≡ f) × (r ≡ s)
runs_same none none r s h k i j p = (refl, p)
runs_same none (atom b fs) r s h k i j p = absurd (ends_not b r (text_then fs s) k.0 i p)
runs_same none (list jnner fs) r s h k i j p = absurd (ends_not_list r _ i p)
runs_same (atom a es) none r s h k i j p = absurd (ends_not a s (text_then es r) h.0 j (sym p))
runs_same (atom (octets os) es) (atom (octets xs) fs) r s h k i j p =
    let q = atom_same os xs (text_then es r) (text_then fs s) h.0 k.0 p in
    let t = runs_same es fs r s h.1 k.1 i j q.1 in
    (ap₂ (λ (x : List ℕ) y. atom (octets x) y) q.0 t.0, t.1)
runs_same (atom a es) (list jnner fs) r s h k i j p = absurd (atom_not_list a (text_then es r) _ h.0 p)
runs_same (list inner es) none r s h k i j p = absurd (ends_not_list s _ j (sym p))
runs_same (list inner es) (atom b fs) r s h k i j p = absurd (atom_not_list b (text_then fs s) _ k.0 (sym p))
runs_same (list inner es) (list jnner fs) r s h k i j p =
    let q = runs_same inner jnner (41 ∷ text_then es r) (41 ∷ text_then fs s) h.0 k.0 refl refl (ap (drop 1) p) in
    let t = runs_same es fs r s h.1 k.1 i j (ap (drop 1) q.1) in
    (ap₂ list q.0 t.0, t.1)

-- being the same is being equal
pub same_refl : (e : Elements) → Same e e
same_refl none = tt
same_refl (atom a es) = (refl, same_refl es)
same_refl (list inner es) = (same_refl inner, same_refl es)

pub same_equal : (e f : Elements) → Same e f → e ≡ f
same_equal none none h = refl
same_equal none (atom b fs) h = absurd h
same_equal none (list jnner fs) h = absurd h
same_equal (atom a es) none h = absurd h
same_equal (atom a es) (atom b fs) h = ap₂ atom h.0 (same_equal es fs h.1)
same_equal (atom a es) (list jnner fs) h = absurd h
same_equal (list inner es) none h = absurd h
same_equal (list inner es) (atom b fs) h = absurd h
same_equal (list inner es) (list jnner fs) h = ap₂ list (same_equal inner jnner h.0) (same_equal es fs h.1)
