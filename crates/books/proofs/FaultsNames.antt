-- Names of a pattern, each where it occurs first. Assumes nothing.
use Rattle.std.proofs.Common.{◌≡◌, ℕ, true, false, cond, List, [], ◌∷◌, ◌++◌, Option, Some, None, sym, refl, ap, ap₂, ◌∙◌, inl, inr, append-nil}
use Rattle.std.specs.Str.{bytes_eq}
use Rattle.std.proofs.lemmas.Bool.{cases_Bool, false_from_ne_true}
use Rattle.std.proofs.lemmas.Slice.Eq.{bytes_eq-Decides}
use Rattle.rules.specs.declared.signs.Sign.{Sign}
use Rattle.rules.specs.Complete.{In}
use Rattle.rules.specs.Patterns.{Slot, without, firsts}
use Rattle.rules.proofs.Names.{name_sym, in_without}
use Rattle.rules.proofs.Orders.{in_left}
use Rattle.books.specs.Faults.{Named}
use Rattle.books.specs.Scanning.{sign_of}

-- the test of two names
pub same_name : (a b : List ℕ) → bytes_eq a b ≡ true → a ≡ b
same_name a b = (bytes_eq-Decides a b).0

pub name_same : (a b : List ℕ) → a ≡ b → bytes_eq a b ≡ true
name_same a b = (bytes_eq-Decides a b).1

pub name_other : (a b : List ℕ) → (a ≡ b → ⊥) → bytes_eq a b ≡ false
name_other a b n = false_from_ne_true (bytes_eq a b) (λ e. n (same_name a b e))

pub other_name : (a b : List ℕ) → bytes_eq a b ≡ false → a ≡ b → ⊥
other_name a b e p = let z : true ≡ false = sym (name_same a b p) ∙ e in absurd cc

pub some_same : {A : Type 0} {x y : A} → Some x ≡ Some y → x ≡ y
some_same e = cc

-- what `sign_of` tells
pub sign_in : (name : List ℕ) (ss : List Slot) (sign : Sign) → sign_of name ss ≡ Some sign → In (record { sign = sign; name = name }) ss
sign_in name [] sign e = let z : None ≡ Some sign = e in absurd cc
sign_in name (s ∷ ss) sign e = elim (cases_Bool (bytes_eq name s.name)) [
  | inl h ↦ let q : Some s.sign ≡ Some sign = rw (h, sign_of) at e in inl (ap₂ (λ x y. record { sign = x; name = y }) (some_same (sym q)) (same_name name s.name h))
  | inr h ↦ inr (sign_in name ss sign (rw (h, sign_of) at e))
]

pub sign_none : (name : List ℕ) (ss : List Slot) → sign_of name ss ≡ None → Named name ss → ⊥
sign_none name [] e n = n.among
sign_none name (s ∷ ss) e n = elim (cases_Bool (bytes_eq name s.name)) [
  | inl h ↦ let z : Some s.sign ≡ None = rw (h, sign_of) at e in absurd cc
  | inr h ↦ elim n.among [
    | inl p ↦ other_name name s.name h (ap (λ x. x.name) p)
    | inr m ↦ sign_none name ss (rw (h, sign_of) at e) (record { sign = n.sign; among = m })
  ]
]

-- names but one
sign_without : (name other : List ℕ) (ss : List Slot) → (name ≡ other → ⊥) → sign_of name (without other ss) ≡ sign_of name ss
sign_without name other [] n = refl
sign_without name other (s ∷ ss) n = elim (cases_Bool (bytes_eq other s.name)) [
  | inl h ↦ rw (h, without) (rw (name_other name s.name (λ p. n (p ∙ sym (same_name other s.name h))), sign_of) (sign_without name other ss n))
  | inr h ↦ rw (h, without) (ap (cond (bytes_eq name s.name) (Some s.sign)) (sign_without name other ss n))
]

-- each name has one sign there
pub sign_told : (s : Slot) (ss : List Slot) → In s (firsts ss) → sign_of s.name (firsts ss) ≡ Some s.sign
sign_told s [] m = absurd m
sign_told s (x ∷ ss) (inl e) = rw (name_same s.name x.name (ap (λ y. y.name) e), sign_of) (ap (λ y. Some y.sign) (sym e))
sign_told s (x ∷ ss) (inr k) =
    let r = in_without x.name (firsts ss) s k in
    rw (name_sym s.name x.name ∙ r.1, sign_of) (sign_without s.name x.name (firsts ss) (λ p. other_name x.name s.name r.1 (sym p)) ∙ sign_told s ss r.0)

-- names with one more, unless they have it already
abbrev pub added : Slot → List Slot → List Slot
added s ss = elim (sign_of s.name ss) [ Some sign ↦ ss | None ↦ ss ++ (s ∷ []) ]

without_push : (name : List ℕ) (ss : List Slot) (s : Slot) → without name (ss ++ (s ∷ [])) ≡ without name ss ++ without name (s ∷ [])
without_push name [] s = refl
without_push name (x ∷ ss) s = elim (cases_Bool (bytes_eq name x.name)) [
  | inl h ↦ rw (h, without) (without_push name ss s)
  | inr h ↦ rw (h, without) (ap (λ ys. x ∷ ys) (without_push name ss s))
]

pub added_known : (s : Slot) (ss : List Slot) (sign : Sign) → sign_of s.name ss ≡ Some sign → added s ss ≡ ss
added_known s ss sign e = rw (e, added)

pub added_new : (s : Slot) (ss : List Slot) → sign_of s.name ss ≡ None → added s ss ≡ ss ++ (s ∷ [])
added_new s ss e = rw (e, added)

without_added : (s x : Slot) (ss : List Slot) → x ∷ without x.name (added s ss) ≡ added s (x ∷ without x.name ss)
without_added s x ss = go (sign_of s.name ss) refl
  where
    same : s.name ≡ x.name → added s (x ∷ without x.name ss) ≡ x ∷ without x.name ss
    same p = added_known s (x ∷ without x.name ss) x.sign (rw (name_same s.name x.name p, sign_of))

    far : (s.name ≡ x.name → ⊥) → sign_of s.name (x ∷ without x.name ss) ≡ sign_of s.name ss
    far n = rw (name_other s.name x.name n, sign_of) (sign_without s.name x.name ss n)

    go : (o : Option Sign) → sign_of s.name ss ≡ o → x ∷ without x.name (added s ss) ≡ added s (x ∷ without x.name ss)
    go (Some sign) e = rw (added_known s ss sign e) (elim (cases_Bool (bytes_eq s.name x.name)) [
      | inl h ↦ sym (same (same_name s.name x.name h))
      | inr h ↦ sym (added_known s (x ∷ without x.name ss) sign (far (other_name s.name x.name h) ∙ e))
    ])
    go None e = rw (added_new s ss e) (rw (without_push x.name ss s) (elim (cases_Bool (bytes_eq s.name x.name)) [
      | inl h ↦ let p = same_name s.name x.name h in rw (name_same x.name s.name (sym p), without) (ap (λ ys. x ∷ ys) (append-nil (without x.name ss)) ∙ sym (same p))
      | inr h ↦ let n = other_name s.name x.name h in rw (name_other x.name s.name (λ p. n (sym p)), without) (sym (added_new s (x ∷ without x.name ss) (far n ∙ e)))
    ]))

pub firsts_added : (ss : List Slot) (s : Slot) → firsts (ss ++ (s ∷ [])) ≡ added s (firsts ss)
firsts_added [] s = refl
firsts_added (x ∷ ss) s = ap (λ ys. x ∷ without x.name ys) (firsts_added ss s) ∙ without_added s x (firsts ss)

-- what was there stays
pub in_added : (x s : Slot) (ss : List Slot) → In x ss → In x (added s ss)
in_added x s ss m = go (sign_of s.name ss) refl
  where
    go : (o : Option Sign) → sign_of s.name ss ≡ o → In x (added s ss)
    go (Some sign) e = rw (added_known s ss sign e) m
    go None e = rw (added_new s ss e) (in_left x ss (s ∷ []) m)
