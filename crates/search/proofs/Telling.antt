-- A job that keeps only a key goes through the complete list of fits, one by one and to its end. Assumes nothing.
use Rattle.std.proofs.Common.{◌≡◌, ℕ, zero, suc, ◌≤◌, inl, inr, ⊎_elim, List, [], ◌∷◌, ◌++◌, length, Option, Some, None, slice_get, sym, refl, ap, ◌∙◌, subst, arith}
use Rattle.std.specs.Prelude.{option_map}
use Rattle.std.proofs.lemmas.Option.{slice_get_within}
use Rattle.sexp.specs.Elements.{Elements}
use Rattle.rules.specs.Patterns.{Rule}
use Rattle.rules.specs.Fits.{Numbered, BookFit}
use Rattle.rules.specs.Keys.{Key, key, Before}
use Rattle.rules.specs.Complete.{In, BeforeAll, InOrder, Complete}
use Rattle.rules.proofs.Orders.{in_right, in_either, before_apart, before_one_way, before_each, one_of_key}
use Rattle.rules.proofs.Books.{at_most_one_complete}
use Rattle.search.specs.Books.{BookPosition, first, past, IsPast, LeastPast}

-- two lists that are both complete are one
pub complete_one : {book : List Rule} {e : Elements} {fs gs : List Numbered} → Complete book e fs → Complete book e gs → fs ≡ gs
complete_one {book} {e} {fs} {gs} h k = at_most_one_complete book e fs gs h k

-- at most one answer is the least key past a position
pub least_past-one : (book : List Rule) (e : Elements) (position : BookPosition) (r s : Option Key) → LeastPast book e position r → LeastPast book e position s → r ≡ s
least_past-one book e position (Some k) (Some l) h i = ⊎_elim
    (λ p. ap Some p)
    (λ b. ⊎_elim (λ p. ap Some (sym p)) (λ c. absurd (before_one_way k l b c)) (i.2 k h.0 h.1))
    (h.2 l i.0 i.1)
least_past-one book e position (Some k) None h i = absurd (i k h.0 h.1)
least_past-one book e position None (Some l) h i = absurd (h l i.0 i.1)
least_past-one book e position None None h i = refl

-- the key of the first of some fits, if there is one
abbrev pub first_key : List Numbered → Option Key
first_key fs = option_map key (slice_get fs 0)

-- it is the least key past a position, where these are in order and are the fits past it
least_past-head : (book : List Rule) (e : Elements) (position : BookPosition) (fs : List Numbered) → InOrder fs → ((f : Numbered) → In f fs → BookFit book e f × IsPast position (key f)) →
    ((f : Numbered) → BookFit book e f → IsPast position (key f) → In f fs) → LeastPast book e position (first_key fs)
least_past-head book e position [] o only each = λ l h p. each h.0 h.1 (subst (IsPast position) (sym h.2) p)
least_past-head book e position (f ∷ fs) o only each = (
  (f, (only f (inl refl)).0, refl),
  (only f (inl refl)).1,
  (λ l h p. ⊎_elim
      (λ q. inl (ap key (sym q) ∙ h.2))
      (λ i. inr (subst (Before (key f)) h.2 (before_each (key f) fs o.0 h.0 i)))
      (each h.0 h.1 (subst (IsPast position) (sym h.2) p))),
)

-- a list in order is in order behind each of its members, and those there come behind it
order_behind : (front : List Numbered) (f : Numbered) (rest : List Numbered) → InOrder (front ++ (f ∷ rest)) → BeforeAll (key f) rest × InOrder rest
order_behind [] f rest o = o
order_behind (g ∷ front) f rest o = order_behind front f rest o.1

-- those in front of it come before it
order_front : (front : List Numbered) (f : Numbered) (rest : List Numbered) → InOrder (front ++ (f ∷ rest)) → (g : Numbered) → In g front → Before (key g) (key f)
order_front [] f rest o g i = absurd i
order_front (x ∷ front) f rest o g i = ⊎_elim
    (λ p. subst (λ (y : Numbered). Before (key y) (key f)) (sym p) (before_each (key x) (front ++ (f ∷ rest)) o.0 f (in_right f front (f ∷ rest) (inl refl))))
    (λ j. order_front front f rest o.1 g j)
    i

-- before all keys, the least key is that of the first fit, and there is none where there is no fit
pub least_past-first : {book : List Rule} {e : Elements} {fits : List Numbered} → Complete book e fits → LeastPast book e first (first_key fits)
least_past-first {book} {e} {fits} c = least_past-head book e first fits c.in_order (λ f i. (c.only f i, tt)) (λ f b p. c.each f b)

-- behind the key of a fit, it is that of the next one, and there is none where there is no more
pub least_past-next : {book : List Rule} {e : Elements} (front : List Numbered) (f : Numbered) (rest : List Numbered) → Complete book e (front ++ (f ∷ rest)) → LeastPast book e (past (key f)) (first_key rest)
least_past-next {book} {e} front f rest c = least_past-head book e (past (key f)) rest o.1
    (λ g i. (c.only g (in_right g front (f ∷ rest) (inr i)), before_each (key f) rest o.0 g i))
    (λ g b p. ⊎_elim
    (λ i. absurd (before_one_way (key g) (key f) (order_front front f rest c.in_order g i) p))
    (λ j. ⊎_elim (λ q. absurd (before_apart (key f) (key g) p (ap key (sym q)))) (λ i. i) j)
    (in_either g front (f ∷ rest) (c.each g b)))
  where
    o : BeforeAll (key f) rest × InOrder rest
    o = order_behind front f rest c.in_order

-- the n-th of a list, counted from 0, with the n in front of it and those behind it
pub split_get : (fs : List Numbered) (n : ℕ) (f : Numbered) → slice_get fs n ≡ Some f → (front : List Numbered) × (rest : List Numbered) × (fs ≡ front ++ (f ∷ rest)) × (slice_get fs (suc n) ≡ slice_get rest 0)
split_get [] n f p = absurd cc
split_get (x ∷ fs) zero f p = ([], fs, ap (λ y. y ∷ fs) cc, refl)
split_get (x ∷ fs) (suc n) f p = let t = split_get fs n f p in (x ∷ t.0, t.1, ap (x ∷◌) t.2, t.3)

-- n of the fits are told: the position is before all keys where n is 0, and otherwise behind the key of the last one told
abbrev pub Told : List Numbered → ℕ → BookPosition → Type 0
Told fits zero position = position ≡ first
Told fits (suc n) position = (f : Numbered) × (slice_get fits n ≡ Some f) × (position ≡ past (key f))

-- where n are told, the least key past the position is that of the next one, counted from 0 the n-th; and there is none where all are told
pub told_least : {book : List Rule} {e : Elements} {fits : List Numbered} (n : ℕ) (position : BookPosition) → Complete book e fits → Told fits n position → LeastPast book e position (option_map key (slice_get fits n))
told_least {book} {e} {fits} zero position c t = subst (λ x. LeastPast book e x (first_key fits)) (sym t) (least_past-first c)
told_least {book} {e} {fits} (suc n) position c t =
    let s = split_get fits n t.0 t.1 in
    subst (λ x. LeastPast book e x (option_map key (slice_get fits (suc n)))) (sym t.2)
    (subst (λ x. LeastPast book e (past (key t.0)) (option_map key x)) (sym s.3) (least_past-next s.0 t.0 s.1 (subst (Complete book e) s.2 c)))

-- so whatever is the least key past the position is that of the next one
pub told_answer : {book : List Rule} {e : Elements} {fits : List Numbered} (n : ℕ) (position : BookPosition) (r : Option Key) → Complete book e fits → Told fits n position → LeastPast book e position r → r ≡ option_map key (slice_get fits n)
told_answer {book} {e} {fits} n position r c t l = least_past-one book e position r (option_map key (slice_get fits n)) l (told_least n position c t)

-- an answer made by a map: of what it is made
mapped_some : (o : Option Numbered) (k : Key) → Some k ≡ option_map key o → (f : Numbered) × (o ≡ Some f) × (k ≡ key f)
mapped_some (Some f) k p = (f, refl, cc)
mapped_some None k p = absurd cc

mapped_none : (o : Option Numbered) → None ≡ option_map key o → o ≡ None
mapped_none (Some f) p = absurd cc
mapped_none None p = refl

-- a key is the next fit's
pub told_next : {book : List Rule} {e : Elements} {fits : List Numbered} (n : ℕ) (position : BookPosition) (k : Key) → Complete book e fits → Told fits n position → LeastPast book e position (Some k) →
    (f : Numbered) × (slice_get fits n ≡ Some f) × (k ≡ key f)
told_next {fits = fits} n position k c t l = mapped_some (slice_get fits n) k (told_answer n position (Some k) c t l)

-- no more are told than there are
pub told_within : (fits : List Numbered) (n : ℕ) (position : BookPosition) → Told fits n position → n ≤ length fits
told_within fits zero position t = omega arith
told_within fits (suc n) position t = slice_get_within fits n t.0 t.1

got_none : (fs : List Numbered) (n : ℕ) → slice_get fs n ≡ None → length fs ≤ n
got_none [] n p = omega arith
got_none (f ∷ fs) zero p = absurd cc
got_none (f ∷ fs) (suc n) p = omega (arith, got_none fs n p)

-- and where there is no key, all are told
pub told_all : {book : List Rule} {e : Elements} {fits : List Numbered} (n : ℕ) (position : BookPosition) → Complete book e fits → Told fits n position → LeastPast book e position None → n ≡ length fits
told_all {fits = fits} n position c t l = omega (arith, told_within fits n position t, got_none fits n (mapped_none (slice_get fits n) (told_answer n position None c t l)))

-- what stands in a list at a number is a member
pub get_in : (fs : List Numbered) (n : ℕ) (f : Numbered) → slice_get fs n ≡ Some f → In f fs
get_in [] n f p = absurd cc
get_in (x ∷ fs) zero f p = inl cc
get_in (x ∷ fs) (suc n) f p = inr (get_in fs n f p)

-- where there is a complete list, the fit that a key belongs to is one
pub one_fit : {book : List Rule} {e : Elements} {fits : List Numbered} (f g : Numbered) → Complete book e fits → BookFit book e f → BookFit book e g → key f ≡ key g → f ≡ g
one_fit {fits = fits} f g c h k p = one_of_key fits c.in_order f g (c.each f h) (c.each g k) p
