-- The digits at the front of a text, and what they write. Assumes nothing.
use Rattle.std.proofs.Common.{◌≡◌, ℕ, ◌+◌, ◌-◌, ◌*◌, ◌<◌, ◌≤◌, true, false, Bool, ◌&&◌, ◌==◌, List, [], ◌∷◌, length, get_or, take, drop, Some, None, sym, refl, ap, ◌∙◌, arith}
use Rattle.std.proofs.lemmas.Bool.{lt-ltb, le-ltb}
use Rattle.std.proofs.lemmas.List.{take_all}
use Rattle.sexp.specs.Grammar.{value_after, value}
use Rattle.sexp.specs.Reading.{is_digit, digits, behind, padded}
use Rattle.sexp.specs.Checks.{short_value}

-- the value only grows with more digits
pub value_grows : (n : ℕ) (ds : List ℕ) → n ≤ value_after n ds
value_grows n [] = omega arith
value_grows n (d ∷ ds) = let more = value_grows (n * 10 + (d - 48)) ds in omega arith

-- the text t begins with digits that write n, and r stands behind them
pub record Sofar (t r : List ℕ) (n : ℕ) : Type 0 where
  pub worth : value (digits t) ≡ value_after n (digits r)
  pub after : behind t ≡ behind r
  pub small : n ≤ 1024

-- what is left behind the first octet
left : (o : ℕ) (r : List ℕ) → take (length (o ∷ r) - 1) (drop 1 (o ∷ r)) ≡ r
left o r = take_all (length (o ∷ r) - 1) r (omega arith)

-- one digit more
worth_more : (t : List ℕ) (n o : ℕ) (r : List ℕ) → Sofar t (o ∷ r) n → is_digit o ≡ true → value (digits t) ≡ value_after (n * 10 + (o - 48)) (digits r)
worth_more t n o r h e = h.worth ∙ rw (e, digits) refl

pub one_more : (t r : List ℕ) (n : ℕ) → Sofar t r n → 1 ≤ length r → is_digit (get_or r 0 0) ≡ true → n * 10 + (get_or r 0 0 - 48) ≤ 1024 → Sofar t (take (length r - 1) (drop 1 r)) (n * 10 + (get_or r 0 0 - 48))
one_more t [] n h some e small = absurd (omega arith)
one_more t (o ∷ r) n h some e small = rw (left o r) (record { worth = worth_more t n o r h e; after = h.after ∙ rw (e, behind) refl; small = small })

pub too_long : (t r : List ℕ) (n : ℕ) → Sofar t r n → 1 ≤ length r → is_digit (get_or r 0 0) ≡ true → 1024 < n * 10 + (get_or r 0 0 - 48) → None ≡ short_value (digits t)
too_long t [] n h some e big = absurd (omega arith)
too_long t (o ∷ r) n h some e big =
    let w = worth_more t n o r h e in
    let g = value_grows (n * 10 + (o - 48)) (digits r) in
    rw (lt-ltb 1024 (value (digits t)) (omega arith)) refl

-- the digits end
ended : (t r : List ℕ) (n : ℕ) → Sofar t r n → digits r ≡ [] → behind r ≡ r → (Some n ≡ short_value (digits t)) × (r ≡ behind t)
ended t r n h e b = (rw (h.worth ∙ ap (value_after n) e, le-ltb 1024 n h.small) refl, sym (h.after ∙ b))

pub at_end : (t r : List ℕ) (n : ℕ) → Sofar t r n → length r ≡ 0 → (Some n ≡ short_value (digits t)) × (r ≡ behind t)
at_end t [] n h e = ended t [] n h refl refl
at_end t (o ∷ r) n h e = absurd (omega arith)

pub at_other : (t r : List ℕ) (n : ℕ) → Sofar t r n → 1 ≤ length r → is_digit (get_or r 0 0) ≡ false → (Some n ≡ short_value (digits t)) × (r ≡ behind t)
at_other t [] n h some e = absurd (omega arith)
at_other t (o ∷ r) n h some e = ended t (o ∷ r) n h (rw (e, digits) refl) (rw (e, behind) refl)

-- a text of less than two octets begins with no several digits
and_no : (b : Bool) → false ≡ (b && false)
and_no true = refl
and_no false = refl

pub padded_short : (t : List ℕ) → length t < 2 → false ≡ padded (digits t)
padded_short [] h = refl
padded_short (o ∷ []) h = go (is_digit o) refl
  where
    go : (b : Bool) → is_digit o ≡ b → false ≡ padded (digits (o ∷ []))
    go true e = rw (e, digits) (and_no (o == 48))
    go false e = rw (e, digits) refl
padded_short (o ∷ p ∷ r) h = absurd (omega arith)
