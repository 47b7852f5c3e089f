-- How long a decimal is. Assumes nothing.
use Rattle.std.proofs.Common.{ℕ, zero, suc, ◌+◌, ◌/◌, ◌%◌, ◌≤◌, true, false, cond, eqb, List, [], ◌∷◌, length, ℤ, pos, negsuc, decimal, arith}
use Rattle.std.specs.Fmt.{signed_decimal, digits, digits_onto, digit_glyph}

-- of any number: 64 digits, and a sign
length_spelled : (k n : ℕ) (acc : List ℕ) → length (digits_onto k 10 false n acc) ≤ k + length acc
length_spelled zero n acc = omega arith
length_spelled (suc k) n acc =
    let ds : List ℕ = digit_glyph false (n % 10) ∷ acc in
    elim (eqb (n / 10) 0) as (λ b. length (cond b ds (digits_onto k 10 false (n / 10) ds)) ≤ suc k + length acc) [ true ↦ omega arith | false ↦ omega (arith, length_spelled k (n / 10) ds) ]

pub length_decimal_ever : (n : ℕ) → length (decimal n) ≤ 64
unfolding digits
length_decimal_ever n = omega (arith, length_spelled 64 n [])

pub length_signed_ever : (z : ℤ) → length (signed_decimal z) ≤ 65
length_signed_ever (pos n) = omega (arith, length_decimal_ever n)
length_signed_ever (negsuc n) = omega (arith, length_decimal_ever (suc n))
