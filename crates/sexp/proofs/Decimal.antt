-- The grammar's decimals are what std's `decimal` writes. Assumes nothing.
use Rattle.std.proofs.Common.{◌≡◌, ℕ, zero, suc, ◌^◌, ◌<◌, List, [], ◌∷◌, get_or, decimal, sym, refl, subst, arith}
use Rattle.std.proofs.lemmas.Str.Parse.{IsNumeralModel, numerals_by_fold}
use Rattle.std.proofs.lemmas.Fmt.{decimal-digits_value, digits_decimal, digits_value-decimal, first_decimal, decimal_digit}
use Rattle.sexp.specs.Grammar.{Digits, value_after, value, Decimal}

-- the grammar's digits and their number, as the library has them
own : IsNumeralModel Digits value
own = numerals_by_fold Digits (record { empty = tt; parts = λ c cs h. h; more = λ c cs d h. (d, h) }) value_after (record { empty = λ n. refl; more = λ n c cs d. refl })

pub decimal_text : {ds : List ℕ} {n : ℕ} → Decimal ds n → n < 2 ^ 64 → ds ≡ decimal n
decimal_text Decimal.zero h = sym (decimal_digit 0 (omega arith))
decimal_text (Decimal.positive {d} {ds} a b k) h = sym (decimal-digits_value own (d ∷ ds) ((omega arith, b), k) (omega arith) (λ e. absurd (omega arith)) h)

pub decimal_is : (n : ℕ) → n < 2 ^ 64 → Decimal (decimal n) n
decimal_is zero h = rw (decimal_digit 0 (omega arith)) Decimal.zero
decimal_is (suc n) h = go (decimal (suc n)) (digits_decimal own (suc n) h) (first_decimal (suc n) (omega arith) h) (digits_value-decimal own (suc n) h)
  where
    go : (ds : List ℕ) → Digits ds → 48 < get_or ds 0 0 → value ds ≡ suc n → Decimal ds (suc n)
    go [] k f e = absurd (omega arith)
    go (d ∷ ds) k f e = subst (Decimal (d ∷ ds)) e (Decimal.positive (omega arith) k.0.1 k.1)
