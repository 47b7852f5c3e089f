-- What an atom is told as: its octets, and how far it reaches. Assumes nothing.
use Rattle.std.proofs.Common.{◌≡◌, ◌≢◌, ℕ, ◌+◌, ◌-◌, ◌≤◌, Bool, true, false, ltb, List, [], ◌∷◌, length, get_or, take, drop, Some, None, Option, refl, sym, ap, ◌∙◌, arith, length-drop}
use Rattle.std.specs.List.{slice_range}
use Rattle.std.proofs.lemmas.Bool.{le-ltb, eq-eqb, ne_eqb}
use Rattle.std.proofs.lemmas.List.{length-append, take_all}
use Rattle.sexp.specs.Grammar.{value}
use Rattle.sexp.specs.declared.refusals.Refusal.TheVariants.{Malformed}
use Rattle.sexp.specs.Reading.{digits, behind, padded, string_at, string, fault}
use Rattle.sexp.specs.Checks.{short_value}
use Rattle.sexp.proofs.Lexing.{digits_behind}

-- what a short length tells
short_told : (ds : List ℕ) (n : ℕ) → Some n ≡ short_value ds → (ltb 1024 (value ds) ≡ false) × (n ≡ value ds)
short_told ds n h = go (ltb 1024 (value ds)) refl
  where
    go : (b : Bool) → ltb 1024 (value ds) ≡ b → (ltb 1024 (value ds) ≡ false) × (n ≡ value ds)
    go true e = let k : ◌≡◌ {A = Option ℕ} (Some n) None = h ∙ rw e refl in let z : ◌≡◌ {A = ℕ} 0 1 = cc in absurd (omega arith)
    go false e = let k : ◌≡◌ {A = Option ℕ} (Some n) (Some (value ds)) = h ∙ rw e refl in (e, cc)

-- the octets behind the colon
after_colon : (o : ℕ) (rest : List ℕ) → take (length (o ∷ rest) - 1) (drop 1 (o ∷ rest)) ≡ rest
after_colon o rest = take_all (length (o ∷ rest) - 1) rest (omega arith)

pub atom_told : (end at n : ℕ) (ds rest os : List ℕ) → padded ds ≡ false → Some n ≡ short_value ds → get_or rest 0 0 ≡ 58 → 1 ≤ length rest → n ≤ length (take (length rest - 1) (drop 1 rest)) → os ≡ slice_range (take (length rest - 1) (drop 1 rest)) 0 n → string_at end at ds rest ≡ string os (length ds + n)
atom_told end at n ds [] os p v colon some fits is = absurd (omega arith)
atom_told end at n ds (o ∷ rest) os p v colon some fits is =
    let size = short_told ds n v in
    let rest_is = after_colon o rest in
    let octets : os ≡ take n rest = is ∙ ap (λ r. slice_range r 0 n) rest_is ∙ ap (λ k. take k rest) (omega arith) in
    let enough : n ≤ length rest = omega (arith, fits, ap length rest_is) in
    rw (p, size.0, sym size.1, eq-eqb o 58 colon, le-ltb (length rest) n enough, octets) refl

-- the digits and what stands behind them make up the text
parts : (t : List ℕ) → length (digits t) + length (behind t) ≡ length t
parts t = sym (length-append (digits t) (behind t)) ∙ ap length (digits_behind t)

-- a whole atom reaches no further than the text
pub atom_within : (at n : ℕ) (t ds rest : List ℕ) → at ≤ length t → ds ≡ digits (drop at t) → rest ≡ behind (drop at t) → 1 ≤ length rest → n ≤ length (take (length rest - 1) (drop 1 rest)) → at + length ds + 1 + n ≤ length t
atom_within at n t ds [] inside d b some fits = absurd (omega arith)
atom_within at n t ds (o ∷ rest) inside d b some fits =
    omega (arith, inside, parts (drop at t), length-drop at t, ap length d, ap length b, fits, ap length (after_colon o rest))

pub behind_within : (at : ℕ) (t r : List ℕ) → r ≡ behind (drop at t) → length r ≤ length t
behind_within at t r b = omega (arith, parts (drop at t), length-drop at t, ap length b)

-- the digits end where what stands behind them begins
pub digits_end : (at : ℕ) (t r : List ℕ) → at ≤ length t → r ≡ behind (drop at t) → length t - length r ≡ at + length (digits (drop at t))
digits_end at t r inside b = omega (arith, inside, parts (drop at t), length-drop at t, ap length b)

-- an octet behind the digits that is no colon
pub stray_told : (at n : ℕ) (t r : List ℕ) → at ≤ length t → r ≡ behind (drop at t) → padded (digits (drop at t)) ≡ false → Some n ≡ short_value (digits (drop at t)) → 1 ≤ length r → (get_or r 0 0 ≢ 58) → string_at (length t) at (digits (drop at t)) (behind (drop at t)) ≡ fault (Malformed (length t - length r))
stray_told at n t [] inside b p v some stray = absurd (omega arith)
stray_told at n t (o ∷ rest) inside b p v some stray =
    let size = short_told (digits (drop at t)) n v in
    ap (string_at (length t) at (digits (drop at t))) (sym b)
    ∙ rw (p, size.0, ne_eqb o 58 stray, digits_end at t (o ∷ rest) inside b) refl
