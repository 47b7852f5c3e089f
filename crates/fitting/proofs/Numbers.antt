-- Four lengths: one of them grown with 0 behind it, the number that they make, and the first of them with 0 behind. Assumes nothing.
use Rattle.std.proofs.Common.{◌≡◌, ℕ, zero, suc, ◌+◌, ◌-◌, ◌^◌, ◌<◌, ◌≤◌, ◌==◌, true, false, ◌⊎◌, inl, inr, Decides, List, [], ◌∷◌, ◌++◌, length, take, drop, get_or, set, replicate, append_assoc, length-append, length-take, sym, refl, ap, ◌∙◌, subst, arith}
use Rattle.std.proofs.Math.Seq.{get_or-append_seam, take-append_seam}
use Rattle.std.specs.List.{list_all}
use Rattle.std.proofs.lemmas.Bool.{cases_Bool, eqb-true, false≢true}
use Rattle.std.proofs.lemmas.List.{take-append-drop}
use borrow.Rule.Slice.PartMut.{mid_of, put_mid}
use Rattle.rules.specs.Keys.{four}
use Rattle.fitting.specs.Moves.{number}

-- four lengths, with another one at an index, and 0 behind it
abbrev pub anew : ℕ → ℕ → List ℕ → List ℕ
anew s n ls = take s ls ++ (n ∷ replicate (3 - s) 0)

-- facts of four lengths and an index among them
abbrev FourAt : (ℕ → List ℕ → Type 0) → Type 0
FourAt P = (a b c d : ℕ) → P 0 (a ∷ (b ∷ (c ∷ (d ∷ [])))) × P 1 (a ∷ (b ∷ (c ∷ (d ∷ [])))) × P 2 (a ∷ (b ∷ (c ∷ (d ∷ [])))) × P 3 (a ∷ (b ∷ (c ∷ (d ∷ []))))

four_at : (P : ℕ → List ℕ → Type 0) (s : ℕ) (ls : List ℕ) → length ls ≡ 4 → s < 4 → FourAt P → P s ls
four_at P s [] l h f = absurd (omega arith)
four_at P s (a ∷ []) l h f = absurd (omega arith)
four_at P s (a ∷ (b ∷ [])) l h f = absurd (omega arith)
four_at P s (a ∷ (b ∷ (c ∷ []))) l h f = absurd (omega arith)
four_at P zero (a ∷ (b ∷ (c ∷ (d ∷ [])))) l h f = (f a b c d).0
four_at P (suc zero) (a ∷ (b ∷ (c ∷ (d ∷ [])))) l h f = (f a b c d).1
four_at P (suc (suc zero)) (a ∷ (b ∷ (c ∷ (d ∷ [])))) l h f = (f a b c d).2
four_at P (suc (suc (suc zero))) (a ∷ (b ∷ (c ∷ (d ∷ [])))) l h f = (f a b c d).3
four_at P (suc (suc (suc (suc s)))) (a ∷ (b ∷ (c ∷ (d ∷ [])))) l h f = absurd (omega arith)
four_at P s (a ∷ (b ∷ (c ∷ (d ∷ (e ∷ ls))))) l h f = absurd (omega arith)

-- lengths that are filled with 0 from an index on, and written there
pub restarted : (s n : ℕ) (ls zs : List ℕ) → length ls ≡ 4 → s < 4 → zs ≡ replicate (length (mid_of s (4 - s) ls)) 0 → set (put_mid s (4 - s) ls zs) s n ≡ anew s n ls
restarted s n ls zs l h e = four_at (λ s ls. (zs : List ℕ) → zs ≡ replicate (length (mid_of s (4 - s) ls)) 0 → set (put_mid s (4 - s) ls zs) s n ≡ anew s n ls) s ls l h
    (λ a b c d. ((λ zs e. rw e refl), (λ zs e. rw e refl), (λ zs e. rw e refl), (λ zs e. rw e refl))) zs e

pub anew_long : (s n : ℕ) (ls : List ℕ) → length ls ≡ 4 → s < 4 → length (anew s n ls) ≡ 4
anew_long s n ls l h = four_at (λ s ls. length (anew s n ls) ≡ 4) s ls l h (λ a b c d. (refl, refl, refl, refl))

pub anew_taken : (s n : ℕ) (ls : List ℕ) → length ls ≡ 4 → s < 4 → take (s + 1) (anew s n ls) ≡ take s ls ++ (n ∷ [])
anew_taken s n ls l h = four_at (λ s ls. take (s + 1) (anew s n ls) ≡ take s ls ++ (n ∷ [])) s ls l h (λ a b c d. (refl, refl, refl, refl))

pub zeros : (k i : ℕ) → get_or (replicate {A = ℕ} k 0) i 0 ≡ 0
zeros zero i = refl
zeros (suc k) zero = refl
zeros (suc k) (suc i) = zeros k i

pub anew_zero : (s n : ℕ) (ls : List ℕ) → length ls ≡ 4 → s < 4 → (i : ℕ) → s + 1 ≤ i → get_or (anew s n ls) i 0 ≡ 0
anew_zero s n ls l h = four_at (λ s ls. (i : ℕ) → s + 1 ≤ i → get_or (anew s n ls) i 0 ≡ 0) s ls l h (λ a b c d. (at0, at1 a, at2 a b, at3 a b c))
  where
    at0 : (i : ℕ) → 0 + 1 ≤ i → get_or (n ∷ (0 ∷ (0 ∷ (0 ∷ [])))) i 0 ≡ 0
    at0 zero k = absurd (omega arith)
    at0 (suc i) k = zeros 3 i

    at1 : (a i : ℕ) → 1 + 1 ≤ i → get_or (a ∷ (n ∷ (0 ∷ (0 ∷ [])))) i 0 ≡ 0
    at1 a zero k = absurd (omega arith)
    at1 a (suc zero) k = absurd (omega arith)
    at1 a (suc (suc i)) k = zeros 2 i

    at2 : (a b i : ℕ) → 2 + 1 ≤ i → get_or (a ∷ (b ∷ (n ∷ (0 ∷ [])))) i 0 ≡ 0
    at2 a b zero k = absurd (omega arith)
    at2 a b (suc zero) k = absurd (omega arith)
    at2 a b (suc (suc zero)) k = absurd (omega arith)
    at2 a b (suc (suc (suc i))) k = zeros 1 i

    at3 : (a b c i : ℕ) → 3 + 1 ≤ i → get_or (a ∷ (b ∷ (c ∷ (n ∷ [])))) i 0 ≡ 0
    at3 a b c zero k = absurd (omega arith)
    at3 a b c (suc zero) k = absurd (omega arith)
    at3 a b c (suc (suc zero)) k = absurd (omega arith)
    at3 a b c (suc (suc (suc zero))) k = absurd (omega arith)
    at3 a b c (suc (suc (suc (suc i)))) k = refl

-- the number grows with the length at the index
pub number_anew : (s n : ℕ) (ls : List ℕ) → length ls ≡ 4 → s < 4 → get_or ls s 0 ≡ n → n < 65535 → number ls < number (anew s (n + 1) ls)
number_anew s n ls l h e k = four_at (λ s ls. get_or ls s 0 ≡ n → number ls < number (anew s (n + 1) ls)) s ls l h
    (λ a b c d. ((λ e. omega arith), (λ e. omega arith), (λ e. omega arith), (λ e. omega arith))) e

-- and is never greater than it can be
pub number_most : (ls : List ℕ) → length ls ≡ 4 → number ls < 65536 ^ 4
number_most ls l = four_at (λ s ls. number ls < 65536 ^ 4) 0 ls l (omega arith) (λ a b c d. (omega arith, omega arith, omega arith, omega arith))

-- the last of the lengths taken
pub last_taken : (k n : ℕ) (ls xs : List ℕ) → length ls ≡ 4 → k ≡ length xs + 1 → take k ls ≡ xs ++ (n ∷ []) → (k - 1 < 4) × (get_or ls (k - 1) 0 ≡ n) × (take (k - 1) ls ≡ xs)
last_taken k n ls xs l is t =
    let wide : length (take k ls) ≡ length xs + 1 = ap length t ∙ length-append xs (n ∷ []) in
    let few : length xs < 4 = omega (arith, wide, length-take k ls) in
    let whole : ls ≡ xs ++ (n ∷ drop k ls) = sym (take-append-drop k ls) ∙ (ap (λ x. x ++ drop k ls) t ∙ append_assoc xs (n ∷ []) (drop k ls)) in
    let e : k - 1 ≡ length xs = omega arith in
    (omega arith, rw (e, whole) (get_or-append_seam xs n (drop k ls) 0), rw (e, whole) (take-append_seam xs (n ∷ drop k ls)))

-- four lengths are the first of them, filled with 0, just if 0 is all that comes behind these
filled : (k : ℕ) (ls : List ℕ) → length ls ≡ 4 → k ≤ 4 → ((i : ℕ) → k ≤ i → get_or ls i 0 ≡ 0) → four (take k ls) ≡ ls
filled k [] l h z = absurd (omega arith)
filled k (a ∷ []) l h z = absurd (omega arith)
filled k (a ∷ (b ∷ [])) l h z = absurd (omega arith)
filled k (a ∷ (b ∷ (c ∷ []))) l h z = absurd (omega arith)
filled zero (a ∷ (b ∷ (c ∷ (d ∷ [])))) l h z = let p = z 0 (omega arith) in let q = z 1 (omega arith) in let r = z 2 (omega arith) in let s = z 3 (omega arith) in cc
filled (suc zero) (a ∷ (b ∷ (c ∷ (d ∷ [])))) l h z = let q = z 1 (omega arith) in let r = z 2 (omega arith) in let s = z 3 (omega arith) in cc
filled (suc (suc zero)) (a ∷ (b ∷ (c ∷ (d ∷ [])))) l h z = let r = z 2 (omega arith) in let s = z 3 (omega arith) in cc
filled (suc (suc (suc zero))) (a ∷ (b ∷ (c ∷ (d ∷ [])))) l h z = let s = z 3 (omega arith) in cc
filled (suc (suc (suc (suc zero)))) (a ∷ (b ∷ (c ∷ (d ∷ [])))) l h z = refl
filled (suc (suc (suc (suc (suc k))))) (a ∷ (b ∷ (c ∷ (d ∷ [])))) l h z = absurd (omega arith)
filled k (a ∷ (b ∷ (c ∷ (d ∷ (e ∷ ls))))) l h z = absurd (omega arith)

pub four_of : (k : ℕ) (ls xs : List ℕ) → length ls ≡ 4 → k ≡ length xs → take k ls ≡ xs → ((i : ℕ) → k ≤ i → get_or ls i 0 ≡ 0) → four xs ≡ ls
four_of k ls xs l is t z = rw (sym t) (filled k ls l (omega (arith, ap length t, length-take k ls)) z)

-- so they are just if the others are all 0
zeros_all : (xs : List ℕ) → list_all (λ l. l == 0) xs ≡ true → (i : ℕ) → get_or xs i 0 ≡ 0
zeros_all [] h i = refl
zeros_all (x ∷ xs) h i = go (cases_Bool (x == 0)) (zeros_all xs) i
  where
    go : ((x == 0) ≡ true) ⊎ ((x == 0) ≡ false) → (list_all (λ l. l == 0) xs ≡ true → (i : ℕ) → get_or xs i 0 ≡ 0) → (i : ℕ) → get_or (x ∷ xs) i 0 ≡ 0
    go (inl t) more zero = eqb-true x 0 t
    go (inl t) more (suc i) = more (rw t at h) i
    go (inr f) more i = let no : false ≡ true = rw f at h in absurd (false≢true no)

filled_Decides : (k : ℕ) (ls : List ℕ) → length ls ≡ 4 → k ≤ 4 → Decides (list_all (λ l. l == 0) (mid_of k (4 - k) ls)) (four (take k ls) ≡ ls)
filled_Decides k [] l h = absurd (omega arith)
filled_Decides k (a ∷ []) l h = absurd (omega arith)
filled_Decides k (a ∷ (b ∷ [])) l h = absurd (omega arith)
filled_Decides k (a ∷ (b ∷ (c ∷ []))) l h = absurd (omega arith)
filled_Decides zero (a ∷ (b ∷ (c ∷ (d ∷ [])))) l h = (
  (λ t. let z = zeros_all (a ∷ (b ∷ (c ∷ (d ∷ [])))) t in let p = z 0 in let q = z 1 in let r = z 2 in let s = z 3 in cc),
  (λ e. subst (λ ls. list_all (λ l. l == 0) (mid_of 0 4 ls) ≡ true) e refl),
)
filled_Decides (suc zero) (a ∷ (b ∷ (c ∷ (d ∷ [])))) l h = (
  (λ t. let z = zeros_all (b ∷ (c ∷ (d ∷ []))) t in let p = z 0 in let q = z 1 in let r = z 2 in cc),
  (λ e. subst (λ ls. list_all (λ l. l == 0) (mid_of 1 3 ls) ≡ true) e refl),
)
filled_Decides (suc (suc zero)) (a ∷ (b ∷ (c ∷ (d ∷ [])))) l h = (
  (λ t. let z = zeros_all (c ∷ (d ∷ [])) t in let p = z 0 in let q = z 1 in cc),
  (λ e. subst (λ ls. list_all (λ l. l == 0) (mid_of 2 2 ls) ≡ true) e refl),
)
filled_Decides (suc (suc (suc zero))) (a ∷ (b ∷ (c ∷ (d ∷ [])))) l h = (
  (λ t. let z = zeros_all (d ∷ []) t in let p = z 0 in cc),
  (λ e. subst (λ ls. list_all (λ l. l == 0) (mid_of 3 1 ls) ≡ true) e refl),
)
filled_Decides (suc (suc (suc (suc zero)))) (a ∷ (b ∷ (c ∷ (d ∷ [])))) l h = ((λ t. refl), (λ e. refl))
filled_Decides (suc (suc (suc (suc (suc k))))) (a ∷ (b ∷ (c ∷ (d ∷ [])))) l h = absurd (omega arith)
filled_Decides k (a ∷ (b ∷ (c ∷ (d ∷ (e ∷ ls))))) l h = absurd (omega arith)

pub four_Decides : (k : ℕ) (ls xs : List ℕ) → length ls ≡ 4 → k ≡ length xs → take k ls ≡ xs → Decides (list_all (λ l. l == 0) (mid_of k (4 - k) ls)) (four xs ≡ ls)
four_Decides k ls xs l is t = rw (sym t) (filled_Decides k ls l (omega (arith, ap length t, length-take k ls)))
