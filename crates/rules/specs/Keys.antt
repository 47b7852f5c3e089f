-- The keys of fits, and their order. Assumes nothing.
use Rattle.std.specs.Prelude.{ℕ, ◌<◌, List, [], ◌∷◌, ◌++◌, take}
use Rattle.rules.specs.Bindings.{lengths}
use Rattle.rules.specs.Fits.{Numbered}

-- a rule's number and four lengths
pub record Key : Type 0 where
  pub rule : ℕ
  pub lengths : List ℕ

-- then 0 where there are fewer than four
abbrev pub four : List ℕ → List ℕ
four ls = take 4 (ls ++ (0 ∷ (0 ∷ (0 ∷ (0 ∷ [])))))

abbrev pub key : Numbered → Key
key f = record { rule = f.rule; lengths = four (lengths f.bindings) }

-- the first length that differs is smaller
pub data Smaller : List ℕ → List ℕ → Type 0 where
  here : {m n : ℕ} {ms ns : List ℕ} → m < n → Smaller (m ∷ ms) (n ∷ ns)
  later : {n : ℕ} {ms ns : List ℕ} → Smaller ms ns → Smaller (n ∷ ms) (n ∷ ns)

-- a key comes before another: its rule's number is smaller, or they are of one rule and its lengths are smaller
pub data Before : Key → Key → Type 0 where
  by_rule : {m n : ℕ} {ms ns : List ℕ} → m < n → Before (record { rule = m; lengths = ms }) (record { rule = n; lengths = ns })
  by_lengths : {n : ℕ} {ms ns : List ℕ} → Smaller ms ns → Before (record { rule = n; lengths = ms }) (record { rule = n; lengths = ns })
