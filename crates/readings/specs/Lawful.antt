-- At most 4,095 readings make a record within the limits, and no two elements share a place. Assumes nothing.
use Rattle.std.specs.Prelude.{◌≡◌, ℕ, ◌+◌, ◌<◌, ◌≤◌, List, [], ◌∷◌, ◌++◌, length, ℤ, refl}
use Rattle.std.proofs.Common.{arith}
use Rattle.decimal.proofs.Lengths.{length_signed_ever}
use Rattle.sexp.specs.Elements.{count, depth, ShortAtoms}
use Rattle.holder.specs.Placed.{erase, places, Absent, Apart, Lawful}
use Rattle.readings.specs.Tables.{row, table}

count-row : (p : ℕ) (zs : List ℤ) → count (erase (row p zs)) ≡ length zs
count-row p [] = refl
count-row p (z ∷ zs) = omega (arith, count-row (p + 1) zs)

depth_row : (p : ℕ) (zs : List ℤ) → depth (erase (row p zs)) ≤ 1
depth_row p [] = omega arith
depth_row p (z ∷ zs) = omega (arith, depth_row (p + 1) zs)

short_row : (p : ℕ) (zs : List ℤ) → ShortAtoms (erase (row p zs))
short_row p [] = tt
short_row p (z ∷ zs) = (omega (arith, length_signed_ever z), short_row (p + 1) zs)

-- a place in front of a row is none of its places
absent_row : (q p : ℕ) (zs : List ℤ) → q < p → Absent q (places (row p zs) ++ [])
absent_row q p [] h = tt
absent_row q p (z ∷ zs) h = (λ e. absurd (omega arith), absent_row q (p + 1) zs (omega arith))

apart_row : (p : ℕ) (zs : List ℤ) → Apart (places (row p zs) ++ [])
apart_row p [] = tt
apart_row p (z ∷ zs) = (absent_row p (p + 1) zs (omega arith), apart_row (p + 1) zs)

pub lawful : (zs : List ℤ) → length zs ≤ 4095 → Lawful (table zs)
lawful zs few =
    record {
      root = refl;
      within = record { few = omega (arith, count-row 1 zs); shallow = omega (arith, depth_row 1 zs); short = (short_row 1 zs, tt) };
      apart = (absent_row 0 1 zs (omega arith), apart_row 1 zs);
    }
