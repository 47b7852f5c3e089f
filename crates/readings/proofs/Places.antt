-- What stands at each place of a run of readings. Assumes nothing.
use Rattle.std.proofs.Common.{rules, ◌≡◌, ℕ, zero, suc, ◌+◌, ◌-◌, ◌<◌, ◌≤◌, nat_eq, nat_lt, not, eqb, List, [], ◌∷◌, length, get_or, drop, ℤ, pos, negsuc, nat_abs, ◌≤ℤ◌, ◌<ℤ◌, Some, None, sym, refl, ap, ◌∙◌, subst, ⊎_elim, arith, w32, SFits, to_z, of_z}
use Rattle.std.specs.Bool.{then_some}
use Rattle.std.specs.Fmt.{signed_decimal}
use Rattle.std.proofs.lemmas.List.{length-drop, get_or-drop}
use Rattle.std.proofs.lemmas.Fmt.{decimal_digit}
use Rattle.std.proofs.lemmas.Int.{to_z-of_z}
use Rattle.std.proofs.lemmas.Bool.{eq-eqb, ne_eqb, cases_lt, cond-false, lt-ltb, le-ltb}
use Rattle.holder.specs.declared.kinds.Kind.TheVariants.{Atom as AtomKind}
use Rattle.holder.specs.Placed.{Placed, nothing, atom_at, list_at, run_at, ◌or_else◌, front, inside, behind, octets_of, kind_of, Stands, IsList, IsAtom}
use Rattle.readings.specs.Tables.{row, table}

-- from a place of a row on, the readings from there on
row_at : (i p : ℕ) (zs : List ℤ) → run_at (p + i) (row p zs) ≡ row (p + i) (drop i zs)
row_at zero p [] = refl
row_at (suc i) p [] = refl
row_at zero p (z ∷ zs) =
    let e : p + 0 ≡ p = omega arith in
    rw (eq-eqb (p + 0) p e, e) refl
row_at (suc i) p (z ∷ zs) =
    let e : p + suc i ≡ (p + 1) + i = omega arith in
    cond-false (eqb (p + suc i) p) (row p (z ∷ zs)) (run_at (p + suc i) (row (p + 1) zs)) (ne_eqb (p + suc i) p (λ (q : p + suc i ≡ p). absurd (omega arith))) ∙ rw e (row_at i (p + 1) zs)

or_nothing : (es : Placed) → es or_else nothing ≡ es
or_nothing nothing = refl
or_nothing (atom_at p a es) = refl
or_nothing (list_at p inner es) = refl

table_at : (p : ℕ) (zs : List ℤ) → 0 < p → run_at p (table zs) ≡ row p (drop (p - 1) zs)
table_at p zs h =
    let e : 1 + (p - 1) ≡ p = omega arith in
    let at : run_at p (row 1 zs) ≡ row p (drop (p - 1) zs) = rw e at (row_at (p - 1) 1 zs) in
    rw (ne_eqb p 0 (λ (q : p ≡ 0). absurd (omega arith)), at) (or_nothing (row p (drop (p - 1) zs)))

-- an atom stands at the place of a reading
pub record Reading (p : ℕ) (zs : List ℤ) : Type 0 where
  pub behind_root : 0 < p
  pub inside : p - 1 < length zs
  pub octets : octets_of (run_at p (table zs)) ≡ signed_decimal (get_or zs (p - 1) (pos 0))

-- what stands at the front of a row
row_first : (zs : List ℤ) → then_some (not (nat_eq (length zs) 0)) 1 ≡ front (row 1 zs)
row_first [] = refl
row_first (z ∷ zs) = rw (ne_eqb (suc (length zs)) 0 (λ e. absurd (omega arith))) refl

module _ (p : ℕ) where
  row_kind : (zs : List ℤ) → Stands (row p zs) → AtomKind ≡ kind_of (row p zs)
  row_kind [] s = absurd s
  row_kind (z ∷ zs) s = refl

  row_stands : (zs : List ℤ) → Stands (row p zs) → 0 < length zs
  row_stands [] s = absurd s
  row_stands (z ∷ zs) s = omega arith

  row_next : (zs : List ℤ) → 1 < length zs → Some (p + 1) ≡ front (behind (row p zs))
  row_next [] h = absurd (omega arith)
  row_next (z ∷ []) h = absurd (omega arith)
  row_next (z ∷ (y ∷ zs)) h = refl

  row_last : (zs : List ℤ) → length zs ≤ 1 → None ≡ front (behind (row p zs))
  row_last [] h = refl
  row_last (z ∷ []) h = refl
  row_last (z ∷ (y ∷ zs)) h = absurd (omega arith)

  row_no_list : (zs : List ℤ) → IsList (row p zs) → ⊥
  row_no_list [] s = s
  row_no_list (z ∷ zs) s = s

  row_some : (zs : List ℤ) → IsAtom (row p zs) → 0 < length zs
  row_some [] s = absurd s
  row_some (z ∷ zs) s = omega arith

  row_octets : (zs : List ℤ) → 0 < length zs → octets_of (row p zs) ≡ signed_decimal (get_or zs 0 (pos 0))
  row_octets [] h = absurd (omega arith)
  row_octets (z ∷ zs) h = refl

-- a number of one digit
pub one_digit : (z : ℤ) → pos 0 ≤ℤ z → z <ℤ pos 10 → signed_decimal z ≡ (48 + nat_abs z) ∷ []
one_digit (pos n) h k = decimal_digit n (search rules)
one_digit (negsuc n) h k = search rules

-- what the answers are, at a place of a table
module _ (p : ℕ) (zs : List ℤ) where
  pub kind_reading : 0 < p → Stands (run_at p (table zs)) → AtomKind ≡ kind_of (run_at p (table zs))
  kind_reading h s = rw (table_at p zs h) (row_kind p (drop (p - 1) zs) (subst Stands (table_at p zs h) s))

  -- the next reading, where the place is not the last one's
  pub next_reading : 0 < p → then_some (nat_lt p (length zs)) (p + 1) ≡ front (behind (run_at p (table zs)))
  next_reading h = rw (table_at p zs h) (⊎_elim more last (cases_lt p (length zs)))
    where
      more : p < length zs → then_some (nat_lt p (length zs)) (p + 1) ≡ front (behind (row p (drop (p - 1) zs)))
      more l = rw (lt-ltb p (length zs) l) (row_next p (drop (p - 1) zs) (omega (arith, length-drop (p - 1) zs)))

      last : length zs ≤ p → then_some (nat_lt p (length zs)) (p + 1) ≡ front (behind (row p (drop (p - 1) zs)))
      last l = rw (le-ltb p (length zs) l) (row_last p (drop (p - 1) zs) (omega (arith, length-drop (p - 1) zs)))

  -- a place behind the root's is that of one of the readings
  pub reading_stands : 0 < p → Stands (run_at p (table zs)) → p ≤ length zs
  reading_stands h s = omega (arith, row_stands p (drop (p - 1) zs) (subst Stands (table_at p zs h) s), length-drop (p - 1) zs)

  -- a list is the table itself
  pub first_reading : IsList (run_at p (table zs)) → then_some (not (nat_eq (length zs) 0)) 1 ≡ front (inside (run_at p (table zs)))
  first_reading s = ⊎_elim (λ (h : 0 < p). absurd (row_no_list p (drop (p - 1) zs) (subst IsList (table_at p zs h) s))) root (cases_lt 0 p)
    where
      root : p ≤ 0 → then_some (not (nat_eq (length zs) 0)) 1 ≡ front (inside (run_at p (table zs)))
      root h =
          let e : p ≡ 0 = omega arith in
          rw e (row_first zs)

  -- an atom is a reading
  pub atom_at_reading : IsAtom (run_at p (table zs)) → Reading p zs
  atom_at_reading s = ⊎_elim reading (λ (h : p ≤ 0). absurd (no_atom (omega arith))) (cases_lt 0 p)
    where
      no_atom : p ≡ 0 → ⊥
      no_atom e = rw e at s

      reading : 0 < p → Reading p zs
      reading h =
          let some = row_some p (drop (p - 1) zs) (subst IsAtom (table_at p zs h) s) in
          record {
            behind_root = h;
            inside = omega (arith, length-drop (p - 1) zs);
            octets = ap octets_of (table_at p zs h) ∙ (row_octets p (drop (p - 1) zs) some ∙ ap signed_decimal (get_or-drop (p - 1) zs 0 (pos 0) ∙ ap (λ k. get_or zs k (pos 0)) (omega arith)));
          }

  -- its octets, from the reading's bits
  pub written : IsAtom (run_at p (table zs)) → SFits w32 (get_or zs (p - 1) (pos 0)) → octets_of (run_at p (table zs)) ≡ signed_decimal (to_z w32 (of_z w32 (get_or zs (p - 1) (pos 0))))
  written s fits = (atom_at_reading s).octets ∙ ap signed_decimal (sym (to_z-of_z w32 (get_or zs (p - 1) (pos 0)) fits))
