-- What is found of nodes, and whether they are a table. Assumes nothing.
use Rattle.std.proofs.Common.{◌≡◌, ℕ, zero, suc, Bool, true, false, ◌==◌, MatchBool, refl, sym, ◌<◌, ◌≤◌, List, length, drop, ap, subst, arith, length-drop}
use Rattle.std.proofs.lemmas.Bool.{eqb-true, eqb-false}
use Rattle.sexp.specs.Elements.{Elements, none, atom, list, ◌then◌, count}
use Rattle.sexp.proofs.Runs.{count-then}
use Rattle.tables.specs.declared.nodes.Node.{Node}
use Rattle.tables.specs.Nodes.{IsTable}
use Rattle.tables.specs.Begins.{One}
use Rattle.tables.specs.Checks.{Fits, FitsBefore, NoneFits}
use Rattle.tables.specs.Unique.{lays_count, begins_count, onward, table_single, single_table}

module _ (o : List ℕ) (ns : List Node) where
  -- nodes of one element within the levels, and no more than 4,096 of them
  table_whole : (rest : List Node) → FitsBefore o 32 ns rest → length rest ≡ 0 → length ns ≤ 4096 → IsTable o ns
  table_whole rest f done few =
      let all : count f.first ≡ length ns = omega (arith, begins_count o f.first ns f.fits.begins, ap length f.behind, length-drop (count f.first) ns) in
      record {
        elements = f.first;
        table = single_table o ns f.first (record { begins = f.fits.begins; all = all; one = f.fits.one; within = record { few = omega arith; shallow = f.fits.shallow; short = f.fits.short } });
      }

  table_fits : (t : IsTable o ns) → Fits o 32 ns t.elements
  table_fits t =
      let s = table_single o ns t.elements t.table in
      record { begins = s.begins; one = s.one; shallow = s.within.shallow; short = s.within.short }

  pub table_none : NoneFits o 32 ns → IsTable o ns → ⊥
  table_none n t = n t.elements (table_fits t)

  pub table_few : 4096 < length ns → IsTable o ns → ⊥
  table_few l t = omega (arith, lays_count t.table.lays, t.table.within.few)

  -- two elements in one run
  one_more : (e more : Elements) → One e → One (e then more) → count more ≡ 0
  one_more none more h k = absurd h
  one_more (atom a es) more h k = omega (arith, count-then es more)
  one_more (list inner es) more h k = omega (arith, count-then es more)

  table_more : (rest : List Node) → FitsBefore o 32 ns rest → 0 < length rest → IsTable o ns → ⊥
  table_more rest f some t =
      let s = table_single o ns t.elements t.table in
      let left : length rest ≡ length (drop (count f.first) ns) = ap length f.behind in
      let on = onward o f.first t.elements ns f.fits.begins s.begins (omega (arith, s.all, length-drop (count f.first) ns)) in
      let no_more : count on.more ≡ 0 = one_more f.first on.more f.fits.one (subst One on.is s.one) in
      omega (arith, s.all, ap count on.is, count-then f.first on.more, length-drop (count f.first) ns)

  -- nodes that begin with one element within the levels are its table exactly when none are left
  pub table_tested : (rest : List Node) (b : Bool) → FitsBefore o 32 ns rest → length ns ≤ 4096 → b ≡ (length rest == 0) → MatchBool b (IsTable o ns) (IsTable o ns → ⊥)
  table_tested rest true f few e = table_whole rest f (eqb-true (length rest) 0 (sym e)) few
  table_tested rest false f few e = table_more rest f (above (length rest) (eqb-false (length rest) 0 (sym e)))
    where
      above : (n : ℕ) → (n ≡ 0 → ⊥) → 0 < n
      above zero h = absurd (h refl)
      above (suc n) h = omega arith

pub ruleset tabled = (table_tested, table_none, table_few)
