-- Where the first occurrences of a pattern's names lie while it is laid: of those laid, and of those to come. The first tree is that of
-- the book's text, the second the record's. Assumes nothing.
use Rattle.std.specs.Prelude.{◌≡◌, ℕ, suc, ◌<◌, true, false, ◌⊎◌, List, [], ◌∷◌, length, ◌==◌}
use Rattle.holder.specs.Placed.{Placed, run_at, behind}
use Rattle.holder.specs.Walks.{first_of}
use Rattle.rules.specs.Complete.{In}
use Rattle.rules.specs.Patterns.{Pattern, done, pattern_of}
use Rattle.rules.specs.Bindings.{Binding}
use Rattle.rules.specs.Goals.{Goal, is_bound, Completes}
use Rattle.fitting.specs.declared.searching.Cursor.{Cursor}
use Rattle.fitting.specs.Entries.{Entry}
use Rattle.fitting.specs.Occurs.{Occurs, FirstAt}
use Rattle.fitting.specs.Cursors.{run_from, elements_from}
use Rattle.fitting.specs.Trails.{is_marked, pattern_behind, bound_in}

-- the rest of a pattern, and the run of the record along which it is to be laid
abbrev pub PlacedGoal : Type 0
PlacedGoal = Pattern × Placed

-- a name is one of the goals', and x is the run that begins where its first occurrence in them does
abbrev pub FirstIn : List Binding → List ℕ → List PlacedGoal → Placed → Type 0
FirstIn m name [] x = ⊥
FirstIn m name (g ∷ gs) x = FirstAt m name g.0 g.1 x ⊎ ((Occurs name g.0 → ⊥) × FirstIn m name gs x)

module _ (pat rec : Placed) where
  -- the goals behind a list, whose own list has others behind it; behind a root there is nothing
  abbrev pub placed_behind : Entry → List PlacedGoal → List PlacedGoal
  placed_behind e others =
      elim (e.0.around == 0) [
        | true ↦ (done, behind (run_at e.1 rec)) ∷ []
        | false ↦ (pattern_behind pat rec e, behind (run_at e.1 rec)) ∷ others
      ]

  -- the goals behind the list that the first `at` entries of a trail end with
  abbrev pub placed_around : ℕ → List Entry → List PlacedGoal
  placed_around at [] = []
  placed_around at (e ∷ trail) =
      elim (at == suc (length trail)) [
        | false ↦ placed_around at trail
        | true ↦ placed_behind e (placed_around e.0.around trail)
      ]

  -- the goals at a cursor
  abbrev pub placed_at : Cursor → List Entry → List PlacedGoal
  placed_at c trail =
      elim (c.around == 0) [
        | true ↦ (pattern_of (first_of (run_from pat c.pattern)), run_from rec c.element) ∷ []
        | false ↦ (pattern_of (elements_from pat c.pattern), run_from rec c.element) ∷ placed_around c.around trail
      ]

  -- whatever bindings complete those on a trail for the goals: where the pattern p is filled from them, each name that has elements on the
  -- trail occurs first at its entry's place, and each that is not on the trail occurs first where it does in the goals
  pub record Leads (p : Pattern) (trail : List Entry) (goals : List Goal) (placed : List PlacedGoal) : Type 0 where
    pub laid : (m : List Binding) (name : List ℕ) (e : Entry) → Completes (bound_in pat rec trail) goals m → In e trail → is_marked pat e.0 name ≡ true → 0 < e.0.length
        → FirstAt m name p rec (run_at e.1 rec)
    pub ahead : (m : List Binding) (name : List ℕ) (x : Placed) → Completes (bound_in pat rec trail) goals m → is_bound name (bound_in pat rec trail) ≡ false → FirstIn m name placed x
        → FirstAt m name p rec x
