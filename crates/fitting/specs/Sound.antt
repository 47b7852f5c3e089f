-- What a trail keeps to, and a search that stands somewhere. The first tree is that of the book's text, the second the record's.
-- Assumes nothing.
use Rattle.std.specs.Prelude.{◌≡◌, ◌≢◌, ℕ, suc, ◌+◌, ◌<◌, ◌≤◌, true, false, List, [], ◌∷◌, ◌++◌, length, ◌==◌, Some}
use Rattle.sexp.specs.Elements.{none, count}
use Rattle.holder.specs.Placed.{Placed, erase, run_at, behind, octets_of, Stands, IsList, IsAtom}
use Rattle.holder.specs.Walks.{first_of}
use Rattle.rules.specs.declared.signs.Sign.{Sign}
use Rattle.rules.specs.declared.signs.Sign.TheVariants.{Variable as VariableSign, Segment as SegmentSign}
use Rattle.rules.specs.Patterns.{Pattern, done, slot, pattern_of, sign_octet, firsts, names, segments}
use Rattle.rules.specs.Bindings.{Binding, binding, bound}
use Rattle.rules.specs.Goals.{Goal, goal_slots, unbound}
use Rattle.rules.specs.Signs.{Signed}
use Rattle.fitting.specs.declared.marks.Laid.{Laid}
use Rattle.fitting.specs.declared.marks.Laid.TheVariants.{List as ListLaid, Variable, Segment}
use Rattle.fitting.specs.declared.marks.Mark.{Mark}
use Rattle.fitting.specs.declared.searching.Cursor.{Cursor}
use Rattle.fitting.specs.Entries.{Entry}
use Rattle.fitting.specs.Cursors.{run_from, elements_from, Lies, Passes}
use Rattle.fitting.specs.Trails.{name_of, bound_in, goals_around}

-- the first `at` entries of a trail end with a list's; or there are none of them
abbrev pub IsListAt : ℕ → List Entry → Type 0
IsListAt at [] = at ≡ 0
IsListAt at (e ∷ trail) = elim (at == suc (length trail)) [ true ↦ e.0.laid ≡ ListLaid | false ↦ IsListAt at trail ]

-- a run begins with an atom that writes a name
pub record Named (sign : Sign) (r : Placed) : Type 0 where
  pub atom : IsAtom r
  pub writes : octets_of r ≡ sign_octet sign ∷ name_of r

-- what is bound and what is left to match have the names of a pattern with at most four segments
pub record Few (b : List Binding) (gs : List Goal) : Type 0 where
  pub pattern : Pattern
  pub few : segments (names pattern) ≤ 4
  pub named : bound b ++ unbound b (firsts (goal_slots gs)) ≡ names pattern

module _ (pat rec : Placed) where
  -- how many elements of the pattern are left behind a list, whose own list has others behind it
  abbrev pub left_behind : Entry → ℕ → ℕ
  left_behind e others = elim (e.0.around == 0) [ true ↦ 0 | false ↦ count (erase (behind (run_at e.0.pattern pat))) + others ]

  -- and behind the list that the first `at` entries of a trail end with
  abbrev pub left_around : ℕ → List Entry → ℕ
  left_around at [] = 0
  left_around at (e ∷ trail) =
      elim (at == suc (length trail)) [
        | false ↦ left_around at trail
        | true ↦ left_behind e (left_around e.0.around trail)
      ]

  -- a segment: some list is around it, what it stands for lies in the record in front of what is behind it, there is room on the trail for
  -- the elements of the pattern that are left behind it, and there are at most four segments
  pub record SegmentLaid (m : Mark) (place : ℕ) (trail : List Entry) : Type 0 where
    pub named : Named SegmentSign (run_at m.pattern pat)
    pub inside : m.around ≢ 0
    pub lies : Lies rec m.behind
    pub run : 0 < m.length → Stands (run_at place rec) × Passes rec (Some place) m.length (Some m.behind)
    pub room : suc (length trail) + (count (erase (behind (run_at m.pattern pat))) + left_around m.around trail) ≤ 256
    pub few : Few
        (bound_in pat rec trail ++ (binding SegmentSign (name_of (run_at m.pattern pat)) none ∷ []))
        ((pattern_of (erase (behind (run_at m.pattern pat))), none) ∷ goals_around pat rec m.around trail)

  -- what an entry stands for, on top of a trail
  abbrev pub IsLaid : Laid → Mark → ℕ → List Entry → Type 0
  IsLaid ListLaid m place trail = IsList (run_at m.pattern pat) × IsList (run_at place rec)
  IsLaid Variable m place trail = Named VariableSign (run_at m.pattern pat) × Stands (run_at place rec) × (m.length ≡ 1)
  IsLaid Segment m place trail = SegmentLaid m place trail

  pub record EntrySound (e : Entry) (trail : List Entry) : Type 0 where
    pub around : IsListAt e.0.around trail
    pub signed : e.0.around ≢ 0 → Signed (erase (behind (run_at e.0.pattern pat)))
    pub laid : IsLaid e.0.laid e.0 e.1 trail

  abbrev pub Sound : List Entry → Type 0
  Sound [] = Unit {0}
  Sound (e ∷ trail) = EntrySound e trail × Sound trail

  -- a search stands at the roots, the pattern's no segment, and has laid nothing
  pub record AtRoots (c : Cursor) (trail : List Entry) : Type 0 where
    pub nothing : trail ≡ []
    pub pattern : Stands (run_from pat c.pattern)
    pub element : Stands (run_from rec c.element)
    pub signed : Signed (first_of (run_from pat c.pattern))
    pub whole : (name : List ℕ) → pattern_of (first_of (run_from pat c.pattern)) ≡ slot SegmentSign name done → ⊥
    pub room : count (first_of (run_from pat c.pattern)) ≤ 256
    pub few : segments (names (pattern_of (first_of (run_from pat c.pattern)))) ≤ 4

  -- it stands in a list
  pub record AtList (c : Cursor) (trail : List Entry) : Type 0 where
    pub around : IsListAt c.around trail
    pub pattern : Lies pat c.pattern
    pub element : Lies rec c.element
    pub signed : Signed (elements_from pat c.pattern)
    pub room : length trail + (count (elements_from pat c.pattern) + left_around c.around trail) ≤ 256
    pub few : Few (bound_in pat rec trail) ((pattern_of (elements_from pat c.pattern), elements_from rec c.element) ∷ goals_around pat rec c.around trail)

  abbrev pub CursorSound : Cursor → List Entry → Type 0
  CursorSound c trail = (c.around ≡ 0 → AtRoots c trail) × (c.around ≢ 0 → AtList c trail)
