-- What a trail stands for: what is bound, what is left to match, and the choice points. The first tree is that of the book's text, the
-- second the record's. Assumes nothing.
use Rattle.std.specs.Prelude.{ℕ, suc, Bool, true, false, List, [], ◌∷◌, ◌++◌, length, drop, ◌==◌, Some}
use Rattle.std.specs.Str.{bytes_eq}
use Rattle.sexp.specs.Elements.{Elements, none}
use Rattle.holder.specs.Placed.{Placed, erase, run_at, behind, octets_of}
use Rattle.holder.specs.Walks.{first_of}
use Rattle.rules.specs.declared.signs.Sign.TheVariants.{Variable as VariableSign, Segment as SegmentSign}
use Rattle.rules.specs.Patterns.{Pattern, done, pattern_of}
use Rattle.rules.specs.Bindings.{Binding, binding}
use Rattle.rules.specs.Goals.{Goal}
use Rattle.search.specs.States.{Choice, State}
use Rattle.fitting.specs.declared.marks.Laid.TheVariants.{List as ListLaid, Variable, Segment}
use Rattle.fitting.specs.declared.marks.Mark.{Mark}
use Rattle.fitting.specs.declared.searching.Cursor.{Cursor}
use Rattle.fitting.specs.Entries.{Entry}
use Rattle.fitting.specs.Cursors.{run_from, elements_from, front}

-- the name that the first element of a run writes
abbrev pub name_of : Placed → List ℕ
name_of r = drop 1 (octets_of r)

-- whether a mark is of this name
abbrev pub is_marked : Placed → Mark → List ℕ → Bool
is_marked pat m name = elim m.laid [ ListLaid ↦ false | Variable ↦ bytes_eq name (name_of (run_at m.pattern pat)) | Segment ↦ bytes_eq name (name_of (run_at m.pattern pat)) ]

module _ (pat rec : Placed) where
  -- the name of an entry, and the elements that it stands for
  abbrev pub name_at : Entry → List ℕ
  name_at e = name_of (run_at e.0.pattern pat)

  abbrev pub laid_at : Entry → Elements
  laid_at e = front e.0.length (elements_from rec (Some e.1))

  -- the pattern behind an entry, in its list
  abbrev pub pattern_behind : Entry → Pattern
  pattern_behind e = pattern_of (erase (behind (run_at e.0.pattern pat)))

  -- what is bound
  abbrev pub bound_in : List Entry → List Binding
  bound_in [] = []
  bound_in (e ∷ trail) =
      elim e.0.laid [
        | ListLaid ↦ bound_in trail
        | Variable ↦ bound_in trail ++ (binding VariableSign (name_at e) (laid_at e) ∷ [])
        | Segment ↦ bound_in trail ++ (binding SegmentSign (name_at e) (laid_at e) ∷ [])
      ]

  -- the goals behind a list, whose own list has others behind it; behind a root there is nothing
  abbrev pub goals_behind : Entry → List Goal → List Goal
  goals_behind e others =
      elim (e.0.around == 0) [
        | true ↦ (done, none) ∷ []
        | false ↦ (pattern_behind e, erase (behind (run_at e.1 rec))) ∷ others
      ]

  -- the goals behind the list that the first `at` entries of a trail end with
  abbrev pub goals_around : ℕ → List Entry → List Goal
  goals_around at [] = []
  goals_around at (e ∷ trail) =
      elim (at == suc (length trail)) [
        | false ↦ goals_around at trail
        | true ↦ goals_behind e (goals_around e.0.around trail)
      ]

  -- the goals at a cursor: in a list that is open what is left of it, and behind it; at the root the root
  abbrev pub goals_at : Cursor → List Entry → List Goal
  goals_at c trail =
      elim (c.around == 0) [
        | true ↦ (pattern_of (first_of (run_from pat c.pattern)), first_of (run_from rec c.element)) ∷ []
        | false ↦ (pattern_of (elements_from pat c.pattern), elements_from rec c.element) ∷ goals_around c.around trail
      ]

  -- the choice points
  abbrev pub choices_in : List Entry → List Choice
  choices_in [] = []
  choices_in (e ∷ trail) =
      elim e.0.laid [
        | ListLaid ↦ choices_in trail
        | Variable ↦ choices_in trail
        | Segment ↦ record {
          bound = bound_in trail;
          name = name_at e;
          run = laid_at e;
          pattern = pattern_behind e;
          left = elements_from rec e.0.behind;
          goals = goals_around e.0.around trail;
        } ∷ choices_in trail
      ]

  -- the state of a search
  abbrev pub state_at : Cursor → List Entry → State
  state_at c trail = record { bound = bound_in trail; goals = goals_at c trail; choices = choices_in trail }

  -- the state where all of the pattern is laid
  abbrev pub state_done : List Entry → State
  state_done trail = record { bound = bound_in trail; goals = []; choices = choices_in trail }
