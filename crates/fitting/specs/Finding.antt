-- What is asked of a pattern, and what a search tells that is let run to its end. Assumes nothing.
use Rattle.std.specs.Prelude.{◌≡◌, ℕ, ◌<◌, ◌≤◌, Bool, true, false, List, Some}
use Rattle.sexp.specs.Elements.{Elements, count}
use Rattle.holder.specs.Placed.{Placed, run_at, Stands}
use Rattle.holder.specs.Walks.{first_of}
use Rattle.rules.specs.declared.signs.Sign.TheVariants.{Segment}
use Rattle.rules.specs.Patterns.{Pattern, done, slot, pattern_of, names, segments}
use Rattle.rules.specs.Bindings.{Binding, lengths}
use Rattle.rules.specs.Fits.{Fit}
use Rattle.rules.specs.Keys.{four}
use Rattle.rules.specs.Signs.{Signed}
use Rattle.search.specs.Least.{OfFit}
use Rattle.search.specs.Covering.{along, Covers}
use Rattle.texts.specs.Label.{text_tree}
use Rattle.fitting.specs.declared.searching.Search.{Search}
use Rattle.fitting.specs.Trails.{bound_in}
use Rattle.fitting.specs.Searches.{TrailSound}
use Rattle.fitting.specs.Occurs.{FirstAt}
use Rattle.fitting.specs.Entries.{Entry}
use Rattle.fitting.specs.Moves.{state_of, LeadsAt, LeadsDone, Finds}

-- the pattern at a place of a book's text
abbrev pub pattern_at : List ℕ → ℕ → Pattern
pattern_at text place = pattern_of (first_of (run_at place (text_tree text)))

-- a rule's pattern stands there: its atoms have signs, it is no segment by itself, and it keeps to the limits
pub record LawfulPattern (text : List ℕ) (place : ℕ) : Type 0 where
  pub stands : Stands (run_at place (text_tree text))
  pub signed : Signed (first_of (run_at place (text_tree text)))
  pub whole : (name : List ℕ) → pattern_at text place ≡ slot Segment name done → ⊥
  pub size : count (first_of (run_at place (text_tree text))) ≤ 256
  pub few : segments (names (pattern_at text place)) ≤ 4

-- what the names stand for on the trail of a search
abbrev pub found_in : {H : Type 0} → Placed → Search H → List Binding
found_in rec s = bound_in (text_tree s.text.text.now) rec s.trail.entries

-- the bindings on its trail are a fit with these lengths; or these lengths belong to none
abbrev pub Told : {H : Type 0} → Pattern → Elements → List ℕ → (rec : Placed) → Search H → Bool → Type 0
Told p e ks rec s true = Fit p e (found_in rec s) × (four (lengths (found_in rec s)) ≡ ks)
Told p e ks rec s false = OfFit p e ks → ⊥

-- a search lays its pattern along its lengths, and tells so
pub record Tells {H : Type 0} (rec : Placed) (from to : Search H) (stands : Bool) : Type 0 where
  pub text : to.text ≡ from.text
  pub holder : to.«record» ≡ from.«record»
  pub lengths : to.lengths ≡ from.lengths
  pub sound : TrailSound rec to
  pub told : (p : Pattern) (e : Elements) → segments (names p) ≤ 4 → Covers p e (along from.lengths) (state_of rec from) → Told p e from.lengths rec to stands
  pub leads : stands ≡ true → (p : Pattern) → LeadsAt p rec from → LeadsDone p rec to

-- a search that has laid a fit of a pattern and a record with these lengths; where a name stands for some elements, its entry has the
-- place at which its first occurrence begins
pub record HasFit {H : Type 0} (p : Pattern) (e : Elements) (ks : List ℕ) (rec : Placed) (s : Search H) : Type 0 where
  pub sound : TrailSound rec s
  pub fit : Fit p e (found_in rec s)
  pub lengths_are : four (lengths (found_in rec s)) ≡ ks
  pub firsts : (name : List ℕ) (e : Entry) → Finds (text_tree s.text.text.now) rec s.trail.entries name (Some e) → 0 < e.0.length → FirstAt (found_in rec s) name p rec (run_at e.1 rec)
