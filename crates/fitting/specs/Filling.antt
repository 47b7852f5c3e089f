-- A template filled from what lies on a trail. Assumes nothing.
use Rattle.std.specs.Prelude.{◌≡◌, ℕ, ◌≤◌, true, List, length}
use Rattle.sexp.specs.Elements.{Elements}
use Rattle.holder.specs.Placed.{Placed, run_at, Stands}
use Rattle.holder.specs.Walks.{first_of}
use Rattle.rules.specs.Complete.{In}
use Rattle.rules.specs.Patterns.{Pattern, done, read_atom, Slot, slots}
use Rattle.rules.specs.Bindings.{Binding, fill}
use Rattle.rules.specs.Goals.{is_bound}
use Rattle.rules.specs.Signs.{HasSign, Signed}
use Rattle.texts.specs.Label.{text_tree}
use Rattle.fitting.specs.declared.searching.Search.{Search}
use Rattle.fitting.specs.Finding.{pattern_at, found_in}
use Rattle.fitting.specs.Sound.{Sound}

-- every name of a pattern is bound
abbrev pub AllBound : List Binding → Pattern → Type 0
AllBound m p = (s : Slot) → In s (slots p) → is_bound s.name m ≡ true

-- what an atom of these octets gives
abbrev pub filled_atom : {H : Type 0} → Placed → Search H → List ℕ → Elements
filled_atom rec s os = fill (found_in rec s) (read_atom os done)

-- what the element of the book's text at a place gives
abbrev pub filled_at : {H : Type 0} → Placed → Search H → ℕ → Elements
filled_at rec s place = fill (found_in rec s) (pattern_at s.text.text.now place)

-- an atom of these octets can be filled
pub record FillsAtom {H : Type 0} (rec : Placed) (s : Search H) (os : List ℕ) : Type 0 where
  pub sound : Sound (text_tree s.text.text.now) rec s.trail.entries
  pub signed : HasSign os
  pub short : length os ≤ 1024
  pub bound : AllBound (found_in rec s) (read_atom os done)

-- the element at a place can be
pub record HoldsFor {H : Type 0} (rec : Placed) (s : Search H) (place : ℕ) : Type 0 where
  pub sound : Sound (text_tree s.text.text.now) rec s.trail.entries
  pub stands : Stands (run_at place (text_tree s.text.text.now))
  pub signed : Signed (first_of (run_at place (text_tree s.text.text.now)))
  pub bound : AllBound (found_in rec s) (pattern_at s.text.text.now place)
