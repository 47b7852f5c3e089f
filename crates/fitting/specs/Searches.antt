-- A search that is under way. Assumes nothing.
use Rattle.std.specs.Prelude.{◌≡◌, ℕ, ◌≤◌, length, take, Some}
use Rattle.holder.specs.Placed.{Placed, front}
use Rattle.rules.specs.Bindings.{lengths}
use Rattle.texts.specs.Label.{text_tree}
use Rattle.fitting.specs.declared.searching.Search.{Search}
use Rattle.fitting.specs.Entries.{Entry}
use Rattle.fitting.specs.Sound.{Sound, EntrySound, CursorSound}
use Rattle.fitting.specs.Trails.{bound_in}

-- its trail, and how it goes with the lengths: those of the segments laid come first
pub record TrailSound {H : Type 0} (rec : Placed) (s : Search H) : Type 0 where
  pub sound : Sound (text_tree s.text.text.now) rec s.trail.entries
  pub room : 256 ≤ s.trail.room
  pub four : length s.lengths ≡ 4
  pub segments : s.segments ≡ length (lengths (bound_in (text_tree s.text.text.now) rec s.trail.entries))
  pub agree : take s.segments s.lengths ≡ lengths (bound_in (text_tree s.text.text.now) rec s.trail.entries)

-- its cursor keeps to what is said of one
abbrev pub CursorStands : {H : Type 0} → (rec : Placed) → (s : Search H) → Type 0
CursorStands rec s = CursorSound (text_tree s.text.text.now) rec s.cursor s.trail.entries

-- an entry keeps to what is said of one on top of its trail
abbrev pub IsEntry : {H : Type 0} → (rec : Placed) → (s : Search H) → Entry → Type 0
IsEntry rec s e = EntrySound (text_tree s.text.text.now) rec e s.trail.entries

-- it has laid nothing yet, and stands at the roots
pub record Begins {H : Type 0} (rec : Placed) (place : ℕ) (s : Search H) : Type 0 where
  pub cursor : s.cursor ≡ record { pattern = Some place; element = front rec; around = 0 }
  pub segments : s.segments ≡ 0
