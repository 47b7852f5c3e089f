-- What putting an entry on a stack does, and taking one off. Assumes nothing.
use Rattle.std.specs.Prelude.{◌≡◌, ◌<◌, ◌≤◌, [], ◌∷◌, length, Ok, Err, Result, Option, Some, None}
use Rattle.fitting.specs.declared.stacks.Full.{Full}
use Rattle.fitting.specs.Stacked.{Stacked}

-- an entry is put on where there is room; otherwise the stack stays as it is
abbrev pub Pushes : {T : Type 0} → Stacked T → T → Stacked T → Result (Unit {0}) Full → Type 0
Pushes from entry to (Ok done) = (length from.entries < from.room) × (to ≡ record { entries = entry ∷ from.entries; room = from.room })
Pushes from entry to (Err full) = (from.room ≤ length from.entries) × (to ≡ from)

-- the last entry is taken off; an empty stack stays as it is
abbrev pub Pops : {T : Type 0} → Stacked T → Stacked T → Option T → Type 0
Pops from to (Some entry) = from ≡ record { entries = entry ∷ to.entries; room = to.room }
Pops from to None = (from.entries ≡ []) × (to ≡ from)
