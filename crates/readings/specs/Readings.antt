-- What a run of readings means, and what filling a record with readings does. Assumes nothing.
use Rattle.std.specs.Prelude.{◌≡◌, ◌<◌, ◌≤◌, List, length, ℤ, Ok, Err, Result}
use Rattle.sexp.specs.declared.refusals.Refusal.{Refusal}
use Rattle.sexp.specs.declared.refusals.Refusal.TheVariants.{OverLimit}
use Rattle.holder.specs.Placed.{Meaning}
use Rattle.readings.specs.Tables.{table}
use Rattle.readings.specs.Lawful.{lawful}

abbrev pub readings : (zs : List ℤ) → length zs ≤ 4095 → Meaning
readings zs few = record { tree = table zs; lawful = lawful zs few }

-- at most 4,095 readings are taken in place of the old ones; more are refused, and the old ones stay
pub record Fills (given old new : List ℤ) (r : Result (Unit {0}) Refusal) : Type 0 where
  pub taken : length given ≤ 4095 → (r ≡ Ok tt) × (new ≡ given)
  pub refused : 4095 < length given → (r ≡ Err (OverLimit 0)) × (new ≡ old)
