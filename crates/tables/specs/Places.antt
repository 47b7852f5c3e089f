-- A place of a table's element as a number. Assumes nothing.
use Rattle.std.specs.Prelude.{ℕ, ◌+◌, ◌*◌, ◌/◌, ◌%◌}
use Rattle.tables.specs.declared.places.Place.{Place}

-- the number of the place that holds these two
abbrev pub number : (index end : ℕ) → ℕ
number index end = 65536 * end + index

-- the place that a number stands for
abbrev pub place_of : ℕ → Place
place_of n = record { index = n % 65536; end = n / 65536 }
