-- Names in a memory, as a list. Assumes nothing.
use Rattle.rules.specs.Patterns.{Slot}
use Rattle.books.specs.declared.names.Name.{Name}

abbrev pub slot_of : Name → Slot
slot_of n = record { sign = n.sign; name = n.octets.now }
