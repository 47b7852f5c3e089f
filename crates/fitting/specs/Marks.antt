-- A mark that nothing is written in yet. Assumes nothing.
use Rattle.std.specs.Prelude.{None}
use Rattle.fitting.specs.declared.marks.Laid.TheVariants.{List}
use Rattle.fitting.specs.declared.marks.Mark.{Mark}

abbrev pub unused : Mark
unused = record { laid = List; pattern = 0; around = 0; length = 0; behind = None }
