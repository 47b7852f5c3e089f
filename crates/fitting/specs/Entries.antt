-- What lies on a trail. Assumes nothing.
use Rattle.std.specs.Prelude.{ℕ}
use Rattle.fitting.specs.declared.marks.Mark.{Mark}

-- a mark, with the place of the record's element
abbrev pub Entry : Type 0
Entry = Mark × ℕ
