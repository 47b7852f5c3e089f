-- What a refusal tells: its number, the part that it came from, and an offset. Assumes nothing.
use Rattle.std.specs.Prelude.{ℕ, Some, None, Option}
use Rattle.sexp.specs.declared.refusals.Refusal.{Refusal}
use Rattle.sexp.specs.declared.refusals.Refusal.TheVariants.{TextLength, Malformed, OverLimit, NotAList, UnknownSign, NameLength, WholeSegment, OtherSign, RuleLimit, UnboundName, BookFull, NoRule, NoNode, NotATable, SmallMemory, NoFit, UnknownName, ResultTooLarge, ShortOutput}
use Rattle.sexp.specs.declared.refusals.Part.{Part}
use Rattle.sexp.specs.declared.refusals.Part.TheVariants.{Text, Book, Table, Job}

abbrev pub number_of : Refusal → ℕ
number_of TextLength = 1
number_of (Malformed at) = 2
number_of (OverLimit at) = 3
number_of (NotAList at) = 4
number_of (UnknownSign at) = 5
number_of (NameLength at) = 6
number_of (WholeSegment at) = 7
number_of (OtherSign at) = 8
number_of (RuleLimit at) = 9
number_of (UnboundName at) = 10
number_of BookFull = 11
number_of NoRule = 12
number_of (NoNode at) = 13
number_of NotATable = 14
number_of SmallMemory = 15
number_of NoFit = 16
number_of UnknownName = 17
number_of ResultTooLarge = 18
number_of ShortOutput = 19

-- text for 1 to 3, book for 4 to 12, table for 13 and 14, job for the rest
abbrev pub part_of : Refusal → Part
part_of TextLength = Text
part_of (Malformed at) = Text
part_of (OverLimit at) = Text
part_of (NotAList at) = Book
part_of (UnknownSign at) = Book
part_of (NameLength at) = Book
part_of (WholeSegment at) = Book
part_of (OtherSign at) = Book
part_of (RuleLimit at) = Book
part_of (UnboundName at) = Book
part_of BookFull = Book
part_of NoRule = Book
part_of (NoNode at) = Table
part_of NotATable = Table
part_of SmallMemory = Job
part_of NoFit = Job
part_of UnknownName = Job
part_of ResultTooLarge = Job
part_of ShortOutput = Job

-- 1 to 13 tell an offset, which is 0 for 1, 11 and 12
abbrev pub offset_of : Refusal → Option ℕ
offset_of TextLength = Some 0
offset_of (Malformed at) = Some at
offset_of (OverLimit at) = Some at
offset_of (NotAList at) = Some at
offset_of (UnknownSign at) = Some at
offset_of (NameLength at) = Some at
offset_of (WholeSegment at) = Some at
offset_of (OtherSign at) = Some at
offset_of (RuleLimit at) = Some at
offset_of (UnboundName at) = Some at
offset_of BookFull = Some 0
offset_of NoRule = Some 0
offset_of (NoNode at) = Some at
offset_of NotATable = None
offset_of SmallMemory = None
offset_of NoFit = None
offset_of UnknownName = None
offset_of ResultTooLarge = None
offset_of ShortOutput = None
