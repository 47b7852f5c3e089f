-- Texts that are refused, and books and records with their complete lists of fits. Assumes nothing.
use Rattle.std.specs.Prelude.{◌≡◌, ℕ, List, [], ◌∷◌, length, ℤ, pos, codes}
use Rattle.sexp.specs.declared.refusals.Refusal.{Refusal}
use Rattle.sexp.specs.declared.refusals.Refusal.TheVariants.{Malformed}
use Rattle.sexp.specs.Elements.{Elements, octets, none, atom, list, ◌then◌}
use Rattle.sexp.specs.Text.{text}
use Rattle.sexp.specs.Reading.{verdict, accepted, rejected}
use Rattle.holder.specs.Placed.{erase}
use Rattle.readings.specs.Tables.{table}
use Rattle.rules.specs.declared.signs.Sign.TheVariants.{Variable, Segment}
use Rattle.rules.specs.Patterns.{Rule, rules_of, book_written}
use Rattle.rules.specs.Bindings.{Binding, binding, fill}
use Rattle.rules.specs.Fits.{IsRule, Numbered}
use Rattle.rules.specs.Complete.{Complete}

-- one fit: the rule's number, the bindings, the text that the rule's template gives from them, and how many octets that text has
pub record Shown : Type 0 where
  pub rule : ℕ
  pub bindings : List Binding
  pub writes : List ℕ
  pub size : ℕ

-- a record: of a text, or of readings
pub data Source : Type 0 where
  read : (text : List ℕ) → Source
  measured : (readings : List ℤ) → Source

-- the text of a book, a record, and the fits of the two, in order
pub record Tried : Type 0 where
  pub book : List ℕ
  pub on : Source
  pub fits : List Shown

pub data Case : Type 0 where
  refused : (text : List ℕ) → Refusal → Case
  tried : Tried → Case

-- the elements of a record
abbrev pub IsOf : Source → Elements → Type 0
IsOf (read t) e = verdict t ≡ accepted e
IsOf (measured zs) e = erase (table zs) ≡ e

abbrev pub numbered : List Shown → List Numbered
numbered [] = []
numbered (s ∷ rest) = record { rule = s.rule; bindings = s.bindings } ∷ numbered rest

-- each fit's rule, filled, has the text that is shown
abbrev pub Writes : List Rule → List Shown → Type 0
Writes book [] = Unit {0}
Writes book (s ∷ rest) = ((r : Rule) × IsRule book s.rule r × (text (fill s.bindings r.template) ≡ s.writes) × (length s.writes ≡ s.size)) × Writes book rest

-- the book's text is accepted, and its elements are rules and nothing else; and the fits are the complete list, and write what is shown
pub record Holds (t : Tried) : Type 0 where
  pub elements : Elements
  pub accepts : verdict t.book ≡ accepted elements
  pub all_rules : elements ≡ book_written (rules_of elements)
  pub given : Elements
  pub is_given : IsOf t.on given
  pub complete : Complete (rules_of elements) given (numbered t.fits)
  pub writes : Writes (rules_of elements) t.fits

abbrev pub CaseHolds : Case → Type 0
CaseHolds (refused t r) = verdict t ≡ rejected r
CaseHolds (tried t) = Holds t

abbrev pub AllHold : List Case → Type 0
AllHold [] = Unit {0}
AllHold (c ∷ cs) = CaseHolds c × AllHold cs

-- the run of one atom
abbrev pub word : List ℕ → Elements
word os = atom (octets os) none

-- a constant between two segments: a fit for each place where it stands with an element behind it
abbrev pub constant_between_segments : Tried
constant_between_segments = record {
  book = codes "(((2:!a2:'t2::v2:!b)(5:'temp2::v2:!a2:!b)))";
  on = read (codes "(1:t1:t1:5)");
  fits =
      record { rule = 1; bindings = binding Segment (codes "a") none ∷ binding Variable (codes "v") (word (codes "t")) ∷ binding Segment (codes "b") (word (codes "5")) ∷ []; writes = codes "(4:temp1:t1:5)"; size = 14 }
      ∷ record { rule = 1; bindings = binding Segment (codes "a") (word (codes "t")) ∷ binding Variable (codes "v") (word (codes "5")) ∷ binding Segment (codes "b") none ∷ []; writes = codes "(4:temp1:51:t)"; size = 14 }
      ∷ [];
}

-- two segments: a fit for each place where the one can end, the shortest first
abbrev pub two_segments : Tried
two_segments = record {
  book = codes "(((2:!x2:!y)(2:!x2:!y)))";
  on = read (codes "(1:a1:b)");
  fits =
      record { rule = 1; bindings = binding Segment (codes "x") none ∷ binding Segment (codes "y") (word (codes "a") then word (codes "b")) ∷ []; writes = codes "(1:a1:b)"; size = 8 }
      ∷ record { rule = 1; bindings = binding Segment (codes "x") (word (codes "a")) ∷ binding Segment (codes "y") (word (codes "b")) ∷ []; writes = codes "(1:a1:b)"; size = 8 }
      ∷ record { rule = 1; bindings = binding Segment (codes "x") (word (codes "a") then word (codes "b")) ∷ binding Segment (codes "y") none ∷ []; writes = codes "(1:a1:b)"; size = 8 }
      ∷ [];
}

-- one segment twice: the same run both times
abbrev pub segment_twice : Tried
segment_twice = record {
  book = codes "(((2:!x2:!x)(2:!x2:!x)))";
  on = read (codes "(1:a1:b1:a1:b)");
  fits =
      record { rule = 1; bindings = binding Segment (codes "x") (word (codes "a") then word (codes "b")) ∷ []; writes = codes "(1:a1:b1:a1:b)"; size = 14 }
      ∷ [];
}

-- a segment can have no element, a variable has one
abbrev pub segment_of_nothing : Tried
segment_of_nothing = record {
  book = codes "(((2:!x)(2:!x)))";
  on = read (codes "()");
  fits =
      record { rule = 1; bindings = binding Segment (codes "x") none ∷ []; writes = codes "()"; size = 2 }
      ∷ [];
}

abbrev pub variable_of_nothing : Tried
variable_of_nothing = record {
  book = codes "(((2::x)(2::x)))";
  on = read (codes "()");
  fits = [];
}

-- a variable can be a list
abbrev pub variable_twice : Tried
variable_twice = record {
  book = codes "(((2::x2::x)(2::x2::x)))";
  on = read (codes "((1:a)(1:a))");
  fits =
      record { rule = 1; bindings = binding Variable (codes "x") (list (word (codes "a")) none) ∷ []; writes = codes "((1:a)(1:a))"; size = 12 }
      ∷ [];
}

-- a segment inside a list is all of the list, and the same run where it comes again
abbrev pub segment_inside_differs : Tried
segment_inside_differs = record {
  book = codes "((((2:!x)2:!x)((2:!x)2:!x)))";
  on = read (codes "((1:a)1:a1:b)");
  fits = [];
}

abbrev pub segment_inside_again : Tried
segment_inside_again = record {
  book = codes "((((2:!x)2:!x)((2:!x)2:!x)))";
  on = read (codes "((1:a1:b)1:a1:b)");
  fits =
      record { rule = 1; bindings = binding Segment (codes "x") (word (codes "a") then word (codes "b")) ∷ []; writes = codes "((1:a1:b)1:a1:b)"; size = 16 }
      ∷ [];
}

-- two equal readings in a row
abbrev pub equal_readings : Tried
equal_readings = record {
  book = codes "(((2:!a2::x2::x2:!b)(2:!a2::x2::x2:!b)))";
  on = measured (pos 1840 ∷ pos 1840 ∷ pos 1845 ∷ []);
  fits =
      record { rule = 1; bindings = binding Segment (codes "a") none ∷ binding Variable (codes "x") (word (codes "1840")) ∷ binding Segment (codes "b") (word (codes "1845")) ∷ []; writes = codes "(4:18404:18404:1845)"; size = 20 }
      ∷ [];
}

-- a length that begins with 0; a text that ends too early; a second element; and the books above
abbrev pub cases : List Case
cases =
    refused (codes "01:a") (Malformed 0)
    ∷ refused (codes "(1:a") (Malformed 4)
    ∷ refused (codes "()()") (Malformed 2)
    ∷ tried constant_between_segments
    ∷ tried two_segments
    ∷ tried segment_twice
    ∷ tried segment_of_nothing
    ∷ tried variable_of_nothing
    ∷ tried variable_twice
    ∷ tried segment_inside_differs
    ∷ tried segment_inside_again
    ∷ tried equal_readings
    ∷ []

-- every case holds
abbrev pub CasesHold : Type 0
CasesHold = AllHold cases
