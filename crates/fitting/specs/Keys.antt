-- Keys as they are kept, and what is asked of a rule. Assumes nothing.
use Rattle.std.specs.Prelude.{Option, Some, None}
use Rattle.rules.specs.Keys.{Key as FitKey}
use Rattle.rules.specs.Patterns.{Rule}
use Rattle.search.specs.Books.{BookPosition, first, past}
use Rattle.books.specs.declared.places.PlacedRule.{PlacedRule}
use Rattle.books.specs.Meant.{LiesAt}
use Rattle.fitting.specs.declared.keys.Key.{Key}

abbrev pub key_of : Key → FitKey
key_of k = record { rule = k.rule; lengths = k.lengths }

abbrev pub key_told : Option Key → Option FitKey
key_told None = None
key_told (Some k) = Some (key_of k)

-- behind a key, or before all
abbrev pub position_past : Option Key → BookPosition
position_past None = first
position_past (Some k) = past (key_of k)

-- a lawful rule lies at these places
abbrev pub RuleLies : PlacedRule → Type 0
RuleLies r = (q : Rule) × LiesAt q r
