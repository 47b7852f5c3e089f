-- What a draft and a book mean, and what is kept of them in memory. Assumes nothing.
use Rattle.std.specs.Prelude.{◌≡◌, ℕ, ◌≤◌, List, [], ◌∷◌, length, take, Option, Some, None, Ok}
use Rattle.holder.specs.Placed.{Placed, nothing, run_at, inside, behind, Stands}
use Rattle.texts.specs.Label.{text_tree}
use Rattle.holder.specs.Walks.{first_of}
use Rattle.rules.specs.Patterns.{Pattern, Rule, Slot, names, written}
use Rattle.rules.specs.Fits.{IsRule}
use Rattle.rules.specs.Lawful.{LawfulRule}
use Rattle.books.specs.declared.places.PlacedRule.{PlacedRule}
use Rattle.books.specs.Drafts.{rule_of, rule_verdict}

-- the run that begins at a place of a text, or none
abbrev pub run_from_next : List ℕ → Option ℕ → Placed
run_from_next text None = nothing
run_from_next text (Some p) = run_at p (text_tree text)

-- the rule at a place of a text
abbrev pub rule_at : List ℕ → ℕ → Rule
rule_at text p = let rule = run_at p (text_tree text) in rule_of (inside rule) (behind (inside rule))

-- an element stands at a place, where there is one
abbrev pub NextStands : List ℕ → Option ℕ → Type 0
NextStands text None = Unit {0}
NextStands text (Some p) = Stands (run_at p (text_tree text))

-- a rule without a fault stands at each place
abbrev pub AllTaken : List ℕ → List ℕ → Type 0
AllTaken text [] = Unit {0}
AllTaken text (p ∷ ps) = (rule_verdict (run_at p (text_tree text)) ≡ Ok (rule_at text p)) × AllTaken text ps

-- what is kept of the rules taken: their number, and of 64 places as many of rules without a fault
pub record Keeps (text places : List ℕ) (taken : ℕ) : Type 0 where
  pub few : taken ≤ 64
  pub room : length places ≡ 64
  pub each : AllTaken text (take taken places)

-- no rule of a book has the number
abbrev pub NoneHas : List Rule → ℕ → Type 0
NoneHas rules n = (r : Rule) → IsRule rules n r → ⊥

-- the names of a rule's pattern, or none where no rule has the number
abbrev pub NamesOf : List Rule → ℕ → Option (List Slot) → Type 0
NamesOf rules n (Some ns) = (r : Rule) × IsRule rules n r × (ns ≡ names r.pattern)
NamesOf rules n None = NoneHas rules n

-- the element at a place of a text writes a pattern, or a template
pub record WritesAt (text : List ℕ) (place : ℕ) (p : Pattern) : Type 0 where
  pub stands : Stands (run_at place (text_tree text))
  pub writes : first_of (run_at place (text_tree text)) ≡ written p

-- a rule with these places: it is lawful, and the elements there write its pattern and its template
pub record LiesAt (q : Rule) (r : PlacedRule) : Type 0 where
  pub lawful : LawfulRule q
  pub pattern : WritesAt r.text.text.now r.pattern q.pattern
  pub template : WritesAt r.text.text.now r.template q.template

-- where a rule lies, or none where no rule has the number
abbrev pub RuleHeld : List Rule → ℕ → Option PlacedRule → Type 0
RuleHeld rules n (Some r) = (q : Rule) × IsRule rules n q × LiesAt q r
RuleHeld rules n None = NoneHas rules n
