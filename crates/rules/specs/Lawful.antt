-- What every rule of a book keeps to. Assumes nothing.
use Rattle.std.specs.Prelude.{◌≡◌, ℕ, ◌≤◌, List, [], ◌∷◌, length}
use Rattle.sexp.specs.Elements.{Record, count}
use Rattle.rules.specs.declared.signs.Sign.TheVariants.{Segment}
use Rattle.rules.specs.Complete.{In}
use Rattle.rules.specs.Patterns.{Pattern, done, slot, written, Slot, slots, names, segments, Rule}

-- a pattern or a template: one element, at most 256 with all that it holds, and no segment by itself; its names have 1 to 32 octets
pub record LawfulSide (p : Pattern) : Type 0 where
  pub one : Record (written p)
  pub few : count (written p) ≤ 256
  pub whole : (name : List ℕ) → p ≡ slot Segment name done → ⊥
  pub named : (s : Slot) → In s (slots p) → (1 ≤ length s.name) × (length s.name ≤ 32)

-- a rule: each of its names has one sign, and stands in the pattern, which has at most 16 names and 4 segments
pub record LawfulRule (r : Rule) : Type 0 where
  pub pattern : LawfulSide r.pattern
  pub template : LawfulSide r.template
  pub names_few : length (names r.pattern) ≤ 16
  pub segments_few : segments (names r.pattern) ≤ 4
  pub agree : (s : Slot) → In s (slots r.pattern) → In s (names r.pattern)
  pub bound : (s : Slot) → In s (slots r.template) → In s (names r.pattern)

-- a book: at most 64 lawful rules
abbrev pub LawfulRules : List Rule → Type 0
LawfulRules [] = Unit {0}
LawfulRules (r ∷ rs) = LawfulRule r × LawfulRules rs

pub record LawfulBook (rules : List Rule) : Type 0 where
  pub few : length rules ≤ 64
  pub each : LawfulRules rules
