-- What the private functions that check a rule tell. Assumes nothing.
use Rattle.std.specs.Prelude.{◌≡◌, ℕ, List, Ok, Err, Result, Option, Some, None}
use Rattle.sexp.specs.declared.refusals.Refusal.{Refusal}
use Rattle.holder.specs.Placed.{Placed, erase, inside, behind, run_at, IsList}
use Rattle.texts.specs.Label.{text_tree}
use Rattle.texts.specs.declared.record.TextRecord.{TextRecord}
use Rattle.rules.specs.Bindings.{width}
use Rattle.rules.specs.Fits.{IsRule}
use Rattle.rules.specs.Patterns.{Rule, Slot}
use Rattle.books.specs.declared.checking.Check.{Check}
use Rattle.books.specs.Scanning.{Seen}
use Rattle.books.specs.Drafts.{rule_of, rule_verdict}
use Rattle.books.specs.Meant.{NoneHas}

abbrev pub seen_by : Check → Seen
seen_by c = record { elements = c.elements; names = c.names }

-- a check goes on from `from` to `to` as the outcome o has it, or is refused as it has it
abbrev pub Goes : (from : Check) → Result Seen Refusal → (to : Check) → Result (Unit {0}) Refusal → Type 0
Goes from o to (Ok done) = (o ≡ Ok (seen_by to)) × (to.record ≡ from.record) × (to.side ≡ from.side)
Goes from o to (Err k) = o ≡ Err k

-- the names that have been passed, or the first fault
abbrev pub Reads : Result Seen Refusal → Result (List Slot) Refusal → Type 0
Reads (Ok seen) r = r ≡ Ok seen.names
Reads (Err k) r = r ≡ Err k

-- the places of the two elements of a list, the first element of the run r; or it is no list of two
abbrev pub Halves : List ℕ → Placed → Option (ℕ × ℕ) → Type 0
Halves text r (Some (p, q)) =
    IsList r × (width (erase (inside r)) ≡ 2) × (run_at p (text_tree text) ≡ inside r) × (run_at q (text_tree text) ≡ behind (inside r))
Halves text r None = IsList r → width (erase (inside r)) ≡ 2 → ⊥

-- the element that the run r begins with is a rule without a fault, or its refusal
abbrev pub IsVerdict : Placed → Result (Unit {0}) Refusal → Type 0
IsVerdict r (Ok done) = rule_verdict r ≡ Ok (rule_of (inside r) (behind (inside r)))
IsVerdict r (Err k) = rule_verdict r ≡ Err k

-- a text, and the place in it of a rule without a fault, or none where no rule has the number
abbrev pub RuleStands : List Rule → ℕ → Option (TextRecord × ℕ) → Type 0
RuleStands rules n (Some (text, place)) =
    (q : Rule) × IsRule rules n q × (rule_verdict (run_at place (text_tree text.text.now)) ≡ Ok q)
RuleStands rules n None = NoneHas rules n
