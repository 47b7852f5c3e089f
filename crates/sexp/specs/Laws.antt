-- What the check of a text answers, and what is promised of texts and records. Assumes nothing.
use Rattle.std.specs.Prelude.{◌≡◌, ℕ, ◌^◌, ◌<◌, List, length, Ok, Err, Result}
use Rattle.sexp.specs.declared.reader.Extent.{Extent}
use Rattle.sexp.specs.declared.refusals.Refusal.{Refusal}
use Rattle.sexp.specs.Elements.{Elements, Record, Same, count, depth, ShortAtoms, Within, Sized}
use Rattle.sexp.specs.Text.{text}
use Rattle.sexp.specs.Grammar.{CSexp}
use Rattle.sexp.specs.Faults.{Refused}
use Rattle.sexp.specs.Reading.{Verdict, accepted, rejected}

-- what is told of a record
abbrev pub extent : Elements → Extent
extent e = record { elements = count e; depth = depth e }

-- the answer for a verdict
abbrev pub answer : Verdict → Result Extent Refusal
answer (accepted e) = Ok (extent e)
answer (rejected k) = Err k

-- t is accepted exactly when the grammar derives it from a record within the limits, and the answer tells that record's extent
abbrev pub AcceptedExactlyCanonical : List ℕ → Result Extent Refusal → Type 0
AcceptedExactlyCanonical t r = ((x : Extent) → r ≡ Ok x → (e : Elements) × CSexp t e × Within e × Sized t × (x ≡ extent e)) × ((e : Elements) → CSexp t e → Within e → Sized t → r ≡ Ok (extent e))

-- t is refused exactly as the list of faults says
abbrev pub RefusedAsListed : List ℕ → Result Extent Refusal → Type 0
RefusedAsListed t r = (k : Refusal) → (r ≡ Err k → Refused t k) × (Refused t k → r ≡ Err k)

-- the grammar derives from a record its text and no other, and nothing from what is no record
abbrev pub DerivesItsText : Type 0
DerivesItsText = (t : List ℕ) (e : Elements) → ShortAtoms e → (CSexp t e → Record e × (t ≡ text e)) × (Record e → t ≡ text e → CSexp t e)

-- a text that a memory can hold determines its record
abbrev pub OneRecord : Type 0
OneRecord = (t : List ℕ) (e f : Elements) → length t < 2 ^ 64 → CSexp t e → CSexp t f → Same e f

-- elements that are the same are one value
abbrev pub SameIsEqual : Type 0
SameIsEqual = (e f : Elements) → (Same e f → e ≡ f) × (e ≡ f → Same e f)
