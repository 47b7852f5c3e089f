-- What copying out a record answers and leaves, and what is promised of it. Assumes nothing.
use Rattle.std.specs.Prelude.{◌≡◌, ℕ, ◌≤◌, cond, List, ◌++◌, length, take, drop, Ok, Err, Result, nat_lt}
use Rattle.sexp.specs.declared.refusals.Refusal.{Refusal}
use Rattle.sexp.specs.declared.refusals.Refusal.TheVariants.{ResultTooLarge, ShortOutput}
use Rattle.sexp.specs.Elements.{Elements}
use Rattle.sexp.specs.Reading.{verdict, accepted}
use Rattle.holder.specs.Placed.{Meaning, erase}

-- the record that a holder means
abbrev pub record_of : Meaning → Elements
record_of m = erase m.tree

-- what laying a text at the front of an output answers: its length; or that it passes 32,768 octets, or that the output is shorter
abbrev pub laying : (t out : List ℕ) → Result ℕ Refusal
laying t out = cond (nat_lt 32768 (length t)) (Err ResultTooLarge) (cond (nat_lt (length out) (length t)) (Err ShortOutput) (Ok (length t)))

-- what it leaves: the text and the octets behind it as they were; or all as it was
abbrev pub laid : (t out : List ℕ) → List ℕ
laid t out = cond (nat_lt 32768 (length t)) out (cond (nat_lt (length out) (length t)) out (t ++ drop (length t) out))

-- reading and copying out undo each other: what was copied out of the record e is read as e, and a text that was read as e is what is copied out, where the output has room for it
abbrev pub ReadingAndCopyingUndo : (e : Elements) (out new : List ℕ) → Result ℕ Refusal → Type 0
ReadingAndCopyingUndo e out new r = ((n : ℕ) → r ≡ Ok n → verdict (take n new) ≡ accepted e) × ((t : List ℕ) → verdict t ≡ accepted e → length t ≤ length out → (r ≡ Ok (length t)) × (take (length t) new ≡ t))
