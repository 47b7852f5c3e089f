-- What filling a record with a text does, and what a held text means. Assumes nothing.
use Rattle.std.specs.Prelude.{◌≡◌, ℕ, List, ◌++◌, drop, Ok, Err, Result}
use Rattle.sexp.specs.declared.refusals.Refusal.{Refusal}
use Rattle.sexp.specs.Reading.{Verdict, accepted, rejected, verdict}
use Rattle.sexp.specs.Text.{text}
use Rattle.holder.specs.Placed.{erase, run_at, Stands}
use Rattle.holder.specs.Walks.{first_of}
use Rattle.texts.specs.Label.{text_tree}

-- what is answered and then held, where a text of this verdict is handed in and an old one is held:
-- it replaces the old one, or is refused as the verdict says and the old one stays
abbrev pub TakesIn : Verdict → (given old new : List ℕ) → Result (Unit {0}) Refusal → Type 0
TakesIn (accepted e) given old new r = (r ≡ Ok tt) × (new ≡ given)
TakesIn (rejected k) given old new r = (r ≡ Err k) × (new ≡ old)

abbrev pub Fills : (given old new : List ℕ) → Result (Unit {0}) Refusal → Type 0
Fills given old new r = TakesIn (verdict given) given old new r

-- the record held is the one that the verdict read, and the text of the element at a place stands at that offset
pub record HoldsWhatIsRead (t : List ℕ) : Type 0 where
  pub read : verdict t ≡ accepted (erase (text_tree t))
  pub stands : (p : ℕ) → Stands (run_at p (text_tree t))
      → (rest : List ℕ) × (drop p t ≡ text (first_of (run_at p (text_tree t))) ++ rest)
