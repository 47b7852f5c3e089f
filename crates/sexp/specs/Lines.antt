-- How a record's extent, a refusal and what the check of a text answers print. Assumes nothing.
use Rattle.std.specs.Prelude.{ℕ, List, ◌++◌, Some, None, Ok, Err, codes, decimal, Option, Result}
use Rattle.sexp.specs.declared.reader.Extent.{Extent}
use Rattle.sexp.specs.declared.refusals.Refusal.{Refusal}
use Rattle.sexp.specs.Refusals.{number_of, offset_of}

abbrev pub extent_line : Extent → List ℕ
extent_line x = decimal x.elements ++ (codes " elements, depth " ++ decimal x.depth)

-- a refusal's number, and where it has one its offset
abbrev pub placed : ℕ → Option ℕ → List ℕ
placed n (Some at) = codes "refused " ++ (decimal n ++ (codes " at " ++ decimal at))
placed n None = codes "refused " ++ decimal n

abbrev pub refusal_line : Refusal → List ℕ
refusal_line k = placed (number_of k) (offset_of k)

abbrev pub outcome_line : Result Extent Refusal → List ℕ
outcome_line (Ok x) = codes "accepted, " ++ extent_line x
outcome_line (Err k) = refusal_line k
