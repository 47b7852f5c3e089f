-- A run of elements as a list of signs, by which a proof tells runs apart. Assumes nothing.
use Rattle.std.specs.Prelude.{◌≡◌, ℕ, List, [], ◌∷◌, Option, Some, None, refl}
use Rattle.std.proofs.Common.{◌∙◌, ap}
use Rattle.std.specs.Coded.{Coded, code_by, coded×, coded_ℕ, coded_list, coded_option}
use Rattle.sexp.specs.Elements.{octets}
use Rattle.holder.specs.Placed.{Placed, nothing, atom_at, list_at}

-- the end of a run; or an element's place with its octets, for an atom, or with none, for a list
abbrev pub Sign : Type 0
Sign = Option (ℕ × Option (List ℕ))

-- a run's signs and then rest: those of what its first element holds, of what stands behind that, and the element's own
abbrev pub signs_then : Placed → List Sign → List Sign
signs_then nothing rest = None ∷ rest
signs_then (atom_at p (octets os) es) rest = signs_then es (Some (p, Some os) ∷ rest)
signs_then (list_at p inner es) rest = signs_then inner (signs_then es (Some (p, None) ∷ rest))

-- the runs that signs spell, the last one first
abbrev pub read_sign : Sign → List Placed → List Placed
read_sign None runs = nothing ∷ runs
read_sign (Some (p, Some os)) [] = []
read_sign (Some (p, Some os)) (es ∷ runs) = atom_at p (octets os) es ∷ runs
read_sign (Some (p, None)) [] = []
read_sign (Some (p, None)) (es ∷ []) = []
read_sign (Some (p, None)) (es ∷ (inner ∷ runs)) = list_at p inner es ∷ runs

abbrev pub read_signs : List Sign → List Placed → List Placed
read_signs [] runs = runs
read_signs (s ∷ rest) runs = read_signs rest (read_sign s runs)

abbrev pub last_read : List Placed → Placed
last_read [] = nothing
last_read (r ∷ runs) = r

pub read_back : (r : Placed) (rest : List Sign) (runs : List Placed) → read_signs (signs_then r rest) runs ≡ read_signs rest (r ∷ runs)
read_back nothing rest runs = refl
read_back (atom_at p (octets os) es) rest runs = read_back es (Some (p, Some os) ∷ rest) runs
read_back (list_at p inner es) rest runs = read_back inner (signs_then es (Some (p, None) ∷ rest)) runs ∙ read_back es (Some (p, None) ∷ rest) (inner ∷ runs)

abbrev pub placed_code : Coded Placed
placed_code =
    code_by (List Sign) (coded_list (coded_option (coded× coded_ℕ (coded_option (coded_list coded_ℕ))))) (λ r. signs_then r []) (λ signs. last_read (read_signs signs [])) (λ r. ap last_read (read_back r [] []))
