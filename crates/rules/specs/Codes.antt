-- Patterns and rules as lists of marks, by which a proof tells them apart. Assumes nothing.
use Rattle.std.specs.Prelude.{◌≡◌, ℕ, List, [], ◌∷◌, Option, Some, None, Bool, true, false, ◌⊎◌, refl}
use Rattle.std.proofs.Common.{◌∙◌, ap, inl, inr}
use Rattle.std.specs.Coded.{Coded, code_by, coded×, coded⊎, coded_ℕ, coded_bool, coded_list, coded_option}
use Rattle.sexp.specs.Elements.{octets}
use Rattle.rules.specs.declared.signs.Sign.{Sign}
use Rattle.rules.specs.declared.signs.Sign.TheVariants.{Variable, Segment}
use Rattle.rules.specs.Patterns.{Pattern, done, constant, slot, group, Slot, Rule}

-- a sign as a truth value
abbrev pub is_many : Sign → Bool
is_many Variable = false
is_many Segment = true

abbrev pub sign_from : Bool → Sign
sign_from false = Variable
sign_from true = Segment

pub sign_back : (s : Sign) → sign_from (is_many s) ≡ s
sign_back Variable = refl
sign_back Segment = refl

abbrev pub sign_code : Coded Sign
sign_code = code_by Bool coded_bool is_many sign_from sign_back

abbrev pub slot_code : Coded Slot
slot_code = code_by (Sign × List ℕ) (coded× sign_code (coded_list coded_ℕ)) (λ s. (s.sign, s.name)) (λ p. record { sign = p.0; name = p.1 }) (λ s. refl)

-- the end of a run; or a list, an atom's octets, a name
abbrev pub Mark : Type 0
Mark = Option (Option (List ℕ ⊎ Slot))

-- a run's marks and then rest: those of what its first element holds, of what stands behind that, and the element's own
abbrev pub marks_then : Pattern → List Mark → List Mark
marks_then done rest = None ∷ rest
marks_then (constant (octets os) p) rest = marks_then p (Some (Some (inl os)) ∷ rest)
marks_then (slot sign name p) rest = marks_then p (Some (Some (inr (record { sign = sign; name = name }))) ∷ rest)
marks_then (group inner p) rest = marks_then inner (marks_then p (Some None ∷ rest))

-- the runs that marks spell, the last one first
abbrev pub read_mark : Mark → List Pattern → List Pattern
read_mark None runs = done ∷ runs
read_mark (Some (Some (inl os))) [] = []
read_mark (Some (Some (inl os))) (p ∷ runs) = constant (octets os) p ∷ runs
read_mark (Some (Some (inr s))) [] = []
read_mark (Some (Some (inr s))) (p ∷ runs) = slot s.sign s.name p ∷ runs
read_mark (Some None) [] = []
read_mark (Some None) (p ∷ []) = []
read_mark (Some None) (p ∷ (inner ∷ runs)) = group inner p ∷ runs

abbrev pub read_marks : List Mark → List Pattern → List Pattern
read_marks [] runs = runs
read_marks (m ∷ rest) runs = read_marks rest (read_mark m runs)

abbrev pub last_read : List Pattern → Pattern
last_read [] = done
last_read (p ∷ runs) = p

pub read_back : (p : Pattern) (rest : List Mark) (runs : List Pattern) → read_marks (marks_then p rest) runs ≡ read_marks rest (p ∷ runs)
read_back done rest runs = refl
read_back (constant (octets os) p) rest runs = read_back p (Some (Some (inl os)) ∷ rest) runs
read_back (slot sign name p) rest runs = read_back p (Some (Some (inr (record { sign = sign; name = name }))) ∷ rest) runs
read_back (group inner p) rest runs = read_back inner (marks_then p (Some None ∷ rest)) runs ∙ read_back p (Some None ∷ rest) (inner ∷ runs)

abbrev pub pattern_code : Coded Pattern
pattern_code =
    code_by (List Mark) (coded_list (coded_option (coded_option (coded⊎ (coded_list coded_ℕ) slot_code)))) (λ p. marks_then p []) (λ marks. last_read (read_marks marks [])) (λ p. ap last_read (read_back p [] []))

abbrev pub rule_code : Coded Rule
rule_code = code_by (Pattern × Pattern) (coded× pattern_code pattern_code) (λ r. (r.pattern, r.template)) (λ p. record { pattern = p.0; template = p.1 }) (λ r. refl)
