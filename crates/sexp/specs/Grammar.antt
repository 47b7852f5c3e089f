-- RFC 9804's grammar of the canonical form, a data type for each rule and a constructor for each alternative.
-- `R t x` says that the rule R derives the text t, and that t denotes x. Assumes nothing.
--
--     c-sexp   = c-string / ("(" *c-sexp ")")
--     c-string = verbatim                          ; the RFC's optional display hint is left out
--     verbatim = decimal ":" *OCTET                ; as many octets as the decimal says
--     decimal  = %x30 / (%x31-39 *DIGIT)
use Rattle.std.specs.Prelude.{ℕ, ◌+◌, ◌-◌, ◌*◌, ◌≤◌, List, [], ◌∷◌, ◌++◌, length}
use Rattle.sexp.specs.Elements.{Atom, octets, Elements, none, atom, list, ◌then◌}

-- DIGIT is %x30-39
abbrev pub Digit : ℕ → Type 0
Digit d = (48 ≤ d) × (d ≤ 57)

-- *DIGIT
abbrev pub Digits : List ℕ → Type 0
Digits [] = Unit {0}
Digits (d ∷ ds) = Digit d × Digits ds

-- the number that the digits ds write behind those of n
abbrev pub value_after : ℕ → List ℕ → ℕ
value_after n [] = n
value_after n (d ∷ ds) = value_after (n * 10 + (d - 48)) ds

abbrev pub value : List ℕ → ℕ
value ds = value_after 0 ds

pub data Decimal : List ℕ → ℕ → Type 0 where
  zero : Decimal (48 ∷ []) 0
  positive : {d : ℕ} {ds : List ℕ} → 49 ≤ d → d ≤ 57 → Digits ds → Decimal (d ∷ ds) (value (d ∷ ds))

pub data Verbatim : List ℕ → List ℕ → Type 0 where
  verbatim : {ds os : List ℕ} → Decimal ds (length os) → Verbatim (ds ++ (58 ∷ os)) os

pub data CString : List ℕ → Atom → Type 0 where
  plain : {t os : List ℕ} → Verbatim t os → CString t (octets os)

mutual
  pub data CSexp : List ℕ → Elements → Type 0 where
    string : {t : List ℕ} {a : Atom} → CString t a → CSexp t (atom a none)
    parens : {t : List ℕ} {es : Elements} → CSexps t es → CSexp (40 ∷ (t ++ (41 ∷ []))) (list es none)

  -- *c-sexp
  pub data CSexps : List ℕ → Elements → Type 0 where
    nothing : CSexps [] none
    more : {t u : List ℕ} {e es : Elements} → CSexp t e → CSexps u es → CSexps (t ++ u) (e then es)
