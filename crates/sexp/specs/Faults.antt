-- Why a text is refused: the list of faults, a constructor for each line. Reading goes from the left and stops at the first fault. Assumes nothing.
use Rattle.std.specs.Prelude.{◌≡◌, ℕ, ◌+◌, ◌-◌, ◌<◌, ◌≤◌, ◌⊎◌, List, [], ◌∷◌, ◌++◌, length, ◌≢◌}
use Rattle.sexp.specs.declared.refusals.Refusal.{Refusal}
use Rattle.sexp.specs.declared.refusals.Refusal.TheVariants.{TextLength, Malformed, OverLimit}
use Rattle.sexp.specs.Elements.{Sized}
use Rattle.sexp.specs.Grammar.{Digit, Decimal, Verbatim}

-- where depth lists are open and count elements have begun, an element or a closing must follow: a list is open, or the root has not begun
abbrev pub Due : (depth count : ℕ) → Type 0
Due depth count = (0 < depth) ⊎ (count ≡ 0)

-- one more element stays within the limits
abbrev pub Room : (depth count : ℕ) → Type 0
Room depth count = (depth < 32) × (count < 4096)

-- an octet that begins an element: "(" or a digit
abbrev pub Begins : ℕ → Type 0
Begins o = (o ≡ 40) ⊎ Digit o

-- what follows a length's digits: no digit
abbrev pub Stops : List ℕ → Type 0
Stops [] = Unit {0}
Stops (o ∷ rest) = Digit o → ⊥

-- tokens without a fault lead from the front of the text to the offset `at`, with depth lists open, count elements begun and rest to come
pub data Passed (text : List ℕ) : (at depth count : ℕ) (rest : List ℕ) → Type 0 where
  start : Passed text 0 0 0 text
  opening : {at depth count : ℕ} {rest : List ℕ} → Passed text at depth count (40 ∷ rest) → Due depth count → Room depth count → Passed text (at + 1) (depth + 1) (count + 1) rest
  closing : {at depth count : ℕ} {rest : List ℕ} → Passed text at depth count (41 ∷ rest) → 0 < depth → Passed text (at + 1) (depth - 1) count rest
  string : {at depth count : ℕ} {t os rest : List ℕ} → Passed text at depth count (t ++ rest) → Due depth count → Room depth count → Verbatim t os → length os ≤ 1024 → Passed text (at + length t) depth (count + 1) rest

-- the fault at the offset `at` of a text of `end` octets
pub data Fault (end at depth count : ℕ) : List ℕ → Refusal → Type 0 where
  -- where an element must begin, an octet that begins none; inside a list ")" may stand there
  stray : {o : ℕ} {rest : List ℕ} → Due depth count → (Begins o → ⊥) → (o ≡ 41 → depth ≡ 0) → Fault end at depth count (o ∷ rest) (Malformed at)
  -- an element past the limits
  beyond : {o : ℕ} {rest : List ℕ} → Due depth count → Begins o → (Room depth count → ⊥) → Fault end at depth count (o ∷ rest) (OverLimit at)
  -- a length of several digits that begins with 0
  padded : {d : ℕ} {rest : List ℕ} → Due depth count → Room depth count → Digit d → Fault end at depth count (48 ∷ (d ∷ rest)) (Malformed at)
  -- a length above 1,024
  long : {n : ℕ} {ds : List ℕ} (rest : List ℕ) → Due depth count → Room depth count → Decimal ds n → Stops rest → 1024 < n → Fault end at depth count (ds ++ rest) (OverLimit at)
  -- an octet after the digits that is no colon
  colon : {n : ℕ} {ds : List ℕ} (o : ℕ) (rest : List ℕ) → Due depth count → Room depth count → Decimal ds n → n ≤ 1024 → (Digit o → ⊥) → (o ≢ 58) → Fault end at depth count (ds ++ (o ∷ rest)) (Malformed (at + length ds))
  -- the text ends too early: where a token must begin, after digits, among an atom's octets
  ends : Due depth count → Fault end at depth count [] (Malformed end)
  ends_length : {n : ℕ} {ds : List ℕ} → Due depth count → Room depth count → Decimal ds n → n ≤ 1024 → Fault end at depth count ds (Malformed end)
  ends_octets : {n : ℕ} {ds : List ℕ} (os : List ℕ) → Due depth count → Room depth count → Decimal ds n → n ≤ 1024 → length os < n → Fault end at depth count (ds ++ (58 ∷ os)) (Malformed end)
  -- an octet after the root
  after : {o : ℕ} {rest : List ℕ} → (Due depth count → ⊥) → Fault end at depth count (o ∷ rest) (Malformed at)

-- the text is refused: for its length, or by its first fault
pub data Refused (text : List ℕ) : Refusal → Type 0 where
  unsized : (Sized text → ⊥) → Refused text TextLength
  faulty : {at depth count : ℕ} {rest : List ℕ} {r : Refusal} → Sized text → Passed text at depth count rest → Fault (length text) at depth count rest r → Refused text r
