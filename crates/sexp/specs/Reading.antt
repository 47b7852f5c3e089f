-- How a text is read from the left, token by token, and the one verdict on it. Assumes nothing.
use Rattle.std.specs.Prelude.{ℕ, zero, suc, ◌+◌, ◌-◌, Bool, true, false, cond, not, ◌&&◌, ◌||◌, List, [], ◌∷◌, length, take, ◌==◌, nat_le, nat_lt}
use Rattle.sexp.specs.declared.refusals.Refusal.{Refusal}
use Rattle.sexp.specs.declared.refusals.Refusal.TheVariants.{TextLength, Malformed, OverLimit}
use Rattle.sexp.specs.Elements.{octets, Elements, none, atom, list, ◌then◌}
use Rattle.sexp.specs.Grammar.{value}

abbrev pub is_digit : ℕ → Bool
is_digit o = nat_le 48 o && nat_le o 57

-- the digits at the front of a text, and what stands behind them
abbrev pub digits : List ℕ → List ℕ
digits [] = []
digits (o ∷ rest) = elim (is_digit o) [ true ↦ o ∷ digits rest | false ↦ [] ]

abbrev pub behind : List ℕ → List ℕ
behind [] = []
behind (o ∷ rest) = elim (is_digit o) [ true ↦ behind rest | false ↦ o ∷ rest ]

-- what is read where a token must begin: an opening, a closing, an atom's octets with the number of octets of its text behind the first, or a fault
pub data Lexeme : Type 0 where
  opening : Lexeme
  closing : Lexeme
  string : List ℕ → ℕ → Lexeme
  fault : Refusal → Lexeme

-- several digits, the first a 0
abbrev pub padded : List ℕ → Bool
padded [] = false
padded (d ∷ ds) = d == 48 && nat_lt 0 (length ds)

-- behind k digits that write n, the text goes on at `at`: a colon, and n octets
abbrev pub body : (end at k n : ℕ) → List ℕ → Lexeme
body end at k n [] = fault (Malformed end)
body end at k n (o ∷ rest) =
    cond (not (o == 58)) (fault (Malformed at))
    (cond (nat_lt (length rest) n) (fault (Malformed end))
    (string (take n rest) (k + n)))

-- a string whose digits are ds, with rest behind them
abbrev pub string_at : (end at : ℕ) (ds rest : List ℕ) → Lexeme
string_at end at ds rest =
    cond (padded ds) (fault (Malformed at))
    (cond (nat_lt 1024 (value ds)) (fault (OverLimit at))
    (body end (at + length ds) (length ds) (value ds) rest))

-- the root has been read to its end: an element has begun, and no list is open
abbrev pub complete : (depth count : ℕ) → Bool
complete depth count = depth == 0 && nat_lt 0 count

-- one more element would pass a limit
abbrev pub full : (depth count : ℕ) → Bool
full depth count = nat_le 32 depth || nat_le 4096 count

-- an octet that begins an element, and one that closes a list
abbrev pub begins : ℕ → Bool
begins o = o == 40 || is_digit o

abbrev pub closes : (depth : ℕ) → ℕ → Bool
closes depth o = o == 41 && nat_lt 0 depth

-- the token at the offset `at` of a text of `end` octets, where depth lists are open and count elements have begun
abbrev pub lexeme : (end depth count at : ℕ) → List ℕ → Lexeme
lexeme end depth count at [] = fault (Malformed end)
lexeme end depth count at (o ∷ rest) =
    cond (complete depth count) (fault (Malformed at))
    (cond (closes depth o) closing
    (cond (not (begins o)) (fault (Malformed at))
    (cond (full depth count) (fault (OverLimit at))
    (cond (o == 40) opening
    (string_at end at (digits (o ∷ rest)) (behind (o ∷ rest)))))))

-- what a text holds from an offset on: of each open list what is left, the innermost first, and of the root; or a fault
pub data Reading : Type 0 where
  refused : Refusal → Reading
  read : List Elements → Reading

-- es, and then what is left of the innermost list
abbrev pub before : Elements → List Elements → List Elements
before es [] = []
before es (x ∷ rests) = (es then x) ∷ rests

-- the innermost list becomes an element of the one around it
abbrev pub nested : List Elements → List Elements
nested [] = []
nested (inner ∷ rests) = before (list inner none) rests

-- what is read where es stands in front of what is read behind it
abbrev pub onward : Elements → Reading → Reading
onward es (refused r) = refused r
onward es (read rests) = read (before es rests)

-- what is read at an opening, from what is read behind it
abbrev pub opened : Reading → Reading
opened (refused r) = refused r
opened (read rests) = read (nested rests)

-- what is read at a closing, from what is read behind it
abbrev pub closed : Reading → Reading
closed (refused r) = refused r
closed (read rests) = read (none ∷ rests)

-- reads on from the offset `at`, where the next skip octets belong to an atom
abbrev pub reading : (end skip depth count at : ℕ) → List ℕ → Reading
reading end zero depth count at [] = cond (complete depth count) (read (none ∷ [])) (refused (Malformed end))
reading end (suc skip) depth count at [] = refused (Malformed end)
reading end zero depth count at (o ∷ rest) =
    elim (lexeme end depth count at (o ∷ rest)) [
      | opening ↦ opened (reading end 0 (depth + 1) (count + 1) (at + 1) rest)
      | closing ↦ closed (reading end 0 (depth - 1) count (at + 1) rest)
      | string os more ↦ onward (atom (octets os) none) (reading end more depth (count + 1) (at + 1) rest)
      | fault r ↦ refused r
    ]
reading end (suc skip) depth count at (o ∷ rest) = reading end skip depth count (at + 1) rest

-- the verdict on a text: accepted, with the record that it holds, or refused
pub data Verdict : Type 0 where
  accepted : Elements → Verdict
  rejected : Refusal → Verdict

-- the root is all that is left at the start of a text
abbrev pub concluded : Reading → Verdict
concluded (refused r) = rejected r
concluded (read []) = accepted none
concluded (read (root ∷ rests)) = accepted root

-- a text of no octet, or of more than 32,768
abbrev pub missized : List ℕ → Bool
missized text = length text == 0 || nat_lt 32768 (length text)

abbrev pub verdict : List ℕ → Verdict
verdict text =
    elim (missized text) [
      | true ↦ rejected TextLength
      | false ↦ concluded (reading (length text) 0 0 0 0 text)
    ]
