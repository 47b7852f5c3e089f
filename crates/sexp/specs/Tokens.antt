-- What is told of the token at a cursor. Assumes nothing.
use Rattle.std.specs.Prelude.{◌≡◌, ℕ, ◌+◌, ◌-◌, ◌≤◌, ◌⊎◌, List, [], ◌∷◌, ◌++◌, length, drop, Ok, Err, Result}
use Rattle.sexp.specs.declared.refusals.Refusal.{Refusal}
use Rattle.sexp.specs.declared.refusals.Refusal.TheVariants.{Malformed}
use Rattle.sexp.specs.declared.tokens.Cursor.{Cursor}
use Rattle.sexp.specs.declared.tokens.Step.{Step}
use Rattle.sexp.specs.declared.tokens.Token.{Token}
use Rattle.sexp.specs.declared.tokens.Token.TheVariants.{Opening, Closing, Atom}
use Rattle.sexp.specs.Elements.{octets}
use Rattle.sexp.specs.Text.{atom_then}
use Rattle.sexp.specs.Faults.{Due, Fault}
use Rattle.sexp.specs.Reading.{Lexeme, opening, closing, string, fault, lexeme}

-- the token that the list of faults and the limits leave at a cursor
abbrev pub lexeme_at : Cursor → Lexeme
lexeme_at from = lexeme (length from.text.now) from.depth from.count from.at (drop from.at from.text.now)

-- a token that is the lexeme l and begins at `from`, told with its offset, and the cursor behind it
abbrev pub TellsToken : Cursor → Lexeme → Token → Cursor → Type 0
TellsToken from l (Opening at) next = (l ≡ opening) × (at ≡ from.at) × (next ≡ record { text = from.text; at = from.at + 1; depth = from.depth + 1; count = from.count + 1 })
TellsToken from l (Closing at) next = (l ≡ closing) × (at ≡ from.at) × (next ≡ record { text = from.text; at = from.at + 1; depth = from.depth - 1; count = from.count })
TellsToken from l (Atom at os) next = (more : ℕ) × (l ≡ string os.now more) × (at ≡ from.at) × (next ≡ record { text = from.text; at = from.at + (more + 1); depth = from.depth; count = from.count + 1 })

-- r tells the lexeme l: the token and the cursor behind it, or the fault
abbrev pub Tells : Cursor → Lexeme → Result Step Refusal → Type 0
Tells from l (Ok s) = TellsToken from l s.token s.next
Tells from l (Err k) = l ≡ fault k

-- a token's text
abbrev pub spelled : Token → List ℕ
spelled (Opening at) = 40 ∷ []
spelled (Closing at) = 41 ∷ []
spelled (Atom at os) = atom_then (octets os.now) []

-- a token that was told stands at `from`, and the rest of the text begins behind it
abbrev pub StandsInText : Cursor → Result Step Refusal → Type 0
StandsInText from (Ok s) = drop from.at from.text.now ≡ spelled s.token ++ drop s.next.at from.text.now
StandsInText from (Err k) = Unit {0}

-- no token is left: the text has ended, and the root is complete
abbrev pub Exhausted : Cursor → Refusal → Type 0
Exhausted from k = (length from.text.now ≤ from.at) × (Due from.depth from.count → ⊥) × (k ≡ Malformed (length from.text.now))

-- the fault at a cursor: one of the list, or that no token is left
abbrev pub FaultAt : Cursor → Refusal → Type 0
FaultAt from k = Fault (length from.text.now) from.at from.depth from.count (drop from.at from.text.now) k ⊎ Exhausted from k

-- at a cursor a token is refused by its fault, and otherwise not
abbrev pub FaultsAsListed : Cursor → Result Step Refusal → Type 0
FaultsAsListed from r = (k : Refusal) → (r ≡ Err k → FaultAt from k) × (FaultAt from k → r ≡ Err k)
