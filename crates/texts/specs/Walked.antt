-- What is told of a text at a place. Assumes nothing.
use Rattle.std.specs.Prelude.{◌≡◌, ℕ, ◌+◌, cond, List, [], ◌∷◌, length, Ok, Err, Result, Option, Some, None, ◌==◌}
use Rattle.std.specs.Borrow.{Bor}
use Rattle.sexp.specs.declared.tokens.Cursor.{Cursor}
use Rattle.sexp.specs.declared.tokens.Step.{Step}
use Rattle.sexp.specs.declared.refusals.Refusal.{Refusal}
use Rattle.sexp.specs.declared.tokens.Token.{Token}
use Rattle.sexp.specs.declared.tokens.Token.TheVariants.{Opening, Closing, Atom as AtomToken}
use Rattle.sexp.specs.Elements.{octets}
use Rattle.sexp.specs.Text.{text}
use Rattle.sexp.specs.Tokens.{lexeme_at, Tells}
use Rattle.holder.specs.Placed.{Placed, nothing, atom_at, list_at, run_at, Stands}
use Rattle.holder.specs.Walks.{first_of}
use Rattle.texts.specs.Label.{text_tree}

-- the run that begins at a place of a text's record
abbrev pub run_from : List ℕ → ℕ → Placed
run_from t place = run_at place (text_tree t)

-- where the element at a place is read, as a root is at the start of a text
abbrev pub reading_at : Bor (List ℕ) → ℕ → Cursor
reading_at text place = record { text = text; at = place; depth = 0; count = 0 }

-- a step tells the first token of the element at a place
abbrev pub TellsFirst : Bor (List ℕ) → ℕ → Step → Type 0
TellsFirst text place step = Tells (reading_at text place) (lexeme_at (reading_at text place)) (Ok step)

-- a token is the first one of an element, the first of a run: an atom with its octets, or a list's opening, at the element's place
abbrev pub FirstToken : Placed → Token → Type 0
FirstToken nothing token = ⊥
FirstToken (atom_at p a es) (Opening at) = ⊥
FirstToken (atom_at p a es) (Closing at) = ⊥
FirstToken (atom_at p a es) (AtomToken at os) = (at ≡ p) × (octets os.now ≡ a)
FirstToken (list_at p inner es) (Opening at) = at ≡ p
FirstToken (list_at p inner es) (Closing at) = ⊥
FirstToken (list_at p inner es) (AtomToken at os) = ⊥

-- where the run r begins with an element, its first token is told
abbrev pub TellsElement : Placed → Result Step Refusal → Type 0
TellsElement r (Ok s) = Stands r → FirstToken r s.token
TellsElement r (Err k) = Stands r → ⊥

-- the offset behind the element at a place, with which the run r begins: its text stands between
abbrev pub end_at : ℕ → Placed → ℕ
end_at place r = place + length (text (first_of r))

-- the place of the element at an offset where a text goes on so: none where a ")" (41) stands or the text has ended
abbrev pub beginning : ℕ → List ℕ → Option ℕ
beginning at [] = None
beginning at (o ∷ rest) = cond (o == 41) None (Some at)
