-- What the private functions of the tokens and of the reader tell. Assumes nothing.
use Rattle.std.specs.Prelude.{◌≡◌, ℕ, ◌+◌, ◌-◌, ◌<◌, ◌≤◌, max, cond, List, length, drop, Some, None, Ok, Err, Option, Result, nat_lt}
use Rattle.sexp.specs.declared.reader.Found.{Found}
use Rattle.sexp.specs.declared.reader.Found.TheVariants.{Element, Close}
use Rattle.sexp.specs.declared.reader.Progress.{Progress}
use Rattle.sexp.specs.declared.refusals.Refusal.{Refusal}
use Rattle.sexp.specs.declared.tokens.Cursor.{Cursor}
use Rattle.sexp.specs.Elements.{Elements, Record, count, depth}
use Rattle.sexp.specs.Grammar.{value}
use Rattle.sexp.specs.Reading.{digits, behind, Lexeme, string_at, Reading, refused, onward, closed, reading}

-- the number that digits write, if it is at most 1,024
abbrev pub short_value : List ℕ → Option ℕ
short_value ds = cond (nat_lt 1024 (value ds)) None (Some (value ds))

-- the string whose digits stand at a cursor
abbrev pub string_from : Cursor → Lexeme
string_from from = string_at (length from.text.now) from.at (digits (drop from.at from.text.now)) (behind (drop from.at from.text.now))

-- what a text holds from a cursor on
abbrev pub reading_from : Cursor → Reading
reading_from from = reading (length from.text.now) 0 from.depth from.count from.at (drop from.at from.text.now)

-- the elements es stand between two cursors inside one list, and have been counted and measured
pub record Spans (from to : Progress) (es : Elements) : Type 0 where
  pub same : to.cursor.text ≡ from.cursor.text
  pub goes_on : reading_from from.cursor ≡ onward es (reading_from to.cursor)
  pub level : to.cursor.depth ≡ from.cursor.depth
  pub counted : to.cursor.count ≡ from.cursor.count + count es
  pub measured : to.deepest ≡ max from.deepest (from.cursor.depth + depth es)
  pub forward : from.cursor.at ≤ to.cursor.at

-- at `from` the innermost list closes, and `to` is behind it
pub record Closes (from to : Progress) : Type 0 where
  pub same : to.cursor.text ≡ from.cursor.text
  pub goes_on : reading_from from.cursor ≡ closed (reading_from to.cursor)
  pub some : 0 < from.cursor.depth
  pub level : to.cursor.depth ≡ from.cursor.depth - 1
  pub counted : to.cursor.count ≡ from.cursor.count
  pub measured : to.deepest ≡ from.deepest
  pub forward : from.cursor.at < to.cursor.at
  pub inside : to.cursor.at ≤ length from.cursor.text.now

-- an element or the end of the list stands at `from`; or the reading is refused
abbrev pub FindsThat : Progress → Found → Type 0
FindsThat from (Element to) = ((e : Elements) × Record e × Spans from to e) × (from.cursor.at < to.cursor.at) × (to.cursor.at ≤ length from.cursor.text.now)
FindsThat from (Close to) = Closes from to

abbrev pub Finds : Progress → Result Found Refusal → Type 0
Finds from (Ok f) = FindsThat from f
Finds from (Err k) = reading_from from.cursor ≡ refused k
