-- The book of a text, all of whose rules are taken. Assumes nothing.
use Rattle.std.specs.Prelude.{◌≡◌, ◌⊎◌, ℕ, List, Ok, Err, Result}
use Rattle.sexp.specs.declared.refusals.Refusal.{Refusal}
use Rattle.sexp.specs.Elements.{Elements, none, list, ◌then◌}
use Rattle.sexp.specs.Reading.{verdict, accepted}
use Rattle.holder.specs.Placed.{erase}
use Rattle.rules.specs.Patterns.{Rule, rules_written, book_written}
use Rattle.books.specs.Drafts.{Drafted, beginning, TakeRefused}

-- the elements that a draft's rules write, and those that are left
abbrev pub drafted : Drafted → Elements
drafted d = rules_written d.taken then erase d.left

-- all rules of a draft are taken: they write all that was left; or the next one is refused, behind those that are
abbrev pub TakesAll : (from to : Drafted) → Result (Unit {0}) Refusal → Type 0
TakesAll from to (Ok done) = rules_written to.taken ≡ drafted from
TakesAll from to (Err k) = (drafted to ≡ drafted from) × TakeRefused to k

-- a draft of a text whose next rule is refused
pub record RuleRefused (text : List ℕ) (k : Refusal) : Type 0 where
  pub draft : Drafted
  pub writes : verdict text ≡ accepted (list (drafted draft) none)
  pub refused : TakeRefused draft k

-- the text writes a book of these rules, and no other; or it is refused, or one of its rules is
abbrev pub IsBook : List ℕ → Result (List Rule) Refusal → Type 0
IsBook text (Ok rules) = verdict text ≡ accepted (book_written rules)
IsBook text (Err k) = (beginning (verdict text) ≡ Err k) ⊎ RuleRefused text k
