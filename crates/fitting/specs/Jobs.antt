-- What the calls of a job tell and leave. Assumes nothing.
use Rattle.std.specs.Prelude.{◌≡◌, ℕ, ◌+◌, ◌^◌, ◌<◌, ◌≤◌, ◌⊎◌, cond, List, ◌++◌, length, drop, nat_lt, Option, Some, None, Ok, Err, Result}
use Rattle.sexp.specs.declared.refusals.Refusal.{Refusal}
use Rattle.sexp.specs.declared.refusals.Refusal.TheVariants.{SmallMemory, NoFit, UnknownName, ResultTooLarge, ShortOutput}
use Rattle.sexp.specs.Elements.{Elements, count, depth}
use Rattle.sexp.specs.Text.{text}
use Rattle.holder.specs.Placed.{Placed, erase, front}
use Rattle.rules.specs.Patterns.{Rule}
use Rattle.rules.specs.Bindings.{Binding, fill, value, width}
use Rattle.rules.specs.Fits.{IsRule, BookFit}
use Rattle.rules.specs.Keys.{key}
use Rattle.search.specs.Books.{first, past, LeastPast}
use Rattle.books.specs.declared.places.PlacedRule.{PlacedRule}
use Rattle.books.specs.Meant.{LiesAt}
use Rattle.fitting.specs.declared.jobs.Job.{Job}
use Rattle.fitting.specs.declared.jobs.Position.{Position}
use Rattle.fitting.specs.declared.jobs.Position.TheVariants.{Start, At, End}
use Rattle.fitting.specs.declared.keys.Key.{Key}
use Rattle.fitting.specs.declared.searching.Search.{Search}
use Rattle.fitting.specs.Finding.{HasFit, found_in}
use Rattle.fitting.specs.Keys.{key_of, key_told}
use Rattle.fitting.specs.Occurs.{Occurs, FirstAt}

-- working memory is too small: fewer than 256 marks, or places
abbrev pub Small : (marks places : ℕ) → Type 0
Small marks places = (marks < 256) ⊎ (places < 256)

-- the least key behind a position that belongs to a fit; none behind the end
abbrev pub Following : List Rule → Elements → Position → Option Key → Type 0
Following book e Start next = LeastPast book e first (key_told next)
Following book e (At k) next = LeastPast book e (past (key_of k)) (key_told next)
Following book e End next = next ≡ None

-- one more, up to 2^63
abbrev pub counted : ℕ → ℕ
counted n = cond (nat_lt n (2 ^ 63)) (n + 1) n

-- what next tells, and the job afterwards
abbrev pub told_next : Job → Option Key → Result (Option ℕ × ℕ) Refusal
told_next job (Some k) = Ok (Some k.rule, counted job.count)
told_next job None = Ok (None, job.count)

abbrev pub moved : Job → Option Key → Job
moved job (Some k) = record { position = At k; count = counted job.count }
moved job None = record { position = End; count = job.count }

-- next moves to the least key behind the position that belongs to a fit of this book and record, or to the end; refused, it leaves the job
pub data Nexts (book : List Rule) (e : Elements) (marks places : ℕ) (job : Job) : Result (Option ℕ × ℕ) Refusal → Job → Type 0 where
  refused : Small marks places → Nexts book e marks places job (Err SmallMemory) job
  moves : (Small marks places → ⊥) → (next : Option Key) → Following book e job.position next → Nexts book e marks places job (told_next job next) (moved job next)

-- the fit that stands: the position is its key, and it is a fit of this book and record
pub record Standing (book : List Rule) (e : Elements) (position : Position) : Type 0 where
  pub at : Key
  pub is : position ≡ At at
  pub rule : Rule
  pub bindings : List Binding
  pub numbered : IsRule book at.rule rule
  pub fit : BookFit book e (record { rule = at.rule; bindings = bindings })
  pub its_key : key (record { rule = at.rule; bindings = bindings }) ≡ key_of at

-- the rule of the fit that stands, where it lies, and the search that has laid the fit
pub record StandsLaid {H : Type 0} (book : List Rule) (tree : Placed) (position : Position) (r : PlacedRule) (fit : Search H) : Type 0 where
  pub standing : Standing book (erase tree) position
  pub lies : LiesAt standing.rule r
  pub text : fit.text ≡ r.text
  pub laid : HasFit standing.rule.pattern (erase tree) standing.at.lengths tree fit
  pub bindings : found_in tree fit ≡ standing.bindings

-- why none is told: working memory is too small; or it is not, and no fit stands
pub data NoneStands (book : List Rule) (e : Elements) (marks places : ℕ) (position : Position) : Refusal → Type 0 where
  small : Small marks places → NoneStands book e marks places position SmallMemory
  no_fit : (Small marks places → ⊥) → (Standing book e position → ⊥) → NoneStands book e marks places position NoFit

-- the rule and the laid fit that stand, or why there are none
abbrev pub StandingTells : {H : Type 0} → List Rule → Placed → (marks places : ℕ) → Position → Result (PlacedRule × Search H) Refusal → Type 0
StandingTells book tree marks places position (Ok t) = (Small marks places → ⊥) × StandsLaid book tree position t.0 t.1
StandingTells book tree marks places position (Err k) = NoneStands book (erase tree) marks places position k

-- what show tells where a fit stands: the rule has no such name; or the place of the first element of what it stands for, where its first
-- occurrence in the pattern lies, and the number of elements
pub data Shows (tree : Placed) (name : List ℕ) (r : Rule) (m : List Binding) : Result (Option ℕ × ℕ) Refusal → Type 0 where
  unknown : (Occurs name r.pattern → ⊥) → Shows tree name r m (Err UnknownName)
  nothing : Occurs name r.pattern → width (value name m) ≡ 0 → Shows tree name r m (Ok (None, 0))
  some : {x : Placed} {p : ℕ} → FirstAt m name r.pattern tree x → 0 < width (value name m) → front x ≡ Some p → Shows tree name r m (Ok (Some p, width (value name m)))

pub data ShowTells (book : List Rule) (tree : Placed) (marks places : ℕ) (position : Position) (name : List ℕ) : Result (Option ℕ × ℕ) Refusal → Type 0 where
  small : Small marks places → ShowTells book tree marks places position name (Err SmallMemory)
  no_fit : (Small marks places → ⊥) → (Standing book (erase tree) position → ⊥) → ShowTells book tree marks places position name (Err NoFit)
  fit : {r : Result (Option ℕ × ℕ) Refusal} → (Small marks places → ⊥) → (s : Standing book (erase tree) position) → Shows tree name s.rule s.bindings r → ShowTells book tree marks places position name r

-- a result is too large
abbrev pub TooLarge : Elements → Type 0
TooLarge e = (4096 < count e) ⊎ ((32 < depth e) ⊎ (32768 < length (text e)))

-- what write tells where its result is e, and what the output holds afterwards
pub data Writes (e : Elements) (out : List ℕ) : Result ℕ Refusal → List ℕ → Type 0 where
  large : TooLarge e → Writes e out (Err ResultTooLarge) out
  short : (TooLarge e → ⊥) → length out < length (text e) → Writes e out (Err ShortOutput) out
  laid : (TooLarge e → ⊥) → length (text e) ≤ length out → Writes e out (Ok (length (text e))) (text e ++ drop (length (text e)) out)

pub data WriteTells (book : List Rule) (e : Elements) (marks places : ℕ) (position : Position) (out : List ℕ) : Result ℕ Refusal → List ℕ → Type 0 where
  small : Small marks places → WriteTells book e marks places position out (Err SmallMemory) out
  no_fit : (Small marks places → ⊥) → (Standing book e position → ⊥) → WriteTells book e marks places position out (Err NoFit) out
  fit : {r : Result ℕ Refusal} {new : List ℕ} → (Small marks places → ⊥) → (s : Standing book e position) → Writes (fill s.bindings s.rule.template) out r new → WriteTells book e marks places position out r new
