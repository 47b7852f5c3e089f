-- How far the list of the fits of a book and a record has been told. Assumes nothing.
use Rattle.std.specs.Prelude.{◌≡◌, ℕ, ◌+◌, ◌⊎◌, Bool, true, false, List, length, slice_get, Vec, Some, Ok, Err, Result, refl}
use Rattle.std.specs.Global.{Global}
use Rattle.std.specs.Coded.{Coded, code_by, coded×, coded_ℕ, coded_bool, coded_list}
use Rattle.sexp.specs.declared.refusals.Refusal.{Refusal}
use Rattle.sexp.specs.declared.refusals.Refusal.TheVariants.{ResultTooLarge, NoFit}
use Rattle.sexp.specs.Elements.{Elements}
use Rattle.sexp.specs.Text.{text}
use Rattle.holder.specs.Codes.{placed_code}
use Rattle.holder.specs.Placed.{Placed, erase}
use Rattle.rules.specs.Bindings.{fill}
use Rattle.rules.specs.Codes.{rule_code}
use Rattle.rules.specs.Complete.{Complete}
use Rattle.rules.specs.Fits.{Numbered}
use Rattle.rules.specs.Lawful.{LawfulBook}
use Rattle.rules.specs.Patterns.{Rule}
use Rattle.fitting.specs.declared.jobs.Job.{Job}
use Rattle.fitting.specs.declared.jobs.Position.{Position}
use Rattle.fitting.specs.declared.jobs.Position.TheVariants.{Start, At, End as AtEnd}
use Rattle.fitting.specs.Jobs.{TooLarge}
use Rattle.fitting.specs.Law.{FitStands}
use Rattle.fitting.proofs.Telling.{JobAt}
use Rattle.kandrivo.specs.declared.fits.Told.{Told}
use Rattle.kandrivo.specs.declared.fits.Told.TheVariants.{Fit, End}

-- a book's rules and a record; how many of their fits are told, the first ones of the list, and whether the end is
pub record Reached : Type 0 where
  pub rules : List Rule
  pub tree : Placed
  pub told : ℕ
  pub ended : Bool

abbrev pub reached_code : Coded Reached
reached_code =
    code_by ((List Rule × Placed) × (ℕ × Bool)) (coded× (coded× (coded_list rule_code) placed_code) (coded× coded_ℕ coded_bool))
    (λ r. ((r.rules, r.tree), (r.told, r.ended)))
    (λ p. record { rules = p.0.0; tree = p.0.1; told = p.1.0; ended = p.1.1 })
    (λ r. refl)

abbrev pub is_end : Position → Bool
is_end Start = false
is_end (At k) = false
is_end AtEnd = true

-- where a job is
abbrev pub reached : List Rule → Placed → Job → Reached
reached rules tree job = record { rules = rules; tree = tree; told = job.count; ended = is_end job.position }

-- it is there in the complete list: what a job keeps to, which no contract cites
pub record IsReached (rules : List Rule) (tree : Placed) (job : Job) : Type 0 where
  pub lawful : LawfulBook rules
  pub at : (fits : List Numbered) → Complete rules (erase tree) fits → JobAt fits job.count (is_end job.position) job

-- what next tells: the next fit of the list, and how many are told with it; or the end, when all are
pub data TellsNext (fits : List Numbered) (told : ℕ) : Told → ℕ → Bool → Type 0 where
  fit : {f : Numbered} → slice_get fits told ≡ Some f → TellsNext fits told (Fit f.rule (told + 1)) (told + 1) false
  end : told ≡ length fits → TellsNext fits told (End told) told true

pub record GoesOn (old : Reached) (t : Told) (new : Reached) : Type 0 where
  pub rules : new.rules ≡ old.rules
  pub tree : new.tree ≡ old.tree
  pub tells : (fits : List Numbered) → Complete old.rules (erase old.tree) fits → TellsNext fits old.told t new.told new.ended

-- the text of the elements that a fit gives, or that they are too large
pub data TextOf (e : Elements) : Result (Vec ℕ Global) Refusal → Type 0 where
  written : {t : Vec ℕ Global} → (TooLarge e → ⊥) → t.items ≡ text e → TextOf e (Ok t)
  large : TooLarge e → TextOf e (Err ResultTooLarge)

-- it is that of the fit that stands, if one does
pub data TellsText (r : Reached) (fits : List Numbered) : Result (Vec ℕ Global) Refusal → Type 0 where
  stands : {t : Result (Vec ℕ Global) Refusal} (f : Numbered) (q : Rule) → FitStands r.rules r.tree fits r.told r.ended f q → TextOf (fill f.bindings q.template) t → TellsText r fits t
  none : (r.told ≡ 0) ⊎ (r.ended ≡ true) → TellsText r fits (Err NoFit)

abbrev pub GivesText : Reached → Result (Vec ℕ Global) Refusal → Type 0
GivesText r t = (fits : List Numbered) → Complete r.rules (erase r.tree) fits → TellsText r fits t
