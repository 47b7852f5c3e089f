-- What a pick comes to. Assumes nothing.
use Rattle.std.specs.Prelude.{◌≡◌, ℕ, suc, ◌<◌, ◌⊎◌, List, length, slice_get, Vec, Some, Ok, Err, Result}
use Rattle.std.specs.Global.{Global}
use Rattle.sexp.specs.declared.refusals.Refusal.{Refusal}
use Rattle.holder.specs.Placed.{Placed, erase}
use Rattle.rules.specs.Bindings.{fill}
use Rattle.rules.specs.Complete.{Complete}
use Rattle.rules.specs.Fits.{IsRule, Numbered}
use Rattle.rules.specs.Patterns.{Rule}
use Rattle.kandrivo.specs.declared.picking.Picked.{Picked}
use Rattle.kandrivo.specs.declared.picking.Picked.TheVariants.{Text, Refused, NoFit}
use Rattle.kandrivo.specs.Fits.{TextOf}

abbrev pub picked_text : Result (Vec ℕ Global) Refusal → Picked
picked_text (Ok t) = Text t
picked_text (Err k) = Refused k

-- the fit of a number, from 1, gives its text or why there is none; or no fit has the number, and so many there are
pub data PickTells (book : List Rule) (fits : List Numbered) (number : ℕ) : Picked → Type 0 where
  fit : {t : Result (Vec ℕ Global) Refusal} (before : ℕ) (f : Numbered) (q : Rule) → number ≡ suc before → slice_get fits before ≡ Some f → IsRule book f.rule q
      → TextOf (fill f.bindings q.template) t → PickTells book fits number (picked_text t)
  no_fit : (number ≡ 0) ⊎ (length fits < number) → PickTells book fits number (NoFit (length fits))

-- of the complete list
pub record Picks (book : List Rule) (tree : Placed) (number : ℕ) (p : Picked) : Type 0 where
  pub fits : List Numbered
  pub complete : Complete book (erase tree) fits
  pub tells : PickTells book fits number p
