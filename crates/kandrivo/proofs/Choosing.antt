-- How the fit of a number is looked for. Assumes nothing.
use Rattle.std.proofs.Common.{◌≡◌, ℕ, ◌+◌, ◌<◌, ◌⊎◌, inl, inr, ⊎_elim, Bool, false, true≢false, List, length, Result, Vec, Global, sym, refl, ◌∙◌, subst, subst₂, arith}
use Rattle.std.proofs.lemmas.Bool.{cases_lt}
use Rattle.sexp.specs.declared.refusals.Refusal.{Refusal}
use Rattle.holder.specs.Placed.{Placed, erase}
use Rattle.rules.specs.Complete.{Complete}
use Rattle.rules.specs.Fits.{IsRule, Numbered}
use Rattle.rules.specs.Lawful.{LawfulBook}
use Rattle.rules.specs.Patterns.{Rule}
use Rattle.kandrivo.specs.declared.fits.Told.{Told}
use Rattle.kandrivo.specs.declared.fits.Told.TheVariants.{Fit, End}
use Rattle.kandrivo.specs.declared.picking.Picked.TheVariants.{NoFit}
use Rattle.kandrivo.specs.Fits.{Reached, TellsNext, fit, end, GoesOn, TellsText, stands, none, GivesText}
use Rattle.kandrivo.specs.Picks.{picked_text, PickTells, fit as pick_fit, no_fit, Picks}
use Rattle.kandrivo.proofs.Reaching.{list_at, complete_at, told_by_list}

-- the fits of a book and a record are told, and none so far has the number
pub record Before (book : List Rule) (held : Placed) (number : ℕ) (r : Reached) : Type 0 where
  pub rules : r.rules ≡ book
  pub tree : r.tree ≡ held
  pub before : 0 < number → r.told < number

-- one more is told
abbrev OneMore : Reached → (n now : ℕ) → Bool → Type 0
OneMore old n now ends = (n ≡ old.told + 1) × ((now ≡ old.told + 1) × (ends ≡ false))

one_more : {old new : Reached} {rule n : ℕ} → LawfulBook new.rules → GoesOn old (Fit rule n) new → OneMore old n new.told new.ended
one_more {old} {new} {rule} {n} lawful g = go (Fit rule n) refl (told_by_list lawful g)
  where
    go : {fits : List Numbered} {now : ℕ} {ends : Bool} (t : Told) → t ≡ Fit rule n → TellsNext fits old.told t now ends → OneMore old n now ends
    go t e (fit g) = (cc, (refl, refl))
    go t e (end l) = absurd cc

module _ {book : List Rule} {held : Placed} {number : ℕ} {old new : Reached} {n : ℕ} where
  -- it has another number
  pub still_before : {rule : ℕ} → LawfulBook new.rules → Before book held number old → GoesOn old (Fit rule n) new → (n ≡ number → ⊥) → Before book held number new
  still_before lawful b g other =
      let m = one_more lawful g in
      record { rules = g.rules ∙ b.rules; tree = g.tree ∙ b.tree; before = λ h. let l = b.before h in omega (arith, m.0, m.1.0) }

  -- it has the number, and its text is told
  pub picks_fit : {rule : ℕ} {t : Result (Vec ℕ Global) Refusal} → LawfulBook new.rules → Before book held number old → GoesOn old (Fit rule n) new → n ≡ number → GivesText new t → Picks book held number (picked_text t)
  picks_fit {t} lawful b g is text =
      let c = complete_at new lawful in
      record { fits = list_at new; complete = subst₂ (λ x y. Complete x (erase y) (list_at new)) (g.rules ∙ b.rules) (g.tree ∙ b.tree) c; tells = go t (one_more lawful g) (text (list_at new) c) }
    where
      go : (t : Result (Vec ℕ Global) Refusal) → OneMore old n new.told new.ended → TellsText new (list_at new) t → PickTells book (list_at new) number (picked_text t)
      go t m (stands f q s x) = pick_fit s.last f q (omega (arith, m.0, m.1.0, s.is_last)) s.is (subst (λ rs. IsRule rs f.rule q) (g.rules ∙ b.rules) s.rule) x
      go t m (none h) = absurd (⊎_elim (λ z. omega (arith, m.1.0)) (λ z. true≢false (sym z ∙ m.1.1)) h)

  -- all are told, and none has the number
  pub picks_none : LawfulBook new.rules → Before book held number old → GoesOn old (End n) new → Picks book held number (NoFit n)
  picks_none lawful b g = record {
    fits = list_at old;
    complete = subst₂ (λ x y. Complete x (erase y) (list_at old)) b.rules b.tree (complete_at old (subst LawfulBook g.rules lawful));
    tells = go (End n) refl (told_by_list lawful g);
  }
    where
      none_has : {k : ℕ} → old.told ≡ k → (number ≡ 0) ⊎ (k < number)
      none_has e = ⊎_elim (λ h. let l = b.before h in inr (omega arith)) (λ h. inl (omega arith)) (cases_lt 0 number)

      go : {now : ℕ} {ends : Bool} (t : Told) → t ≡ End n → TellsNext (list_at old) old.told t now ends → PickTells book (list_at old) number (NoFit n)
      go t e (end l) = let all : length (list_at old) ≡ n = cc in subst (λ x. PickTells book (list_at old) number (NoFit x)) all (no_fit (none_has l))
      go t e (fit g) = absurd cc
