-- Which element is without a node, a token at a time, and what is loaded from a cursor on. Assumes nothing.
use Rattle.std.proofs.Common.{◌≡◌, ℕ, zero, suc, ◌+◌, ◌-◌, ◌<◌, ◌≤◌, List, [], ◌∷◌, length, drop, Some, None, Option, refl, ap, ◌∙◌, ap₂, add-one, arith}
use Rattle.std.proofs.lemmas.List.{drop-drop}
use Rattle.sexp.specs.declared.refusals.Refusal.{Refusal}
use Rattle.sexp.specs.declared.tokens.Cursor.{Cursor}
use Rattle.sexp.specs.Elements.{octets, Elements, none, atom}
use Rattle.sexp.specs.Reading.{opening, closing, string, fault, lexeme, Reading, onward, opened}
use Rattle.sexp.specs.Tokens.{lexeme_at}
use Rattle.sexp.proofs.Spanned.{opens, passes}
use Rattle.sexp.proofs.Steps.{strung}
use Rattle.loading.specs.Lacking.{taken, lacking}
use Rattle.loading.specs.Fills.{placed, loading_at}

-- octets of an atom are passed over
pub lack_skip : (end left k depth count at : ℕ) (t : List ℕ) → k ≤ length t → lacking end left k depth count at t ≡ lacking end left 0 depth count (at + k) (drop k t)
lack_skip end left zero depth count at t h = ap (λ x. lacking end left 0 depth count x t) (omega arith)
lack_skip end left (suc k) depth count at [] h = absurd (omega arith)
lack_skip end left (suc k) depth count at (o ∷ rest) h = lack_skip end left k depth count (at + 1) rest (omega arith) ∙ ap (λ x. lacking end left 0 depth count x (drop k rest)) (omega arith)

module _ (end left depth count at : ℕ) where
  pub lack_opening : (t : List ℕ) → lexeme end depth count at t ≡ opening → lacking end left 0 depth count at t ≡ taken left at (lacking end (left - 1) 0 (depth + 1) (count + 1) (at + 1) (drop 1 t))
  lack_opening [] e = cc
  lack_opening (o ∷ rest) e = rw (e, lacking)

  pub lack_closing : (t : List ℕ) → lexeme end depth count at t ≡ closing → lacking end left 0 depth count at t ≡ lacking end left 0 (depth - 1) count (at + 1) (drop 1 t)
  lack_closing [] e = cc
  lack_closing (o ∷ rest) e = rw (e, lacking)

  -- a string, with its octets still to be passed over, and without
  pub lack_token : (o : ℕ) (rest os : List ℕ) (more : ℕ) → lexeme end depth count at (o ∷ rest) ≡ string os more → lacking end left 0 depth count at (o ∷ rest) ≡ taken left at (lacking end (left - 1) more depth (count + 1) (at + 1) rest)
  lack_token o rest os more e = rw (e, lacking)

  pub lack_string : (t os : List ℕ) (more : ℕ) → lexeme end depth count at t ≡ string os more → lacking end left 0 depth count at t ≡ taken left at (lacking end (left - 1) 0 depth (count + 1) (at + (more + 1)) (drop (more + 1) t))
  lack_string [] os more e = cc
  lack_string (o ∷ rest) os more e = lack_token o rest os more e ∙ ap (taken left at) (lack_skip end (left - 1) more depth (count + 1) (at + 1) rest fits ∙ further)
    where
      fits : more ≤ length rest
      fits = omega (arith, (strung end depth count at (o ∷ rest) os more e).within)

      further : lacking end (left - 1) 0 depth (count + 1) (at + 1 + more) (drop more rest) ≡ lacking end (left - 1) 0 depth (count + 1) (at + (more + 1)) (drop (more + 1) (o ∷ rest))
      further = rw (add-one more) (ap (λ x. lacking end (left - 1) 0 depth (count + 1) x (drop more rest)) (omega arith))

  pub lack_fault : (t : List ℕ) (r : Refusal) → lexeme end depth count at t ≡ fault r → lacking end left 0 depth count at t ≡ None
  lack_fault [] r e = refl
  lack_fault (o ∷ rest) r e = rw (e, lacking)

pub taken_some : (left at : ℕ) (later : Option ℕ) → 0 < left → taken left at later ≡ later
taken_some zero at later h = absurd (omega arith)
taken_some (suc left) at later h = refl

-- a want of a node, before what is read
pub placed_opened : (l : Option ℕ) (r : Reading) → placed l (opened r) ≡ opened (placed l r)
placed_opened (Some at) r = refl
placed_opened None r = refl

pub placed_onward : (es : Elements) (l : Option ℕ) (r : Reading) → placed l (onward es r) ≡ onward es (placed l r)
placed_onward es (Some at) r = refl
placed_onward es None r = refl

-- what is loaded from a cursor on, by the token there
module _ (left : ℕ) (from : Cursor) where
  moved : (k : ℕ) → drop k (drop from.at from.text.now) ≡ drop (from.at + k) from.text.now
  moved k = drop-drop k from.at from.text.now

  pub load_opens : lexeme_at from ≡ opening → 0 < left → loading_at left from ≡ opened (loading_at (left - 1) (record { text = from.text; at = from.at + 1; depth = from.depth + 1; count = from.count + 1 }))
  load_opens e some =
      ap₂ placed
      (lack_opening (length from.text.now) left from.depth from.count from.at (drop from.at from.text.now) e
      ∙ taken_some left from.at _ some
      ∙ ap (lacking (length from.text.now) (left - 1) 0 (from.depth + 1) (from.count + 1) (from.at + 1)) (moved 1))
      (opens from e).0
      ∙ placed_opened _ _

  pub load_passes : (os : List ℕ) (more : ℕ) → lexeme_at from ≡ string os more → 0 < left → loading_at left from ≡ onward (atom (octets os) none) (loading_at (left - 1) (record { text = from.text; at = from.at + (more + 1); depth = from.depth; count = from.count + 1 }))
  load_passes os more e some =
      ap₂ placed
      (lack_string (length from.text.now) left from.depth from.count from.at (drop from.at from.text.now) os more e
      ∙ taken_some left from.at _ some
      ∙ ap (lacking (length from.text.now) (left - 1) 0 from.depth (from.count + 1) (from.at + (more + 1))) (moved (more + 1)))
      (passes from os more e).0
      ∙ placed_onward (atom (octets os) none) _ _
