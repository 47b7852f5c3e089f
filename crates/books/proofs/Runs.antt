-- What stands at the places of a text that a draft keeps.
use Rattle.std.proofs.Common.{◌≡◌, ℕ, true, eqb, List, Option, Some, sym, refl, ap, ◌∙◌, subst, inl, inr}
use Rattle.std.proofs.lemmas.Bool.{eq-eqb, eqb-true, cases_Bool}
use Rattle.sexp.specs.Reading.{verdict}
use Rattle.holder.specs.Placed.{Placed, nothing, atom_at, list_at, ◌or_else◌, run_at, front, inside, behind, Stands, IsList}
use Rattle.holder.proofs.Walk.{first_found, next_found}
use Rattle.texts.specs.Label.{accepts, text_tree}
use Rattle.texts.specs.Lawful.{lawful}
use Rattle.texts.specs.Walked.{run_from}
use Rattle.books.specs.Meant.{run_from_next, NextStands}

-- the run at a place begins at that place
pub placed_at : (p : ℕ) (t : Placed) → Stands (run_at p t) → front (run_at p t) ≡ Some p
placed_at p nothing s = absurd s
placed_at p (atom_at q a es) s =
    elim (cases_Bool (eqb p q)) as (λ _. front (run_at p (atom_at q a es)) ≡ Some p) [
      | inl e ↦ rw e (ap Some (sym (eqb-true p q e)))
      | inr e ↦ rw e (placed_at p es (rw e at s))
    ]
placed_at p (list_at q inner es) s =
    elim (cases_Bool (eqb p q)) as (λ _. front (run_at p (list_at q inner es)) ≡ Some p) [
      | inl e ↦ rw e (ap Some (sym (eqb-true p q e)))
      | inr e ↦ rw e (one_of (run_at p inner) (run_at p es) (rw e at s) (placed_at p inner) (placed_at p es))
    ]
  where
    one_of : (x y : Placed) → Stands (x or_else y) → (Stands x → front x ≡ Some p) → (Stands y → front y ≡ Some p) → front (x or_else y) ≡ Some p
    one_of nothing y s f g = g s
    one_of (atom_at r a xs) y s f g = f tt
    one_of (list_at r i xs) y s f g = f tt

-- a tree is the run at its own place
pub root_run : (p : ℕ) (t : Placed) → front t ≡ Some p → run_at p t ≡ t
root_run p nothing e = refl
root_run p (atom_at q a es) e = rw (eq-eqb p q (cc)) refl
root_run p (list_at q inner es) e = rw (eq-eqb p q (cc)) refl

-- an element stands where a run was found again
pub next_stands : (t : List ℕ) (x : Placed) → run_from_next t (front x) ≡ x → NextStands t (front x)
next_stands t nothing e = tt
next_stands t (atom_at p a es) e = rw e tt
next_stands t (list_at p inner es) e = rw e tt

module _ (t : List ℕ) (ok : accepts (verdict t) ≡ true) where
  -- a run that is found again at the place of its first element
  again : (x : Placed) → ((p : ℕ) → front x ≡ Some p → run_from t p ≡ x) → run_from_next t (front x) ≡ x
  again nothing f = refl
  again (atom_at p a es) f = f p refl
  again (list_at p inner es) f = f p refl

  pub first_run : (p q : ℕ) → IsList (run_from t p) → front (inside (run_from t p)) ≡ Some q → run_from t q ≡ inside (run_from t p)
  first_run p q s e = first_found (text_tree t) p q (lawful t ok).apart s e

  pub next_run : (p q : ℕ) → Stands (run_from t p) → front (behind (run_from t p)) ≡ Some q → run_from t q ≡ behind (run_from t p)
  next_run p q s e = next_found (text_tree t) p q (lawful t ok).apart s e

  pub inside_again : (p : ℕ) → IsList (run_from t p) → run_from_next t (front (inside (run_from t p))) ≡ inside (run_from t p)
  inside_again p s = again (inside (run_from t p)) (λ q e. first_run p q s e)

  pub behind_again : (p : ℕ) → Stands (run_from t p) → run_from_next t (front (behind (run_from t p))) ≡ behind (run_from t p)
  behind_again p s = again (behind (run_from t p)) (λ q e. next_run p q s e)

-- what is next, where it is known
pub stands_next : (t : List ℕ) (next : Option ℕ) (p : ℕ) → next ≡ Some p → NextStands t next → Stands (run_from t p)
stands_next t next p is held = subst (NextStands t) is held

-- and then what stands behind it
module _ (t : List ℕ) (ok : accepts (verdict t) ≡ true) (next : Option ℕ) (p : ℕ) (is : next ≡ Some p) (held : NextStands t next) (later : Option ℕ) (e : later ≡ front (behind (run_from t p))) where
  found : run_from_next t (front (behind (run_from t p))) ≡ behind (run_from t p)
  found = behind_again t ok p (stands_next t next p is held)

  pub passed_run : run_from_next t later ≡ behind (run_from_next t next)
  passed_run = ap (run_from_next t) e ∙ found ∙ ap (λ n. behind (run_from_next t n)) (sym is)

  pub passed_stands : NextStands t later
  passed_stands = subst (NextStands t) (sym e) (next_stands t (behind (run_from t p)) found)
