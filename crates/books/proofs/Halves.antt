-- Lists of two elements, and the verdict on one.
use Rattle.std.proofs.Common.{◌≡◌, ℕ, true, List, [], Some, None, Ok, Err, Result, sym, refl, ap, ◌∙◌, ◌+◌, arith}
use Rattle.std.proofs.lemmas.Bool.{eq-eqb, ne_eqb}
use Rattle.sexp.specs.Reading.{verdict}
use Rattle.sexp.specs.declared.refusals.Refusal.{Refusal}
use Rattle.sexp.specs.declared.refusals.Refusal.TheVariants.{NotAList}
use Rattle.holder.specs.Placed.{Placed, nothing, atom_at, list_at, erase, front, inside, behind, Stands, IsList}
use Rattle.holder.proofs.Walk.{front_stands}
use Rattle.texts.specs.Label.{accepts}
use Rattle.texts.specs.Walked.{run_from}
use Rattle.rules.specs.Bindings.{width}
use Rattle.rules.specs.Patterns.{Slot}
use Rattle.books.specs.declared.checking.Side.TheVariants.{Pattern, Template}
use Rattle.books.specs.Items.{first_items}
use Rattle.books.specs.Scanning.{Seen, scan}
use Rattle.books.specs.Checks.{Halves, Reads}
use Rattle.books.specs.Drafts.{rule_of, sides_verdict, rule_verdict}
use Rattle.books.proofs.Runs.{first_run, next_run}

-- how many elements a run has, from what stands behind its first
width_more : (x : Placed) (p : ℕ) → front x ≡ Some p → width (erase x) ≡ width (erase (behind x)) + 1
width_more nothing p e = cc
width_more (atom_at q a es) p e = omega arith
width_more (list_at q inner es) p e = omega arith

width_none : (x : Placed) → front x ≡ None → width (erase x) ≡ 0
width_none nothing e = refl
width_none (atom_at q a es) e = cc
width_none (list_at q inner es) e = cc

module _ (x : Placed) (p : ℕ) (first : front x ≡ Some p) where
  alone : front (behind x) ≡ None → width (erase x) ≡ 2 → ⊥
  alone none w = omega (arith, width_more x p first, width_none (behind x) none)

  module _ (q : ℕ) (second : front (behind x) ≡ Some q) where
    two : front (behind (behind x)) ≡ None → width (erase x) ≡ 2
    two none = omega (arith, width_more x p first, width_more (behind x) q second, width_none (behind (behind x)) none)

    three : (r : ℕ) → front (behind (behind x)) ≡ Some r → width (erase x) ≡ 2 → ⊥
    three r third w =
        omega (arith, width_more x p first, width_more (behind x) q second, width_more (behind (behind x)) r third)

-- the elements of the list at a place, the first of which is at p
module _ (t : List ℕ) (ok : accepts (verdict t) ≡ true) (place p : ℕ) (list : IsList (run_from t place)) (first : Some p ≡ front (inside (run_from t place))) where
  pub pattern_run : run_from t p ≡ inside (run_from t place)
  pattern_run = first_run t ok place p list (sym first)

  pub pattern_stands : Stands (run_from t p)
  pattern_stands = rw pattern_run (front_stands p (inside (run_from t place)) (sym first))

  pub no_second : None ≡ front (behind (run_from t p)) → Halves t (run_from t place) None
  no_second none l w =
      alone (inside (run_from t place)) p (sym first) (ap (λ x. front (behind x)) (sym pattern_run) ∙ sym none) w

  -- the second is at q
  module _ (q : ℕ) (second : Some q ≡ front (behind (run_from t p))) where
    pub template_run : run_from t q ≡ behind (inside (run_from t place))
    template_run = next_run t ok p q pattern_stands (sym second) ∙ ap behind pattern_run

    behind_pattern : front (behind (inside (run_from t place))) ≡ Some q
    behind_pattern = ap (λ x. front (behind x)) (sym pattern_run) ∙ sym second

    pub template_stands : Stands (run_from t q)
    template_stands = rw template_run (front_stands q (behind (inside (run_from t place))) behind_pattern)

    pub no_third : None ≡ front (behind (run_from t q)) → Halves t (run_from t place) (Some (p, q))
    no_third none =
        let end : front (behind (behind (inside (run_from t place)))) ≡ None = ap (λ x. front (behind x)) (sym template_run) ∙ sym none in
        (list, two (inside (run_from t place)) p (sym first) q behind_pattern end, pattern_run, template_run)

    pub third : (r : ℕ) → Some r ≡ front (behind (run_from t q)) → Halves t (run_from t place) None
    third r e l w =
        three (inside (run_from t place)) p (sym first) q behind_pattern r (ap (λ x. front (behind x)) (sym template_run) ∙ sym e) w

-- the verdict on an element that is no list of two
pub no_rule : (r : Placed) (p : ℕ) → front r ≡ Some p → (IsList r → width (erase (inside r)) ≡ 2 → ⊥) → rule_verdict r ≡ Err (NotAList p)
no_rule nothing p e h = cc
no_rule (atom_at q a es) p e h = cc
no_rule (list_at q inner es) p e h = rw (ne_eqb (width (erase inner)) 2 (h tt)) (cc)

-- and on one that is
pub sides : (r : Placed) → IsList r → width (erase (inside r)) ≡ 2 → rule_verdict r ≡ sides_verdict (inside r) (behind (inside r))
sides nothing s w = absurd s
sides (atom_at q a es) s w = absurd s
sides (list_at q inner es) s w = rw (eq-eqb (width (erase inner)) 2 w) refl

-- a side that is passed, and its names
pub record Passed (o : Result Seen Refusal) (ns : List Slot) : Type 0 where
  pub seen : Seen
  pub is : o ≡ Ok seen
  pub names : ns ≡ seen.names

pub passed : (o : Result Seen Refusal) (ns : List Slot) → Reads o (Ok ns) → Passed o ns
passed (Ok seen) ns h = record { seen = seen; is = refl; names = cc }
passed (Err k) ns h = cc

-- both sides are passed
pub both : (pattern template : Placed) (names later : List Slot)
    → Reads (scan Pattern (record { elements = 0; names = [] }) (first_items pattern)) (Ok names)
    → Reads (scan Template (record { elements = 0; names = names }) (first_items template)) (Ok later)
    → sides_verdict pattern template ≡ Ok (rule_of pattern template)
both pattern template names later p t =
    let first = passed _ names p in
    let second = passed _ later t in
    let e : scan Template (record { elements = 0; names = first.seen.names }) (first_items template) ≡ Ok second.seen =
    ap (λ ns. scan Template (record { elements = 0; names = ns }) (first_items template)) (sym first.names) ∙ second.is in
    rw (first.is, sides_verdict, e) refl
