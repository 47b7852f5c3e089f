-- The rules of a book by their numbers.
use Rattle.std.proofs.Common.{◌≡◌, ℕ, zero, suc, ◌-◌, ◌<◌, ◌≤◌, List, [], ◌∷◌, length, get_or, take, Some, None, Ok, Result, sym, refl, ap, ◌∙◌, subst, arith}
use Rattle.std.specs.Prelude.{map}
use Rattle.std.specs.Result.{result_ok}
use Rattle.sexp.specs.declared.refusals.Refusal.{Refusal}
use Rattle.holder.specs.Placed.{erase, front, inside, behind, Stands, IsList}
use Rattle.holder.specs.Walks.{first_of}
use Rattle.texts.specs.declared.record.TextRecord.{TextRecord}
use Rattle.texts.specs.Walked.{run_from}
use Rattle.rules.specs.Bindings.{width}
use Rattle.rules.specs.Fits.{IsRule}
use Rattle.rules.specs.Patterns.{Rule, Slot, names}
use Rattle.books.specs.declared.checking.Side.TheVariants.{Pattern}
use Rattle.books.specs.Checks.{Reads, RuleStands}
use Rattle.books.specs.Drafts.{rule_verdict}
use Rattle.books.specs.Items.{first_items}
use Rattle.books.specs.Meant.{rule_at, AllTaken, Keeps, NoneHas, NamesOf, RuleHeld}
use Rattle.books.specs.Scanning.{scan}
use Rattle.books.proofs.Lawful.{verdict_list, verdict_two, verdict_written, verdict_names, verdict_lawful}
use Rattle.books.proofs.Halves.{pattern_run, pattern_stands, no_second, template_run, template_stands}

none_numbered : (rules : List Rule) (r : Rule) → IsRule rules 0 r → ⊥
none_numbered [] r h = h
none_numbered (q ∷ rules) r h = h

module _ (t : List ℕ) where
  rule_in : (ps : List ℕ) (k : ℕ) → k < length ps → IsRule (map (rule_at t) ps) (suc k) (rule_at t (get_or ps k 0))
  rule_in [] k h = absurd (omega arith)
  rule_in (p ∷ ps) zero h = refl
  rule_in (p ∷ ps) (suc k) h = rule_in ps k (omega arith)

  rule_past : (ps : List ℕ) (k : ℕ) (r : Rule) → length ps ≤ k → IsRule (map (rule_at t) ps) (suc k) r → ⊥
  rule_past [] k r h i = i
  rule_past (p ∷ ps) zero r h i = omega arith
  rule_past (p ∷ ps) (suc k) r h i = rule_past ps k r (omega arith) i

  taken_in : (ps : List ℕ) (k : ℕ) → AllTaken t ps → k < length ps
      → rule_verdict (run_from t (get_or ps k 0)) ≡ Ok (rule_at t (get_or ps k 0))
  taken_in [] k all h = absurd (omega arith)
  taken_in (p ∷ ps) zero all h = all.0
  taken_in (p ∷ ps) (suc k) all h = taken_in ps k all.1 (omega arith)

-- no rule has the number 0
pub no_zero : (rules : List Rule) (n : ℕ) → n < 1 → NoneHas rules n
no_zero rules n h r i =
    let e : n ≡ 0 = omega arith in
    none_numbered rules r (rw e at i)

-- the rule of the number n is at the index k
module _ {t ps : List ℕ} {taken : ℕ} (kept : Keeps t ps taken) (n : ℕ) {k : ℕ} (index : (1 ≤ n) × (k ≡ n - 1)) where
  number : suc k ≡ n
  number = omega (arith, index.0, index.1)

  pub past : length (take taken ps) ≤ k → NoneHas (map (rule_at t) (take taken ps)) n
  past h r i = rule_past t (take taken ps) k r h (rw (← number) at i)

  -- it stands at p
  pub standing : {p : ℕ} → k < length (take taken ps) → p ≡ get_or (take taken ps) k 0
      → (q : Rule) × IsRule (map (rule_at t) (take taken ps)) n q × (rule_verdict (run_from t p) ≡ Ok q)
  standing {p} h at = (
    rule_at t p,
    subst (λ m. IsRule (map (rule_at t) (take taken ps)) m (rule_at t p)) number (rw at (rule_in t (take taken ps) k h)),
    rw at (taken_in t (take taken ps) k kept.each h),
  )

-- the rule of the number n stands at p
module _ (rules : List Rule) (n : ℕ) (text : TextRecord) (p : ℕ) (found : RuleStands rules n (Some (text, p))) where
  abbrev t : List ℕ
  t = text.text.now

  abbrev q : Rule
  q = found.0

  rule_list : IsList (run_from t p)
  rule_list = verdict_list (run_from t p) q found.2

  two : width (erase (inside (run_from t p))) ≡ 2
  two = verdict_two (run_from t p) q found.2

  -- its pattern is at a
  module _ {a : ℕ} (first : Some a ≡ front (inside (run_from t p))) where
    run : run_from t a ≡ inside (run_from t p)
    run = pattern_run t text.ok p a rule_list first

    pub at_pattern : Stands (run_from t a)
    at_pattern = pattern_stands t text.ok p a rule_list first

    pub names_read : (r : Result (List Slot) Refusal)
        → Reads (scan Pattern (record { elements = 0; names = [] }) (first_items (run_from t a))) r
        → NamesOf rules n (result_ok r)
    names_read r reads =
        let e : r ≡ Ok (names q.pattern) =
        subst (λ o. Reads o r) (verdict_names (run_from t p) q found.2) (rw run at reads) in
        rw e (q, found.1, refl)

    -- it has a template
    pub no_template : None ≡ front (behind (run_from t a)) → NoneHas rules n
    no_template none = absurd (no_second t text.ok p a rule_list first none rule_list two)

    -- which is at b
    pub lies : {b : ℕ} → Some b ≡ front (behind (run_from t a))
        → RuleHeld rules n (Some (record { text = text; pattern = a; template = b }))
    lies {b} second =
        let both = verdict_written (run_from t p) q found.2 in (
          q,
          found.1,
          record {
            lawful = verdict_lawful (run_from t p) q found.2;
            pattern = record { stands = at_pattern; writes = ap first_of run ∙ sym both.0 };
            template = record {
              stands = template_stands t text.ok p a rule_list first b second;
              writes = ap first_of (template_run t text.ok p a rule_list first b second) ∙ sym both.1;
            };
          },
        )
