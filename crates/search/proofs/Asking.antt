-- A search through a book asks one rule behind the other: what it has found out so far, and what the first answer tells. Assumes nothing.
use Rattle.std.proofs.Common.{◌≡◌, ℕ, zero, suc, ◌+◌, ◌<◌, ◌≤◌, ◌⊎◌, inl, inr, ⊎_elim, ◌↔◌, List, [], ◌∷◌, length, Some, None, sym, refl, ap, ◌∙◌, subst, arith}
use Rattle.std.proofs.lemmas.Bool.{cases_order}
use Rattle.sexp.specs.Elements.{Elements}
use Rattle.rules.specs.Patterns.{Rule}
use Rattle.rules.specs.Bindings.{lengths}
use Rattle.rules.specs.Fits.{IsRule, Fit, Numbered, BookFit}
use Rattle.rules.specs.Keys.{Key, key, four, Before, by_rule, by_lengths}
use Rattle.rules.proofs.Orders.{before_tells}
use Rattle.search.specs.Least.{Position, start, behind, IsAfter, OfFit, LeastAfter}
use Rattle.search.specs.Books.{BookPosition, first, past, IsPast, LeastPast}

-- at most one rule has a number
pub one_rule : (book : List Rule) (n : ℕ) (q r : Rule) → IsRule book n q → IsRule book n r → q ≡ r
one_rule [] n q r h k = absurd h
one_rule (x ∷ book) zero q r h k = absurd h
one_rule (x ∷ book) (suc zero) q r h k = sym h ∙ k
one_rule (x ∷ book) (suc (suc n)) q r h k = one_rule book (suc n) q r h k

-- numbers of rules are from 1 up to the number of rules
pub rule_number : (book : List Rule) (n : ℕ) (r : Rule) → IsRule book n r → (1 ≤ n) × (n ≤ length book)
rule_number [] n r h = absurd h
rule_number (x ∷ book) zero r h = absurd h
rule_number (x ∷ book) (suc zero) r h = (omega arith, omega arith)
rule_number (x ∷ book) (suc (suc n)) r h = (omega arith, omega (arith, (rule_number book (suc n) r h).1))

-- and each of these is the number of one
pub rule_exists : (book : List Rule) (n : ℕ) → 1 ≤ n → n ≤ length book → (r : Rule) × IsRule book n r
rule_exists [] n l u = absurd (omega arith)
rule_exists (x ∷ book) zero l u = absurd (omega arith)
rule_exists (x ∷ book) (suc zero) l u = (x, refl)
rule_exists (x ∷ book) (suc (suc n)) l u = rule_exists book (suc n) (omega arith) (omega arith)

-- the keys of a rule's number past a position in a book are those whose lengths are after a position in the rule
pub record Asked (position : BookPosition) (n : ℕ) (from : Position) : Type 0 where
  pub same : (ls : List ℕ) → IsPast position (record { rule = n; lengths = ls }) ↔ IsAfter from ls

-- before all keys, each rule is asked from the start
pub asked-first : (n : ℕ) → Asked first n start
asked-first n = record { same = λ ls. ((λ h. h), (λ h. h)) }

-- behind a key, its own rule is asked behind its lengths
pub asked-own : (k : Key) (n : ℕ) → n ≡ k.rule → Asked (past k) n (behind k.lengths)
asked-own k n p = record {
  same = λ ls. (
    (λ b. ⊎_elim (λ h. absurd (omega (arith, h, p))) (λ s. s.1) (before_tells b)),
    (λ s. rw p (by_lengths s)),
  );
}

-- and each later rule from the start
pub asked-later : (k : Key) (n : ℕ) → k.rule < n → Asked (past k) n start
asked-later k n l = record { same = λ ls. ((λ b. tt), (λ h. by_rule l)) }

-- no fit of a rule whose number is below n is past the position
pub record NoneBelow (book : List Rule) (e : Elements) (position : BookPosition) (n : ℕ) : Type 0 where
  pub none : (f : Numbered) → BookFit book e f → f.rule < n → IsPast position (key f) → ⊥

-- a search may begin with rule 1, wherever its position is
pub none_below-one : (book : List Rule) (e : Elements) (position : BookPosition) → NoneBelow book e position 1
none_below-one book e position = record { none = λ f b l p. omega (arith, (rule_number book f.rule b.0 b.1).0) }

-- and behind a key with the key's rule
pub none_below-past : (book : List Rule) (e : Elements) (k : Key) → NoneBelow book e (past k) k.rule
none_below-past book e k = record {
  none = λ f b l p. ⊎_elim (λ h. omega arith) (λ s. omega (arith, s.0)) (before_tells p);
}

module _ {book : List Rule} {e : Elements} {position : BookPosition} {n : ℕ} where
  -- a fit past the position is of a later rule, or of rule n and past the position there
  later_or_own : (r : Rule) {from : Position} → IsRule book n r → Asked position n from → NoneBelow book e position n → (f : Numbered) → BookFit book e f → IsPast position (key f) →
      (n < f.rule) ⊎ ((f.rule ≡ n) × OfFit r.pattern e (four (lengths f.bindings)) × IsAfter from (four (lengths f.bindings)))
  later_or_own r i a h f b p = ⊎_elim
      (λ q. inr (
        q,
        (f.bindings, subst (λ (x : Rule). Fit x.pattern e f.bindings) (one_rule book n b.0 r (subst (λ x. IsRule book x b.0) q b.1) i) b.2, refl),
        (a.same (four (lengths f.bindings))).0 (subst (λ x. IsPast position (record { rule = x; lengths = four (lengths f.bindings) })) q p),
      ))
      (λ c. ⊎_elim (λ l. absurd (h.none f b l p)) inl c)
      (cases_order f.rule n)

  -- and where the rule of the number has no fit past the position
  pub none_below-next : (r : Rule) {from : Position} → IsRule book n r → Asked position n from → LeastAfter r.pattern e from None → NoneBelow book e position n → NoneBelow book e position (n + 1)
  none_below-next r i a none h = record {
    none = λ f b l p. ⊎_elim (λ c. omega arith) (λ t. none (four (lengths f.bindings)) t.1 t.2) (later_or_own r i a h f b p);
  }

  -- the first rule that answers tells the least key
  pub least_past-found : (r : Rule) {from : Position} (ls : List ℕ) → IsRule book n r → Asked position n from → LeastAfter r.pattern e from (Some ls) → NoneBelow book e position n →
      LeastPast book e position (Some (record { rule = n; lengths = ls }))
  least_past-found r ls i a least h = (
    (record { rule = n; bindings = least.0.0 }, (r, i, least.0.1), ap (λ x. record { rule = n; lengths = x }) least.0.2),
    (a.same ls).1 least.1,
    (λ l o p. subst (λ x. (record { rule = n; lengths = ls } ≡ x) ⊎ Before (record { rule = n; lengths = ls }) x) o.2 (other o.0 o.1 (subst (IsPast position) (sym o.2) p))),
  )
    where
      other : (f : Numbered) → BookFit book e f → IsPast position (key f) → (record { rule = n; lengths = ls } ≡ key f) ⊎ Before (record { rule = n; lengths = ls }) (key f)
      other f b p = ⊎_elim
          (λ c. inr (by_rule c))
          (λ t. rw (t.0) (⊎_elim (λ q. inl (ap (λ x. record { rule = n; lengths = x }) q)) (λ s. inr (by_lengths s)) (least.2 (four (lengths f.bindings)) t.1 t.2)))
          (later_or_own r i a h f b p)

  -- behind the last rule there is none
  pub least_past-none : length book < n → NoneBelow book e position n → LeastPast book e position None
  least_past-none l h k o p = h.none o.0 o.1 (omega (arith, (rule_number book o.0.rule o.1.0 o.1.1).1)) (subst (IsPast position) (sym o.2) p)
