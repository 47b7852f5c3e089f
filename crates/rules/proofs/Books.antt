-- The complete list of a book and a record: there is one, there is no other, and in it a key tells a fit. Assumes nothing.
use Rattle.std.proofs.Common.{◌≡◌, ℕ, zero, suc, ◌+◌, ◌<◌, ◌≤◌, ◌⊎◌, inl, inr, ⊎_elim, ◌↔◌, List, [], ◌∷◌, ◌++◌, length, sym, refl, ap, subst, arith}
use Rattle.sexp.specs.Elements.{Elements}
use Rattle.rules.specs.declared.signs.Sign.{Sign}
use Rattle.rules.specs.declared.signs.Sign.TheVariants.{Variable, Segment}
use Rattle.rules.specs.Patterns.{Rule, segments}
use Rattle.rules.specs.Bindings.{Binding, bound, width, lengths}
use Rattle.rules.specs.Fits.{Fit, IsRule, Numbered, BookFit}
use Rattle.rules.specs.Keys.{by_rule, by_lengths}
use Rattle.rules.specs.Complete.{In, InOrder, Complete, FewSegments, KeysTellFits, AtMostOneComplete, CompleteListExists}
use Rattle.rules.proofs.Orders.{in_left, in_right, in_either, smaller_four, before_all, order_append, one_of_key, one_list}
use Rattle.rules.proofs.Enumerating.{fits, fits-lists, Ascends}

-- bindings with a rule's number
abbrev numbered : ℕ → List (List Binding) → List Numbered
numbered n [] = []
numbered n (m ∷ ms) = record { rule = n; bindings = m } ∷ numbered n ms

-- the fits of a book behind n other rules
abbrev enumerate_behind : ℕ → List Rule → Elements → List Numbered
enumerate_behind n [] e = []
enumerate_behind n (r ∷ rs) e = numbered (suc n) (fits r.pattern e) ++ enumerate_behind (suc n) rs e

-- the fits of a book and a record, in order
abbrev pub enumerate : List Rule → Elements → List Numbered
enumerate book e = enumerate_behind 0 book e

in_numbered : (n : ℕ) (ms : List (List Binding)) (f : Numbered) → In f (numbered n ms) ↔ ((f.rule ≡ n) × In f.bindings ms)
in_numbered n [] f = ((λ i. absurd i), (λ p. absurd p.1))
in_numbered n (m ∷ ms) f = (
  (λ i. ⊎_elim (λ e. (ap (λ (g : Numbered). g.rule) e, inl (ap (λ (g : Numbered). g.bindings) e))) (λ j. let t = (in_numbered n ms f).0 j in (t.0, inr t.1)) i),
  (λ p. ⊎_elim (λ e. inl (same p.0 e)) (λ j. inr ((in_numbered n ms f).1 (p.0, j))) p.1),
)
  where
    same : f.rule ≡ n → f.bindings ≡ m → f ≡ record { rule = n; bindings = m }
    same p q = rw (← p, ← q) refl

-- a fit of a book behind n other rules
abbrev FitBehind : ℕ → List Rule → Elements → Numbered → Type 0
FitBehind n book e f = (k : ℕ) × (f.rule ≡ k + n) × BookFit book e (record { rule = k; bindings = f.bindings })

fit_first : (n : ℕ) (q : Rule) (rs : List Rule) (e : Elements) (f : Numbered) → FitBehind n (q ∷ rs) e f ↔ (((f.rule ≡ suc n) × Fit q.pattern e f.bindings) ⊎ FitBehind (suc n) rs e f)
fit_first n q rs e f = (
  (λ h. to h.0 h.1 h.2.0 h.2.1 h.2.2),
  (λ h. ⊎_elim (λ t. (1, omega arith, (q, refl, t.1))) (λ t. from rs t.0 t.1 t.2.0 t.2.1 t.2.2) h),
)
  where
    to : (k : ℕ) → f.rule ≡ k + n → (r : Rule) → IsRule (q ∷ rs) k r → Fit r.pattern e f.bindings → ((f.rule ≡ suc n) × Fit q.pattern e f.bindings) ⊎ FitBehind (suc n) rs e f
    to zero p r i t = absurd i
    to (suc zero) p r i t = inl (omega arith, subst (λ (x : Rule). Fit x.pattern e f.bindings) (sym i) t)
    to (suc (suc k)) p r i t = inr (suc k, omega arith, (r, i, t))

    from : (ss : List Rule) (k : ℕ) → f.rule ≡ k + suc n → (r : Rule) → IsRule ss k r → Fit r.pattern e f.bindings → FitBehind n (q ∷ ss) e f
    from [] k p r i t = absurd i
    from (s ∷ ss) zero p r i t = absurd i
    from (s ∷ ss) (suc k) p r i t = (suc (suc k), omega arith, (r, i, t))

rule_behind : (n : ℕ) (book : List Rule) (e : Elements) (f : Numbered) → FitBehind n book e f → n < f.rule
rule_behind n [] e f h = absurd h.2.1
rule_behind n (r ∷ rs) e f h = go h.0 h.1 h.2.1
  where
    go : (k : ℕ) → f.rule ≡ k + n → IsRule (r ∷ rs) k h.2.0 → n < f.rule
    go zero p i = absurd i
    go (suc k) p i = omega arith

-- a fit has as many lengths as its pattern has segments
pub lengths_segments : (m : List Binding) → length (lengths m) ≡ segments (bound m)
lengths_segments [] = refl
lengths_segments (x ∷ m) = go x.slot.sign (lengths_segments m)
  where
    go : (s : Sign) → length (lengths m) ≡ segments (bound m) → length {A = ℕ} (elim s [ Variable ↦ lengths m | Segment ↦ width x.run ∷ lengths m ]) ≡ elim s [ Variable ↦ segments (bound m) | Segment ↦ suc (segments (bound m)) ]
    go Variable h = h
    go Segment h = ap suc h

-- in order
numbered_order : (n : ℕ) (ms : List (List Binding)) → Ascends ms → ((m : List Binding) → In m ms → length (lengths m) ≤ 4) → InOrder (numbered n ms)
numbered_order n [] a few = tt
numbered_order n (m ∷ ms) a few = (
  before_all _ (numbered n ms) (λ f i. let t = (in_numbered n ms f).0 i in
      rw (t.0) (by_lengths (smaller_four (a.0 f.bindings t.1) (few m (inl refl))))),
  numbered_order n ms a.1 (λ x i. few x (inr i)),
)

behind_complete : (n : ℕ) (book : List Rule) (e : Elements) → FewSegments book →
    ((f : Numbered) → FitBehind n book e f ↔ In f (enumerate_behind n book e)) × InOrder (enumerate_behind n book e)
behind_complete n [] e few = ((λ f. ((λ h. absurd h.2.1), (λ i. absurd i))), tt)
behind_complete n (r ∷ rs) e few =
    let l = fits-lists r.pattern e in
    let t = behind_complete (suc n) rs e few.1 in
    let ones = numbered (suc n) (fits r.pattern e) in
    let others = enumerate_behind (suc n) rs e in (
      (λ f. (
        (λ h. ⊎_elim
            (λ a. in_left f ones others ((in_numbered (suc n) (fits r.pattern e) f).1 (a.0, l.each f.bindings a.1)))
            (λ b. in_right f ones others ((t.0 f).0 b))
            ((fit_first n r rs e f).0 h)),
        (λ i. (fit_first n r rs e f).1 (⊎_elim
            (λ a. let q = (in_numbered (suc n) (fits r.pattern e) f).0 a in inl (q.0, l.only f.bindings q.1))
            (λ b. inr ((t.0 f).1 b))
            (in_either f ones others i))),
      )),
      order_append ones others
          (numbered_order (suc n) (fits r.pattern e) l.ascends (λ m i. let q = ap segments (l.only m i).names in omega (arith, few.0, lengths_segments m)))
          t.1
          (λ f g i j.
          let p : f.rule ≡ suc n = ((in_numbered (suc n) (fits r.pattern e) f).0 i).0 in
          by_rule (omega (arith, rule_behind (suc n) rs e g ((t.0 g).1 j)))),
    )

pub enumerate_complete : (book : List Rule) (e : Elements) → FewSegments book → Complete book e (enumerate book e)
enumerate_complete book e few =
    let t = behind_complete 0 book e few in
    record {
      each = λ f h. (t.0 f).0 (f.rule, omega arith, h);
      only = λ f i. let b = (t.0 f).1 i in let p : b.0 ≡ f.rule = omega (arith, b.1) in subst (λ k. BookFit book e (record { rule = k; bindings = f.bindings })) p b.2;
      in_order = t.1;
    }

-- the laws
pub complete_list_exists : CompleteListExists
complete_list_exists book e few = (enumerate book e, enumerate_complete book e few)

pub at_most_one_complete : AtMostOneComplete
at_most_one_complete book e fs gs h k = one_list fs gs h.in_order k.in_order (λ f i. k.each f (h.only f i)) (λ f i. h.each f (k.only f i))

pub keys_tell_fits : KeysTellFits
keys_tell_fits book e f g few h k p =
    let c = enumerate_complete book e few in
    one_of_key (enumerate book e) c.in_order f g (c.each f h) (c.each g k) p
