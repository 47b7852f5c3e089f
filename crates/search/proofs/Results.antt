-- What a search tells when its goals are met, and when it fails. Assumes nothing.
use Rattle.std.proofs.Common.{◌≡◌, ℕ, zero, suc, ◌≤◌, inl, inr, ⊎_elim, ◌↔◌, List, [], ◌∷◌, ◌++◌, Some, None, length, take, sym, refl, ap, ◌∙◌, subst, subst₂, arith}
use Rattle.std.proofs.lemmas.List.{take_all}
use Rattle.sexp.specs.Elements.{Elements}
use Rattle.rules.specs.Patterns.{Pattern, names, segments}
use Rattle.rules.specs.Bindings.{Binding, lengths}
use Rattle.rules.specs.Fits.{Fit}
use Rattle.rules.specs.Keys.{four, Smaller, here, later}
use Rattle.rules.specs.Goals.{Completes}
use Rattle.rules.proofs.Orders.{smaller_apart}
use Rattle.rules.proofs.Books.{lengths_segments}
use Rattle.rules.proofs.Completing.{completes-nothing}
use Rattle.search.specs.States.{State, Later}
use Rattle.search.specs.Least.{Position, behind, IsAfter, OfFit, LeastAfter}
use Rattle.search.specs.Covering.{Aim, past, along, Allowed, Wanted, tried, Covers, CoversLater, Dead}
use Rattle.search.proofs.Order.{later_four, later_behind}
use Rattle.search.proofs.Covering.{chained-linked}

-- what is met later is past the position from which the search goes on
later_tried : {p : Pattern} {e : Elements} (aim : Aim) (s : State) → Covers p e aim s → (m : List Binding) → Later s.choices m → IsAfter (tried aim) (four (lengths m))
later_tried (past position) s h m l = (h.sound m (inr l)).1
later_tried (along ks) s h m l = later_behind s.bound s.choices m ks h.laid.left h.chained l h.laid.long h.laid.parts

-- what is past that position is to be met
tried_wanted : (aim : Aim) (ls : List ℕ) → IsAfter (tried aim) ls → Wanted aim ls
tried_wanted (past position) ls a = a
tried_wanted (along ks) ls a = inr a

-- behind a dead end it goes on at the choice points
pub covers-dead : {p : Pattern} {e : Elements} {aim : Aim} {s : State} → Covers p e aim s → Dead aim s → CoversLater p e (tried aim) s.choices
covers-dead {aim} {s} h n = record {
  sound = λ m l. ((h.sound m (inr l)).0, later_tried aim s h m l);
  whole = λ m f a. let w = tried_wanted aim (four (lengths m)) a in ⊎_elim (λ c. absurd (n.unmet m c w)) (λ l. l) (h.whole m f w);
  linked = chained-linked s.bound s.choices h.chained;
}

-- and where this is met while lengths are laid, these belong to no fit
pub dead_no_fit : {p : Pattern} {e : Elements} {ks : List ℕ} {s : State} → Covers p e (along ks) s → Dead (along ks) s → OfFit p e ks → ⊥
dead_no_fit {ks} {s} h n o = ⊎_elim (λ c. n.unmet o.0 c (inl o.2)) (λ l. smaller_apart (later_tried (along ks) s h o.0 l) (sym o.2)) (h.whole o.0 o.1 (inl o.2))

-- where no goal is left, the bindings are all that completes them
pub ended : (s : State) (m : List Binding) → s.goals ≡ [] → Completes s.bound s.goals m ↔ (m ≡ s.bound)
ended s m g = rw g (completes-nothing s.bound m)

-- they are a fit
pub covers-fit : {p : Pattern} {e : Elements} {aim : Aim} {s : State} → s.goals ≡ [] → Covers p e aim s → Fit p e s.bound × Allowed aim (four (lengths s.bound))
covers-fit {s} g h = h.sound s.bound (inl ((ended s s.bound g).1 refl))

-- lengths of a fit of a pattern with at most four segments
pub few_lengths : {p : Pattern} {e : Elements} {m : List Binding} → segments (names p) ≤ 4 → Fit p e m → length (lengths m) ≤ 4
few_lengths {m} few f = omega (arith, few, lengths_segments m, ap segments f.names)

-- and have the least lengths past the position
pub least_met : {p : Pattern} {e : Elements} {position : Position} {s : State} → segments (names p) ≤ 4 → s.goals ≡ [] → Covers p e (past position) s → LeastAfter p e position (Some (four (lengths s.bound)))
least_met {p} {e} {position} {s} few g h = (
  (s.bound, fit.0, refl),
  fit.1,
  (λ ks o a. ⊎_elim
      (λ c. inl (ap (λ x. four (lengths x)) (sym ((ended s o.0 g).0 c)) ∙ o.2))
      (λ l. inr (subst (λ x. Smaller (four (lengths s.bound)) x) o.2 (later_four s.bound s.choices o.0 h.chained l (few_lengths few fit.0))))
      (h.whole o.0 o.1 (subst (IsAfter position) (sym o.2) a))),
)
  where
    fit : Fit p e s.bound × IsAfter position (four (lengths s.bound))
    fit = covers-fit g h

-- where no choice point is left, there are none past it
pub least_none : {p : Pattern} {e : Elements} {position : Position} → CoversLater p e position [] → LeastAfter p e position None
least_none {position} h ks o a = h.whole o.0 o.1 (subst (IsAfter position) (sym o.2) a)

-- lengths, filled with 0, are not behind those that go on in another way
abbrev Zeros : List ℕ → Type 0
Zeros [] = Unit {0}
Zeros (l ∷ ls) = (l ≡ 0) × Zeros ls

zeros_not_behind : {ks ls : List ℕ} → Smaller ks ls → Zeros ls → ⊥
zeros_not_behind (here h) z = omega (arith, z.0)
zeros_not_behind (later s) z = zeros_not_behind s z.1

zeros_take : (k : ℕ) (ls : List ℕ) → Zeros ls → Zeros (take k ls)
zeros_take zero ls z = tt
zeros_take (suc k) [] z = tt
zeros_take (suc k) (l ∷ ls) z = (z.0, zeros_take k ls z.1)

smaller_tail : {ms ns xs ys : List ℕ} {n : ℕ} → Smaller ms ns → ms ≡ n ∷ xs → ns ≡ n ∷ ys → Smaller xs ys
smaller_tail {n} (here {m = a} {n = b} h) p q = let x : a ≡ n = cc in let y : b ≡ n = cc in absurd (omega arith)
smaller_tail {xs} {ys} (later {ms} {ns} s) p q = let x : ms ≡ xs = cc in let y : ns ≡ ys = cc in subst₂ Smaller x y s

filled_not_behind : (k : ℕ) (ls left zs : List ℕ) → Zeros zs → Smaller (take k (ls ++ left)) (take k (ls ++ zs)) → ⊥
filled_not_behind k [] left zs z s = zeros_not_behind s (zeros_take k zs z)
filled_not_behind zero (l ∷ ls) left zs z s = zeros_not_behind s tt
filled_not_behind (suc k) (l ∷ ls) left zs z s = filled_not_behind k ls left zs z (smaller_tail s refl refl)

-- where no goal is left while lengths are laid, the bindings are a fit with the first of these, and the search goes on at the choice points
pub ended_later : {p : Pattern} {e : Elements} {ks : List ℕ} {s : State} → s.goals ≡ [] → Covers p e (along ks) s → CoversLater p e (behind ks) s.choices
ended_later {ks} {s} g h = record {
  sound = λ m l. ((h.sound m (inr l)).0, later_tried (along ks) s h m l);
  whole = λ m f a. ⊎_elim
      (λ c. absurd (filled_not_behind 4 (lengths s.bound) h.laid.left _ (refl, (refl, (refl, (refl, tt)))) (subst₂ Smaller first (ap (λ x. four (lengths x)) ((ended s m g).0 c)) a)))
      (λ l. l)
      (h.whole m f (inr a));
  linked = chained-linked s.bound s.choices h.chained;
}
  where
    first : ks ≡ take 4 (lengths s.bound ++ h.laid.left)
    first = sym (take_all 4 ks (omega (arith, h.laid.long))) ∙ ap (take 4) h.laid.parts

-- the lengths are those of a fit just if they are those of the bindings
pub ended_tells : {p : Pattern} {e : Elements} {ks : List ℕ} {s : State} → s.goals ≡ [] → Covers p e (along ks) s → OfFit p e ks ↔ (four (lengths s.bound) ≡ ks)
ended_tells {ks} {s} g h = (
  (λ o. ⊎_elim
      (λ c. ap (λ x. four (lengths x)) (sym ((ended s o.0 g).0 c)) ∙ o.2)
      (λ l. absurd (smaller_apart (later_tried (along ks) s h o.0 l) (sym o.2)))
      (h.whole o.0 o.1 (inl o.2))),
  (λ q. (s.bound, (covers-fit g h).0, q)),
)
