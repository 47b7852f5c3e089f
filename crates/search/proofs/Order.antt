-- The order in which bindings are met: what is met at choice points is longer than what is bound. Assumes nothing.
use Rattle.std.proofs.Common.{◌≡◌, ℕ, ◌<◌, ◌≤◌, inl, inr, List, [], ◌∷◌, ◌++◌, length, take, append_assoc, length-append, sym, refl, ap, ◌∙◌, subst, subst₂, arith}
use Rattle.std.proofs.lemmas.List.{take_all}
use Rattle.sexp.specs.Elements.{Elements, none, atom, list, ◌then◌}
use Rattle.rules.specs.declared.signs.Sign.TheVariants.{Segment}
use Rattle.rules.specs.Patterns.{Pattern}
use Rattle.rules.specs.Bindings.{Binding, binding, width, lengths}
use Rattle.rules.specs.Goals.{Goal, Grows}
use Rattle.rules.specs.Keys.{four, Smaller, here, later}
use Rattle.rules.proofs.Runs.{width-then}
use Rattle.rules.proofs.Orders.{smaller_behind, smaller_take, smaller_four}
use Rattle.rules.proofs.Enumerating.{lengths-append, segment_lengths}
use Rattle.search.specs.States.{Choice, choice, Beyond, BeyondIn, Later, Chained}
use Rattle.search.proofs.Laying.{Shorter}

-- bindings stay chained where there are more of them
pub chained-append : (b d : List Binding) (cs : List Choice) → Chained b cs → Chained (b ++ d) cs
chained-append b d [] h = tt
chained-append b d (c ∷ cs) h =
    ((h.0.0 ++ d, ap (λ x. x ++ d) h.0.1 ∙ append_assoc c.bound (binding Segment c.name c.run ∷ h.0.0) d), h.1)

-- and where a segment behind them has a choice point
pub chained-choice : (b : List Binding) (name : List ℕ) (x : Elements) (p : Pattern) (es : Elements) (gs : List Goal) (cs : List Choice) → Chained b cs → Chained (b ++ (binding Segment name x ∷ [])) (choice b name x p es gs ∷ cs)
chained-choice b name x p es gs cs h = (([], refl), h)

-- lengths that go on
pub smaller_longer : {ms ns : List ℕ} → Smaller ms ns → (zs : List ℕ) → Smaller (ms ++ zs) ns
smaller_longer (here h) zs = here h
smaller_longer (later s) zs = later (smaller_longer s zs)

-- what is met at a choice point has a longer run there
beyond_longer : (c : Choice) (m : List Binding) → Beyond c m → (n : ℕ) × (ns : List ℕ) × (width c.run < n) × (lengths m ≡ lengths c.bound ++ (n ∷ ns))
beyond_longer c m h = go c.left h
  where
    grown : (x y : Elements) {es : Elements} → width y ≡ 1 → x ≡ c.run then y → Grows c.bound c.name x c.pattern es c.goals m →
        (n : ℕ) × (ns : List ℕ) × (width c.run < n) × (lengths m ≡ lengths c.bound ++ (n ∷ ns))
    grown x y w e g = (
      width (x then g.more),
      lengths g.completes.new,
      omega (arith, width-then x g.more, ap width e ∙ width-then c.run y),
      segment_lengths c.bound g.completes.new m c.name (x then g.more) g.completes.extends,
    )

    go : (es : Elements) → BeyondIn c es m → (n : ℕ) × (ns : List ℕ) × (width c.run < n) × (lengths m ≡ lengths c.bound ++ (n ∷ ns))
    go none n = absurd n
    go (atom a es) g = grown (c.run then atom a none) (atom a none) refl refl g
    go (list inner es) g = grown (c.run then list inner none) (list inner none) refl refl g

-- bindings chained to a choice point have its run's length behind those bound before it
chained_lengths : (b : List Binding) (c : Choice) (cs : List Choice) (h : Chained b (c ∷ cs)) → lengths b ≡ lengths c.bound ++ (width c.run ∷ lengths h.0.0)
chained_lengths b c cs h = ap lengths h.0.1 ∙ lengths-append c.bound (binding Segment c.name c.run ∷ h.0.0)

-- of chained bindings, what is met later is longer
pub later_longer : (b : List Binding) (cs : List Choice) (m : List Binding) → Chained b cs → Later cs m → Smaller (lengths b) (lengths m)
later_longer b [] m h l = absurd l
later_longer b (c ∷ cs) m h (inl y) =
    let t = beyond_longer c m y in
    rw (chained_lengths b c cs h, t.3) (smaller_behind (lengths c.bound) (here t.2))
later_longer b (c ∷ cs) m h (inr l) =
    rw (chained_lengths b c cs h) (smaller_longer (later_longer c.bound cs m h.1 l) (width c.run ∷ lengths h.0.0))

-- so is its key, where there are at most four segments
pub later_four : (b : List Binding) (cs : List Choice) (m : List Binding) → Chained b cs → Later cs m → length (lengths b) ≤ 4 → Smaller (four (lengths b)) (four (lengths m))
later_four b cs m h l k = smaller_four (later_longer b cs m h l) k

-- if what is bound has the first of four lengths, what is met later comes behind these
pub later_behind : (b : List Binding) (cs : List Choice) (m : List Binding) (ks left : List ℕ) → Chained b cs → Later cs m → length ks ≡ 4 → ks ≡ lengths b ++ left → Smaller ks (four (lengths m))
later_behind b cs m ks left h l k e =
    subst (λ x. Smaller x (four (lengths m))) (ap (take 4) (sym e) ∙ take_all 4 ks (omega (arith, k)))
    (smaller_take (later_longer b cs m h l) 4 left _ (omega (arith, ap length e ∙ length-append (lengths b) left)))

-- and with a shorter run than the next one of them, bindings come before these
pub shorter_before : (b : List Binding) (name : List ℕ) (n : ℕ) (p : Pattern) (gs : List Goal) (m : List Binding) (ks left : List ℕ) → length ks ≡ 4 → ks ≡ lengths b ++ (n ∷ left) → Shorter b name n p gs m → Smaller (four (lengths m)) ks
shorter_before b name n p gs m ks left k e s = subst₂ Smaller this that
    (smaller_take (smaller_behind (lengths b) (here s.short)) 4 (lengths s.completes.new ++ zeros) left fits)
  where
    zeros : List ℕ
    zeros = 0 ∷ (0 ∷ (0 ∷ (0 ∷ [])))

    this : take 4 ((lengths b ++ (width s.run ∷ [])) ++ (lengths s.completes.new ++ zeros)) ≡ take 4 (lengths m ++ (0 ∷ (0 ∷ (0 ∷ (0 ∷ [])))))
    this =
        let t = segment_lengths b s.completes.new m name s.run s.completes.extends in
        ap (take 4) (append_assoc (lengths b) (width s.run ∷ []) (lengths s.completes.new ++ zeros)
        ∙ (sym (append_assoc (lengths b) (width s.run ∷ lengths s.completes.new) zeros) ∙ ap (λ x. x ++ zeros) (sym t)))

    that : take 4 ((lengths b ++ (n ∷ [])) ++ left) ≡ ks
    that = ap (take 4) (append_assoc (lengths b) (n ∷ []) left ∙ sym e) ∙ take_all 4 ks (omega (arith, k))

    fits : length (lengths b ++ (width s.run ∷ [])) ≤ 4
    fits = omega (arith, ap length e ∙ length-append (lengths b) (n ∷ left), length-append (lengths b) (width s.run ∷ []))
