-- A new segment laid with a given length: what is met so, and what is met with a shorter run. Assumes nothing.
use Rattle.std.proofs.Common.{◌≡◌, ℕ, ◌<◌, ◌≤◌, false, ◌⊎◌, inl, inr, ⊎_elim, List, [], ◌∷◌, ◌++◌, sym, ap, ◌∙◌, subst, arith}
use Rattle.std.proofs.lemmas.Bool.{cases_lt}
use Rattle.sexp.specs.Elements.{Elements, none, ◌then◌}
use Rattle.sexp.proofs.Runs.{then_assoc}
use Rattle.rules.specs.declared.signs.Sign.TheVariants.{Segment}
use Rattle.rules.specs.Patterns.{Pattern, slot}
use Rattle.rules.specs.Bindings.{Binding, binding, width}
use Rattle.rules.specs.Goals.{Goal, is_bound, Completes, Grows}
use Rattle.rules.proofs.Runs.{width-then, then_same, split_at}
use Rattle.rules.proofs.Completing.{completes-segment}
use Rattle.search.specs.States.{Choice, choice, state, Ahead}
use Rattle.search.proofs.Steps.{ahead-grows}

-- bindings that complete others with a shorter run for a segment, and then for the rest
pub record Shorter (b : List Binding) (name : List ℕ) (n : ℕ) (p : Pattern) (gs : List Goal) (m : List Binding) : Type 0 where
  pub run : Elements
  pub rest : Elements
  pub short : width run < n
  pub completes : Completes (b ++ (binding Segment name run ∷ [])) ((p, rest) ∷ gs) m

-- a run with a front at least as long as another begins with that
front_in : (front rest more others : Elements) → front then rest ≡ more then others → width front ≤ width more → (y : Elements) × (more ≡ front then y) × (rest ≡ y then others)
front_in front rest more others e l =
    let s = split_at (width front) more l in
    let t = then_same front s.0 rest (s.1 then others) (sym s.3) (e ∙ (ap (λ x. x then others) s.2 ∙ then_assoc s.0 s.1 others)) in
    (s.1, s.2 ∙ ap (λ x. x then s.1) (sym t.0), t.1)

-- a segment grows from a front, or stands for a shorter run
pub grows_laid : (b : List Binding) (name : List ℕ) (front rest : Elements) (p : Pattern) (es : Elements) (gs : List Goal) (m : List Binding) → es ≡ front then rest →
    Grows b name none p es gs m → Grows b name front p rest gs m ⊎ Shorter b name (width front) p gs m
grows_laid b name front rest p es gs m e g = ⊎_elim
    (λ s. inr (record { run = g.more; rest = g.rest; short = s; completes = g.completes }))
    (λ l.
    let t = front_in front rest g.more g.rest (sym e ∙ g.parts) l in
    inl (record { more = t.0; rest = g.rest; parts = t.2; completes = subst (λ y. Completes (b ++ (binding Segment name y ∷ [])) ((p, g.rest) ∷ gs) m) t.1 g.completes }))
    (cases_lt (width g.more) (width front))

-- and it grows from a front only if it grows from nothing
pub laid_grows : (b : List Binding) (name : List ℕ) (front rest : Elements) (p : Pattern) (es : Elements) (gs : List Goal) (m : List Binding) → es ≡ front then rest →
    Grows b name front p rest gs m → Grows b name none p es gs m
laid_grows b name front rest p es gs m e g = record {
  more = front then g.more;
  rest = g.rest;
  parts = e ∙ (ap (front then◌) g.parts ∙ sym (then_assoc front g.more g.rest));
  completes = g.completes;
}

-- what is met where a new segment is laid with a front of the elements is met before
pub laid_ahead : (b : List Binding) (name : List ℕ) (front rest : Elements) (p : Pattern) (es : Elements) (gs : List Goal) (cs : List Choice) (m : List Binding) → is_bound name b ≡ false → es ≡ front then rest →
    Ahead (state (b ++ (binding Segment name front ∷ [])) ((p, rest) ∷ gs) (choice b name front p rest gs ∷ cs)) m → Ahead (state b ((slot Segment name p, es) ∷ gs) cs) m
laid_ahead b name front rest p es gs cs m k e h =
    ⊎_elim (λ g. inl ((completes-segment b name p es gs m k).1 (laid_grows b name front rest p es gs m e g))) inr ((ahead-grows b name front p rest gs cs m).1 h)

-- and what is met before is met so, or with a shorter run
pub ahead_laid : (b : List Binding) (name : List ℕ) (front rest : Elements) (p : Pattern) (es : Elements) (gs : List Goal) (cs : List Choice) (m : List Binding) → is_bound name b ≡ false → es ≡ front then rest →
    Ahead (state b ((slot Segment name p, es) ∷ gs) cs) m →
    Ahead (state (b ++ (binding Segment name front ∷ [])) ((p, rest) ∷ gs) (choice b name front p rest gs ∷ cs)) m ⊎ Shorter b name (width front) p gs m
ahead_laid b name front rest p es gs cs m k e h = ⊎_elim
    (λ c. ⊎_elim (λ g. inl ((ahead-grows b name front p rest gs cs m).0 (inl g))) inr (grows_laid b name front rest p es gs m e ((completes-segment b name p es gs m k).0 c)))
    (λ l. inl ((ahead-grows b name front p rest gs cs m).0 (inr l)))
    h

-- where there are fewer elements than wanted, what completes has a shorter run
pub too_few_shorter : (b : List Binding) (name : List ℕ) (n : ℕ) (p : Pattern) (es : Elements) (gs : List Goal) (m : List Binding) → is_bound name b ≡ false → width es < n →
    Completes b ((slot Segment name p, es) ∷ gs) m → Shorter b name n p gs m
too_few_shorter b name n p es gs m k l c =
    let g = (completes-segment b name p es gs m k).0 c in
    record { run = g.more; rest = g.rest; short = few g.more g.rest g.parts; completes = g.completes }
  where
    few : (x rest : Elements) → es ≡ x then rest → width x < n
    few x rest e = omega (arith, ap width e ∙ width-then x rest)
