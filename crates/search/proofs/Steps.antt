-- What is met from a state on, one step at a time: each step's state meets the same as the one before. Assumes nothing.
use Rattle.std.proofs.Common.{◌≡◌, ℕ, true, false, ◌⊎◌, inl, inr, ⊎_elim, ◌↔◌, List, [], ◌∷◌, ◌++◌, sym, subst}
use Rattle.sexp.specs.Elements.{Atom, Elements, none, atom, list, ◌then◌, Record}
use Rattle.rules.specs.declared.signs.Sign.{Sign}
use Rattle.rules.specs.declared.signs.Sign.TheVariants.{Variable, Segment}
use Rattle.rules.specs.Patterns.{Pattern, done, constant, slot, group}
use Rattle.rules.specs.Bindings.{Binding, binding, value}
use Rattle.rules.specs.Goals.{Goal, is_bound, Completes, Grows}
use Rattle.rules.proofs.Completing.{completes-done, completes-constant, completes-group, completes-repeated, completes-variable_atom, completes-variable_list, completes-segment, grows-none, grows-atom, grows-list}
use Rattle.search.specs.States.{Choice, choice, state, Beyond, Later, Ahead}

-- what completes both is the same, and so is what is met
pub ahead_like : {b d : List Binding} {gs hs : List Goal} (cs : List Choice) (m : List Binding) → Completes b gs m ↔ Completes d hs m → Ahead (state b gs cs) m ↔ Ahead (state d hs cs) m
ahead_like cs m e = ((λ h. ⊎_elim (λ c. inl (e.0 c)) inr h), (λ h. ⊎_elim (λ c. inl (e.1 c)) inr h))

-- the end of a list and of its pattern
pub ahead-done : (b : List Binding) (gs : List Goal) (cs : List Choice) (m : List Binding) → Ahead (state b ((done, none) ∷ gs) cs) m ↔ Ahead (state b gs cs) m
ahead-done b gs cs m = ahead_like cs m (completes-done b gs m)

-- a constant
pub ahead-constant : (b : List Binding) (a : Atom) (p : Pattern) (es : Elements) (gs : List Goal) (cs : List Choice) (m : List Binding) →
    Ahead (state b ((constant a p, atom a es) ∷ gs) cs) m ↔ Ahead (state b ((p, es) ∷ gs) cs) m
ahead-constant b a p es gs cs m = ahead_like cs m (completes-constant b a p es gs m)

-- a list is entered
pub ahead-group : (b : List Binding) (inside p : Pattern) (inner es : Elements) (gs : List Goal) (cs : List Choice) (m : List Binding) →
    Ahead (state b ((group inside p, list inner es) ∷ gs) cs) m ↔ Ahead (state b ((inside, inner) ∷ ((p, es) ∷ gs)) cs) m
ahead-group b inside p inner es gs cs m = ahead_like cs m (completes-group b inside p inner es gs m)

-- a name that is bound, where the elements begin with what it stands for
pub ahead-repeated : (b : List Binding) (sign : Sign) (name : List ℕ) (p : Pattern) (es : Elements) (gs : List Goal) (cs : List Choice) (m : List Binding) → is_bound name b ≡ true →
    Ahead (state b ((slot sign name p, value name b then es) ∷ gs) cs) m ↔ Ahead (state b ((p, es) ∷ gs) cs) m
ahead-repeated b sign name p es gs cs m k = ahead_like cs m (completes-repeated b sign name p es gs m k)

-- a new variable takes one element
pub ahead-variable : (b : List Binding) (name : List ℕ) (p : Pattern) (one rest : Elements) (gs : List Goal) (cs : List Choice) (m : List Binding) → is_bound name b ≡ false → Record one →
    Ahead (state b ((slot Variable name p, one then rest) ∷ gs) cs) m ↔ Ahead (state (b ++ (binding Variable name one ∷ [])) ((p, rest) ∷ gs) cs) m
ahead-variable b name p none rest gs cs m k r = absurd r
ahead-variable b name p (atom a es) rest gs cs m k r = rw r (ahead_like cs m (completes-variable_atom b name p a rest gs m k))
ahead-variable b name p (list inner es) rest gs cs m k r = rw r (ahead_like cs m (completes-variable_list b name p inner rest gs m k))

-- a segment that begins with x stops there, or stands for more
pub grows-beyond : (b : List Binding) (name : List ℕ) (x : Elements) (p : Pattern) (es : Elements) (gs : List Goal) (m : List Binding) →
    Grows b name x p es gs m ↔ (Completes (b ++ (binding Segment name x ∷ [])) ((p, es) ∷ gs) m ⊎ Beyond (choice b name x p es gs) m)
grows-beyond b name x p none gs m = ((λ g. inl ((grows-none b name x p gs m).0 g)), (λ h. ⊎_elim (grows-none b name x p gs m).1 (λ n. absurd n) h))
grows-beyond b name x p (atom a es) gs m = grows-atom b name x p a es gs m
grows-beyond b name x p (list inner es) gs m = grows-list b name x p inner es gs m

-- a state whose last choice point's segment stands for what it does so far meets what the segment meets that begins so, and what the others do
pub ahead-grows : (b : List Binding) (name : List ℕ) (x : Elements) (p : Pattern) (es : Elements) (gs : List Goal) (cs : List Choice) (m : List Binding) →
    (Grows b name x p es gs m ⊎ Later cs m) ↔ Ahead (state (b ++ (binding Segment name x ∷ [])) ((p, es) ∷ gs) (choice b name x p es gs ∷ cs)) m
ahead-grows b name x p es gs cs m = (
  (λ h. ⊎_elim (λ g. ⊎_elim inl (λ t. inr (inl t)) ((grows-beyond b name x p es gs m).0 g)) (λ l. inr (inr l)) h),
  (λ h. ⊎_elim (λ c. inl ((grows-beyond b name x p es gs m).1 (inl c))) (λ t. ⊎_elim (λ y. inl ((grows-beyond b name x p es gs m).1 (inr y))) inr t) h),
)

-- a new segment begins with no elements, and there is one more choice point
pub ahead-segment : (b : List Binding) (name : List ℕ) (p : Pattern) (es : Elements) (gs : List Goal) (cs : List Choice) (m : List Binding) → is_bound name b ≡ false →
    Ahead (state b ((slot Segment name p, es) ∷ gs) cs) m ↔ Ahead (state (b ++ (binding Segment name none ∷ [])) ((p, es) ∷ gs) (choice b name none p es gs ∷ cs)) m
ahead-segment b name p es gs cs m k = (
  (λ h. (ahead-grows b name none p es gs cs m).0 (⊎_elim (λ c. inl ((completes-segment b name p es gs m k).0 c)) inr h)),
  (λ h. ⊎_elim (λ g. inl ((completes-segment b name p es gs m k).1 g)) inr ((ahead-grows b name none p es gs cs m).1 h)),
)

-- trying again at the last choice point: its segment takes one element more
pub later_one : (b : List Binding) (name : List ℕ) (x : Elements) (p : Pattern) (one rest : Elements) (gs : List Goal) (cs : List Choice) (m : List Binding) → Record one →
    Later (choice b name x p (one then rest) gs ∷ cs) m
    ↔ Ahead (state (b ++ (binding Segment name (x then one) ∷ [])) ((p, rest) ∷ gs) (choice b name (x then one) p rest gs ∷ cs)) m
later_one b name x p none rest gs cs m r = absurd r
later_one b name x p (atom a es) rest gs cs m r =
    subst (λ y. Later (choice b name x p (atom a y then rest) gs ∷ cs) m
    ↔ Ahead (state (b ++ (binding Segment name (x then atom a y) ∷ [])) ((p, rest) ∷ gs) (choice b name (x then atom a y) p rest gs ∷ cs)) m)
    (sym r) (ahead-grows b name (x then atom a none) p rest gs cs m)
later_one b name x p (list inner es) rest gs cs m r =
    subst (λ y. Later (choice b name x p (list inner y then rest) gs ∷ cs) m
    ↔ Ahead (state (b ++ (binding Segment name (x then list inner y) ∷ [])) ((p, rest) ∷ gs) (choice b name (x then list inner y) p rest gs ∷ cs)) m)
    (sym r) (ahead-grows b name (x then list inner none) p rest gs cs m)

-- where no element is left for it, there are the choice points before
pub later-none : (b : List Binding) (name : List ℕ) (x : Elements) (p : Pattern) (gs : List Goal) (cs : List Choice) (m : List Binding) →
    Later (choice b name x p none gs ∷ cs) m ↔ Later cs m
later-none b name x p gs cs m = ((λ h. ⊎_elim (λ n. absurd n) (λ l. l) h), (λ l. inr l))
