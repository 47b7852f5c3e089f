-- A search meets what it is to meet: when it begins, behind each step, and where it tries again. Assumes nothing.
use Rattle.std.proofs.Common.{◌≡◌, ℕ, true, false, inl, inr, ⊎_elim, ◌↔◌, List, [], ◌∷◌, ◌++◌, length, append_assoc, append-nil, sym, refl, ap, ◌∙◌, subst}
use Rattle.sexp.specs.Elements.{Atom, Elements, none, atom, list, ◌then◌, Record}
use Rattle.rules.specs.declared.signs.Sign.{Sign}
use Rattle.rules.specs.declared.signs.Sign.TheVariants.{Variable, Segment}
use Rattle.rules.specs.Patterns.{Pattern, done, constant, slot, group, Slot, slots, firsts}
use Rattle.rules.specs.Bindings.{Binding, binding, value, bound, width, lengths}
use Rattle.rules.specs.Keys.{Smaller}
use Rattle.rules.specs.Goals.{Goal, goal_slots, is_bound, unbound}
use Rattle.rules.proofs.Names.{firsts-repeated, firsts-new, bound-append}
use Rattle.rules.proofs.Orders.{smaller_apart, smaller_one_way}
use Rattle.rules.proofs.Enumerating.{lengths-append}
use Rattle.rules.proofs.Completing.{completes-fit}
use Rattle.search.specs.States.{Choice, choice, State, state, Ahead, Chained}
use Rattle.search.specs.Least.{Position, start}
use Rattle.search.specs.Covering.{Aim, past, along, Wanted, all_names, Laid, Covers, Linked, CoversLater}
use Rattle.search.proofs.Steps.{ahead-done, ahead-constant, ahead-group, ahead-repeated, ahead-variable, ahead-segment, later_one, later-none}
use Rattle.search.proofs.Laying.{laid_ahead, ahead_laid}
use Rattle.search.proofs.Order.{chained-append, chained-choice, shorter_before}

-- a search for all fits begins with the pattern and the record
pub begun : (p : Pattern) (e : Elements) → Covers p e (past start) (state [] ((p, e) ∷ []) [])
begun p e = record {
  sound = λ m h. ((completes-fit p e m).0 (⊎_elim (λ c. c) (λ l. absurd l) h), tt);
  whole = λ m f w. inl ((completes-fit p e m).1 f);
  chained = tt;
  laid = tt;
}

-- and so does one along four lengths
pub begun_along : (p : Pattern) (e : Elements) (ks : List ℕ) → length ks ≡ 4 → Covers p e (along ks) (state [] ((p, e) ∷ []) [])
begun_along p e ks l = record {
  sound = λ m h. ((completes-fit p e m).0 (⊎_elim (λ c. c) (λ n. absurd n) h), tt);
  whole = λ m f w. inl ((completes-fit p e m).1 f);
  chained = tt;
  laid = record { long = l; left = ks; parts = refl; named = ap firsts (append-nil (slots p)) };
}

-- a state that meets the same, whose bindings are chained and whose segments are laid
pub covers_like : {p : Pattern} {e : Elements} {aim : Aim} {s t : State} → ((m : List Binding) → Ahead s m ↔ Ahead t m) → Chained t.bound t.choices → Laid p aim t → Covers p e aim s → Covers p e aim t
covers_like a c l h = record {
  sound = λ m i. h.sound m ((a m).1 i);
  whole = λ m f w. (a m).0 (h.whole m f w);
  chained = c;
  laid = l;
}

-- segments stay laid where there is none more
laid_like : (p : Pattern) (aim : Aim) (s t : State) → lengths s.bound ≡ lengths t.bound → all_names t ≡ all_names s → Laid p aim s → Laid p aim t
laid_like p (past position) s t e n l = tt
laid_like p (along ks) s t e n l = record { long = l.long; left = l.left; parts = l.parts ∙ ap (λ x. x ++ l.left) e; named = n ∙ l.named }

-- a step that binds nothing
same_bound : {p : Pattern} {e : Elements} {aim : Aim} {b : List Binding} {gs hs : List Goal} {cs : List Choice} → ((m : List Binding) → Ahead (state b gs cs) m ↔ Ahead (state b hs cs) m) → all_names (state b hs cs) ≡ all_names (state b gs cs) →
    Covers p e aim (state b gs cs) → Covers p e aim (state b hs cs)
same_bound {p} {aim} {b} {gs} {hs} {cs} a n h = covers_like a h.chained (laid_like p aim (state b gs cs) (state b hs cs) refl n h.laid) h

-- a new name is bound, and is not to come any more
pub names-new : (b : List Binding) (y : Binding) (ss : List Slot) → is_bound y.slot.name b ≡ false → bound (b ++ (y ∷ [])) ++ unbound (b ++ (y ∷ [])) (firsts ss) ≡ bound b ++ unbound b (firsts (y.slot ∷ ss))
names-new b y ss k =
    ap (λ x. x ++ unbound (b ++ (y ∷ [])) (firsts ss)) (bound-append b (y ∷ []))
    ∙ (append_assoc (bound b) (y.slot ∷ []) (unbound (b ++ (y ∷ [])) (firsts ss)) ∙ ap (bound b ++◌) (sym (firsts-new b y ss k)))

-- what is met stays so behind each step that lays no segment
module _ {p : Pattern} {e : Elements} {aim : Aim} {s : State} where
  -- the state with its goals as they are
  with_goals : {gs : List Goal} → s.goals ≡ gs → Covers p e aim s → Covers p e aim (state s.bound gs s.choices)
  with_goals g h = subst (λ x. Covers p e aim (state s.bound x s.choices)) g h

  -- the end of a list
  pub covers-done : {gs : List Goal} → s.goals ≡ (done, none) ∷ gs → Covers p e aim s → Covers p e aim (state s.bound gs s.choices)
  covers-done {gs} g h = same_bound (ahead-done s.bound gs s.choices) refl (with_goals g h)

  -- a constant
  pub covers-constant : {a : Atom} {q : Pattern} {es : Elements} {gs : List Goal} → s.goals ≡ (constant a q, atom a es) ∷ gs →
      Covers p e aim s → Covers p e aim (state s.bound ((q, es) ∷ gs) s.choices)
  covers-constant {a} {q} {es} {gs} g h = same_bound (ahead-constant s.bound a q es gs s.choices) refl (with_goals g h)

  -- a list is entered
  pub covers-group : {inside q : Pattern} {inner es : Elements} {gs : List Goal} → s.goals ≡ (group inside q, list inner es) ∷ gs →
      Covers p e aim s → Covers p e aim (state s.bound ((inside, inner) ∷ ((q, es) ∷ gs)) s.choices)
  covers-group {inside} {q} {inner} {es} {gs} g h = same_bound
      (ahead-group s.bound inside q inner es gs s.choices)
      (ap (λ x. bound s.bound ++ unbound s.bound (firsts x)) (sym (append_assoc (slots inside) (slots q) (goal_slots gs))))
      (with_goals g h)

  -- a name that is bound
  pub covers-repeated : {sign : Sign} {name : List ℕ} {q : Pattern} {es rest : Elements} {gs : List Goal} → s.goals ≡ (slot sign name q, es) ∷ gs → is_bound name s.bound ≡ true → es ≡ value name s.bound then rest →
      Covers p e aim s → Covers p e aim (state s.bound ((q, rest) ∷ gs) s.choices)
  covers-repeated {sign} {name} {q} {rest} {gs} g k f h = same_bound
      (λ m. ahead-repeated s.bound sign name q rest gs s.choices m k)
      (ap (bound s.bound ++◌) (sym (firsts-repeated s.bound (record { sign = sign; name = name }) (slots q ++ goal_slots gs) k)))
      (with_goals (g ∙ ap (λ x. (slot sign name q, x) ∷ gs) f) h)

  -- a new variable takes one element
  pub covers-variable : {name : List ℕ} {q : Pattern} {es rest : Elements} {gs : List Goal} (one : Elements) → s.goals ≡ (slot Variable name q, es) ∷ gs → is_bound name s.bound ≡ false → es ≡ one then rest → Record one →
      Covers p e aim s → Covers p e aim (state (s.bound ++ (binding Variable name one ∷ [])) ((q, rest) ∷ gs) s.choices)
  covers-variable {name} {q} {es} {rest} {gs} one g k f r h = covers_like
      (λ m. ahead-variable s.bound name q one rest gs s.choices m k r)
      (chained-append s.bound (binding Variable name one ∷ []) s.choices h.chained)
      (laid_like p aim (state s.bound ((slot Variable name q, one then rest) ∷ gs) s.choices) (state (s.bound ++ (binding Variable name one ∷ [])) ((q, rest) ∷ gs) s.choices)
      (sym (lengths-append s.bound (binding Variable name one ∷ []) ∙ append-nil (lengths s.bound)))
      (names-new s.bound (binding Variable name one) (slots q ++ goal_slots gs) k)
      t.laid)
      t
    where
      t : Covers p e aim (state s.bound ((slot Variable name q, one then rest) ∷ gs) s.choices)
      t = with_goals (g ∙ ap (λ x. (slot Variable name q, x) ∷ gs) f) h

-- a new segment begins with no elements
pub covers-segment : {p : Pattern} {e : Elements} {position : Position} {s : State} {name : List ℕ} {q : Pattern} {es : Elements} {gs : List Goal} → s.goals ≡ (slot Segment name q, es) ∷ gs → is_bound name s.bound ≡ false →
    Covers p e (past position) s → Covers p e (past position) (state (s.bound ++ (binding Segment name none ∷ [])) ((q, es) ∷ gs) (choice s.bound name none q es gs ∷ s.choices))
covers-segment {s} {name} {q} {es} {gs} g k h = covers_like (λ m. ahead-segment s.bound name q es gs s.choices m k) (chained-choice s.bound name none q es gs s.choices h.chained) tt (with_goals g h)

-- lengths from others on are not before these
pub not_before : {ks ls : List ℕ} → Wanted (along ks) ls → Smaller ls ks → ⊥
not_before (inl e) s = smaller_apart s e
not_before (inr t) s = smaller_one_way s t refl refl

-- while lengths are laid, a new segment takes the next one of them
pub covers_laid : {p : Pattern} {e : Elements} {ks : List ℕ} {s : State} {name : List ℕ} {q : Pattern} {es front rest : Elements} {gs : List Goal} (left : List ℕ) → s.goals ≡ (slot Segment name q, es) ∷ gs → is_bound name s.bound ≡ false → es ≡ front then rest →
    ks ≡ lengths s.bound ++ (width front ∷ left) →
    Covers p e (along ks) s → Covers p e (along ks) (state (s.bound ++ (binding Segment name front ∷ [])) ((q, rest) ∷ gs) (choice s.bound name front q rest gs ∷ s.choices))
covers_laid {p} {e} {ks} {s} {name} {q} {es} {front} {rest} {gs} left g k f w h = record {
  sound = λ m i. t.sound m (laid_ahead s.bound name front rest q es gs s.choices m k f i);
  whole = λ m i n. ⊎_elim (λ a. a) (λ x. absurd (not_before n (shorter_before s.bound name (width front) q gs m ks left h.laid.long w x))) (ahead_laid s.bound name front rest q es gs s.choices m k f (t.whole m i n));
  chained = chained-choice s.bound name front q rest gs s.choices h.chained;
  laid = record {
    long = h.laid.long;
    left = left;
    parts = w ∙ (sym (append_assoc (lengths s.bound) (width front ∷ []) left) ∙ ap (λ x. x ++ left) (sym (lengths-append s.bound (binding Segment name front ∷ []))));
    named = names-new s.bound (binding Segment name front) (slots q ++ goal_slots gs) k ∙ t.laid.named;
  };
}
  where
    t : Covers p e (along ks) (state s.bound ((slot Segment name q, es) ∷ gs) s.choices)
    t = with_goals g h

-- a chain is one of its links
pub chained-linked : (b : List Binding) (cs : List Choice) → Chained b cs → Linked cs
chained-linked b [] h = tt
chained-linked b (c ∷ cs) h = h.1

-- trying again
module _ {p : Pattern} {e : Elements} {position : Position} {c : Choice} {cs : List Choice} where
  -- the last choice point with what is left for it
  with_left : {es : Elements} → c.left ≡ es → CoversLater p e position (c ∷ cs) → CoversLater p e position (choice c.bound c.name c.run c.pattern es c.goals ∷ cs)
  with_left l h = subst (λ x. CoversLater p e position (choice c.bound c.name c.run c.pattern x c.goals ∷ cs)) l h

  -- trying again: the last choice point's segment takes one element more
  pub again_one : {rest : Elements} (one : Elements) → c.left ≡ one then rest → Record one → CoversLater p e position (c ∷ cs) →
      Covers p e (past position) (state (c.bound ++ (binding Segment c.name (c.run then one) ∷ [])) ((c.pattern, rest) ∷ c.goals) (choice c.bound c.name (c.run then one) c.pattern rest c.goals ∷ cs))
  again_one {rest} one l r h = record {
    sound = λ m i. t.sound m ((later_one c.bound c.name c.run c.pattern one rest c.goals cs m r).1 i);
    whole = λ m f w. (later_one c.bound c.name c.run c.pattern one rest c.goals cs m r).0 (t.whole m f w);
    chained = chained-choice c.bound c.name (c.run then one) c.pattern rest c.goals cs h.linked;
    laid = tt;
  }
    where
      t : CoversLater p e position (choice c.bound c.name c.run c.pattern (one then rest) c.goals ∷ cs)
      t = with_left l h

  -- where no element is left for the last choice point's segment, there are the choice points before
  pub again-none : c.left ≡ none → CoversLater p e position (c ∷ cs) → CoversLater p e position cs
  again-none l h = record {
    sound = λ m i. h.sound m (inr i);
    whole = λ m f w. (later-none c.bound c.name c.run c.pattern c.goals cs m).0 ((with_left l h).whole m f w);
    linked = chained-linked c.bound cs h.linked;
  }
