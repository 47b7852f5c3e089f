-- Names: those left when one is left out, which are bound, and what they stand for behind further bindings. Assumes nothing.
use Rattle.std.proofs.Common.{◌≡◌, ℕ, inl, inr, ⊎_elim, Bool, true, false, cond, List, [], ◌∷◌, ◌++◌, bytes_eq, true≢false, sym, refl, ap, ◌∙◌, subst}
use Rattle.std.proofs.lemmas.Slice.Eq.{bytes_eq-Decides}
use Rattle.std.proofs.lemmas.Bool.Decides.{same_from_decides}
use Rattle.rules.specs.Patterns.{Slot, without, firsts}
use Rattle.rules.specs.Bindings.{Binding, value, bound}
use Rattle.rules.specs.Goals.{is_bound, unbound}
use Rattle.rules.specs.Complete.{In}

-- the test of names
name_refl : (a : List ℕ) → bytes_eq a a ≡ true
name_refl a = (bytes_eq-Decides a a).1 refl

pub name_sym : (a b : List ℕ) → bytes_eq a b ≡ bytes_eq b a
name_sym a b = same_from_decides _ _ (bytes_eq-Decides a b) ((λ t. sym ((bytes_eq-Decides b a).0 t)), (λ p. (bytes_eq-Decides b a).1 (sym p)))

-- names without one are some of these, and none of them is that one
pub in_without : (name : List ℕ) (ss : List Slot) (s : Slot) → In s (without name ss) → In s ss × (bytes_eq name s.name ≡ false)
in_without name [] s i = absurd i
in_without name (x ∷ ss) s i = go (bytes_eq name x.name) refl (in_without name ss s) i
  where
    go : (t : Bool) → bytes_eq name x.name ≡ t → (In s (without name ss) → In s ss × (bytes_eq name s.name ≡ false)) → In s (cond t (without name ss) (x ∷ without name ss)) → In s (x ∷ ss) × (bytes_eq name s.name ≡ false)
    go true e ih j = let t = ih j in (inr t.0, t.1)
    go false e ih j = ⊎_elim (λ q. (inl q, subst (λ (y : Slot). bytes_eq name y.name ≡ false) (sym q) e)) (λ k. let t = ih k in (inr t.0, t.1)) j

-- the first occurrences are some of these names
pub in_firsts : (ss : List Slot) (s : Slot) → In s (firsts ss) → In s ss
in_firsts [] s i = absurd i
in_firsts (x ∷ ss) s i = ⊎_elim inl (λ j. inr (in_firsts ss s (in_without x.name (firsts ss) s j).0)) i

-- leaving a name out twice is leaving it out once, and of two names it does not matter which goes first
without_twice : (n : List ℕ) (ss : List Slot) → without n (without n ss) ≡ without n ss
without_twice n [] = refl
without_twice n (s ∷ ss) = go (bytes_eq n s.name) refl (without_twice n ss)
  where
    go : (t : Bool) → bytes_eq n s.name ≡ t → without n (without n ss) ≡ without n ss → without n (without n (s ∷ ss)) ≡ without n (s ∷ ss)
    go true e ih = rw e ih
    go false e ih = simp e (ap (s ∷◌) ih)

without_swap : (m n : List ℕ) (ss : List Slot) → without m (without n ss) ≡ without n (without m ss)
without_swap m n [] = refl
without_swap m n (s ∷ ss) = go (bytes_eq m s.name) (bytes_eq n s.name) refl refl (without_swap m n ss)
  where
    go : (t u : Bool) → bytes_eq m s.name ≡ t → bytes_eq n s.name ≡ u → without m (without n ss) ≡ without n (without m ss) → without m (without n (s ∷ ss)) ≡ without n (without m (s ∷ ss))
    go true true e f ih = simp (e, f) ih
    go true false e f ih = simp (e, f) ih
    go false true e f ih = simp (e, f) ih
    go false false e f ih = simp (e, f) (ap (s ∷◌) ih)

unbound-without : (b : List Binding) (n : List ℕ) (ss : List Slot) → unbound b (without n ss) ≡ without n (unbound b ss)
unbound-without [] n ss = refl
unbound-without (x ∷ b) n ss = rw (unbound-without b n ss) (without_swap x.slot.name n (unbound b ss))

-- a bound name is left out already
without_bound : (b : List Binding) (n : List ℕ) (ss : List Slot) → is_bound n b ≡ true → without n (unbound b ss) ≡ unbound b ss
without_bound [] n ss h = absurd (true≢false (sym h))
without_bound (x ∷ b) n ss h = go (bytes_eq n x.slot.name) refl (without_bound b n ss)
  where
    go : (t : Bool) → bytes_eq n x.slot.name ≡ t → (is_bound n b ≡ true → without n (unbound b ss) ≡ unbound b ss) → without n (unbound (x ∷ b) ss) ≡ unbound (x ∷ b) ss
    go true e ih = rw (← ((bytes_eq-Decides n x.slot.name).0 e)) (without_twice n (unbound b ss))
    go false e ih = without_swap n x.slot.name (unbound b ss) ∙ ap (without x.slot.name) (ih (rw e at h))

-- a slot whose name is new stays, one whose name is bound is left out
unbound_stays : (b : List Binding) (s : Slot) (ss : List Slot) → is_bound s.name b ≡ false → unbound b (s ∷ ss) ≡ s ∷ unbound b ss
unbound_stays [] s ss h = refl
unbound_stays (x ∷ b) s ss h = go (bytes_eq s.name x.slot.name) refl (unbound_stays b s ss)
  where
    go : (t : Bool) → bytes_eq s.name x.slot.name ≡ t → (is_bound s.name b ≡ false → unbound b (s ∷ ss) ≡ s ∷ unbound b ss) → unbound (x ∷ b) (s ∷ ss) ≡ s ∷ unbound (x ∷ b) ss
    go true e ih = absurd (true≢false (rw e at h))
    go false e ih = rw (ih (rw e at h)) (simp (name_sym x.slot.name s.name ∙ e))

unbound_goes : (b : List Binding) (s : Slot) (ss : List Slot) → is_bound s.name b ≡ true → unbound b (s ∷ ss) ≡ unbound b ss
unbound_goes [] s ss h = absurd (true≢false (sym h))
unbound_goes (x ∷ b) s ss h = go (bytes_eq s.name x.slot.name) (is_bound s.name b) refl refl (unbound_goes b s ss)
  where
    go : (t u : Bool) → bytes_eq s.name x.slot.name ≡ t → is_bound s.name b ≡ u → (is_bound s.name b ≡ true → unbound b (s ∷ ss) ≡ unbound b ss) → unbound (x ∷ b) (s ∷ ss) ≡ unbound (x ∷ b) ss
    go t true e f ih = ap (without x.slot.name) (ih f)
    go true false e f ih = rw (unbound_stays b s ss f) (simp (name_sym x.slot.name s.name ∙ e))
    go false false e f ih = absurd (true≢false (sym (rw (e, f) at h)))

unbound-append : (b : List Binding) (y : Binding) (ss : List Slot) → unbound (b ++ (y ∷ [])) ss ≡ unbound b (without y.slot.name ss)
unbound-append [] y ss = refl
unbound-append (x ∷ b) y ss = ap (without x.slot.name) (unbound-append b y ss)

-- of names in the order of first occurrence: a first one that is bound is left out, a new one comes first
pub firsts-repeated : (b : List Binding) (s : Slot) (ss : List Slot) → is_bound s.name b ≡ true → unbound b (firsts (s ∷ ss)) ≡ unbound b (firsts ss)
firsts-repeated b s ss h = unbound_goes b s (without s.name (firsts ss)) h ∙ (unbound-without b s.name (firsts ss) ∙ without_bound b s.name (firsts ss) h)

pub firsts-new : (b : List Binding) (y : Binding) (ss : List Slot) → is_bound y.slot.name b ≡ false → unbound b (firsts (y.slot ∷ ss)) ≡ y.slot ∷ unbound (b ++ (y ∷ [])) (firsts ss)
firsts-new b y ss h = unbound_stays b y.slot (without y.slot.name (firsts ss)) h ∙ ap (y.slot ∷◌) (sym (unbound-append b y (firsts ss)))

-- what a name stands for
pub value_bound : (b c : List Binding) (name : List ℕ) → is_bound name b ≡ true → value name (b ++ c) ≡ value name b
value_bound [] c name h = absurd (true≢false (sym h))
value_bound (x ∷ b) c name h = go (bytes_eq name x.slot.name) refl (value_bound b c name)
  where
    go : (t : Bool) → bytes_eq name x.slot.name ≡ t → (is_bound name b ≡ true → value name (b ++ c) ≡ value name b) → value name ((x ∷ b) ++ c) ≡ value name (x ∷ b)
    go true e ih = simp e
    go false e ih = simp e (ih (rw e at h))

pub value_new : (b c : List Binding) (name : List ℕ) → is_bound name b ≡ false → value name (b ++ c) ≡ value name c
value_new [] c name h = refl
value_new (x ∷ b) c name h = go (bytes_eq name x.slot.name) refl (value_new b c name)
  where
    go : (t : Bool) → bytes_eq name x.slot.name ≡ t → (is_bound name b ≡ false → value name (b ++ c) ≡ value name c) → value name ((x ∷ b) ++ c) ≡ value name c
    go true e ih = absurd (true≢false (rw e at h))
    go false e ih = simp e (ih (rw e at h))

pub value_first : (x : Binding) (c : List Binding) → value x.slot.name (x ∷ c) ≡ x.run
value_first x c = rw (name_refl x.slot.name) refl

pub bound-append : (b c : List Binding) → bound (b ++ c) ≡ bound b ++ bound c
bound-append [] c = refl
bound-append (x ∷ b) c = ap (x.slot ∷◌) (bound-append b c)
