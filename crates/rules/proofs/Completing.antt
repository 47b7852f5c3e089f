-- What completes bindings, one step at a time: each step of a pattern says the same of the bindings as what is left behind it. Assumes nothing.
use Rattle.std.proofs.Common.{◌≡◌, ℕ, true, false, ◌⊎◌, inl, inr, ⊎_elim, ◌↔◌, List, [], ◌∷◌, ◌++◌, append_assoc, append-nil, sym, refl, ap, ap₂, ◌∙◌, subst, subst₂}
use Rattle.sexp.specs.Elements.{Atom, Elements, none, atom, list, ◌then◌}
use Rattle.sexp.proofs.Runs.{then-none, then_assoc}
use Rattle.rules.specs.declared.signs.Sign.{Sign}
use Rattle.rules.specs.declared.signs.Sign.TheVariants.{Variable, Segment}
use Rattle.rules.specs.Patterns.{Pattern, done, constant, slot, group, Slot, slots, firsts}
use Rattle.rules.specs.Bindings.{Binding, binding, value, fill, bound, Single, Singles}
use Rattle.rules.specs.Fits.{Fit}
use Rattle.rules.specs.Goals.{Goal, Filled, goal_slots, is_bound, unbound, Completes, Grows}
use Rattle.rules.proofs.Runs.{atom_same, list_same, none_not_atom, none_not_list, atom_not_list, then_cancel, first_none, first_atom, first_list}
use Rattle.rules.proofs.Names.{firsts-repeated, firsts-new, value_bound, value_new, value_first}

-- no goal is left
unbound-nothing : (b : List Binding) → unbound b [] ≡ []
unbound-nothing [] = refl
unbound-nothing (x ∷ b) = rw (unbound-nothing b)

pub completes-nothing : (b m : List Binding) → Completes b [] m ↔ (m ≡ b)
completes-nothing b m = (
  (λ h. go h.new h.extends (h.names ∙ unbound-nothing b)),
  (λ p. record { new = []; extends = p ∙ sym (append-nil b); names = sym (unbound-nothing b); single = tt; filled = tt }),
)
  where
    go : (new : List Binding) → m ≡ b ++ new → bound new ≡ [] → m ≡ b
    go [] e n = e ∙ append-nil b
    go (y ∷ c) e n = absurd cc

-- the end of a pattern, and of its elements
pub completes-done : (b : List Binding) (gs : List Goal) (m : List Binding) → Completes b ((done, none) ∷ gs) m ↔ Completes b gs m
completes-done b gs m = (
  (λ h. record { new = h.new; extends = h.extends; names = h.names; single = h.single; filled = h.filled.1 }),
  (λ h. record { new = h.new; extends = h.extends; names = h.names; single = h.single; filled = (refl, h.filled) }),
)

pub done_not_atom : {b : List Binding} {a : Atom} {es : Elements} {gs : List Goal} {m : List Binding} → Completes b ((done, atom a es) ∷ gs) m → ⊥
done_not_atom h = none_not_atom h.filled.0

pub done_not_list : {b : List Binding} {inner es : Elements} {gs : List Goal} {m : List Binding} → Completes b ((done, list inner es) ∷ gs) m → ⊥
done_not_list h = none_not_list h.filled.0

-- a constant is its atom
pub completes-constant : (b : List Binding) (a : Atom) (p : Pattern) (es : Elements) (gs : List Goal) (m : List Binding) → Completes b ((constant a p, atom a es) ∷ gs) m ↔ Completes b ((p, es) ∷ gs) m
completes-constant b a p es gs m = (
  (λ h. record { new = h.new; extends = h.extends; names = h.names; single = h.single; filled = ((atom_same h.filled.0).1, h.filled.1) }),
  (λ h. record { new = h.new; extends = h.extends; names = h.names; single = h.single; filled = (ap (atom a) h.filled.0, h.filled.1) }),
)

pub constant_not_none : {b : List Binding} {a : Atom} {p : Pattern} {gs : List Goal} {m : List Binding} → Completes b ((constant a p, none) ∷ gs) m → ⊥
constant_not_none h = none_not_atom (sym h.filled.0)

pub constant_not_list : {b : List Binding} {a : Atom} {p : Pattern} {inner es : Elements} {gs : List Goal} {m : List Binding} → Completes b ((constant a p, list inner es) ∷ gs) m → ⊥
constant_not_list h = atom_not_list h.filled.0

pub constant_not_other : {b : List Binding} {a c : Atom} {p : Pattern} {es : Elements} {gs : List Goal} {m : List Binding} → (a ≡ c → ⊥) → Completes b ((constant a p, atom c es) ∷ gs) m → ⊥
constant_not_other n h = n (atom_same h.filled.0).0

-- a list is what is inside it, and then what is behind it
pub completes-group : (b : List Binding) (inside p : Pattern) (inner es : Elements) (gs : List Goal) (m : List Binding) → Completes b ((group inside p, list inner es) ∷ gs) m ↔ Completes b ((inside, inner) ∷ ((p, es) ∷ gs)) m
completes-group b inside p inner es gs m = (
  (λ h. record { new = h.new; extends = h.extends; names = rw assoc at h.names; single = h.single; filled = ((list_same h.filled.0).0, ((list_same h.filled.0).1, h.filled.1)) }),
  (λ h. record { new = h.new; extends = h.extends; names = rw assoc h.names; single = h.single; filled = (ap₂ list h.filled.0 h.filled.1.0, h.filled.1.1) }),
)
  where
    assoc : (slots inside ++ slots p) ++ goal_slots gs ≡ slots inside ++ (slots p ++ goal_slots gs)
    assoc = append_assoc (slots inside) (slots p) (goal_slots gs)

pub group_not_none : {b : List Binding} {inside p : Pattern} {gs : List Goal} {m : List Binding} → Completes b ((group inside p, none) ∷ gs) m → ⊥
group_not_none h = none_not_list (sym h.filled.0)

pub group_not_atom : {b : List Binding} {inside p : Pattern} {a : Atom} {es : Elements} {gs : List Goal} {m : List Binding} → Completes b ((group inside p, atom a es) ∷ gs) m → ⊥
group_not_atom h = atom_not_list (sym h.filled.0)

-- a name that is bound is what it stands for
bound_value : (b new : List Binding) (name : List ℕ) {m : List Binding} → is_bound name b ≡ true → m ≡ b ++ new → value name m ≡ value name b
bound_value b new name k e = rw e (value_bound b new name k)

pub completes-repeated : (b : List Binding) (sign : Sign) (name : List ℕ) (p : Pattern) (es : Elements) (gs : List Goal) (m : List Binding) → is_bound name b ≡ true →
    Completes b ((slot sign name p, value name b then es) ∷ gs) m ↔ Completes b ((p, es) ∷ gs) m
completes-repeated b sign name p es gs m k = (
  (λ h. record { new = h.new; extends = h.extends; names = h.names ∙ same; single = h.single; filled = (then_cancel (value name b) (fill m p) es (rw (bound_value b h.new name k h.extends) at h.filled.0), h.filled.1) }),
  (λ h. record { new = h.new; extends = h.extends; names = h.names ∙ sym same; single = h.single; filled = (ap₂ ◌then◌ (bound_value b h.new name k h.extends) h.filled.0, h.filled.1) }),
)
  where
    same : unbound b (firsts (record { sign = sign; name = name } ∷ (slots p ++ goal_slots gs))) ≡ unbound b (firsts (slots p ++ goal_slots gs))
    same = firsts-repeated b (record { sign = sign; name = name }) (slots p ++ goal_slots gs) k

pub repeated_not_front : {b : List Binding} {sign : Sign} {name : List ℕ} {p : Pattern} {es : Elements} {gs : List Goal} {m : List Binding} → is_bound name b ≡ true →
    ((rest : Elements) → es ≡ value name b then rest → ⊥) → Completes b ((slot sign name p, es) ∷ gs) m → ⊥
repeated_not_front {b} {name = name} {p} {m = m} k n h = n (fill m p) (sym h.filled.0 ∙ ap (λ x. x then fill m p) (bound_value b h.new name k h.extends))

-- a new name is bound to some front of the elements, a variable to one element
new_value : (b c : List Binding) (sign : Sign) (name : List ℕ) (x : Elements) {m : List Binding} → is_bound name b ≡ false → m ≡ b ++ (binding sign name x ∷ c) → value name m ≡ x
new_value b c sign name x k e = rw e (value_new b (binding sign name x ∷ c) name k ∙ value_first (binding sign name x) c)

pub completes-new : (b : List Binding) (sign : Sign) (name : List ℕ) (p : Pattern) (es : Elements) (gs : List Goal) (m : List Binding) → is_bound name b ≡ false →
    Completes b ((slot sign name p, es) ∷ gs) m
    ↔ ((x : Elements) × (rest : Elements) × (es ≡ x then rest) × Single (record { sign = sign; name = name }) x × Completes (b ++ (binding sign name x ∷ [])) ((p, rest) ∷ gs) m)
completes-new b sign name p es gs m k = (
  (λ h. go h.filled h.new h.extends h.names h.single),
  (λ h. record {
    new = binding sign name h.0 ∷ h.4.new;
    extends = h.4.extends ∙ append_assoc b (binding sign name h.0 ∷ []) h.4.new;
    names = ap (s ∷◌) h.4.names ∙ sym (first h.0);
    single = (h.3, h.4.single);
    filled = (ap₂ ◌then◌ (new_value b h.4.new sign name h.0 k (h.4.extends ∙ append_assoc b (binding sign name h.0 ∷ []) h.4.new)) h.4.filled.0 ∙ sym h.2, h.4.filled.1);
  }),
)
  where
    s : Slot
    s = record { sign = sign; name = name }

    first : (x : Elements) → unbound b (firsts (s ∷ (slots p ++ goal_slots gs))) ≡ s ∷ unbound (b ++ (binding sign name x ∷ [])) (firsts (slots p ++ goal_slots gs))
    first x = firsts-new b (binding sign name x) (slots p ++ goal_slots gs) k

    go : Filled m ((slot sign name p, es) ∷ gs) → (new : List Binding) → m ≡ b ++ new → bound new ≡ unbound b (firsts (s ∷ (slots p ++ goal_slots gs))) → Singles new →
        (x : Elements) × (rest : Elements) × (es ≡ x then rest) × Single s x × Completes (b ++ (binding sign name x ∷ [])) ((p, rest) ∷ gs) m
    go f [] e n l = let q = n ∙ first none in absurd cc
    go f (y ∷ c) e n l =
        let q = n ∙ first y.run in
        let t : y.slot ≡ s = cc in
        let d : m ≡ b ++ (binding sign name y.run ∷ c) = e ∙ ap (λ (z : Slot). b ++ (record { slot = z; run = y.run } ∷ c)) t in (
          y.run,
          fill m p,
          sym f.0 ∙ ap (λ x. x then fill m p) (new_value b c sign name y.run k d),
          subst (λ (z : Slot). Single z y.run) t l.0,
          record { new = c; extends = d ∙ sym (append_assoc b (binding sign name y.run ∷ []) c); names = cc; single = l.1; filled = (refl, f.1) },
        )

-- a new variable is bound to the first element
pub variable_not_none : {b : List Binding} {name : List ℕ} {p : Pattern} {gs : List Goal} {m : List Binding} → is_bound name b ≡ false → Completes b ((slot Variable name p, none) ∷ gs) m → ⊥
variable_not_none {b} {name} {p} {gs} {m} k h = let t = (completes-new b Variable name p none gs m k).0 h in first_none t.0 t.1 t.3 t.2

pub completes-variable_atom : (b : List Binding) (name : List ℕ) (p : Pattern) (a : Atom) (es : Elements) (gs : List Goal) (m : List Binding) → is_bound name b ≡ false →
    Completes b ((slot Variable name p, atom a es) ∷ gs) m ↔ Completes (b ++ (binding Variable name (atom a none) ∷ [])) ((p, es) ∷ gs) m
completes-variable_atom b name p a es gs m k = (
  (λ h.
      let t = (completes-new b Variable name p (atom a es) gs m k).0 h in
      let f = first_atom a es t.0 t.1 t.3 t.2 in
      subst₂ (λ x rest. Completes (b ++ (binding Variable name x ∷ [])) ((p, rest) ∷ gs) m) f.0 f.1 t.4),
  (λ h. (completes-new b Variable name p (atom a es) gs m k).1 (atom a none, es, refl, refl, h)),
)

pub completes-variable_list : (b : List Binding) (name : List ℕ) (p : Pattern) (inner es : Elements) (gs : List Goal) (m : List Binding) → is_bound name b ≡ false →
    Completes b ((slot Variable name p, list inner es) ∷ gs) m ↔ Completes (b ++ (binding Variable name (list inner none) ∷ [])) ((p, es) ∷ gs) m
completes-variable_list b name p inner es gs m k = (
  (λ h.
      let t = (completes-new b Variable name p (list inner es) gs m k).0 h in
      let f = first_list inner es t.0 t.1 t.3 t.2 in
      subst₂ (λ x rest. Completes (b ++ (binding Variable name x ∷ [])) ((p, rest) ∷ gs) m) f.0 f.1 t.4),
  (λ h. (completes-new b Variable name p (list inner es) gs m k).1 (list inner none, es, refl, refl, h)),
)

-- a new segment grows from nothing
pub completes-segment : (b : List Binding) (name : List ℕ) (p : Pattern) (es : Elements) (gs : List Goal) (m : List Binding) → is_bound name b ≡ false →
    Completes b ((slot Segment name p, es) ∷ gs) m ↔ Grows b name none p es gs m
completes-segment b name p es gs m k = (
  (λ h. let t = (completes-new b Segment name p es gs m k).0 h in record { more = t.0; rest = t.1; parts = t.2; completes = t.4 }),
  (λ h. (completes-new b Segment name p es gs m k).1 (h.more, h.rest, h.parts, tt, h.completes)),
)

-- a segment that begins with x stops there, or takes the next element
stops : (b : List Binding) (name : List ℕ) (x : Elements) (p : Pattern) (es : Elements) (gs : List Goal) (m : List Binding) → Completes (b ++ (binding Segment name x ∷ [])) ((p, es) ∷ gs) m → Grows b name x p es gs m
stops b name x p es gs m h =
    record { more = none; rest = es; parts = refl; completes = subst (λ y. Completes (b ++ (binding Segment name y ∷ [])) ((p, es) ∷ gs) m) (sym (then-none x)) h }

pub grows-none : (b : List Binding) (name : List ℕ) (x : Elements) (p : Pattern) (gs : List Goal) (m : List Binding) →
    Grows b name x p none gs m ↔ Completes (b ++ (binding Segment name x ∷ [])) ((p, none) ∷ gs) m
grows-none b name x p gs m = ((λ h. go h.more h.rest h.parts h.completes), (λ h. stops b name x p none gs m h))
  where
    go : (more rest : Elements) → none ≡ more then rest → Completes (b ++ (binding Segment name (x then more) ∷ [])) ((p, rest) ∷ gs) m → Completes (b ++ (binding Segment name x ∷ [])) ((p, none) ∷ gs) m
    go none rest e h = subst₂ (λ y z. Completes (b ++ (binding Segment name y ∷ [])) ((p, z) ∷ gs) m) (then-none x) (sym e) h
    go (atom a more) rest e h = absurd (none_not_atom e)
    go (list inner more) rest e h = absurd (none_not_list e)

pub grows-atom : (b : List Binding) (name : List ℕ) (x : Elements) (p : Pattern) (a : Atom) (es : Elements) (gs : List Goal) (m : List Binding) →
    Grows b name x p (atom a es) gs m ↔ (Completes (b ++ (binding Segment name x ∷ [])) ((p, atom a es) ∷ gs) m ⊎ Grows b name (x then atom a none) p es gs m)
grows-atom b name x p a es gs m = (
  (λ h. go h.more h.rest h.parts h.completes),
  (λ h. ⊎_elim (stops b name x p (atom a es) gs m) (λ g. record {
    more = atom a g.more;
    rest = g.rest;
    parts = ap (atom a) g.parts;
    completes = subst (λ y. Completes (b ++ (binding Segment name y ∷ [])) ((p, g.rest) ∷ gs) m) (then_assoc x (atom a none) g.more) g.completes;
  }) h),
)
  where
    go : (more rest : Elements) → atom a es ≡ more then rest → Completes (b ++ (binding Segment name (x then more) ∷ [])) ((p, rest) ∷ gs) m →
        Completes (b ++ (binding Segment name x ∷ [])) ((p, atom a es) ∷ gs) m ⊎ Grows b name (x then atom a none) p es gs m
    go none rest e h = inl (subst₂ (λ y z. Completes (b ++ (binding Segment name y ∷ [])) ((p, z) ∷ gs) m) (then-none x) (sym e) h)
    go (atom c more) rest e h =
        let q = atom_same e in
        inr (record {
          more = more;
          rest = rest;
          parts = q.1;
          completes = subst (λ y. Completes (b ++ (binding Segment name y ∷ [])) ((p, rest) ∷ gs) m) (ap (λ d. x then atom d more) (sym q.0) ∙ sym (then_assoc x (atom a none) more)) h;
        })
    go (list inner more) rest e h = absurd (atom_not_list e)

pub grows-list : (b : List Binding) (name : List ℕ) (x : Elements) (p : Pattern) (inner es : Elements) (gs : List Goal) (m : List Binding) →
    Grows b name x p (list inner es) gs m ↔ (Completes (b ++ (binding Segment name x ∷ [])) ((p, list inner es) ∷ gs) m ⊎ Grows b name (x then list inner none) p es gs m)
grows-list b name x p inner es gs m = (
  (λ h. go h.more h.rest h.parts h.completes),
  (λ h. ⊎_elim (stops b name x p (list inner es) gs m) (λ g. record {
    more = list inner g.more;
    rest = g.rest;
    parts = ap (list inner) g.parts;
    completes = subst (λ y. Completes (b ++ (binding Segment name y ∷ [])) ((p, g.rest) ∷ gs) m) (then_assoc x (list inner none) g.more) g.completes;
  }) h),
)
  where
    go : (more rest : Elements) → list inner es ≡ more then rest → Completes (b ++ (binding Segment name (x then more) ∷ [])) ((p, rest) ∷ gs) m →
        Completes (b ++ (binding Segment name x ∷ [])) ((p, list inner es) ∷ gs) m ⊎ Grows b name (x then list inner none) p es gs m
    go none rest e h = inl (subst₂ (λ y z. Completes (b ++ (binding Segment name y ∷ [])) ((p, z) ∷ gs) m) (then-none x) (sym e) h)
    go (atom c more) rest e h = absurd (atom_not_list (sym e))
    go (list other more) rest e h =
        let q = list_same e in
        inr (record {
          more = more;
          rest = rest;
          parts = q.1;
          completes = subst (λ y. Completes (b ++ (binding Segment name y ∷ [])) ((p, rest) ∷ gs) m) (ap (λ d. x then list d more) (sym q.0) ∙ sym (then_assoc x (list inner none) more)) h;
        })

-- a fit is what completes no binding for a pattern and a record
pub completes-fit : (p : Pattern) (e : Elements) (m : List Binding) → Completes [] ((p, e) ∷ []) m ↔ Fit p e m
completes-fit p e m = (
  (λ h. record {
    names = ap bound h.extends ∙ (h.names ∙ ap firsts (append-nil (slots p)));
    single = subst Singles (sym h.extends) h.single;
    fills = h.filled.0;
  }),
  (λ f. record { new = m; extends = refl; names = f.names ∙ ap firsts (sym (append-nil (slots p))); single = f.single; filled = (f.fills, tt) }),
)
