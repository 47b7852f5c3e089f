-- The fits of one pattern and one record, listed in order by a walk over the pattern. Assumes nothing.
use Rattle.std.proofs.Common.{◌≡◌, ℕ, Bool, true, false, ◌<◌, ◌⊎◌, inl, inr, ⊎_elim, ◌↔◌, List, [], ◌∷◌, ◌++◌, Some, None, Option, Decides, true≢false, append_assoc, sym, refl, ap, ◌∙◌, arith}
use Rattle.sexp.specs.Elements.{Elements, none, atom, list, ◌then◌}
use Rattle.rules.specs.declared.signs.Sign.{Sign}
use Rattle.rules.specs.declared.signs.Sign.TheVariants.{Variable, Segment}
use Rattle.rules.specs.Patterns.{Pattern, done, constant, slot, group}
use Rattle.rules.specs.Bindings.{Binding, binding, value, width, lengths}
use Rattle.rules.specs.Fits.{Fit}
use Rattle.rules.specs.Keys.{Smaller, here}
use Rattle.rules.specs.Complete.{In}
use Rattle.rules.specs.Goals.{Goal, is_bound, Completes, Grows}
use Rattle.rules.proofs.Runs.{width-then, atoms_equal, atoms_equal-Decides, behind_front, TellsFront, behind_front-tells}
use Rattle.rules.proofs.Completing.{completes-nothing, completes-done, done_not_atom, done_not_list, completes-constant, constant_not_none, constant_not_list, constant_not_other, completes-group, group_not_none, group_not_atom, completes-repeated, repeated_not_front, variable_not_none, completes-variable_atom, completes-variable_list, completes-segment, grows-none, grows-atom, grows-list, completes-fit}
use Rattle.rules.proofs.Orders.{in_left, in_right, in_either, smaller_behind}

-- how to go on: from bindings, the lists of bindings that complete them
abbrev pub Going : Type 0
Going = List Binding → List (List Binding)

-- a new variable takes the first element
abbrev by_variable : List ℕ → (Elements → Going) → Elements → Going
by_variable name go none b = []
by_variable name go (atom a es) b = go es (b ++ (binding Variable name (atom a none) ∷ []))
by_variable name go (list inner es) b = go es (b ++ (binding Variable name (list inner none) ∷ []))

-- a new segment that begins with x stops there first, and then takes the next element
abbrev by_segment : List ℕ → (Elements → Going) → Elements → Elements → Going
by_segment name go x none b = go none (b ++ (binding Segment name x ∷ []))
by_segment name go x (atom a es) b = go (atom a es) (b ++ (binding Segment name x ∷ [])) ++ by_segment name go (x then atom a none) es b
by_segment name go x (list inner es) b = go (list inner es) (b ++ (binding Segment name x ∷ [])) ++ by_segment name go (x then list inner none) es b

-- the pattern first, and then on
abbrev fits_then : Pattern → Elements → Going → Going
fits_then done none go b = go b
fits_then done (atom c es) go b = []
fits_then done (list other es) go b = []
fits_then (constant a p) none go b = []
fits_then (constant a p) (atom c es) go b = elim (atoms_equal a c) [ true ↦ fits_then p es go b | false ↦ [] ]
fits_then (constant a p) (list other es) go b = []
fits_then (slot sign name p) es go b =
    elim (is_bound name b) [
      | true ↦ elim (behind_front (value name b) es) [ Some rest ↦ fits_then p rest go b | None ↦ [] ]
      | false ↦ elim sign [
        | Variable ↦ by_variable name (λ rest. fits_then p rest go) es b
        | Segment ↦ by_segment name (λ rest. fits_then p rest go) none es b
      ]
    ]
fits_then (group inside p) none go b = []
fits_then (group inside p) (atom c es) go b = []
fits_then (group inside p) (list inner es) go b = fits_then inside inner (fits_then p es go) b

-- the bindings that are fits of a pattern and a record
abbrev pub fits : Pattern → Elements → List (List Binding)
fits p e = fits_then p e (λ b. b ∷ []) []

-- in ascending order of lengths
abbrev pub Ascends : List (List Binding) → Type 0
Ascends [] = Unit {0}
Ascends (m ∷ ms) = ((n : List Binding) → In n ms → Smaller (lengths m) (lengths n)) × Ascends ms

-- a list holds exactly what P says, in ascending order
pub record Lists (P : List Binding → Type 0) (ms : List (List Binding)) : Type 0 where
  pub each : (m : List Binding) → P m → In m ms
  pub only : (m : List Binding) → In m ms → P m
  pub ascends : Ascends ms

-- a way to go on lists from all bindings what completes them
abbrev Meets : Going → List Goal → Type 0
Meets go gs = (b : List Binding) → Lists (Completes b gs) (go b)

ascends_append : (ms ns : List (List Binding)) → Ascends ms → Ascends ns → ((m n : List Binding) → In m ms → In n ns → Smaller (lengths m) (lengths n)) → Ascends (ms ++ ns)
ascends_append [] ns h k s = k
ascends_append (m ∷ ms) ns h k s = (
  (λ n i. ⊎_elim (h.0 n) (s m n (inl refl)) (in_either n ms ns i)),
  ascends_append ms ns h.1 k (λ x y i j. s x y (inr i) j),
)

lists_none : {P : List Binding → Type 0} → ((m : List Binding) → P m → ⊥) → Lists P []
lists_none n = record { each = λ m h. n m h; only = λ m i. absurd i; ascends = tt }

lists_like : {P Q : List Binding → Type 0} {ms : List (List Binding)} → ((m : List Binding) → P m ↔ Q m) → Lists Q ms → Lists P ms
lists_like e l = record { each = λ m h. l.each m ((e m).0 h); only = λ m i. (e m).1 (l.only m i); ascends = l.ascends }

lists_either : {P Q R : List Binding → Type 0} {ms ns : List (List Binding)} → ((m : List Binding) → P m ↔ (Q m ⊎ R m)) → ((m n : List Binding) → Q m → R n → Smaller (lengths m) (lengths n)) → Lists Q ms → Lists R ns → Lists P (ms ++ ns)
lists_either {ms} {ns} e s l k = record {
  each = λ m h. ⊎_elim (λ q. in_left m ms ns (l.each m q)) (λ r. in_right m ms ns (k.each m r)) ((e m).0 h);
  only = λ m i. (e m).1 (⊎_elim (λ j. inl (l.only m j)) (λ j. inr (k.only m j)) (in_either m ms ns i));
  ascends = ascends_append ms ns l.ascends k.ascends (λ m n i j. s m n (l.only m i) (k.only n j));
}

-- the lengths of bindings: a segment that stops is shorter than one that goes on
pub lengths-append : (b c : List Binding) → lengths (b ++ c) ≡ lengths b ++ lengths c
lengths-append [] c = refl
lengths-append (x ∷ b) c = go x.slot.sign (lengths-append b c)
  where
    go : (sign : Sign) → lengths (b ++ c) ≡ lengths b ++ lengths c → elim sign [ Variable ↦ lengths (b ++ c) | Segment ↦ width x.run ∷ lengths (b ++ c) ] ≡ elim sign [ Variable ↦ lengths b | Segment ↦ width x.run ∷ lengths b ] ++ lengths c
    go Variable h = h
    go Segment h = ap (width x.run ∷◌) h

pub segment_lengths : (b c m : List Binding) (name : List ℕ) (x : Elements) → m ≡ (b ++ (binding Segment name x ∷ [])) ++ c → lengths m ≡ lengths b ++ (width x ∷ lengths c)
segment_lengths b c m name x e = ap lengths (e ∙ append_assoc b (binding Segment name x ∷ []) c) ∙ lengths-append b (binding Segment name x ∷ c)

shorter_first : (b m n : List Binding) (name : List ℕ) (x y : Elements) {gs hs : List Goal} → width x < width y → Completes (b ++ (binding Segment name x ∷ [])) gs m → Completes (b ++ (binding Segment name y ∷ [])) hs n → Smaller (lengths m) (lengths n)
shorter_first b m n name x y w h k =
    rw (segment_lengths b h.new m name x h.extends, segment_lengths b k.new n name y k.extends) (smaller_behind (lengths b) (here w))

-- what a segment's walk lists
module _ (name : List ℕ) (p : Pattern) (gs : List Goal) (go : Elements → Going) where
  lists_segment : ((es : Elements) → Meets (go es) ((p, es) ∷ gs)) → (x es : Elements) (b : List Binding) → Lists (Grows b name x p es gs) (by_segment name go x es b)
  lists_segment h x none b = lists_like (grows-none b name x p gs) (h none (b ++ (binding Segment name x ∷ [])))
  lists_segment h x (atom a es) b = lists_either
      (grows-atom b name x p a es gs)
      (λ m n c g. shorter_first b m n name x ((x then atom a none) then g.more) (omega (arith, width-then (x then atom a none) g.more, width-then x (atom a none))) c g.completes)
      (h (atom a es) (b ++ (binding Segment name x ∷ [])))
      (lists_segment h (x then atom a none) es b)
  lists_segment h x (list inner es) b = lists_either
      (grows-list b name x p inner es gs)
      (λ m n c g. shorter_first b m n name x ((x then list inner none) then g.more) (omega (arith, width-then (x then list inner none) g.more, width-then x (list inner none))) c g.completes)
      (h (list inner es) (b ++ (binding Segment name x ∷ [])))
      (lists_segment h (x then list inner none) es b)

  lists_variable : ((es : Elements) → Meets (go es) ((p, es) ∷ gs)) → (es : Elements) (b : List Binding) → is_bound name b ≡ false → Lists (Completes b ((slot Variable name p, es) ∷ gs)) (by_variable name go es b)
  lists_variable h none b k = lists_none (λ m c. variable_not_none k c)
  lists_variable h (atom a es) b k = lists_like (λ m. completes-variable_atom b name p a es gs m k) (h es (b ++ (binding Variable name (atom a none) ∷ [])))
  lists_variable h (list inner es) b k = lists_like (λ m. completes-variable_list b name p inner es gs m k) (h es (b ++ (binding Variable name (list inner none) ∷ [])))

lists_then : (p : Pattern) (es : Elements) (go : Going) (gs : List Goal) → Meets go gs → Meets (fits_then p es go) ((p, es) ∷ gs)
lists_then done none go gs h b = lists_like (completes-done b gs) (h b)
lists_then done (atom c es) go gs h b = lists_none (λ m k. done_not_atom k)
lists_then done (list other es) go gs h b = lists_none (λ m k. done_not_list k)
lists_then (constant a p) none go gs h b = lists_none (λ m k. constant_not_none k)
lists_then (constant a p) (atom c es) go gs h b = on (atoms_equal a c) (atoms_equal-Decides a c) (lists_then p es go gs h b)
  where
    on : (t : Bool) → Decides t (a ≡ c) → Lists (Completes b ((p, es) ∷ gs)) (fits_then p es go b) → Lists (Completes b ((constant a p, atom c es) ∷ gs)) (elim t [ true ↦ fits_then p es go b | false ↦ [] ])
    on true d l = rw (d.0 refl) (lists_like (completes-constant b c p es gs) l)
    on false d l = lists_none (λ m k. constant_not_other (λ e. true≢false (sym (d.1 e))) k)
lists_then (constant a p) (list other es) go gs h b = lists_none (λ m k. constant_not_list k)
lists_then (slot sign name p) es go gs h b = on (is_bound name b) refl (λ rest. lists_then p rest go gs h)
  where
    repeated : (o : Option Elements) → TellsFront (value name b) es o → is_bound name b ≡ true → ((rest : Elements) → Meets (fits_then p rest go) ((p, rest) ∷ gs)) → Lists (Completes b ((slot sign name p, es) ∷ gs)) (elim o [ Some rest ↦ fits_then p rest go b | None ↦ [] ])
    repeated (Some rest) t k l = rw t (lists_like (λ m. completes-repeated b sign name p rest gs m k) (l rest b))
    repeated None t k l = lists_none (λ m c. repeated_not_front k t c)

    new : (s : Sign) → is_bound name b ≡ false → ((rest : Elements) → Meets (fits_then p rest go) ((p, rest) ∷ gs)) → Lists (Completes b ((slot s name p, es) ∷ gs)) (elim s [ Variable ↦ by_variable name (λ rest. fits_then p rest go) es b | Segment ↦ by_segment name (λ rest. fits_then p rest go) none es b ])
    new Variable k l = lists_variable name p gs (λ rest. fits_then p rest go) l es b k
    new Segment k l = lists_like (λ m. completes-segment b name p es gs m k) (lists_segment name p gs (λ rest. fits_then p rest go) l none es b)

    on : (t : Bool) → is_bound name b ≡ t → ((rest : Elements) → Meets (fits_then p rest go) ((p, rest) ∷ gs)) → Lists (Completes b ((slot sign name p, es) ∷ gs)) (elim t [ true ↦ elim (behind_front (value name b) es) [ Some rest ↦ fits_then p rest go b | None ↦ [] ] | false ↦ elim sign [ Variable ↦ by_variable name (λ rest. fits_then p rest go) es b | Segment ↦ by_segment name (λ rest. fits_then p rest go) none es b ] ])
    on true k l = repeated (behind_front (value name b) es) (behind_front-tells (value name b) es) k l
    on false k l = new sign k l
lists_then (group inside p) none go gs h b = lists_none (λ m k. group_not_none k)
lists_then (group inside p) (atom c es) go gs h b = lists_none (λ m k. group_not_atom k)
lists_then (group inside p) (list inner es) go gs h b = lists_like (completes-group b inside p inner es gs) (lists_then inside inner (fits_then p es go) ((p, es) ∷ gs) (lists_then p es go gs h) b)

-- with nothing left, the bindings themselves
lists_done : Meets (λ b. b ∷ []) []
lists_done b = record {
  each = λ m h. inl ((completes-nothing b m).0 h);
  only = λ m i. (completes-nothing b m).1 (⊎_elim (λ e. e) (λ j. absurd j) i);
  ascends = ((λ n i. absurd i), tt);
}

pub fits-lists : (p : Pattern) (e : Elements) → Lists (Fit p e) (fits p e)
fits-lists p e = record {
  each = λ m f. l.each m ((completes-fit p e m).1 f);
  only = λ m i. (completes-fit p e m).0 (l.only m i);
  ascends = l.ascends;
}
  where
    l : Lists (Completes [] ((p, e) ∷ [])) (fits p e)
    l = lists_then p e (λ b. b ∷ []) [] lists_done []
