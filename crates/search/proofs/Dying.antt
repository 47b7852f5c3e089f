-- Dead ends: states whose first goal can not be met. Assumes nothing.
use Rattle.std.proofs.Common.{◌≡◌, ℕ, ◌<◌, ◌≤◌, true, false, List, ◌∷◌, ◌++◌, length, get_or, subst}
use Rattle.sexp.specs.Elements.{Atom, Elements, none, atom, list, ◌then◌}
use Rattle.rules.specs.declared.signs.Sign.{Sign}
use Rattle.rules.specs.declared.signs.Sign.TheVariants.{Variable, Segment}
use Rattle.rules.specs.Patterns.{Pattern, done, constant, slot, group, names, segments}
use Rattle.rules.specs.Bindings.{Binding, value, width, lengths}
use Rattle.rules.specs.Goals.{Goal, is_bound, Completes}
use Rattle.rules.proofs.Completing.{done_not_atom, done_not_list, constant_not_none, constant_not_list, constant_not_other, group_not_none, group_not_atom, repeated_not_front, variable_not_none}
use Rattle.search.specs.States.{State}
use Rattle.search.specs.Covering.{Aim, along, Tight, Dead}
use Rattle.search.proofs.Laying.{too_few_shorter}
use Rattle.search.proofs.Order.{shorter_before}
use Rattle.search.proofs.Covering.{not_before}
use Rattle.search.proofs.Wanting.{next_length}

-- nothing completes these goals
pub dead : {aim : Aim} {s : State} {gs : List Goal} → s.goals ≡ gs → ((m : List Binding) → Completes s.bound gs m → ⊥) → Dead aim s
dead {s} g n = record { unmet = λ m c w. n m (subst (λ x. Completes s.bound x m) g c) }

-- an atom is left where the pattern ends
pub dead-done_atom : {aim : Aim} {s : State} {a : Atom} {es : Elements} {gs : List Goal} → s.goals ≡ (done, atom a es) ∷ gs → Dead aim s
dead-done_atom g = dead g (λ m c. done_not_atom c)

-- a list is left where the pattern ends
pub dead-done_list : {aim : Aim} {s : State} {inner es : Elements} {gs : List Goal} → s.goals ≡ (done, list inner es) ∷ gs → Dead aim s
dead-done_list g = dead g (λ m c. done_not_list c)

-- a constant, where the elements end
pub dead-constant_none : {aim : Aim} {s : State} {a : Atom} {p : Pattern} {gs : List Goal} → s.goals ≡ (constant a p, none) ∷ gs → Dead aim s
dead-constant_none g = dead g (λ m c. constant_not_none c)

-- a constant, where a list comes
pub dead-constant_list : {aim : Aim} {s : State} {a : Atom} {p : Pattern} {inner es : Elements} {gs : List Goal} → s.goals ≡ (constant a p, list inner es) ∷ gs → Dead aim s
dead-constant_list g = dead g (λ m c. constant_not_list c)

-- a constant, where another atom comes
pub dead-constant_other : {aim : Aim} {s : State} {a b : Atom} {p : Pattern} {es : Elements} {gs : List Goal} → s.goals ≡ (constant a p, atom b es) ∷ gs → (a ≡ b → ⊥) → Dead aim s
dead-constant_other g n = dead g (λ m c. constant_not_other n c)

-- a list, where the elements end
pub dead-group_none : {aim : Aim} {s : State} {inside p : Pattern} {gs : List Goal} → s.goals ≡ (group inside p, none) ∷ gs → Dead aim s
dead-group_none g = dead g (λ m c. group_not_none c)

-- a list, where an atom comes
pub dead-group_atom : {aim : Aim} {s : State} {inside p : Pattern} {a : Atom} {es : Elements} {gs : List Goal} → s.goals ≡ (group inside p, atom a es) ∷ gs → Dead aim s
dead-group_atom g = dead g (λ m c. group_not_atom c)

-- a name that is bound, where the elements do not begin with what it stands for
pub dead-repeated : {aim : Aim} {s : State} {sign : Sign} {name : List ℕ} {p : Pattern} {es : Elements} {gs : List Goal} → s.goals ≡ (slot sign name p, es) ∷ gs → is_bound name s.bound ≡ true →
    ((rest : Elements) → es ≡ value name s.bound then rest → ⊥) → Dead aim s
dead-repeated g k n = dead g (λ m c. repeated_not_front k n c)

-- a new variable, where the elements end
pub dead-variable_none : {aim : Aim} {s : State} {name : List ℕ} {p : Pattern} {gs : List Goal} → s.goals ≡ (slot Variable name p, none) ∷ gs → is_bound name s.bound ≡ false → Dead aim s
dead-variable_none g k = dead g (λ m c. variable_not_none k c)

-- a new segment, where fewer elements are left than it is to take
pub dead_too_few : {ks : List ℕ} {s : State} {p : Pattern} {name : List ℕ} {q : Pattern} {es : Elements} {gs : List Goal} (d : ℕ) → segments (names p) ≤ 4 → s.goals ≡ (slot Segment name q, es) ∷ gs → is_bound name s.bound ≡ false →
    width es < get_or ks (length (lengths s.bound)) d → Tight p ks s → Dead (along ks) s
dead_too_few {ks} {s} {name} {q} {es} {gs} d few g k l t = record {
  unmet = λ m c w. not_before w (shorter_before s.bound name wanted q gs m ks n.0 t.long n.1 (too_few_shorter s.bound name wanted q es gs m k l (subst (λ x. Completes s.bound x m) g c)));
}
  where
    wanted : ℕ
    wanted = get_or ks (length (lengths s.bound)) d

    n : (rest : List ℕ) × (ks ≡ lengths s.bound ++ (wanted ∷ rest))
    n = next_length d few g k t
