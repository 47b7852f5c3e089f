-- The names of a search's state: they stay those of one pattern, with at most four segments. Assumes nothing.
use Rattle.std.proofs.Common.{◌≡◌, ℕ, true, false, List, [], ◌∷◌, ◌++◌, append_assoc, sym, ap, ◌∙◌, subst}
use Rattle.sexp.specs.Elements.{Elements}
use Rattle.rules.specs.declared.signs.Sign.{Sign}
use Rattle.rules.specs.Patterns.{Pattern, slot, group, slots, firsts}
use Rattle.rules.specs.Bindings.{Binding, bound}
use Rattle.rules.specs.Goals.{Goal, goal_slots, is_bound, unbound}
use Rattle.rules.proofs.Names.{firsts-repeated}
use Rattle.search.proofs.Covering.{names-new}
use Rattle.fitting.specs.Sound.{Few}

-- the names are the same
pub few_like : {b d : List Binding} {gs hs : List Goal} → bound d ++ unbound d (firsts (goal_slots hs)) ≡ bound b ++ unbound b (firsts (goal_slots gs)) → Few b gs → Few d hs
few_like e f = record { pattern = f.pattern; few = f.few; named = e ∙ f.named }

pub few_goals : {b : List Binding} {gs hs : List Goal} → gs ≡ hs → Few b gs → Few b hs
few_goals {b} e f = subst (Few b) e f

-- a new name is bound, and is not to come any more
pub few_new : (b : List Binding) (y : Binding) (q : Pattern) (es rest : Elements) (gs : List Goal) → is_bound y.slot.name b ≡ false → Few b ((slot y.slot.sign y.slot.name q, es) ∷ gs) → Few (b ++ (y ∷ [])) ((q, rest) ∷ gs)
few_new b y q es rest gs k f = few_like (names-new b y (slots q ++ goal_slots gs) k) f

pub few_repeated : (b : List Binding) (sign : Sign) (name : List ℕ) (q : Pattern) (es rest : Elements) (gs : List Goal) → is_bound name b ≡ true → Few b ((slot sign name q, es) ∷ gs) → Few b ((q, rest) ∷ gs)
few_repeated b sign name q es rest gs k f = few_like (ap (bound b ++◌) (sym (firsts-repeated b (record { sign = sign; name = name }) (slots q ++ goal_slots gs) k))) f

pub few_inside : (b : List Binding) (inside q : Pattern) (es inner rest : Elements) (gs : List Goal) → Few b ((group inside q, es) ∷ gs) → Few b ((inside, inner) ∷ ((q, rest) ∷ gs))
few_inside b inside q es inner rest gs f = few_like (ap (λ x. bound b ++ unbound b (firsts x)) (sym (append_assoc (slots inside) (slots q) (goal_slots gs)))) f
