-- The fit that stands, and what its names are. Assumes nothing.
use Rattle.std.proofs.Common.{◌≡◌, ℕ, ◌||◌, Bool, true, false, true≢false, bytes_eq, List, [], ◌∷◌, inl, inr, refl, sym, ap, ◌∙◌, subst}
use Rattle.std.proofs.lemmas.Slice.Eq.{bytes_eq-Decides}
use Rattle.sexp.specs.Elements.{Elements}
use Rattle.holder.specs.Placed.{Placed, erase}
use Rattle.rules.specs.declared.signs.Sign.{Sign}
use Rattle.rules.specs.Complete.{In}
use Rattle.rules.specs.Patterns.{Rule, Slot}
use Rattle.rules.specs.Bindings.{Binding, bound}
use Rattle.rules.specs.Goals.{is_bound}
use Rattle.rules.specs.Fits.{IsRule, Fit}
use Rattle.search.specs.Least.{OfFit}
use Rattle.search.proofs.Asking.{one_rule}
use Rattle.books.specs.declared.places.PlacedRule.{PlacedRule}
use Rattle.books.specs.Meant.{LiesAt, NoneHas}
use Rattle.fitting.specs.declared.jobs.Position.{Position}
use Rattle.fitting.specs.declared.jobs.Position.TheVariants.{At}
use Rattle.fitting.specs.declared.keys.Key.{Key}
use Rattle.fitting.specs.declared.searching.Search.{Search}
use Rattle.fitting.specs.Finding.{pattern_at, found_in, HasFit}
use Rattle.fitting.specs.Jobs.{Standing, StandsLaid}
use Rattle.fitting.proofs.Rules.{pattern_at-lies}

module _ {book : List Rule} {e : Elements} {position : Position} where
  -- it stands at one key
  one_key : (k : Key) → position ≡ At k → (s : Standing book e position) → s.at ≡ k
  one_key k is s = let both : At s.at ≡ At k = sym s.is ∙ is in cc

  -- none stands where the book lacks the rule
  pub none_lacking : (k : Key) → position ≡ At k → NoneHas book k.rule → Standing book e position → ⊥
  none_lacking k is none s = none s.rule (subst (λ (x : Key). IsRule book x.rule s.rule) (one_key k is s) s.numbered)

  -- its key's lengths belong to a fit of its rule
  lengths_of_fit : (k : Key) (q : Rule) → position ≡ At k → IsRule book k.rule q → (s : Standing book e position) → OfFit q.pattern e k.lengths
  lengths_of_fit k q is i s =
      let own : IsRule book k.rule s.fit.0 = subst (λ (x : Key). IsRule book x.rule s.fit.0) (one_key k is s) s.fit.1 in (
        s.bindings,
        subst (λ (x : Rule). Fit x.pattern e s.bindings) (one_rule book k.rule s.fit.0 q own i) s.fit.2,
        ap (λ x. x.lengths) s.its_key ∙ ap (λ (x : Key). x.lengths) (one_key k is s),
      )

  -- none stands where they belong to none
  pub none_fitting : (k : Key) (q : Rule) (r : PlacedRule) → position ≡ At k → IsRule book k.rule q → LiesAt q r → (OfFit (pattern_at r.text.text.now r.pattern) e k.lengths → ⊥) → Standing book e position → ⊥
  none_fitting k q r is i lies none s = none (subst (λ p. OfFit p e k.lengths) (sym (pattern_at-lies lies)) (lengths_of_fit k q is i s))

-- one stands where a search has laid a fit of its rule
pub one_stands : {H : Type 0} {book : List Rule} {tree : Placed} {position : Position} (k : Key) (q : Rule) (r : PlacedRule) (fit : Search H) → position ≡ At k → IsRule book k.rule q → LiesAt q r → fit.text ≡ r.text →
    HasFit (pattern_at r.text.text.now r.pattern) (erase tree) k.lengths tree fit → StandsLaid book tree position r fit
one_stands {tree = tree} k q r fit is i lies text laid =
    let own : HasFit q.pattern (erase tree) k.lengths tree fit = subst (λ p. HasFit p (erase tree) k.lengths tree fit) (pattern_at-lies lies) laid in
    record {
      standing = record {
        at = k;
        is = is;
        rule = q;
        bindings = found_in tree fit;
        numbered = i;
        fit = (q, i, own.fit);
        its_key = ap (λ ls. record { rule = k.rule; lengths = ls }) own.lengths_are;
      };
      lies = lies;
      text = text;
      laid = own;
      bindings = refl;
    }

-- a name is bound just if a binding is of a slot with that name
pub bound_slot : (name : List ℕ) (m : List Binding) → is_bound name m ≡ true → (sign : Sign) × In (record { sign = sign; name = name }) (bound m)
bound_slot name [] h = absurd (true≢false (sym h))
bound_slot name (b ∷ m) h = go (bytes_eq name b.slot.name) refl (bound_slot name m)
  where
    go : (t : Bool) → bytes_eq name b.slot.name ≡ t → (is_bound name m ≡ true → (sign : Sign) × In (record { sign = sign; name = name }) (bound m)) → (sign : Sign) × In (record { sign = sign; name = name }) (bound (b ∷ m))
    go true e ih = (b.slot.sign, inl (ap (λ n. record { sign = b.slot.sign; name = n }) ((bytes_eq-Decides name b.slot.name).0 e)))
    go false e ih = let k = ih (rw e at h) in (k.0, inr k.1)

pub slot_bound : (s : Slot) (m : List Binding) → In s (bound m) → is_bound s.name m ≡ true
slot_bound s [] h = absurd h
slot_bound s (b ∷ m) (inl e) = simp ((bytes_eq-Decides s.name b.slot.name).1 (ap (λ (x : Slot). x.name) e))
slot_bound s (b ∷ m) (inr k) = go (bytes_eq s.name b.slot.name) (slot_bound s m k)
  where
    go : (t : Bool) → is_bound s.name m ≡ true → t || is_bound s.name m ≡ true
    go true e = refl
    go false e = e
