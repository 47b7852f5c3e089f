-- What a search from rule to rule has found out so far, and what it tells at its end. Assumes nothing.
use Rattle.std.proofs.Common.{◌≡◌, ℕ, ◌+◌, ◌<◌, ◌≤◌, ⊎_elim, List, length, Option, Some, None, refl, subst, arith}
use Rattle.std.proofs.lemmas.Bool.{cases_lt}
use Rattle.sexp.specs.Elements.{Elements}
use Rattle.rules.specs.Patterns.{Rule}
use Rattle.rules.specs.Fits.{IsRule}
use Rattle.books.specs.declared.places.PlacedRule.{PlacedRule}
use Rattle.books.specs.Meant.{LiesAt, NoneHas}
use Rattle.search.specs.Least.{start, LeastAfter}
use Rattle.search.specs.Books.{BookPosition, first, past, LeastPast}
use Rattle.search.proofs.Asking.{Asked, asked-first, asked-own, asked-later, NoneBelow, none_below-one, none_below-past, none_below-next, least_past-found, least_past-none, rule_exists}
use Rattle.fitting.specs.declared.keys.Key.{Key}
use Rattle.fitting.specs.Moves.{position_of}
use Rattle.fitting.specs.Finding.{pattern_at}
use Rattle.fitting.specs.Keys.{key_of}
use Rattle.fitting.proofs.Rules.{pattern_at-lies}

-- a search through a book stands at a rule's number: no rule below it has a fit past the position, this one is asked behind
-- these lengths or from the start, and each later one from the start
pub record Asks (book : List Rule) (e : Elements) (position : BookPosition) (n : ℕ) (lengths : Option (List ℕ)) : Type 0 where
  pub none : NoneBelow book e position n
  pub some : 1 ≤ n
  pub own : Asked position n (position_of lengths)
  pub later : (m : ℕ) → n < m → Asked position m start

-- it begins with rule 1 before all keys
pub asks-first : (book : List Rule) (e : Elements) → Asks book e first 1 None
asks-first book e = record {
  none = none_below-one book e first;
  some = omega arith;
  own = asked-first 1;
  later = λ m l. asked-first m;
}

-- behind a key with the key's rule
pub asks-own : (book : List Rule) (e : Elements) (k : Key) → 1 ≤ k.rule → Asks book e (past (key_of k)) k.rule (Some k.lengths)
asks-own book e k l = record {
  none = none_below-past book e (key_of k);
  some = l;
  own = asked-own (key_of k) k.rule refl;
  later = λ m l. asked-later (key_of k) m l;
}

-- and with rule 1 where that has the number 0
pub asks-one : (book : List Rule) (e : Elements) (k : Key) → k.rule ≡ 0 → Asks book e (past (key_of k)) 1 None
asks-one book e k z = record {
  none = none_below-one book e (past (key_of k));
  some = omega arith;
  own = asked-later (key_of k) 1 (omega arith);
  later = λ m l. asked-later (key_of k) m (omega arith);
}

module _ {book : List Rule} {e : Elements} {position : BookPosition} {n : ℕ} {lengths : Option (List ℕ)} where
  -- it goes on where the rule has no fit past the position
  pub asks-more : (q : Rule) (r : PlacedRule) → IsRule book n q → LiesAt q r → LeastAfter (pattern_at r.text.text.now r.pattern) e (position_of lengths) None →
      Asks book e position n lengths → Asks book e position (n + 1) None
  asks-more q r i lies none h = record {
    none = none_below-next q i h.own (subst (λ p. LeastAfter p e (position_of lengths) None) (pattern_at-lies lies) none) h.none;
    some = omega (arith, h.some);
    own = h.later (n + 1) (omega arith);
    later = λ m l. h.later m (omega arith);
  }

  -- a fit of the rule has the least key
  pub asks-found : (q : Rule) (r : PlacedRule) (ls : List ℕ) → IsRule book n q → LiesAt q r → LeastAfter (pattern_at r.text.text.now r.pattern) e (position_of lengths) (Some ls) →
      Asks book e position n lengths → LeastPast book e position (Some (record { rule = n; lengths = ls }))
  asks-found q r ls i lies least h = least_past-found q ls i h.own (subst (λ p. LeastAfter p e (position_of lengths) (Some ls)) (pattern_at-lies lies) least) h.none

  -- and where no rule has the number, there is none
  pub asks-none : NoneHas book n → Asks book e position n lengths → LeastPast book e position None
  asks-none lacks h = least_past-none
      (⊎_elim (λ l. l) (λ u. let r = rule_exists book n h.some u in absurd (lacks r.0 r.1)) (cases_lt (length book) n))
      h.none
