-- Where a lawful rule lies, its pattern is read, and it is one that can be searched for. Assumes nothing.
use Rattle.std.proofs.Common.{◌≡◌, ◌≤◌, sym, ap, ◌∙◌, subst}
use Rattle.sexp.specs.Elements.{count}
use Rattle.rules.specs.Patterns.{Rule, pattern_of, names, segments}
use Rattle.rules.specs.Signs.{Signed}
use Rattle.rules.proofs.Writing.{pattern_of-written, written-signed}
use Rattle.books.specs.declared.places.PlacedRule.{PlacedRule}
use Rattle.books.specs.Meant.{LiesAt}
use Rattle.fitting.specs.Finding.{pattern_at, LawfulPattern}

-- the pattern that is read there is the rule's
pub pattern_at-lies : {q : Rule} {r : PlacedRule} → LiesAt q r → pattern_at r.text.text.now r.pattern ≡ q.pattern
pattern_at-lies {q} h = ap pattern_of h.pattern.writes ∙ pattern_of-written q.pattern

-- and it is lawful
pub lawful_pattern : {q : Rule} {r : PlacedRule} → LiesAt q r → LawfulPattern r.text.text.now r.pattern
lawful_pattern {q} h = record {
  stands = h.pattern.stands;
  signed = subst Signed (sym h.pattern.writes) (written-signed q.pattern);
  whole = λ name e. h.lawful.pattern.whole name (sym (pattern_at-lies h) ∙ e);
  size = subst (λ x. count x ≤ 256) (sym h.pattern.writes) h.lawful.pattern.few;
  few = subst (λ p. segments (names p) ≤ 4) (sym (pattern_at-lies h)) h.lawful.segments_few;
}
