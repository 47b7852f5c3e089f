-- The cases hold: their fits are those that the enumerator lists. Assumes nothing.
use Rattle.std.proofs.Common.{◌≡◌, ℕ, ◌+◌, ◌<◌, List, [], ◌∷◌, ◌++◌, length, codes, decimal, pos, ap₂, sym, refl, ◌∙◌, subst, arith}
use Rattle.std.proofs.lemmas.Fmt.{decimal_digit}
use Rattle.sexp.specs.Elements.{Elements, octets, none, atom, list}
use Rattle.sexp.specs.Text.{text_then}
use Rattle.sexp.specs.Grammar.{Decimal}
use Rattle.sexp.specs.Reading.{verdict, accepted}
use Rattle.sexp.proofs.Decimal.{decimal_text}
use Rattle.readings.specs.Tables.{table}
use Rattle.holder.specs.Placed.{erase}
use Rattle.rules.specs.Patterns.{Rule, rules_of, book_written}
use Rattle.rules.specs.Bindings.{fill}
use Rattle.rules.specs.Fits.{IsRule}
use Rattle.rules.specs.Complete.{Complete, FewSegments}
use Rattle.rules.proofs.Books.{enumerate, enumerate_complete}
use Rattle.cases.specs.Cases.{Shown, Tried, IsOf, numbered, Writes, Holds, constant_between_segments, two_segments, segment_twice, segment_of_nothing, variable_of_nothing, variable_twice, segment_inside_differs, segment_inside_again, equal_readings, CasesHold}

-- atoms of fewer than ten octets, whose lengths are one digit, and the text of a run of them and then rest
abbrev Short : Elements → Type 0
Short none = Unit {0}
Short (atom (octets os) es) = (length os < 10) × Short es
Short (list inner es) = Short inner × Short es

abbrev short_then : Elements → List ℕ → List ℕ
short_then none rest = rest
short_then (atom (octets os) es) rest = (48 + length os) ∷ (58 ∷ (os ++ short_then es rest))
short_then (list inner es) rest = 40 ∷ short_then inner (41 ∷ short_then es rest)

text_short : (es : Elements) (rest : List ℕ) → Short es → text_then es rest ≡ short_then es rest
text_short none rest h = refl
text_short (atom (octets os) es) rest h = rw (decimal_digit (length os) h.0, text_short es rest h.1) refl
text_short (list inner es) rest h = rw (text_short inner (41 ∷ text_then es rest) h.0, text_short es rest h.1) refl

-- what fits write, where all that they write is short
abbrev ShortWrites : List Rule → List Shown → Type 0
ShortWrites book [] = Unit {0}
ShortWrites book (s ∷ rest) =
    ((r : Rule) × IsRule book s.rule r × Short (fill s.bindings r.template) × (short_then (fill s.bindings r.template) [] ≡ s.writes) × (length s.writes ≡ s.size)) × ShortWrites book rest

short_writes : (book : List Rule) (shown : List Shown) → ShortWrites book shown → Writes book shown
short_writes book [] h = tt
short_writes book (s ∷ rest) h =
    let w = h.0 in
    ((w.0, w.1, text_short (fill s.bindings w.0.template) [] w.2 ∙ w.3, w.4), short_writes book rest h.1)

-- the octets of the readings
reading_1840 : decimal 1840 ≡ codes "1840"
reading_1840 = sym (decimal_text {ds = codes "1840"} (Decimal.positive (omega arith) (omega arith) (omega arith)) (omega arith))

reading_1845 : decimal 1845 ≡ codes "1845"
reading_1845 = sym (decimal_text {ds = codes "1845"} (Decimal.positive (omega arith) (omega arith) (omega arith)) (omega arith))

table_read : erase (table (pos 1840 ∷ pos 1840 ∷ pos 1845 ∷ [])) ≡ list (atom (octets (codes "1840")) (atom (octets (codes "1840")) (atom (octets (codes "1845")) none))) none
table_read = ap₂ (λ (x y : List ℕ). list (atom (octets x) (atom (octets x) (atom (octets y) none))) none) reading_1840 reading_1845

-- a case, from what the enumerator lists
listed : (t : Tried) (elements given : Elements) → verdict t.book ≡ accepted elements → elements ≡ book_written (rules_of elements) → IsOf t.on given →
    FewSegments (rules_of elements) → enumerate (rules_of elements) given ≡ numbered t.fits → ShortWrites (rules_of elements) t.fits → Holds t
listed t elements given a r g few l w = record {
  elements = elements;
  accepts = a;
  all_rules = r;
  given = given;
  is_given = g;
  complete = subst (Complete (rules_of elements) given) l (enumerate_complete (rules_of elements) given few);
  writes = short_writes (rules_of elements) t.fits w;
}

constant_between_segments-holds : Holds constant_between_segments
constant_between_segments-holds = listed _ _ _ refl refl refl (omega arith) refl ((_, refl, omega arith, refl, refl), ((_, refl, omega arith, refl, refl), tt))

two_segments-holds : Holds two_segments
two_segments-holds = listed _ _ _ refl refl refl (omega arith) refl ((_, refl, omega arith, refl, refl), ((_, refl, omega arith, refl, refl), ((_, refl, omega arith, refl, refl), tt)))

segment_twice-holds : Holds segment_twice
segment_twice-holds = listed _ _ _ refl refl refl (omega arith) refl ((_, refl, omega arith, refl, refl), tt)

segment_of_nothing-holds : Holds segment_of_nothing
segment_of_nothing-holds = listed _ _ _ refl refl refl (omega arith) refl ((_, refl, omega arith, refl, refl), tt)

variable_of_nothing-holds : Holds variable_of_nothing
variable_of_nothing-holds = listed _ _ _ refl refl refl (omega arith) refl tt

variable_twice-holds : Holds variable_twice
variable_twice-holds = listed _ _ _ refl refl refl (omega arith) refl ((_, refl, omega arith, refl, refl), tt)

segment_inside_differs-holds : Holds segment_inside_differs
segment_inside_differs-holds = listed _ _ _ refl refl refl (omega arith) refl tt

segment_inside_again-holds : Holds segment_inside_again
segment_inside_again-holds = listed _ _ _ refl refl refl (omega arith) refl ((_, refl, omega arith, refl, refl), tt)

equal_readings-holds : Holds equal_readings
equal_readings-holds = listed _ _ _ refl refl table_read (omega arith) refl ((_, refl, omega arith, refl, refl), tt)

pub cases_hold : CasesHold
cases_hold = (refl, (refl, (refl, (constant_between_segments-holds, (two_segments-holds, (segment_twice-holds, (segment_of_nothing-holds, (variable_of_nothing-holds, (variable_twice-holds, (segment_inside_differs-holds, (segment_inside_again-holds, (equal_readings-holds, tt))))))))))))
