use Rattle.std.proofs.Common.{rules, refl, sym, ◌∙◌, arith}
use Rattle.sexp.proofs.Scan.{one_more, too_long, at_end, at_other}
use Rattle.sexp.proofs.tokens.length_of.Goals.{then-rest-lt1, in-len1-up+else-is_ascii_digit}
use Rattle.sexp.proofs.tokens.length_of.Goals as goal

pub loop-rest-init : goal.loop-rest-init
loop-rest-init c = record { worth = refl; after = refl; small = omega arith }

pub returns-then-length-gt-MOST_OCTETS : goal.returns-then-length-gt-MOST_OCTETS
returns-then-length-gt-MOST_OCTETS c =
    too_long _ _ _ c.loop-rest.invariant c.in-len1-up.len_at_least (sym c.is_ascii_digit.ensures.value ∙ c.if-is_ascii_digit.true) (omega (arith, c.from.ensures, c.if-length-gt-MOST_OCTETS.true))

pub loop-rest-preserved : goal.loop-rest-preserved
loop-rest-preserved c =
    rw c.from.ensures (one_more _ _ _ c.loop-rest.invariant c.in-len1-up.len_at_least (sym c.is_ascii_digit.ensures.value ∙ c.if-is_ascii_digit.true) (omega (arith, c.from.ensures, c.if-length-gt-MOST_OCTETS.false)))

pub returns : goal.returns
returns c = elim c.if-rest-lt1.branch [
  | then-rest-lt1 w ↦ at_end _ _ _ c.loop-rest.invariant (search rules)
  | in-len1-up+else-is_ascii_digit w ↦ at_other _ _ _ c.loop-rest.invariant w.in-len1-up.len_at_least (sym w.is_ascii_digit.ensures.value ∙ w.if-is_ascii_digit.false)
]
