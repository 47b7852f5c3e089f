use Rattle.std.proofs.Common.{sym, refl, subst}
use Rattle.sexp.specs.Tokens.{Tells}
use Rattle.sexp.proofs.Branches.{past_end, at_complete, at_closing, at_stray, at_full, at_opening, at_string}
use Rattle.sexp.proofs.Stands.{promised}
use Rattle.sexp.proofs.tokens.Cursor.next.Goals as goal

pub returns-in_default : goal.returns-in_default
returns-in_default c = promised c.args.self _ (past_end c.args.self c.in_default.ensures.lookup.3)

pub returns-then-is_complete : goal.returns-then-is_complete
returns-then-is_complete c =
    promised c.args.self _
    (at_complete c.args.self _ c.in-Some.ensures.lookup.3.0 (c.in-Some.ensures.lookup.3.1 0) (sym c.if-is_complete.ensures))

pub returns-then-is_closed_by : goal.returns-then-is_closed_by
returns-then-is_closed_by c =
    promised c.args.self _
    (at_closing c.args.self _ c.in-Some.ensures.lookup.3.0 (c.in-Some.ensures.lookup.3.1 0) (sym c.if-is_complete.ensures) (sym c.if-is_closed_by.ensures), refl, refl)

pub returns-then-not-begins_element : goal.returns-then-not-begins_element
returns-then-not-begins_element c =
    promised c.args.self _
    (at_stray c.args.self _ c.in-Some.ensures.lookup.3.0 (c.in-Some.ensures.lookup.3.1 0) (sym c.if-is_complete.ensures) (sym c.if-is_closed_by.ensures) (sym c.if-not-begins_element.ensures))

pub returns-then-is_full : goal.returns-then-is_full
returns-then-is_full c =
    promised c.args.self _
    (at_full c.args.self _ c.in-Some.ensures.lookup.3.0 (c.in-Some.ensures.lookup.3.1 0) (sym c.if-is_complete.ensures) (sym c.if-is_closed_by.ensures) (sym c.if-not-begins_element.ensures) (sym c.if-is_full.ensures))

pub returns-then-octet-eq40 : goal.returns-then-octet-eq40
returns-then-octet-eq40 c =
    promised c.args.self _
    (at_opening c.args.self _ c.in-Some.ensures.lookup.3.0 (c.in-Some.ensures.lookup.3.1 0) (sym c.if-is_complete.ensures) (sym c.if-is_closed_by.ensures) (sym c.if-not-begins_element.ensures) (sym c.if-is_full.ensures) c.if-octet-eq40.true, refl, refl)

pub returns : goal.returns
returns c =
    let l = at_string c.args.self _ c.in-Some.ensures.lookup.3.0 (c.in-Some.ensures.lookup.3.1 0) (sym c.if-is_complete.ensures) (sym c.if-is_closed_by.ensures) (sym c.if-not-begins_element.ensures) (sym c.if-is_full.ensures) c.if-octet-eq40.false in
    promised c.args.self c.atom.result (subst (λ x. Tells c.args.self x c.atom.result) (sym l) c.atom.ensures)
