use Rattle.std.proofs.Common.{Err, sym, ap, ◌∙◌, subst}
use Rattle.std.proofs.lemmas.Result.{err_from_is_err_and}
use Rattle.sexp.specs.Checks.{FindsThat}
use Rattle.sexp.proofs.Whole.{start, unsized, faulty, whole, trailing, promised}
use Rattle.sexp.proofs.reader.check.Goals as goal

pub returns-then-is_missized : goal.returns-then-is_missized
returns-then-is_missized c = promised c.args.text.now _ (unsized c.args.text (sym c.if-is_missized.ensures))

pub returns-in_err-cursor : goal.returns-in_err-cursor
returns-in_err-cursor c =
    let p = err_from_is_err_and c.from_residual.result c.from_residual.ensures.1 in
    promised c.args.text.now c.from_residual.result
    (p.1 ∙ ap Err p.2 ∙ faulty c.args.text (sym c.if-is_missized.ensures) c.in_err-cursor.field-0.0 c.in_err-cursor.ensures)

pub returns-then-cursor-text : goal.returns-then-cursor-text
returns-then-cursor-text c =
    let found = (subst (FindsThat (start c.args.text)) c.in-Element.is c.in_ok-cursor.ensures).0 in
    promised c.args.text.now _
    (trailing c.args.text (sym c.if-is_missized.ensures) c.in-Element.field-0 found.0 found.1 found.2 c.if-cursor-text.true)

pub returns : goal.returns
returns c =
    let found = (subst (FindsThat (start c.args.text)) c.in-Element.is c.in_ok-cursor.ensures).0 in
    promised c.args.text.now _
    (whole c.args.text (sym c.if-is_missized.ensures) c.in-Element.field-0 found.0 found.1 found.2 c.if-cursor-text.false)
