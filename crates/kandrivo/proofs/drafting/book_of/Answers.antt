use Rattle.std.proofs.Common.{Err, inr, sym, ap, ◌∙◌}
use Rattle.std.proofs.lemmas.Result.{err_from_is_err_and}
use Rattle.sexp.specs.Elements.{none, list}
use Rattle.sexp.specs.Reading.{accepted}
use Rattle.rules.specs.Patterns.{rules_written}
use Rattle.kandrivo.specs.Books.{drafted}
use Rattle.kandrivo.proofs.Progress.{begins}
use Rattle.kandrivo.proofs.drafting.book_of.Goals as goal

pub returns-in_err-take_all : goal.returns-in_err-take_all
returns-in_err-take_all c =
    let told = err_from_is_err_and c.from_residual-in_err-take_all.result c.from_residual-in_err-take_all.ensures.1 in
    let whole = begins c.args.text.now (sym c.begin.ensures.answer ∙ c.in_ok-begin.was) in
    let refused = c.in_err-take_all.ensures in
    let writes = refused.0 ∙ ap drafted c.in_ok-begin.ensures.left in
    rw (told.1 ∙ ap Err told.2)
    (inr (record { draft = c.take_all.new.draft; writes = whole ∙ ap (λ x. accepted (list x none)) (sym writes); refused = refused.1 }))

pub returns : goal.returns
returns c =
    let whole = begins c.args.text.now (sym c.begin.ensures.answer ∙ c.in_ok-begin.was) in
    let taken = ap rules_written c.close.ensures.rules ∙ (c.in_ok-take_all.ensures ∙ ap drafted c.in_ok-begin.ensures.left) in
    whole ∙ ap (λ x. accepted (list x none)) (sym taken)
