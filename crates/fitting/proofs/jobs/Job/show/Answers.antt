use Rattle.std.proofs.Common.{Some, None, sym, subst}
use Rattle.std.proofs.lemmas.Result.{err_from_is_err_and}
use Rattle.texts.specs.Label.{text_tree}
use Rattle.fitting.specs.Moves.{Finds}
use Rattle.fitting.specs.Jobs.{fit}
use Rattle.fitting.proofs.Showing.{show_none, shows_unknown, shows_found}
use Rattle.fitting.proofs.jobs.Job.show.Goals as goal

pub returns-in_err-fit : goal.returns-in_err-fit
returns-in_err-fit g c =
    let p = err_from_is_err_and c.from_residual.result c.from_residual.ensures.1 in
    rw p.1 (show_none (c.in_err-fit.ensures.tells) (sym p.2))

pub returns-in-Some : goal.returns-in-Some
returns-in-Some g c =
    let h = c.in_ok-fit.ensures in
    let s = h.tells.1 in
    let laid = c.in_ok-fit.fit in
    let found = subst (λ x. Finds (text_tree laid.text.text.now) (g.H.Holder.meaning x.now).tree laid.trail.entries c.args.name.now (Some (c.in-Some.mark, c.in-Some.place))) h.holder c.in-Some.ensures in
    rw (c.then_some.ensures, c.from-length.ensures) (fit h.tells.0 s.standing (shows_found s c.args.name.now (c.in-Some.mark, c.in-Some.place) found))

pub returns-in-None : goal.returns-in-None
returns-in-None g c =
    let h = c.in_ok-fit.ensures in
    let s = h.tells.1 in
    let laid = c.in_ok-fit.fit in
    let found = subst (λ x. Finds (text_tree laid.text.text.now) (g.H.Holder.meaning x.now).tree laid.trail.entries c.args.name.now None) h.holder c.in-None.ensures in
    fit h.tells.0 s.standing (shows_unknown s c.args.name.now found)
