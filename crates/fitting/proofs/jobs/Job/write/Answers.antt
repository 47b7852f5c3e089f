use Rattle.std.proofs.Common.{sym, subst}
use Rattle.std.proofs.lemmas.Result.{err_from_is_err_and}
use Rattle.fitting.specs.Filling.{HoldsFor, filled_at}
use Rattle.fitting.specs.Jobs.{Writes, fit}
use Rattle.fitting.proofs.Showing.{write_none, write_holds, write_filled}
use Rattle.fitting.proofs.jobs.Job.write.Goals as goal

pub returns-in_err-rule : goal.returns-in_err-rule
returns-in_err-rule g c =
    let p = err_from_is_err_and c.from_residual.result c.from_residual.ensures.1 in
    rw p.1 (write_none (c.in_err-rule.ensures.tells) (sym p.2))

pub write-requires : goal.write-requires
write-requires g c =
    let h = c.in_ok-rule.ensures in
    let s = h.tells.1 in
    subst (λ x. HoldsFor (g.H.Holder.meaning x.now).tree c.in_ok-rule.fit c.in_ok-rule.rule.template) (sym h.holder) (write_holds s)

pub returns : goal.returns
returns g c =
    let h = c.in_ok-rule.ensures in
    let s = h.tells.1 in
    let wrote = subst (λ x. Writes (filled_at (g.H.Holder.meaning x.now).tree c.in_ok-rule.fit c.in_ok-rule.rule.template) c.args.output.now c.write.result c.write.new.output) h.holder c.write.ensures in
    fit h.tells.0 s.standing (subst (λ es. Writes es c.args.output.now c.write.result c.write.new.output) (write_filled s) wrote)
