use Rattle.std.proofs.Common.{◌≡◌, refl}
use Rattle.kandrivo.specs.Picks.{picked_text}
use Rattle.kandrivo.proofs.Choosing.{still_before, picks_fit, picks_none}
use Rattle.kandrivo.proofs.Reaching.{one_fewer}
use Rattle.kandrivo.proofs.picking.pick.Goals as goal
use Rattle.kandrivo.proofs.picking.pick.Goals.{in-Ok, in-Err}

pub loop-count-preserved : goal.loop-count-preserved
loop-count-preserved g c = still_before c.in-Fit.ensures.lawful c.loop-count.invariant c.in-Fit.ensures.goes c.if-count-number.false

pub loop-count-smaller : goal.loop-count-smaller
loop-count-smaller g c = one_fewer c.in-Fit.ensures.lawful c.in-Fit.ensures.goes

pub returns-in-Fit : goal.returns-in-Fit
returns-in-Fit g c =
    let told : c.match-branch-2.result ≡ picked_text c.in_ok-text-in-Fit.field-0 = elim c.match-branch-2.branch [
      | in-Ok w ↦ rw (w.result-is, w.in-Ok.is) refl
      | in-Err w ↦ rw (w.result-is, w.in-Err.is) refl
    ] in
    rw told
    (picks_fit c.in-Fit.ensures.lawful c.loop-count.invariant c.in-Fit.ensures.goes c.if-count-number.true c.in_ok-text-in-Fit.ensures.text)

pub returns-in-End : goal.returns-in-End
returns-in-End g c = picks_none c.in-End.ensures.lawful c.loop-count.invariant c.in-End.ensures.goes
