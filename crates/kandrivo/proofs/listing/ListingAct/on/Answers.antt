use Rattle.kandrivo.proofs.Reaching.{one_fewer}
use Rattle.kandrivo.proofs.listing.ListingAct.on.Goals as goal

pub loop-rule-smaller-in_ok-write_all-in-Fit : goal.loop-rule-smaller-in_ok-write_all-in-Fit
loop-rule-smaller-in_ok-write_all-in-Fit g c = rw c.text.ensures.same (one_fewer c.in-Fit.ensures.lawful c.in-Fit.ensures.goes)

pub loop-rule-smaller : goal.loop-rule-smaller
loop-rule-smaller g c = rw c.text.ensures.same (one_fewer c.in-Fit.ensures.lawful c.in-Fit.ensures.goes)
