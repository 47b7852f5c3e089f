use Rattle.kandrivo.proofs.Choosing.{Before}
use Rattle.kandrivo.proofs.Reaching.{fits_left}
use Rattle.kandrivo.proofs.picking.pick.Given as goal

abbrev pub invariant-loop-count : goal.invariant-loop-count
invariant-loop-count g l = Before l.book (g.H.Holder.meaning l.holder).tree l.number l.fits

abbrev pub decreases-loop-count : goal.decreases-loop-count
decreases-loop-count g l = fits_left l.fits
