use Rattle.kandrivo.proofs.Reaching.{fits_left}
use Rattle.kandrivo.proofs.listing.ListingAct.on.Given as goal

abbrev pub decreases-loop-rule : goal.decreases-loop-rule
decreases-loop-rule g l = fits_left l.fits
