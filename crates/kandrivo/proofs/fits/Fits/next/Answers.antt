use Rattle.std.proofs.Common.{◌≡◌, refl}
use Rattle.fitting.specs.Calls.{next_answer}
use Rattle.kandrivo.proofs.Reaching.{said, goes_on}
use Rattle.kandrivo.proofs.fits.Fits.next.Goals as goal
use Rattle.kandrivo.proofs.fits.Fits.next.Goals.{in-Some, in-None}

-- what is told is what the job told
same : (g : _) → (c : goal.Joined-rule g) → next_answer c.next-told.result ≡ said c.match-rule.result
same g c = rw (c.in-Ok.is) (elim c.match-rule.branch [
  | in-Some w ↦ rw (w.result-is, w.in-Some.is) refl
  | in-None w ↦ rw (w.result-is, w.in-None.is) refl
])

pub invariant_of-self : goal.invariant_of-self
invariant_of-self g c = (goes_on (g.H.Holder.meaning c.self.inside.holder.now).lawful.within.few c.self.invariant c.next-told.ensures (same g c)).0

pub returns-clause-goes : goal.returns-clause-goes
returns-clause-goes g c = rw (← c.self.view_is) (goes_on (g.H.Holder.meaning c.self.inside.holder.now).lawful.within.few c.self.invariant c.next-told.ensures (same g c)).1
