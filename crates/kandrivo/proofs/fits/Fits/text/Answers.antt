use Rattle.std.proofs.Common.{◌≡◌, length, refl, ◌∙◌, rules}
use Rattle.fitting.proofs.Handing.{whole_written}
use Rattle.kandrivo.proofs.Reaching.{Cut, gives_text}
use Rattle.kandrivo.proofs.fits.Fits.text.Goals as goal
use Rattle.kandrivo.proofs.fits.Fits.text.Goals.{in-Ok, in-Err}

-- what is told is what was written
cut : (g : _) → (c : goal.Joined-written g) → Cut c.write-written.result c.write-written.new.output c.match-written.result
cut g c = elim c.match-written.branch [
  | in-Ok w ↦ rw (w.result-is, w.in-Ok.is) (w.truncate.new.self, refl, whole_written w.in-Ok.length c.write-written.new.output _ w.truncate.ensures.items (c.write-written.auto.output ∙ c.as_mut_slice.ensures.len))
  | in-Err w ↦ rw (w.result-is, w.in-Err.is) refl
]

pub returns-clause-text : goal.returns-clause-text
returns-clause-text g c =
    let marks : length c.self.inside.marks ≡ 256 = search rules in
    let octets : length c.as_mut_slice.result.now ≡ 32768 = c.as_mut_slice.ensures.len ∙ c.in_ok-text.ensures.len in
    rw (← c.self.view_is)
    (gives_text c.self.invariant marks c.self.told octets c.write-written.ensures (cut g c))
