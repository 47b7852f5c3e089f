use Rattle.std.proofs.Common.{◌≡◌, length, min, sym, ap, ◌∙◌, arith}
use Rattle.std.proofs.lemmas.Slice.Zip.{length-zip}
use Rattle.fitting.proofs.trails.Trail.len.Goals as goal

pub returns : goal.returns
returns c =
    let marks = c.self.inside.marks.entries in
    let places = c.self.inside.places.entries in
    let long : length c.args.self.now.entries ≡ min (length marks) (length places) = ap (λ s. length s.entries) (sym c.self.view_is) ∙ length-zip marks places in
    c.len.ensures ∙ omega (arith, c.self.invariant, long)
