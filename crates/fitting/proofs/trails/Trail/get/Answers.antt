use Rattle.std.proofs.Common.{rules, ◌≡◌, reverse, Some, None, sym, ap, ◌∙◌}
use Rattle.std.specs.Prelude.{slice_get}
use Rattle.fitting.proofs.Stacking.{bottom_pair, get_pair, get_no_first, get_no_second}
use Rattle.fitting.proofs.trails.Trail.get.Goals as goal

pub returns-in_err-mark : goal.returns-in_err-mark
returns-in_err-mark c =
    let marks = c.self.inside.marks.entries in
    let places = c.self.inside.places.entries in
    let read : slice_get (reverse marks) c.args.index ≡ None = search rules in
    c.from_residual.ensures ∙ sym (bottom_pair marks places _ c.args.index c.self.invariant (ap (λ s. s.entries) c.self.view_is) ∙ get_no_first (reverse marks) (reverse places) c.args.index read)

pub returns-in_err-place : goal.returns-in_err-place
returns-in_err-place c =
    let marks = c.self.inside.marks.entries in
    let places = c.self.inside.places.entries in
    let read : slice_get (reverse places) c.args.index ≡ None = search rules in
    c.from_residual-in_err-place.ensures ∙ sym (bottom_pair marks places _ c.args.index c.self.invariant (ap (λ s. s.entries) c.self.view_is) ∙ get_no_second (reverse marks) (reverse places) c.args.index read)

pub returns : goal.returns
returns c =
    let marks = c.self.inside.marks.entries in
    let places = c.self.inside.places.entries in
    let mark : slice_get (reverse marks) c.args.index ≡ Some c.in_ok-mark.mark = search rules in
    let place : slice_get (reverse places) c.args.index ≡ Some c.in_ok-place.place = search rules in
    sym (bottom_pair marks places _ c.args.index c.self.invariant (ap (λ s. s.entries) c.self.view_is) ∙ get_pair (reverse marks) (reverse places) c.args.index _ _ mark place)
