use Rattle.std.proofs.Common.{rules, ◌<◌, ◌≤◌, length, refl}
use Rattle.fitting.proofs.Stacking.{push_none, push_first, push_both}
use Rattle.fitting.proofs.trails.Trail.push.Goals as goal

pub returns-then-is_full : goal.returns-then-is_full
returns-then-is_full c =
    let full : c.self.inside.places.room ≤ length c.self.inside.places.entries = search rules in
    (push_none c.self.inside.marks c.self.inside.places _ c.self.invariant c.self.view_is full, refl)

pub returns-in_err-push : goal.returns-in_err-push
returns-in_err-push c =
    push_first c.self.inside.marks c.push.new.self c.self.inside.places _ c.args.mark c.args.place _ c.self.invariant c.self.view_is (search rules) c.from_residual.ensures.0

pub returns : goal.returns
returns c =
    let room : length c.self.inside.places.entries < c.self.inside.places.room = search rules in
    push_both c.self.inside.marks c.push.new.self c.self.inside.places c.push-2.new.self _ c.args.mark c.args.place _ c.self.invariant c.self.view_is room (search rules) c.push-2.ensures
