use Rattle.std.proofs.Common.{◌<◌, ◌++◌, [], ◌∷◌, ap, ◌∙◌, length, arith}
use Rattle.books.specs.Listed.{slot_of}
use Rattle.books.proofs.Slots.{added, length_first}
use Rattle.books.proofs.names.Names.push.Goals as goal

pub bounds-self-inside-self-inside : goal.bounds-self-inside-self-inside
bounds-self-inside-self-inside c =
    omega (arith, length_first c.self.inside.names c.self.inside.count c.self.invariant.0 c.self.invariant.1, ap length c.self.view_is)

pub returns : goal.returns
returns c =
    let room : c.self.inside.count < length c.self.inside.names = omega (arith, length_first c.self.inside.names c.self.inside.count c.self.invariant.0 c.self.invariant.1, ap length c.self.view_is) in
    added c.self.inside.names c.self.inside.count c.args.name room ∙ ap (λ ns. ns ++ (slot_of c.args.name ∷ [])) c.self.view_is
