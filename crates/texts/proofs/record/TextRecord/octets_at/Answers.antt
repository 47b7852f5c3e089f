use Rattle.std.proofs.Common.{subst, ⊎_elim}
use Rattle.holder.proofs.Walk.{atom_stands}
use Rattle.texts.specs.Walked.{run_from}
use Rattle.texts.proofs.Standing.{found}
use Rattle.texts.proofs.Passing.{Spells, spells}
use Rattle.texts.proofs.record.TextRecord.octets_at.Goals as goal

pub unreachable-requires : goal.unreachable-requires
unreachable-requires c =
    let held = c.args.self.now in
    let place = c.args.place in
    let run = run_from held.text.now place in
    let at = found held.text.now place held.ok (atom_stands run c.requires) in
    let told = spells held.text place run at c.first_token.result.token c.first_token.result.next c.requires c.first_token.ensures in
    ⊎_elim
    (λ w. subst (Spells held.text place run at) w.1 told)
    (λ w. subst (Spells held.text place run at) w.1 told)
    c.in-Opening.is

pub returns : goal.returns
returns c =
    let held = c.args.self.now in
    let place = c.args.place in
    let run = run_from held.text.now place in
    let at = found held.text.now place held.ok (atom_stands run c.requires) in
    let told = spells held.text place run at c.first_token.result.token c.first_token.result.next c.requires c.first_token.ensures in
    subst (Spells held.text place run at) c.in-Atom.is told
