use Rattle.std.proofs.Common.{rules, ◌≡◌, ◌<◌, ◌++◌, length, get_or, sym, ◌∙◌}
use Rattle.std.proofs.lemmas.Option.{get_or_from_slice_get}
use Rattle.outlines.specs.Escapes.{shown}
use Rattle.outlines.proofs.Lines.{found, shown_more}
use Rattle.outlines.proofs.outline.add_atom.Goals.{in-Some+in_ok-add_octet, in_default}
use Rattle.outlines.proofs.outline.add_atom.Goals as goal

pub loop-index-preserved : goal.loop-index-preserved
loop-index-preserved g c =
    let inside : c.loop-index.index < length c.args.octets.now = search rules in
    elim c.match-get.branch [
      | in-Some+in_ok-add_octet w ↦
          let is : w.in-Some.octet ≡ get_or c.args.octets.now c.loop-index.index 0 = sym (get_or_from_slice_get c.args.octets.now c.loop-index.index w.in-Some.octet 0 (sym c.get.ensures ∙ w.in-Some.is)) in
          let added : c.match-get.lines.items ≡ c.loop-index.lines.items ++ shown w.in-Some.octet = search rules in
          shown_more _ c.loop-index.lines.items _ c.args.octets.now c.loop-index.index inside c.loop-index.invariant (rw (← is) added)
      | in_default w ↦ absurd (found c.args.octets.now c.loop-index.index inside (sym c.get.ensures ∙ w.in_default.is))
    ]
