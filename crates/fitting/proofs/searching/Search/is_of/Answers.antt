use Rattle.std.proofs.Common.{◌≡◌, ◌-◌, ◌≤◌, take, drop, length, bytes_eq, subst, ◌∙◌, rules}
use Rattle.holder.specs.Placed.{run_at}
use Rattle.holder.proofs.Walk.{atom_stands}
use Rattle.texts.specs.Label.{text_tree}
use Rattle.texts.specs.Walked.{FirstToken}
use Rattle.fitting.specs.declared.marks.Laid.TheVariants.{List as ListLaid}
use Rattle.fitting.proofs.Naming.{atom_told, named_long, tail_marked}
use Rattle.fitting.proofs.searching.Search.is_of.Goals as goal

pub returns : goal.returns
returns g c =
    let pat = text_tree c.args.self.now.text.text.now in
    let m = c.args.mark in
    let os = c.in-Atom.octets in
    let named : m.laid ≡ ListLaid → ⊥ = search rules in
    let stands = atom_stands (run_at m.pattern pat) (c.requires named).1.atom in
    let told = atom_told (run_at m.pattern pat) c.in-Atom.offset os (subst (FirstToken (run_at m.pattern pat)) c.in-Atom.is (c.in-Ok.ensures.element stands)) in
    let same : c.eq-in-Atom.result ≡ bytes_eq c.args.name.now (take (length os.now - 1) (drop 1 os.now)) = c.eq-in-Atom.ensures in
    same ∙ tail_marked pat m os.now c.args.name.now named told.1

pub slice_bounds-eq-count : goal.slice_bounds-eq-count
slice_bounds-eq-count g c =
    let pat = text_tree c.args.self.now.text.text.now in
    let m = c.args.mark in
    let os = c.in-Atom.octets in
    let named : m.laid ≡ ListLaid → ⊥ = search rules in
    let n = c.requires named in
    let told = atom_told (run_at m.pattern pat) c.in-Atom.offset os (subst (FirstToken (run_at m.pattern pat)) c.in-Atom.is (c.in-Ok.ensures.element (atom_stands (run_at m.pattern pat) n.1.atom))) in
    named_long (run_at m.pattern pat) n.0 os.now n.1 told.1

pub slice_bounds-eq-start : goal.slice_bounds-eq-start
slice_bounds-eq-start g c =
    let pat = text_tree c.args.self.now.text.text.now in
    let m = c.args.mark in
    let os = c.in-Atom.octets in
    let named : m.laid ≡ ListLaid → ⊥ = search rules in
    let n = c.requires named in
    let told = atom_told (run_at m.pattern pat) c.in-Atom.offset os (subst (FirstToken (run_at m.pattern pat)) c.in-Atom.is (c.in-Ok.ensures.element (atom_stands (run_at m.pattern pat) n.1.atom))) in
    let long : 1 ≤ length os.now = named_long (run_at m.pattern pat) n.0 os.now n.1 told.1 in
    search rules
