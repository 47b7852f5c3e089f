use Rattle.std.proofs.Common.{rules, ◌≡◌, sym, ◌∙◌, true≢false}
use Rattle.std.proofs.lemmas.Slice.Eq.{bytes_eq-Decides}
use Rattle.holder.specs.declared.kinds.Kind.TheVariants.{List as ListKind, Atom as AtomKind}
use Rattle.holder.specs.Placed.{run_at, kind_of, octets_of}
use Rattle.fitting.proofs.Cursors.{kind_atom, kind_list}
use Rattle.fitting.proofs.Laying.{element_stands, constant_none, constant_list, constant_other, constant_laid}
use Rattle.fitting.proofs.searching.Search.constant.Goals.{then-eq-via-then-eq, then-eq-via-else-eq+then-not-has_octets}
use Rattle.fitting.proofs.searching.Search.constant.Goals as goal

pub returns-in_default : goal.returns-in_default
returns-in_default g c =
    let from = c.args.self.now in
    constant_none (g.H.Holder.meaning from.record.now) from c.requires.sound c.requires.cursor c.args.pattern c.requires.at c.args.octets.now c.requires.is c.in_default.is

pub returns-then-eq : goal.returns-then-eq
returns-then-eq g c =
    let from = c.args.self.now in
    let m = g.H.Holder.meaning from.record.now in
    let place = c.in-Some.place in
    let stands = element_stands m from c.requires.sound c.requires.cursor c.args.pattern c.requires.at place c.in-Some.is in
    elim c.then-eq.branch [
      | then-eq-via-then-eq w ↦
          let kind : kind_of (run_at place m.tree) ≡ ListKind = search rules in
          constant_list m from c.requires.sound c.requires.cursor c.args.pattern c.requires.at c.args.octets.now c.requires.is place c.in-Some.is (kind_list (run_at place m.tree) stands kind)
      | then-eq-via-else-eq+then-not-has_octets w ↦
          let kind : kind_of (run_at place m.tree) ≡ AtomKind = search rules in
          constant_other m from c.requires.sound c.requires.cursor c.args.pattern c.requires.at c.args.octets.now c.requires.is place c.in-Some.is (kind_atom (run_at place m.tree) stands kind)
          (λ e. true≢false (sym ((bytes_eq-Decides (octets_of (run_at place m.tree)) c.args.octets.now).1 (sym e)) ∙ (sym w.has_octets.ensures ∙ w.if-not-has_octets.true)))
    ]

pub returns : goal.returns
returns g c =
    let from = c.args.self.now in
    let m = g.H.Holder.meaning from.record.now in
    let place = c.in-Some.place in
    let kind : kind_of (run_at place m.tree) ≡ AtomKind = search rules in
    let stands = element_stands m from c.requires.sound c.requires.cursor c.args.pattern c.requires.at place c.in-Some.is in
    constant_laid m from c.requires.sound c.requires.cursor c.args.pattern c.requires.at c.args.octets.now c.requires.is place c.in-Some.is c.go_on.new.self c.go_on.result
    (kind_atom (run_at place m.tree) stands kind)
    ((bytes_eq-Decides (octets_of (run_at place m.tree)) c.args.octets.now).0 (sym c.has_octets.ensures ∙ c.if-not-has_octets.false))
    (rw c.next_after.ensures at c.go_on.ensures)
