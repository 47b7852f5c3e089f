use Rattle.std.proofs.Common.{refl, sym, ◌∙◌, arith}
use Rattle.texts.specs.Label.{text_tree}
use Rattle.fitting.specs.Entries.{Entry}
use Rattle.fitting.proofs.Entries.{sound_at}
use Rattle.fitting.proofs.Naming.{marks_name, none_more, none_all, none_past, finds}
use Rattle.fitting.proofs.searching.Search.find.Goals as goal

pub is_of-requires : goal.is_of-requires
is_of-requires g c =
    let pat = text_tree c.args.self.now.text.text.now in
    let rec = (g.H.Holder.meaning c.args.self.now.record.now).tree in
    let e : Entry = (c.in_ok-mark.mark, c.in_ok-mark.place) in
    let s = sound_at pat rec c.args.self.now.trail.entries c.loop-index.index e c.requires (sym c.get.ensures ∙ c.in_ok-mark.was) in
    marks_name pat rec e s.0 s.1

pub returns-then-is_of : goal.returns-then-is_of
returns-then-is_of g c =
    let pat = text_tree c.args.self.now.text.text.now in
    let rec = (g.H.Holder.meaning c.args.self.now.record.now).tree in
    finds pat rec c.args.self.now.trail.entries c.args.name.now c.loop-index.index (c.in_ok-mark.mark, c.in_ok-mark.place) c.requires c.loop-index.invariant (sym c.get.ensures ∙ c.in_ok-mark.was) (sym c.is_of.ensures ∙ c.if-is_of.true)

pub loop-index-preserved : goal.loop-index-preserved
loop-index-preserved g c =
    let pat = text_tree c.args.self.now.text.text.now in
    let rec = (g.H.Holder.meaning c.args.self.now.record.now).tree in
    none_more pat rec c.args.self.now.trail.entries c.args.name.now c.loop-index.index (c.in_ok-mark.mark, c.in_ok-mark.place) c.loop-index.invariant (sym c.get.ensures ∙ c.in_ok-mark.was) (sym c.is_of.ensures ∙ c.if-is_of.false)

pub loop-index-init : goal.loop-index-init
loop-index-init g c = refl

pub returns-in_err-mark : goal.returns-in_err-mark
returns-in_err-mark g c =
    let pat = text_tree c.args.self.now.text.text.now in
    let rec = (g.H.Holder.meaning c.args.self.now.record.now).tree in
    rw c.from_residual.ensures (none_past pat rec c.args.self.now.trail.entries c.args.name.now c.loop-index.index c.loop-index.invariant (sym c.get.ensures ∙ c.in_err-mark.was))

pub returns : goal.returns
returns g c =
    let pat = text_tree c.args.self.now.text.text.now in
    let rec = (g.H.Holder.meaning c.args.self.now.record.now).tree in
    none_all pat rec c.args.self.now.trail.entries c.args.name.now c.loop-index.index c.loop-index.invariant (omega arith)
