use Rattle.std.proofs.Common.{◌+◌, refl, ap}
use Rattle.fitting.specs.declared.searching.Search.{Search}
use Rattle.fitting.proofs.Laying.{segments_left, segment_not, segment_laid}
use Rattle.fitting.proofs.searching.Search.segment.Goals as goal

pub bounds-self-self : goal.bounds-self-self
bounds-self-self g c =
    let from = c.args.self.now in
    segments_left (g.H.Holder.meaning from.record.now) from c.requires.sound c.requires.cursor c.args.pattern c.requires.at c.requires.new

pub returns-in_default : goal.returns-in_default
returns-in_default g c =
    let from = c.args.self.now in
    segment_not (g.H.Holder.meaning from.record.now) from c.requires.sound c.requires.cursor c.args.pattern c.requires.at c.requires.new _ refl c.in_default.ensures

pub returns : goal.returns
returns g c =
    let from = c.args.self.now in
    segment_laid (g.H.Holder.meaning from.record.now) from c.requires.sound c.requires.cursor c.args.pattern c.requires.at c.requires.new _ refl
    c.in-Some.behind c.in-Some.ensures c.unwrap_or.result c.unwrap_or.ensures
    (record c.mark.new.self { segments = c.mark.new.self.segments + 1 }) c.go_on.new.self c.go_on.result (ap (λ (x : Search g.row.H.Denot). record x { segments = x.segments + 1 }) c.mark.ensures) c.go_on.ensures
