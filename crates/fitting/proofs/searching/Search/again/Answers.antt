use Rattle.fitting.proofs.Laying.{again_not, again_laid}
use Rattle.fitting.proofs.searching.Search.again.Goals as goal

pub returns-in-Some : goal.returns-in-Some
returns-in-Some g c =
    let from = c.args.self.now in
    again_laid (g.H.Holder.meaning from.record.now) from c.requires.sound c.requires.cursor c.args.pattern c.requires.at c.args.mark c.args.run c.requires.known
    c.in-Some.behind c.go_on.new.self c.go_on.result c.in-Some.ensures c.go_on.ensures

pub returns-in-None : goal.returns-in-None
returns-in-None g c =
    let from = c.args.self.now in
    again_not (g.H.Holder.meaning from.record.now) from c.requires.sound c.requires.cursor c.args.pattern c.requires.at c.args.mark c.args.run c.requires.known c.in-None.ensures
