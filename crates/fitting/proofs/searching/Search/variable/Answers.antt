use Rattle.fitting.proofs.Laying.{variable_none, variable_laid}
use Rattle.fitting.proofs.searching.Search.variable.Goals as goal

pub returns-in_default : goal.returns-in_default
returns-in_default g c =
    let from = c.args.self.now in
    variable_none (g.H.Holder.meaning from.record.now) from c.requires.sound c.requires.cursor c.args.pattern c.requires.at c.requires.new c.in_default.is

pub returns : goal.returns
returns g c =
    let from = c.args.self.now in
    variable_laid (g.H.Holder.meaning from.record.now) from c.requires.sound c.requires.cursor c.args.pattern c.requires.at c.requires.new c.in-Some.place c.in-Some.is
    c.mark.new.self c.go_on.new.self c.go_on.result (rw c.next_after-behind.ensures at c.mark.ensures) (rw c.next_after-behind.ensures at c.go_on.ensures)
