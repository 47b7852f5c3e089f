use Rattle.std.proofs.Common.{rules, ◌<◌, length}
use Rattle.kandrivo.proofs.Lines.{shown_more}
use Rattle.kandrivo.proofs.taking.rule_line.Goals as goal

pub loop-name-preserved : goal.loop-name-preserved
loop-name-preserved c =
    let inside : c.loop-name.name-index < length c.args.names.now = search rules in
    shown_more _ _ _ c.args.names.now c.loop-name.name-index _ inside c.loop-name.invariant c.in_ok-add_name.ensures
