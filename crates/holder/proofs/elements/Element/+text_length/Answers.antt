use Rattle.std.proofs.Common.{ap, rules}
use Rattle.holder.specs.Walks.{run_of}
use Rattle.holder.proofs.Loops.{counted_none, counted_more, counted_most}
use Rattle.holder.proofs.elements.Element.+text_length.Goals as goal

pub loop-rest-init : goal.loop-rest-init
loop-rest-init g t c = counted_none _ _ c.in-List.ensures.shows.0 c.in-List.ensures.shows.1

pub overflow_add-total : goal.overflow_add-total
overflow_add-total g t c =
    search (rules, counted_most _ _ _ _ _ c.content.ensures.within c.loop-rest.invariant (ap run_of c.in-Some.is) c.text_length-total.ensures)

pub loop-rest-preserved : goal.loop-rest-preserved
loop-rest-preserved g t c =
    counted_more _ _ _ _ _ _ c.loop-rest.invariant (ap run_of c.in-Some.is) c.text_length-total.ensures c.next-rest.ensures.behind
