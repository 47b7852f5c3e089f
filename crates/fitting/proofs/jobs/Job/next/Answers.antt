use Rattle.std.proofs.Common.{◌∙◌, sym, ap}
use Rattle.std.proofs.lemmas.Bool.Decides.{not_from_Decides}
use Rattle.holder.specs.Copies.{record_of}
use Rattle.fitting.specs.declared.jobs.Position.TheVariants.{At}
use Rattle.fitting.specs.Jobs.{refused}
use Rattle.fitting.proofs.Following.{follows-start, follows-at, follows-end, counted_more, counted_same, moves-next, moves-end}
use Rattle.fitting.proofs.jobs.Job.next.Goals as goal
use Rattle.fitting.proofs.jobs.Job.next.Goals.{in-Start, in-At, in-End, then-self-lt-MOST_COUNT, else-self-lt-MOST_COUNT}

pub returns-then-is_small : goal.returns-then-is_small
returns-then-is_small g c = refused (c.is_small.ensures.0 c.if-is_small.true)

pub returns-after-self-lt-MOST_COUNT : goal.returns-after-self-lt-MOST_COUNT
returns-after-self-lt-MOST_COUNT g c = moves-next c.in-Some.key
    (not_from_Decides c.is_small.result c.is_small.ensures c.if-is_small.false)
    (elim c.match-self.branch [
      | in-Start w ↦ rw w.next-is (follows-start c.args.book.now (record_of (g.H.Holder.meaning c.args.holder.now)) _ w.in-Start.is w.next_key-next.ensures)
      | in-At w ↦ rw w.next-is (follows-at c.args.book.now (record_of (g.H.Holder.meaning c.args.holder.now)) _ w.in-At.key w.in-At.is w.next_key-next-in-At.ensures)
      | in-End w ↦ follows-end c.args.book.now (record_of (g.H.Holder.meaning c.args.holder.now)) _ w.in-End.is w.next-is
    ])
    c.in-Some.is
    (elim c.if-self-lt-MOST_COUNT.branch [
      | then-self-lt-MOST_COUNT w ↦ ap (λ n. record { position = At c.in-Some.key; count = n }) (counted_more c.args.self.now.count w.if-self-lt-MOST_COUNT.true) ∙ sym w.self-is
      | else-self-lt-MOST_COUNT w ↦ ap (λ n. record { position = At c.in-Some.key; count = n }) (counted_same c.args.self.now.count w.if-self-lt-MOST_COUNT.false) ∙ sym w.self-is
    ])

pub returns-in-None : goal.returns-in-None
returns-in-None g c = moves-end
    (not_from_Decides c.is_small.result c.is_small.ensures c.if-is_small.false)
    (elim c.match-self.branch [
      | in-Start w ↦ rw w.next-is (follows-start c.args.book.now (record_of (g.H.Holder.meaning c.args.holder.now)) _ w.in-Start.is w.next_key-next.ensures)
      | in-At w ↦ rw w.next-is (follows-at c.args.book.now (record_of (g.H.Holder.meaning c.args.holder.now)) _ w.in-At.key w.in-At.is w.next_key-next-in-At.ensures)
      | in-End w ↦ follows-end c.args.book.now (record_of (g.H.Holder.meaning c.args.holder.now)) _ w.in-End.is w.next-is
    ])
    c.in-None.is
