use Rattle.std.proofs.Common.{◌∙◌, ap}
use Rattle.fitting.proofs.Backing.{retreats_like}
use Rattle.fitting.proofs.Seeking.{walks_like, seeks_all, seeks_none, sought_more, fewer_left}
use Rattle.fitting.proofs.searching.Search.seek.Goals as goal

pub returns-then-walk : goal.returns-then-walk
returns-then-walk g c = seeks_all c.loop-self.invariant (walks_like (ap (λ r. (g.H.Holder.meaning r.now).tree) c.loop-self.invariant.holder) c.if-walk.ensures)

pub returns-then-not-retreat : goal.returns-then-not-retreat
returns-then-not-retreat g c =
    let w = walks_like (ap (λ r. (g.H.Holder.meaning r.now).tree) c.loop-self.invariant.holder) c.if-walk.ensures in
    seeks_none c.loop-self.invariant w (retreats_like (ap (λ r. (g.H.Holder.meaning r.now).tree) (w.holder ∙ c.loop-self.invariant.holder)) c.if-not-retreat.ensures)

pub loop-self-smaller : goal.loop-self-smaller
loop-self-smaller g c =
    let w = walks_like (ap (λ r. (g.H.Holder.meaning r.now).tree) c.loop-self.invariant.holder) c.if-walk.ensures in
    fewer_left c.loop-self.invariant w (retreats_like (ap (λ r. (g.H.Holder.meaning r.now).tree) (w.holder ∙ c.loop-self.invariant.holder)) c.if-not-retreat.ensures)

pub loop-self-preserved : goal.loop-self-preserved
loop-self-preserved g c =
    let w = walks_like (ap (λ r. (g.H.Holder.meaning r.now).tree) c.loop-self.invariant.holder) c.if-walk.ensures in
    sought_more c.loop-self.invariant w (retreats_like (ap (λ r. (g.H.Holder.meaning r.now).tree) (w.holder ∙ c.loop-self.invariant.holder)) c.if-not-retreat.ensures)
