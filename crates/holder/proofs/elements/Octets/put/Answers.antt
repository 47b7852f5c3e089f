use Rattle.std.proofs.Common.{◌<◌, length, arith}
use Rattle.holder.proofs.Puts.{put_more}
use Rattle.holder.proofs.elements.Octets.put.Goals as goal

pub loop-index-preserved : goal.loop-index-preserved
loop-index-preserved g c =
    let below : c.loop-index.index < length c.args.self.now = omega (arith, c.loop-index-test.true, c.requires) in
    put_more _ _ _ _ _ below (omega (arith, c.loop-index-test.true, c.loop-index.auto.part)) c.loop-index.invariant c.at.ensures
