use Rattle.std.proofs.Common.{◌<◌, length, arith, length-take}
use Rattle.holder.specs.Placed.{run_at, octets_of}
use Rattle.holder.proofs.Puts.{put_more}
use Rattle.fitting.proofs.pieces.put_octets.Goals as goal

pub loop-index-preserved : goal.loop-index-preserved
loop-index-preserved g c =
    let below : c.loop-index.index < length (octets_of (run_at c.args.place (g.H.Holder.meaning c.args.holder.now).tree)) = omega (arith, length-take c.length_at-count.result c.args.output.now) in
    put_more _ _ _ _ _ below (omega arith) c.loop-index.invariant c.octet_at.ensures
