use Rattle.std.proofs.Common.{◌+◌, ◌≤◌, ◌∷◌, decimal, length, ap, ◌∙◌, arith, length-append}
use Rattle.holder.specs.Walks.{put_front}
use Rattle.holder.proofs.Puts.{put_atom}
use Rattle.holder.proofs.elements.Octets.put_text.Goals as goal

pub returns-clause-put : goal.returns-clause-put
returns-clause-put g c =
    let os = c.args.self.now in
    let count = ap decimal c.len-count.ensures.len in
    let end = c.put_number-colon.ensures.end ∙ ap length count in
    let number = c.put_number-colon.ensures.put ∙ ap (λ d. put_front d c.args.output.now) count in
    let room : length (decimal (length os)) + 1 + length os ≤ length c.args.output.now = omega (arith, length-append (decimal (length os)) (58 ∷ os), c.requires) in
    put_atom (decimal (length os)) os c.args.output.now c.put_number-colon.new.output c.put.new.part c.put_number-colon.result c.len-count.result end number room c.put.ensures c.len-count.ensures.len
