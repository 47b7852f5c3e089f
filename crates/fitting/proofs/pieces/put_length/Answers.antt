use Rattle.std.proofs.Common.{◌≡◌, ◌<◌, ◌++◌, length, drop, decimal, refl, ap, ◌∙◌, arith, length-append, length-drop}
use Rattle.holder.specs.Walks.{put_front}
use Rattle.holder.proofs.Puts.{put_octet}
use Rattle.fitting.proofs.pieces.put_length.Goals as goal

pub returns-clause-put : goal.returns-clause-put
returns-clause-put c =
    let old = c.args.output.now in
    let d = decimal c.args.count in
    let number : c.as_bytes-number.result.now ≡ d = c.as_bytes-number.ensures.value ∙ c.format.ensures.text in
    let out = c.copy_from_slice.new.self ++ drop (length c.as_bytes-number.result.now) old in
    let put : out ≡ put_front d old = rw (c.copy_from_slice.ensures.after, number) refl in
    let room : length c.as_bytes-number.result.now < length out = omega (arith, c.requires, ap length number, ap length put, length-append d (drop (length d) old), length-drop (length d) old) in
    put_octet d old out 58 (length c.as_bytes-number.result.now) (ap length number) room put
