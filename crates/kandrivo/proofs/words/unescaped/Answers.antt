use Rattle.std.proofs.Common.{◌≡◌, ◌<◌, length, rules}
use Rattle.kandrivo.proofs.Reading.{next_read, none_read, all_read}
use Rattle.kandrivo.proofs.words.unescaped.Goals as goal

pub loop-rest-preserved : goal.loop-rest-preserved
loop-rest-preserved c octets p e =
    let some : 0 < length c.loop-rest.rest.now = search rules in
    rw c.in_ok-push.ensures.items (next_read c.in-Some.behind c.in-Some.ensures.reads some (c.loop-rest.invariant octets p e))

pub returns-in_default : goal.returns-in_default
returns-in_default c octets p e =
    let some : 0 < length c.loop-rest.rest.now = search rules in
    none_read c.in_default.ensures.reads some (c.loop-rest.invariant octets p e)

pub returns : goal.returns
returns c octets p e =
    let none : length c.loop-rest.rest.now ≡ 0 = search rules in
    all_read none (c.loop-rest.invariant octets p e)
