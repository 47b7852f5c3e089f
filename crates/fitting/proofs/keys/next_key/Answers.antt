use Rattle.std.proofs.Common.{arith}
use Rattle.holder.specs.Copies.{record_of}
use Rattle.search.proofs.Asking.{rule_number}
use Rattle.fitting.proofs.Asking.{asks-first, asks-own, asks-one, asks-more, asks-found, asks-none}
use Rattle.fitting.proofs.keys.next_key.Goals as goal
use Rattle.fitting.proofs.keys.next_key.Goals.{in-Some, in_default-2, in_default}

pub loop-rule-init : goal.loop-rule-init
loop-rule-init g c =
    let book = c.args.book.now in
    let e = record_of (g.H.Holder.meaning c.args.holder.now) in
    elim c.match-behind.branch [
      | in-Some w ↦ rw (w.number-is, w.in-Some.is) (asks-own book e w.in-Some.key (omega arith))
      | in_default-2 w ↦ rw (w.number-is, w.in-Some.is) (asks-one book e w.in-Some.key (omega arith))
      | in_default w ↦ rw (w.number-is, w.in_default.is) (asks-first book e)
    ]

pub returns-in-Some-least_of : goal.returns-in-Some-least_of
returns-in-Some-least_of g c =
    let r = c.in-Some-rule.ensures.held in
    asks-found r.0 c.in-Some-rule.rule _ r.1 r.2 c.in-Some-least_of.ensures c.loop-rule.invariant

pub overflow_add-number : goal.overflow_add-number
overflow_add-number g c =
    let r = c.in-Some-rule.ensures.held in
    let n = rule_number c.args.book.now c.loop-rule.number r.0 r.1 in
    omega (arith, n.1, c.rule.ensures.lawful.few)

pub loop-rule-smaller : goal.loop-rule-smaller
loop-rule-smaller g c =
    let r = c.in-Some-rule.ensures.held in
    let n = rule_number c.args.book.now c.loop-rule.number r.0 r.1 in
    omega (arith, n.1)

pub loop-rule-preserved : goal.loop-rule-preserved
loop-rule-preserved g c =
    let r = c.in-Some-rule.ensures.held in
    asks-more r.0 c.in-Some-rule.rule r.1 r.2 c.in_default-least_of.ensures c.loop-rule.invariant

pub returns : goal.returns
returns g c = asks-none c.in_default-rule.ensures.held c.loop-rule.invariant
