use Rattle.std.proofs.Common.{rules, ap, sym, ◌∙◌, length, arith}
use Rattle.std.proofs.lemmas.Fmt.{decimal_digit}
use Rattle.holder.specs.Walks.{put_front}
use Rattle.holder.proofs.Puts.{put_first}
use Rattle.holder.proofs.copying.put_number.Goals as goal

pub bounds-output-0 : goal.bounds-output-0
bounds-output-0 c = omega (arith, c.requires, ap length (decimal_digit c.args.number (search rules)))

pub returns-in-0-to-9-clause-end : goal.returns-in-0-to-9-clause-end
returns-in-0-to-9-clause-end c = sym (ap length (decimal_digit c.args.number (search rules)))

pub returns-in-0-to-9-clause-put : goal.returns-in-0-to-9-clause-put
returns-in-0-to-9-clause-put c =
    let digit = decimal_digit c.args.number (search rules) in
    put_first _ c.args.output.now (omega (arith, c.requires, ap length digit)) ∙ sym (ap (λ d. put_front d c.args.output.now) digit)
