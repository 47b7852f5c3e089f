use Rattle.std.proofs.Common.{rules, ap, ◌∙◌, sym, ◌+◌, length, arith, slice_index, ◌≡◌, [], ◌∷◌, nat_abs, w32}
use Rattle.std.proofs.lemmas.Int.{to_z-of_z}
use Rattle.readings.proofs.Places.{one_digit}
use Rattle.readings.proofs.record.answers.ReadingsRecordHolder.octet_at.Goals as goal

pub returns-in-0-to-9 : goal.returns-in-0-to-9
returns-in-0-to-9 c =
    let one = c.reading_at.ensures ∙ one_digit c.reading_at.result (search rules) (search rules) in
    let first : c.args.index ≡ 0 = omega (arith, c.requires.below, ap length one) in
    ap (λ z. 48 + nat_abs z) (to_z-of_z w32 c.reading_at.result (search rules))
    ∙ ap (slice_index ((48 + nat_abs c.reading_at.result) ∷ [])) (sym first)
    ∙ sym (ap (λ os. slice_index os c.args.index) one)
