use Rattle.std.proofs.Common.{rules, ◌≡◌, ◌+◌, ◌-◌, length, drop, sym, refl, ap, ◌∙◌, arith}
use Rattle.sexp.specs.Checks.{short_value}
use Rattle.sexp.specs.Reading.{digits, behind, padded, string_at}
use Rattle.sexp.proofs.Atoms.{atom_told, atom_within, behind_within, digits_end, stray_told}
use Rattle.sexp.proofs.tokens.Cursor.atom.Goals as goal

pub overflow_sub-colon : goal.overflow_sub-colon
overflow_sub-colon c = behind_within c.args.self.at c.args.self.text.now c.in-Some.behind.now (c.in-Some.ensures.1 ∙ ap behind c.split_at.ensures.back)

pub returns-in_default-behind : goal.returns-in_default-behind
returns-in_default-behind c =
    let there = c.split_at.ensures.back in
    let unpadded = ap (λ t. padded (digits t)) (sym there) ∙ sym c.if-is_padded.ensures in
    let short = c.in-Some.ensures.0 ∙ ap (λ t. short_value (digits t)) there in
    let rest = c.in-Some.ensures.1 ∙ ap behind there in
    stray_told c.args.self.at c.in-Some.length c.args.self.text.now c.in-Some.behind.now c.requires.inside rest unpadded short c.in_default-behind.len_at_least (search rules)

pub overflow_add-result-2 : goal.overflow_add-result-2
overflow_add-result-2 c =
    let rest = c.in-Some.ensures.1 ∙ ap behind c.split_at.ensures.back in
    let colon = digits_end c.args.self.at c.args.self.text.now c.in-Some.behind.now c.requires.inside rest in
    let within = atom_within c.args.self.at c.in-Some.length c.args.self.text.now _ _ c.requires.inside refl rest c.in-58.len_at_least c.in-Some-get.ensures.lookup.0.1 in
    search rules

pub returns : goal.returns
returns c =
    let end = length c.args.self.text.now in
    let ds = digits (drop c.args.self.at c.args.self.text.now) in
    let there = c.split_at.ensures.back in
    let unpadded = ap (λ t. padded (digits t)) (sym there) ∙ sym c.if-is_padded.ensures in
    let short = c.in-Some.ensures.0 ∙ ap (λ t. short_value (digits t)) there in
    let rest = c.in-Some.ensures.1 ∙ ap behind there in
    let octets = c.in-Some-get.ensures.lookup.0 in
    let ends = digits_end c.args.self.at c.args.self.text.now c.in-Some.behind.now c.requires.inside rest in
    let sum : end - length c.in-Some.behind.now + 1 + c.in-Some.length ≡ c.args.self.at + (length ds + c.in-Some.length + 1) = omega (arith, ends) in (
      length ds + c.in-Some.length,
      ap (string_at end c.args.self.at ds) (sym rest)
          ∙ atom_told end c.args.self.at c.in-Some.length ds _ _ unpadded short (search rules) c.in-58.len_at_least octets.1 octets.2,
      refl,
      (λ i. record { text = c.args.self.text; at = sum i; depth = c.args.self.depth; count = c.args.self.count + 1 }),
    )
