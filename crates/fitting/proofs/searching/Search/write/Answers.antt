use Rattle.std.proofs.Common.{◌≡◌, ℕ, ◌<◌, ◌≤◌, ◌⊎◌, inl, inr, true, false, ◌&&◌, length, sym, ◌∙◌, arith}
use Rattle.std.specs.Prelude.{nat_le}
use Rattle.std.proofs.lemmas.Bool.{leb-false}
use Rattle.std.proofs.lemmas.Bool.Decides.{leb_tells}
use Rattle.sexp.specs.Elements.{Elements, count, depth}
use Rattle.sexp.specs.Text.{text}
use Rattle.fitting.specs.Filling.{filled_at}
use Rattle.fitting.specs.Pieces.{IsSize, is_within}
use Rattle.fitting.specs.declared.pieces.Size.{Size}
use Rattle.fitting.specs.Jobs.{TooLarge, large, short, laid}
use Rattle.fitting.proofs.searching.Search.write.Goals as goal

-- what the test of a size says
past_limits : (a b c : ℕ) → (nat_le a 4096 && (nat_le b 32 && nat_le c 32768)) ≡ false → (4096 < a) ⊎ ((32 < b) ⊎ (32768 < c))
past_limits a b c e = elim (leb_tells a 4096) [
  | inl h ↦ elim (leb_tells b 32) [
    | inl k ↦ inr (inr (leb-false c 32768 (rw (h.0, k.0) at e)))
    | inr k ↦ inr (inl k.1)
  ]
  | inr h ↦ inl h.1
]

within_limits : (a b c : ℕ) → (nat_le a 4096 && (nat_le b 32 && nat_le c 32768)) ≡ true → (a ≤ 4096) × (b ≤ 32) × (c ≤ 32768)
within_limits a b c e = grind (arith, leb_tells)

not_large : (e : Elements) → is_within e ≡ true → TooLarge e → ⊥
not_large e is past = omega (arith, within_limits (count e) (depth e) (length (text e)) is, past)

-- within the limits a size tells the length of the text
tells_length : (e : Elements) (s : Size) → is_within e ≡ true → IsSize e s → s.octets ≡ length (text e)
tells_length e s is size = omega (arith, size.octets, (within_limits (count e) (depth e) (length (text e)) is).2)

pub returns-then-not-is_within : goal.returns-then-not-is_within
returns-then-not-is_within g c =
    let e = filled_at (g.H.Holder.meaning c.args.self.now.record.now).tree c.args.self.now c.args.template in
    large (past_limits (count e) (depth e) (length (text e)) (sym (c.is_within.ensures e c.size-size.ensures) ∙ c.if-not-is_within.true))

pub returns-then-output-size : goal.returns-then-output-size
returns-then-output-size g c =
    let e = filled_at (g.H.Holder.meaning c.args.self.now.record.now).tree c.args.self.now c.args.template in
    let is : is_within e ≡ true = sym (c.is_within.ensures e c.size-size.ensures) ∙ c.if-not-is_within.false in
    short (not_large e is) (omega (arith, c.if-output-size.true, tells_length e c.size-size.result is c.size-size.ensures))

pub returns : goal.returns
returns g c =
    let e = filled_at (g.H.Holder.meaning c.args.self.now.record.now).tree c.args.self.now c.args.template in
    let is : is_within e ≡ true = sym (c.is_within.ensures e c.size-size.ensures) ∙ c.if-not-is_within.false in
    rw (c.put.ensures.end, c.put.ensures.put) (laid (not_large e is) (omega (arith, c.if-output-size.false, tells_length e c.size-size.result is c.size-size.ensures)))
