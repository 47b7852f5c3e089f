-- The token at a cursor, by the tests that tell it. Assumes nothing.
use Rattle.std.proofs.Common.{◌≡◌, ℕ, ◌+◌, ◌<◌, ◌≤◌, true, false, ◌∷◌, length, get_or, drop, sym, refl, ap, ◌∙◌}
use Rattle.std.proofs.lemmas.List.{drop_more, drop_all}
use Rattle.std.proofs.lemmas.Bool.{eq-eqb, ne_eqb}
use Rattle.sexp.specs.declared.refusals.Refusal.TheVariants.{Malformed, OverLimit}
use Rattle.sexp.specs.declared.tokens.Cursor.{Cursor}
use Rattle.sexp.specs.Reading.{opening, closing, fault, digits, behind, string_at, complete, closes, begins, full, lexeme}
use Rattle.sexp.specs.Tokens.{lexeme_at}

module _ (from : Cursor) where
  pub past_end : length from.text.now ≤ from.at → lexeme_at from ≡ fault (Malformed (length from.text.now))
  past_end l = ap (lexeme (length from.text.now) from.depth from.count from.at) (drop_all from.at from.text.now l)

  module _ (o : ℕ) (l : from.at < length from.text.now) (octet : o ≡ get_or from.text.now from.at 0) where
    front : drop from.at from.text.now ≡ o ∷ drop (from.at + 1) from.text.now
    front = drop_more from.text.now from.at 0 l ∙ ap (λ x. x ∷ drop (from.at + 1) from.text.now) (sym octet)

    here : lexeme_at from ≡ lexeme (length from.text.now) from.depth from.count from.at (o ∷ drop (from.at + 1) from.text.now)
    here = ap (lexeme (length from.text.now) from.depth from.count from.at) front

    pub at_complete : complete from.depth from.count ≡ true → lexeme_at from ≡ fault (Malformed from.at)
    at_complete a = here ∙ rw a refl

    module _ (a : complete from.depth from.count ≡ false) where
      pub at_closing : closes from.depth o ≡ true → lexeme_at from ≡ closing
      at_closing b = here ∙ rw (a, b) refl

      module _ (b : closes from.depth o ≡ false) where
        pub at_stray : begins o ≡ false → lexeme_at from ≡ fault (Malformed from.at)
        at_stray c = here ∙ rw (a, b, c) refl

        module _ (c : begins o ≡ true) where
          pub at_full : full from.depth from.count ≡ true → lexeme_at from ≡ fault (OverLimit from.at)
          at_full d = here ∙ rw (a, b, c, d) refl

          module _ (d : full from.depth from.count ≡ false) where
            pub at_opening : o ≡ 40 → lexeme_at from ≡ opening
            at_opening e = here ∙ rw (a, b, c, d, eq-eqb o 40 e) refl

            pub at_string : (o ≡ 40 → ⊥) → lexeme_at from ≡ string_at (length from.text.now) from.at (digits (drop from.at from.text.now)) (behind (drop from.at from.text.now))
            at_string e =
                here ∙ rw (a, b, c, d, ne_eqb o 40 e) refl
                ∙ sym (ap (λ r. string_at (length from.text.now) from.at (digits r) (behind r)) front)
