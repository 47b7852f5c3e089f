-- A token that was told stands in the text, and the rest begins behind it. Assumes nothing.
use Rattle.std.proofs.Common.{◌≡◌, ℕ, ◌+◌, List, [], ◌∷◌, ◌++◌, length, drop, Ok, Err, decimal, Result, sym, ap, ◌∙◌, subst, inl, inr, ⊎_elim, append_assoc, append-nil, arith, length-drop}
use Rattle.std.proofs.lemmas.List.{drop-drop, drop_at, length-append}
use Rattle.sexp.specs.declared.refusals.Refusal.{Refusal}
use Rattle.sexp.specs.declared.tokens.Cursor.{Cursor}
use Rattle.sexp.specs.declared.tokens.Step.{Step}
use Rattle.sexp.specs.declared.tokens.Token.{Token}
use Rattle.sexp.specs.declared.tokens.Token.TheVariants.{Opening, Closing, Atom}
use Rattle.sexp.specs.Elements.{octets}
use Rattle.sexp.specs.Text.{atom_then}
use Rattle.sexp.specs.Reading.{opening, closing, string, fault}
use Rattle.sexp.specs.Tokens.{lexeme_at, TellsToken, Tells, spelled, FaultAt, StandsInText, FaultsAsListed}
use Rattle.sexp.proofs.Decimal.{decimal_text}
use Rattle.sexp.proofs.Lexing.{lex_fault}
use Rattle.sexp.proofs.Branches.{past_end}
use Rattle.sexp.proofs.Steps.{says, strung}

module _ (from : Cursor) where
  rest_of : (o : ℕ) (rest : List ℕ) → drop from.at from.text.now ≡ o ∷ rest → drop from.at from.text.now ≡ o ∷ drop (from.at + 1) from.text.now
  rest_of o rest e = e ∙ ap (o ∷◌) (sym (sym (drop-drop 1 from.at from.text.now) ∙ ap (drop 1) e))

  stands_opening : lexeme_at from ≡ opening → drop from.at from.text.now ≡ 40 ∷ drop (from.at + 1) from.text.now
  stands_opening e = let f = says (length from.text.now) from.depth from.count from.at (drop from.at from.text.now) opening e in rest_of 40 f.0 f.1

  stands_closing : lexeme_at from ≡ closing → drop from.at from.text.now ≡ 41 ∷ drop (from.at + 1) from.text.now
  stands_closing e = let f = says (length from.text.now) from.depth from.count from.at (drop from.at from.text.now) closing e in rest_of 41 f.0 f.1

  stands_atom : (os : List ℕ) (more : ℕ) → lexeme_at from ≡ string os more → drop from.at from.text.now ≡ atom_then (octets os) [] ++ drop (from.at + (more + 1)) from.text.now
  stands_atom os more e =
      let s = strung (length from.text.now) from.depth from.count from.at (drop from.at from.text.now) os more e in
      let written : s.ds ≡ decimal (length os) = decimal_text s.writes (omega (arith, s.short)) in
      let front : List ℕ = s.ds ++ (58 ∷ os) in
      let whole : drop from.at from.text.now ≡ front ++ s.rest = s.front ∙ simp append_assoc in
      let wide : length front ≡ more + 1 = simp length-append (omega (arith, s.extent)) in
      let behind : drop (from.at + (more + 1)) from.text.now ≡ s.rest = sym (drop-drop (more + 1) from.at from.text.now) ∙ ap (drop (more + 1)) whole ∙ drop_at front s.rest (more + 1) wide in
      whole ∙ (λ i. (written i ++ (58 ∷ os)) ++ sym behind i) ∙ ap (λ (o : List ℕ). (decimal (length os) ++ (58 ∷ o)) ++ drop (from.at + (more + 1)) from.text.now) (sym (append-nil os))

  stands_token : (k : Token) (next : Cursor) → TellsToken from (lexeme_at from) k next → drop from.at from.text.now ≡ spelled k ++ drop next.at from.text.now
  stands_token (Opening offset) next h = stands_opening h.0 ∙ ap (λ (c : Cursor). 40 ∷ drop c.at from.text.now) (sym h.2)
  stands_token (Closing offset) next h = stands_closing h.0 ∙ ap (λ (c : Cursor). 41 ∷ drop c.at from.text.now) (sym h.2)
  stands_token (Atom offset os) next h = stands_atom os.now h.0 h.1 ∙ ap (λ (c : Cursor). atom_then (octets os.now) [] ++ drop c.at from.text.now) (sym h.3)

  stands : (r : Result Step Refusal) → Tells from (lexeme_at from) r → StandsInText from r
  stands (Err k) h = tt
  stands (Ok s) h = stands_token s.token s.next h

-- a call at a cursor is refused exactly as listed
module _ (from : Cursor) where
  token_no_fault : (token : Token) (next : Cursor) (k : Refusal) → TellsToken from (lexeme_at from) token next → lexeme_at from ≡ fault k → ⊥
  token_no_fault (Opening offset) next k h e = let f = h.0 in let z : ◌≡◌ {A = ℕ} 0 1 = cc in omega arith
  token_no_fault (Closing offset) next k h e = let f = h.0 in let z : ◌≡◌ {A = ℕ} 0 1 = cc in omega arith
  token_no_fault (Atom offset os) next k h e = let f = h.1 in let z : ◌≡◌ {A = ℕ} 0 1 = cc in omega arith

  told_fault : (r : Result Step Refusal) (k : Refusal) → Tells from (lexeme_at from) r → lexeme_at from ≡ fault k → r ≡ Err k
  told_fault (Err j) k h e = let same : j ≡ k = cc in ap Err same
  told_fault (Ok s) k h e = absurd (token_no_fault s.token s.next k h e)

  listed : (k : Refusal) → FaultAt from k → lexeme_at from ≡ fault k
  listed k (inl f) = lex_fault (length from.text.now) from.depth from.count from.at f
  listed k (inr x) = past_end from x.0 ∙ ap fault (sym x.2)

  unlisted : (k : Refusal) → lexeme_at from ≡ fault k → FaultAt from k
  unlisted k e =
      ⊎_elim inl
      (λ x. inr (omega (arith, length-drop from.at from.text.now, ap length x.0), x.1, x.2))
      (says (length from.text.now) from.depth from.count from.at (drop from.at from.text.now) (fault k) e)

  is_fault : (r : Result Step Refusal) (k : Refusal) → Tells from (lexeme_at from) r → r ≡ Err k → lexeme_at from ≡ fault k
  is_fault r k h e = subst (Tells from (lexeme_at from)) e h

  faults_listed : (r : Result Step Refusal) → Tells from (lexeme_at from) r → FaultsAsListed from r
  faults_listed r h k = ((λ e. unlisted k (is_fault r k h e)), (λ at. told_fault r k h (listed k at)))

  -- all that is promised of the token at a cursor
  pub promised : (r : Result Step Refusal) → Tells from (lexeme_at from) r → record { token : Tells from (lexeme_at from) r; rest : StandsInText from r; faults : FaultsAsListed from r }
  promised r h = record { token = h; rest = stands from r h; faults = faults_listed r h }
