-- The token at the front of a text: what the tests of `lexeme` tell, and what each token is. Assumes nothing.
use Rattle.std.proofs.Common.{◌≡◌, ℕ, suc, ◌+◌, ◌<◌, ◌≤◌, Bool, true, false, cond, not, eqb, ltb, ◌⊎◌, List, [], ◌∷◌, ◌++◌, length, take, drop, sym, refl, ap, ◌∙◌, subst, inl, inr, append-nil, arith}
use Rattle.std.proofs.lemmas.List.{length-append, length-take-le, take-append-drop, take_at}
use Rattle.std.proofs.lemmas.Bool.{cond_both, eqb-true, eqb-false, ltb-true, ltb-false, lt-ltb, le-ltb, ne_eqb, and_parts, not-true, not-false}
use Rattle.std.proofs.lemmas.Bool.Decides.{nat_tests}
use Rattle.sexp.specs.declared.refusals.Refusal.{Refusal}
use Rattle.sexp.specs.declared.refusals.Refusal.TheVariants.{Malformed, OverLimit}
use Rattle.sexp.specs.Grammar.{Digit, Digits, value, Decimal}
use Rattle.sexp.specs.Faults.{Due, Room, Begins, Stops, Fault}
use Rattle.sexp.specs.Reading.{is_digit, digits, behind, Lexeme, padded, body, string_at, complete, full, begins, closes, lexeme}

-- two lists that agree have one first octet
pub first_same : {x y : ℕ} {xs ys : List ℕ} → x ∷ xs ≡ y ∷ ys → x ≡ y
first_same p = cc

-- what each test tells
pub digit_is : (o : ℕ) → Digit o → is_digit o ≡ true
digit_is o h = grind (arith, nat_tests)

pub digit_not : (o : ℕ) → (Digit o → ⊥) → is_digit o ≡ false
digit_not o h = grind (arith, nat_tests)

pub over_true : (depth count : ℕ) → complete depth count ≡ true → Due depth count → ⊥
over_true depth count e h = grind (arith, nat_tests)

pub over_false : (depth count : ℕ) → complete depth count ≡ false → Due depth count
over_false depth count e = grind (arith, nat_tests)

pub over_not : (depth count : ℕ) → Due depth count → complete depth count ≡ false
over_not depth count h = grind (arith, nat_tests)

pub over_is : (depth count : ℕ) → (Due depth count → ⊥) → complete depth count ≡ true
over_is depth count h = grind (arith, nat_tests)

pub cases_due : (depth count : ℕ) → Due depth count ⊎ (Due depth count → ⊥)
cases_due depth count = grind (arith, nat_tests)

pub full_true : (depth count : ℕ) → full depth count ≡ true → Room depth count → ⊥
full_true depth count e h = grind (arith, nat_tests)

pub full_false : (depth count : ℕ) → full depth count ≡ false → Room depth count
full_false depth count e = grind (arith, nat_tests)

pub full_not : (depth count : ℕ) → Room depth count → full depth count ≡ false
full_not depth count h = grind (arith, nat_tests)

pub full_is : (depth count : ℕ) → (Room depth count → ⊥) → full depth count ≡ true
full_is depth count h = grind (arith, nat_tests)

pub begins_true : (o : ℕ) → begins o ≡ true → Begins o
begins_true o e = grind (arith, nat_tests)

pub begins_false : (o : ℕ) → begins o ≡ false → Begins o → ⊥
begins_false o e h = grind (arith, nat_tests)

pub begins_is : (o : ℕ) → Begins o → begins o ≡ true
begins_is o h = grind (arith, nat_tests)

pub begins_not : (o : ℕ) → (Begins o → ⊥) → begins o ≡ false
begins_not o h = grind (arith, nat_tests)

-- the digits at the front and what stands behind them, a step at a time
pub digits_yes : (o : ℕ) (rest : List ℕ) → Digit o → digits (o ∷ rest) ≡ o ∷ digits rest
digits_yes o rest h = rw (digit_is o h, digits)

pub digits_no : (o : ℕ) (rest : List ℕ) → (Digit o → ⊥) → digits (o ∷ rest) ≡ []
digits_no o rest h = rw (digit_not o h, digits)

pub behind_yes : (o : ℕ) (rest : List ℕ) → Digit o → behind (o ∷ rest) ≡ behind rest
behind_yes o rest h = rw (digit_is o h, behind)

pub behind_no : (o : ℕ) (rest : List ℕ) → (Digit o → ⊥) → behind (o ∷ rest) ≡ o ∷ rest
behind_no o rest h = rw (digit_not o h, behind)

pub cases_digit : (o : ℕ) → Digit o ⊎ (Digit o → ⊥)
cases_digit o = grind (arith, nat_tests)

pub digits_behind : (t : List ℕ) → digits t ++ behind t ≡ t
digits_behind [] = refl
digits_behind (o ∷ rest) = go (cases_digit o) (digits_behind rest)
  where
    go : Digit o ⊎ (Digit o → ⊥) → digits rest ++ behind rest ≡ rest → digits (o ∷ rest) ++ behind (o ∷ rest) ≡ o ∷ rest
    go (inl y) h = rw (digits_yes o rest y, behind_yes o rest y) (ap (o ∷◌) h)
    go (inr n) h = rw (digits_no o rest n, behind_no o rest n)

pub digits_all : (t : List ℕ) → Digits (digits t)
digits_all [] = tt
digits_all (o ∷ rest) = go (cases_digit o) (digits_all rest)
  where
    go : Digit o ⊎ (Digit o → ⊥) → Digits (digits rest) → Digits (digits (o ∷ rest))
    go (inl y) h = rw (digits_yes o rest y) (y, h)
    go (inr n) h = rw (digits_no o rest n) tt

pub behind_stops : (t : List ℕ) → Stops (behind t)
behind_stops [] = tt
behind_stops (o ∷ rest) = go (cases_digit o) (behind_stops rest)
  where
    go : Digit o ⊎ (Digit o → ⊥) → Stops (behind rest) → Stops (behind (o ∷ rest))
    go (inl y) h = rw (behind_yes o rest y) h
    go (inr n) h = rw (behind_no o rest n) n

-- digits and then no digit are told apart
pub digits_split : (ds r : List ℕ) → Digits ds → Stops r → digits (ds ++ r) ≡ ds
digits_split [] [] h s = refl
digits_split [] (o ∷ rest) h s = digits_no o rest s
digits_split (d ∷ ds) r h s = digits_yes d (ds ++ r) h.0 ∙ ap (d ∷◌) (digits_split ds r h.1 s)

pub behind_split : (ds r : List ℕ) → Digits ds → Stops r → behind (ds ++ r) ≡ r
behind_split [] [] h s = refl
behind_split [] (o ∷ rest) h s = behind_no o rest s
behind_split (d ∷ ds) r h s = behind_yes d (ds ++ r) h.0 ∙ behind_split ds r h.1 s

-- a decimal has digits without padding, and its value
pub decimal_digits : {ds : List ℕ} {n : ℕ} → Decimal ds n → Digits ds
decimal_digits Decimal.zero = (omega arith, tt)
decimal_digits (Decimal.positive a b h) = ((omega arith, b), h)

pub decimal_value : {ds : List ℕ} {n : ℕ} → Decimal ds n → value ds ≡ n
decimal_value Decimal.zero = refl
decimal_value (Decimal.positive a b h) = refl

pub decimal_plain : {ds : List ℕ} {n : ℕ} → Decimal ds n → padded ds ≡ false
decimal_plain Decimal.zero = refl
decimal_plain (Decimal.positive {d} {ds} a b h) = rw (ne_eqb d 48 (omega arith))

-- digits without padding are a decimal
pub decimal_of : (d : ℕ) (ds : List ℕ) → Digits (d ∷ ds) → padded (d ∷ ds) ≡ false → Decimal (d ∷ ds) (value (d ∷ ds))
decimal_of d [] h e = go (eqb d 48) refl
  where
    go : (b : Bool) → eqb d 48 ≡ b → Decimal (d ∷ []) (value (d ∷ []))
    go true k = rw (eqb-true d 48 k) Decimal.zero
    go false k = let n : d ≡ 48 → ⊥ = eqb-false d 48 k in Decimal.positive (omega arith) h.0.1 tt
decimal_of d (x ∷ ds) h e = let n : d ≡ 48 → ⊥ = grind (arith, nat_tests) in Decimal.positive (omega arith) h.0.1 h.1

-- the token at the front of t, with what makes it that token
pub data Told (end at depth count : ℕ) (t : List ℕ) : Lexeme → Type 0 where
  opening : (rest : List ℕ) → t ≡ 40 ∷ rest → Due depth count → Room depth count → Told end at depth count t Lexeme.opening
  closing : (rest : List ℕ) → t ≡ 41 ∷ rest → 0 < depth → Told end at depth count t Lexeme.closing
  string : (ds os rest : List ℕ) → t ≡ ds ++ (58 ∷ (os ++ rest)) → Decimal ds (length os) → length os ≤ 1024 → Due depth count → Room depth count → Told end at depth count t (Lexeme.string os (length ds + length os))
  fault : {r : Refusal} → Fault end at depth count t r → Told end at depth count t (Lexeme.fault r)

module _ (end at depth count : ℕ) (due : Due depth count) (room : Room depth count) where
  body_told : {n : ℕ} {ds : List ℕ} (r : List ℕ) → Decimal ds n → Stops r → n ≤ 1024 → Told end at depth count (ds ++ r) (body end (at + length ds) (length ds) n r)
  body_told {n} {ds} [] d s l = rw append-nil (Told.fault (Fault.ends_length due room d l))
  body_told {n} {ds} (o ∷ rest) d s l =
      cond_both (not (eqb o 58)) _ _ (Told end at depth count (ds ++ (o ∷ rest)))
      (λ e. Told.fault (Fault.colon o rest due room d l s (eqb-false o 58 (not-true _ e))))
      (λ e. cond_both (ltb (length rest) n) _ _ (Told end at depth count (ds ++ (o ∷ rest)))
      (λ f. Told.fault {r = Malformed end} (rw (eqb-true o 58 (not-false _ e)) (Fault.ends_octets rest due room d l (ltb-true _ _ f))))
      (λ f. whole (eqb-true o 58 (not-false _ e)) (ltb-false _ _ f)))
    where
      whole : o ≡ 58 → n ≤ length rest → Told end at depth count (ds ++ (o ∷ rest)) (Lexeme.string (take n rest) (length ds + n))
      whole c f =
          let m : length (take n rest) ≡ n = length-take-le n rest f in
          subst (λ k. Told end at depth count (ds ++ (o ∷ rest)) (Lexeme.string (take n rest) (length ds + k))) m
          (Told.string ds (take n rest) (drop n rest) (rw (c, take-append-drop n rest)) (rw m d) (rw m l) due room)

  string_told : (ds r : List ℕ) → Digits ds → 0 < length ds → Stops r → Told end at depth count (ds ++ r) (string_at end at ds r)
  string_told [] r h p s = absurd (omega arith)
  string_told (d ∷ ds) r h p s =
      cond_both (padded (d ∷ ds)) _ _ (Told end at depth count (d ∷ (ds ++ r)))
      (λ e. Told.fault (zeroed ds h.1 (and_parts _ _ e)))
      (λ e. let v : Decimal (d ∷ ds) (value (d ∷ ds)) = decimal_of d ds h e in
      cond_both (ltb 1024 (value (d ∷ ds))) _ _ (Told end at depth count (d ∷ (ds ++ r)))
      (λ f. Told.fault (Fault.long r due room v s (ltb-true _ _ f)))
      (λ f. body_told r v s (ltb-false _ _ f)))
    where
      zeroed : (ds : List ℕ) → Digits ds → (eqb d 48 ≡ true) × (ltb 0 (length ds) ≡ true) → Fault end at depth count (d ∷ (ds ++ r)) (Malformed at)
      zeroed [] k e = absurd (omega (arith, ltb-true 0 0 e.1))
      zeroed (x ∷ xs) k e = rw (eqb-true d 48 e.0) (Fault.padded due room k.0)

pub told : (end at depth count o : ℕ) (rest : List ℕ) → Told end at depth count (o ∷ rest) (lexeme end depth count at (o ∷ rest))
told end at depth count o rest =
    cond_both (complete depth count) _ _ Goal (λ e. Told.fault (Fault.after (over_true depth count e))) (λ e. inside (over_false depth count e))
  where
    Goal : Lexeme → Type 0
    Goal x = Told end at depth count (o ∷ rest) x

    strung : Due depth count → Room depth count → Digit o → Goal (string_at end at (digits (o ∷ rest)) (behind (o ∷ rest)))
    strung due room d =
        let z : 0 < length (digits (o ∷ rest)) = rw (digits_yes o rest d) (omega arith) in
        subst (λ t. Told end at depth count t (string_at end at (digits (o ∷ rest)) (behind (o ∷ rest)))) (digits_behind (o ∷ rest))
        (string_told end at depth count due room (digits (o ∷ rest)) (behind (o ∷ rest)) (digits_all (o ∷ rest)) z (behind_stops (o ∷ rest)))

    element : Due depth count → Begins o → Goal (cond (full depth count) (Lexeme.fault (OverLimit at)) (cond (eqb o 40) Lexeme.opening (string_at end at (digits (o ∷ rest)) (behind (o ∷ rest)))))
    element due b =
        cond_both (full depth count) _ _ Goal
        (λ e. Told.fault (Fault.beyond due b (full_true depth count e)))
        (λ e. let room : Room depth count = full_false depth count e in
        cond_both (eqb o 40) _ _ Goal
        (λ f. Told.opening rest (rw (eqb-true o 40 f)) due room)
        (λ f. let n : o ≡ 40 → ⊥ = eqb-false o 40 f in strung due room (omega arith)))

    inside : Due depth count → Goal (cond (closes depth o) Lexeme.closing (cond (not (begins o)) (Lexeme.fault (Malformed at)) (cond (full depth count) (Lexeme.fault (OverLimit at)) (cond (eqb o 40) Lexeme.opening (string_at end at (digits (o ∷ rest)) (behind (o ∷ rest)))))))
    inside due =
        cond_both (closes depth o) _ _ Goal
        (λ e. let p = and_parts (eqb o 41) (ltb 0 depth) e in Told.closing rest (rw (eqb-true o 41 p.0)) (ltb-true 0 depth p.1))
        (λ e. cond_both (not (begins o)) _ _ Goal
        (λ f. Told.fault (Fault.stray due (begins_false o (not-true _ f)) (λ c. grind (arith, nat_tests))))
        (λ f. element due (begins_true o (not-false _ f))))

-- and back: the token from what makes it that token
pub lex_opening : (end depth count at : ℕ) (rest : List ℕ) → Due depth count → Room depth count → lexeme end depth count at (40 ∷ rest) ≡ Lexeme.opening
lex_opening end depth count at rest due room = simp (over_not depth count due, full_not depth count room)

pub lex_closing : (end depth count at : ℕ) (rest : List ℕ) → 0 < depth → lexeme end depth count at (41 ∷ rest) ≡ Lexeme.closing
lex_closing end depth count at rest h = simp (over_not depth count (inl h), lt-ltb 0 depth h)

lex_digit : (end depth count at o : ℕ) (rest : List ℕ) → Due depth count → Room depth count → Digit o → lexeme end depth count at (o ∷ rest) ≡ string_at end at (digits (o ∷ rest)) (behind (o ∷ rest))
lex_digit end depth count at o rest due room d =
    simp (over_not depth count due, full_not depth count room, ne_eqb o 41 (omega arith), digit_is o d, ne_eqb o 40 (omega arith))

lex_digits : (end depth count at d : ℕ) (ds r : List ℕ) → Due depth count → Room depth count → Digits (d ∷ ds) → Stops r → lexeme end depth count at (d ∷ (ds ++ r)) ≡ string_at end at (d ∷ ds) r
lex_digits end depth count at d ds r due room h s =
    lex_digit end depth count at d (ds ++ r) due room h.0 ∙ simp (digits_split (d ∷ ds) r h s, behind_split (d ∷ ds) r h s)

pub lex_string : (end depth count at : ℕ) {ds : List ℕ} {n : ℕ} (r : List ℕ) → Due depth count → Room depth count → Decimal ds n → Stops r → lexeme end depth count at (ds ++ r) ≡ string_at end at ds r
lex_string end depth count at r due room Decimal.zero s = lex_digits end depth count at 48 [] r due room (decimal_digits Decimal.zero) s
lex_string end depth count at r due room (Decimal.positive {d} {ds} a b h) s = lex_digits end depth count at d ds r due room ((omega arith, b), h) s

-- a decimal of at most 1,024 leads to the colon
pub string_body : (end at : ℕ) {ds : List ℕ} {n : ℕ} (r : List ℕ) → Decimal ds n → n ≤ 1024 → string_at end at ds r ≡ body end (at + length ds) (length ds) n r
string_body end at {ds} {n} r v l = simp (decimal_plain v, decimal_value v, le-ltb 1024 n l)

pub stops_colon : (r : List ℕ) → Stops (58 ∷ r)
stops_colon r = omega arith

pub lex_atom : (end depth count at : ℕ) {ds : List ℕ} (os rest : List ℕ) → Due depth count → Room depth count → Decimal ds (length os) → length os ≤ 1024 → lexeme end depth count at (ds ++ (58 ∷ (os ++ rest))) ≡ Lexeme.string os (length ds + length os)
lex_atom end depth count at {ds} os rest due room v l =
    lex_string end depth count at (58 ∷ (os ++ rest)) due room v (stops_colon (os ++ rest)) ∙ string_body end at (58 ∷ (os ++ rest)) v l
    ∙ simp (length-append, le-ltb (length os + length rest) (length os) (omega arith), take_at os rest (length os) refl)

pub lex_fault : (end depth count at : ℕ) {t : List ℕ} {r : Refusal} → Fault end at depth count t r → lexeme end depth count at t ≡ Lexeme.fault r
lex_fault end depth count at (Fault.stray {o} due nb c) =
    simp (over_not depth count due, stands, begins_not o nb)
  where
    stands : closes depth o ≡ false
    stands = grind (arith, nat_tests)
lex_fault end depth count at (Fault.beyond {o} due b full) =
    simp (over_not depth count due, ne_eqb o 41 (omega arith), begins_is o b, full_is depth count full)
lex_fault end depth count at (Fault.padded {d} {rest} due room h) =
    lex_digit end depth count at 48 (d ∷ rest) due room (omega arith)
    ∙ ap (λ (x : List ℕ). string_at end at (48 ∷ x) (behind (48 ∷ (d ∷ rest)))) (digits_yes d rest h) ∙ simp (lt-ltb 0 (suc (length (digits rest))) (omega arith))
lex_fault end depth count at (Fault.long {n} rest due room v s l) =
    lex_string end depth count at rest due room v s ∙ simp (decimal_plain v, decimal_value v, lt-ltb 1024 n l)
lex_fault end depth count at (Fault.colon o rest due room v l s c) =
    lex_string end depth count at (o ∷ rest) due room v s ∙ string_body end at (o ∷ rest) v l ∙ simp (ne_eqb o 58 c)
lex_fault end depth count at (Fault.ends due) = refl
lex_fault end depth count at {t} (Fault.ends_length due room v l) =
    ap (lexeme end depth count at) (sym (append-nil t)) ∙ lex_string end depth count at [] due room v tt ∙ string_body end at [] v l
lex_fault end depth count at (Fault.ends_octets {n} os due room v l m) =
    lex_string end depth count at (58 ∷ os) due room v (stops_colon os) ∙ string_body end at (58 ∷ os) v l ∙ simp (lt-ltb (length os) n m)
lex_fault end depth count at (Fault.after n) = simp (over_is depth count n)
