-- Reading, a token at a time: what follows from the token at the front. Assumes nothing.
use Rattle.std.proofs.Common.{◌≡◌, ℕ, zero, suc, ◌+◌, ◌-◌, ◌<◌, ◌≤◌, true, false, ◌||◌, eqb, ltb, ◌⊎◌, List, [], ◌∷◌, ◌++◌, length, drop, sym, refl, ap, ◌∙◌, subst, ap₂, inl, inr, ⊎_elim, append_assoc, add-one, arith}
use Rattle.std.proofs.lemmas.List.{length-append, drop_at}
use Rattle.std.proofs.lemmas.Bool.Decides.{nat_tests}
use Rattle.sexp.specs.declared.refusals.Refusal.{Refusal}
use Rattle.sexp.specs.declared.refusals.Refusal.TheVariants.{TextLength, Malformed}
use Rattle.sexp.specs.Elements.{octets, none, atom, Sized}
use Rattle.sexp.specs.Grammar.{Decimal}
use Rattle.sexp.specs.Faults.{Due, Room, Fault}
use Rattle.sexp.specs.Reading.{Lexeme, opening, closing, string, fault, lexeme, refused, read, onward, opened, closed, reading, concluded, verdict, rejected}
use Rattle.sexp.proofs.Lexing.{Told, told, cases_due, over_not, over_is, lex_atom}

-- what is known of a string token
pub record Strung (depth count : ℕ) (t os : List ℕ) (more : ℕ) : Type 0 where
  pub ds : List ℕ
  pub rest : List ℕ
  pub front : t ≡ ds ++ (58 ∷ (os ++ rest))
  pub writes : Decimal ds (length os)
  pub short : length os ≤ 1024
  pub due : Due depth count
  pub room : Room depth count
  pub extent : more ≡ length ds + length os
  pub within : more < length t

-- what a token says of the text that it stands at the front of
abbrev pub Says : (end at depth count : ℕ) (t : List ℕ) → Lexeme → Type 0
Says end at depth count t opening = (rest : List ℕ) × (t ≡ 40 ∷ rest) × Due depth count × Room depth count
Says end at depth count t closing = (rest : List ℕ) × (t ≡ 41 ∷ rest) × (0 < depth)
Says end at depth count t (string os more) = Strung depth count t os more
Says end at depth count t (fault r) = Fault end at depth count t r ⊎ ((t ≡ []) × (Due depth count → ⊥) × (r ≡ Malformed end))

said_by : {end at depth count : ℕ} {t : List ℕ} {x : Lexeme} → Told end at depth count t x → Says end at depth count t x
said_by (Told.opening rest f due room) = (rest, f, due, room)
said_by (Told.closing rest f h) = (rest, f, h)
said_by (Told.string ds os rest f d l due room) =
    record { ds = ds; rest = rest; front = f; writes = d; short = l; due = due; room = room; extent = refl; within = omega (arith, simp length-append at (ap length f)) }
said_by (Told.fault f) = inl f

pub said : (end depth count at : ℕ) (t : List ℕ) → Says end at depth count t (lexeme end depth count at t)
said end depth count at [] = ⊎_elim (λ due. inl (Fault.ends due)) (λ over. inr (refl, over, refl)) (cases_due depth count)
said end depth count at (o ∷ rest) = said_by (told end at depth count o rest)

-- of a token that is known
pub says : (end depth count at : ℕ) (t : List ℕ) (x : Lexeme) → lexeme end depth count at t ≡ x → Says end at depth count t x
says end depth count at t x e = subst (Says end at depth count t) e (said end depth count at t)

pub strung : (end depth count at : ℕ) (t os : List ℕ) (more : ℕ) → lexeme end depth count at t ≡ string os more → Strung depth count t os more
strung end depth count at t os more e = says end depth count at t (string os more) e

-- what stands behind a string's text
pub behind_string : (o : ℕ) (rest ds os behind : List ℕ) → o ∷ rest ≡ ds ++ (58 ∷ (os ++ behind)) → drop (length ds + length os) rest ≡ behind
behind_string o rest ds os behind p =
    ap (drop (suc (length ds + length os))) (p ∙ sym (append_assoc ds (58 ∷ os) behind))
    ∙ drop_at (ds ++ (58 ∷ os)) behind (suc (length ds + length os)) (length-append ds (58 ∷ os) ∙ omega arith)

-- octets of an atom are passed over
pub skip : (end k depth count at : ℕ) (t : List ℕ) → k ≤ length t → reading end k depth count at t ≡ reading end 0 depth count (at + k) (drop k t)
skip end zero depth count at t h = ap (λ x. reading end 0 depth count x t) (omega arith)
skip end (suc k) depth count at [] h = absurd (omega arith)
skip end (suc k) depth count at (o ∷ rest) h = skip end k depth count (at + 1) rest (omega arith) ∙ ap (λ x. reading end 0 depth count x (drop k rest)) (omega arith)

pub step_opening : (end depth count at : ℕ) (t : List ℕ) → lexeme end depth count at t ≡ opening → reading end 0 depth count at t ≡ opened (reading end 0 (depth + 1) (count + 1) (at + 1) (drop 1 t))
step_opening end depth count at [] e = cc
step_opening end depth count at (o ∷ rest) e = rw (e, reading)

pub step_closing : (end depth count at : ℕ) (t : List ℕ) → lexeme end depth count at t ≡ closing → reading end 0 depth count at t ≡ closed (reading end 0 (depth - 1) count (at + 1) (drop 1 t))
step_closing end depth count at [] e = cc
step_closing end depth count at (o ∷ rest) e = rw (e, reading)

-- a string, with its octets still to be passed over, and without
pub token_string : (end depth count at o : ℕ) (rest os : List ℕ) (more : ℕ) → lexeme end depth count at (o ∷ rest) ≡ string os more → reading end 0 depth count at (o ∷ rest) ≡ onward (atom (octets os) none) (reading end more depth (count + 1) (at + 1) rest)
token_string end depth count at o rest os more e = rw (e, reading)

pub step_string : (end depth count at : ℕ) (t os : List ℕ) (more : ℕ) → lexeme end depth count at t ≡ string os more → reading end 0 depth count at t ≡ onward (atom (octets os) none) (reading end 0 depth (count + 1) (at + (more + 1)) (drop (more + 1) t))
step_string end depth count at [] os more e = cc
step_string end depth count at (o ∷ rest) os more e =
    token_string end depth count at o rest os more e ∙ ap (onward (atom (octets os) none)) (skip end more depth (count + 1) (at + 1) rest fits ∙ further)
  where
    fits : more ≤ length rest
    fits = omega (arith, (strung end depth count at (o ∷ rest) os more e).within)

    further : reading end 0 depth (count + 1) (at + 1 + more) (drop more rest) ≡ reading end 0 depth (count + 1) (at + (more + 1)) (drop (more + 1) (o ∷ rest))
    further = rw (add-one more) (ap (λ x. reading end 0 depth (count + 1) x (drop more rest)) (omega arith))

pub string_fits : (end depth count at : ℕ) (t os : List ℕ) (more : ℕ) → lexeme end depth count at t ≡ string os more → (more < length t) × (length os ≤ 1024) × Due depth count × Room depth count
string_fits end depth count at t os more e = let s = strung end depth count at t os more e in (s.within, s.short, s.due, s.room)

-- a string's text is read, with what follows it
pub reads_string : (end depth count at : ℕ) {ds : List ℕ} (os r : List ℕ) → Due depth count → Room depth count → Decimal ds (length os) → length os ≤ 1024
    → reading end 0 depth count at (ds ++ (58 ∷ (os ++ r))) ≡ onward (atom (octets os) none) (reading end 0 depth (count + 1) (at + length (ds ++ (58 ∷ os))) r)
reads_string end depth count at {ds} os r due room v l =
    step_string end depth count at (ds ++ (58 ∷ (os ++ r))) os (length ds + length os) (lex_atom end depth count at os r due room v l)
    ∙ ap₂ (λ x y. onward (atom (octets os) none) (reading end 0 depth (count + 1) (at + x) y)) extent
    (ap (drop (length ds + length os + 1)) (sym (append_assoc ds (58 ∷ os) r)) ∙ drop_at (ds ++ (58 ∷ os)) r (length ds + length os + 1) (sym extent))
  where
    extent : length ds + length os + 1 ≡ length (ds ++ (58 ∷ os))
    extent = omega (arith, length-append ds (58 ∷ os))

pub step_fault : (end depth count at : ℕ) (t : List ℕ) (r : Refusal) → 0 < length t → lexeme end depth count at t ≡ fault r → reading end 0 depth count at t ≡ refused r
step_fault end depth count at [] r h e = absurd (omega arith)
step_fault end depth count at (o ∷ rest) r h e = rw (e, reading)

-- at the end of the text: too early, or all read
pub step_early : (end depth count at : ℕ) → Due depth count → reading end 0 depth count at [] ≡ refused (Malformed end)
step_early end depth count at due = simp (over_not depth count due)

pub step_whole : (end depth count at : ℕ) → (Due depth count → ⊥) → reading end 0 depth count at [] ≡ read (none ∷ [])
step_whole end depth count at over = simp (over_is depth count over)

-- the verdict, by the text's length
pub cases_sized : (t : List ℕ) → Sized t ⊎ (Sized t → ⊥)
cases_sized t = grind (arith, nat_tests)

pub verdict_sized : (t : List ℕ) → Sized t → verdict t ≡ concluded (reading (length t) 0 0 0 0 t)
verdict_sized t s = let e : (eqb (length t) 0 || ltb 32768 (length t)) ≡ false = grind (arith, nat_tests) in rw (e, verdict)

pub verdict_unsized : (t : List ℕ) → (Sized t → ⊥) → verdict t ≡ rejected TextLength
verdict_unsized t n = let e : (eqb (length t) 0 || ltb 32768 (length t)) ≡ true = grind (arith, nat_tests) in rw (e, verdict)
