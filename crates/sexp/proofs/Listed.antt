-- A text is refused exactly as the list of faults says. Assumes nothing.
use Rattle.std.proofs.Common.{◌≡◌, ℕ, zero, suc, ◌+◌, ◌-◌, ◌<◌, ◌≤◌, Bool, true, false, ◌⊎◌, List, [], ◌∷◌, ◌++◌, length, drop, sym, refl, ap, ◌∙◌, subst, inl, inr, append_assoc, arith}
use Rattle.std.proofs.lemmas.List.{length-append}
use Rattle.sexp.specs.declared.refusals.Refusal.{Refusal}
use Rattle.sexp.specs.declared.refusals.Refusal.TheVariants.{TextLength, Malformed}
use Rattle.sexp.specs.Elements.{octets, Elements, none, atom, Sized}
use Rattle.sexp.specs.Grammar.{Verbatim, verbatim}
use Rattle.sexp.specs.Faults.{Due, Room, Passed, Fault, Refused}
use Rattle.sexp.specs.Reading.{Lexeme, lexeme, Reading, refused, read, onward, opened, closed, complete, reading, concluded, verdict, rejected}
use Rattle.sexp.proofs.Lexing.{first_same, Told, told, over_true, over_false, lex_opening, lex_closing, lex_fault}
use Rattle.sexp.proofs.Steps.{behind_string, string_fits, reads_string, step_opening, step_closing, token_string, step_fault, step_early, step_whole, cases_sized, verdict_sized, verdict_unsized}

-- a fault after tokens without one
record Found (text : List ℕ) (end : ℕ) (r : Refusal) : Type 0 where
  at : ℕ
  d : ℕ
  c : ℕ
  rest : List ℕ
  passed : Passed text at d c rest
  fault : Fault end at d c rest r

-- the results of the steps, taken apart
refused_same : {r s : Refusal} → refused r ≡ refused s → r ≡ s
refused_same p = cc

not_refused : {r : Refusal} {s : List Elements} → read s ≡ refused r → ⊥
not_refused p = let z : ◌≡◌ {A = ℕ} 0 1 = cc in omega arith

opened_refused : (R : Reading) {r : Refusal} → opened R ≡ refused r → R ≡ refused r
opened_refused (refused x) p = p
opened_refused (read x) p = absurd (not_refused p)

closed_refused : (R : Reading) {r : Refusal} → closed R ≡ refused r → R ≡ refused r
closed_refused (refused x) p = p
closed_refused (read x) p = absurd (not_refused p)

onward_refused : (e : Elements) (R : Reading) {r : Refusal} → onward e R ≡ refused r → R ≡ refused r
onward_refused e (refused x) p = p
onward_refused e (read x) p = absurd (not_refused p)

rejected_same : {r s : Refusal} → rejected r ≡ rejected s → r ≡ s
rejected_same p = cc

moved : {text rest : List ℕ} {at at' d c : ℕ} → at ≡ at' → Passed text at d c rest → Passed text at' d c rest
moved {text} {rest} {d} {c} e p = subst (λ x. Passed text x d c rest) e p

-- from the verdict to the list
module _ (text : List ℕ) (end : ℕ) (r : Refusal) where
  abbrev Finds : List ℕ → Type 0
  Finds t = (skip d c at : ℕ) → skip ≤ length t → Passed text (at + skip) d c (drop skip t) → reading end skip d c at t ≡ refused r → Found text end r

  found_end : (d c at : ℕ) → Passed text at d c [] → reading end 0 d c at [] ≡ refused r → Found text end r
  found_end d c at passed p = go (complete d c) refl
    where
      go : (b : Bool) → complete d c ≡ b → Found text end r
      go true e = absurd (not_refused (sym (step_whole end d c at (over_true d c e)) ∙ p))
      go false e =
          let due = over_false d c e in
          record { at = at; d = d; c = c; rest = []; passed = passed; fault = rw (sym (refused_same (sym (step_early end d c at due) ∙ p))) (Fault.ends due) }

  found_token : (o : ℕ) (rest : List ℕ) → Finds rest → (d c at : ℕ) → Passed text at d c (o ∷ rest) → reading end 0 d c at (o ∷ rest) ≡ refused r → Found text end r
  found_token o rest ih d c at passed p = go (told end at d c o rest) refl
    where
      go : {x : Lexeme} → Told end at d c (o ∷ rest) x → lexeme end d c at (o ∷ rest) ≡ x → Found text end r
      go (Told.opening tail f due room) e =
          ih 0 (d + 1) (c + 1) (at + 1) (omega arith) (moved (omega arith) (Passed.opening (rw (first_same f) at passed) due room))
          (opened_refused _ (sym (step_opening end d c at (o ∷ rest) e) ∙ p))
      go (Told.closing tail f h) e =
          ih 0 (d - 1) c (at + 1) (omega arith) (moved (omega arith) (Passed.closing (rw (first_same f) at passed) h))
          (closed_refused _ (sym (step_closing end d c at (o ∷ rest) e) ∙ p))
      go (Told.string ds os tail f v l due room) e =
          let more : ℕ = length ds + length os in
          let fits : more < length (o ∷ rest) = (string_fits end d c at (o ∷ rest) os more e).0 in
          let next : Passed text (at + length (ds ++ (58 ∷ os))) d (c + 1) tail = Passed.string (subst (Passed text at d c) (f ∙ sym (append_assoc ds (58 ∷ os) tail)) passed) due room (verbatim v) l in
          ih more d (c + 1) (at + 1) (omega arith) (rw (behind_string o rest ds os tail f) (moved (omega (arith, length-append ds (58 ∷ os))) next))
          (onward_refused (atom (octets os) none) _ (sym (token_string end d c at o rest os more e) ∙ p))
      go (Told.fault {r = s} f) e =
          record { at = at; d = d; c = c; rest = o ∷ rest; passed = passed; fault = rw (sym (refused_same (sym (step_fault end d c at (o ∷ rest) s (omega arith) e) ∙ p))) f }

  found : (t : List ℕ) → Finds t
  found [] zero d c at h passed p = found_end d c at (moved (omega arith) passed) p
  found [] (suc skip) d c at h passed p = absurd (omega arith)
  found (o ∷ rest) zero d c at h passed p = found_token o rest (found rest) d c at (moved (omega arith) passed) p
  found (o ∷ rest) (suc skip) d c at h passed p = found rest skip d c (at + 1) (omega arith) (moved (omega arith) passed) p

-- from the list to the verdict: a fault is refused where it stands, and from the front of the text too
fault_due : {end at d c : ℕ} {t : List ℕ} {r : Refusal} → Fault end at d c t r → Due d c ⊎ (0 < length t)
fault_due (Fault.stray due nb h) = inl due
fault_due (Fault.beyond due b full) = inl due
fault_due (Fault.padded due room h) = inl due
fault_due (Fault.long rest due room v s l) = inl due
fault_due (Fault.colon o rest due room v l n k) = inl due
fault_due (Fault.ends due) = inl due
fault_due (Fault.ends_length due room v l) = inl due
fault_due (Fault.ends_octets os due room v l m) = inl due
fault_due (Fault.after n) = inr (omega arith)

fault_read : (end at d c : ℕ) (t : List ℕ) {r : Refusal} → Fault end at d c t r → reading end 0 d c at t ≡ refused r
fault_read end at d c [] {r} f = go (fault_due f)
  where
    go : Due d c ⊎ (0 < 0) → reading end 0 d c at [] ≡ refused r
    go (inl due) = let e : Lexeme.fault (Malformed end) ≡ Lexeme.fault r = lex_fault end d c at f in let q : Malformed end ≡ r = cc in step_early end d c at due ∙ ap refused q
    go (inr h) = absurd (omega arith)
fault_read end at d c (o ∷ rest) {r} f = step_fault end d c at (o ∷ rest) r (omega arith) (lex_fault end d c at f)

string_read : (end at d c : ℕ) {t os : List ℕ} (rest : List ℕ) {r : Refusal} → Verbatim t os → Due d c → Room d c → length os ≤ 1024 → reading end 0 d (c + 1) (at + length t) rest ≡ refused r → reading end 0 d c at (t ++ rest) ≡ refused r
string_read end at d c rest (verbatim {ds} {os} v) due room l p =
    ap (reading end 0 d c at) (append_assoc ds (58 ∷ os) rest) ∙ reads_string end d c at os rest due room v l ∙ ap (onward (atom (octets os) none)) p

passed_read : {text : List ℕ} {at d c : ℕ} {rest : List ℕ} (end : ℕ) {r : Refusal} → Passed text at d c rest → reading end 0 d c at rest ≡ refused r → reading end 0 0 0 0 text ≡ refused r
passed_read end Passed.start p = p
passed_read end (Passed.opening {at} {depth} {count} {rest} h due room) p =
    passed_read end h (step_opening end depth count at (40 ∷ rest) (lex_opening end depth count at rest due room) ∙ ap opened p)
passed_read end (Passed.closing {at} {depth} {count} {rest} h k) p =
    passed_read end h (step_closing end depth count at (41 ∷ rest) (lex_closing end depth count at rest k) ∙ ap closed p)
passed_read end (Passed.string {at} {depth} {count} {rest} h due room v l) p =
    passed_read end h (string_read end at depth count rest v due room l p)

-- a text that is refused has a fault, or the wrong length
pub refused_listed : (t : List ℕ) (r : Refusal) → verdict t ≡ rejected r → Refused t r
refused_listed t r p = go (cases_sized t)
  where
    concluded_refused : (R : Reading) → concluded R ≡ rejected r → R ≡ refused r
    concluded_refused (refused x) q = cc
    concluded_refused (read []) q = cc
    concluded_refused (read (e ∷ es)) q = cc

    go : Sized t ⊎ (Sized t → ⊥) → Refused t r
    go (inl s) =
        let f = found t (length t) r t 0 0 0 0 (omega arith) Passed.start (concluded_refused _ (sym (verdict_sized t s) ∙ p)) in
        Refused.faulty s f.passed f.fault
    go (inr n) =
        let e : TextLength ≡ r = rejected_same (sym (verdict_unsized t n) ∙ p) in
        subst (Refused t) e (Refused.unsized n)

pub listed_refused : (t : List ℕ) (r : Refusal) → Refused t r → verdict t ≡ rejected r
listed_refused t r (Refused.unsized n) = verdict_unsized t n
listed_refused t r (Refused.faulty {at} {depth} {count} {rest} s h f) =
    verdict_sized t s ∙ ap concluded (passed_read (length t) h (fault_read (length t) at depth count rest f))
