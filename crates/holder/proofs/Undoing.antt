-- Reading and copying out undo each other.
use Rattle.std.proofs.Common.{◌≡◌, ℕ, ◌<◌, ◌≤◌, List, [], ◌∷◌, ◌++◌, length, take, drop, Ok, Err, decimal, Result, sym, refl, ◌∙◌, subst, inl, inr, arith, length-append}
use Rattle.std.proofs.lemmas.List.{take_at}
use Rattle.std.proofs.lemmas.Bool.{cases_lt, lt-ltb, le-ltb}
use Rattle.sexp.specs.declared.refusals.Refusal.{Refusal}
use Rattle.sexp.specs.declared.refusals.Refusal.TheVariants.{ResultTooLarge, ShortOutput}
use Rattle.sexp.specs.Elements.{octets, Elements, none, atom, list, Record, Sized}
use Rattle.sexp.specs.Reading.{verdict, accepted}
use Rattle.sexp.specs.Text.{text, text_then}
use Rattle.sexp.proofs.Complete.{text_accepted}
use Rattle.sexp.proofs.Sound.{accepted_text}
use Rattle.holder.specs.Placed.{Meaning}
use Rattle.holder.specs.Copies.{record_of, laying, laid, ReadingAndCopyingUndo}

pub laying_long : (t out : List ℕ) → 32768 < length t → (laying t out ≡ Err ResultTooLarge) × (laid t out ≡ out)
laying_long t out h = (rw (lt-ltb 32768 (length t) h) refl, rw (lt-ltb 32768 (length t) h) refl)

pub laying_short : (t out : List ℕ) → length t ≤ 32768 → length out < length t → (laying t out ≡ Err ShortOutput) × (laid t out ≡ out)
laying_short t out h k = (rw (le-ltb 32768 (length t) h, lt-ltb (length out) (length t) k) refl, rw (le-ltb 32768 (length t) h, lt-ltb (length out) (length t) k) refl)

pub laying_whole : (t out : List ℕ) → length t ≤ 32768 → length t ≤ length out → (laying t out ≡ Ok (length t)) × (laid t out ≡ t ++ drop (length t) out)
laying_whole t out h k = (rw (le-ltb 32768 (length t) h, le-ltb (length out) (length t) k) refl, rw (le-ltb 32768 (length t) h, le-ltb (length out) (length t) k) refl)

pub text_some : (e : Elements) → Record e → 1 ≤ length (text e)
text_some none h = absurd h
text_some (atom (octets os) es) h = rw (length-append (decimal (length os)) (58 ∷ (os ++ text_then es []))) (omega arith)
text_some (list inner es) h = omega arith

clash : (k : Refusal) (n : ℕ) → ◌≡◌ {A = Result ℕ Refusal} (Err k) (Ok n) → ⊥
clash k n e = cc

-- what the law says of a call that answered and left as defined
pub undone : (m : Meaning) (out new : List ℕ) (r : Result ℕ Refusal) → r ≡ laying (text (record_of m)) out → new ≡ laid (text (record_of m)) out → ReadingAndCopyingUndo (record_of m) out new r
undone m out new r is left = (back, forth)
  where
    whole : length (text (record_of m)) ≤ 32768 → length (text (record_of m)) ≤ length out → (n : ℕ) → r ≡ Ok n → verdict (take n new) ≡ accepted (record_of m)
    whole h k n ok =
        let w = laying_whole (text (record_of m)) out h k in
        let same : length (text (record_of m)) ≡ n = (let q : ◌≡◌ {A = Result ℕ Refusal} (Ok (length (text (record_of m)))) (Ok n) = sym w.0 ∙ (sym is ∙ ok) in cc) in
        let front : take n new ≡ text (record_of m) = rw (left ∙ w.1) (take_at (text (record_of m)) (drop (length (text (record_of m))) out) n same) in
        let sized : Sized (text (record_of m)) = record { some = text_some (record_of m) m.lawful.root; most = h } in
        subst (λ (t : List ℕ). verdict t ≡ accepted (record_of m)) (sym front) (text_accepted (record_of m) m.lawful.root m.lawful.within sized)

    back : (n : ℕ) → r ≡ Ok n → verdict (take n new) ≡ accepted (record_of m)
    back n ok =
        elim (cases_lt 32768 (length (text (record_of m)))) as (λ _. verdict (take n new) ≡ accepted (record_of m)) [
          | inl long ↦ absurd (clash ResultTooLarge n (sym (laying_long (text (record_of m)) out long).0 ∙ (sym is ∙ ok)))
          | inr h ↦ elim (cases_lt (length out) (length (text (record_of m)))) as (λ _. verdict (take n new) ≡ accepted (record_of m)) [
            | inl short ↦ absurd (clash ShortOutput n (sym (laying_short (text (record_of m)) out h short).0 ∙ (sym is ∙ ok)))
            | inr k ↦ whole h k n ok
          ]
        ]

    forth : (t : List ℕ) → verdict t ≡ accepted (record_of m) → length t ≤ length out → (r ≡ Ok (length t)) × (take (length t) new ≡ t)
    forth t read room =
        let a = accepted_text t (record_of m) read in
        let w = laying_whole t out a.2.most room in
        let new_is : new ≡ t ++ drop (length t) out = left ∙ rw (← a.3) w.1 in
        (is ∙ rw (← a.3) w.0, rw new_is (take_at t (drop (length t) out) (length t) refl))
