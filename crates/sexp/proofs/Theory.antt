-- The laws of texts and records, proved. Assumes nothing.
use Rattle.std.proofs.Common.{◌≡◌, ℕ, List, [], sym, ◌∙◌, subst}
use Rattle.sexp.specs.declared.refusals.Refusal.{Refusal}
use Rattle.sexp.specs.Elements.{Elements, Same, Within, Sized}
use Rattle.sexp.specs.Grammar.{CSexp}
use Rattle.sexp.specs.Faults.{Refused}
use Rattle.sexp.specs.Reading.{verdict, accepted, rejected}
use Rattle.sexp.specs.Laws.{DerivesItsText, OneRecord, SameIsEqual}
use Rattle.sexp.proofs.Canonical.{short_held, sexp_text, sexp_held, sexp_record, sexp_derived, runs_same, same_refl, same_equal}
use Rattle.sexp.proofs.Complete.{text_accepted}
use Rattle.sexp.proofs.Sound.{accepted_text}
use Rattle.sexp.proofs.Listed.{refused_listed, listed_refused}

pub accepted_canonical : (t : List ℕ) (e : Elements) → (verdict t ≡ accepted e → CSexp t e × Within e × Sized t) × (CSexp t e → Within e → Sized t → verdict t ≡ accepted e)
accepted_canonical t e = (
  (λ p. let k = accepted_text t e p in (rw k.3 (sexp_derived e k.0 (short_held e k.1.short)), k.1, k.2)),
  (λ d w s. let q = sexp_text d (short_held e w.short) in rw q (text_accepted e (sexp_record d) w (rw q at s))),
)

pub refused_listed_both : (t : List ℕ) (r : Refusal) → (verdict t ≡ rejected r → Refused t r) × (Refused t r → verdict t ≡ rejected r)
refused_listed_both t r = (refused_listed t r, listed_refused t r)

pub derives_its_text : DerivesItsText
derives_its_text t e short = (
  (λ d. (sexp_record d, sexp_text d (short_held e short))),
  (λ r p. rw p (sexp_derived e r (short_held e short))),
)

pub same_is_equal : SameIsEqual
same_is_equal e f = (same_equal e f, (λ p. subst (Same e) p (same_refl e)))

pub one_record : OneRecord
one_record t e f small d k =
    let h = sexp_held d small in
    let j = sexp_held k small in
    (same_is_equal e f).1 (runs_same e f [] [] h j tt tt (sym (sexp_text d h) ∙ sexp_text k j)).0
