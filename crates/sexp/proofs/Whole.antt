-- The check of a whole text: what its answer is, and what that says. Assumes nothing.
use Rattle.std.proofs.Common.{Bor, ◌≡◌, ℕ, ◌<◌, ◌≤◌, true, false, List, [], ◌∷◌, length, drop, Ok, Err, Result, sym, refl, ap, ◌∙◌, arith, length-drop}
use Rattle.std.proofs.lemmas.List.{drop_all}
use Rattle.std.proofs.lemmas.Bool.Decides.{nat_tests}
use Rattle.sexp.specs.declared.reader.Extent.{Extent}
use Rattle.sexp.specs.declared.reader.Progress.{Progress}
use Rattle.sexp.specs.declared.refusals.Refusal.{Refusal}
use Rattle.sexp.specs.declared.refusals.Refusal.TheVariants.{TextLength, Malformed}
use Rattle.sexp.specs.Elements.{Elements, none, atom, list, Record, count, depth, Within, Sized}
use Rattle.sexp.specs.Grammar.{CSexp}
use Rattle.sexp.specs.Faults.{Refused}
use Rattle.sexp.specs.Reading.{complete, missized, refused, read, onward, reading, Verdict, verdict, accepted, rejected, concluded}
use Rattle.sexp.specs.Checks.{reading_from, Spans}
use Rattle.sexp.specs.Laws.{extent, answer, AcceptedExactlyCanonical, RefusedAsListed, DerivesItsText, OneRecord, SameIsEqual}
use Rattle.sexp.proofs.Runs.{then-none}
use Rattle.sexp.proofs.Steps.{step_fault, step_whole}
use Rattle.sexp.proofs.Lexing.{over_true}
use Rattle.sexp.proofs.Branches.{at_complete}
use Rattle.sexp.proofs.Theory.{accepted_canonical, refused_listed_both, derives_its_text, one_record, same_is_equal}

-- where the check of a text begins
abbrev pub start : Bor (List ℕ) → Progress
start text = record { cursor = record { text = text; at = 0; depth = 0; count = 0 }; deepest = 0 }

pub some_elements : (e : Elements) → Record e → 0 < count e
some_elements none r = absurd r
some_elements (atom a es) r = omega arith
some_elements (list inner es) r = omega arith

module _ (text : Bor (List ℕ)) where
  pub unsized : missized text.now ≡ true → Err TextLength ≡ answer (verdict text.now)
  unsized e = rw (e, verdict) refl

  module _ (sized : missized text.now ≡ false) where
    is_read : verdict text.now ≡ concluded (reading_from (start text).cursor)
    is_read = rw (sized, verdict) refl

    pub faulty : (k : Refusal) → reading_from (start text).cursor ≡ refused k → Err k ≡ answer (verdict text.now)
    faulty k e = sym (ap answer (is_read ∙ ap concluded e))

    module _ (to : Progress) (e : Elements) (root : Record e) (passed : Spans (start text) to e) where
      over : complete to.cursor.depth to.cursor.count ≡ true
      over = let some = some_elements e root in let l = passed.level in let c = passed.counted in grind (arith, nat_tests)

      pub whole : length text.now ≤ to.cursor.at → Ok (record { elements = to.cursor.count; depth = to.deepest }) ≡ answer (verdict text.now)
      whole past =
          let end : length to.cursor.text.now ≤ to.cursor.at = omega (arith, past, ap (λ x. length x.now) passed.same) in
          let ends : reading_from to.cursor ≡ read (none ∷ []) = ap (reading (length to.cursor.text.now) 0 to.cursor.depth to.cursor.count to.cursor.at) (drop_all to.cursor.at to.cursor.text.now end) ∙ step_whole (length to.cursor.text.now) to.cursor.depth to.cursor.count to.cursor.at (over_true to.cursor.depth to.cursor.count over) in
          let told : verdict text.now ≡ accepted e = is_read ∙ ap concluded (passed.goes_on ∙ ap (onward e) ends) ∙ ap accepted (then-none e) in
          let n : to.cursor.count ≡ count e = omega (arith, passed.counted) in
          let d : to.deepest ≡ depth e = omega (arith, passed.measured) in
          (λ i. Ok (record { elements = n i; depth = d i })) ∙ sym (ap answer told)

      pub trailing : to.cursor.at < length text.now → Err (Malformed to.cursor.at) ≡ answer (verdict text.now)
      trailing more =
          let within : to.cursor.at < length to.cursor.text.now = omega (arith, more, ap (λ x. length x.now) passed.same) in
          let stops = step_fault (length to.cursor.text.now) to.cursor.depth to.cursor.count to.cursor.at (drop to.cursor.at to.cursor.text.now) (Malformed to.cursor.at) (simp length-drop (omega arith)) (at_complete to.cursor _ within refl over) in
          faulty (Malformed to.cursor.at) (passed.goes_on ∙ ap (onward e) stops)

-- what the answer says of the text
module _ (t : List ℕ) (r : Result Extent Refusal) (v : r ≡ answer (verdict t)) where
  accepts : AcceptedExactlyCanonical t r
  accepts = ((λ x e. go x (verdict t) refl (sym v ∙ e)), (λ e derived within sized. v ∙ ap answer ((accepted_canonical t e).1 derived within sized)))
    where
      go : (x : Extent) (w : Verdict) → verdict t ≡ w → answer w ≡ Ok x → (e : Elements) × CSexp t e × Within e × Sized t × (x ≡ extent e)
      go x (accepted e) is a = let told = (accepted_canonical t e).0 is in let same : x ≡ extent e = cc in (e, told.0, told.1, told.2, same)
      go x (rejected k) is a = let z : ◌≡◌ {A = ℕ} 0 1 = cc in absurd (omega arith)

  refuses : RefusedAsListed t r
  refuses k = ((λ e. go (verdict t) refl (sym v ∙ e)), (λ listed. v ∙ ap answer ((refused_listed_both t k).1 listed)))
    where
      go : (w : Verdict) → verdict t ≡ w → answer w ≡ Err k → Refused t k
      go (accepted e) is a = let z : ◌≡◌ {A = ℕ} 0 1 = cc in absurd (omega arith)
      go (rejected j) is a = let same : j ≡ k = cc in (refused_listed_both t k).0 (is ∙ ap rejected same)

  pub promised : record { verdict : r ≡ answer (verdict t); accepted : AcceptedExactlyCanonical t r; refused : RefusedAsListed t r; derives : DerivesItsText; unique : OneRecord; same : SameIsEqual }
  promised = record { verdict = v; accepted = accepts; refused = refuses; derives = derives_its_text; unique = one_record; same = same_is_equal }
