-- What the reader has passed: an element, the end of a list, a run, a whole list. Assumes nothing.
use Rattle.std.proofs.Common.{◌≡◌, ℕ, ◌+◌, ◌-◌, ◌<◌, ◌≤◌, max, List, length, drop, sym, refl, ap, ◌∙◌, ⊎_elim, arith, length-drop}
use Rattle.std.proofs.lemmas.List.{drop-drop}
use Rattle.std.proofs.lemmas.Bool.{cases_lt}
use Rattle.sexp.specs.declared.reader.Progress.{Progress}
use Rattle.sexp.specs.declared.refusals.Refusal.{Refusal}
use Rattle.sexp.specs.declared.refusals.Refusal.TheVariants.{Malformed}
use Rattle.sexp.specs.declared.tokens.Cursor.{Cursor}
use Rattle.sexp.specs.Elements.{octets, Elements, none, atom, list, ◌then◌, Record, count, depth}
use Rattle.sexp.specs.Reading.{Lexeme, opening, string, fault, onward, opened, closed, reading}
use Rattle.sexp.specs.Tokens.{lexeme_at}
use Rattle.sexp.specs.Checks.{reading_from, Spans, Closes}
use Rattle.sexp.proofs.Runs.{count-then, depth-then, onward-none, onward_then, opened_closed}
use Rattle.sexp.proofs.Steps.{step_opening, step_string, string_fits}
use Rattle.sexp.proofs.Branches.{past_end}

-- from `from` on the innermost list holds es, and closes
pub record Lists (from to : Progress) (es : Elements) : Type 0 where
  pub same : to.cursor.text ≡ from.cursor.text
  pub goes_on : reading_from from.cursor ≡ onward es (closed (reading_from to.cursor))
  pub level : to.cursor.depth ≡ from.cursor.depth - 1
  pub counted : to.cursor.count ≡ from.cursor.count + count es
  pub measured : to.deepest ≡ max from.deepest (from.cursor.depth + depth es)
  pub forward : from.cursor.at < to.cursor.at
  pub inside : to.cursor.at ≤ length from.cursor.text.now

-- a token that is no fault stands inside the text
module _ (from : Cursor) where
  inside : (l : Lexeme) → lexeme_at from ≡ l → ((k : Refusal) → l ≡ fault k → ⊥) → from.at < length from.text.now
  inside l e sound = ⊎_elim (λ h. h) (λ past. absurd (sound (Malformed (length from.text.now)) (sym e ∙ past_end from past))) (cases_lt from.at (length from.text.now))

  moved : (k : ℕ) → drop k (drop from.at from.text.now) ≡ drop (from.at + k) from.text.now
  moved k = drop-drop k from.at from.text.now

  pub opens : lexeme_at from ≡ opening → (reading_from from ≡ opened (reading_from (record { text = from.text; at = from.at + 1; depth = from.depth + 1; count = from.count + 1 }))) × (from.at < length from.text.now)
  opens e = (
    step_opening (length from.text.now) from.depth from.count from.at (drop from.at from.text.now) e ∙ ap (λ r. opened (reading (length from.text.now) 0 (from.depth + 1) (from.count + 1) (from.at + 1) r)) (moved 1),
    inside opening e (λ k p. let z : ◌≡◌ {A = ℕ} 0 1 = cc in omega arith),
  )

  pub passes : (os : List ℕ) (more : ℕ) → lexeme_at from ≡ string os more → (reading_from from ≡ onward (atom (octets os) none) (reading_from (record { text = from.text; at = from.at + (more + 1); depth = from.depth; count = from.count + 1 }))) × (from.at + (more + 1) ≤ length from.text.now)
  passes os more e = (
    step_string (length from.text.now) from.depth from.count from.at (drop from.at from.text.now) os more e ∙ ap (λ r. onward (atom (octets os) none) (reading (length from.text.now) 0 from.depth (from.count + 1) (from.at + (more + 1)) r)) (moved (more + 1)),
    omega (arith, (string_fits (length from.text.now) from.depth from.count from.at (drop from.at from.text.now) os more e).0, length-drop from.at from.text.now),
  )

-- a token, as the reader counts and measures it
module _ (from : Progress) where
  pub found_atom : (next : Cursor) (deepest : ℕ) (os : List ℕ) (more : ℕ) → lexeme_at from.cursor ≡ string os more → next ≡ record { text = from.cursor.text; at = from.cursor.at + (more + 1); depth = from.cursor.depth; count = from.cursor.count + 1 } → deepest ≡ max from.deepest (next.depth + 1) → ((e : Elements) × Record e × Spans from (record { cursor = next; deepest = deepest }) e) × (from.cursor.at < next.at) × (next.at ≤ length from.cursor.text.now)
  found_atom next deepest os more e n d =
      let on = passes from.cursor os more e in
      let l = on.1 in
      let at = ap (λ (c : Cursor). c.at) n in
      let level : next.depth ≡ from.cursor.depth = ap (λ (c : Cursor). c.depth) n in (
        (
          atom (octets os) none,
          refl,
          record {
            same = ap (λ (c : Cursor). c.text) n;
            goes_on = on.0 ∙ sym (ap (λ c. onward (atom (octets os) none) (reading_from c)) n);
            level = level;
            counted = ap (λ (c : Cursor). c.count) n;
            measured = d ∙ ap (λ k. max from.deepest (k + 1)) level;
            forward = omega arith;
          },
        ),
        omega arith,
        omega arith,
      )

  -- a list, whose elements were found behind its opening
  pub found_list : (next : Cursor) (deepest : ℕ) (to : Progress) (es : Elements) → lexeme_at from.cursor ≡ opening → next ≡ record { text = from.cursor.text; at = from.cursor.at + 1; depth = from.cursor.depth + 1; count = from.cursor.count + 1 } → deepest ≡ max from.deepest next.depth → Lists (record { cursor = next; deepest = deepest }) to es → ((e : Elements) × Record e × Spans from to e) × (from.cursor.at < to.cursor.at) × (to.cursor.at ≤ length from.cursor.text.now)
  found_list next deepest to es e n d h =
      let on = opens from.cursor e in
      let at : next.at ≡ from.cursor.at + 1 = ap (λ (c : Cursor). c.at) n in
      let level : next.depth ≡ from.cursor.depth + 1 = ap (λ (c : Cursor). c.depth) n in
      let counted : next.count ≡ from.cursor.count + 1 = ap (λ (c : Cursor). c.count) n in (
        (
          list es none,
          refl,
          record {
            same = h.same ∙ ap (λ (c : Cursor). c.text) n;
            goes_on = on.0 ∙ sym (ap (λ c. opened (reading_from c)) n) ∙ ap opened h.goes_on ∙ opened_closed es (reading_from to.cursor);
            level = omega (arith, h.level);
            counted = omega (arith, h.counted);
            measured = omega (arith, h.measured);
            forward = omega (arith, h.forward);
          },
        ),
        omega (arith, h.forward),
        omega (arith, h.inside, ap (λ (c : Cursor). length c.text.now) n),
      )

-- runs
pub spans_none : (p : Progress) → p.cursor.depth ≤ p.deepest → Spans p p none
spans_none p d = record { same = refl; goes_on = sym (onward-none (reading_from p.cursor)); level = refl; counted = omega arith; measured = omega arith; forward = omega arith }

pub spans_more : (a b c : Progress) (es e : Elements) → Spans a b es → Spans b c e → Spans a c (es then e)
spans_more a b c es e h k =
    record {
      same = k.same ∙ h.same;
      goes_on = h.goes_on ∙ ap (onward es) k.goes_on ∙ onward_then es e (reading_from c.cursor);
      level = k.level ∙ h.level;
      counted = omega (arith, h.counted, k.counted, count-then es e);
      measured = omega (arith, h.measured, k.measured, h.level, depth-then es e);
      forward = omega (arith, h.forward, k.forward);
    }

pub spans_deep : (a b : Progress) (es : Elements) → Spans a b es → b.cursor.depth ≤ b.deepest
spans_deep a b es h = omega (arith, h.measured, h.level)

pub spans_close : (a b c : Progress) (es : Elements) → Spans a b es → Closes b c → Lists a c es
spans_close a b c es h k =
    record {
      same = k.same ∙ h.same;
      goes_on = h.goes_on ∙ ap (onward es) k.goes_on;
      level = k.level ∙ ap (λ n. n - 1) h.level;
      counted = k.counted ∙ h.counted;
      measured = k.measured ∙ h.measured;
      forward = omega (arith, h.forward, k.forward);
      inside = omega (arith, k.inside, ap (λ x. length x.now) h.same);
    }
