-- The states of the loops over a record's elements. Assumes nothing.
use Rattle.std.proofs.Common.{◌≡◌, ℕ, ◌+◌, ◌<◌, ◌≤◌, Option, Some, None, refl, sym, ap, ◌∙◌, arith}
use Rattle.sexp.specs.Elements.{Elements, none, list, ◌then◌, count}
use Rattle.sexp.proofs.Runs.{then-none, then_assoc, count-then}
use Rattle.holder.specs.Placed.{Placed, Meaning, run_at, front as place_of, inside, behind, Stands, IsList}
use Rattle.holder.specs.Walks.{first_of}
use Rattle.rules.specs.Bindings.{width}
use Rattle.rules.proofs.Runs.{width-then}
use Rattle.books.proofs.LawfulRuns.{first_record, stands_width}
use Rattle.fitting.specs.Cursors.{elements_from, Lies, front}
use Rattle.fitting.proofs.Cursors.{width_record, first_lies, first_elements, next_lies, next_elements, count_next, front-then}

-- between two elements of the list r: some are passed, and the others are those at a cursor
pub record InList (t r : Placed) (done : Elements) (at : Option ℕ) : Type 0 where
  pub lies : Lies t at
  pub whole : first_of r ≡ list (done then elements_from t at) none

-- between two elements of a run: n are passed, and the others are those at a cursor
pub record InRun (t : Placed) (es done : Elements) (n : ℕ) (at : Option ℕ) : Type 0 where
  pub passed : width done ≡ n
  pub whole : es ≡ done then elements_from t at

-- a run goes on behind its next element
next_whole : (m : Meaning) (done : Elements) (at next : Option ℕ) (p : ℕ) → Stands (run_at p m.tree) → at ≡ Some p → next ≡ place_of (behind (run_at p m.tree))
    → done then elements_from m.tree at ≡ (done then first_of (run_at p m.tree)) then elements_from m.tree next
next_whole m done at next p stands e is =
    rw e (ap (done then◌) (next_elements m p next stands is) ∙ sym (then_assoc done (first_of (run_at p m.tree)) (elements_from m.tree next)))

pub list_begins : (m : Meaning) (p : ℕ) (at : Option ℕ) → IsList (run_at p m.tree) → at ≡ place_of (inside (run_at p m.tree)) → InList m.tree (run_at p m.tree) none at
list_begins m p at is e = record { lies = first_lies m p at is e; whole = first_elements m p at is e }

pub list_stands : {t r : Placed} {done : Elements} {at : Option ℕ} {p : ℕ} → InList t r done at → at ≡ Some p → Stands (run_at p t)
list_stands so_far e = rw e at so_far.lies

-- an element of a list has fewer elements than the list
pub list_less : (m : Meaning) {r : Placed} {done : Elements} {at : Option ℕ} {p : ℕ} → InList m.tree r done at → at ≡ Some p → count (first_of (run_at p m.tree)) < count (first_of r)
list_less m {r = r} {done = done} {p = p} so_far e =
    let whole : first_of r ≡ list (done then elements_from m.tree (Some p)) none = rw e at so_far.whole in
    omega (arith, ap count whole, count-then done (elements_from m.tree (Some p)), count_next m p _ (list_stands so_far e) refl)

pub list_more : (m : Meaning) {r : Placed} {done : Elements} {at next : Option ℕ} {p : ℕ} → InList m.tree r done at → at ≡ Some p → next ≡ place_of (behind (run_at p m.tree)) → InList m.tree r (done then first_of (run_at p m.tree)) next
list_more m {done = done} {at = at} {next = next} {p = p} so_far e is =
    let stands = list_stands so_far e in
    record { lies = next_lies m p next stands is; whole = so_far.whole ∙ ap (λ es. list es none) (next_whole m done at next p stands e is) }

pub list_ends : {t r : Placed} {done : Elements} {at : Option ℕ} → InList t r done at → at ≡ None → first_of r ≡ list done none
list_ends {done = done} so_far e = so_far.whole ∙ rw e (ap (λ es. list es none) (then-none done))

run_left : {t : Placed} {es done : Elements} {n : ℕ} {at : Option ℕ} (many : ℕ) → InRun t es done n at → n < many → many ≤ width es → 1 ≤ width (elements_from t at)
run_left {t = t} {done = done} {at = at} many so_far less wide =
    omega (arith, less, wide, ap width so_far.whole, width-then done (elements_from t at), so_far.passed)

pub run_stands : {t : Placed} {es done : Elements} {n : ℕ} {at : Option ℕ} {p : ℕ} (many : ℕ) → InRun t es done n at → n < many → many ≤ width es → at ≡ Some p → Stands (run_at p t)
run_stands {t = t} {at = at} {p = p} many so_far less wide e =
    let left : 1 ≤ width (elements_from t at) = run_left many so_far less wide in
    stands_width (run_at p t) (rw e at left)

pub run_goes_on : {t : Placed} {es done : Elements} {n : ℕ} {at : Option ℕ} (many : ℕ) → InRun t es done n at → n < many → many ≤ width es → at ≡ None → ⊥
run_goes_on {t = t} {at = at} many so_far less wide e =
    let no : width (elements_from t at) ≡ 0 = rw e refl in
    absurd (omega (arith, no, run_left many so_far less wide))

pub run_more : (m : Meaning) {es done : Elements} {n : ℕ} {at next : Option ℕ} {p : ℕ} → InRun m.tree es done n at → Stands (run_at p m.tree) → at ≡ Some p → next ≡ place_of (behind (run_at p m.tree)) → InRun m.tree es (done then first_of (run_at p m.tree)) (n + 1) next
run_more m {done = done} {at = at} {next = next} {p = p} so_far stands e is =
    let x = first_of (run_at p m.tree) in
    record {
      passed = omega (arith, width-then done x, so_far.passed, width_record x (first_record (run_at p m.tree) stands));
      whole = so_far.whole ∙ next_whole m done at next p stands e is;
    }

-- those passed are the front
pub run_front : {t : Placed} {es done : Elements} {n : ℕ} {at : Option ℕ} (many : ℕ) → InRun t es done n at → n ≡ many → front many es ≡ done
run_front {t = t} {done = done} {at = at} many so_far e = rw (so_far.whole, ← e, ← so_far.passed) (front-then done (elements_from t at))
