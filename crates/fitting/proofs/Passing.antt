-- The states of the loops that pass elements. Assumes nothing.
use Rattle.std.proofs.Common.{◌≡◌, ℕ, suc, ◌+◌, ◌<◌, ◌≤◌, ◌≢◌, Option, Some, None, refl, sym, ap, ◌∙◌, arith}
use Rattle.sexp.specs.Elements.{◌then◌}
use Rattle.sexp.proofs.Runs.{then_assoc}
use Rattle.holder.specs.Placed.{Placed, Meaning, run_at, front as place_of, behind, Stands}
use Rattle.holder.specs.Walks.{first_of}
use Rattle.rules.specs.Bindings.{width}
use Rattle.rules.proofs.Runs.{width-then, then_same, then_cancel}
use Rattle.books.proofs.LawfulRuns.{first_record, stands_width}
use Rattle.fitting.specs.Occurs.{behind_all}
use Rattle.fitting.specs.Cursors.{run_from, elements_from, Lies, front, back, Passes, PassesRun}
use Rattle.fitting.proofs.Cursors.{passed_back, behind_all_more, next_run, next_lies, next_elements, width_record, width_next, width-front, width-back, back_more, front_more, front_less}

-- so many elements are passed, and behind them is nothing
pub passes_end : (t : Placed) (from at : Option ℕ) (n count : ℕ) → n < count → Passes t from n (Some at) → at ≡ None → Passes t from count None
passes_end t from at n count less passed e =
    let es = elements_from t from in
    let no : width (elements_from t at) ≡ 0 = rw e refl in
    omega (arith, less, no, ap width (passed_back t from at n passed), width-back n es passed.1)

-- one more element is passed
pub passes_more : (m : Meaning) (from at next : Option ℕ) (p n : ℕ) → Passes m.tree from n (Some at) → at ≡ Some p → next ≡ place_of (behind (run_at p m.tree)) → Passes m.tree from (n + 1) (Some next)
passes_more m from at next p n passed e is =
    let es = elements_from m.tree from in
    let stands : Stands (run_at p m.tree) = rw e at passed.0 in
    let left : elements_from m.tree (Some p) ≡ back n es = rw e at (passed_back m.tree from at n passed) in
    let run : run_at p m.tree ≡ behind_all n (run_from m.tree from) = rw e at passed.2 in
    let more : n + 1 ≡ suc n = omega arith in
    let long : n + 1 ≤ width es = omega (arith, ap width left, width_next m p next stands is, width-back n es passed.1) in
    (next_lies m p next stands is, long, rw more (next_run m p next stands is ∙ (ap behind run ∙ behind_all_more n (run_from m.tree from))))

-- so many elements of a run are passed, and as many from a place on that are the same
pub record PassesSame (t : Placed) (run : ℕ) (from : Option ℕ) (n : ℕ) (one at : Option ℕ) : Type 0 where
  pub lies : Lies t at
  pub left : elements_from t one ≡ back n (elements_from t (Some run))
  pub passed : elements_from t from ≡ front n (elements_from t (Some run)) then elements_from t at
  pub behind : run_from t at ≡ behind_all n (run_from t from)

same_widths : (t : Placed) (run : ℕ) (from one at : Option ℕ) (n count : ℕ) → PassesSame t run from n one at → n < count → count ≤ width (elements_from t (Some run)) → (1 ≤ width (elements_from t one)) × (width (elements_from t from) ≡ n + width (elements_from t at))
same_widths t run from one at n count so_far less many =
    let es = elements_from t (Some run) in
    let long : n ≤ width es = omega (arith, less, many) in
    (omega (arith, less, many, ap width so_far.left, width-back n es long), omega (arith, ap width so_far.passed, width-then (front n es) (elements_from t at), width-front n es long))

-- the run goes on
pub same_goes_on : (t : Placed) (run : ℕ) (from one at : Option ℕ) (n count : ℕ) → PassesSame t run from n one at → n < count → count ≤ width (elements_from t (Some run)) → one ≡ None → ⊥
same_goes_on t run from one at n count so_far less many e =
    let no : width (elements_from t one) ≡ 0 = rw e refl in
    absurd (omega (arith, no, (same_widths t run from one at n count so_far less many).0))

pub same_stands : (t : Placed) (run : ℕ) (from one at : Option ℕ) (p n count : ℕ) → PassesSame t run from n one at → n < count → count ≤ width (elements_from t (Some run)) → one ≡ Some p → Stands (run_at p t)
same_stands t run from one at p n count so_far less many e =
    stands_width (run_at p t) (rw e at (same_widths t run from one at n count so_far less many).0)

-- behind those passed is nothing
pub same_end : (t : Placed) (run : ℕ) (from one at : Option ℕ) (n count : ℕ) → PassesSame t run from n one at → n < count → count ≤ width (elements_from t (Some run)) → at ≡ None → PassesRun t from (front count (elements_from t (Some run))) None
same_end t run from one at n count so_far less many e rest is =
    let es = elements_from t (Some run) in
    let no : width (elements_from t at) ≡ 0 = rw e refl in
    absurd (omega (arith, less, no, (same_widths t run from one at n count so_far less many).1, ap width is, width-then (front count es) rest, width-front count es many))

-- the next two elements differ
pub same_differ : (m : Meaning) (run : ℕ) (from one at : Option ℕ) (p q n count : ℕ) → PassesSame m.tree run from n one at → n < count → count ≤ width (elements_from m.tree (Some run)) → one ≡ Some p → at ≡ Some q
    → first_of (run_at p m.tree) ≢ first_of (run_at q m.tree) → PassesRun m.tree from (front count (elements_from m.tree (Some run))) None
same_differ m run from one at p q n count so_far less many e f differ rest is =
    let es = elements_from m.tree (Some run) in
    let x = first_of (run_at p m.tree) in
    let y = first_of (run_at q m.tree) in
    let after = place_of (behind (run_at q m.tree)) in
    let l : Stands (run_at p m.tree) = same_stands m.tree run from one at p n count so_far less many e in
    let k : Stands (run_at q m.tree) = rw f at so_far.lies in
    let left : elements_from m.tree (Some p) ≡ back n es = rw e at so_far.left in
    let passed : elements_from m.tree from ≡ front n es then elements_from m.tree (Some q) = rw f at so_far.passed in
    let begins = front_less (suc n) count es (omega (arith, less)) in
    let more : front (suc n) es ≡ front n es then x = front_more n es x _ (first_record (run_at p m.tree) l) (sym left ∙ next_elements m p _ l refl) in
    let all : elements_from m.tree from ≡ front n es then (x then (begins.0 then rest)) =
    is ∙ ap (λ z. z then rest) (begins.1 ∙ ap (λ z. z then begins.0) more) ∙ then_assoc (front n es then x) begins.0 rest ∙ then_assoc (front n es) x (begins.0 then rest) in
    let both : y then elements_from m.tree after ≡ x then (begins.0 then rest) = sym (next_elements m q after k refl) ∙ then_cancel (front n es) _ _ (sym passed ∙ all) in
    let same_width : width y ≡ width x = width_record y (first_record (run_at q m.tree) k) ∙ sym (width_record x (first_record (run_at p m.tree) l)) in
    differ (sym (then_same y x _ _ same_width both).0)

-- one more element of each is passed
pub same_more : (m : Meaning) (run : ℕ) (from one at next after : Option ℕ) (p q n : ℕ) → PassesSame m.tree run from n one at → Stands (run_at p m.tree) → one ≡ Some p → at ≡ Some q → first_of (run_at p m.tree) ≡ first_of (run_at q m.tree)
    → next ≡ place_of (behind (run_at p m.tree)) → after ≡ place_of (behind (run_at q m.tree)) → PassesSame m.tree run from (n + 1) next after
same_more m run from one at next after p q n so_far l e f is g h =
    let es = elements_from m.tree (Some run) in
    let x = first_of (run_at p m.tree) in
    let k : Stands (run_at q m.tree) = rw f at so_far.lies in
    let left : elements_from m.tree (Some p) ≡ back n es = rw e at so_far.left in
    let passed : elements_from m.tree from ≡ front n es then elements_from m.tree (Some q) = rw f at so_far.passed in
    let begins : back n es ≡ x then elements_from m.tree next = sym left ∙ next_elements m p next l g in
    let r = first_record (run_at p m.tree) l in
    let here : run_at q m.tree ≡ behind_all n (run_from m.tree from) = rw f at so_far.behind in
    let more : n + 1 ≡ suc n = omega arith in
    record {
      lies = next_lies m q after k h;
      left = rw more (sym (back_more n es x _ r begins));
      behind = rw more (next_run m q after k h ∙ (ap behind here ∙ behind_all_more n (run_from m.tree from)));
      passed = rw (more, front_more n es x _ r begins) (passed ∙ ap (front n es then◌) (next_elements m q after k h ∙ ap (λ z. z then elements_from m.tree after) (sym is)) ∙ sym (then_assoc (front n es) x (elements_from m.tree after)));
    }

-- all of them are passed
pub same_all : (t : Placed) (run : ℕ) (from one at : Option ℕ) (n count : ℕ) → n ≡ count → count ≤ width (elements_from t (Some run)) → PassesSame t run from n one at → PassesRun t from (front count (elements_from t (Some run))) (Some at)
same_all t run from one at n count e many so_far =
    let es = elements_from t (Some run) in
    (so_far.lies, rw e at so_far.passed, rw (width-front count es many) (rw e at so_far.behind))
