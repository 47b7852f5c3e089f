-- Octets and elements that are the same. Assumes nothing.
use Rattle.std.proofs.Common.{◌≡◌, ℕ, ◌<◌, true, List, length, take, bytes_eq, Option, Some, sym, ap, ap₂, ◌∙◌, arith}
use Rattle.std.proofs.lemmas.List.{take_all}
use Rattle.std.proofs.lemmas.Slice.Eq.{bytes_eq-Decides}
use Rattle.sexp.specs.Elements.{none, list, ◌then◌, count}
use Rattle.holder.specs.Placed.{Placed, Meaning, run_at, front as place_of, inside, behind, Stands, IsList}
use Rattle.holder.specs.Walks.{first_of}
use Rattle.rules.proofs.Runs.{then_same, list_same}
use Rattle.books.proofs.LawfulRuns.{first_record}
use Rattle.fitting.specs.Cursors.{elements_from, Lies}
use Rattle.fitting.proofs.Cursors.{width_record, next_lies, next_elements, count_next, first_lies, first_elements, count_first}

-- octets that are the same as far as both go
pub same_octets : (os xs : List ℕ) (n : ℕ) → length os ≡ n → length xs ≡ n → take n os ≡ take n xs → true ≡ bytes_eq os xs
same_octets os xs n long wide e =
    sym ((bytes_eq-Decides os xs).1 (sym (take_all n os (omega (arith, long))) ∙ e ∙ take_all n xs (omega (arith, wide))))

-- between two elements of the lists r and s: those left are the same exactly when the lists are
pub record Comparing (t r s : Placed) (one other : Option ℕ) : Type 0 where
  pub one_lies : Lies t one
  pub other_lies : Lies t other
  pub fewer : count (elements_from t one) < count (first_of r)
  pub same : elements_from t one ≡ elements_from t other → first_of r ≡ first_of s
  pub left : first_of r ≡ first_of s → elements_from t one ≡ elements_from t other

pub comparing_none : (m : Meaning) (p q : ℕ) (one other : Option ℕ) → IsList (run_at p m.tree) → IsList (run_at q m.tree) → one ≡ place_of (inside (run_at p m.tree)) → other ≡ place_of (inside (run_at q m.tree)) → Comparing m.tree (run_at p m.tree) (run_at q m.tree) one other
comparing_none m p q one other l k e f =
    let r = first_elements m p one l e in
    let s = first_elements m q other k f in
    record {
      one_lies = first_lies m p one l e;
      other_lies = first_lies m q other k f;
      fewer = omega (arith, count_first m p one l e);
      same = λ is. r ∙ ap (λ es. list es none) is ∙ sym s;
      left = λ is. (list_same (sym r ∙ is ∙ s)).0;
    }

-- two runs are the same where their first elements are, and what stands behind them
pub first_same : (m : Meaning) (p q : ℕ) (next after : Option ℕ) → Stands (run_at p m.tree) → Stands (run_at q m.tree) → next ≡ place_of (behind (run_at p m.tree)) → after ≡ place_of (behind (run_at q m.tree))
    → elements_from m.tree (Some p) ≡ elements_from m.tree (Some q) → (first_of (run_at p m.tree) ≡ first_of (run_at q m.tree)) × (elements_from m.tree next ≡ elements_from m.tree after)
first_same m p q next after l k e f is =
    let x = first_of (run_at p m.tree) in
    let y = first_of (run_at q m.tree) in
    then_same x y (elements_from m.tree next) (elements_from m.tree after) (width_record x (first_record (run_at p m.tree) l) ∙ sym (width_record y (first_record (run_at q m.tree) k))) (sym (next_elements m p next l e) ∙ is ∙ next_elements m q after k f)

-- both go on behind two elements that are the same
pub comparing_more : (m : Meaning) (r s : Placed) (one other next after : Option ℕ) (p q : ℕ) → Comparing m.tree r s one other → one ≡ Some p → other ≡ Some q → first_of (run_at p m.tree) ≡ first_of (run_at q m.tree)
    → next ≡ place_of (behind (run_at p m.tree)) → after ≡ place_of (behind (run_at q m.tree)) → Comparing m.tree r s next after
comparing_more m r s one other next after p q so_far e f is g h =
    let l : Stands (run_at p m.tree) = rw e at so_far.one_lies in
    let k : Stands (run_at q m.tree) = rw f at so_far.other_lies in
    let fewer : count (elements_from m.tree (Some p)) < count (first_of r) = rw e at so_far.fewer in
    record {
      one_lies = next_lies m p next l g;
      other_lies = next_lies m q after k h;
      fewer = omega (arith, count_next m p next l g);
      same = λ rest. so_far.same (rw (e, f) (next_elements m p next l g ∙ ap₂ (λ x y. x then y) is rest ∙ sym (next_elements m q after k h)));
      left = λ all. (first_same m p q next after l k g h (rw (e, f) at so_far.left all)).1;
    }
