-- The state of the loop over a list's elements. Assumes nothing.
use Rattle.std.proofs.Common.{◌≡◌, ℕ, ◌+◌, ◌<◌, List, Option, Some, Ok, Err, Result, refl, ap, sym, ◌∙◌, arith}
use Rattle.sexp.specs.declared.refusals.Refusal.{Refusal}
use Rattle.sexp.specs.declared.tokens.Token.TheVariants.{Opening}
use Rattle.sexp.specs.Elements.{count}
use Rattle.holder.specs.Placed.{Placed, nothing, atom_at, list_at, erase, places, Apart, front, inside, behind, Stands, IsList}
use Rattle.holder.specs.Walks.{first_of}
use Rattle.holder.proofs.Walk.{first_found, next_found}
use Rattle.texts.specs.Label.{text_tree}
use Rattle.texts.specs.Lawful.{lawful}
use Rattle.texts.specs.Walked.{run_from, FirstToken}
use Rattle.books.specs.declared.checking.Check.{Check}
use Rattle.books.specs.Items.{items, first_items}
use Rattle.books.specs.Scanning.{Seen, scan, scan_element}
use Rattle.books.specs.Checks.{seen_by, Goes}
use Rattle.books.specs.Meant.{run_from_next, NextStands}
use Rattle.books.proofs.Scans.{onward, scan-append, items_first, list_scan}
use Rattle.books.proofs.Told.{opens_list}

-- between two elements of the list at a place of a text: which one is next, and what has been passed
pub record Listing (start : Check) (place : ℕ) (now : Check) (rest : Option ℕ) : Type 0 where
  pub same_record : now.record ≡ start.record
  pub same_side : now.side ≡ start.side
  pub stands : NextStands start.record.text.now rest
  pub smaller : count (erase (run_from_next start.record.text.now rest)) < count (first_of (run_from start.record.text.now place))
  pub goes_on : scan start.side (seen_by start) (first_items (run_from start.record.text.now place)) ≡ scan start.side (seen_by now) (items (run_from_next start.record.text.now rest))

-- what is next begins the run r, where the place of r's first element is known to lead to r
next_is : (text : List ℕ) (r : Placed) (next : Option ℕ) → ((q : ℕ) → front r ≡ Some q → run_from text q ≡ r) → next ≡ front r → run_from_next text next ≡ r
next_is text nothing next found e = rw e refl
next_is text (atom_at p a es) next found e = rw e (found p refl)
next_is text (list_at p inner es) next found e = rw e (found p refl)

next_stands : (text : List ℕ) (r : Placed) (next : Option ℕ) → ((q : ℕ) → front r ≡ Some q → run_from text q ≡ r) → next ≡ front r → NextStands text next
next_stands text nothing next found e = rw e tt
next_stands text (atom_at p a es) next found e = rw (e, found p refl) tt
next_stands text (list_at p inner es) next found e = rw (e, found p refl) tt

fewer_inside : (r : Placed) → IsList r → count (erase (inside r)) < count (first_of r)
fewer_inside nothing s = absurd s
fewer_inside (atom_at p a es) s = absurd s
fewer_inside (list_at p inner es) s = omega arith

count_split : (r : Placed) → count (erase r) ≡ count (first_of r) + count (erase (behind r))
count_split nothing = refl
count_split (atom_at p a es) = omega arith
count_split (list_at p inner es) = omega arith

some_first : (r : Placed) → Stands r → 0 < count (first_of r)
some_first nothing s = absurd s
some_first (atom_at p a es) s = omega arith
some_first (list_at p inner es) s = omega arith

module _ (start : Check) (place : ℕ) where
  abbrev text : List ℕ
  text = start.record.text.now

  abbrev here : Placed
  here = run_from text place

  abbrev left : Option ℕ → Placed
  left rest = run_from_next text rest

  apart : Apart (places (text_tree text))
  apart = (lawful text start.record.ok).apart

  -- before the first element
  pub listing_begun : (now : Check) (rest : Option ℕ) → FirstToken here (Opening place) → Goes start (scan_element (seen_by start) place) now (Ok tt)
      → rest ≡ front (inside (run_from now.record.text.now place)) → Listing start place now rest
  listing_begun now rest t goes e =
      let s = opens_list here place t in
      let first : rest ≡ front (inside here) = rw goes.1 at e in
      let found = λ (q : ℕ) (f : front (inside here) ≡ Some q). first_found (text_tree text) place q apart s f in
      let is : left rest ≡ inside here = next_is text (inside here) rest found first in
      record {
        same_record = goes.1;
        same_side = goes.2;
        stands = next_stands text (inside here) rest found first;
        smaller = rw is (fewer_inside here s);
        goes_on = rw is (list_scan start.side (seen_by start) here place t ∙ ap (λ o. onward o (λ next. scan start.side next (items (inside here)))) goes.0);
      }

  -- the next element of the list
  module _ (now : Check) (rest : Option ℕ) (inner : ℕ) (so_far : Listing start place now rest) (some : rest ≡ Some inner) where
    abbrev run : Placed
    run = run_from text inner

    stands : Stands run
    stands = rw some at so_far.stands

    abbrev inner_scan : Result Seen Refusal
    inner_scan = scan now.side (seen_by now) (first_items (run_from now.record.text.now inner))

    next_left : (after : Check) (next : Option ℕ) → Goes now inner_scan after (Ok tt) → next ≡ front (behind (run_from after.record.text.now inner))
        → (left next ≡ behind run) × NextStands text next
    next_left after next goes e =
        let first : next ≡ front (behind run) = rw (goes.1, so_far.same_record) at e in
        let found = λ (q : ℕ) (f : front (behind run) ≡ Some q). next_found (text_tree text) inner q apart stands f in
        (next_is text (behind run) next found first, next_stands text (behind run) next found first)

    parts : scan start.side (seen_by start) (first_items here) ≡ onward (scan start.side (seen_by now) (first_items run)) (λ next. scan start.side next (items (behind run)))
    parts =
        let all : scan start.side (seen_by start) (first_items here) ≡ scan start.side (seen_by now) (items run) = rw some at so_far.goes_on in
        all ∙ ap (scan start.side (seen_by now)) (items_first run) ∙ scan-append start.side (seen_by now) (first_items run) (items (behind run))

    same_scan : inner_scan ≡ scan start.side (seen_by now) (first_items run)
    same_scan = rw (so_far.same_record, so_far.same_side) refl

    pub listing_more : (after : Check) (next : Option ℕ) → Goes now inner_scan after (Ok tt) → next ≡ front (behind (run_from after.record.text.now inner)) → Listing start place after next
    listing_more after next goes e =
        let is : left next ≡ behind run = (next_left after next goes e).0 in
        let fewer : count (erase run) < count (first_of here) = rw some at so_far.smaller in
        record {
          same_record = goes.1 ∙ so_far.same_record;
          same_side = goes.2 ∙ so_far.same_side;
          stands = (next_left after next goes e).1;
          smaller = rw is (omega (arith, count_split run));
          goes_on = rw is (parts ∙ ap (λ o. onward o (λ n. scan start.side n (items (behind run)))) (sym same_scan ∙ goes.0));
        }

    pub listing_smaller : (after : Check) (next : Option ℕ) → Goes now inner_scan after (Ok tt) → next ≡ front (behind (run_from after.record.text.now inner))
        → count (erase (left next)) < count (erase (left rest))
    listing_smaller after next goes e =
        let is : left next ≡ behind run = (next_left after next goes e).0 in
        rw (is, some) (omega (arith, count_split run, some_first run stands))

    pub listing_fault : (k : Refusal) → inner_scan ≡ Err k → scan start.side (seen_by start) (first_items here) ≡ Err k
    listing_fault k e = parts ∙ ap (λ o. onward o (λ n. scan start.side n (items (behind run)))) (sym same_scan ∙ e)
