-- What the end of a list comes to. Assumes nothing.
use Rattle.std.proofs.Common.{◌≡◌, ◌≢◌, ℕ, ◌+◌, ◌-◌, ◌*◌, ◌<◌, true, false, eqb, List, [], ◌∷◌, reverse, Option, Some, None, refl, sym, ap, ap₂, ◌∙◌, subst, arith}
use Rattle.std.proofs.lemmas.Bool.{eq-eqb, ne_eqb}
use Rattle.std.specs.List.{slice_get}
use Rattle.std.specs.Option.{is_some}
use Rattle.sexp.specs.Elements.{none, count}
use Rattle.holder.specs.Placed.{Placed, nothing, atom_at, list_at as list_placed, erase, Meaning, run_at, front as place_of, behind, Stands}
use Rattle.holder.proofs.Walk.{list_stands}
use Rattle.rules.specs.Patterns.{done, pattern_of}
use Rattle.rules.specs.Signs.{Signed}
use Rattle.search.specs.States.{state}
use Rattle.search.specs.Covering.{Aim, Covers, Dead}
use Rattle.search.proofs.Covering.{covers-done}
use Rattle.search.proofs.Dying.{dead-done_atom, dead-done_list}
use Rattle.texts.specs.Label.{text_tree}
use Rattle.texts.specs.Meant.{meant}
use Rattle.fitting.specs.declared.searching.Search.{Search}
use Rattle.fitting.specs.declared.searching.Step.TheVariants.{Laid, Stuck, Done}
use Rattle.fitting.specs.Entries.{Entry}
use Rattle.fitting.specs.Cursors.{run_from, elements_from}
use Rattle.fitting.specs.Trails.{bound_in, goals_behind, goals_around, goals_at, choices_in}
use Rattle.fitting.specs.Sound.{left_behind, left_around, AtList, CursorSound}
use Rattle.fitting.specs.Searches.{TrailSound}
use Rattle.fitting.specs.Leads.{placed_behind, placed_around, placed_at}
use Rattle.fitting.specs.Moves.{state_of, steps_around, steps_behind, steps_left, Steps}
use Rattle.fitting.proofs.Cursors.{next_run, next_lies}
use Rattle.fitting.proofs.Entries.{ListAt, list_at, list_some}
use Rattle.fitting.proofs.Names.{few_like, few_goals}
use Rattle.fitting.proofs.Leading.{leads_like, leads-done}
use Rattle.fitting.proofs.Laying.{stuck}

-- an entry was read below a height
pub got_at : (trail : List Entry) (at index : ℕ) (read is : Option Entry) → index ≡ at → read ≡ slice_get (reverse trail) (index - 1) → read ≡ is → slice_get (reverse trail) (at - 1) ≡ is
got_at trail at index read is e r i = subst (λ x. slice_get (reverse trail) (x - 1) ≡ is) e (sym r ∙ i)

-- no element is left
pub none_left : (x : Option ℕ) → is_some x ≡ false → x ≡ None
none_left None e = refl
none_left (Some q) e = cc

-- the end of a list
module _ {H : Type 0} (m : Meaning) (from : Search H) (ts : TrailSound m.tree from) (cs : CursorSound (text_tree from.text.text.now) m.tree from.cursor from.trail.entries) (ended : from.cursor.pattern ≡ None) where
  abbrev closing_text : Meaning
  closing_text = meant from.text.text.now from.text.ok

  abbrev closing_pat : Placed
  closing_pat = text_tree from.text.text.now

  abbrev closing_trail : List Entry
  closing_trail = from.trail.entries

  -- some list is open
  pub is_inside : from.cursor.around ≢ 0
  is_inside e = rw ended at (cs.0 e).pattern

  closing_goal : (x : Option ℕ) → from.cursor.element ≡ x → goals_at closing_pat m.tree from.cursor closing_trail ≡ (done, elements_from m.tree x) ∷ goals_around closing_pat m.tree from.cursor.around closing_trail
  closing_goal x e =
      rw (ne_eqb from.cursor.around 0 is_inside, goals_at)
      (ap₂ (λ x y. (pattern_of (elements_from closing_pat x), elements_from m.tree y) ∷ goals_around closing_pat m.tree from.cursor.around closing_trail) ended e)

  closing_placed : placed_at closing_pat m.tree from.cursor closing_trail ≡ (done, run_from m.tree from.cursor.element) ∷ placed_around closing_pat m.tree from.cursor.around closing_trail
  closing_placed =
      rw (ne_eqb from.cursor.around 0 is_inside, placed_at)
      (ap (λ x. (pattern_of (elements_from closing_pat x), run_from m.tree from.cursor.element) ∷ placed_around closing_pat m.tree from.cursor.around closing_trail) ended)

  pub closes_not : (q : ℕ) → from.cursor.element ≡ Some q → Steps m.tree from from Stuck
  closes_not q is = stuck m.tree from ts (λ p e aim four serves h. go (run_at q m.tree) (rw is at (cs.1 is_inside).element) (closing_goal (Some q) is))
    where
      go : {aim : Aim} (r : Placed) → Stands r → goals_at closing_pat m.tree from.cursor closing_trail ≡ (done, erase r) ∷ goals_around closing_pat m.tree from.cursor.around closing_trail → Dead aim (state_of m.tree from)
      go nothing t g = absurd t
      go (atom_at q a es) t g = dead-done_atom g
      go (list_placed q inner es) t g = dead-done_list g

  pub closes_full : is_some from.cursor.element ≡ true → Steps m.tree from from Stuck
  closes_full t = go from.cursor.element refl t
    where
      go : (x : Option ℕ) → from.cursor.element ≡ x → is_some x ≡ true → Steps m.tree from from Stuck
      go None e t = cc
      go (Some q) e t = closes_not q e

  -- the open list's entry
  pub closes_some : slice_get (reverse closing_trail) (from.cursor.around - 1) ≡ None → ⊥
  closes_some g = list_some closing_pat m.tree from.cursor.around closing_trail ts.sound (cs.1 is_inside).around is_inside g

  pub closes_at : (e : Entry) → slice_get (reverse closing_trail) (from.cursor.around - 1) ≡ Some e → ListAt closing_pat m.tree from.cursor.around closing_trail e
  closes_at e g = list_at closing_pat m.tree from.cursor.around closing_trail e ts.sound (cs.1 is_inside).around is_inside g

  module _ (nothing_left : from.cursor.element ≡ None) (e : Entry) (a : ListAt closing_pat m.tree from.cursor.around closing_trail e) where
    abbrev closed : Search H
    closed = record {
      text = from.text;
      «record» = from.«record»;
      trail = from.trail;
      cursor = record { pattern = place_of (behind (run_at e.0.pattern closing_pat)); element = place_of (behind (run_at e.1 m.tree)); around = e.0.around };
      lengths = from.lengths;
      segments = from.segments;
    }

    closed_sound : TrailSound m.tree closed
    closed_sound = record { sound = ts.sound; room = ts.room; four = ts.four; segments = ts.segments; agree = ts.agree }

    goals_root : e.0.around ≡ 0 → goals_at closing_pat m.tree from.cursor closing_trail ≡ (done, none) ∷ ((done, none) ∷ [])
    goals_root z = closing_goal None nothing_left ∙ ap ((done, none) ∷◌) (a.goals ∙ rw (eq-eqb e.0.around 0 z, goals_behind) refl)

    placed_root : e.0.around ≡ 0 → placed_at closing_pat m.tree from.cursor closing_trail ≡ (done, run_from m.tree from.cursor.element) ∷ ((done, behind (run_at e.1 m.tree)) ∷ [])
    placed_root z = closing_placed ∙ ap ((done, run_from m.tree from.cursor.element) ∷◌) (a.placed ∙ rw (eq-eqb e.0.around 0 z, placed_behind) refl)

    pub closes_done : e.0.around ≡ 0 → Steps m.tree from closed Done
    closes_done z = record {
      text = refl;
      holder = refl;
      lengths = refl;
      sound = closed_sound;
      cursor = λ is. cc;
      fewer = λ is. cc;
      more = omega arith;
      comes = λ p x aim four serves h. covers-done refl (covers-done (goals_root z) h);
      leads = λ p h. leads-done (leads-done (leads_like (goals_root z) (placed_root z) h));
    }

    module _ (n : e.0.around ≢ 0) where
      not_zero : eqb e.0.around 0 ≡ false
      not_zero = ne_eqb e.0.around 0 n

      behind_pattern : run_from closing_pat (place_of (behind (run_at e.0.pattern closing_pat))) ≡ behind (run_at e.0.pattern closing_pat)
      behind_pattern = next_run closing_text e.0.pattern (place_of (behind (run_at e.0.pattern closing_pat))) (list_stands (run_at e.0.pattern closing_pat) a.pattern) refl

      behind_record : run_from m.tree (place_of (behind (run_at e.1 m.tree))) ≡ behind (run_at e.1 m.tree)
      behind_record = next_run m e.1 (place_of (behind (run_at e.1 m.tree))) (list_stands (run_at e.1 m.tree) a.place) refl

      goals_closed : goals_around closing_pat m.tree from.cursor.around closing_trail ≡ (pattern_of (elements_from closing_pat closed.cursor.pattern), elements_from m.tree closed.cursor.element) ∷ goals_around closing_pat m.tree e.0.around closing_trail
      goals_closed = a.goals ∙ rw (not_zero, goals_behind) (ap₂ (λ x y. (pattern_of (erase x), erase y) ∷ goals_around closing_pat m.tree e.0.around closing_trail) (sym behind_pattern) (sym behind_record))

      state_closed : goals_around closing_pat m.tree from.cursor.around closing_trail ≡ goals_at closing_pat m.tree closed.cursor closing_trail
      state_closed = goals_closed ∙ sym (rw (not_zero, goals_at) refl)

      placed_next : placed_around closing_pat m.tree from.cursor.around closing_trail ≡ (pattern_of (elements_from closing_pat closed.cursor.pattern), run_from m.tree closed.cursor.element) ∷ placed_around closing_pat m.tree e.0.around closing_trail
      placed_next = a.placed ∙ rw (not_zero, placed_behind) (ap₂ (λ x y. (pattern_of (erase x), y) ∷ placed_around closing_pat m.tree e.0.around closing_trail) (sym behind_pattern) (sym behind_record))

      placed_closed : placed_around closing_pat m.tree from.cursor.around closing_trail ≡ placed_at closing_pat m.tree closed.cursor closing_trail
      placed_closed = placed_next ∙ sym (rw (not_zero, placed_at) refl)

      count_closed : left_around closing_pat m.tree from.cursor.around closing_trail ≡ count (elements_from closing_pat closed.cursor.pattern) + left_around closing_pat m.tree e.0.around closing_trail
      count_closed = a.left ∙ rw (not_zero, left_behind) (ap (λ r. count (erase r) + left_around closing_pat m.tree e.0.around closing_trail) (sym behind_pattern))

      list_closed : AtList closing_pat m.tree closed.cursor closing_trail
      list_closed =
          let here = cs.1 is_inside in
          record {
            around = a.around;
            pattern = next_lies closing_text e.0.pattern closed.cursor.pattern (list_stands (run_at e.0.pattern closing_pat) a.pattern) refl;
            element = next_lies m e.1 closed.cursor.element (list_stands (run_at e.1 m.tree) a.place) refl;
            signed = subst (λ r. Signed (erase r)) (sym behind_pattern) (a.signed n);
            room = omega (arith, here.room, count_closed);
            few = few_goals goals_closed (few_like refl (few_goals (ap₂ (λ x y. (pattern_of (elements_from closing_pat x), elements_from m.tree y) ∷ goals_around closing_pat m.tree from.cursor.around closing_trail) ended nothing_left) here.few));
          }

      fewer_closed : steps_left closed < steps_left from
      fewer_closed =
          let old : steps_left from ≡ 2 * count (elements_from closing_pat from.cursor.pattern) + steps_around closing_pat from.cursor.around closing_trail = rw (ne_eqb from.cursor.around 0 is_inside, steps_left) refl in
          let new : steps_left closed ≡ 2 * count (elements_from closing_pat closed.cursor.pattern) + steps_around closing_pat e.0.around closing_trail = rw (not_zero, steps_left) refl in
          let around : steps_around closing_pat from.cursor.around closing_trail ≡ 1 + (2 * count (elements_from closing_pat closed.cursor.pattern) + steps_around closing_pat e.0.around closing_trail) =
          a.steps ∙ rw (not_zero, steps_behind) (ap (λ r. 1 + (2 * count (erase r) + steps_around closing_pat e.0.around closing_trail)) (sym behind_pattern)) in
          omega (arith, old, new, around)

      pub closes_on : Steps m.tree from closed Laid
      closes_on = record {
        text = refl;
        holder = refl;
        lengths = refl;
        sound = closed_sound;
        cursor = λ is. ((λ z. absurd (n z)), (λ _. list_closed));
        fewer = λ is. fewer_closed;
        more = omega arith;
        comes = λ p x aim four serves h. subst
            (λ gs. Covers p x aim (state (bound_in closing_pat m.tree closing_trail) gs (choices_in closing_pat m.tree closing_trail)))
            state_closed
            (covers-done (closing_goal None nothing_left) h);
        leads = λ p h. leads_like state_closed placed_closed (leads-done (leads_like (closing_goal None nothing_left) closing_placed h));
      }
