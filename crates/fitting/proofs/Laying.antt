-- What each step of a search comes to. Assumes nothing.
use Rattle.std.proofs.Common.{◌≡◌, ◌≢◌, ℕ, suc, ◌+◌, ◌*◌, ◌<◌, ◌≤◌, Bool, true, false, eqb, List, [], ◌∷◌, ◌++◌, length, drop, get_or, Option, Some, None, ⊎_elim, append-nil, refl, sym, ap, ap₂, ◌∙◌, subst, arith}
use Rattle.std.proofs.lemmas.Bool.{eq-eqb, ne_eqb, cases_eq}
use Rattle.std.proofs.lemmas.Slice.Eq.{bytes_eq-Decides}
use Rattle.std.specs.Option.{unwrap_or}
use Rattle.std.proofs.lemmas.List.{length-append, take-append-drop, take_more}
use Rattle.sexp.specs.Elements.{octets, Elements, none, atom, ◌then◌, Record, count}
use Rattle.sexp.proofs.Runs.{then-none}
use Rattle.holder.specs.Placed.{Placed, nothing, atom_at, list_at as list_placed, erase, Meaning, run_at, front as place_of, inside, behind, octets_of, Stands, IsList, IsAtom}
use Rattle.holder.specs.Walks.{first_of}
use Rattle.rules.specs.declared.signs.Sign.{Sign}
use Rattle.rules.specs.declared.signs.Sign.TheVariants.{Variable as VariableSign, Segment as SegmentSign}
use Rattle.rules.specs.Patterns.{Pattern, constant, slot, group, pattern_of, read_atom, sign_octet, quote, names, segments, slots, firsts}
use Rattle.rules.specs.Bindings.{Binding, binding, lengths, width}
use Rattle.rules.specs.Goals.{Goal, is_bound}
use Rattle.rules.specs.Signs.{HasSign, Signed}
use Rattle.rules.proofs.Enumerating.{lengths-append}
use Rattle.rules.proofs.Writing.{sign_writes, signed_then}
use Rattle.search.specs.States.{choice, state}
use Rattle.search.specs.Covering.{Aim, past, along, Tight, Covers, Dead}
use Rattle.search.proofs.Covering.{covers-done, covers-constant, covers-group, covers-repeated, covers-variable, covers-segment}
use Rattle.search.proofs.Dying.{dead-constant_none, dead-constant_list, dead-constant_other, dead-group_none, dead-group_atom, dead-repeated, dead-variable_none, dead_too_few}
use Rattle.search.proofs.Wanting.{covers_next, few_bound}
use Rattle.texts.specs.Label.{text_tree}
use Rattle.texts.specs.Meant.{meant}
use Rattle.books.proofs.LawfulRuns.{first_record}
use Rattle.fitting.specs.declared.marks.Laid.TheVariants.{List as ListLaid, Variable as VariableLaid, Segment as SegmentLaidAs}
use Rattle.fitting.specs.declared.marks.Mark.{Mark}
use Rattle.fitting.specs.declared.searching.Search.{Search}
use Rattle.fitting.specs.declared.searching.Step.{Step}
use Rattle.fitting.specs.declared.searching.Step.TheVariants.{Laid, Stuck, Done}
use Rattle.fitting.specs.Stacked.{Stacked}
use Rattle.fitting.specs.Entries.{Entry}
use Rattle.fitting.specs.Occurs.{behind_all}
use Rattle.fitting.specs.Cursors.{run_from, elements_from, Lies, front, back, Passes, PassesRun}
use Rattle.fitting.specs.Trails.{name_of, bound_in, goals_behind, goals_around, goals_at, choices_in}
use Rattle.fitting.specs.Sound.{IsListAt, Named, left_behind, left_around, Few, AtList, CursorSound}
use Rattle.fitting.specs.Searches.{TrailSound}
use Rattle.fitting.specs.Leads.{PlacedGoal, placed_behind, placed_around, placed_at, Leads}
use Rattle.fitting.specs.Moves.{state_of, LeadsAt, LeadsTo, Serves, steps_around, steps_behind, steps_left, Comes, Steps, Reads, IsNew, IsKnown, mark_at, Marks, GoesOn}
use Rattle.fitting.proofs.Cursors.{first_then, first_of_list, first_of_atom, next_run, next_lies, next_elements, first_run, first_lies, first_elements, count_next, count_less, count_first, front_then_back, width-front, width_record, passed_back}
use Rattle.fitting.proofs.Entries.{list_below, Keeps, same, more, keeps_list, keeps_length, keeps_goals, keeps_placed, keeps_left, keeps_steps}
use Rattle.fitting.proofs.Leading.{leads_like, leads_more, leads-done, leads-constant, leads-group, leads-repeated, leads-new}
use Rattle.fitting.proofs.Names.{few_like, few_goals, few_new, few_repeated, few_inside}

-- a search that is stuck
module _ {H : Type 0} (rec : Placed) (from : Search H) where
  pub stuck : TrailSound rec from → ((p : Pattern) (e : Elements) (aim : Aim) → segments (names p) ≤ 4 → Serves aim from → Covers p e aim (state_of rec from) → Dead aim (state_of rec from)) → Steps rec from from Stuck
  stuck s dead = record {
    text = refl;
    holder = refl;
    lengths = refl;
    sound = s;
    cursor = λ e. cc;
    fewer = λ e. cc;
    more = omega arith;
    comes = λ p e aim few serves h. (dead p e aim few serves h, refl);
    leads = λ p h. tt;
  }

-- a sign writes a name
reads_slot : (sign : Sign) (name : List ℕ) (p : Pattern) → read_atom (sign_octet sign ∷ name) p ≡ slot sign name p
reads_slot VariableSign name p = refl
reads_slot SegmentSign name p = refl

-- behind a root all is laid
abbrev pub step_on : Bool → Step
step_on true = Done
step_on false = Laid

-- what is left at a cursor, of a root or of a list; what is behind its first element; and the goals behind
abbrev element_of : Bool → Placed → Option ℕ → Elements
element_of true tree at = first_of (run_from tree at)
element_of false tree at = elements_from tree at

abbrev rest_of : Bool → Placed → Option ℕ → Elements
rest_of true tree next = none
rest_of false tree next = elements_from tree next

abbrev others : {A : Type 0} → Bool → List A → List A
others true gs = []
others false gs = gs

element_none : (root : Bool) (tree : Placed) → element_of root tree None ≡ none
element_none true tree = refl
element_none false tree = refl

element_split : (root : Bool) (m : Meaning) (p : ℕ) → Stands (run_at p m.tree) → element_of root m.tree (Some p) ≡ first_of (run_at p m.tree) then rest_of root m.tree (place_of (behind (run_at p m.tree)))
element_split true m p s = sym (then-none (first_of (run_at p m.tree)))
element_split false m p s = next_elements m p (place_of (behind (run_at p m.tree))) s refl

front_one : (r : Placed) → Stands r → front 1 (erase r) ≡ first_of r
front_one nothing s = absurd s
front_one (atom_at p a es) s = refl
front_one (list_placed p inner es) s = refl

-- a search in front of an element of the pattern
module _ {H : Type 0} (m : Meaning) (from : Search H) (ts : TrailSound m.tree from) (cs : CursorSound (text_tree from.text.text.now) m.tree from.cursor from.trail.entries) (p : ℕ) (at : from.cursor.pattern ≡ Some p) where
  abbrev text : Meaning
  text = meant from.text.text.now from.text.ok

  abbrev pat : Placed
  pat = text_tree from.text.text.now

  abbrev trail : List Entry
  trail = from.trail.entries

  abbrev around : ℕ
  around = from.cursor.around

  abbrev root : Bool
  root = eqb around 0

  abbrev next : Option ℕ
  next = place_of (behind (run_at p pat))

  abbrev behind_goals : List Goal
  behind_goals = others root (goals_around pat m.tree around trail)

  abbrev behind_placed : List PlacedGoal
  behind_placed = others root (placed_around pat m.tree around trail)

  abbrev bindings : List Binding
  bindings = bound_in pat m.tree trail

  pub stands : Stands (run_at p pat)
  stands = ⊎_elim (λ z. rw at at (cs.0 z).pattern) (λ n. rw at at (cs.1 n).pattern) (cases_eq around 0)

  pub element_lies : Lies m.tree from.cursor.element
  element_lies = ⊎_elim (λ z. lies from.cursor.element (cs.0 z).element) (λ n. (cs.1 n).element) (cases_eq around 0)
    where
      lies : (x : Option ℕ) → Stands (run_from m.tree x) → Lies m.tree x
      lies None s = tt
      lies (Some q) s = s

  pub element_stands : (q : ℕ) → from.cursor.element ≡ Some q → Stands (run_at q m.tree)
  element_stands q is = rw is at element_lies

  at_root : around ≡ 0 → root ≡ true
  at_root z = eq-eqb around 0 z

  at_list : around ≢ 0 → root ≡ false
  at_list n = ne_eqb around 0 n

  signed_first : Signed (first_of (run_at p pat))
  signed_first = ⊎_elim
      (λ z. rw at at (cs.0 z).signed)
      (λ n. let h : Signed (elements_from pat (Some p)) = rw at at (cs.1 n).signed in (signed_then (first_of (run_at p pat)) (elements_from pat next) (subst Signed (next_elements text p next stands refl) h)).0)
      (cases_eq around 0)

  goals_split : (b : Bool) → root ≡ b → goals_at pat m.tree from.cursor trail ≡ (pattern_of (element_of b pat from.cursor.pattern), element_of b m.tree from.cursor.element) ∷ others b (goals_around pat m.tree around trail)
  goals_split true e = rw (e, goals_at) refl
  goals_split false e = rw (e, goals_at) refl

  -- the goal at the cursor
  goal_here : (left : Elements) → element_of root m.tree from.cursor.element ≡ left → goals_at pat m.tree from.cursor trail ≡ (pattern_of (first_of (run_at p pat) then rest_of root pat next), left) ∷ behind_goals
  goal_here left e = goals_split root refl ∙ ap₂ (λ x y. (pattern_of x, y) ∷ behind_goals) (ap (element_of root pat) at ∙ element_split root text p stands) e

  goal_none : from.cursor.element ≡ None → goals_at pat m.tree from.cursor trail ≡ (pattern_of (first_of (run_at p pat) then rest_of root pat next), none) ∷ behind_goals
  goal_none is = goal_here none (ap (element_of root m.tree) is ∙ element_none root m.tree)

  goal_some : (q : ℕ) → from.cursor.element ≡ Some q →
      goals_at pat m.tree from.cursor trail ≡ (pattern_of (first_of (run_at p pat) then rest_of root pat next), first_of (run_at q m.tree) then rest_of root m.tree (place_of (behind (run_at q m.tree)))) ∷ behind_goals
  goal_some q is = goal_here (first_of (run_at q m.tree) then rest_of root m.tree (place_of (behind (run_at q m.tree)))) (ap (element_of root m.tree) is ∙ element_split root m q (element_stands q is))

  -- and with the run of the record that stands there
  placed_split : (b : Bool) → root ≡ b → placed_at pat m.tree from.cursor trail ≡ (pattern_of (element_of b pat from.cursor.pattern), run_from m.tree from.cursor.element) ∷ others b (placed_around pat m.tree around trail)
  placed_split true e = rw (e, placed_at) refl
  placed_split false e = rw (e, placed_at) refl

  leads_here : {p₁ q : Pattern} {left : Elements} → pattern_of (first_of (run_at p pat) then rest_of root pat next) ≡ q → goals_at pat m.tree from.cursor trail ≡ (q, left) ∷ behind_goals →
      LeadsAt p₁ m.tree from → Leads pat m.tree p₁ trail ((q, left) ∷ behind_goals) ((q, run_from m.tree from.cursor.element) ∷ behind_placed)
  leads_here is g h = leads_like g
      (placed_split root refl ∙ ap (λ x. (x, run_from m.tree from.cursor.element) ∷ behind_placed) (ap (λ x. pattern_of (element_of root pat x)) at ∙ (ap pattern_of (element_split root text p stands) ∙ is)))
      h

  -- behind one element of the record
  passed_one : (q : ℕ) → from.cursor.element ≡ Some q → run_from m.tree (place_of (behind (run_at q m.tree))) ≡ behind (run_from m.tree from.cursor.element)
  passed_one q is = next_run m q (place_of (behind (run_at q m.tree))) (element_stands q is) refl ∙ ap (λ x. behind (run_from m.tree x)) (sym is)

  few_here : Few bindings (goals_at pat m.tree from.cursor trail)
  few_here = ⊎_elim
      (λ z. few_goals (sym (goals_split true (at_root z))) (rw (cs.0 z).nothing (record { pattern = pattern_of (first_of (run_from pat from.cursor.pattern)); few = (cs.0 z).few; named = ap firsts (append-nil (slots (pattern_of (first_of (run_from pat from.cursor.pattern))))) })))
      (λ n. few_goals (sym (goals_split false (at_list n))) (cs.1 n).few)
      (cases_eq around 0)

  signed_next : around ≢ 0 → Signed (erase (behind (run_at p pat)))
  signed_next n =
      let h : Signed (elements_from pat (Some p)) = rw at at (cs.1 n).signed in
      (signed_then (first_of (run_at p pat)) (erase (behind (run_at p pat))) (subst Signed (first_then (run_at p pat)) h)).1

  low : around ≤ length trail
  low = ⊎_elim (λ z. omega arith) (λ n. list_below around trail (cs.1 n).around) (cases_eq around 0)

  list_here : IsListAt around trail
  list_here = ⊎_elim (λ z. rw ((cs.0 z).nothing) z) (λ n. (cs.1 n).around) (cases_eq around 0)

  -- behind the element, at some element of the record, with a trail that stays or has an entry more
  module _ (trailed : Stacked Entry) (segs : ℕ) (to : Option ℕ) where
    abbrev gone : Search H
    gone = record {
      text = from.text;
      «record» = from.«record»;
      trail = trailed;
      cursor = record { pattern = next; element = to; around = around };
      lengths = from.lengths;
      segments = segs;
    }

    abbrev new_bindings : List Binding
    new_bindings = bound_in pat m.tree trailed.entries

    comes_on : (p₁ : Pattern) (e : Elements) (aim : Aim) → Keeps trail trailed.entries → (b : Bool) → root ≡ b →
        Covers p₁ e aim (state new_bindings ((pattern_of (rest_of b pat next), rest_of b m.tree to) ∷ others b (goals_around pat m.tree around trail)) (choices_in pat m.tree trailed.entries)) →
        Comes p₁ e aim m.tree from gone (step_on b)
    comes_on p₁ e aim k true is h = covers-done refl h
    comes_on p₁ e aim k false is h =
        subst (λ gs. Covers p₁ e aim (state new_bindings gs (choices_in pat m.tree trailed.entries)))
        (sym (rw (is, goals_at) (ap (λ gs. (pattern_of (elements_from pat next), elements_from m.tree to) ∷ gs) (keeps_goals pat m.tree around trail trailed.entries k low))))
        h

    leads_on : (p₁ : Pattern) → Keeps trail trailed.entries → (b : Bool) → root ≡ b →
        Leads pat m.tree p₁ trailed.entries ((pattern_of (rest_of b pat next), rest_of b m.tree to) ∷ others b (goals_around pat m.tree around trail)) ((pattern_of (rest_of b pat next), run_from m.tree to) ∷ others b (placed_around pat m.tree around trail)) →
        LeadsTo p₁ m.tree gone (step_on b)
    leads_on p₁ k true is h = leads-done h
    leads_on p₁ k false is h = leads_like
        (sym (rw (is, goals_at) (ap (λ gs. (pattern_of (elements_from pat next), elements_from m.tree to) ∷ gs) (keeps_goals pat m.tree around trail trailed.entries k low))))
        (sym (rw (is, placed_at) (ap (λ gs. (pattern_of (elements_from pat next), run_from m.tree to) ∷ gs) (keeps_placed pat m.tree around trail trailed.entries k low))))
        h

    pub goes_on : Keeps trail trailed.entries → TrailSound m.tree gone → from.segments ≤ segs → (around ≢ 0 → Lies m.tree to) →
        Few new_bindings ((pattern_of (rest_of root pat next), rest_of root m.tree to) ∷ behind_goals) →
        ((p₁ : Pattern) (e : Elements) (aim : Aim) → segments (names p₁) ≤ 4 → Serves aim from → Covers p₁ e aim (state_of m.tree from) →
        Covers p₁ e aim (state new_bindings ((pattern_of (rest_of root pat next), rest_of root m.tree to) ∷ behind_goals) (choices_in pat m.tree trailed.entries))) →
        ((p₁ : Pattern) → LeadsAt p₁ m.tree from →
        Leads pat m.tree p₁ trailed.entries ((pattern_of (rest_of root pat next), rest_of root m.tree to) ∷ behind_goals) ((pattern_of (rest_of root pat next), run_from m.tree to) ∷ behind_placed)) →
        Steps m.tree from gone (step_on root)
    goes_on k sound grown lies few covers leads = record {
      text = refl;
      holder = refl;
      lengths = refl;
      sound = sound;
      cursor = λ is. ((λ z. absurd (inside is z)), (λ n. list_on n));
      fewer = λ is. less (λ z. inside is z);
      more = grown;
      comes = λ p₁ e aim four serves h. comes_on p₁ e aim k root refl (covers p₁ e aim four serves h);
      leads = λ p₁ h. leads_on p₁ k root refl (leads p₁ h);
    }
      where
        inside : step_on root ≡ Laid → around ≢ 0
        inside is z = let e : root ≡ true = at_root z in let d : step_on true ≡ Laid = rw e at is in cc

        list_on : around ≢ 0 → AtList pat m.tree gone.cursor trailed.entries
        list_on n =
            let a = cs.1 n in
            let signed : Signed (elements_from pat (Some p)) = rw at at a.signed in
            let split = next_elements text p next stands refl in
            record {
              around = keeps_list around trail trailed.entries k a.around;
              pattern = next_lies text p next stands refl;
              element = lies n;
              signed = (signed_then (first_of (run_at p pat)) (elements_from pat next) (subst Signed split signed)).1;
              room =
                  let room : length trail + (count (elements_from pat (Some p)) + left_around pat m.tree around trail) ≤ 256 = rw at at a.room in
                  omega (arith, room, count_less text p next stands refl, keeps_length trail trailed.entries k, keeps_left pat m.tree around trail trailed.entries k low);
              few =
                  few_goals
                  (ap (λ gs. (pattern_of (elements_from pat next), elements_from m.tree to) ∷ gs) (sym (keeps_goals pat m.tree around trail trailed.entries k low)))
                  (subst (λ b. Few new_bindings ((pattern_of (rest_of b pat next), rest_of b m.tree to) ∷ others b (goals_around pat m.tree around trail))) (at_list n) few);
            }

        less : around ≢ 0 → steps_left gone < steps_left from
        less n =
            let new : steps_left gone ≡ 2 * count (elements_from pat next) + steps_around pat around trailed.entries = rw (at_list n, steps_left) refl in
            let old : steps_left from ≡ 2 * count (elements_from pat (Some p)) + steps_around pat around trail =
            rw (at_list n, steps_left) (ap (λ x. 2 * count (elements_from pat x) + steps_around pat around trail) at) in
            omega (arith, new, old, count_less text p next stands refl, keeps_steps pat m.tree around trail trailed.entries k low)

    -- so it comes to that where the search goes on
    pub went : (between to₁ : Search H) (step : Step) →
        between ≡ record { text = from.text; «record» = from.«record»; trail = trailed; cursor = from.cursor; lengths = from.lengths; segments = segs } →
        GoesOn between p to to₁ step → Steps m.tree from gone (step_on root) → Steps m.tree from to₁ step
    went between to₁ step e goes h =
        let is : to₁ ≡ gone =
        goes.0
        ∙ ap (λ (x : Search H). record x { cursor = record { pattern = place_of (behind (run_at p (text_tree x.text.text.now))); element = to; around = x.cursor.around } }) e in
        let stepped : step ≡ step_on root = goes.1 ∙ ap (λ (x : Search H). step_on (eqb x.cursor.around 0)) e in
        rw (is, stepped) h

  -- nothing of the element is laid where it can not be
  stuck_at : {q : Pattern} {left : Elements} → goals_at pat m.tree from.cursor trail ≡ (q, left) ∷ behind_goals →
      ((aim : Aim) → (state_of m.tree from).goals ≡ (q, left) ∷ behind_goals → Dead aim (state_of m.tree from)) → Steps m.tree from from Stuck
  stuck_at g dead = stuck m.tree from ts (λ p₁ e aim four serves h. dead aim g)

  abbrev rest_pattern : Pattern
  rest_pattern = pattern_of (rest_of root pat next)

  abbrev rest_record : ℕ → Elements
  rest_record q = rest_of root m.tree (place_of (behind (run_at q m.tree)))

  sound_same : (to : Option ℕ) → TrailSound m.tree (gone from.trail from.segments to)
  sound_same to = record { sound = ts.sound; room = ts.room; four = ts.four; segments = ts.segments; agree = ts.agree }

  next_record : (q : ℕ) → from.cursor.element ≡ Some q → Lies m.tree (place_of (behind (run_at q m.tree)))
  next_record q some = next_lies m q (place_of (behind (run_at q m.tree))) (element_stands q some) refl

  -- an atom of the pattern has a sign
  pub atom_writes : (os : List ℕ) → Reads pat p os → ((x : Pattern) → read_atom os x ≡ x) → ⊥
  atom_writes os is n =
      let h : Signed (atom (octets (octets_of (run_at p pat))) none) = subst Signed (first_of_atom (run_at p pat) is.0) signed_first in
      sign_writes os (subst HasSign is.1 h.0) n

  -- a constant
  module _ (os : List ℕ) (is : Reads pat p (quote ∷ os)) where
    constant_of : pattern_of (first_of (run_at p pat) then rest_of root pat next) ≡ constant (octets os) rest_pattern
    constant_of = ap (λ x. pattern_of (x then rest_of root pat next)) (first_of_atom (run_at p pat) is.0 ∙ ap (λ x. atom (octets x) none) is.1)

    pub constant_none : from.cursor.element ≡ None → Steps m.tree from from Stuck
    constant_none ended = stuck_at (goal_none ended ∙ ap (λ x. (x, none) ∷ behind_goals) constant_of) (λ aim g. dead-constant_none g)

    module _ (q : ℕ) (some : from.cursor.element ≡ Some q) where
      constant_goal : (x : Elements) → first_of (run_at q m.tree) ≡ x → goals_at pat m.tree from.cursor trail ≡ (constant (octets os) rest_pattern, x then rest_record q) ∷ behind_goals
      constant_goal x e = goal_some q some ∙ ap₂ (λ x y. (x, y then rest_record q) ∷ behind_goals) constant_of e

      pub constant_list : IsList (run_at q m.tree) → Steps m.tree from from Stuck
      constant_list l = stuck_at (constant_goal _ (first_of_list (run_at q m.tree) l)) (λ aim g. dead-constant_list g)

      pub constant_other : IsAtom (run_at q m.tree) → (os ≡ octets_of (run_at q m.tree) → ⊥) → Steps m.tree from from Stuck
      constant_other a n = stuck_at (constant_goal _ (first_of_atom (run_at q m.tree) a)) (λ aim g. dead-constant_other g (λ e. n cc))

      pub constant_laid : (to : Search H) (step : Step) → IsAtom (run_at q m.tree) → octets_of (run_at q m.tree) ≡ os → GoesOn from p (place_of (behind (run_at q m.tree))) to step → Steps m.tree from to step
      constant_laid to step a e goes =
          let to₁ = place_of (behind (run_at q m.tree)) in
          let g = constant_goal (atom (octets os) none) (first_of_atom (run_at q m.tree) a ∙ ap (λ x. atom (octets x) none) e) in
          went from.trail from.segments to₁ from to step refl goes
          (goes_on from.trail from.segments to₁ same (sound_same to₁) (omega arith) (λ n. next_record q some) (few_like refl (few_goals g few_here)) (λ p₁ e aim four serves h. covers-constant g h)
          (λ p₁ h. leads-constant (passed_one q some) (leads_here constant_of g h)))

  -- a name
  module _ (sign : Sign) (named : Named sign (run_at p pat)) where
    abbrev name : List ℕ
    name = name_of (run_at p pat)

    first_named : first_of (run_at p pat) ≡ atom (octets (sign_octet sign ∷ name)) none
    first_named = first_of_atom (run_at p pat) named.atom ∙ ap (λ x. atom (octets x) none) named.writes

    slot_of : pattern_of (first_of (run_at p pat) then rest_of root pat next) ≡ slot sign name rest_pattern
    slot_of = ap (λ x. pattern_of (x then rest_of root pat next)) first_named ∙ reads_slot sign name rest_pattern

    slot_none : from.cursor.element ≡ None → goals_at pat m.tree from.cursor trail ≡ (slot sign name rest_pattern, none) ∷ behind_goals
    slot_none ended = goal_none ended ∙ ap (λ x. (x, none) ∷ behind_goals) slot_of

    slot_some : (q : ℕ) → from.cursor.element ≡ Some q → goals_at pat m.tree from.cursor trail ≡ (slot sign name rest_pattern, first_of (run_at q m.tree) then rest_record q) ∷ behind_goals
    slot_some q some = goal_some q some ∙ ap (λ x. (x, first_of (run_at q m.tree) then rest_record q) ∷ behind_goals) slot_of

  -- a new variable
  module _ (new : IsNew m.tree from p VariableSign) where
    pub variable_none : from.cursor.element ≡ None → Steps m.tree from from Stuck
    variable_none ended = stuck_at (slot_none VariableSign new.0 ended) (λ aim g. dead-variable_none g new.1)

    module _ (q : ℕ) (some : from.cursor.element ≡ Some q) where
      abbrev to_variable : Option ℕ
      to_variable = place_of (behind (run_at q m.tree))

      abbrev one : Elements
      one = first_of (run_at q m.tree)

      abbrev with_variable : Stacked Entry
      with_variable = record { entries = (mark_at from VariableLaid p 1 to_variable, q) ∷ trail; room = from.trail.room }

      one_laid : front 1 (elements_from m.tree (Some q)) ≡ one
      one_laid = front_one (run_at q m.tree) (element_stands q some)

      sound_variable : TrailSound m.tree (gone with_variable from.segments to_variable)
      sound_variable =
          let same_lengths : lengths (bound_in pat m.tree with_variable.entries) ≡ lengths bindings =
          lengths-append bindings (binding VariableSign (name_of (run_at p pat)) (front 1 (elements_from m.tree (Some q))) ∷ []) ∙ append-nil (lengths bindings) in
          record {
            sound = (record { around = list_here; signed = λ n. signed_next n; laid = (new.0, element_stands q some, refl) }, ts.sound);
            room = ts.room;
            four = ts.four;
            segments = ts.segments ∙ ap length (sym same_lengths);
            agree = ts.agree ∙ sym same_lengths;
          }

      leads_variable : (p₁ : Pattern) →
          Leads pat m.tree p₁ trail ((slot VariableSign (name_of (run_at p pat)) rest_pattern, one then rest_record q) ∷ behind_goals) ((slot VariableSign (name_of (run_at p pat)) rest_pattern, run_from m.tree from.cursor.element) ∷ behind_placed) →
          Leads pat m.tree p₁ with_variable.entries ((rest_pattern, rest_record q) ∷ behind_goals) ((rest_pattern, run_from m.tree to_variable) ∷ behind_placed)
      leads_variable p₁ h =
          let is_one : Record (front 1 (elements_from m.tree (Some q))) = subst Record (sym one_laid) (first_record (run_at q m.tree) (element_stands q some)) in
          leads-new VariableSign (name_of (run_at p pat)) (front 1 (elements_from m.tree (Some q))) (mark_at from VariableLaid p 1 to_variable, q) refl
          (λ other t. (bytes_eq-Decides other (name_of (run_at p pat))).0 t)
          (λ _. ap (run_from m.tree) some)
          new.1
          (ap (λ x. x then rest_record q) (sym one_laid))
          is_one
          (passed_one q some ∙ sym (ap (λ n. behind_all n (run_from m.tree from.cursor.element)) (width_record (front 1 (elements_from m.tree (Some q))) is_one)))
          h

      pub variable_laid : (between to : Search H) (step : Step) → Marks from between VariableLaid p 1 to_variable q → GoesOn between p to_variable to step → Steps m.tree from to step
      variable_laid between to step marks goes =
          let g = slot_some VariableSign new.0 q some in
          let name = name_of (run_at p pat) in
          went with_variable from.segments to_variable between to step marks goes
          (goes_on with_variable from.segments to_variable more sound_variable (omega arith) (λ n. next_record q some)
          (few_new bindings (binding VariableSign name (front 1 (elements_from m.tree (Some q)))) rest_pattern (one then rest_record q) (rest_record q) behind_goals new.1 (few_goals g few_here))
          (λ p₁ e aim four serves h. subst
          (λ x. Covers p₁ e aim (state (bindings ++ (binding VariableSign name x ∷ [])) ((rest_pattern, rest_record q) ∷ behind_goals) (choices_in pat m.tree trail)))
          (sym one_laid)
          (covers-variable one g new.1 refl (first_record (run_at q m.tree) (element_stands q some)) h))
          (λ p₁ h. leads_variable p₁ (leads_here (slot_of VariableSign new.0) g h)))

  abbrev left_record : Elements
  left_record = elements_from m.tree from.cursor.element

  -- a name, in a list
  slot_left : (sign : Sign) → Named sign (run_at p pat) → around ≢ 0 → goals_at pat m.tree from.cursor trail ≡ (slot sign (name_of (run_at p pat)) rest_pattern, left_record) ∷ behind_goals
  slot_left sign named n = goal_here left_record (ap (λ b. element_of b m.tree from.cursor.element) (at_list n)) ∙ ap (λ x. (x, left_record) ∷ behind_goals) (slot_of sign named)

  rest_list : (to : Option ℕ) → around ≢ 0 → rest_of root m.tree to ≡ elements_from m.tree to
  rest_list to n = ap (λ b. rest_of b m.tree to) (at_list n)

  -- a name that is bound
  module _ (mark : Mark) (run : ℕ) (known : IsKnown m.tree from p mark run) where
    abbrev again : Elements
    again = front mark.length (elements_from m.tree (Some run))

    known_inside : around ≢ 0
    known_inside z = let k : is_bound (name_of (run_at p pat)) [] ≡ true = rw ((cs.0 z).nothing) at known.1.0 in cc

    known_goal : goals_at pat m.tree from.cursor trail ≡ (slot known.0.0 (name_of (run_at p pat)) rest_pattern, left_record) ∷ behind_goals
    known_goal = slot_left known.0.0 known.0.1 known_inside

    pub again_not : PassesRun m.tree from.cursor.element again None → Steps m.tree from from Stuck
    again_not none_passed = stuck_at known_goal (λ aim g. dead-repeated g known.1.0 (λ rest e. none_passed rest (e ∙ ap (λ x. x then rest) known.1.1)))

    pub again_laid : (after : Option ℕ) (to : Search H) (step : Step) → PassesRun m.tree from.cursor.element again (Some after) → GoesOn from p after to step → Steps m.tree from to step
    again_laid after to step passed goes =
        went from.trail from.segments after from to step refl goes
        (goes_on from.trail from.segments after same (sound_same after) (omega arith) (λ n. passed.0)
        (few_repeated bindings known.0.0 (name_of (run_at p pat)) rest_pattern left_record (rest_of root m.tree after) behind_goals known.1.0 (few_goals known_goal few_here))
        (λ p₁ e aim four serves h. subst
        (λ x. Covers p₁ e aim (state bindings ((rest_pattern, x) ∷ behind_goals) (choices_in pat m.tree trail)))
        (sym (rest_list after known_inside))
        (covers-repeated known_goal known.1.0 (passed.1 ∙ ap (λ x. x then elements_from m.tree after) (sym known.1.1)) h))
        (λ p₁ h. leads-repeated known.1.0
        (passed.1 ∙ ap₂ ◌then◌ (sym known.1.1) (sym (rest_list after known_inside)))
        (passed.2 ∙ ap (λ x. behind_all (width x) (run_from m.tree from.cursor.element)) (sym known.1.1))
        (leads_here (slot_of known.0.0 known.0.1) known_goal h)))

  -- a new segment
  module _ (new : IsNew m.tree from p SegmentSign) where
    abbrev segment_name : List ℕ
    segment_name = name_of (run_at p pat)

    segment_inside : around ≢ 0
    segment_inside z = (cs.0 z).whole segment_name
        (ap (λ x. pattern_of (first_of (run_from pat x))) at ∙ ap pattern_of (first_named SegmentSign new.0))

    segment_goal : goals_at pat m.tree from.cursor trail ≡ (slot SegmentSign segment_name rest_pattern, left_record) ∷ behind_goals
    segment_goal = slot_left SegmentSign new.0 segment_inside

    tight : Tight few_here.pattern from.lengths (state_of m.tree from)
    tight = record {
      long = ts.four;
      left = drop from.segments from.lengths;
      parts = sym (take-append-drop from.segments from.lengths) ∙ ap (λ x. x ++ drop from.segments from.lengths) ts.agree;
      named = few_here.named;
    }

    pub segments_left : from.segments < 4
    segments_left = omega (arith, ts.segments, few_bound few_here.few segment_goal new.1 tight)

    pub segments_below : from.segments < length from.lengths
    segments_below = omega (arith, segments_left, ts.four)

    -- the length that it is to take
    module _ (len : ℕ) (is : len ≡ get_or from.lengths from.segments 0) where
      wanted : (ks : List ℕ) → from.lengths ≡ ks → len ≡ get_or ks (length (lengths bindings)) 0
      wanted ks e = is ∙ ap₂ (λ x i. get_or x i 0) e ts.segments

      pub segment_not : width left_record < len → Steps m.tree from from Stuck
      segment_not short = stuck m.tree from ts (λ p₁ e aim four serves h. dead_segment p₁ e aim four serves h)
        where
          dead_segment : (p₁ : Pattern) (e : Elements) (aim : Aim) → segments (names p₁) ≤ 4 → Serves aim from → Covers p₁ e aim (state_of m.tree from) → Dead aim (state_of m.tree from)
          dead_segment p₁ e (along ks) four serves h = dead_too_few 0 four segment_goal new.1 (omega (arith, short, wanted ks serves)) h.laid
          dead_segment p₁ e (past position) four serves h = absurd (omega (arith, short, is, serves from.segments (omega arith)))

      module _ (after : Option ℕ) (passed : Passes m.tree from.cursor.element len (Some after)) (place : ℕ) (placed : place ≡ unwrap_or from.cursor.element 0) where
        abbrev with_segment : Stacked Entry
        with_segment = record { entries = (mark_at from SegmentLaidAs p len after, place) ∷ trail; room = from.trail.room }

        abbrev run_laid : Elements
        run_laid = front len (elements_from m.tree (Some place))

        laid_is : run_laid ≡ front len left_record
        laid_is = go from.cursor.element placed passed.1
          where
            go : (x : Option ℕ) → place ≡ unwrap_or x 0 → len ≤ width (elements_from m.tree x) → front len (elements_from m.tree (Some place)) ≡ front len (elements_from m.tree x)
            go None e l = let z : len ≡ 0 = omega (arith, l) in rw z refl
            go (Some q) e l = rw e refl

        passed_on : elements_from m.tree after ≡ back len left_record
        passed_on = passed_back m.tree from.cursor.element after len passed

        run_lies : 0 < len → Stands (run_at place m.tree) × Passes m.tree (Some place) len (Some after)
        run_lies pos = go from.cursor.element placed element_lies passed
          where
            go : (x : Option ℕ) → place ≡ unwrap_or x 0 → Lies m.tree x → Passes m.tree x len (Some after) → Stands (run_at place m.tree) × Passes m.tree (Some place) len (Some after)
            go None e l h = absurd (omega (arith, pos, h.1))
            go (Some q) e l h = rw e (l, h)

        lengths_new : lengths (bound_in pat m.tree with_segment.entries) ≡ lengths bindings ++ (len ∷ [])
        lengths_new = lengths-append bindings (binding SegmentSign segment_name run_laid ∷ []) ∙ ap (λ x. lengths bindings ++ (x ∷ [])) (ap width laid_is ∙ width-front len left_record passed.1)

        pattern_is : rest_pattern ≡ pattern_of (erase (behind (run_at p pat)))
        pattern_is = ap (λ b. pattern_of (rest_of b pat next)) (at_list segment_inside) ∙ ap (λ r. pattern_of (erase r)) (next_run text p next stands refl)

        goals_are : behind_goals ≡ goals_around pat m.tree around trail
        goals_are = ap (λ b. others b (goals_around pat m.tree around trail)) (at_list segment_inside)

        few_segment : (x y : Elements) → Few (bindings ++ (binding SegmentSign segment_name x ∷ [])) ((rest_pattern, y) ∷ behind_goals)
        few_segment x y = few_new bindings (binding SegmentSign segment_name x) rest_pattern left_record y behind_goals new.1 (few_goals segment_goal few_here)

        sound_segment : TrailSound m.tree (gone with_segment (from.segments + 1) after)
        sound_segment =
            let a = cs.1 segment_inside in
            let room : length trail + (count (elements_from pat (Some p)) + left_around pat m.tree around trail) ≤ 256 = rw at at a.room in
            record {
              sound = (
                record {
                  around = list_here;
                  signed = λ n. signed_next n;
                  laid = record {
                    named = new.0;
                    inside = segment_inside;
                    lies = passed.0;
                    run = run_lies;
                    room = omega (arith, room, count_less text p next stands refl, ap (λ r. count (erase r)) (next_run text p next stands refl));
                    few = few_goals (ap₂ (λ x gs. (x, none) ∷ gs) pattern_is goals_are) (few_segment none none);
                  };
                },
                ts.sound,
              );
              room = ts.room;
              four = ts.four;
              segments = omega (arith, ts.segments, ap length lengths_new, length-append (lengths bindings) (len ∷ []));
              agree = take_more from.lengths from.segments 0 segments_below ∙ (ap₂ (λ x y. x ++ (y ∷ [])) ts.agree (sym is) ∙ sym lengths_new);
            }

        covers_front : (p₁ : Pattern) (e : Elements) (aim : Aim) → segments (names p₁) ≤ 4 → Serves aim from → Covers p₁ e aim (state_of m.tree from) →
            Covers p₁ e aim (state (bindings ++ (binding SegmentSign segment_name (front len left_record) ∷ [])) ((rest_pattern, back len left_record) ∷ behind_goals) (choice bindings segment_name (front len left_record) rest_pattern (back len left_record) behind_goals ∷ choices_in pat m.tree trail))
        covers_front p₁ e (along ks) four serves h =
            covers_next 0 four segment_goal new.1 (sym (front_then_back len left_record)) (width-front len left_record passed.1 ∙ wanted ks serves) h
        covers_front p₁ e (past position) four serves h =
            let z : len ≡ 0 = is ∙ serves from.segments (omega arith) in
            subst
            (λ n. Covers p₁ e (past position) (state (bindings ++ (binding SegmentSign segment_name (front n left_record) ∷ [])) ((rest_pattern, back n left_record) ∷ behind_goals) (choice bindings segment_name (front n left_record) rest_pattern (back n left_record) behind_goals ∷ choices_in pat m.tree trail)))
            (sym z)
            (covers-segment segment_goal new.1 h)

        first_run_is : 0 < len → run_from m.tree from.cursor.element ≡ run_at place m.tree
        first_run_is some = go from.cursor.element placed passed.1
          where
            go : (x : Option ℕ) → place ≡ unwrap_or x 0 → len ≤ width (elements_from m.tree x) → run_from m.tree x ≡ run_at place m.tree
            go None e l = absurd (omega (arith, some, l))
            go (Some q) e l = rw e refl

        leads_segment : (p₁ : Pattern) →
            Leads pat m.tree p₁ trail ((slot SegmentSign segment_name rest_pattern, left_record) ∷ behind_goals) ((slot SegmentSign segment_name rest_pattern, run_from m.tree from.cursor.element) ∷ behind_placed) →
            Leads pat m.tree p₁ with_segment.entries ((rest_pattern, rest_of root m.tree after) ∷ behind_goals) ((rest_pattern, run_from m.tree after) ∷ behind_placed)
        leads_segment p₁ h =
            let wide : width run_laid ≡ len = ap width laid_is ∙ width-front len left_record passed.1 in
            leads-new SegmentSign segment_name run_laid (mark_at from SegmentLaidAs p len after, place) refl
            (λ other t. (bytes_eq-Decides other segment_name).0 t)
            (λ some. first_run_is some)
            new.1
            (sym (front_then_back len left_record) ∙ ap₂ ◌then◌ (sym laid_is) (sym passed_on ∙ sym (rest_list after segment_inside)))
            tt
            (passed.2 ∙ sym (ap (λ n. behind_all n (run_from m.tree from.cursor.element)) wide))
            h

        states_same : (x y z : Elements) (q : Pattern) (gs : List Goal) → front len left_record ≡ x → back len left_record ≡ y → back len left_record ≡ z → rest_pattern ≡ q → behind_goals ≡ gs →
            state (bindings ++ (binding SegmentSign segment_name (front len left_record) ∷ [])) ((rest_pattern, back len left_record) ∷ behind_goals) (choice bindings segment_name (front len left_record) rest_pattern (back len left_record) behind_goals ∷ choices_in pat m.tree trail)
            ≡ state (bindings ++ (binding SegmentSign segment_name x ∷ [])) ((rest_pattern, y) ∷ behind_goals) (choice bindings segment_name x q z gs ∷ choices_in pat m.tree trail)
        states_same x y z q gs a b c d f = λ i.
            state (bindings ++ (binding SegmentSign segment_name (a i) ∷ [])) ((rest_pattern, b i) ∷ behind_goals) (choice bindings segment_name (a i) (d i) (c i) (f i) ∷ choices_in pat m.tree trail)

        pub segment_laid : (between to : Search H) (step : Step) → between ≡ record { text = from.text; «record» = from.«record»; trail = with_segment; cursor = from.cursor; lengths = from.lengths; segments = from.segments + 1 } → GoesOn between p after to step → Steps m.tree from to step
        segment_laid between to step marks goes =
            went with_segment (from.segments + 1) after between to step marks goes
            (goes_on with_segment (from.segments + 1) after more sound_segment (omega arith) (λ n. passed.0)
            (few_segment run_laid (rest_of root m.tree after))
            (λ p₁ e aim four serves h. subst (Covers p₁ e aim)
            (states_same run_laid (rest_of root m.tree after) (elements_from m.tree after) (pattern_of (erase (behind (run_at p pat)))) (goals_around pat m.tree around trail) (sym laid_is) (sym passed_on ∙ sym (rest_list after segment_inside)) (sym passed_on) pattern_is goals_are)
            (covers_front p₁ e aim four serves h))
            (λ p₁ h. leads_segment p₁ (leads_here (slot_of SegmentSign new.0) segment_goal h)))

  -- a list
  module _ (l : IsList (run_at p pat)) where
    abbrev inside_pattern : Pattern
    inside_pattern = pattern_of (erase (inside (run_at p pat)))

    group_of : pattern_of (first_of (run_at p pat) then rest_of root pat next) ≡ group inside_pattern rest_pattern
    group_of = ap (λ x. pattern_of (x then rest_of root pat next)) (first_of_list (run_at p pat) l)

    pub enter_none : from.cursor.element ≡ None → Steps m.tree from from Stuck
    enter_none ended = stuck_at (goal_none ended ∙ ap (λ x. (x, none) ∷ behind_goals) group_of) (λ aim g. dead-group_none g)

    module _ (q : ℕ) (some : from.cursor.element ≡ Some q) where
      group_goal : (x : Elements) → first_of (run_at q m.tree) ≡ x → goals_at pat m.tree from.cursor trail ≡ (group inside_pattern rest_pattern, x then rest_record q) ∷ behind_goals
      group_goal x e = goal_some q some ∙ ap₂ (λ x y. (x, y then rest_record q) ∷ behind_goals) group_of e

      pub enter_atom : IsAtom (run_at q m.tree) → Steps m.tree from from Stuck
      enter_atom a = stuck_at (group_goal _ (first_of_atom (run_at q m.tree) a)) (λ aim g. dead-group_atom g)

      module _ (held : IsList (run_at q m.tree)) where
        abbrev entry : Entry
        entry = (mark_at from ListLaid p 0 None, q)

        abbrev with_list : Stacked Entry
        with_list = record { entries = entry ∷ trail; room = from.trail.room }

        abbrev first_pattern : Option ℕ
        first_pattern = place_of (inside (run_at p pat))

        abbrev first_record_place : Option ℕ
        first_record_place = place_of (inside (run_at q m.tree))

        abbrev entered : Search H
        entered = record {
          text = from.text;
          «record» = from.«record»;
          trail = with_list;
          cursor = record { pattern = first_pattern; element = first_record_place; around = suc (length trail) };
          lengths = from.lengths;
          segments = from.segments;
        }

        top : eqb (suc (length trail)) (suc (length trail)) ≡ true
        top = eq-eqb (suc (length trail)) (suc (length trail)) refl

        not_root : eqb (suc (length trail)) 0 ≡ false
        not_root = ne_eqb (suc (length trail)) 0 (λ e. absurd (omega arith))

        behind_same : (b : Bool) → root ≡ b → goals_behind pat m.tree entry (goals_around pat m.tree around trail) ≡ (pattern_of (rest_of b pat next), rest_of b m.tree (place_of (behind (run_at q m.tree)))) ∷ others b (goals_around pat m.tree around trail)
        behind_same true e = rw (e, goals_behind) refl
        behind_same false e = rw (e, goals_behind) (ap₂ (λ x y. (pattern_of (erase x), erase y) ∷ goals_around pat m.tree around trail) (sym (next_run text p next stands refl)) (sym (next_run m q (place_of (behind (run_at q m.tree))) (element_stands q some) refl)))

        goals_entered : goals_around pat m.tree (suc (length trail)) (entry ∷ trail) ≡ (rest_pattern, rest_record q) ∷ behind_goals
        goals_entered = rw (top, goals_around) (behind_same root refl)

        placed_entry : (b : Bool) → root ≡ b → placed_behind pat m.tree entry (placed_around pat m.tree around trail) ≡ (pattern_of (rest_of b pat next), behind (run_at q m.tree)) ∷ others b (placed_around pat m.tree around trail)
        placed_entry true e = rw (e, placed_behind) refl
        placed_entry false e = rw (e, placed_behind) (ap (λ x. (pattern_of (erase x), behind (run_at q m.tree)) ∷ placed_around pat m.tree around trail) (sym (next_run text p next stands refl)))

        placed_list : placed_around pat m.tree (suc (length trail)) (entry ∷ trail) ≡ (rest_pattern, behind (run_at q m.tree)) ∷ behind_placed
        placed_list = rw (top, placed_around) (placed_entry root refl)

        inside_pattern_is : inside_pattern ≡ pattern_of (elements_from pat first_pattern)
        inside_pattern_is = ap (λ r. pattern_of (erase r)) (sym (first_run text p first_pattern l refl))

        inside_record_is : erase (inside (run_at q m.tree)) ≡ elements_from m.tree first_record_place
        inside_record_is = ap erase (sym (first_run m q first_record_place held refl))

        state_entered : (inside_pattern, erase (inside (run_at q m.tree))) ∷ ((rest_pattern, rest_record q) ∷ behind_goals) ≡ goals_at pat m.tree entered.cursor (entry ∷ trail)
        state_entered = rw (not_root, goals_at) (λ i. (inside_pattern_is i, inside_record_is i) ∷ sym goals_entered i)

        placed_entered : (inside_pattern, inside (run_from m.tree from.cursor.element)) ∷ ((rest_pattern, behind (run_from m.tree from.cursor.element)) ∷ behind_placed) ≡ placed_at pat m.tree entered.cursor (entry ∷ trail)
        placed_entered =
            ap (λ r. (inside_pattern, inside r) ∷ ((rest_pattern, behind r) ∷ behind_placed)) (ap (run_from m.tree) some)
            ∙ rw (not_root, placed_at)
            (λ i. (inside_pattern_is i, sym (first_run m q first_record_place held refl) i) ∷ sym placed_list i)

        count_inside : count (first_of (run_at p pat)) ≡ suc (count (elements_from pat first_pattern))
        count_inside = count_first text p first_pattern l refl

        count_list : count (elements_from pat (Some p)) ≡ suc (count (elements_from pat first_pattern)) + count (erase (behind (run_at p pat)))
        count_list = omega (arith, count_inside, count_next text p next stands refl, ap (λ r. count (erase r)) (next_run text p next stands refl))

        room_at_root : around ≡ 0 → suc (length trail) + (count (elements_from pat first_pattern) + left_behind pat m.tree entry (left_around pat m.tree around trail)) ≤ 256
        room_at_root z =
            let a = cs.0 z in
            let room : count (first_of (run_from pat (Some p))) ≤ 256 = rw at at a.room in
            let left : left_behind pat m.tree entry (left_around pat m.tree around trail) ≡ 0 = rw (at_root z, left_behind) refl in
            omega (arith, room, left, count_inside, ap length a.nothing)

        room_in_list : around ≢ 0 → suc (length trail) + (count (elements_from pat first_pattern) + left_behind pat m.tree entry (left_around pat m.tree around trail)) ≤ 256
        room_in_list n =
            let a = cs.1 n in
            let room : length trail + (count (elements_from pat (Some p)) + left_around pat m.tree around trail) ≤ 256 = rw at at a.room in
            let left : left_behind pat m.tree entry (left_around pat m.tree around trail) ≡ count (erase (behind (run_at p pat))) + left_around pat m.tree around trail = rw (at_list n, left_behind) refl in
            omega (arith, room, left, count_list)

        left_entered : left_around pat m.tree (suc (length trail)) (entry ∷ trail) ≡ left_behind pat m.tree entry (left_around pat m.tree around trail)
        left_entered = rw (top, left_around) refl

        list_entered : AtList pat m.tree entered.cursor (entry ∷ trail)
        list_entered = record {
          around = rw (top, IsListAt) refl;
          pattern = first_lies text p first_pattern l refl;
          element = first_lies m q first_record_place held refl;
          signed = (subst Signed (first_elements text p first_pattern l refl) signed_first).0;
          room = rw left_entered (⊎_elim room_at_root room_in_list (cases_eq around 0));
          few = few_goals (state_entered ∙ rw (not_root, goals_at) refl) (few_inside bindings inside_pattern rest_pattern (first_of (run_at q m.tree) then rest_record q) (erase (inside (run_at q m.tree))) (rest_record q) behind_goals (few_goals (group_goal (first_of (run_at q m.tree)) refl) few_here));
        }

        steps_entered : steps_left entered ≡ 2 * count (elements_from pat first_pattern) + steps_behind pat entry (steps_around pat around trail)
        steps_entered = rw (not_root, steps_left) (ap (λ n. 2 * count (elements_from pat first_pattern) + n) (rw (top, steps_around) refl))

        fewer_at_root : around ≡ 0 → steps_left entered < steps_left from
        fewer_at_root z =
            let old : steps_left from ≡ 2 * count (first_of (run_at p pat)) = rw (at_root z, steps_left) (ap (λ x. 2 * count (first_of (run_from pat x))) at) in
            let new : steps_behind pat entry (steps_around pat around trail) ≡ 1 = rw (at_root z, steps_behind) refl in
            omega (arith, old, new, steps_entered, count_inside)

        fewer_in_list : around ≢ 0 → steps_left entered < steps_left from
        fewer_in_list n =
            let old : steps_left from ≡ 2 * count (elements_from pat (Some p)) + steps_around pat around trail =
            rw (at_list n, steps_left) (ap (λ x. 2 * count (elements_from pat x) + steps_around pat around trail) at) in
            let new : steps_behind pat entry (steps_around pat around trail) ≡ 1 + (2 * count (erase (behind (run_at p pat))) + steps_around pat around trail) = rw (at_list n, steps_behind) refl in
            omega (arith, old, new, steps_entered, count_list)

        pub enters : Steps m.tree from entered Laid
        enters = record {
          text = refl;
          holder = refl;
          lengths = refl;
          sound = record {
            sound = (record { around = list_here; signed = λ n. signed_next n; laid = (l, held) }, ts.sound);
            room = ts.room;
            four = ts.four;
            segments = ts.segments;
            agree = ts.agree;
          };
          cursor = λ e. ((λ z. absurd (omega (arith, z))), (λ n. list_entered));
          fewer = λ e. ⊎_elim fewer_at_root fewer_in_list (cases_eq around 0);
          more = omega arith;
          comes = λ p₁ e aim four serves h. subst
              (λ gs. Covers p₁ e aim (state bindings gs (choices_in pat m.tree trail)))
              state_entered
              (covers-group (group_goal _ (first_of_list (run_at q m.tree) held)) h);
          leads = λ p₁ h. leads_like state_entered placed_entered (leads_more entry refl (leads-group (leads_here group_of (group_goal _ (first_of_list (run_at q m.tree) held)) h)));
        }
