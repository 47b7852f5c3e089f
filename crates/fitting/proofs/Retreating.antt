-- Laying a segment again with one element more. Assumes nothing.
use Rattle.std.proofs.Common.{◌≡◌, ◌≢◌, ℕ, zero, suc, ◌+◌, ◌-◌, ◌<◌, ◌≤◌, true, List, [], ◌∷◌, ◌++◌, length, get_or, set, replicate, Option, Some, length-append, refl, sym, ap, ap₂, ◌∙◌, subst, arith, add-one}
use Rattle.std.proofs.lemmas.Bool.{ne_eqb}
use borrow.Rule.Slice.PartMut.{mid_of, put_mid}
use Rattle.sexp.specs.Elements.{Elements, ◌then◌, count}
use Rattle.holder.specs.Placed.{Placed, erase, Meaning, run_at, front as place_of, behind, Stands}
use Rattle.holder.specs.Walks.{first_of}
use Rattle.holder.proofs.Walk.{atom_stands, limited}
use Rattle.rules.specs.declared.signs.Sign.{Sign}
use Rattle.rules.specs.declared.signs.Sign.TheVariants.{Segment as SegmentSign}
use Rattle.rules.specs.Patterns.{Pattern, Slot, pattern_of}
use Rattle.rules.specs.Bindings.{Binding, binding, bound, width, lengths}
use Rattle.rules.specs.Goals.{Goal, unbound}
use Rattle.rules.proofs.Enumerating.{lengths-append}
use Rattle.rules.proofs.Runs.{width_count}
use Rattle.search.specs.States.{choice, state}
use Rattle.search.specs.Least.{Position}
use Rattle.search.specs.Covering.{past, Covers, CoversLater}
use Rattle.search.proofs.Covering.{again_one}
use Rattle.texts.specs.Label.{text_tree}
use Rattle.texts.specs.Meant.{meant}
use Rattle.books.proofs.LawfulRuns.{first_record}
use Rattle.fitting.specs.declared.marks.Laid.TheVariants.{Segment}
use Rattle.fitting.specs.declared.marks.Mark.{Mark}
use Rattle.fitting.specs.declared.searching.Cursor.{Cursor}
use Rattle.fitting.specs.declared.searching.Search.{Search}
use Rattle.fitting.specs.Entries.{Entry}
use Rattle.fitting.specs.Cursors.{run_from, elements_from, front, Passes}
use Rattle.fitting.specs.Trails.{name_at, laid_at, pattern_behind, bound_in, goals_around, goals_at, choices_in, state_at}
use Rattle.fitting.specs.Sound.{Few, IsListAt, SegmentLaid, IsLaid, EntrySound, AtList}
use Rattle.fitting.specs.Searches.{TrailSound}
use Rattle.fitting.specs.Moves.{Retreats}
use Rattle.fitting.proofs.Cursors.{passed_back, next_run, next_lies, next_elements, width-front, front_more}
use Rattle.fitting.proofs.Passing.{passes_more}
use Rattle.fitting.proofs.Names.{few_like}
use Rattle.fitting.proofs.Entries.{list_below, list_push, left_push, goals_push}
use Rattle.fitting.proofs.Numbers.{anew, restarted, anew_long, anew_taken, anew_zero, number_anew}

-- a run with one element more: it begins with that one where there was none
pub record Longer (t : Placed) (n place next first : ℕ) (after : Option ℕ) : Type 0 where
  pub stands : Stands (run_at first t)
  pub passes : Passes t (Some first) (n + 1) (Some after)
  pub grown : front (n + 1) (elements_from t (Some first)) ≡ front n (elements_from t (Some place)) then first_of (run_at next t)

pub longer : (m : Meaning) (n place next first : ℕ) (after : Option ℕ) → Stands (run_at next m.tree) → after ≡ place_of (behind (run_at next m.tree)) → (0 < n → Stands (run_at place m.tree) × Passes m.tree (Some place) n (Some (Some next)))
    → (n ≡ 0 → first ≡ next) → (0 < n → first ≡ place) → Longer m.tree n place next first after
longer m zero place next first after s e run is_next is_place =
    let at : first ≡ next = is_next refl in
    let none_yet : Passes m.tree (Some first) 0 (Some (Some next)) = rw at (s, omega arith, refl) in
    record {
      stands = rw at s;
      passes = passes_more m (Some first) (Some next) after next 0 none_yet refl e;
      grown = rw at (front_more 0 (elements_from m.tree (Some next)) (first_of (run_at next m.tree)) (elements_from m.tree after) (first_record (run_at next m.tree) s) (next_elements m next after s e));
    }
longer m (suc n) place next first after s e run is_next is_place =
    let at : first ≡ place = is_place (omega arith) in
    let r = run (omega arith) in
    record {
      stands = rw at r.0;
      passes = rw at (passes_more m (Some place) (Some next) after next (suc n) r.1 refl e);
      grown = rw (at, add-one) (front_more (suc n) (elements_from m.tree (Some place)) (first_of (run_at next m.tree)) (elements_from m.tree after) (first_record (run_at next m.tree) s) (sym (passed_back m.tree (Some place) (Some next) (suc n) r.1) ∙ next_elements m next after s e));
    }

-- what is bound has the same names whatever a segment stands for
bound_like : (b : List Binding) (sign : Sign) (name : List ℕ) (x y : Elements) → bound (b ++ (binding sign name x ∷ [])) ≡ bound (b ++ (binding sign name y ∷ []))
bound_like [] sign name x y = refl
bound_like (c ∷ b) sign name x y = ap (c.slot ∷◌) (bound_like b sign name x y)

unbound_like : (b : List Binding) (sign : Sign) (name : List ℕ) (x y : Elements) (ss : List Slot) → unbound (b ++ (binding sign name x ∷ [])) ss ≡ unbound (b ++ (binding sign name y ∷ [])) ss
unbound_like [] sign name x y ss = refl
unbound_like (c ∷ b) sign name x y ss = rw (unbound_like b sign name x y ss) refl

pub few_segment : (b : List Binding) (sign : Sign) (name : List ℕ) (x y : Elements) (q : Pattern) (es fs : Elements) (gs : List Goal) → Few (b ++ (binding sign name x ∷ [])) ((q, es) ∷ gs) → Few (b ++ (binding sign name y ∷ [])) ((q, fs) ∷ gs)
few_segment b sign name x y q es fs gs f = few_like (ap₂ ◌++◌ (bound_like b sign name y x) (unbound_like b sign name y x _)) f

-- a segment's entry with one element more
abbrev pub with_one : Mark → Option ℕ → ℕ → Entry
with_one m after first = (record { laid = Segment; pattern = m.pattern; around = m.around; length = m.length + 1; behind = after }, first)

module _ (pat rec : Placed) where
  -- an entry of a segment, and its length
  pub segment_laid : (m : Mark) (place : ℕ) (t : List Entry) → m.laid ≡ Segment → EntrySound pat rec (m, place) t → SegmentLaid pat rec m place t
  segment_laid m place t e s = subst (λ l. IsLaid pat rec l m place t) e s.laid

  pub laid_width : (m : Mark) (place : ℕ) (t : List Entry) → SegmentLaid pat rec m place t → width (laid_at pat rec (m, place)) ≡ m.length
  laid_width m place t s = go m.length s.run
    where
      go : (n : ℕ) → (0 < n → Stands (run_at place rec) × Passes rec (Some place) n (Some m.behind)) → width (front n (elements_from rec (Some place))) ≡ n
      go zero r = refl
      go (suc n) r = width-front (suc n) (elements_from rec (Some place)) ((r (omega arith)).1.1)

  pub lengths_segment : (m : Mark) (place : ℕ) (t : List Entry) → m.laid ≡ Segment → EntrySound pat rec (m, place) t → lengths (bound_in pat rec ((m, place) ∷ t)) ≡ lengths (bound_in pat rec t) ++ (m.length ∷ [])
  lengths_segment m place t e s = rw e (lengths-append (bound_in pat rec t) (binding SegmentSign (name_at pat rec (m, place)) (laid_at pat rec (m, place)) ∷ []) ∙ ap (λ n. lengths (bound_in pat rec t) ++ (n ∷ [])) (laid_width m place t (segment_laid m place t e s)))

  -- the goals in a list
  pub goals_inside : (c : Cursor) (t : List Entry) → c.around ≢ 0 → goals_at pat rec c t ≡ (pattern_of (elements_from pat c.pattern), elements_from rec c.element) ∷ goals_around pat rec c.around t
  goals_inside c t n = rw (ne_eqb c.around 0 n, goals_at) refl

  -- the entry with one element more stands for the run with one more
  pub with_one_state : (m : Mark) (place first : ℕ) (pattern after : Option ℕ) (one : Elements) (t : List Entry) → run_from pat pattern ≡ behind (run_at m.pattern pat)
      → front (m.length + 1) (elements_from rec (Some first)) ≡ front m.length (elements_from rec (Some place)) then one → m.around ≢ 0 → IsListAt m.around t
      → state_at pat rec (record { pattern = pattern; element = after; around = m.around }) (with_one m after first ∷ t)
      ≡ state
      (bound_in pat rec t ++ (binding SegmentSign (name_at pat rec (m, place)) (laid_at pat rec (m, place) then one) ∷ []))
      ((pattern_behind pat rec (m, place), elements_from rec after) ∷ goals_around pat rec m.around t)
      (choice (bound_in pat rec t) (name_at pat rec (m, place)) (laid_at pat rec (m, place) then one) (pattern_behind pat rec (m, place)) (elements_from rec after) (goals_around pat rec m.around t) ∷ choices_in pat rec t)
  with_one_state m place first pattern after one t run grown inside lists = rw (goals_inside (record { pattern = pattern; element = after; around = m.around }) (with_one m after first ∷ t) inside, goals_push pat rec m.around (with_one m after first) t (list_below m.around t lists), run, grown) refl

-- a segment's entry is not longer than a record
pub segment_short : (pat : Placed) (m : Meaning) (mark : Mark) (place : ℕ) (t : List Entry) → SegmentLaid pat m.tree mark place t → mark.length ≤ 4096
segment_short pat m mark place t s = go mark.length s.run
  where
    go : (n : ℕ) → (0 < n → Stands (run_at place m.tree) × Passes m.tree (Some place) n (Some mark.behind)) → n ≤ 4096
    go zero r = omega arith
    go (suc n) r = let t = r (omega arith) in omega (arith, t.1.1, width_count (elements_from m.tree (Some place)), (limited m place t.0).few)

-- the search that has laid it so
abbrev pub regrown : {H : Type 0} → Search H → Mark → ℕ → Option ℕ → Option ℕ → Search H
regrown s m first pattern after = record {
  text = s.text;
  «record» = s.«record»;
  trail = record { entries = with_one m after first ∷ s.trail.entries; room = s.trail.room };
  cursor = record { pattern = pattern; element = after; around = m.around };
  lengths = anew s.segments (m.length + 1) s.lengths;
  segments = s.segments + 1;
}

-- how it is laid: the entry from which it grows, and where it begins and ends
pub record Regrows {H : Type 0} (m : Meaning) (s : Search H) (mark : Mark) (place next first : ℕ) (pattern after : Option ℕ) : Type 0 where
  pub sound : TrailSound m.tree s
  pub entry : EntrySound (text_tree s.text.text.now) m.tree (mark, place) s.trail.entries
  pub segment : mark.laid ≡ Segment
  pub left : mark.behind ≡ Some next
  pub few : s.segments < 4
  pub digit : get_or s.lengths s.segments 0 ≡ mark.length
  pub from_next : mark.length ≡ 0 → first ≡ next
  pub from_place : 0 < mark.length → first ≡ place
  pub is_after : after ≡ place_of (behind (run_at next m.tree))
  pub is_pattern : pattern ≡ place_of (behind (run_at mark.pattern (text_tree s.text.text.now)))

module _ {H : Type 0} {m : Meaning} {s : Search H} {mark : Mark} {place next first : ℕ} {pattern after : Option ℕ} (r : Regrows m s mark place next first pattern after) where
  laid : SegmentLaid (text_tree s.text.text.now) m.tree mark place s.trail.entries
  laid = segment_laid (text_tree s.text.text.now) m.tree mark place s.trail.entries r.segment r.entry

  stands_next : Stands (run_at next m.tree)
  stands_next = rw r.left at laid.lies

  run : Longer m.tree mark.length place next first after
  run = longer m mark.length place next first after stands_next r.is_after (subst (λ b. 0 < mark.length → Stands (run_at place m.tree) × Passes m.tree (Some place) mark.length (Some b)) r.left laid.run) r.from_next r.from_place

  behind_name : run_from (text_tree s.text.text.now) pattern ≡ behind (run_at mark.pattern (text_tree s.text.text.now))
  behind_name = next_run (meant s.text.text.now s.text.ok) mark.pattern pattern (atom_stands _ laid.named.atom) r.is_pattern

  new_laid : SegmentLaid (text_tree s.text.text.now) m.tree (with_one mark after first).0 first s.trail.entries
  new_laid = record {
    named = laid.named;
    inside = laid.inside;
    lies = next_lies m next after stands_next r.is_after;
    run = λ _. (run.stands, run.passes);
    room = laid.room;
    few = laid.few;
  }

  new_entry : EntrySound (text_tree s.text.text.now) m.tree (with_one mark after first) s.trail.entries
  new_entry = record { around = r.entry.around; signed = r.entry.signed; laid = new_laid }

  new_lengths : lengths (bound_in (text_tree s.text.text.now) m.tree (with_one mark after first ∷ s.trail.entries)) ≡ lengths (bound_in (text_tree s.text.text.now) m.tree s.trail.entries) ++ ((mark.length + 1) ∷ [])
  new_lengths = lengths_segment (text_tree s.text.text.now) m.tree (with_one mark after first).0 first s.trail.entries refl new_entry

  new_sound : TrailSound m.tree (regrown s mark first pattern after)
  new_sound = record {
    sound = (new_entry, r.sound.sound);
    room = r.sound.room;
    four = anew_long s.segments (mark.length + 1) s.lengths r.sound.four r.few;
    segments = omega (arith, r.sound.segments, ap length new_lengths, length-append (lengths (bound_in (text_tree s.text.text.now) m.tree s.trail.entries)) ((mark.length + 1) ∷ []));
    agree = anew_taken s.segments (mark.length + 1) s.lengths r.sound.four r.few ∙ (ap (λ x. x ++ ((mark.length + 1) ∷ [])) r.sound.agree ∙ sym new_lengths);
  }

  at_list : AtList (text_tree s.text.text.now) m.tree (regrown s mark first pattern after).cursor (regrown s mark first pattern after).trail.entries
  at_list = record {
    around = list_push mark.around (with_one mark after first) s.trail.entries r.entry.around;
    pattern = next_lies (meant s.text.text.now s.text.ok) mark.pattern pattern (atom_stands _ laid.named.atom) r.is_pattern;
    element = next_lies m next after stands_next r.is_after;
    signed = rw behind_name (r.entry.signed laid.inside);
    room = omega (arith, laid.room, ap (λ x. count (erase x)) behind_name, left_push (text_tree s.text.text.now) m.tree mark.around (with_one mark after first) s.trail.entries (list_below mark.around s.trail.entries r.entry.around));
    few = rw (behind_name, goals_push (text_tree s.text.text.now) m.tree mark.around (with_one mark after first) s.trail.entries (list_below mark.around s.trail.entries r.entry.around)) (few_segment _ _ _ _ _ _ _ _ _ laid.few);
  }

  meets : (p : Pattern) (e : Elements) (position : Position) → CoversLater p e position (choices_in (text_tree s.text.text.now) m.tree ((mark, place) ∷ s.trail.entries)) → Covers p e (past position) (state_at (text_tree s.text.text.now) m.tree (regrown s mark first pattern after).cursor (regrown s mark first pattern after).trail.entries)
  meets p e position h = rw (with_one_state (text_tree s.text.text.now) m.tree mark place first pattern after (first_of (run_at next m.tree)) s.trail.entries behind_name run.grown laid.inside r.entry.around)
      (again_one {c = choice (bound_in (text_tree s.text.text.now) m.tree s.trail.entries) (name_at (text_tree s.text.text.now) m.tree (mark, place)) (laid_at (text_tree s.text.text.now) m.tree (mark, place)) (pattern_behind (text_tree s.text.text.now) m.tree (mark, place)) (elements_from m.tree mark.behind) (goals_around (text_tree s.text.text.now) m.tree mark.around s.trail.entries)}
      (first_of (run_at next m.tree)) (rw r.left (next_elements m next after stands_next r.is_after)) (first_record (run_at next m.tree) stands_next) (rw r.segment at h))

  pub regrown_retreats : Retreats m.tree s ((mark, place) ∷ s.trail.entries) (regrown s mark first pattern after) true
  regrown_retreats = record {
    text = refl;
    holder = refl;
    room = r.sound.room;
    sound = λ _. new_sound;
    cursor = λ _. ((λ e. absurd (laid.inside e)), (λ _. at_list));
    greater = λ _. number_anew s.segments mark.length s.lengths r.sound.four r.few r.digit (omega (arith, segment_short (text_tree s.text.text.now) m mark place s.trail.entries laid));
    meets = λ p e position h. (meets p e position h, anew_zero s.segments (mark.length + 1) s.lengths r.sound.four r.few);
  }

-- the search with the mark on its trail
abbrev pub remarked : {H : Type 0} → Search H → Mark → ℕ → Option ℕ → Search H
remarked s m first after = record s {
  trail = record { entries = with_one m after first ∷ s.trail.entries; room = s.trail.room };
  cursor = record { pattern = s.cursor.pattern; element = s.cursor.element; around = m.around };
}

-- and what is made of it
abbrev pub restart : {H : Type 0} → Search H → Mark → Option ℕ → Option ℕ → List ℕ → Search H
restart t m pattern after zs = record t {
  cursor = record { pattern = pattern; element = after; around = t.cursor.around };
  lengths = set (put_mid t.segments (4 - t.segments) t.lengths zs) t.segments (m.length + 1);
  segments = t.segments + 1;
}

pub regrown_is : {H : Type 0} (s t : Search H) (m : Mark) (first : ℕ) (pattern after : Option ℕ) (zs : List ℕ) → t ≡ remarked s m first after → length s.lengths ≡ 4 → s.segments < 4 → zs ≡ replicate (length (mid_of t.segments (4 - t.segments) t.lengths)) 0
    → regrown s m first pattern after ≡ restart t m pattern after zs
regrown_is {H} s t m first pattern after zs e l h z = subst (λ (t : Search H). zs ≡ replicate (length (mid_of t.segments (4 - t.segments) t.lengths)) 0 → regrown s m first pattern after ≡ restart t m pattern after zs) (sym e)
    (λ z. ap (λ ls. record (regrown s m first pattern after) { lengths = ls }) (sym (restarted s.segments (m.length + 1) s.lengths zs l h z))) z
