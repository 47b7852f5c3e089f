-- A search from its beginning: what it is to meet there, and what it finds. Assumes nothing.
use Rattle.std.proofs.Common.{◌≡◌, ℕ, ◌-◌, ◌==◌, Decides, Bool, true, false, List, [], ◌∷◌, length, get_or, Option, Some, None, if◌then◌else◌, ⊎_elim, refl, sym, ap, ◌∙◌, subst, subst₂}
use Rattle.std.specs.List.{list_all}
use Rattle.std.proofs.lemmas.Bool.{false≢true}
use borrow.Rule.Slice.PartMut.{mid_of}
use Rattle.sexp.specs.Elements.{Elements, Record}
use Rattle.holder.specs.Placed.{Placed, nothing, atom_at, list_at, erase, Meaning, front as place_of, Stands}
use Rattle.holder.specs.Walks.{first_of}
use Rattle.rules.specs.Patterns.{Pattern}
use Rattle.rules.specs.Bindings.{lengths}
use Rattle.rules.specs.Keys.{four}
use Rattle.rules.proofs.Completing.{completes-nothing}
use Rattle.search.specs.States.{state}
use Rattle.search.specs.Least.{Position, start, behind, OfFit, LeastAfter}
use Rattle.search.specs.Covering.{past, along, Covers, CoversLater}
use Rattle.search.proofs.Covering.{begun, begun_along}
use Rattle.search.proofs.Results.{ended_later, ended_tells, covers-fit, least_none}
use Rattle.texts.specs.Label.{text_tree}
use Rattle.fitting.specs.declared.searching.Search.{Search}
use Rattle.fitting.specs.Cursors.{run_from}
use Rattle.fitting.specs.Trails.{bound_in, choices_in, state_at}
use Rattle.fitting.specs.Sound.{CursorSound}
use Rattle.fitting.specs.Searches.{Begins}
use Rattle.fitting.specs.Moves.{state_of, done_of, LeadsAt, Ends, Walks, Retreats, Seeks}
use Rattle.fitting.specs.Moves as moves
use Rattle.fitting.specs.Finding.{pattern_at, LawfulPattern, found_in, Told, Tells, HasFit}
use Rattle.fitting.proofs.Numbers.{four_Decides}
use Rattle.fitting.proofs.Cursors.{run_of_place, root_run}

-- a record's root is all of it
root_whole : (m : Meaning) → run_from m.tree (place_of m.tree) ≡ m.tree
root_whole m = run_of_place m.tree m.tree (λ q is. root_run m q is)

record_stands : (r : Placed) → Record (erase r) → Stands r
record_stands nothing h = h
record_stands (atom_at p a es) h = tt
record_stands (list_at p inner es) h = tt

record_first : (r : Placed) → Record (erase r) → first_of r ≡ erase r
record_first nothing h = absurd h
record_first (atom_at p a es) h = rw h refl
record_first (list_at p inner es) h = rw h refl

-- a search that has laid nothing yet
module _ {H : Type 0} (m : Meaning) (s : Search H) (place : ℕ) (empty : s.trail.entries ≡ []) (b : Begins m.tree place s) (l : LawfulPattern s.text.text.now place) where
  pub begins_cursor : CursorSound (text_tree s.text.text.now) m.tree s.cursor s.trail.entries
  begins_cursor = subst₂ (λ c t. CursorSound (text_tree s.text.text.now) m.tree c t) (sym b.cursor) (sym empty) (
    (λ _. record {
      nothing = refl;
      pattern = l.stands;
      element = rw (root_whole m) (record_stands m.tree m.lawful.root);
      signed = l.signed;
      whole = l.whole;
      room = l.size;
      few = l.few;
    }),
    (λ n. absurd (n refl)),
  )

  -- no name is laid, and each occurs first where it does in the pattern
  begins_leads : LeadsAt (pattern_at s.text.text.now place) m.tree s
  begins_leads = rw (b.cursor, empty, root_whole m) (record {
    laid = λ n name e c i t l. absurd i;
    ahead = λ n name x c k f. ⊎_elim (λ h. h) (λ h. absurd h.1) f;
  })

  begins_state : state_of m.tree s ≡ state [] ((pattern_at s.text.text.now place, erase m.tree) ∷ []) []
  begins_state = subst₂ (λ c t. state_at (text_tree s.text.text.now) m.tree c t ≡ state [] ((pattern_at s.text.text.now place, erase m.tree) ∷ []) []) (sym b.cursor) (sym empty)
      (ap (λ e. state [] ((pattern_at s.text.text.now place, e) ∷ []) []) (ap first_of (root_whole m) ∙ record_first m.tree m.lawful.root))

  begins_all : Covers (pattern_at s.text.text.now place) (erase m.tree) (past start) (state_of m.tree s)
  begins_all = rw begins_state (begun (pattern_at s.text.text.now place) (erase m.tree))

  pub begins_along : length s.lengths ≡ 4 → Covers (pattern_at s.text.text.now place) (erase m.tree) (along s.lengths) (state_of m.tree s)
  begins_along four = rw begins_state (begun_along (pattern_at s.text.text.now place) (erase m.tree) s.lengths four)

-- what is sought, as an option
pub sought_option : (p : Pattern) (e : Elements) (position : Position) (ls : List ℕ) (found : Bool) → moves.Sought p e position ls found → LeastAfter p e position (if found then Some ls else None)
sought_option p e position ls true h = h
sought_option p e position ls false h = h

module _ {H : Type 0} (m : Meaning) (s : Search H) (place : ℕ) (empty : s.trail.entries ≡ []) (b : Begins m.tree place s) (l : LawfulPattern s.text.text.now place) where
  -- the least of all
  pub least_first : {to : Search H} {found : Bool} → ((i : ℕ) → get_or s.lengths i 0 ≡ 0) → Seeks m.tree s to found → LeastAfter (pattern_at s.text.text.now place) (erase m.tree) start (if found then Some to.lengths else None)
  least_first {to} {found} zeros k = sought_option (pattern_at s.text.text.now place) (erase m.tree) start to.lengths found
      (k.met (pattern_at s.text.text.now place) (erase m.tree) start l.few (λ i _. zeros i) (begins_all m s place empty b l))

  -- behind some lengths: these are laid as far as it goes, and then the search goes back
  laid_back : {walked : Search H} {all : Bool} → Walks m.tree s walked all → CoversLater (pattern_at s.text.text.now place) (erase m.tree) (behind s.lengths) (choices_in (text_tree walked.text.text.now) m.tree walked.trail.entries)
  laid_back {walked} {all} w = go all (w.ends (pattern_at s.text.text.now place) (erase m.tree) (along s.lengths) l.few refl (begins_along m s place empty b l (sym (ap length w.lengths) ∙ w.sound.four)))
    where
      go : (all : Bool) → Ends (pattern_at s.text.text.now place) (erase m.tree) (along s.lengths) m.tree walked all → CoversLater (pattern_at s.text.text.now place) (erase m.tree) (behind s.lengths) (choices_in (text_tree walked.text.text.now) m.tree walked.trail.entries)
      go true h = ended_later refl h
      go false h = h.0

  pub least_next : {walked back to : Search H} {all found : Bool} → Walks m.tree s walked all → Retreats m.tree walked walked.trail.entries back true → Seeks m.tree back to found
      → LeastAfter (pattern_at s.text.text.now place) (erase m.tree) (behind s.lengths) (if found then Some to.lengths else None)
  least_next {to} {found} w r k =
      let h = r.meets (pattern_at s.text.text.now place) (erase m.tree) (behind s.lengths) (laid_back w) in
      sought_option (pattern_at s.text.text.now place) (erase m.tree) (behind s.lengths) to.lengths found (k.met (pattern_at s.text.text.now place) (erase m.tree) (behind s.lengths) l.few h.1 h.0)

  pub least_last : {walked back : Search H} {all : Bool} → Walks m.tree s walked all → Retreats m.tree walked walked.trail.entries back false → LeastAfter (pattern_at s.text.text.now place) (erase m.tree) (behind s.lengths) None
  least_last w r = least_none (r.meets (pattern_at s.text.text.now place) (erase m.tree) (behind s.lengths) (laid_back w))

-- the same, written otherwise
pub least_like : {p q : Pattern} {e f : Elements} {k l : Position} {x y : Option (List ℕ)} → p ≡ q → e ≡ f → k ≡ l → x ≡ y → LeastAfter p e k x → LeastAfter q f l y
least_like {p} {f} {l} {x} pq ef kl xy h = subst₂ (λ p x. LeastAfter p f l x) pq xy (subst₂ (λ e k. LeastAfter p e k x) ef kl h)

-- what is said of a record's tree, or of a text, is said of one that is the same
pub begins_like : {H : Type 0} {t u : Placed} {place : ℕ} {s : Search H} → t ≡ u → Begins t place s → Begins u place s
begins_like {place} {s} e h = subst (λ (t : Placed). Begins t place s) e h

pub lawful_like : {place : ℕ} {t u : List ℕ} → t ≡ u → LawfulPattern t place → LawfulPattern u place
lawful_like {place} e h = subst (λ t. LawfulPattern t place) e h

-- all of the pattern is laid along the lengths of a search: these are a fit's just if they are those of the segments laid, with 0 behind
pub tells_all : {H : Type 0} {rec : Placed} {from to : Search H} (b : Bool) → b ≡ list_all (λ l. l == 0) (mid_of to.segments (4 - to.segments) to.lengths) → Walks rec from to true → Tells rec from to b
tells_all {rec} {from} {to} b is w = record {
  text = w.text;
  holder = w.holder;
  lengths = w.lengths;
  sound = w.sound;
  told = λ p e few h. go p e b decides (w.ends p e (along from.lengths) few refl h);
  leads = λ _. w.leads refl;
}
  where
    decides : Decides b (four (lengths (bound_in (text_tree to.text.text.now) rec to.trail.entries)) ≡ from.lengths)
    decides = rw (is, sym w.lengths) (four_Decides to.segments to.lengths (lengths (bound_in (text_tree to.text.text.now) rec to.trail.entries)) w.sound.four w.sound.segments w.sound.agree)

    go : (p : Pattern) (e : Elements) (b : Bool) → Decides b (four (lengths (bound_in (text_tree to.text.text.now) rec to.trail.entries)) ≡ from.lengths) → Covers p e (along from.lengths) (done_of rec to) → Told p e from.lengths rec to b
    go p e true d h = ((covers-fit refl h).0, d.0 refl)
    go p e false d h = λ o. absurd (false≢true (d.1 ((ended_tells refl h).0 o)))

-- or the search is stuck
pub tells_stuck : {H : Type 0} {rec : Placed} {from to : Search H} → Walks rec from to false → Tells rec from to false
tells_stuck {from} w = record {
  text = w.text;
  holder = w.holder;
  lengths = w.lengths;
  sound = w.sound;
  told = λ p e few h. (w.ends p e (along from.lengths) few refl h).1;
  leads = λ e. absurd cc;
}

-- a fit with the lengths of a search that begins, or none
module _ {H : Type 0} (m : Meaning) (s : Search H) (place : ℕ) (empty : s.trail.entries ≡ []) (b : Begins m.tree place s) (l : LawfulPattern s.text.text.now place) where
  told_along : {to : Search H} {stands : Bool} → Tells m.tree s to stands → Told (pattern_at s.text.text.now place) (erase m.tree) s.lengths m.tree to stands
  told_along t = t.told (pattern_at s.text.text.now place) (erase m.tree) l.few (begins_along m s place empty b l (sym (ap length t.lengths) ∙ t.sound.four))

  pub has_fit : {to : Search H} → Tells m.tree s to true → HasFit (pattern_at s.text.text.now place) (erase m.tree) s.lengths m.tree to
  has_fit {to} t =
      let f = told_along t in
      let first = t.leads refl (pattern_at s.text.text.now place) (begins_leads m s place empty b l) in
      record {
        sound = t.sound;
        fit = f.0;
        lengths_are = f.1;
        firsts = λ name e found some. first.laid (found_in m.tree to) name e ((completes-nothing (found_in m.tree to) (found_in m.tree to)).1 refl) found.3 found.4 some;
      }

  pub no_fit : {to : Search H} → Tells m.tree s to false → OfFit (pattern_at s.text.text.now place) (erase m.tree) s.lengths → ⊥
  no_fit t = told_along t

-- the same, written otherwise
pub has_fit_like : {H : Type 0} {p q : Pattern} {t u : Placed} {ks ls : List ℕ} {s : Search H} → p ≡ q → t ≡ u → ks ≡ ls → HasFit p (erase t) ks t s → HasFit q (erase u) ls u s
has_fit_like {p} {u} {ls} {s} pq tu kl h = subst (λ p. HasFit p (erase u) ls u s) pq (subst₂ (λ (t : Placed) ks. HasFit p (erase t) ks t s) tu kl h)

pub no_fit_like : {p q : Pattern} {e f : Elements} {ks ls : List ℕ} → p ≡ q → e ≡ f → ks ≡ ls → (OfFit p e ks → ⊥) → OfFit q f ls → ⊥
no_fit_like {p} {f} {ls} pq ef kl n = subst (λ p. OfFit p f ls → ⊥) pq (subst₂ (λ e ks. OfFit p e ks → ⊥) ef kl n)
