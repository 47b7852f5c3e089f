-- Taking entries off a trail, back to a segment that can take one element more. Assumes nothing.
use Rattle.std.proofs.Common.{◌≡◌, ℕ, ◌+◌, ◌-◌, ◌<◌, ◌≤◌, Bool, true, false, List, [], ◌∷◌, length, get_or, append-nil, length-append, None, refl, sym, ap, ◌∙◌, subst, arith}
use Rattle.sexp.specs.Elements.{Elements}
use Rattle.holder.specs.Placed.{Placed}
use Rattle.rules.specs.declared.signs.Sign.TheVariants.{Variable as VariableSign}
use Rattle.rules.specs.Patterns.{Pattern}
use Rattle.rules.specs.Bindings.{binding, lengths}
use Rattle.rules.proofs.Enumerating.{lengths-append}
use Rattle.search.specs.Least.{Position}
use Rattle.search.specs.Covering.{CoversLater}
use Rattle.search.specs.States.{choice}
use Rattle.search.proofs.Covering.{again-none}
use Rattle.texts.specs.Label.{text_tree}
use Rattle.fitting.specs.declared.marks.Laid.{Laid}
use Rattle.fitting.specs.declared.marks.Laid.TheVariants.{List as ListLaid, Variable, Segment}
use Rattle.fitting.specs.declared.marks.Mark.{Mark}
use Rattle.fitting.specs.declared.searching.Cursor.{Cursor}
use Rattle.fitting.specs.declared.searching.Search.{Search}
use Rattle.fitting.specs.Entries.{Entry}
use Rattle.fitting.specs.Stacked.{Stacked}
use Rattle.fitting.specs.Cursors.{elements_from}
use Rattle.fitting.specs.Trails.{name_at, laid_at, pattern_behind, bound_in, goals_around, choices_in}
use Rattle.fitting.specs.Sound.{EntrySound}
use Rattle.fitting.specs.Searches.{TrailSound}
use Rattle.fitting.specs.Moves.{Retreats}
use Rattle.fitting.proofs.Numbers.{last_taken}
use Rattle.fitting.proofs.Retreating.{lengths_segment}

-- an entry on top of a trail
abbrev pub pushed : Entry → Stacked Entry → Stacked Entry
pushed e tr = record { entries = e ∷ tr.entries; room = tr.room }

module _ (pat rec : Placed) where
  -- an entry of no segment
  lengths_other : (m : Mark) (place : ℕ) (t : List Entry) → (m.laid ≡ Segment → ⊥) → lengths (bound_in pat rec ((m, place) ∷ t)) ≡ lengths (bound_in pat rec t)
  lengths_other m place t n = go m.laid n
    where
      go : (l : Laid) → (l ≡ Segment → ⊥) → lengths (bound_in pat rec ((record m { laid = l }, place) ∷ t)) ≡ lengths (bound_in pat rec t)
      go ListLaid n = refl
      go Variable n = lengths-append (bound_in pat rec t) (binding VariableSign (name_at pat rec (m, place)) (laid_at pat rec (m, place)) ∷ []) ∙ append-nil (lengths (bound_in pat rec t))
      go Segment n = absurd (n refl)

  choices_other : (m : Mark) (place : ℕ) (t : List Entry) → (m.laid ≡ Segment → ⊥) → choices_in pat rec ((m, place) ∷ t) ≡ choices_in pat rec t
  choices_other m place t n = go m.laid n
    where
      go : (l : Laid) → (l ≡ Segment → ⊥) → choices_in pat rec ((record m { laid = l }, place) ∷ t) ≡ choices_in pat rec t
      go ListLaid n = refl
      go Variable n = refl
      go Segment n = absurd (n refl)

  -- an entry of a segment that has no element behind it
  choices_none : (m : Mark) (place : ℕ) (t : List Entry) (p : Pattern) (e : Elements) (position : Position) → m.laid ≡ Segment → m.behind ≡ None → CoversLater p e position (choices_in pat rec ((m, place) ∷ t)) → CoversLater p e position (choices_in pat rec t)
  choices_none m place t p e position l n h =
      again-none {c = choice (bound_in pat rec t) (name_at pat rec (m, place)) (laid_at pat rec (m, place)) (pattern_behind pat rec (m, place)) (elements_from rec m.behind) (goals_around pat rec m.around t)}
      (ap (elements_from rec) n) (rw l at h)

-- while entries are taken off, nothing that is to be met is lost
pub record Backed {H : Type 0} (rec : Placed) (from to : Search H) : Type 0 where
  pub text : to.text ≡ from.text
  pub holder : to.«record» ≡ from.«record»
  pub lengths : to.lengths ≡ from.lengths
  pub sound : TrailSound rec to
  pub meets : (p : Pattern) (e : Elements) (position : Position) → CoversLater p e position (choices_in (text_tree from.text.text.now) rec from.trail.entries) → CoversLater p e position (choices_in (text_tree to.text.text.now) rec to.trail.entries)

-- an entry of no segment is taken off
pub other_off : {H : Type 0} (rec : Placed) (s : Search H) (c : Cursor) (m : Mark) (place : ℕ) (tr : Stacked Entry) → (m.laid ≡ Segment → ⊥) → TrailSound rec (record s { trail = pushed (m, place) tr }) → TrailSound rec (record s { trail = tr; cursor = c })
other_off rec s c m place tr n h =
    let e = lengths_other (text_tree s.text.text.now) rec m place tr.entries n in
    record { sound = h.sound.1; room = h.room; four = h.four; segments = h.segments ∙ ap length e; agree = h.agree ∙ e }

-- an entry of a segment is taken off
pub record SegmentOff {H : Type 0} (rec : Placed) (s : Search H) (c : Cursor) (m : Mark) (place : ℕ) (tr : Stacked Entry) : Type 0 where
  pub entry : EntrySound (text_tree s.text.text.now) rec (m, place) tr.entries
  pub some : 1 ≤ s.segments
  pub few : s.segments - 1 < 4
  pub digit : get_or s.lengths (s.segments - 1) 0 ≡ m.length
  pub sound : TrailSound rec (record s { trail = tr; cursor = c; segments = s.segments - 1 })

pub segment_off : {H : Type 0} (rec : Placed) (s : Search H) (c : Cursor) (m : Mark) (place : ℕ) (tr : Stacked Entry) → m.laid ≡ Segment → TrailSound rec (record s { trail = pushed (m, place) tr }) → SegmentOff rec s c m place tr
segment_off rec s c m place tr l h =
    let e = lengths_segment (text_tree s.text.text.now) rec m place tr.entries l h.sound.0 in
    let before = lengths (bound_in (text_tree s.text.text.now) rec tr.entries) in
    let many : s.segments ≡ length before + 1 = omega (arith, h.segments, ap length e, length-append before (m.length ∷ [])) in
    let t = last_taken s.segments m.length s.lengths before h.four many (h.agree ∙ e) in
    record {
      entry = h.sound.0;
      some = omega (arith, many);
      few = t.0;
      digit = t.1;
      sound = record { sound = h.sound.1; room = h.room; four = h.four; segments = omega (arith, many); agree = t.2 };
    }

-- so nothing is lost
module _ {H : Type 0} {rec : Placed} {from s : Search H} (c : Cursor) (m : Mark) (place : ℕ) (tr : Stacked Entry) (is : s.trail ≡ pushed (m, place) tr) (b : Backed rec from s) where
  pub sound_on : TrailSound rec (record s { trail = pushed (m, place) tr })
  sound_on = subst (λ (tr : Stacked Entry). TrailSound rec (record s { trail = tr })) is b.sound

  meets_on : (p : Pattern) (e : Elements) (position : Position) → CoversLater p e position (choices_in (text_tree from.text.text.now) rec from.trail.entries) → CoversLater p e position (choices_in (text_tree s.text.text.now) rec ((m, place) ∷ tr.entries))
  meets_on p e position h = subst (λ (tr : Stacked Entry). CoversLater p e position (choices_in (text_tree s.text.text.now) rec tr.entries)) is (b.meets p e position h)

  pub backed_other : (m.laid ≡ Segment → ⊥) → Backed rec from (record s { trail = tr; cursor = c })
  backed_other n = record {
    text = b.text;
    holder = b.holder;
    lengths = b.lengths;
    sound = other_off rec s c m place tr n sound_on;
    meets = λ p e position h. subst (λ cs. CoversLater p e position cs) (choices_other (text_tree s.text.text.now) rec m place tr.entries n) (meets_on p e position h);
  }

  pub backed_none : m.laid ≡ Segment → m.behind ≡ None → Backed rec from (record s { trail = tr; cursor = c; segments = s.segments - 1 })
  backed_none l n = record {
    text = b.text;
    holder = b.holder;
    lengths = b.lengths;
    sound = (segment_off rec s c m place tr l sound_on).sound;
    meets = λ p e position h. choices_none (text_tree s.text.text.now) rec m place tr.entries p e position l n (meets_on p e position h);
  }

  pub backed_some : {to : Search H} → Retreats rec (record s { trail = tr; cursor = c; segments = s.segments - 1 }) ((m, place) ∷ tr.entries) to true → Retreats rec from from.trail.entries to true
  backed_some r = record {
    text = r.text ∙ b.text;
    holder = r.holder ∙ b.holder;
    room = r.room;
    sound = r.sound;
    cursor = r.cursor;
    greater = λ g. rw (sym b.lengths) (r.greater g);
    meets = λ p e position h. r.meets p e position (meets_on p e position h);
  }

-- at the end of the trail no segment is left
pub backed_end : {H : Type 0} {rec : Placed} {from s : Search H} (c : Cursor) (tr : Stacked Entry) → s.trail.entries ≡ [] → tr ≡ s.trail → Backed rec from s → Retreats rec from from.trail.entries (record s { trail = tr; cursor = c }) false
backed_end {rec} {s} c tr none is b = record {
  text = b.text;
  holder = b.holder;
  room = rw is b.sound.room;
  sound = λ g. absurd cc;
  cursor = λ g. absurd cc;
  greater = λ g. absurd cc;
  meets = λ p e position h. subst (λ (t : List Entry). CoversLater p e position (choices_in (text_tree s.text.text.now) rec t)) none (b.meets p e position h);
}

-- what is said of a record's tree is said of one that is the same
pub sound_like : {H : Type 0} {t u : Placed} {s : Search H} → t ≡ u → TrailSound t s → TrailSound u s
sound_like {s} e h = subst (λ (t : Placed). TrailSound t s) e h

pub retreats_like : {H : Type 0} {t u : Placed} {from to : Search H} {trail : List Entry} {goes : Bool} → t ≡ u → Retreats t from trail to goes → Retreats u from trail to goes
retreats_like {from} {to} {trail} {goes} e h = subst (λ (t : Placed). Retreats t from trail to goes) e h
