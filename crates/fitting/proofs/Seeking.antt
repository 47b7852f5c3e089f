-- A search that lays its pattern and goes back, again and again. Assumes nothing.
use Rattle.std.proofs.Common.{◌≡◌, ◌-◌, ◌^◌, ◌<◌, ◌≤◌, Bool, true, false, Some, refl, ap, ◌∙◌, subst, arith}
use Rattle.sexp.specs.Elements.{Elements}
use Rattle.holder.specs.Placed.{Placed}
use Rattle.rules.specs.Patterns.{Pattern, names, segments}
use Rattle.rules.specs.Bindings.{lengths}
use Rattle.rules.specs.Keys.{four}
use Rattle.search.specs.States.{State}
use Rattle.search.specs.Least.{Position, LeastAfter}
use Rattle.search.specs.Covering.{Aim, past, along, Covers, CoversLater, Dead}
use Rattle.search.proofs.Results.{covers-dead, dead_no_fit, least_met, least_none}
use Rattle.texts.specs.Label.{text_tree}
use Rattle.fitting.specs.declared.searching.Search.{Search}
use Rattle.fitting.specs.declared.searching.Step.{Step}
use Rattle.fitting.specs.declared.searching.Step.TheVariants.{Laid, Stuck, Done}
use Rattle.fitting.specs.Trails.{bound_in, choices_in}
use Rattle.fitting.specs.Searches.{TrailSound, CursorStands}
use Rattle.fitting.specs.Moves.{state_of, LeadsAt, Serves, number, Steps, Along, Walks, Retreats, Seeks}
use Rattle.fitting.proofs.Numbers.{number_most, four_of}

-- steps that were laid
pub record Walked {H : Type 0} (rec : Placed) (from to : Search H) : Type 0 where
  pub text : to.text ≡ from.text
  pub holder : to.«record» ≡ from.«record»
  pub lengths : to.lengths ≡ from.lengths
  pub more : from.segments ≤ to.segments
  pub sound : TrailSound rec to
  pub cursor : CursorStands rec to
  pub covers : (p : Pattern) (e : Elements) (aim : Aim) → segments (names p) ≤ 4 → Serves aim from → Covers p e aim (state_of rec from) → Covers p e aim (state_of rec to)
  pub leads : (p : Pattern) → LeadsAt p rec from → LeadsAt p rec to

-- lengths serve as they did where more of them are laid
serves_on : {H : Type 0} (aim : Aim) (from to : Search H) → to.lengths ≡ from.lengths → from.segments ≤ to.segments → Serves aim from → Serves aim to
serves_on (along ks) from to e m s = e ∙ s
serves_on (past position) from to e m s = λ i l. rw e (s i (omega (arith, l, m)))

-- a dead end tells of the lengths along which it was come to
stuck_along : (p : Pattern) (e : Elements) (aim : Aim) (s : State) → Covers p e aim s → Dead aim s → Along p e aim
stuck_along p e (past position) s h d = tt
stuck_along p e (along ks) s h d = dead_no_fit h d

-- what is said of a record's tree is said of one that is the same
pub steps_like : {H : Type 0} {t u : Placed} {from to : Search H} {step : Step} → t ≡ u → Steps t from to step → Steps u from to step
steps_like {from} {to} {step} e h = subst (λ (t : Placed). Steps t from to step) e h

pub walks_like : {H : Type 0} {t u : Placed} {from to : Search H} {all : Bool} → t ≡ u → Walks t from to all → Walks u from to all
walks_like {from} {to} {all} e h = subst (λ (t : Placed). Walks t from to all) e h

pub seeks_like : {H : Type 0} {t u : Placed} {from to : Search H} {found : Bool} → t ≡ u → Seeks t from to found → Seeks u from to found
seeks_like {from} {to} {found} e h = subst (λ (t : Placed). Seeks t from to found) e h

module _ {H : Type 0} {rec : Placed} {from at to : Search H} (w : Walked rec from at) where
  -- one step more is laid
  pub walked_more : Steps rec at to Laid → Walked rec from to
  walked_more s = record {
    text = s.text ∙ w.text;
    holder = s.holder ∙ w.holder;
    lengths = s.lengths ∙ w.lengths;
    more = omega (arith, s.more, w.more);
    sound = s.sound;
    cursor = s.cursor refl;
    covers = λ p e aim few serves h. s.comes p e aim few (serves_on aim from at w.lengths w.more serves) (w.covers p e aim few serves h);
    leads = λ p h. s.leads p (w.leads p h);
  }

  -- all of the pattern is laid
  pub walks_done : Steps rec at to Done → Walks rec from to true
  walks_done s = record {
    text = s.text ∙ w.text;
    holder = s.holder ∙ w.holder;
    lengths = s.lengths ∙ w.lengths;
    more = omega (arith, s.more, w.more);
    sound = s.sound;
    ends = λ p e aim few serves h. s.comes p e aim few (serves_on aim from at w.lengths w.more serves) (w.covers p e aim few serves h);
    leads = λ _ p h. s.leads p (w.leads p h);
  }

  -- the search is stuck
  pub walks_stuck : Steps rec at to Stuck → Walks rec from to false
  walks_stuck s = record {
    text = s.text ∙ w.text;
    holder = s.holder ∙ w.holder;
    lengths = s.lengths ∙ w.lengths;
    more = omega (arith, s.more, w.more);
    sound = s.sound;
    ends = λ p e aim few serves h.
        let at_last = w.covers p e aim few serves h in
        let d = s.comes p e aim few (serves_on aim from at w.lengths w.more serves) at_last in
        (rw (s.text, d.1) (covers-dead at_last d.0), stuck_along p e aim (state_of rec at) at_last d.0);
    leads = λ e. absurd cc;
  }

-- a search past a position that has gone back, any number of times
pub record Sought {H : Type 0} (rec : Placed) (from to : Search H) : Type 0 where
  pub text : to.text ≡ from.text
  pub holder : to.«record» ≡ from.«record»
  pub sound : TrailSound rec to
  pub cursor : CursorStands rec to
  pub meets : (p : Pattern) (e : Elements) (position : Position) → segments (names p) ≤ 4 → Serves (past position) from → Covers p e (past position) (state_of rec from) → Covers p e (past position) (state_of rec to) × Serves (past position) to

-- its lengths, where all of the pattern is laid
lengths_found : {H : Type 0} (rec : Placed) (position : Position) (s : Search H) → TrailSound rec s → Serves (past position) s → four (lengths (bound_in (text_tree s.text.text.now) rec s.trail.entries)) ≡ s.lengths
lengths_found rec position s h serves = four_of s.segments s.lengths (lengths (bound_in (text_tree s.text.text.now) rec s.trail.entries)) h.four h.segments h.agree serves

module _ {H : Type 0} {rec : Placed} {from at walked : Search H} (s : Sought rec from at) where
  -- all of the pattern is laid: these are the least lengths
  pub seeks_all : Walks rec at walked true → Seeks rec from walked true
  seeks_all w = record {
    text = w.text ∙ s.text;
    holder = w.holder ∙ s.holder;
    sound = λ g. w.sound;
    met = λ p e position few serves h.
        let m = s.meets p e position few serves h in
        subst (λ ls. LeastAfter p e position (Some ls)) (lengths_found rec position walked w.sound (serves_on (past position) at walked w.lengths w.more m.1)) (least_met few refl (w.ends p e (past position) few m.1 m.0));
  }

  -- the search is stuck: what is to be met is met by going back
  back : (p : Pattern) (e : Elements) (position : Position) → Walks rec at walked false → segments (names p) ≤ 4 → Serves (past position) from → Covers p e (past position) (state_of rec from) → CoversLater p e position (choices_in (text_tree walked.text.text.now) rec walked.trail.entries)
  back p e position w few serves h = let m = s.meets p e position few serves h in (w.ends p e (past position) few m.1 m.0).0

  -- no segment can take one element more
  pub seeks_none : {to : Search H} → Walks rec at walked false → Retreats rec walked walked.trail.entries to false → Seeks rec from to false
  seeks_none w r = record {
    text = r.text ∙ (w.text ∙ s.text);
    holder = r.holder ∙ (w.holder ∙ s.holder);
    sound = λ g. absurd cc;
    met = λ p e position few serves h. least_none (r.meets p e position (back p e position w few serves h));
  }

  -- one could, and the lengths are greater
  pub sought_more : {to : Search H} → Walks rec at walked false → Retreats rec walked walked.trail.entries to true → Sought rec from to
  sought_more w r = record {
    text = r.text ∙ (w.text ∙ s.text);
    holder = r.holder ∙ (w.holder ∙ s.holder);
    sound = r.sound refl;
    cursor = r.cursor refl;
    meets = λ p e position few serves h. r.meets p e position (back p e position w few serves h);
  }

  pub fewer_left : {to : Search H} → Walks rec at walked false → Retreats rec walked walked.trail.entries to true → 65536 ^ 4 - number to.lengths < 65536 ^ 4 - number at.lengths
  fewer_left w r = omega (arith, r.greater refl, ap number w.lengths, number_most at.lengths s.sound.four)
