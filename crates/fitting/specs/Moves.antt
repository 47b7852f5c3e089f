-- What the steps of a search come to. Assumes nothing.
use Rattle.std.specs.Prelude.{◌≡◌, ℕ, suc, ◌+◌, ◌*◌, ◌^◌, min, ◌<◌, ◌≤◌, Bool, true, false, List, [], ◌∷◌, length, get_or, ◌==◌, Option, Some, None}
use Rattle.sexp.specs.Elements.{Elements, count}
use Rattle.holder.specs.Placed.{Placed, erase, run_at, front as place_of, behind as behind_first, octets_of, IsAtom}
use Rattle.holder.specs.Walks.{first_of}
use Rattle.rules.specs.declared.signs.Sign.{Sign}
use Rattle.rules.specs.Patterns.{Pattern, names, segments}
use Rattle.rules.specs.Complete.{In}
use Rattle.rules.specs.Bindings.{value, width}
use Rattle.rules.specs.Goals.{is_bound}
use Rattle.search.specs.States.{State}
use Rattle.search.specs.Least.{Position, start, behind, OfFit, LeastAfter}
use Rattle.search.specs.Covering.{Aim, past, along, tried, Covers, Dead, CoversLater}
use Rattle.texts.specs.Label.{text_tree}
use Rattle.fitting.specs.declared.marks.Laid.{Laid as LaidAs}
use Rattle.fitting.specs.declared.marks.Laid.TheVariants.{List as ListLaid}
use Rattle.fitting.specs.declared.marks.Mark.{Mark}
use Rattle.fitting.specs.declared.searching.Search.{Search}
use Rattle.fitting.specs.declared.searching.Step.{Step}
use Rattle.fitting.specs.declared.searching.Step.TheVariants.{Laid, Stuck, Done}
use Rattle.fitting.specs.Entries.{Entry}
use Rattle.fitting.specs.Cursors.{run_from, elements_from, front}
use Rattle.fitting.specs.Trails.{name_of, is_marked, bound_in, goals_at, choices_in, state_at, state_done}
use Rattle.fitting.specs.Sound.{Named, CursorSound}
use Rattle.fitting.specs.Searches.{TrailSound}
use Rattle.fitting.specs.Leads.{placed_at, Leads}

-- the state of a search, and where all of the pattern is laid
abbrev pub state_of : {H : Type 0} → Placed → Search H → State
state_of rec s = state_at (text_tree s.text.text.now) rec s.cursor s.trail.entries

abbrev pub done_of : {H : Type 0} → Placed → Search H → State
done_of rec s = state_done (text_tree s.text.text.now) rec s.trail.entries

-- where the first occurrences of a pattern's names lie in a search, and where all of the pattern is laid
abbrev pub LeadsAt : {H : Type 0} → Pattern → Placed → Search H → Type 0
LeadsAt p rec s =
    Leads (text_tree s.text.text.now) rec p s.trail.entries
    (goals_at (text_tree s.text.text.now) rec s.cursor s.trail.entries)
    (placed_at (text_tree s.text.text.now) rec s.cursor s.trail.entries)

abbrev pub LeadsDone : {H : Type 0} → Pattern → Placed → Search H → Type 0
LeadsDone p rec s = Leads (text_tree s.text.text.now) rec p s.trail.entries [] []

-- how the lengths of a search serve its aim: along given lengths they are these; past a position the segments that are not laid yet begin
-- with nothing
abbrev pub Serves : {H : Type 0} → Aim → Search H → Type 0
Serves (along ks) s = s.lengths ≡ ks
Serves (past position) s = (i : ℕ) → s.segments ≤ i → get_or s.lengths i 0 ≡ 0

-- how much is left to lay: for each list around something, and each element of the pattern
abbrev pub steps_behind : Placed → Entry → ℕ → ℕ
steps_behind pat e others = elim (e.0.around == 0) [ true ↦ 1 | false ↦ 1 + (2 * count (erase (behind_first (run_at e.0.pattern pat))) + others) ]

abbrev pub steps_around : Placed → ℕ → List Entry → ℕ
steps_around pat at [] = 0
steps_around pat at (e ∷ trail) =
    elim (at == suc (length trail)) [
      | false ↦ steps_around pat at trail
      | true ↦ steps_behind pat e (steps_around pat e.0.around trail)
    ]

abbrev pub steps_left : {H : Type 0} → Search H → ℕ
steps_left s =
    elim (s.cursor.around == 0) [
      | true ↦ 2 * count (first_of (run_from (text_tree s.text.text.now) s.cursor.pattern))
      | false ↦ 2 * count (elements_from (text_tree s.text.text.now) s.cursor.pattern) + steps_around (text_tree s.text.text.now) s.cursor.around s.trail.entries
    ]

-- what a step comes to, in a search of some aim
abbrev pub Comes : {H : Type 0} → Pattern → Elements → Aim → (rec : Placed) → (from to : Search H) → Step → Type 0
Comes p e aim rec from to Laid = Covers p e aim (state_of rec to)
Comes p e aim rec from to Stuck = Dead aim (state_of rec from) × (to.trail.entries ≡ from.trail.entries)
Comes p e aim rec from to Done = Covers p e aim (done_of rec to)

-- and where it leaves the first occurrences of the pattern's names
abbrev pub LeadsTo : {H : Type 0} → Pattern → (rec : Placed) → Search H → Step → Type 0
LeadsTo p rec to Laid = LeadsAt p rec to
LeadsTo p rec to Stuck = Unit {0}
LeadsTo p rec to Done = LeadsDone p rec to

-- a step was laid, or all of the pattern, or the search is stuck; text, record and lengths are as they were
pub record Steps {H : Type 0} (rec : Placed) (from to : Search H) (step : Step) : Type 0 where
  pub text : to.text ≡ from.text
  pub holder : to.«record» ≡ from.«record»
  pub lengths : to.lengths ≡ from.lengths
  pub sound : TrailSound rec to
  pub cursor : step ≡ Laid → CursorSound (text_tree to.text.text.now) rec to.cursor to.trail.entries
  pub fewer : step ≡ Laid → steps_left to < steps_left from
  pub more : from.segments ≤ to.segments
  pub comes : (p : Pattern) (e : Elements) (aim : Aim) → segments (names p) ≤ 4 → Serves aim from → Covers p e aim (state_of rec from) → Comes p e aim rec from to step
  pub leads : (p : Pattern) → LeadsAt p rec from → LeadsTo p rec to step

-- where a name is bound, the entry of its first occurrence, which is on the trail
abbrev pub Finds : (pat rec : Placed) → List Entry → List ℕ → Option (Mark × ℕ) → Type 0
Finds pat rec trail name (Some e) =
    (is_bound name (bound_in pat rec trail) ≡ true) × (value name (bound_in pat rec trail) ≡ front e.0.length (elements_from rec (Some e.1)))
    × (e.0.length ≤ width (elements_from rec (Some e.1))) × In e trail × (is_marked pat e.0 name ≡ true)
Finds pat rec trail name None = is_bound name (bound_in pat rec trail) ≡ false

-- a search goes back to the last segment that can take one element more, and takes it; from then on the segments behind it begin with
-- nothing; or no segment can
abbrev pub Goes : {H : Type 0} → Pattern → Elements → Position → (rec : Placed) → Search H → Bool → Type 0
Goes p e position rec to true = Covers p e (past position) (state_of rec to) × Serves (past position) to
Goes p e position rec to false = CoversLater p e position []

-- the number that the lengths of a search make, as digits of at most 65,535
abbrev pub number : List ℕ → ℕ
number [] = 0
number (l ∷ ls) = min l 65535 * 65536 ^ length ls + number ls

pub record Retreats {H : Type 0} (rec : Placed) (from : Search H) (trail : List Entry) (to : Search H) (goes : Bool) : Type 0 where
  pub text : to.text ≡ from.text
  pub holder : to.«record» ≡ from.«record»
  pub room : 256 ≤ to.trail.room
  pub sound : goes ≡ true → TrailSound rec to
  pub cursor : goes ≡ true → CursorSound (text_tree to.text.text.now) rec to.cursor to.trail.entries
  pub greater : goes ≡ true → number from.lengths < number to.lengths
  pub meets : (p : Pattern) (e : Elements) (position : Position) → CoversLater p e position (choices_in (text_tree from.text.text.now) rec trail) → Goes p e position rec to goes

-- a search lays its pattern as far as it goes: all of it, or what it is to meet is met by going back, and its aim's own lengths by no fit
abbrev pub Along : Pattern → Elements → Aim → Type 0
Along p e (along ks) = OfFit p e ks → ⊥
Along p e (past position) = Unit {0}

abbrev pub Ends : {H : Type 0} → Pattern → Elements → Aim → (rec : Placed) → Search H → Bool → Type 0
Ends p e aim rec to true = Covers p e aim (done_of rec to)
Ends p e aim rec to false = CoversLater p e (tried aim) (choices_in (text_tree to.text.text.now) rec to.trail.entries) × Along p e aim

pub record Walks {H : Type 0} (rec : Placed) (from to : Search H) (all : Bool) : Type 0 where
  pub text : to.text ≡ from.text
  pub holder : to.«record» ≡ from.«record»
  pub lengths : to.lengths ≡ from.lengths
  pub more : from.segments ≤ to.segments
  pub sound : TrailSound rec to
  pub ends : (p : Pattern) (e : Elements) (aim : Aim) → segments (names p) ≤ 4 → Serves aim from → Covers p e aim (state_of rec from) → Ends p e aim rec to all
  pub leads : all ≡ true → (p : Pattern) → LeadsAt p rec from → LeadsDone p rec to

-- a search finds the least lengths past its position, or that there are none
abbrev pub Sought : Pattern → Elements → Position → List ℕ → Bool → Type 0
Sought p e position ls true = LeastAfter p e position (Some ls)
Sought p e position ls false = LeastAfter p e position None

pub record Seeks {H : Type 0} (rec : Placed) (from to : Search H) (found : Bool) : Type 0 where
  pub text : to.text ≡ from.text
  pub holder : to.«record» ≡ from.«record»
  pub sound : found ≡ true → TrailSound rec to
  pub met : (p : Pattern) (e : Elements) (position : Position) → segments (names p) ≤ 4 → Serves (past position) from → Covers p e (past position) (state_of rec from) → Sought p e position to.lengths found

-- where a search begins
abbrev pub position_of : Option (List ℕ) → Position
position_of None = start
position_of (Some ks) = behind ks

-- an atom of these octets stands at a place
abbrev pub Reads : Placed → ℕ → List ℕ → Type 0
Reads pat place os = IsAtom (run_at place pat) × (octets_of (run_at place pat) ≡ os)

-- a name of this sign stands at a place, and is not bound yet
abbrev pub IsNew : {H : Type 0} → Placed → Search H → ℕ → Sign → Type 0
IsNew rec s place sign =
    Named sign (run_at place (text_tree s.text.text.now))
    × (is_bound (name_of (run_at place (text_tree s.text.text.now))) (bound_in (text_tree s.text.text.now) rec s.trail.entries) ≡ false)

-- a name stands at a place, and the entry is that of its first occurrence
abbrev pub IsKnown : {H : Type 0} → Placed → Search H → ℕ → Mark → ℕ → Type 0
IsKnown rec s place m run =
    ((sign : Sign) × Named sign (run_at place (text_tree s.text.text.now)))
    × Finds (text_tree s.text.text.now) rec s.trail.entries (name_of (run_at place (text_tree s.text.text.now))) (Some (m, run))

-- there is room on the trail of a search
abbrev pub HasRoom : {H : Type 0} → Search H → Type 0
HasRoom s = length s.trail.entries < s.trail.room

-- a mark is put on the trail of a search, with a place
abbrev pub mark_at : {H : Type 0} → Search H → LaidAs → (pattern length : ℕ) → Option ℕ → Mark
mark_at s laid pattern length next = record { laid = laid; pattern = pattern; around = s.cursor.around; length = length; behind = next }

abbrev pub Marks : {H : Type 0} → (from to : Search H) → LaidAs → (pattern length : ℕ) → Option ℕ → ℕ → Type 0
Marks from to laid pattern length next place =
    to ≡ record from { trail = record { entries = (mark_at from laid pattern length next, place) ∷ from.trail.entries; room = from.trail.room } }

-- a search goes on behind an element of the pattern, and at an element of the record; behind a root all is laid
abbrev pub GoesOn : {H : Type 0} → (from : Search H) → ℕ → Option ℕ → (to : Search H) → Step → Type 0
GoesOn from place element to step =
    (to ≡ record from { cursor = record { pattern = place_of (behind_first (run_at place (text_tree from.text.text.now))); element = element; around = from.cursor.around } })
    × (step ≡ elim (from.cursor.around == 0) [ true ↦ Done | false ↦ Laid ])

-- the mark of a name is that of a name in the pattern
abbrev pub MarksName : Placed → Mark → Type 0
MarksName pat m = (m.laid ≡ ListLaid → ⊥) → (sign : Sign) × Named sign (run_at m.pattern pat)
