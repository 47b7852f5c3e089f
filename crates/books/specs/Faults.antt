-- Why a rule is refused: the faults of its elements, a constructor for each way. Assumes nothing.
use Rattle.std.specs.Prelude.{◌≡◌, ℕ, ◌<◌, ◌≤◌, ◌⊎◌, cond, List, [], ◌∷◌, ◌++◌, length, Some, None, ◌==◌}
use Rattle.sexp.specs.declared.refusals.Refusal.{Refusal}
use Rattle.sexp.specs.declared.refusals.Refusal.TheVariants.{UnknownSign, NameLength, WholeSegment, OtherSign, RuleLimit, UnboundName}
use Rattle.sexp.specs.Refusals.{number_of}
use Rattle.rules.specs.declared.signs.Sign.{Sign}
use Rattle.rules.specs.declared.signs.Sign.TheVariants.{Variable, Segment}
use Rattle.rules.specs.Complete.{In}
use Rattle.rules.specs.Signs.{HasSign}
use Rattle.rules.specs.Patterns.{Slot, sign_octet, firsts, segments}
use Rattle.books.specs.declared.checking.Side.{Side}
use Rattle.books.specs.declared.checking.Side.TheVariants.{Pattern, Template}
use Rattle.books.specs.Items.{Item}

-- an element is an atom that writes a name with its sign
abbrev pub Writes : Item → Slot → Type 0
Writes i s = i.atom ≡ Some (sign_octet s.sign ∷ s.name)

-- a name is among these
pub record Named (name : List ℕ) (names : List Slot) : Type 0 where
  pub sign : Sign
  pub among : In (record { sign = sign; name = name }) names

-- the faults of the element i on a side of a rule: n elements stand in front of it on its side, and the pattern's names so far are these
pub data Fault (side : Side) (n : ℕ) (names : List Slot) (i : Item) : Refusal → Type 0 where
  -- an atom that is empty or begins with no sign
  unsigned : {os : List ℕ} → i.atom ≡ Some os → (HasSign os → ⊥) → Fault side n names i (UnknownSign i.place)
  -- a name of no octet or of more than 32
  misnamed : (s : Slot) → Writes i s → (length s.name ≡ 0) ⊎ (32 < length s.name) → Fault side n names i (NameLength i.place)
  -- a segment that is the whole side
  whole : (s : Slot) → Writes i s → s.sign ≡ Segment → n ≡ 0 → Fault side n names i (WholeSegment i.place)
  -- a name that has the other sign already
  other : (s : Slot) {sign : Sign} → Writes i s → In (record { sign = sign; name = s.name }) names → (sign ≡ s.sign → ⊥) → Fault side n names i (OtherSign i.place)
  -- the 257th element of a side
  large : 256 ≤ n → Fault side n names i (RuleLimit i.place)
  -- the 17th name of a pattern
  many_names : (s : Slot) → side ≡ Pattern → Writes i s → (Named s.name names → ⊥) → 16 ≤ length names → Fault side n names i (RuleLimit i.place)
  -- its fifth segment
  many_segments : (s : Slot) → side ≡ Pattern → Writes i s → s.sign ≡ Segment → (Named s.name names → ⊥) → 4 ≤ segments names → Fault side n names i (RuleLimit i.place)
  -- a name of a template that the pattern lacks
  unbound : (s : Slot) → side ≡ Template → Writes i s → (Named s.name names → ⊥) → Fault side n names i (UnboundName i.place)

-- the name that an atom's octets write, in front of others
abbrev pub name_before : List ℕ → List Slot → List Slot
name_before [] ss = ss
name_before (o ∷ os) ss =
    cond (o == 58) (record { sign = Variable; name = os } ∷ ss)
    (cond (o == 33) (record { sign = Segment; name = os } ∷ ss)
    ss)

-- the names that elements write, as often as they do
abbrev pub written_by : List Item → List Slot
written_by [] = []
written_by (i ∷ is) = elim i.atom [ Some os ↦ name_before os (written_by is) | None ↦ written_by is ]

-- the names of the pattern that stand in front of an element: for one of the pattern those of the elements in front of it, for one of the template all
abbrev pub names_before : Side → (pattern before : List Item) → List Slot
names_before Pattern pattern before = firsts (written_by before)
names_before Template pattern before = firsts (written_by pattern)

-- the element i has a fault, where these of its side stand in front of it
abbrev pub FaultAt : Side → (pattern before : List Item) → Item → Refusal → Type 0
FaultAt side pattern before i k = Fault side (length before) (names_before side pattern before) i k

-- no element has one
abbrev pub Faultless : Side → (pattern is : List Item) → Type 0
Faultless side pattern is = (before behind : List Item) (i : Item) (k : Refusal) → is ≡ before ++ (i ∷ behind) → FaultAt side pattern before i k → ⊥

-- the first element with a fault, and of its faults the one of the smallest number
pub record FirstFault (side : Side) (pattern is : List Item) (k : Refusal) : Type 0 where
  pub before : List Item
  pub item : Item
  pub behind : List Item
  pub stands : is ≡ before ++ (item ∷ behind)
  pub none_before : Faultless side pattern before
  pub fault : FaultAt side pattern before item k
  pub smallest : (j : Refusal) → FaultAt side pattern before item j → number_of k ≤ number_of j

-- a rule is refused by the first fault of its elements in the order of the text
pub data RuleFault (pattern template : List Item) (k : Refusal) : Type 0 where
  in_pattern : FirstFault Pattern pattern pattern k → RuleFault pattern template k
  in_template : Faultless Pattern pattern pattern → FirstFault Template pattern template k → RuleFault pattern template k
