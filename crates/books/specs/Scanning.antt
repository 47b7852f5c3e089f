-- A side of a rule, passed element by element: the first fault, or the names of its pattern. Assumes nothing.
use Rattle.std.specs.Prelude.{ℕ, ◌+◌, Bool, true, false, cond, not, ◌&&◌, ◌||◌, List, [], ◌∷◌, ◌++◌, length, ◌==◌, nat_lt, nat_le, Option, Some, None, Ok, Err, Result}
use Rattle.std.specs.Str.{bytes_eq}
use Rattle.sexp.specs.declared.refusals.Refusal.{Refusal}
use Rattle.sexp.specs.declared.refusals.Refusal.TheVariants.{UnknownSign, NameLength, WholeSegment, OtherSign, RuleLimit, UnboundName}
use Rattle.rules.specs.declared.signs.Sign.{Sign}
use Rattle.rules.specs.declared.signs.Sign.TheVariants.{Variable, Segment}
use Rattle.rules.specs.Patterns.{Slot, segments}
use Rattle.books.specs.declared.checking.Side.{Side}
use Rattle.books.specs.declared.checking.Side.TheVariants.{Pattern, Template}
use Rattle.books.specs.Items.{Item}

-- what has been passed: how many elements of this side, and which names of the pattern
pub record Seen : Type 0 where
  pub elements : ℕ
  pub names : List Slot

abbrev pub is_segment : Sign → Bool
is_segment Variable = false
is_segment Segment = true

abbrev pub differ : Sign → Sign → Bool
differ Variable s = is_segment s
differ Segment s = not (is_segment s)

-- the sign of a name among those that have been passed
abbrev pub sign_of : List ℕ → List Slot → Option Sign
sign_of name [] = None
sign_of name (s ∷ ss) = cond (bytes_eq name s.name) (Some s.sign) (sign_of name ss)

-- one more name of this sign passes a limit
abbrev pub crowded : Sign → List Slot → Bool
crowded sign names = nat_le 16 (length names) || (is_segment sign && nat_le 4 (segments names))

-- one more element, unless it passes the limit
abbrev pub scan_element : Seen → ℕ → Result Seen Refusal
scan_element seen at =
    cond (nat_le 256 seen.elements) (Err (RuleLimit at)) (Ok (record { elements = seen.elements + 1; names = seen.names }))

-- a name that has not been passed before
abbrev pub scan_new : Side → Seen → ℕ → Slot → Result Seen Refusal
scan_new Pattern seen at s =
    cond (nat_le 256 seen.elements || crowded s.sign seen.names) (Err (RuleLimit at))
    (Ok (record { elements = seen.elements + 1; names = seen.names ++ (s ∷ []) }))
scan_new Template seen at s = cond (nat_le 256 seen.elements) (Err (RuleLimit at)) (Err (UnboundName at))

abbrev pub scan_known : Side → Seen → ℕ → Slot → Option Sign → Result Seen Refusal
scan_known side seen at s (Some sign) = cond (differ sign s.sign) (Err (OtherSign at)) (scan_element seen at)
scan_known side seen at s None = scan_new side seen at s

abbrev pub scan_name : Side → Seen → ℕ → Slot → Result Seen Refusal
scan_name side seen at s =
    cond (length s.name == 0 || nat_lt 32 (length s.name)) (Err (NameLength at))
    (cond (is_segment s.sign && seen.elements == 0) (Err (WholeSegment at))
    (scan_known side seen at s (sign_of s.name seen.names)))

abbrev pub scan_atom : Side → Seen → ℕ → List ℕ → Result Seen Refusal
scan_atom side seen at [] = Err (UnknownSign at)
scan_atom side seen at (o ∷ os) =
    cond (o == 39) (scan_element seen at)
    (cond (o == 58) (scan_name side seen at (record { sign = Variable; name = os }))
    (cond (o == 33) (scan_name side seen at (record { sign = Segment; name = os }))
    (Err (UnknownSign at))))

abbrev pub scan_item : Side → Seen → Item → Result Seen Refusal
scan_item side seen i = elim i.atom [ Some os ↦ scan_atom side seen i.place os | None ↦ scan_element seen i.place ]

-- the elements one after another, up to the first fault
abbrev pub scan : Side → Seen → List Item → Result Seen Refusal
scan side seen [] = Ok seen
scan side seen (i ∷ is) = elim (scan_item side seen i) [ Ok next ↦ scan side next is | Err k ↦ Err k ]
