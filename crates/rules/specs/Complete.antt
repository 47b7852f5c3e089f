-- The complete list of the fits of a book and a record. Assumes nothing.
use Rattle.std.specs.Prelude.{◌≡◌, ◌≤◌, ◌⊎◌, List, [], ◌∷◌}
use Rattle.sexp.specs.Elements.{Elements}
use Rattle.rules.specs.Patterns.{Rule, names, segments}
use Rattle.rules.specs.Fits.{Numbered, BookFit}
use Rattle.rules.specs.Keys.{Key, key, Before}

-- x is in a list
abbrev pub In : {A : Type 0} → A → List A → Type 0
In x [] = ⊥
In x (y ∷ ys) = (x ≡ y) ⊎ In x ys

-- the key k comes before those of a list
abbrev pub BeforeAll : Key → List Numbered → Type 0
BeforeAll k [] = Unit {0}
BeforeAll k (g ∷ gs) = Before k (key g) × BeforeAll k gs

-- each one's key comes before those of all behind it: the list is in order, and has nothing twice
abbrev pub InOrder : List Numbered → Type 0
InOrder [] = Unit {0}
InOrder (f ∷ fs) = BeforeAll (key f) fs × InOrder fs

-- the complete list of a book and a record: every rule with every one of its fits, once each, in the order of keys, and nothing else
pub record Complete (book : List Rule) (e : Elements) (fits : List Numbered) : Type 0 where
  pub each : (f : Numbered) → BookFit book e f → In f fits
  pub only : (f : Numbered) → In f fits → BookFit book e f
  pub in_order : InOrder fits

-- each rule has at most four segments
abbrev pub FewSegments : List Rule → Type 0
FewSegments [] = Unit {0}
FewSegments (r ∷ rs) = (segments (names r.pattern) ≤ 4) × FewSegments rs

-- two fits of one book and one record never share a key
abbrev pub KeysTellFits : Type 0
KeysTellFits =
    (book : List Rule) (e : Elements) (f g : Numbered) → FewSegments book → BookFit book e f → BookFit book e g → key f ≡ key g → f ≡ g

-- at most one list is the complete one
abbrev pub AtMostOneComplete : Type 0
AtMostOneComplete = (book : List Rule) (e : Elements) (fs gs : List Numbered) → Complete book e fs → Complete book e gs → fs ≡ gs

-- there is a complete list of every book whose rules have at most four segments, and every record
abbrev pub CompleteListExists : Type 0
CompleteListExists = (book : List Rule) (e : Elements) → FewSegments book → (fits : List Numbered) × Complete book e fits
