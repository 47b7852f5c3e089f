-- Elements, the records that they make, and the limits. Assumes nothing.
use Rattle.std.specs.Prelude.{◌≡◌, ℕ, ◌+◌, ◌≤◌, max, List, length}

-- what an atom carries: its octets, numbers below 256
pub data Atom : Type 0 where
  octets : List ℕ → Atom

-- a run of elements, each an atom or a list of elements: `atom a es` is the atom a and then es, `list inner es` the list of inner and then es
pub data Elements : Type 0 where
  none : Elements
  atom : Atom → Elements → Elements
  list : Elements → Elements → Elements

-- one run and then another
infixr 40 ◌then◌
abbrev pub ◌then◌ : Elements → Elements → Elements
none then fs = fs
atom a es then fs = atom a (es then fs)
list inner es then fs = list inner (es then fs)

-- a record is a run of one element, its root
abbrev pub Record : Elements → Type 0
Record none = ⊥
Record (atom a es) = es ≡ none
Record (list inner es) = es ≡ none

-- two runs are the same: atoms of equal octets and lists of the same elements, in the same order
abbrev pub Same : Elements → Elements → Type 0
Same none none = Unit {0}
Same none (atom b fs) = ⊥
Same none (list other fs) = ⊥
Same (atom a es) none = ⊥
Same (atom a es) (atom b fs) = (a ≡ b) × Same es fs
Same (atom a es) (list other fs) = ⊥
Same (list inner es) none = ⊥
Same (list inner es) (atom b fs) = ⊥
Same (list inner es) (list other fs) = Same inner other × Same es fs

-- how many elements a run has, those inside its lists counted
abbrev pub count : Elements → ℕ
count none = 0
count (atom a es) = 1 + count es
count (list inner es) = 1 + count inner + count es

-- how deep a run goes: its own elements are at depth 1, those of a list one deeper than the list
abbrev pub depth : Elements → ℕ
depth none = 0
depth (atom a es) = max 1 (depth es)
depth (list inner es) = max (1 + depth inner) (depth es)

-- how many octets an atom has
abbrev pub size : Atom → ℕ
size (octets os) = length os

-- each atom has at most 1,024 octets
abbrev pub ShortAtoms : Elements → Type 0
ShortAtoms none = Unit {0}
ShortAtoms (atom a es) = (size a ≤ 1024) × ShortAtoms es
ShortAtoms (list inner es) = ShortAtoms inner × ShortAtoms es

-- the limits of a record
pub record Within (root : Elements) : Type 0 where
  pub few : count root ≤ 4096
  pub shallow : depth root ≤ 32
  pub short : ShortAtoms root

-- the limits of a text
pub record Sized (text : List ℕ) : Type 0 where
  pub some : 1 ≤ length text
  pub most : length text ≤ 32768
