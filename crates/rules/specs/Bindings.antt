-- What a pattern's names stand for, and filling. Assumes nothing.
use Rattle.std.specs.Prelude.{ℕ, suc, cond, List, [], ◌∷◌}
use Rattle.std.specs.Str.{bytes_eq}
use Rattle.sexp.specs.Elements.{Elements, none, atom, list, ◌then◌, Record}
use Rattle.rules.specs.declared.signs.Sign.{Sign}
use Rattle.rules.specs.declared.signs.Sign.TheVariants.{Variable, Segment}
use Rattle.rules.specs.Patterns.{Pattern, done, constant, slot, group, Slot}

-- a name with its sign, and what it stands for: a variable for a run of one element, a segment for any run
pub record Binding : Type 0 where
  pub slot : Slot
  pub run : Elements

-- a name of a sign stands for a run
abbrev pub binding : Sign → List ℕ → Elements → Binding
binding sign name run = record { slot = record { sign = sign; name = name }; run = run }

-- what a name stands for; nothing where it has no binding
abbrev pub value : List ℕ → List Binding → Elements
value name [] = none
value name (b ∷ bs) = cond (bytes_eq name b.slot.name) b.run (value name bs)

-- a pattern filled: a constant gives its atom, a name what it stands for, a list the list of its filled elements
abbrev pub fill : List Binding → Pattern → Elements
fill bs done = none
fill bs (constant a p) = atom a (fill bs p)
fill bs (slot sign name p) = value name bs then fill bs p
fill bs (group inner p) = list (fill bs inner) (fill bs p)

-- the names that are bound
abbrev pub bound : List Binding → List Slot
bound [] = []
bound (b ∷ bs) = b.slot ∷ bound bs

-- each variable stands for one element
abbrev pub Single : Slot → Elements → Type 0
Single s run = elim s.sign [ Variable ↦ Record run | Segment ↦ Unit {0} ]

abbrev pub Singles : List Binding → Type 0
Singles [] = Unit {0}
Singles (b ∷ bs) = Single b.slot b.run × Singles bs

-- how many elements a run has, those inside its lists not counted
abbrev pub width : Elements → ℕ
width none = 0
width (atom a es) = suc (width es)
width (list inner es) = suc (width es)

-- the lengths of the segments
abbrev pub lengths : List Binding → List ℕ
lengths [] = []
lengths (b ∷ bs) = elim b.slot.sign [ Variable ↦ lengths bs | Segment ↦ width b.run ∷ lengths bs ]
