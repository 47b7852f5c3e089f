-- Patterns, and the records that write them. A template is written as a pattern. Assumes nothing.
use Rattle.std.specs.Prelude.{ℕ, suc, cond, List, [], ◌∷◌, ◌++◌, ◌==◌}
use Rattle.std.specs.Str.{bytes_eq}
use Rattle.sexp.specs.Elements.{Atom, octets, Elements, none, atom, list, ◌then◌}
use Rattle.rules.specs.declared.signs.Sign.{Sign}
use Rattle.rules.specs.declared.signs.Sign.TheVariants.{Variable, Segment}

-- a run of a pattern's elements: an atom, a name, a list of elements, and those behind it
pub data Pattern : Type 0 where
  done : Pattern
  constant : Atom → Pattern → Pattern
  slot : Sign → List ℕ → Pattern → Pattern
  group : Pattern → Pattern → Pattern

-- the octet that makes an atom a constant ('), a variable (:), a segment (!)
abbrev pub quote : ℕ
quote = 39

abbrev pub sign_octet : Sign → ℕ
sign_octet Variable = 58
sign_octet Segment = 33

-- the elements that write a pattern
abbrev pub written : Pattern → Elements
written done = none
written (constant (octets os) p) = atom (octets (quote ∷ os)) (written p)
written (slot sign name p) = atom (octets (sign_octet sign ∷ name)) (written p)
written (group inner p) = list (written inner) (written p)

-- the pattern that elements write; an atom without a sign writes nothing
abbrev pub read_atom : List ℕ → Pattern → Pattern
read_atom [] p = p
read_atom (o ∷ os) p =
    cond (o == 39) (constant (octets os) p)
    (cond (o == 58) (slot Variable os p)
    (cond (o == 33) (slot Segment os p)
    p))

abbrev pub pattern_of : Elements → Pattern
pattern_of none = done
pattern_of (atom (octets os) es) = read_atom os (pattern_of es)
pattern_of (list inner es) = group (pattern_of inner) (pattern_of es)

-- a name with its sign
pub record Slot : Type 0 where
  pub sign : Sign
  pub name : List ℕ

-- the names of a pattern, as often as it has them, in the order of the text
abbrev pub slots : Pattern → List Slot
slots done = []
slots (constant a p) = slots p
slots (slot sign name p) = record { sign = sign; name = name } ∷ slots p
slots (group inner p) = slots inner ++ slots p

-- those of other names
abbrev pub without : List ℕ → List Slot → List Slot
without name [] = []
without name (s ∷ ss) = cond (bytes_eq name s.name) (without name ss) (s ∷ without name ss)

-- each name once, where it occurs first
abbrev pub firsts : List Slot → List Slot
firsts [] = []
firsts (s ∷ ss) = s ∷ without s.name (firsts ss)

abbrev pub names : Pattern → List Slot
names p = firsts (slots p)

-- how many of them are segments
abbrev pub segments : List Slot → ℕ
segments [] = 0
segments (s ∷ ss) = elim s.sign [ Variable ↦ segments ss | Segment ↦ suc (segments ss) ]

-- a rule
pub record Rule : Type 0 where
  pub pattern : Pattern
  pub template : Pattern

-- each element of a run, as a run of its own
abbrev pub each_alone : Elements → List Elements
each_alone none = []
each_alone (atom a es) = atom a none ∷ each_alone es
each_alone (list inner es) = list inner none ∷ each_alone es

-- the rules that a run writes: a list of two elements writes a rule, its pattern and its template; anything else writes none
abbrev pub rule_of : List Elements → List Rule
rule_of [] = []
rule_of (p ∷ []) = []
rule_of (p ∷ (t ∷ [])) = record { pattern = pattern_of p; template = pattern_of t } ∷ []
rule_of (p ∷ (t ∷ (e ∷ es))) = []

abbrev pub rules_in : Elements → List Rule
rules_in none = []
rules_in (atom a es) = rules_in es
rules_in (list inner es) = rule_of (each_alone inner) ++ rules_in es

-- the rules of a book: it is a list of rules; an atom has none
abbrev pub rules_of : Elements → List Rule
rules_of none = []
rules_of (atom a es) = []
rules_of (list book es) = rules_in book

-- the record that writes a book
abbrev pub rules_written : List Rule → Elements
rules_written [] = none
rules_written (r ∷ rs) = list (written r.pattern then written r.template) (rules_written rs)

abbrev pub book_written : List Rule → Elements
book_written rs = list (rules_written rs) none
