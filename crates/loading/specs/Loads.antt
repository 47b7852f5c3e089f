-- What loading answers and leaves, and what is promised of it. Assumes nothing.
use Rattle.std.specs.Prelude.{◌≡◌, ℕ, ◌+◌, ◌≤◌, List, take, drop, Ok, Err, Result}
use Rattle.sexp.specs.declared.refusals.Refusal.{Refusal}
use Rattle.sexp.specs.Elements.{Elements, count, Within, Sized}
use Rattle.sexp.specs.Grammar.{CSexp}
use Rattle.sexp.specs.Reading.{Verdict, accepted, rejected}
use Rattle.tables.specs.declared.nodes.Node.{Node}
use Rattle.tables.specs.Nodes.{Table}
use Rattle.loading.specs.Lacking.{Unloaded}
use Rattle.loading.specs.Laid.{nodes_from}

-- the answer for a verdict: the first node, which is the old mark
abbrev pub told : (old : ℕ) → Verdict → Result ℕ Refusal
told old (accepted e) = Ok old
told old (rejected k) = Err k

-- the mark afterwards: a node more for each element, or as it was
abbrev pub marked : (old : ℕ) → Verdict → ℕ
marked old (accepted e) = old + count e
marked old (rejected k) = old

-- the nodes from the old mark on, as many as the record that was read has elements, are exactly those of its text, which begins at the offset 0; and they are its table, with the text beside it
abbrev pub Tabled : (text : List ℕ) (old : ℕ) (after : List Node) → Verdict → Type 0
Tabled text old after (accepted e) = (take (count e) (drop old after) ≡ nodes_from 0 e) × Table text (take (count e) (drop old after)) e
Tabled text old after (rejected k) = Unit {0}

-- a text was loaded: it is a record's canonical text within the limits, each element has a node, and from the old mark to the new lie exactly the nodes of its text, which are the record's table
pub record Loaded (room : ℕ) (text : List ℕ) (old used : ℕ) (after : List Node) : Type 0 where
  pub root : Elements
  pub derived : CSexp text root
  pub within : Within root
  pub sized : Sized text
  pub fits : count root ≤ room
  pub mark : used ≡ old + count root
  pub nodes : take (count root) (drop old after) ≡ nodes_from 0 root
  pub table : Table text (take (count root) (drop old after)) root

-- a text is loaded, behind the nodes used before, exactly when it is a record's canonical text within the limits and there is an unused node for each element
abbrev pub LoadedExactly : (room : ℕ) (text : List ℕ) (old used : ℕ) (after : List Node) → Result ℕ Refusal → Type 0
LoadedExactly room text old used after r =
    ((first : ℕ) → r ≡ Ok first → (first ≡ old) × Loaded room text old used after) × ((e : Elements) → CSexp text e → Within e → Sized text → count e ≤ room → r ≡ Ok old)

-- a text is not loaded exactly by its own first fault, or for the first element without a node, whichever comes first
abbrev pub UnloadedAsListed : (room : ℕ) (text : List ℕ) → Result ℕ Refusal → Type 0
UnloadedAsListed room text r = (k : Refusal) → (r ≡ Err k → Unloaded room text k) × (Unloaded room text k → r ≡ Err k)
