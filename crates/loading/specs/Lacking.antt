-- Which element of a text finds no unused node, and the one verdict on loading a text. Assumes nothing.
use Rattle.std.specs.Prelude.{ℕ, zero, suc, ◌+◌, ◌-◌, ◌≤◌, true, false, List, [], ◌∷◌, ◌++◌, length, Some, None, Option}
use Rattle.sexp.specs.declared.refusals.Refusal.{Refusal}
use Rattle.sexp.specs.declared.refusals.Refusal.TheVariants.{TextLength, NoNode}
use Rattle.sexp.specs.Elements.{Sized}
use Rattle.sexp.specs.Faults.{Due, Room, Passed, Fault}
use Rattle.sexp.specs.Grammar.{Verbatim}
use Rattle.sexp.specs.Reading.{opening, closing, string, fault, lexeme, Verdict, rejected, missized, verdict}
use Rattle.tables.specs.declared.nodes.Node.{Node}

-- how many nodes are unused: those behind the used ones, which are at the front; a mark past the end leaves none
abbrev pub unused : (nodes : List Node) (used : ℕ) → ℕ
unused nodes used = length nodes - used

-- where depth lists are open and count elements have begun, an element begins here without a fault in its own octets: a list's own octet is its opening, an atom's are its whole text
pub data Begun (depth count : ℕ) : List ℕ → Type 0 where
  list : {rest : List ℕ} → Due depth count → Room depth count → Begun depth count (40 ∷ rest)
  atom : {t os : List ℕ} (rest : List ℕ) → Due depth count → Room depth count → Verbatim t os → length os ≤ 1024 → Begun depth count (t ++ rest)

-- where room nodes are unused, the element at the offset `at` is the first without one: tokens without a fault lead to it, room elements have begun before it, and its own octets have no fault
pub record Lacks (room : ℕ) (text : List ℕ) (at : ℕ) : Type 0 where
  pub depth : ℕ
  pub rest : List ℕ
  pub passed : Passed text at depth room rest
  pub begun : Begun depth room rest

-- a text is not loaded where room nodes are unused, and why
pub data Unloaded (room : ℕ) (text : List ℕ) : Refusal → Type 0 where
  -- for its length
  unsized : (Sized text → ⊥) → Unloaded room text TextLength
  -- for its first fault, where each element that has begun before has a node
  faulty : {at depth count : ℕ} {rest : List ℕ} {k : Refusal} → Sized text → Passed text at depth count rest → Fault (length text) at depth count rest k → count ≤ room → Unloaded room text k
  -- for the first element without a node
  roomless : {at : ℕ} → Sized text → Lacks room text at → Unloaded room text (NoNode at)

-- where left nodes are unused: none is left for the element at the offset `at`, or it takes one, and what comes later decides
abbrev pub taken : (left at : ℕ) → Option ℕ → Option ℕ
taken zero at later = Some at
taken (suc left) at later = later

-- the offset of the first element that is without a node, read from the offset `at` on, where left nodes are unused and the next skip octets belong to an atom
abbrev pub lacking : (end left skip depth count at : ℕ) → List ℕ → Option ℕ
lacking end left skip depth count at [] = None
lacking end left zero depth count at (o ∷ rest) =
    elim (lexeme end depth count at (o ∷ rest)) [
      | opening ↦ taken left at (lacking end (left - 1) 0 (depth + 1) (count + 1) (at + 1) rest)
      | closing ↦ lacking end left 0 (depth - 1) count (at + 1) rest
      | string os more ↦ taken left at (lacking end (left - 1) more depth (count + 1) (at + 1) rest)
      | fault r ↦ None
    ]
lacking end left (suc skip) depth count at (o ∷ rest) = lacking end left skip depth count (at + 1) rest

-- a verdict, unless an element is without a node
abbrev pub placing : Option ℕ → Verdict → Verdict
placing (Some at) v = rejected (NoNode at)
placing None v = v

-- the verdict on a text for which room nodes are unused: its own, unless an element is without a node before any fault
abbrev pub load_verdict : (room : ℕ) → List ℕ → Verdict
load_verdict room t =
    elim (missized t) [
      | true ↦ rejected TextLength
      | false ↦ placing (lacking (length t) room 0 0 0 0 t) (verdict t)
    ]
