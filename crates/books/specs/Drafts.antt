-- Drafts of books, and what becomes of the next rule. Assumes nothing.
use Rattle.std.specs.Prelude.{◌≡◌, ℕ, ◌+◌, ◌<◌, ◌≤◌, cond, not, List, [], ◌∷◌, ◌++◌, length, ◌==◌, nat_le, Ok, Err, Result}
use Rattle.sexp.specs.declared.refusals.Refusal.{Refusal}
use Rattle.sexp.specs.declared.refusals.Refusal.TheVariants.{NotAList, BookFull, NoRule}
use Rattle.sexp.specs.Elements.{Atom, none, atom, list, ◌then◌}
use Rattle.sexp.specs.Reading.{Verdict, accepted, rejected}
use Rattle.holder.specs.Placed.{Placed, nothing, atom_at, list_at, erase, inside, behind, Stands}
use Rattle.holder.specs.Walks.{first_of}
use Rattle.texts.specs.Label.{text_tree}
use Rattle.rules.specs.Bindings.{width}
use Rattle.rules.specs.Patterns.{Rule, written, pattern_of}
use Rattle.books.specs.declared.checking.Side.TheVariants.{Pattern, Template}
use Rattle.books.specs.Items.{first_items}
use Rattle.books.specs.Scanning.{scan}
use Rattle.books.specs.Faults.{RuleFault}

-- a draft: the rules taken, and the run of elements that are left, the next rule first, each placed at its offset
pub record Drafted : Type 0 where
  pub taken : List Rule
  pub left : Placed

-- the draft of a text: no rule is taken
abbrev pub begun : List ℕ → Drafted
begun text = record { taken = []; left = inside (text_tree text) }

-- why a draft can't begin, where a text of this verdict is handed in
abbrev pub beginning : Verdict → Result (Unit {0}) Refusal
beginning (rejected k) = Err k
beginning (accepted none) = Err (NotAList 0)
beginning (accepted (atom a es)) = Err (NotAList 0)
beginning (accepted (list inner es)) = Ok tt

-- the draft afterwards
abbrev pub begun_or : Result (Unit {0}) Refusal → (fresh old : Drafted) → Drafted
begun_or (Ok done) fresh old = fresh
begun_or (Err k) fresh old = old

-- the rule whose pattern and template are the first elements of two runs
abbrev pub rule_of : (pattern template : Placed) → Rule
rule_of pattern template = record { pattern = pattern_of (first_of pattern); template = pattern_of (first_of template) }

-- what is read of the two sides
abbrev pub sides_verdict : (pattern template : Placed) → Result Rule Refusal
sides_verdict pattern template =
    elim (scan Pattern (record { elements = 0; names = [] }) (first_items pattern)) [
      | Err k ↦ Err k
      | Ok seen ↦ elim (scan Template (record { elements = 0; names = seen.names }) (first_items template)) [
        | Err k ↦ Err k
        | Ok done ↦ Ok (rule_of pattern template)
      ]
    ]

-- the next rule of a draft: it is a list of two elements, and neither side has a fault; and why it is refused
abbrev pub rule_verdict : Placed → Result Rule Refusal
rule_verdict nothing = Err NoRule
rule_verdict (atom_at p a es) = Err (NotAList p)
rule_verdict (list_at p inner es) =
    cond (not (width (erase inner) == 2)) (Err (NotAList p)) (sides_verdict inner (behind inner))

-- the verdict on the next rule: none is left, 64 are taken, or its own
abbrev pub take_verdict : Drafted → Result Rule Refusal
take_verdict d = elim d.left [
  | nothing ↦ Err NoRule
  | atom_at p a es ↦ cond (nat_le 64 (length d.taken)) (Err BookFull) (rule_verdict (atom_at p a es))
  | list_at p inner es ↦ cond (nat_le 64 (length d.taken)) (Err BookFull) (rule_verdict (list_at p inner es))
]

-- what taking it answers: its number
abbrev pub numbered : Drafted → Result Rule Refusal → Result ℕ Refusal
numbered d (Ok r) = Ok (length d.taken + 1)
numbered d (Err k) = Err k

-- and the draft afterwards: the rule is taken, or all is as it was
abbrev pub taking : Drafted → Result Rule Refusal → Drafted
taking d (Ok r) = record { taken = d.taken ++ (r ∷ []); left = behind d.left }
taking d (Err k) = d

-- what passing the next rule by answers, and the draft afterwards
abbrev pub skip_answer : Drafted → Result (Unit {0}) Refusal
skip_answer d = elim d.left [ nothing ↦ Err NoRule | atom_at p a es ↦ Ok tt | list_at p inner es ↦ Ok tt ]

abbrev pub skipped : Drafted → Drafted
skipped d = record { taken = d.taken; left = behind d.left }

-- the next rule is refused: none is left, 64 are taken, it is no list of two, or one of its elements has a fault
pub data TakeRefused (d : Drafted) : Refusal → Type 0 where
  none_left : d.left ≡ nothing → TakeRefused d NoRule
  full : Stands d.left → 64 ≤ length d.taken → TakeRefused d BookFull
  no_list : {p : ℕ} {a : Atom} {es : Placed} → d.left ≡ atom_at p a es → length d.taken < 64 → TakeRefused d (NotAList p)
  not_two : {p : ℕ} {inner es : Placed} → d.left ≡ list_at p inner es → length d.taken < 64 → (width (erase inner) ≡ 2 → ⊥) → TakeRefused d (NotAList p)
  faulty : {p : ℕ} {inner es : Placed} {k : Refusal} → d.left ≡ list_at p inner es → length d.taken < 64 → width (erase inner) ≡ 2
      → RuleFault (first_items inner) (first_items (behind inner)) k → TakeRefused d k

-- a rule is refused exactly as listed
abbrev pub TakeRefusedAsListed : Drafted → Result ℕ Refusal → Type 0
TakeRefusedAsListed d r = (k : Refusal) → (r ≡ Err k → TakeRefused d k) × (TakeRefused d k → r ≡ Err k)

-- a rule that is taken is what the element that was next writes
abbrev pub TakesWhatIsWritten : Drafted → Result Rule Refusal → Type 0
TakesWhatIsWritten d (Ok r) = first_of d.left ≡ list (written r.pattern then written r.template) none
TakesWhatIsWritten d (Err k) = Unit {0}
