-- A rule without a fault is lawful. Assumes nothing.
use Rattle.std.proofs.Common.{◌≡◌, List, [], length, cond, Ok, Err, Result, sym, refl, ap, ap₂, ◌∙◌, inl, inr, arith}
use Rattle.std.specs.Prelude.{nat_le}
use Rattle.std.proofs.lemmas.Bool.{cases_Bool, cases_eq, ne_eqb, eq-eqb}
use Rattle.sexp.specs.declared.refusals.Refusal.{Refusal}
use Rattle.sexp.specs.declared.refusals.Refusal.TheVariants.{NotAList, BookFull}
use Rattle.sexp.specs.Elements.{none, atom, list, ◌then◌}
use Rattle.holder.specs.Placed.{Placed, nothing, atom_at, list_at, erase, inside, behind, Stands, IsList}
use Rattle.holder.specs.Walks.{first_of}
use Rattle.rules.specs.Bindings.{width}
use Rattle.rules.specs.Patterns.{Rule, written, names}
use Rattle.books.specs.declared.checking.Side.TheVariants.{Pattern, Template}
use Rattle.books.specs.Items.{first_items}
use Rattle.books.specs.Scanning.{scan}
use Rattle.books.specs.Faults.{Faultless}
use Rattle.books.specs.Drafts.{Drafted, rule_of, sides_verdict, rule_verdict, take_verdict, TakesWhatIsWritten}
use Rattle.rules.specs.Lawful.{LawfulRule}
use Rattle.books.proofs.Faults.{side_clean, SidesTold, sides_told}
use Rattle.books.proofs.LawfulRuns.{stands_width, slots_first}
use Rattle.books.proofs.LawfulSide.{agree, bound, few_names, first_written, lawful_side}

-- a run whose first element is a rule without a fault
pub record IsRead (r : Placed) (q : Rule) : Type 0 where
  pub list : IsList r
  pub two : width (erase (inside r)) ≡ 2
  pub pattern : Faultless Pattern (first_items (inside r)) (first_items (inside r))
  pub template : Faultless Template (first_items (inside r)) (first_items (behind (inside r)))
  pub is : q ≡ rule_of (inside r) (behind (inside r))

sides_read : (pattern template : Placed) (q : Rule) → sides_verdict pattern template ≡ Ok q → SidesTold pattern template (Ok q)
sides_read pattern template q e = rw e at (sides_told pattern template)

pub verdict_read : (r : Placed) (q : Rule) → rule_verdict r ≡ Ok q → IsRead r q
verdict_read nothing q e = absurd cc
verdict_read (atom_at p a es) q e = absurd cc
verdict_read (list_at p inner es) q e = elim (cases_eq (width (erase inner)) 2) [
  | inl w ↦
      let told : SidesTold inner (behind inner) (Ok q) = sides_read inner (behind inner) q (rw (eq-eqb _ 2 w) at e) in
      record { list = tt; two = w; pattern = told.0; template = told.1; is = told.2 }
  | inr w ↦ let z : ◌≡◌ {A = Result Rule Refusal} (Err (NotAList p)) (Ok q) = rw (ne_eqb _ 2 w) at e in absurd cc
]

two_stand : (r : Placed) → width (erase r) ≡ 2 → Stands r × Stands (behind r)
two_stand nothing e = absurd (omega arith)
two_stand (atom_at p a es) e = (tt, stands_width es (omega arith))
two_stand (list_at p inner es) e = (tt, stands_width es (omega arith))

module _ (r : Placed) (q : Rule) (e : rule_verdict r ≡ Ok q) where
  read : IsRead r q
  read = verdict_read r q e

  pub verdict_list : IsList r
  verdict_list = read.list

  pub verdict_two : width (erase (inside r)) ≡ 2
  verdict_two = read.two

  stand : Stands (inside r) × Stands (behind (inside r))
  stand = two_stand (inside r) read.two

  -- the sides write the elements that they were read from
  pub verdict_written : (written q.pattern ≡ first_of (inside r)) × (written q.template ≡ first_of (behind (inside r)))
  verdict_written = rw read.is
      (first_written Pattern (first_items (inside r)) (inside r) stand.0 read.pattern, first_written Template (first_items (inside r)) (behind (inside r)) stand.1 read.template)

  pub verdict_names : scan Pattern (record { elements = 0; names = [] }) (first_items (inside r)) ≡ Ok (record { elements = length (first_items (inside r)); names = names q.pattern })
  verdict_names = rw read.is (rw (slots_first (inside r)) (side_clean Pattern (first_items (inside r)) (first_items (inside r)) read.pattern))

  pub verdict_lawful : LawfulRule q
  verdict_lawful =
      let ps = first_items (inside r) in
      let ts = first_items (behind (inside r)) in
      rw read.is (record {
        pattern = lawful_side Pattern ps (inside r) stand.0 read.pattern;
        template = lawful_side Template ps (behind (inside r)) stand.1 read.template;
        names_few = rw (slots_first (inside r)) (few_names ps read.pattern).names;
        segments_few = rw (slots_first (inside r)) (few_names ps read.pattern).segments;
        agree = λ s m. rw (slots_first (inside r)) (agree ps read.pattern s (rw (slots_first (inside r)) at m));
        bound = λ s m. rw (slots_first (inside r)) (bound ps ts read.template s (rw (slots_first (behind (inside r))) at m));
      })

-- a list of two elements is those two
none_part : (r : Placed) → width (erase r) ≡ 0 → erase r ≡ none
none_part nothing e = refl
none_part (atom_at p a es) e = absurd (omega arith)
none_part (list_at p inner es) e = absurd (omega arith)

one_part : (r : Placed) → width (erase r) ≡ 1 → erase r ≡ first_of r
one_part nothing e = absurd (omega arith)
one_part (atom_at p a es) e = ap (atom a) (none_part es (omega arith))
one_part (list_at p inner es) e = ap (list (erase inner)) (none_part es (omega arith))

two_parts : (r : Placed) → width (erase r) ≡ 2 → erase r ≡ first_of r then first_of (behind r)
two_parts nothing e = absurd (omega arith)
two_parts (atom_at p a es) e = ap (atom a) (one_part es (omega arith))
two_parts (list_at p inner es) e = ap (list (erase inner)) (one_part es (omega arith))

rule_written : (r : Placed) (q : Rule) → rule_verdict r ≡ Ok q → first_of r ≡ list (written q.pattern then written q.template) none
rule_written nothing q e = absurd cc
rule_written (atom_at p a es) q e = absurd cc
rule_written (list_at p inner es) q e =
    let w = verdict_written (list_at p inner es) q e in
    ap (λ x. list x none) (two_parts inner (verdict_read (list_at p inner es) q e).two ∙ sym (ap₂ (λ x y. x then y) w.0 w.1))

-- the next rule, if it is taken, is what its element writes
verdict_writes : (taken : List Rule) (r : Placed) (v : Result Rule Refusal) → rule_verdict r ≡ v → TakesWhatIsWritten (record { taken = taken; left = r }) v
verdict_writes taken r (Ok q) e = rule_written r q e
verdict_writes taken r (Err k) e = tt

unless_full : (taken : List Rule) (r : Placed) → TakesWhatIsWritten (record { taken = taken; left = r }) (cond (nat_le 64 (length taken)) (Err BookFull) (rule_verdict r))
unless_full taken r =
    elim (cases_Bool (nat_le 64 (length taken))) [ inl e ↦ rw e tt | inr e ↦ rw e (verdict_writes taken r (rule_verdict r) refl) ]

next_written : (taken : List Rule) (r : Placed) → let d : Drafted = record { taken = taken; left = r } in TakesWhatIsWritten d (take_verdict d)
next_written taken nothing = tt
next_written taken (atom_at p a es) = unless_full taken (atom_at p a es)
next_written taken (list_at p inner es) = unless_full taken (list_at p inner es)

pub taken_written : (d : Drafted) → TakesWhatIsWritten d (take_verdict d)
taken_written d = next_written d.taken d.left
