-- A rule is refused exactly as the list of faults says. Assumes nothing.
use Rattle.std.proofs.Common.{◌≡◌, ℕ, ◌<◌, ◌≤◌, List, [], length, Ok, Err, Result, sym, refl, ap, ◌∙◌, subst, inl, inr}
use Rattle.std.proofs.lemmas.Bool.{cases_lt, cases_eq, ne_eqb, eq-eqb, le-leb, lt-leb}
use Rattle.sexp.specs.declared.refusals.Refusal.{Refusal}
use Rattle.sexp.specs.declared.refusals.Refusal.TheVariants.{NotAList, BookFull, NoRule}
use Rattle.sexp.specs.Elements.{Atom}
use Rattle.holder.specs.Placed.{Placed, nothing, atom_at, list_at, erase, behind, Stands}
use Rattle.rules.specs.Bindings.{width}
use Rattle.rules.specs.Patterns.{Rule}
use Rattle.books.specs.declared.checking.Side.{Side}
use Rattle.books.specs.declared.checking.Side.TheVariants.{Pattern, Template}
use Rattle.books.specs.Items.{Item, first_items}
use Rattle.books.specs.Scanning.{Seen, scan}
use Rattle.books.specs.Faults.{Faultless, RuleFault}
use Rattle.books.specs.Drafts.{Drafted, rule_of, sides_verdict, take_verdict, numbered, TakeRefused, TakeRefusedAsListed}
use Rattle.books.proofs.FaultsItem.{seen_at}
use Rattle.books.proofs.FaultsSide.{Scanned, scanned, faultless_none, first_same, faultless_first}

err_same : {A : Type 0} {k j : Refusal} → ◌≡◌ {A = Result A Refusal} (Err k) (Err j) → k ≡ j
err_same e = cc

numbered_refused : (d : Drafted) (v : Result Rule Refusal) (k : Refusal) → numbered d v ≡ Err k → v ≡ Err k
numbered_refused d (Ok r) k e = absurd cc
numbered_refused d (Err j) k e = ap Err (err_same e)

-- a side, from its first element on
pub side_told : (side : Side) (pattern is : List Item) → Scanned side pattern is (scan side (seen_at side pattern []) is)
side_told side pattern is = scanned side pattern is [] (faultless_none side pattern)

-- one without a fault is passed
pub side_clean : (side : Side) (pattern is : List Item) → Faultless side pattern is → scan side (seen_at side pattern []) is ≡ Ok (seen_at side pattern is)
side_clean side pattern is clean = go (scan side (seen_at side pattern []) is) (side_told side pattern is)
  where
    go : (r : Result Seen Refusal) → Scanned side pattern is r → r ≡ Ok (seen_at side pattern is)
    go (Err k) told = absurd (faultless_first side pattern is k clean told)
    go (Ok seen) told = ap Ok told.1

-- the two sides
abbrev pub SidesTold : (pattern template : Placed) → Result Rule Refusal → Type 0
SidesTold pattern template (Err k) = RuleFault (first_items pattern) (first_items template) k
SidesTold pattern template (Ok r) =
    Faultless Pattern (first_items pattern) (first_items pattern) × Faultless Template (first_items pattern) (first_items template) × (r ≡ rule_of pattern template)

pub sides_told : (pattern template : Placed) → SidesTold pattern template (sides_verdict pattern template)
sides_told pattern template = first (scan Pattern (record { elements = 0; names = [] }) ps) refl (side_told Pattern ps ps)
  where
    ps : List Item
    ps = first_items pattern

    ts : List Item
    ts = first_items template

    second : Faultless Pattern ps ps → (r : Result Seen Refusal) → scan Template (seen_at Template ps []) ts ≡ r → Scanned Template ps ts r
        → SidesTold pattern template (elim (scan Template (seen_at Template ps []) ts) [ Err k ↦ Err k | Ok done ↦ Ok (rule_of pattern template) ])
    second clean (Err k) e told = rw e (RuleFault.in_template clean told)
    second clean (Ok done) e told = rw e (clean, told.0, refl)

    first : (r : Result Seen Refusal) → scan Pattern (record { elements = 0; names = [] }) ps ≡ r → Scanned Pattern ps ps r → SidesTold pattern template (sides_verdict pattern template)
    first (Err k) e told = rw (e, sides_verdict) (RuleFault.in_pattern told)
    first (Ok seen) e told = rw (e, sides_verdict) (rw (ap (λ s. s.names) told.1) (second told.0 (scan Template (seen_at Template ps []) ts) refl (side_told Template ps ts)))

-- at most one refusal is the fault of a rule
rule_same : (ps ts : List Item) (k j : Refusal) → RuleFault ps ts k → RuleFault ps ts j → k ≡ j
rule_same ps ts k j (RuleFault.in_pattern f) (RuleFault.in_pattern g) = first_same Pattern ps ps k j f g
rule_same ps ts k j (RuleFault.in_pattern f) (RuleFault.in_template h g) = absurd (faultless_first Pattern ps ps k h f)
rule_same ps ts k j (RuleFault.in_template h f) (RuleFault.in_pattern g) = absurd (faultless_first Pattern ps ps j h g)
rule_same ps ts k j (RuleFault.in_template h f) (RuleFault.in_template i g) = first_same Template ps ts k j f g

rule_faultless : (ps ts : List Item) (k : Refusal) → Faultless Pattern ps ps → Faultless Template ps ts → RuleFault ps ts k → ⊥
rule_faultless ps ts k h i (RuleFault.in_pattern f) = faultless_first Pattern ps ps k h f
rule_faultless ps ts k h i (RuleFault.in_template g f) = faultless_first Template ps ts k i f

pub sides_listed : (pattern template : Placed) (k : Refusal) → RuleFault (first_items pattern) (first_items template) k → sides_verdict pattern template ≡ Err k
sides_listed pattern template k f = go (sides_verdict pattern template) (sides_told pattern template)
  where
    go : (r : Result Rule Refusal) → SidesTold pattern template r → r ≡ Err k
    go (Err j) told = ap Err (rule_same (first_items pattern) (first_items template) j k told f)
    go (Ok r) told = absurd (rule_faultless (first_items pattern) (first_items template) k told.0 told.1 f)

pub sides_refused : (pattern template : Placed) (k : Refusal) → sides_verdict pattern template ≡ Err k → RuleFault (first_items pattern) (first_items template) k
sides_refused pattern template k e = rw e at (sides_told pattern template)

-- the next rule
module _ (d : Drafted) where
  verdict_none : d.left ≡ nothing → take_verdict d ≡ Err NoRule
  verdict_none e = rw (e, take_verdict)

  verdict_full : (left : Placed) → d.left ≡ left → Stands left → 64 ≤ length d.taken → take_verdict d ≡ Err BookFull
  verdict_full nothing e s h = absurd s
  verdict_full (atom_at p a es) e s h = rw (e, take_verdict, le-leb 64 _ h)
  verdict_full (list_at p inner es) e s h = rw (e, take_verdict, le-leb 64 _ h)

  verdict_atom : (p : ℕ) (a : Atom) (es : Placed) → d.left ≡ atom_at p a es → length d.taken < 64 → take_verdict d ≡ Err (NotAList p)
  verdict_atom p a es e h = rw (e, take_verdict, lt-leb 64 _ h)

  verdict_width : (p : ℕ) (inner es : Placed) → d.left ≡ list_at p inner es → length d.taken < 64 → (width (erase inner) ≡ 2 → ⊥) → take_verdict d ≡ Err (NotAList p)
  verdict_width p inner es e h w = rw (e, take_verdict, lt-leb 64 _ h, ne_eqb _ 2 w)

  verdict_sides : (p : ℕ) (inner es : Placed) → d.left ≡ list_at p inner es → length d.taken < 64 → width (erase inner) ≡ 2 → take_verdict d ≡ sides_verdict inner (behind inner)
  verdict_sides p inner es e h w = rw (e, take_verdict, lt-leb 64 _ h, eq-eqb _ 2 w)

  -- from the verdict to the list
  refused : (k : Refusal) → take_verdict d ≡ Err k → TakeRefused d k
  refused k v = go d.left refl
    where
      same : (j : Refusal) → take_verdict d ≡ Err j → TakeRefused d j → TakeRefused d k
      same j w h = subst (TakeRefused d) (err_same (sym w ∙ v)) h

      full : Stands d.left → 64 ≤ length d.taken → TakeRefused d k
      full s h = same BookFull (verdict_full d.left refl s h) (TakeRefused.full s h)

      go : (left : Placed) → d.left ≡ left → TakeRefused d k
      go nothing e = same NoRule (verdict_none e) (TakeRefused.none_left e)
      go (atom_at p a es) e = elim (cases_lt (length d.taken) 64) [
        | inl h ↦ same (NotAList p) (verdict_atom p a es e h) (TakeRefused.no_list e h)
        | inr h ↦ full (rw e tt) h
      ]
      go (list_at p inner es) e = elim (cases_lt (length d.taken) 64) [
        | inl h ↦ elim (cases_eq (width (erase inner)) 2) [
          | inl w ↦ TakeRefused.faulty e h w (sides_refused inner (behind inner) k (sym (verdict_sides p inner es e h w) ∙ v))
          | inr w ↦ same (NotAList p) (verdict_width p inner es e h w) (TakeRefused.not_two e h w)
        ]
        | inr h ↦ full (rw e tt) h
      ]

  -- from the list to the verdict
  listed : {k : Refusal} → TakeRefused d k → take_verdict d ≡ Err k
  listed (TakeRefused.none_left e) = verdict_none e
  listed (TakeRefused.full s h) = verdict_full d.left refl s h
  listed (TakeRefused.no_list {p} {a} {es} e h) = verdict_atom p a es e h
  listed (TakeRefused.not_two {p} {inner} {es} e h w) = verdict_width p inner es e h w
  listed (TakeRefused.faulty {p} {inner} {es} {k} e h w f) = verdict_sides p inner es e h w ∙ sides_listed inner (behind inner) k f

  pub take_listed : TakeRefusedAsListed d (numbered d (take_verdict d))
  take_listed k = (λ e. refused k (numbered_refused d (take_verdict d) k e), λ h. ap (numbered d) (listed h))
