-- The rules of a draft, taken one after another. Assumes nothing.
use Rattle.std.proofs.Common.{◌≡◌, ℕ, List, [], ◌∷◌, ◌++◌, Ok, Err, Result, inl, inr, refl, sym, ap, ◌∙◌, subst}
use Rattle.sexp.specs.declared.refusals.Refusal.{Refusal}
use Rattle.sexp.specs.declared.refusals.Refusal.TheVariants.{NoRule}
use Rattle.sexp.specs.Elements.{Elements, none, atom, list, ◌then◌}
use Rattle.sexp.proofs.Runs.{then-none, then_assoc}
use Rattle.holder.specs.Placed.{Placed, nothing, atom_at, list_at, erase, inside, behind}
use Rattle.holder.specs.Walks.{first_of}
use Rattle.rules.specs.Patterns.{Rule, Slot, written, rules_written}
use Rattle.books.specs.Items.{Item}
use Rattle.books.specs.Faults.{Fault, unsigned, misnamed, whole, other, large, many_names, many_segments, unbound, in_pattern, in_template}
use Rattle.books.specs.Drafts.{Drafted, begun, beginning, take_verdict, numbered, taking, TakeRefusedAsListed, TakesWhatIsWritten, TakeRefused, none_left, full, no_list, not_two, faulty}
use Rattle.kandrivo.specs.Books.{drafted}
use Rattle.sexp.specs.Reading.{Verdict, accepted, rejected, verdict}
use Rattle.sexp.proofs.Sound.{accepted_text}
use Rattle.texts.specs.Label.{label, held}
use Rattle.texts.specs.Lawful.{erase_label}

-- a fault is another refusal
another : {side : _} {n : ℕ} {names : List Slot} {i : Item} {k : Refusal} → Fault side n names i k → k ≡ NoRule → ⊥
another (unsigned a b) e = cc
another (misnamed s a b) e = cc
another (whole s a b c) e = cc
another (other s a b c) e = cc
another (large a) e = cc
another (many_names s a b c d) e = cc
another (many_segments s a b c d f) e = cc
another (unbound s a b c) e = cc

-- what the rules of a list write, and one more
written_more : (rules : List Rule) (q : Rule) → rules_written (rules ++ (q ∷ [])) ≡ rules_written rules then list (written q.pattern then written q.template) none
written_more [] q = refl
written_more (r ∷ rs) q = ap (list (written r.pattern then written r.template)) (written_more rs q)

-- a run is its first element, and what is behind that
erase_first : (r : Placed) → erase r ≡ first_of r then erase (behind r)
erase_first nothing = refl
erase_first (atom_at p a es) = refl
erase_first (list_at p inner es) = refl

-- none is left where a take says so
none_is_left : {d : Drafted} {k : Refusal} → TakeRefused d k → k ≡ NoRule → d.left ≡ nothing
none_is_left (none_left n) e = n
none_is_left (full s l) e = absurd cc
none_is_left (no_list l f) e = absurd cc
none_is_left (not_two l f w) e = absurd cc
none_is_left (faulty l f w (in_pattern t)) e = absurd (another t.fault e)
none_is_left (faulty l f w (in_template p t)) e = absurd (another t.fault e)

-- a draft is as it was where a take is refused
kept : (d : Drafted) (v : Result Rule Refusal) {k : Refusal} → numbered d v ≡ Err k → taking d v ≡ d
kept d (Ok q) p = absurd cc
kept d (Err k) p = refl

module _ (d d' : Drafted) {r : Result ℕ Refusal} {n : Elements} (answer : r ≡ numbered d (take_verdict d)) (left : d' ≡ taking d (take_verdict d)) (all : drafted d ≡ n) where
  -- a take that is refused leaves what is drafted
  pub refused_keeps : {k : Refusal} → r ≡ Err k → drafted d' ≡ n
  refused_keeps e = ap drafted (left ∙ kept d (take_verdict d) (sym answer ∙ e)) ∙ all

  -- where none is left, the rules taken write all
  pub all_taken : TakeRefusedAsListed d r → r ≡ Err NoRule → rules_written d'.taken ≡ n
  all_taken listed e =
      let none : d.left ≡ nothing = none_is_left ((listed NoRule).0 e) refl in
      ap (λ x. rules_written x.taken) (left ∙ kept d (take_verdict d) (sym answer ∙ e))
      ∙ (sym (then-none (rules_written d.taken)) ∙ (ap (λ x. rules_written d.taken then erase x) (sym none) ∙ all))

  -- a rule that is taken writes what was next
  pub taken_writes : {k : ℕ} → TakesWhatIsWritten d (take_verdict d) → r ≡ Ok k → drafted d' ≡ n
  taken_writes w e = ap drafted left ∙ (go (take_verdict d) w (sym answer ∙ e) ∙ all)
    where
      go : (v : Result Rule Refusal) {k : ℕ} → TakesWhatIsWritten d v → numbered d v ≡ Ok k → drafted (taking d v) ≡ drafted d
      go (Ok q) w e =
          ap (λ x. x then erase (behind d.left)) (written_more d.taken q)
          ∙ (then_assoc (rules_written d.taken) (list (written q.pattern then written q.template) none) (erase (behind d.left))
          ∙ ap (rules_written d.taken then◌) (ap (λ x. x then erase (behind d.left)) (sym w) ∙ sym (erase_first d.left)))
      go (Err k) w e = absurd cc

-- a draft of a text has all of its elements left
pub begins : (t : List ℕ) → beginning (verdict t) ≡ Ok tt → verdict t ≡ accepted (list (drafted (begun t)) none)
begins t ok = go (verdict t) refl ok
  where
    go : (v : Verdict) → verdict t ≡ v → beginning v ≡ Ok tt → verdict t ≡ accepted (list (drafted (begun t)) none)
    go (rejected k) is e = absurd cc
    go (accepted none) is e = absurd cc
    go (accepted (atom a es)) is e = absurd cc
    go (accepted (list inner es)) is e =
        let last : es ≡ none = (accepted_text t (list inner es) is).0 in
        let left : erase (begun t).left ≡ inner = ap (λ v. erase (inside (label 0 (held v)))) is ∙ erase_label 1 inner in
        is ∙ (ap (λ x. accepted (list inner x)) last ∙ ap (λ x. accepted (list x none)) (sym left))
