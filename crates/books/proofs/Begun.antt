-- A draft that begins over a text.
use Rattle.std.proofs.Common.{◌≡◌, ℕ, true, List, Option, Some, Ok, Err, sym, refl, ap, ◌∙◌, subst}
use Rattle.sexp.specs.Reading.{Verdict, accepted, rejected, verdict}
use Rattle.sexp.specs.declared.refusals.Refusal.TheVariants.{NotAList}
use Rattle.holder.specs.declared.kinds.Kind.TheVariants.{List as ListKind, Atom as AtomKind}
use Rattle.holder.specs.Placed.{Placed, nothing, atom_at, list_at, erase, front, inside, kind_of, IsList}
use Rattle.texts.specs.Filled.{TakesIn, HoldsWhatIsRead}
use Rattle.texts.specs.Label.{accepts, text_tree}
use Rattle.texts.specs.Walked.{run_from}
use Rattle.books.specs.Drafts.{beginning}
use Rattle.books.specs.Meant.{run_from_next, NextStands}
use Rattle.books.proofs.Runs.{root_run, inside_again, next_stands}

-- a text that is taken is held
pub takes : (v : Verdict) (given old new : List ℕ) → TakesIn v given old new (Ok tt) → new ≡ given
takes (accepted e) given old new h = h.1
takes (rejected k) given old new h = cc

atom_begins : (r : Placed) → AtomKind ≡ kind_of r → Err (NotAList 0) ≡ beginning (accepted (erase r))
atom_begins nothing e = cc
atom_begins (atom_at p a es) e = refl
atom_begins (list_at p inner es) e = cc

is_list : (r : Placed) (p : ℕ) → front r ≡ Some p → ListKind ≡ kind_of r → IsList r
is_list nothing p e k = cc
is_list (atom_at q a es) p e k = cc
is_list (list_at q inner es) p e k = tt

list_begins : (r : Placed) → IsList r → Ok tt ≡ beginning (accepted (erase r))
list_begins nothing s = absurd s
list_begins (atom_at p a es) s = absurd s
list_begins (list_at p inner es) s = refl

module _ {text t : List ℕ} (is : t ≡ text) (held : HoldsWhatIsRead t) {root : ℕ} (at : front (text_tree t) ≡ Some root) where
  tree : run_from t root ≡ text_tree t
  tree = root_run root (text_tree t) at

  answered : beginning (accepted (erase (run_from t root))) ≡ beginning (verdict text)
  answered = ap (λ r. beginning (accepted (erase r))) tree ∙ ap beginning (sym held.read) ∙ ap (λ x. beginning (verdict x)) is

  pub atom_answer : AtomKind ≡ kind_of (run_from t root) → Err (NotAList 0) ≡ beginning (verdict text)
  atom_answer kind = atom_begins (run_from t root) kind ∙ answered

  module _ (kind : ListKind ≡ kind_of (run_from t root)) where
    pub root_list : IsList (run_from t root)
    root_list = is_list (run_from t root) root (ap front tree ∙ at) kind

    pub list_answer : Ok tt ≡ beginning (verdict text)
    list_answer = list_begins (run_from t root) root_list ∙ answered

    module _ (ok : accepts (verdict t) ≡ true) {first : Option ℕ} (e : first ≡ front (inside (run_from t root))) where
      found : run_from_next t (front (inside (run_from t root))) ≡ inside (run_from t root)
      found = inside_again t ok root root_list

      pub begun_stands : NextStands t first
      begun_stands = subst (NextStands t) (sym e) (next_stands t (inside (run_from t root)) found)

      pub begun_left : run_from_next t first ≡ inside (text_tree text)
      begun_left = ap (run_from_next t) e ∙ found ∙ ap inside tree ∙ ap (λ x. inside (text_tree x)) is
