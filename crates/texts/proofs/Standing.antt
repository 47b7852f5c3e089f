-- What stands in an accepted text at the place of an element. Assumes nothing.
use Rattle.std.proofs.Common.{◌≡◌, ◌==◌, cond, ℕ, ◌+◌, ◌<◌, ◌≤◌, true, eqb, List, [], ◌∷◌, ◌++◌, length, get_or, drop, decimal, Some, sym, refl, ap, ◌∙◌, subst, inl, inr, arith}
use Rattle.std.proofs.lemmas.List.{length-append, length-drop, drop-drop, drop_at, get_or-drop}
use Rattle.std.proofs.lemmas.Bool.{eq-eqb, ne_eqb, eqb-true, cases_Bool}
use Rattle.std.proofs.lemmas.Bool.Decides.{nat_tests}
use Rattle.sexp.specs.Elements.{Atom, octets, Elements, none, atom, list, Record, ShortAtoms, Within}
use Rattle.sexp.specs.Grammar.{Digit, Decimal}
use Rattle.sexp.specs.Reading.{accepted, verdict}
use Rattle.sexp.specs.Text.{atom_then, text_then, text}
use Rattle.sexp.proofs.Decimal.{decimal_is}
use Rattle.sexp.proofs.Runs.{text_front, length_list}
use Rattle.sexp.proofs.Sound.{accepted_text}
use Rattle.holder.specs.declared.kinds.Kind.TheVariants.{List as ListKind, Atom as AtomKind}
use Rattle.holder.specs.Placed.{Placed, nothing, atom_at, list_at, erase, ◌or_else◌, run_at, front, inside, behind, kind_of, Stands, IsList}
use Rattle.holder.specs.Walks.{first_of}
use Rattle.holder.proofs.Walk.{list_stands}
use Rattle.texts.specs.Filled.{HoldsWhatIsRead}
use Rattle.texts.specs.Label.{label, accepts, text_tree}
use Rattle.texts.specs.Lawful.{erase_label, was_read}
use Rattle.texts.specs.Walked.{run_from, end_at, beginning}

-- a text has ended, or a list closes in front of it
abbrev pub Stops : List ℕ → Type 0
Stops [] = Unit {0}
Stops (o ∷ rest) = o ≡ 41

-- the run r begins at the offset p of the text t, where its text stands, up to the end of the list around it
pub record Found (t : List ℕ) (p : ℕ) (r : Placed) : Type 0 where
  pub run : Elements
  pub rest : List ℕ
  pub same : r ≡ label p run
  pub here : drop p t ≡ text_then run rest
  pub stops : Stops rest
  pub within : Within run

-- the parts of a run within the limits are so too
within_inner : (inner es : Elements) → Within (list inner es) → Within inner
within_inner inner es w = record { few = omega (arith, w.few); shallow = omega (arith, w.shallow); short = w.short.0 }

within_behind : (inner es : Elements) → Within (list inner es) → Within es
within_behind inner es w = record { few = omega (arith, w.few); shallow = omega (arith, w.shallow); short = w.short.1 }

within_next : (a : Atom) (es : Elements) → Within (atom a es) → Within es
within_next a es w = record { few = omega (arith, w.few); shallow = omega (arith, w.shallow); short = w.short.1 }

-- what stands behind a part of a text
pub drop_past : (t x y : List ℕ) (q n : ℕ) → drop q t ≡ x ++ y → length x ≡ n → drop (q + n) t ≡ y
drop_past t x y q n e l = sym (drop-drop n q t) ∙ ap (drop n) e ∙ drop_at x y n l

module _ (t : List ℕ) (p : ℕ) where
  at_once : (q : ℕ) (es : Elements) (rest : List ℕ) → p ≡ q
      → drop q t ≡ text_then es rest → Stops rest → Within es → Found t p (label q es)
  at_once q es rest e here stops within =
      let same : label q es ≡ label p es = ap (λ x. label x es) (sym e) in
      record { run = es; rest = rest; same = same; here = ap (λ x. drop x t) e ∙ here; stops = stops; within = within }

  one_of : (x y : Placed) → Stands (x or_else y) → (Stands x → Found t p x) → (Stands y → Found t p y) → Found t p (x or_else y)
  one_of nothing y s f g = g s
  one_of (atom_at r a xs) y s f g = f tt
  one_of (list_at r i xs) y s f g = f tt

  find : (q : ℕ) (es : Elements) (rest : List ℕ) → drop q t ≡ text_then es rest → Stops rest → Within es
      → Stands (run_at p (label q es)) → Found t p (run_at p (label q es))
  find q none rest here stops w s = absurd s
  find q (atom a es) rest here stops w s =
      let n = length (atom_then a []) in
      let behind : List ℕ = text_then es rest in
      let front : drop q t ≡ atom_then a [] ++ behind = here ∙ text_front (atom a none) behind in
      let later : drop (q + n) t ≡ behind = drop_past t (atom_then a []) behind q n front refl in
      elim (cases_Bool (eqb p q)) as (λ _. Found t p (run_at p (label q (atom a es)))) [
        | inl e ↦ rw e (at_once q (atom a es) rest (eqb-true p q e) here stops w)
        | inr e ↦ rw e (find (q + n) es rest later stops (within_next a es w) (rw e at s))
      ]
  find q (list inner es) rest here stops w s =
      let n = length (text inner) + 2 in
      let behind : List ℕ = text_then es rest in
      let wide : length (text (list inner none)) ≡ n = length_list inner none ∙ omega arith in
      let front : drop q t ≡ text (list inner none) ++ behind = here ∙ text_front (list inner none) behind in
      let first : drop (q + 1) t ≡ text_then inner (41 ∷ behind) = drop_past t (40 ∷ []) (text_then inner (41 ∷ behind)) q 1 here refl in
      let later : drop (q + n) t ≡ behind = drop_past t (text (list inner none)) behind q n front wide in
      elim (cases_Bool (eqb p q)) as (λ _. Found t p (run_at p (label q (list inner es)))) [
        | inl e ↦ rw e (at_once q (list inner es) rest (eqb-true p q e) here stops w)
        | inr e ↦
            rw e
            (one_of (run_at p (label (q + 1) inner)) (run_at p (label (q + n) es)) (rw e at s)
            (find (q + 1) inner (41 ∷ behind) first refl (within_inner inner es w))
            (find (q + n) es rest later stops (within_behind inner es w)))
      ]

  pub found : accepts (verdict t) ≡ true → Stands (run_from t p) → Found t p (run_from t p)
  found ok s =
      let a = was_read t ok in
      let read = accepted_text t a.root a.is in
      subst (λ tree. Found t p (run_at p tree)) (sym a.tree)
      (find 0 a.root [] read.3 tt read.1 (subst (λ tree. Stands (run_at p tree)) a.tree s))

-- an atom's text begins with a digit
pub record Begun (os rest : List ℕ) : Type 0 where
  pub digit : ℕ
  pub more : List ℕ
  pub is : atom_then (octets os) rest ≡ digit ∷ more
  pub digital : Digit digit

pub atom_begun : (os rest : List ℕ) → length os ≤ 1024 → Begun os rest
atom_begun os rest l = go _ _ (decimal_is (length os) (omega arith)) refl
  where
    begun : (d : ℕ) (more : List ℕ) → decimal (length os) ≡ d ∷ more → Digit d → Begun os rest
    begun d more e k = record { digit = d; more = more ++ (58 ∷ (os ++ rest)); is = ap (λ x. x ++ (58 ∷ (os ++ rest))) e; digital = k }

    go : (ds : List ℕ) (n : ℕ) → Decimal ds n → decimal (length os) ≡ ds → Begun os rest
    go _ _ Decimal.zero e = begun 48 [] e (omega arith)
    go _ _ (Decimal.positive {d} {ds} a b h) e = begun d ds e (omega arith)

-- the element that begins where a run's text stands is the run's first
pub begins_label : (p : ℕ) (es : Elements) (rest : List ℕ) → ShortAtoms es → Stops rest → beginning p (text_then es rest) ≡ front (label p es)
begins_label p none [] short stops = refl
begins_label p none (o ∷ rest) short stops = rw (eq-eqb o 41 stops) refl
begins_label p (atom (octets os) es) rest short stops =
    let b = atom_begun os (text_then es rest) short.0 in
    ap (beginning p) b.is ∙ rw (ne_eqb b.digit 41 (omega (arith, b.digital))) refl
begins_label p (list inner es) rest short stops = refl

-- the run behind a run's first element
abbrev pub tail : Elements → Elements
tail none = none
tail (atom a es) = es
tail (list inner es) = es

short_tail : (es : Elements) → ShortAtoms es → ShortAtoms (tail es)
short_tail none s = s
short_tail (atom a es) s = s.1
short_tail (list inner es) s = s.1

-- a run's text is that of its first element, and then that of those behind it
first_text : (p : ℕ) (es : Elements) (rest : List ℕ) → Stands (label p es) → text_then es rest ≡ text (first_of (label p es)) ++ text_then (tail es) rest
first_text p none rest s = absurd s
first_text p (atom a es) rest s = text_front (atom a none) (text_then es rest)
first_text p (list inner es) rest s =
    text_front (list inner none) (text_then es rest) ∙ ap (λ x. text (list x none) ++ text_then es rest) (sym (erase_label (p + 1) inner))

behind_label : (p : ℕ) (es : Elements) → Stands (label p es) → label (end_at p (label p es)) (tail es) ≡ behind (label p es)
behind_label p none s = absurd s
behind_label p (atom a es) s = refl
behind_label p (list inner es) s =
    ap (λ x. label (p + length (text (list x none))) es) (erase_label (p + 1) inner) ∙ ap (λ k. label (p + k) es) (length_list inner none ∙ omega arith)

-- what the answers are, at a place where a run was found
module _ (t : List ℕ) (p : ℕ) (r : Placed) (f : Found t p r) where
  octet : get_or t p 0 ≡ get_or (text_then f.run f.rest) 0 0
  octet = sym (get_or-drop p t 0 0 ∙ ap (λ k. get_or t k 0) (omega arith)) ∙ ap (λ x. get_or x 0 0) f.here

  labelled_some : (es : Elements) (rest : List ℕ) → Stands (label p es) → 0 < length (text_then es rest)
  labelled_some none rest s = absurd s
  labelled_some (atom (octets os) es) rest s = omega (arith, length-append (decimal (length os)) (58 ∷ (os ++ text_then es rest)))
  labelled_some (list inner es) rest s = omega arith

  pub inside_text : Stands r → p < length t
  inside_text s = omega (arith, labelled_some f.run f.rest (subst Stands f.same s), ap length f.here, length-drop p t)

  labelled_kind : (es : Elements) (rest : List ℕ) → ShortAtoms es → Stands (label p es) → cond (get_or (text_then es rest) 0 0 == 40) ListKind AtomKind ≡ kind_of (label p es)
  labelled_kind none rest short s = absurd s
  labelled_kind (atom (octets os) es) rest short s =
      let b = atom_begun os (text_then es rest) short.0 in
      ap (λ x. cond (get_or x 0 0 == 40) ListKind AtomKind) b.is ∙ rw (ne_eqb b.digit 40 (omega (arith, b.digital))) refl
  labelled_kind (list inner es) rest short s = refl

  pub kind_found : Stands r → cond (get_or t p 0 == 40) ListKind AtomKind ≡ kind_of r
  kind_found s =
      ap (λ o. cond (o == 40) ListKind AtomKind) octet ∙ labelled_kind f.run f.rest f.within.short (subst Stands f.same s) ∙ ap kind_of (sym f.same)

  labelled_first : (es : Elements) (rest : List ℕ) → ShortAtoms es → IsList (label p es) → drop p t ≡ text_then es rest → beginning (p + 1) (drop (p + 1) t) ≡ front (inside (label p es))
  labelled_first none rest short s here = absurd s
  labelled_first (atom a es) rest short s here = absurd s
  labelled_first (list inner es) rest short s here =
      ap (beginning (p + 1)) (drop_past t (40 ∷ []) (text_then inner (41 ∷ text_then es rest)) p 1 here refl) ∙ begins_label (p + 1) inner (41 ∷ text_then es rest) short.0 refl

  pub first_found : IsList r → beginning (p + 1) (drop (p + 1) t) ≡ front (inside r)
  first_found s = labelled_first f.run f.rest f.within.short (subst IsList f.same s) f.here ∙ ap (λ x. front (inside x)) (sym f.same)

  labelled_next : (es : Elements) (rest : List ℕ) → ShortAtoms es → Stops rest → Stands (label p es) → drop p t ≡ text_then es rest → beginning (end_at p (label p es)) (drop (end_at p (label p es)) t) ≡ front (behind (label p es))
  labelled_next es rest short stops s here =
      let e = end_at p (label p es) in
      ap (beginning e) (drop_past t (text (first_of (label p es))) (text_then (tail es) rest) p _ (here ∙ first_text p es rest s) refl)
      ∙ begins_label e (tail es) rest (short_tail es short) stops ∙ ap front (behind_label p es s)

  pub next_found : Stands r → beginning (end_at p r) (drop (end_at p r) t) ≡ front (behind r)
  next_found s =
      rw f.same (labelled_next f.run f.rest f.within.short f.stops (subst Stands f.same s) f.here)

  -- the element's text stands at its place
  pub stands_text : Stands r → drop p t ≡ text (first_of r) ++ text_then (tail f.run) f.rest
  stands_text s = f.here ∙ first_text p f.run f.rest (subst Stands f.same s) ∙ ap (λ x. text (first_of x) ++ text_then (tail f.run) f.rest) (sym f.same)

-- what is promised of a held text
module _ (t : List ℕ) (ok : accepts (verdict t) ≡ true) where
  pub root_placed : Some 0 ≡ front (text_tree t)
  root_placed =
      let a = was_read t ok in
      labelled_root a.root (accepted_text t a.root a.is).0 ∙ ap front (sym a.tree)
    where
      labelled_root : (e : Elements) → Record e → Some 0 ≡ front (label 0 e)
      labelled_root none r = absurd r
      labelled_root (atom a es) r = refl
      labelled_root (list inner es) r = refl

  pub holds : HoldsWhatIsRead t
  holds =
      let a = was_read t ok in
      record {
        read = a.is ∙ ap accepted (sym (erase_label 0 a.root)) ∙ ap (λ tree. accepted (erase tree)) (sym a.tree);
        stands = λ p s. let f = found t p ok s in (text_then (tail f.run) f.rest, stands_text t p (run_from t p) f s);
      }

  module _ (p : ℕ) where
    pub place_inside : Stands (run_from t p) → p < length t
    place_inside s = inside_text t p (run_from t p) (found t p ok s) s

    pub kind_told : Stands (run_from t p) → cond (get_or t p 0 == 40) ListKind AtomKind ≡ kind_of (run_from t p)
    kind_told s = kind_found t p (run_from t p) (found t p ok s) s

    pub first_begins : IsList (run_from t p) → beginning (p + 1) (drop (p + 1) t) ≡ front (inside (run_from t p))
    first_begins s = first_found t p (run_from t p) (found t p ok (list_stands (run_from t p) s)) s

    pub next_begins : Stands (run_from t p) → beginning (end_at p (run_from t p)) (drop (end_at p (run_from t p)) t) ≡ front (behind (run_from t p))
    next_begins s = next_found t p (run_from t p) (found t p ok s) s

-- what tells the kind at a place from its octet
pub ruleset kinds = (place_inside, kind_told, nat_tests)
