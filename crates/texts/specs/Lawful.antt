-- An accepted text is a lawful record: offsets grow, so no two elements share a place. Assumes nothing.
use Rattle.std.specs.Prelude.{◌≡◌, ℕ, ◌+◌, ◌<◌, ◌≤◌, true, List, [], ◌∷◌, ◌++◌, length, decimal, refl}
use Rattle.std.proofs.Common.{sym, ap, subst, append_assoc, append-nil, arith, length-append}
use Rattle.sexp.specs.Elements.{octets, Elements, none, atom, list}
use Rattle.sexp.specs.Reading.{Verdict, accepted, rejected, verdict}
use Rattle.sexp.specs.Text.{atom_then, text}
use Rattle.sexp.proofs.Runs.{length_atom, length_list}
use Rattle.sexp.proofs.Sound.{accepted_text}
use Rattle.holder.specs.Placed.{erase, places, Absent, Apart, Lawful}
use Rattle.texts.specs.Label.{label, accepts, held, text_tree}

pub erase_label : (p : ℕ) (es : Elements) → erase (label p es) ≡ es
erase_label p none = refl
erase_label p (atom a es) = ap (atom a) (erase_label (p + length (atom_then a [])) es)
erase_label p (list inner es) =
    λ i. list (erase_label (p + 1) inner i) (erase_label (p + (length (text inner) + 2)) es i)

-- an atom's text is never empty
atom_some : (os : List ℕ) → 0 < length (atom_then (octets os) [])
atom_some os = omega (arith, length-append (decimal (length os)) (58 ∷ (os ++ [])))

-- places that grow, none below q
abbrev Rising : ℕ → List ℕ → Type 0
Rising q [] = Unit {0}
Rising q (p ∷ ps) = (q ≤ p) × Rising (p + 1) ps

lower : (q p : ℕ) (ps : List ℕ) → q ≤ p → Rising p ps → Rising q ps
lower q p [] h r = tt
lower q p (x ∷ xs) h r = (omega arith, r.1)

absent : (p q : ℕ) (ps : List ℕ) → p < q → Rising q ps → Absent p ps
absent p q [] h r = tt
absent p q (x ∷ xs) h r = (λ e. absurd (omega arith), absent p (x + 1) xs (omega arith) r.1)

apart : (q : ℕ) (ps : List ℕ) → Rising q ps → Apart ps
apart q [] r = tt
apart q (x ∷ xs) r = (absent x (x + 1) xs (omega arith) r.1, apart (x + 1) xs r.1)

-- the places of a run grow, and those behind it grow on
rising : (q : ℕ) (es : Elements) (behind : List ℕ) → Rising (q + length (text es)) behind
    → Rising q (places (label q es) ++ behind)
rising q none behind r = lower q (q + length (text none)) behind (omega arith) r
rising q (atom (octets os) es) behind r =
    let n = length (atom_then (octets os) []) in
    let wide = length_atom (octets os) es in
    let later : Rising (q + n + length (text es)) behind = lower _ _ behind (omega arith) r in
    (omega arith, lower (q + 1) (q + n) _ (omega (arith, atom_some os)) (rising (q + n) es behind later))
rising q (list inner es) behind r =
    let n = length (text inner) + 2 in
    let wide = length_list inner es in
    let later : Rising (q + n + length (text es)) behind = lower _ _ behind (omega arith) r in
    let here : List ℕ = places (label (q + 1) inner) in
    let next : List ℕ = places (label (q + n) es) in
    let on = rising (q + n) es behind later in
    let rest = lower (q + 1 + length (text inner)) (q + n) (next ++ behind) (omega arith) on in
    (omega arith, rw (append_assoc here next behind) (rising (q + 1) inner (next ++ behind) rest))

-- what an accepted text was read as, and how its places come from that
pub record Accepted (t : List ℕ) : Type 0 where
  pub root : Elements
  pub is : verdict t ≡ accepted root
  pub tree : text_tree t ≡ label 0 root

module _ (t : List ℕ) (ok : accepts (verdict t) ≡ true) where
  pub was_read : Accepted t
  was_read = go (verdict t) refl ok
    where
      go : (v : Verdict) → verdict t ≡ v → accepts v ≡ true → Accepted t
      go (accepted e) is h = record { root = e; is = is; tree = ap (λ v. label 0 (held v)) is }
      go (rejected k) is h = cc

  label_lawful : (e : Elements) → verdict t ≡ accepted e → Lawful (label 0 e)
  label_lawful e is =
      let read = accepted_text t e is in
      record {
        root = rw (erase_label 0 e) read.0;
        within = rw (erase_label 0 e) read.1;
        apart = subst Apart (append-nil (places (label 0 e))) (apart 0 _ (rising 0 e [] tt));
      }

  pub lawful : Lawful (text_tree t)
  lawful = let a = was_read in subst Lawful (sym a.tree) (label_lawful a.root a.is)
