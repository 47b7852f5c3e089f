-- A side passed in parts. Assumes nothing.
use Rattle.std.proofs.Common.{◌≡◌, ℕ, List, [], ◌∷◌, ◌++◌, Ok, Err, Result, refl, ap, sym, ◌∙◌, inl, inr, eqb}
use Rattle.std.specs.Borrow.{Bor}
use Rattle.std.proofs.lemmas.Bool.{cases_Bool}
use Rattle.sexp.specs.declared.refusals.Refusal.{Refusal}
use Rattle.sexp.specs.declared.refusals.Refusal.TheVariants.{UnknownSign}
use Rattle.sexp.specs.declared.tokens.Token.TheVariants.{Opening, Atom as AtomToken}
use Rattle.sexp.specs.Elements.{octets}
use Rattle.holder.specs.Placed.{Placed, nothing, atom_at, list_at, inside, behind}
use Rattle.texts.specs.Walked.{FirstToken}
use Rattle.rules.specs.Patterns.{Pattern, done, constant, slot, read_atom}
use Rattle.rules.specs.declared.signs.Sign.TheVariants.{Variable, Segment}
use Rattle.books.specs.declared.checking.Side.{Side}
use Rattle.books.specs.Items.{Item, items, first_items}
use Rattle.books.specs.Scanning.{Seen, scan, scan_item, scan_atom, scan_element}

-- what follows an outcome
abbrev pub onward : Result Seen Refusal → (Seen → Result Seen Refusal) → Result Seen Refusal
onward (Ok next) f = f next
onward (Err k) f = Err k

-- some elements and then others
pub scan-append : (side : Side) (seen : Seen) (is js : List Item) → scan side seen (is ++ js) ≡ onward (scan side seen is) (λ next. scan side next js)
scan-append side seen [] js = refl
scan-append side seen (i ∷ is) js = go (scan_item side seen i) (λ next. scan-append side next is js)
  where
    go : (o : Result Seen Refusal) → ((next : Seen) → scan side next (is ++ js) ≡ onward (scan side next is) (λ n. scan side n js))
        → elim o [ Ok next ↦ scan side next (is ++ js) | Err k ↦ Err k ] ≡ onward (elim o [ Ok next ↦ scan side next is | Err k ↦ Err k ]) (λ n. scan side n js)
    go (Ok next) more = more next
    go (Err k) more = refl

-- the elements of a run: its first one's, and then those behind it
pub items_first : (r : Placed) → items r ≡ first_items r ++ items (behind r)
items_first nothing = refl
items_first (atom_at p (octets os) es) = refl
items_first (list_at p inner es) = refl

-- a list: itself, and then what it holds
pub list_scan : (side : Side) (seen : Seen) (r : Placed) (place : ℕ) → FirstToken r (Opening place) → scan side seen (first_items r) ≡ onward (scan_element seen place) (λ next. scan side next (items (inside r)))
list_scan side seen nothing place t = absurd t
list_scan side seen (atom_at p a es) place t = absurd t
list_scan side seen (list_at p inner es) place t = go (scan_element seen p) ∙ ap (λ q. onward (scan_element seen q) (λ next. scan side next (items inner))) (sym t)
  where
    go : (o : Result Seen Refusal) → elim o [ Ok next ↦ scan side next (items inner) | Err k ↦ Err k ] ≡ onward o (λ next. scan side next (items inner))
    go (Ok next) = refl
    go (Err k) = refl

-- an atom alone
pub atom_scan : (side : Side) (seen : Seen) (r : Placed) (place : ℕ) (os : Bor (List ℕ)) → FirstToken r (AtomToken place os) → scan side seen (first_items r) ≡ scan_atom side seen place os.now
atom_scan side seen nothing place os t = absurd t
atom_scan side seen (atom_at p (octets cs) es) place os t =
    let same : os.now ≡ cs = cc in
    go (scan_atom side seen p cs) ∙ ap (λ q. scan_atom side seen q cs) (sym t.0) ∙ ap (scan_atom side seen place) (sym same)
  where
    go : (o : Result Seen Refusal) → elim o [ Ok next ↦ Ok next | Err k ↦ Err k ] ≡ o
    go (Ok next) = refl
    go (Err k) = refl
atom_scan side seen (list_at p inner es) place os t = absurd t

-- an atom without a sign is refused
pub unsigned : (side : Side) (seen : Seen) (at : ℕ) (os : List ℕ) → ((p : Pattern) → read_atom os p ≡ p) → scan_atom side seen at os ≡ Err (UnknownSign at)
unsigned side seen at [] same = refl
unsigned side seen at (o ∷ os) same =
    elim (cases_Bool (eqb o 39)) as (λ _. scan_atom side seen at (o ∷ os) ≡ Err (UnknownSign at)) [
      | inl a ↦ let e : constant (octets os) done ≡ done = rw a at (same done) in cc
      | inr a ↦ elim (cases_Bool (eqb o 58)) as (λ _. scan_atom side seen at (o ∷ os) ≡ Err (UnknownSign at)) [
        | inl b ↦ let e : slot Variable os done ≡ done = rw (a, b) at (same done) in cc
        | inr b ↦ elim (cases_Bool (eqb o 33)) as (λ _. scan_atom side seen at (o ∷ os) ≡ Err (UnknownSign at)) [
          | inl d ↦ let e : slot Segment os done ≡ done = rw (a, b, d) at (same done) in cc
          | inr d ↦ rw (a, b, d) refl
        ]
      ]
    ]
