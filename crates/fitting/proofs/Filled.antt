-- What a template gives where it is filled: by its atoms, and by its lists part by part. Assumes nothing.
use Rattle.std.proofs.Common.{Bor, ◌≡◌, ℕ, ◌+◌, ◌<◌, ◌≤◌, Bool, true, false, true≢false, cond, ◌==◌, List, [], ◌∷◌, ◌++◌, length, Option, Some, None, inl, refl, sym, ap, ◌∙◌, subst, append_assoc, arith}
use Rattle.sexp.specs.Elements.{octets, Elements, none, atom, list, ◌then◌}
use Rattle.sexp.specs.Text.{text}
use Rattle.sexp.specs.declared.tokens.Token.{Token}
use Rattle.sexp.specs.declared.tokens.Token.TheVariants.{Atom as AtomToken}
use Rattle.sexp.proofs.Runs.{then-none, then_assoc, length-then, length_list}
use Rattle.holder.specs.Placed.{Placed, run_at, front as place_of, behind, octets_of, Stands, IsAtom}
use Rattle.holder.specs.Walks.{first_of}
use Rattle.holder.proofs.Walk.{atom_short}
use Rattle.rules.specs.declared.signs.Sign.{Sign}
use Rattle.rules.specs.declared.signs.Sign.TheVariants.{Variable, Segment}
use Rattle.rules.specs.declared.signs.PatternAtom.{PatternAtom}
use Rattle.rules.specs.declared.signs.PatternAtom.TheVariants.{Constant, Name}
use Rattle.rules.specs.Complete.{In}
use Rattle.rules.specs.Patterns.{Pattern, done, constant, slot, read_atom, pattern_of, quote, sign_octet, Slot, slots}
use Rattle.rules.specs.Bindings.{Binding, fill, value}
use Rattle.rules.specs.Goals.{is_bound}
use Rattle.rules.specs.Signs.{ReadsAtom, Signed}
use Rattle.rules.proofs.Orders.{in_left, in_right}
use Rattle.rules.proofs.Writing.{pattern_of-written, signed_then}
use Rattle.texts.specs.Label.{text_tree}
use Rattle.texts.specs.Meant.{meant}
use Rattle.texts.specs.Walked.{FirstToken}
use Rattle.fitting.specs.declared.marks.Mark.{Mark}
use Rattle.fitting.specs.declared.searching.Search.{Search}
use Rattle.fitting.specs.Cursors.{elements_from, front}
use Rattle.fitting.specs.Moves.{Finds}
use Rattle.fitting.specs.Finding.{found_in}
use Rattle.fitting.specs.Filling.{AllBound, filled_atom, filled_at, FillsAtom, HoldsFor}
use Rattle.fitting.proofs.Cursors.{first_of_atom, next_elements}
use Rattle.fitting.proofs.Loops.{InList, list_stands, list_ends}
use Rattle.fitting.proofs.Naming.{atom_told}

-- the elements of one pattern behind those of another, filled
fill-read_atom : (m : List Binding) (os : List ℕ) (p : Pattern) → fill m (read_atom os p) ≡ fill m (read_atom os done) then fill m p
fill-read_atom m [] p = refl
fill-read_atom m (o ∷ os) p = go (o == 39) (o == 58) (o == 33)
  where
    go : (c v s : Bool) → fill m (cond c (constant (octets os) p) (cond v (slot Variable os p) (cond s (slot Segment os p) p))) ≡ fill m (cond c (constant (octets os) done) (cond v (slot Variable os done) (cond s (slot Segment os done) done))) then fill m p
    go true v s = refl
    go false true s = ap (λ es. es then fill m p) (sym (then-none (value os m)))
    go false false true = ap (λ es. es then fill m p) (sym (then-none (value os m)))
    go false false false = refl

pub fill-then : (m : List Binding) (x y : Elements) → fill m (pattern_of (x then y)) ≡ fill m (pattern_of x) then fill m (pattern_of y)
fill-then m none y = refl
fill-then m (atom (octets os) x) y =
    fill-read_atom m os (pattern_of (x then y))
    ∙ (ap (fill m (read_atom os done) then◌) (fill-then m x y)
    ∙ (sym (then_assoc (fill m (read_atom os done)) (fill m (pattern_of x)) (fill m (pattern_of y)))
    ∙ ap (λ es. es then fill m (pattern_of y)) (sym (fill-read_atom m os (pattern_of x)))))
fill-then m (list inner x) y = ap (list (fill m (pattern_of inner))) (fill-then m x y)

-- and their names
slots-read_atom : (os : List ℕ) (p : Pattern) → slots (read_atom os p) ≡ slots (read_atom os done) ++ slots p
slots-read_atom [] p = refl
slots-read_atom (o ∷ os) p = go (o == 39) (o == 58) (o == 33)
  where
    go : (c v s : Bool) → slots (cond c (constant (octets os) p) (cond v (slot Variable os p) (cond s (slot Segment os p) p))) ≡ slots (cond c (constant (octets os) done) (cond v (slot Variable os done) (cond s (slot Segment os done) done))) ++ slots p
    go true v s = refl
    go false true s = refl
    go false false true = refl
    go false false false = refl

pub slots-then : (x y : Elements) → slots (pattern_of (x then y)) ≡ slots (pattern_of x) ++ slots (pattern_of y)
slots-then none y = refl
slots-then (atom (octets os) x) y =
    slots-read_atom os (pattern_of (x then y))
    ∙ (ap (slots (read_atom os done) ++◌) (slots-then x y)
    ∙ (sym (append_assoc (slots (read_atom os done)) (slots (pattern_of x)) (slots (pattern_of y)))
    ∙ ap (λ ss. ss ++ slots (pattern_of y)) (sym (slots-read_atom os (pattern_of x)))))
slots-then (list inner x) y = ap (slots (pattern_of inner) ++◌) (slots-then x y) ∙ sym (append_assoc (slots (pattern_of inner)) (slots (pattern_of x)) (slots (pattern_of y)))

-- what is bound in the whole is bound in each part
pub bound_parts : (m : List Binding) (x y : Elements) → AllBound m (pattern_of (x then y)) → AllBound m (pattern_of x) × AllBound m (pattern_of y)
bound_parts m x y all = (
  (λ s h. all s (subst (In s) (sym (slots-then x y)) (in_left s (slots (pattern_of x)) (slots (pattern_of y)) h))),
  (λ s h. all s (subst (In s) (sym (slots-then x y)) (in_right s (slots (pattern_of x)) (slots (pattern_of y)) h))),
)

pub bound_inside : (m : List Binding) (es : Elements) → AllBound m (pattern_of (list es none)) → AllBound m (pattern_of es)
bound_inside m es all = λ s h. all s (in_left s (slots (pattern_of es)) [] h)

-- an atom of these octets, as it is read: a constant gives its octets, a name what it stands for
module _ {H : Type 0} (rec : Placed) (s : Search H) (os : List ℕ) where
  pub constant_gives : {a : PatternAtom} {rest : Bor (List ℕ)} → ReadsAtom os (Some a) → a ≡ Constant rest → filled_atom rec s os ≡ atom (octets rest.now) none
  constant_gives {rest = rest} reads e =
      let is : os ≡ quote ∷ rest.now = rw e at reads in
      rw is refl

  slot_read : {a : PatternAtom} {sign : Sign} {name : Bor (List ℕ)} → ReadsAtom os (Some a) → a ≡ Name sign name → read_atom os done ≡ slot sign name.now done
  slot_read {sign = sign} {name = name} reads e =
      let is : os ≡ sign_octet sign ∷ name.now = rw e at reads in
      rw is (pattern_of-written (slot sign name.now done))

  pub name_gives : {a : PatternAtom} {sign : Sign} {name : Bor (List ℕ)} (m : Mark) (first : ℕ) → ReadsAtom os (Some a) → a ≡ Name sign name → Finds (text_tree s.text.text.now) rec s.trail.entries name.now (Some (m, first))
      → filled_atom rec s os ≡ front m.length (elements_from rec (Some first))
  name_gives {name = name} m first reads e found = ap (fill (found_in rec s)) (slot_read reads e) ∙ (then-none (value name.now (found_in rec s)) ∙ found.1)

  pub name_found : {a : PatternAtom} {sign : Sign} {name : Bor (List ℕ)} → FillsAtom rec s os → ReadsAtom os (Some a) → a ≡ Name sign name → Finds (text_tree s.text.text.now) rec s.trail.entries name.now None → ⊥
  name_found {sign = sign} {name = name} fills reads e not =
      let here : Slot = record { sign = sign; name = name.now } in
      let is : is_bound name.now (found_in rec s) ≡ true = fills.bound here (subst (λ p. In here (slots p)) (sym (slot_read reads e)) (inl refl)) in
      true≢false (sym is ∙ not)

-- the elements of a template's run, filled
abbrev pub filled : {H : Type 0} → Placed → Search H → Elements → Elements
filled rec s es = fill (found_in rec s) (pattern_of es)

-- an element of a template
module _ {H : Type 0} (rec : Placed) (s : Search H) (place : ℕ) where
  abbrev tree : Placed
  tree = text_tree s.text.text.now

  abbrev run : Placed
  run = run_at place tree

  -- an atom, told by its token, gives what its octets do
  atom_here : {token : Token} {offset : ℕ} {os : Bor (List ℕ)} → HoldsFor rec s place → (Stands run → FirstToken run token) → token ≡ AtomToken offset os → IsAtom run × (octets_of run ≡ os.now)
  atom_here {offset = offset} {os = os} holds told e = atom_told run offset os (subst (FirstToken run) e (told holds.stands))

  pub atom_gives : {token : Token} {offset : ℕ} {os : Bor (List ℕ)} → HoldsFor rec s place → (Stands run → FirstToken run token) → token ≡ AtomToken offset os → filled_at rec s place ≡ filled_atom rec s os.now
  atom_gives holds told e =
      let a = atom_here holds told e in
      ap (filled rec s) (first_of_atom run a.0) ∙ rw a.1 refl

  pub atom_fills : {token : Token} {offset : ℕ} {os : Bor (List ℕ)} → HoldsFor rec s place → (Stands run → FirstToken run token) → token ≡ AtomToken offset os → FillsAtom rec s os.now
  atom_fills {os = os} holds told e =
      let a = atom_here holds told e in
      let is : first_of run ≡ atom (octets os.now) none = rw (← a.1) (first_of_atom run a.0) in
      record {
        sound = holds.sound;
        signed = (subst Signed is holds.signed).0;
        short = rw (← a.1) (atom_short (meant s.text.text.now s.text.ok) place a.0);
        bound = subst (λ es. AllBound (found_in rec s) (pattern_of es)) is holds.bound;
      }

  -- between two elements of a list, the next one is at p
  module _ {passed : Elements} {at : Option ℕ} {p : ℕ} (so_far : InList tree run passed at) (e : at ≡ Some p) where
    abbrev next : Elements
    next = first_of (run_at p tree)

    abbrev rest : Elements
    rest = elements_from tree (place_of (behind (run_at p tree)))

    list_splits : first_of run ≡ list (passed then (next then rest)) none
    list_splits =
        let whole : first_of run ≡ list (passed then elements_from tree (Some p)) none = rw e at so_far.whole in
        whole ∙ ap (λ es. list (passed then es) none) (next_elements (meant s.text.text.now s.text.ok) p _ (list_stands so_far e) refl)

    pub next_holds : HoldsFor rec s place → HoldsFor rec s p
    next_holds holds =
        let all : AllBound (found_in rec s) (pattern_of (list (passed then (next then rest)) none)) = subst (λ es. AllBound (found_in rec s) (pattern_of es)) list_splits holds.bound in
        let signs : Signed (list (passed then (next then rest)) none) = subst Signed list_splits holds.signed in
        record {
          sound = holds.sound;
          stands = list_stands so_far e;
          signed = (signed_then next rest (signed_then passed (next then rest) signs.0).1).0;
          bound = (bound_parts (found_in rec s) next rest (bound_parts (found_in rec s) passed (next then rest) (bound_inside (found_in rec s) (passed then (next then rest)) all)).1).0;
        }

    pub filled_more : filled rec s (passed then next) ≡ filled rec s passed then filled_at rec s p
    filled_more = fill-then (found_in rec s) passed next

    -- there is room for it, and for the ")" behind the last
    pub filled_room : length (text (filled rec s passed)) + length (text (filled_at rec s p)) + 2 ≤ length (text (filled_at rec s place))
    filled_room =
        let inner : filled rec s (passed then (next then rest)) ≡ filled rec s passed then (filled_at rec s p then filled rec s rest) = fill-then (found_in rec s) passed (next then rest) ∙ ap (filled rec s passed then◌) (fill-then (found_in rec s) next rest) in
        let whole : filled_at rec s place ≡ list (filled rec s passed then (filled_at rec s p then filled rec s rest)) none = ap (filled rec s) list_splits ∙ ap (λ es. list es none) inner in
        omega (arith, ap (λ es. length (text es)) whole, length_list (filled rec s passed then (filled_at rec s p then filled rec s rest)) none, length-then (filled rec s passed) (filled_at rec s p then filled rec s rest), length-then (filled_at rec s p) (filled rec s rest))

  -- behind the last element of a list
  pub list_gives : {passed : Elements} {at : Option ℕ} → InList tree run passed at → at ≡ None → filled_at rec s place ≡ list (filled rec s passed) none
  list_gives so_far e = ap (filled rec s) (list_ends so_far e)

  -- a list gives some text
  pub filled_some : {passed : Elements} {at : Option ℕ} → InList tree run passed at → 0 < length (text (filled_at rec s place))
  filled_some {passed} {at} so_far = rw (so_far.whole, filled_at) (omega arith)
