-- A side without a fault is lawful. Assumes nothing.
use Rattle.std.proofs.Common.{◌≡◌, ℕ, ◌+◌, ◌<◌, ◌≤◌, ◌⊎◌, List, [], ◌∷◌, ◌++◌, length, Option, Some, None, sym, refl, ap, ◌∙◌, subst, inl, inr, append-nil, append_assoc, arith}
use Rattle.std.proofs.lemmas.Bool.{cases_Bool, cases_lt, cases_eq}
use Rattle.std.proofs.lemmas.List.{length-append}
use Rattle.sexp.specs.Elements.{octets}
use Rattle.holder.specs.Placed.{Placed, nothing, atom_at, list_at, Stands}
use Rattle.holder.specs.Walks.{first_of}
use Rattle.rules.specs.declared.signs.Sign.{Sign}
use Rattle.rules.specs.declared.signs.Sign.TheVariants.{Variable, Segment}
use Rattle.rules.specs.Complete.{In}
use Rattle.rules.specs.Patterns.{done, constant, slot, sign_octet, written, read_atom, pattern_of, Slot, firsts, segments}
use Rattle.books.specs.declared.checking.Side.{Side}
use Rattle.books.specs.declared.checking.Side.TheVariants.{Pattern as PatternSide, Template}
use Rattle.books.specs.Items.{Item, first_items}
use Rattle.books.specs.Scanning.{differ, sign_of}
use Rattle.rules.specs.Signs.{HasSign}
use Rattle.rules.proofs.Writing.{written-pattern_of}
use Rattle.rules.proofs.Orders.{in_right}
use Rattle.books.specs.Faults.{Writes, Named, Fault, written_by, names_before, Faultless}
use Rattle.rules.specs.Lawful.{LawfulSide}
use Rattle.books.proofs.FaultsNames.{added, added_known, added_new, firsts_added, in_added, sign_in, sign_none}
use Rattle.books.proofs.FaultsItem.{Shape, plain, unsigned, name, shape, plain_signed, name_signed, plain_written, unsigned_written, name_written, differ_tells, differ_same, plain_behind, name_behind, written_then}
use Rattle.books.proofs.LawfulRuns.{first_record, count_first, slots_first, AllSigned, signed_first}

-- where an element stands in a list
record Cut {A : Type 0} (x : A) (xs : List A) : Type 0 where
  before : List A
  behind : List A
  is : xs ≡ before ++ (x ∷ behind)

in_cut : {A : Type 0} (x : A) (xs : List A) → In x xs → Cut x xs
in_cut x [] m = absurd m
in_cut x (y ∷ xs) (inl e) = record { before = []; behind = xs; is = ap (λ z. z ∷ xs) (sym e) }
in_cut x (y ∷ xs) (inr m) = let c = in_cut x xs m in record { before = y ∷ c.before; behind = c.behind; is = ap (λ zs. y ∷ zs) c.is }

-- an element that writes a name
record Writer (s : Slot) (is : List Item) : Type 0 where
  item : Item
  writes : Writes item s
  cut : Cut item is

later_writer : (s : Slot) (i : Item) (is : List Item) → Writer s is → Writer s (i ∷ is)
later_writer s i is w = record { item = w.item; writes = w.writes; cut = record { before = i ∷ w.cut.before; behind = w.cut.behind; is = ap (λ zs. i ∷ zs) w.cut.is } }

writer : (s : Slot) (is : List Item) → In s (written_by is) → Writer s is
writer s [] m = absurd m
writer s (i ∷ is) m = go (shape i) (writer s is)
  where
    go : Shape i → (In s (written_by is) → Writer s is) → Writer s (i ∷ is)
    go (plain p) more = later_writer s i is (more (rw (plain_written i is p) at m))
    go (unsigned os e h) more = later_writer s i is (more (rw (unsigned_written i os is e h) at m))
    go (name t w) more = let n : In s (t ∷ written_by is) = rw (name_written i t is w) at m in elim n [
      | inl e ↦ record { item = i; writes = rw e w; cut = record { before = []; behind = is; is = refl } }
      | inr k ↦ later_writer s i is (more k)
    ]

-- the last of some
record Last {A : Type 0} (xs : List A) : Type 0 where
  last : A
  before : List A
  is : xs ≡ before ++ (last ∷ [])

last_of : {A : Type 0} (x : A) (xs : List A) → Last (x ∷ xs)
last_of x [] = record { last = x; before = []; is = refl }
last_of x (y ∷ ys) = let l = last_of y ys in record { last = l.last; before = x ∷ l.before; is = ap (λ zs. x ∷ zs) l.is }

module _ (side : Side) (pattern is : List Item) (clean : Faultless side pattern is) where
  signed : AllSigned is
  signed i os m e = go (shape i)
    where
      go : Shape i → HasSign os
      go (plain p) = plain_signed i os p e
      go (unsigned qs q h) = let c = in_cut i is m in absurd (clean c.before c.behind i _ c.is (Fault.unsigned q h))
      go (name s w) = name_signed i s os w e

  few : length is ≤ 256
  few = go is refl
    where
      go : (js : List Item) → is ≡ js → length js ≤ 256
      go [] e = omega arith
      go (i ∷ js) e = let l = last_of i js in elim (cases_lt (length l.before) 256) [
        | inl h ↦ omega (arith, ap length l.is, length-append l.before (l.last ∷ []))
        | inr h ↦ absurd (clean l.before [] l.last _ (e ∙ l.is) (Fault.large h))
      ]

  fair : (s : Slot) → In s (written_by is) → (1 ≤ length s.name) × (length s.name ≤ 32)
  fair s m = let w = writer s is m in (below w, above w)
    where
      below : Writer s is → 1 ≤ length s.name
      below w = elim (cases_eq (length s.name) 0) [
        | inl e ↦ absurd (clean w.cut.before w.cut.behind w.item _ w.cut.is (Fault.misnamed s w.writes (inl e)))
        | inr n ↦ omega arith
      ]

      above : Writer s is → length s.name ≤ 32
      above w = elim (cases_lt 32 (length s.name)) [
        | inl h ↦ absurd (clean w.cut.before w.cut.behind w.item _ w.cut.is (Fault.misnamed s w.writes (inr h)))
        | inr n ↦ n
      ]

  -- each name is among those of the pattern that are known there, or is a new one
  known_or_new : (s : Slot) (w : Writer s is) → In s (names_before side pattern w.cut.before) ⊎ (sign_of s.name (names_before side pattern w.cut.before) ≡ None)
  known_or_new s w = go (sign_of s.name (names_before side pattern w.cut.before)) refl
    where
      go : (o : Option Sign) → sign_of s.name (names_before side pattern w.cut.before) ≡ o → In s (names_before side pattern w.cut.before) ⊎ (sign_of s.name (names_before side pattern w.cut.before) ≡ None)
      go None e = inr e
      go (Some sign) e = elim (cases_Bool (differ sign s.sign)) [
        | inl b ↦ absurd (clean w.cut.before w.cut.behind w.item _ w.cut.is (Fault.other s w.writes (sign_in s.name _ sign e) ((differ_tells sign s.sign).0 b)))
        | inr b ↦ inl (subst (λ g. In (record { sign = g; name = s.name }) (names_before side pattern w.cut.before)) (differ_same sign s.sign b) (sign_in s.name _ sign e))
      ]

-- names stay as elements follow
firsts_more : (s : Slot) (xs ys : List Slot) → In s (firsts xs) → In s (firsts (xs ++ ys))
firsts_more s xs [] m = rw (append-nil xs) m
firsts_more s xs (y ∷ ys) m = rw (append_assoc xs (y ∷ []) ys) at (firsts_more s (xs ++ (y ∷ [])) ys (rw (firsts_added xs y) (in_added s y (firsts xs) m)))

module _ (pattern is : List Item) (clean : Faultless Template pattern is) where
  pub bound : (s : Slot) → In s (written_by is) → In s (firsts (written_by pattern))
  bound s m = go (writer s is m)
    where
      go : Writer s is → In s (firsts (written_by pattern))
      go w = elim (known_or_new Template pattern is clean s w) [
        | inl h ↦ h
        | inr e ↦ absurd (clean w.cut.before w.cut.behind w.item _ w.cut.is (Fault.unbound s refl w.writes (sign_none s.name _ e)))
      ]

-- the limits on the names of a pattern
pub record FewNames (ss : List Slot) : Type 0 where
  pub names : length ss ≤ 16
  pub segments : segments ss ≤ 4

segments_push : (ss : List Slot) (s : Slot) → segments (ss ++ (s ∷ [])) ≡ segments ss + segments (s ∷ [])
segments_push [] s = omega arith
segments_push (x ∷ ss) s = go x.sign refl (segments_push ss s)
  where
    go : (g : Sign) → x.sign ≡ g → segments (ss ++ (s ∷ [])) ≡ segments ss + segments (s ∷ []) → segments ((x ∷ ss) ++ (s ∷ [])) ≡ segments (x ∷ ss) + segments (s ∷ [])
    go Variable e more = rw e more
    go Segment e more = rw e (omega (arith, more))

few_added : (s : Slot) (ss : List Slot) → FewNames ss → length ss < 16 → (s.sign ≡ Segment → segments ss < 4) → FewNames (ss ++ (s ∷ []))
few_added s ss few room part = record { names = omega (arith, length-append ss (s ∷ [])); segments = go s.sign refl }
  where
    go : (g : Sign) → s.sign ≡ g → segments (ss ++ (s ∷ [])) ≤ 4
    go Variable e = let z : segments (s ∷ []) ≡ 0 = rw e refl in omega (arith, segments_push ss s, few.segments)
    go Segment e = let z : segments (s ∷ []) ≡ 1 = rw e refl in omega (arith, segments_push ss s, part e)

module _ (is : List Item) (clean : Faultless PatternSide is is) where
  pub agree : (s : Slot) → In s (written_by is) → In s (firsts (written_by is))
  agree s m = go (writer s is m)
    where
      in_next : (ss : List Slot) → In s ss ⊎ (sign_of s.name ss ≡ None) → In s (added s ss)
      in_next ss (inl h) = in_added s s ss h
      in_next ss (inr e) = rw (added_new s ss e) (in_right s ss (s ∷ []) (inl refl))

      go : Writer s is → In s (firsts (written_by is))
      go w =
          let front : List Slot = written_by w.cut.before in
          let all : written_by is ≡ (front ++ (s ∷ [])) ++ written_by w.cut.behind
          = ap written_by w.cut.is ∙ (written_then w.cut.before (w.item ∷ w.cut.behind) ∙ (ap (λ ss. front ++ ss) (name_written w.item s w.cut.behind w.writes) ∙ sym (append_assoc front (s ∷ []) (written_by w.cut.behind)))) in
          rw all (firsts_more s (front ++ (s ∷ [])) (written_by w.cut.behind) (rw (firsts_added front s) (in_next (firsts front) (known_or_new PatternSide is is clean s w))))

  few_step : (before behind : List Item) (i : Item) → is ≡ before ++ (i ∷ behind) → FewNames (firsts (written_by before)) → FewNames (firsts (written_by (before ++ (i ∷ []))))
  few_step before behind i e few = go (shape i)
    where
      new : (s : Slot) → Writes i s → (o : Option Sign) → sign_of s.name (firsts (written_by before)) ≡ o → FewNames (added s (firsts (written_by before)))
      new s w (Some sign) q = rw (added_known s (firsts (written_by before)) sign q) few
      new s w None q = rw (added_new s (firsts (written_by before)) q) (few_added s (firsts (written_by before)) few (room (cases_lt _ 16)) (part (cases_lt _ 4)))
        where
          fresh : Named s.name (firsts (written_by before)) → ⊥
          fresh = sign_none s.name (firsts (written_by before)) q

          room : (length (firsts (written_by before)) < 16) ⊎ (16 ≤ length (firsts (written_by before))) → length (firsts (written_by before)) < 16
          room (inl h) = h
          room (inr h) = absurd (clean before behind i _ e (Fault.many_names s refl w fresh h))

          part : (segments (firsts (written_by before)) < 4) ⊎ (4 ≤ segments (firsts (written_by before))) → s.sign ≡ Segment → segments (firsts (written_by before)) < 4
          part (inl h) g = h
          part (inr h) g = absurd (clean before behind i _ e (Fault.many_segments s refl w g fresh h))

      go : Shape i → FewNames (firsts (written_by (before ++ (i ∷ []))))
      go (plain p) = rw (plain_behind PatternSide is before i p) few
      go (unsigned os q h) = absurd (clean before behind i _ e (Fault.unsigned q h))
      go (name s w) = rw (name_behind is before i s w) (new s w (sign_of s.name (firsts (written_by before))) refl)

  few_from : (rest before : List Item) → is ≡ before ++ rest → FewNames (firsts (written_by before)) → FewNames (firsts (written_by is))
  few_from [] before e few = rw (e ∙ append-nil before) few
  few_from (i ∷ rest) before e few = few_from rest (before ++ (i ∷ [])) (e ∙ sym (append_assoc before (i ∷ []) rest)) (few_step before rest i e few)

  pub few_names : FewNames (firsts (written_by is))
  few_names = few_from is [] refl (record { names = omega arith; segments = omega arith })

-- a segment by itself has a fault
read_segment : (os octs : List ℕ) → HasSign os → read_atom os done ≡ slot Segment octs done → os ≡ 33 ∷ octs
read_segment [] octs h e = absurd h
read_segment (o ∷ os) octs (inl q) e = let z : constant (octets os) done ≡ slot Segment octs done = rw q at e in absurd cc
read_segment (o ∷ os) octs (inr h) e = go h.0 h.1
  where
    go : (sign : Sign) → o ≡ sign_octet sign → o ∷ os ≡ 33 ∷ octs
    go Variable q = let z : slot Variable os done ≡ slot Segment octs done = rw q at e in let y : Variable ≡ Segment = cc in absurd cc
    go Segment q = let z : slot Segment os done ≡ slot Segment octs done = rw q at e in cc

no_whole : (side : Side) (pattern : List Item) (run : Placed) (octs : List ℕ) → Faultless side pattern (first_items run) → pattern_of (first_of run) ≡ slot Segment octs done → ⊥
no_whole side pattern nothing octs clean e = absurd cc
no_whole side pattern (atom_at p (octets os) es) octs clean e =
    let i : Item = record { place = p; atom = Some os } in
    let h : HasSign os = signed side pattern (i ∷ []) clean i os (inl refl) refl in
    clean [] [] i _ refl (Fault.whole (record { sign = Segment; name = octs }) (ap Some (read_segment os octs h e)) refl refl)
no_whole side pattern (list_at p inner es) octs clean e = absurd cc

-- a side
module _ (side : Side) (pattern : List Item) (run : Placed) (stands : Stands run) (clean : Faultless side pattern (first_items run)) where
  pub first_written : written (pattern_of (first_of run)) ≡ first_of run
  first_written = written-pattern_of (first_of run) (signed_first run (signed side pattern (first_items run) clean))

  pub lawful_side : LawfulSide (pattern_of (first_of run))
  lawful_side = record {
    one = rw first_written (first_record run stands);
    few = rw (first_written, count_first run) (few side pattern (first_items run) clean);
    whole = λ octs e. no_whole side pattern run octs clean e;
    named = λ s m. fair side pattern (first_items run) clean s (rw (slots_first run) at m);
  }
