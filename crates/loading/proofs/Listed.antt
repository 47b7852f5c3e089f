-- A text is not loaded exactly as listed, and loaded exactly if it is canonical and each element has a node. Assumes nothing.
use Rattle.std.proofs.Common.{◌≡◌, ℕ, zero, suc, ◌+◌, ◌-◌, ◌<◌, ◌≤◌, true, false, ◌||◌, eqb, ltb, ◌⊎◌, List, [], ◌∷◌, ◌++◌, length, drop, Some, None, decimal, Option, sym, refl, ap, ◌∙◌, subst, ap₂, inl, inr, append_assoc, arith}
use Rattle.std.proofs.lemmas.List.{length-append, drop_at}
use Rattle.std.proofs.lemmas.Bool.Decides.{nat_tests}
use Rattle.sexp.specs.declared.refusals.Refusal.{Refusal}
use Rattle.sexp.specs.declared.refusals.Refusal.TheVariants.{TextLength, NoNode}
use Rattle.sexp.specs.Elements.{octets, Elements, none, atom, list, Record, count, depth, ShortAtoms, Within, Sized}
use Rattle.sexp.specs.Text.{text_then, text}
use Rattle.sexp.specs.Grammar.{Verbatim, verbatim, CSexp}
use Rattle.sexp.specs.Faults.{Due, Room, Passed, Refused}
use Rattle.sexp.specs.Reading.{lexeme, verdict, accepted, rejected}
use Rattle.sexp.proofs.Decimal.{decimal_is}
use Rattle.sexp.proofs.Lexing.{first_same, Told, told, lex_opening, lex_closing, lex_atom, lex_fault}
use Rattle.sexp.proofs.Listed.{refused_listed, listed_refused}
use Rattle.sexp.proofs.Sound.{accepted_text}
use Rattle.sexp.proofs.Steps.{behind_string, string_fits, cases_sized}
use Rattle.sexp.proofs.Theory.{accepted_canonical}
use Rattle.loading.specs.Lacking.{Begun, Lacks, Unloaded, taken, lacking, placing, load_verdict}
use Rattle.loading.proofs.Lacks.{lack_opening, lack_closing, lack_token, lack_string, lack_fault, taken_some}

-- a string's text, with what follows it
string_lack : (end left at d c : ℕ) {t os : List ℕ} (rest : List ℕ) → Due d c → Room d c → Verbatim t os → length os ≤ 1024 → lacking end left 0 d c at (t ++ rest) ≡ taken left at (lacking end (left - 1) 0 d (c + 1) (at + length t) rest)
string_lack end left at d c rest due room (verbatim {ds} {os} v) l =
    ap (lacking end left 0 d c at) (append_assoc ds (58 ∷ os) rest)
    ∙ lack_string end left d c at (ds ++ (58 ∷ (os ++ rest))) os (length ds + length os) (lex_atom end d c at os rest due room v l)
    ∙ ap₂ (λ x y. taken left at (lacking end (left - 1) 0 d (c + 1) (at + x) y)) extent
    (ap (drop (length ds + length os + 1)) (sym (append_assoc ds (58 ∷ os) rest)) ∙ drop_at (ds ++ (58 ∷ os)) rest (length ds + length os + 1) (sym extent))
  where
    extent : length ds + length os + 1 ≡ length (ds ++ (58 ∷ os))
    extent = omega (arith, length-append ds (58 ∷ os))

-- an element that begins where no node is left
begun_lacks : (end d c at : ℕ) {t : List ℕ} → Begun d c t → lacking end 0 0 d c at t ≡ Some at
begun_lacks end d c at (Begun.list {rest} due room) = lack_opening end 0 d c at (40 ∷ rest) (lex_opening end d c at rest due room)
begun_lacks end d c at (Begun.atom rest due room v l) = string_lack end 0 at d c rest due room v l

-- tokens without a fault, each element of which takes a node
passed_lacking : {t : List ℕ} {at d c : ℕ} {rest : List ℕ} (end room : ℕ) → Passed t at d c rest → c ≤ room → lacking end room 0 0 0 0 t ≡ lacking end (room - c) 0 d c at rest
passed_lacking {t} end room Passed.start h = ap (λ m. lacking end m 0 0 0 0 t) (omega arith)
passed_lacking end room (Passed.opening {at} {depth} {count} {rest} p due r) h =
    passed_lacking end room p (omega arith)
    ∙ lack_opening end (room - count) depth count at (40 ∷ rest) (lex_opening end depth count at rest due r)
    ∙ taken_some (room - count) at _ (omega arith)
    ∙ ap (λ m. lacking end m 0 (depth + 1) (count + 1) (at + 1) rest) (omega arith)
passed_lacking end room (Passed.closing {at} {depth} {count} {rest} p k) h =
    passed_lacking end room p h ∙ lack_closing end (room - count) depth count at (41 ∷ rest) (lex_closing end depth count at rest k)
passed_lacking end room (Passed.string {at} {depth} {count} {t} {rest} p due r v l) h =
    passed_lacking end room p (omega arith)
    ∙ string_lack end (room - count) at depth count rest due r v l
    ∙ taken_some (room - count) at _ (omega arith)
    ∙ ap (λ m. lacking end m 0 depth (count + 1) (at + length t) rest) (omega arith)

-- where no element is without a node, each that has begun has one
taken_is_none : (left at : ℕ) (later : Option ℕ) → taken left at later ≡ None → (0 < left) × (later ≡ None)
taken_is_none zero at later e = cc
taken_is_none (suc left) at later e = (omega arith, e)

none_lacks : {t : List ℕ} {at d c : ℕ} {rest : List ℕ} (end room : ℕ) → Passed t at d c rest → lacking end room 0 0 0 0 t ≡ None → (c ≤ room) × (lacking end (room - c) 0 d c at rest ≡ None)
none_lacks {t} end room Passed.start e = (omega arith, ap (λ m. lacking end m 0 0 0 0 t) (omega arith) ∙ e)
none_lacks end room (Passed.opening {at} {depth} {count} {rest} p due r) e =
    let so_far = none_lacks end room p e in
    let here = taken_is_none (room - count) at _ (sym (lack_opening end (room - count) depth count at (40 ∷ rest) (lex_opening end depth count at rest due r)) ∙ so_far.1) in
    (omega (arith, here.0), ap (λ m. lacking end m 0 (depth + 1) (count + 1) (at + 1) rest) (omega arith) ∙ here.1)
none_lacks end room (Passed.closing {at} {depth} {count} {rest} p k) e =
    let so_far = none_lacks end room p e in
    (so_far.0, sym (lack_closing end (room - count) depth count at (41 ∷ rest) (lex_closing end depth count at rest k)) ∙ so_far.1)
none_lacks end room (Passed.string {at} {depth} {count} {t} {rest} p due r v l) e =
    let so_far = none_lacks end room p e in
    let here = taken_is_none (room - count) at _ (sym (string_lack end (room - count) at depth count rest due r v l) ∙ so_far.1) in
    (omega (arith, here.0), ap (λ m. lacking end m 0 depth (count + 1) (at + length t) rest) (omega arith) ∙ here.1)

-- the element without a node, found from the left
moved : {t rest : List ℕ} {at at' d c : ℕ} → at ≡ at' → Passed t at d c rest → Passed t at' d c rest
moved {t} {rest} {d} {c} e p = subst (λ x. Passed t x d c rest) e p

module _ (text : List ℕ) (end room w : ℕ) where
  abbrev Finds : List ℕ → Type 0
  Finds t = (skip left d c at : ℕ) → skip ≤ length t → c + left ≡ room → Passed text (at + skip) d c (drop skip t) → lacking end left skip d c at t ≡ Some w → Lacks room text w

  here : (left d c at : ℕ) (t : List ℕ) (later : Option ℕ) → c + left ≡ room → Passed text at d c t → Begun d c t → taken left at later ≡ Some w → (0 < left → later ≡ Some w → Lacks room text w) → Lacks room text w
  here zero d c at t later n passed begun p on =
      let same : at ≡ w = cc in
      let all : c ≡ room = omega arith in
      record { depth = d; rest = t; passed = subst (λ x. Passed text x d room t) same (subst (λ k. Passed text at d k t) all passed); begun = subst (λ k. Begun d k t) all begun }
  here (suc left) d c at t later n passed begun p on = on (omega arith) p

  found_token : (o : ℕ) (rest : List ℕ) → Finds rest → (left d c at : ℕ) → c + left ≡ room → Passed text at d c (o ∷ rest) → lacking end left 0 d c at (o ∷ rest) ≡ Some w → Lacks room text w
  found_token o rest ih left d c at n passed p = go (told end at d c o rest) refl
    where
      go : {x : _} → Told end at d c (o ∷ rest) x → lexeme end d c at (o ∷ rest) ≡ x → Lacks room text w
      go (Told.opening tail f due r) e =
          here left d c at (o ∷ rest) _ n passed (rw (first_same f) (Begun.list due r)) (sym (lack_opening end left d c at (o ∷ rest) e) ∙ p)
          (λ some q. ih 0 (left - 1) (d + 1) (c + 1) (at + 1) (omega arith) (omega arith) (moved (omega arith) (Passed.opening (rw (first_same f) at passed) due r)) q)
      go (Told.closing tail f h) e =
          ih 0 left (d - 1) c (at + 1) (omega arith) n (moved (omega arith) (Passed.closing (rw (first_same f) at passed) h)) (sym (lack_closing end left d c at (o ∷ rest) e) ∙ p)
      go (Told.string ds os tail f v l due r) e =
          let more : ℕ = length ds + length os in
          let fits : more < length (o ∷ rest) = (string_fits end d c at (o ∷ rest) os more e).0 in
          let whole : o ∷ rest ≡ (ds ++ (58 ∷ os)) ++ tail = f ∙ sym (append_assoc ds (58 ∷ os) tail) in
          let next : Passed text (at + length (ds ++ (58 ∷ os))) d (c + 1) tail = Passed.string (subst (Passed text at d c) whole passed) due r (verbatim v) l in
          here left d c at (o ∷ rest) _ n passed (subst (Begun d c) (sym whole) (Begun.atom tail due r (verbatim v) l)) (sym (lack_token end left d c at o rest os more e) ∙ p)
          (λ some q. ih more (left - 1) d (c + 1) (at + 1) (omega arith) (omega arith) (rw (behind_string o rest ds os tail f) (moved (omega (arith, length-append ds (58 ∷ os))) next)) q)
      go (Told.fault {r = s} f) e =
          let z : None ≡ Some w = sym (lack_fault end left d c at (o ∷ rest) s e) ∙ p in cc

  found : (t : List ℕ) → Finds t
  found [] skip left d c at h n passed p = cc
  found (o ∷ rest) zero left d c at h n passed p = found_token o rest (found rest) left d c at n (moved (omega arith) passed) p
  found (o ∷ rest) (suc skip) left d c at h n passed p = found rest skip left d c (at + 1) (omega arith) n (moved (omega arith) passed) p

-- the tokens of a record's text, from the first to the last
passed_atom : {t : List ℕ} (at d c : ℕ) (os rest : List ℕ) → Due d c → Room d c → length os ≤ 1024 → Passed t at d c (decimal (length os) ++ (58 ∷ (os ++ rest))) → Passed t (at + length (decimal (length os) ++ (58 ∷ os))) d (c + 1) rest
passed_atom {t} at d c os rest due room l p =
    Passed.string (subst (Passed t at d c) (sym (append_assoc (decimal (length os)) (58 ∷ os) rest)) p) due room (verbatim (decimal_is (length os) (omega arith))) l

passed_run : {t : List ℕ} (at d c : ℕ) (es : Elements) (r : List ℕ) → 0 < d → d + depth es ≤ 32 → c + count es ≤ 4096 → ShortAtoms es → Passed t at d c (text_then es r) → (at' : ℕ) × Passed t at' d (c + count es) r
passed_run {t} at d c none r p deep many short h = (at, subst (λ n. Passed t at d n r) (omega arith) h)
passed_run {t} at d c (atom (octets os) es) r p deep many short h =
    let rest = passed_run _ d (c + 1) es r p (omega arith) (omega arith) short.1 (passed_atom at d c os (text_then es r) (inl p) (omega arith) short.0 h) in
    (rest.0, subst (λ n. Passed t rest.0 d n r) (omega arith) rest.1)
passed_run {t} at d c (list inner es) r p deep many short h =
    let within = passed_run (at + 1) (d + 1) (c + 1) inner (41 ∷ text_then es r) (omega arith) (omega arith) (omega arith) short.0 (Passed.opening h (inl p) (omega arith)) in
    let closed : Passed t (within.0 + 1) d (c + 1 + count inner) (text_then es r) = subst (λ n. Passed t (within.0 + 1) n (c + 1 + count inner) (text_then es r)) (omega arith) (Passed.closing {at = within.0} within.1 (omega arith)) in
    let rest = passed_run (within.0 + 1) d (c + 1 + count inner) es r p (omega arith) (omega arith) short.1 closed in
    (rest.0, subst (λ n. Passed t rest.0 d n r) (omega arith) rest.1)

passed_root : (e : Elements) → Record e → Within e → (at : ℕ) × Passed (text e) at 0 (count e) []
passed_root none p w = absurd p
passed_root (atom (octets os) es) p w = rw p (_, passed_atom 0 0 0 os [] (inr refl) (omega arith) w.short.0 Passed.start)
passed_root (list inner es) p w =
    let within = passed_run {t = text (list inner none)} 1 1 1 inner (41 ∷ []) (omega arith) (omega (arith, w.shallow)) (omega (arith, w.few)) w.short.0 (Passed.opening Passed.start (inr refl) (omega arith)) in
    rw p (within.0 + 1, subst (λ n. Passed (text (list inner none)) (within.0 + 1) 0 n []) (omega arith) (Passed.closing within.1 (omega arith)))

-- the verdict on loading, by the text's length
pub load_sized : (room : ℕ) (t : List ℕ) → Sized t → load_verdict room t ≡ placing (lacking (length t) room 0 0 0 0 t) (verdict t)
load_sized room t s = let e : (eqb (length t) 0 || ltb 32768 (length t)) ≡ false = grind (arith, nat_tests) in rw (e, load_verdict)

load_unsized : (room : ℕ) (t : List ℕ) → (Sized t → ⊥) → load_verdict room t ≡ rejected TextLength
load_unsized room t n = let e : (eqb (length t) 0 || ltb 32768 (length t)) ≡ true = grind (arith, nat_tests) in rw (e, load_verdict)

-- not loaded exactly as listed
faulted : (room : ℕ) (t : List ℕ) (k : Refusal) → Sized t → lacking (length t) room 0 0 0 0 t ≡ None → Refused t k → Unloaded room t k
faulted room t k s free (Refused.unsized n) = absurd (n s)
faulted room t k s free (Refused.faulty s' passed f) = Unloaded.faulty s passed f (none_lacks (length t) room passed free).0

pub unloaded_listed : (room : ℕ) (t : List ℕ) (k : Refusal) → load_verdict room t ≡ rejected k → Unloaded room t k
unloaded_listed room t k p = go (cases_sized t)
  where
    sized : Sized t → (l : Option ℕ) → lacking (length t) room 0 0 0 0 t ≡ l → placing l (verdict t) ≡ rejected k → Unloaded room t k
    sized s (Some at) e q =
        let same : NoNode at ≡ k = cc in
        subst (Unloaded room t) same (Unloaded.roomless s (found t (length t) room at t 0 room 0 0 0 (omega arith) (omega arith) Passed.start e))
    sized s None e q = faulted room t k s e (refused_listed t k q)

    go : Sized t ⊎ (Sized t → ⊥) → Unloaded room t k
    go (inl s) = sized s _ refl (sym (load_sized room t s) ∙ p)
    go (inr n) =
        let q : rejected TextLength ≡ rejected k = sym (load_unsized room t n) ∙ p in
        let same : TextLength ≡ k = cc in
        subst (Unloaded room t) same (Unloaded.unsized n)

pub listed_unloaded : (room : ℕ) (t : List ℕ) (k : Refusal) → Unloaded room t k → load_verdict room t ≡ rejected k
listed_unloaded room t k (Unloaded.unsized n) = load_unsized room t n
listed_unloaded room t k (Unloaded.faulty {at} {depth} {count} {rest} s passed f few) =
    load_sized room t s
    ∙ ap₂ placing
    (passed_lacking (length t) room passed few ∙ lack_fault (length t) (room - count) depth count at rest k (lex_fault (length t) depth count at f))
    (listed_refused t k (Refused.faulty s passed f))
listed_unloaded room t k (Unloaded.roomless {at} s lacks) =
    load_sized room t s
    ∙ ap (λ l. placing l (verdict t))
    (passed_lacking (length t) room lacks.passed (omega arith)
    ∙ ap (λ m. lacking (length t) m 0 lacks.depth room at lacks.rest) (omega arith)
    ∙ begun_lacks (length t) lacks.depth room at lacks.begun)

-- loaded exactly if it is a record's canonical text within the limits, and each element has a node
pub loaded_canonical : (room : ℕ) (t : List ℕ) (e : Elements) → load_verdict room t ≡ accepted e → Record e × CSexp t e × Within e × Sized t × (count e ≤ room)
loaded_canonical room t e p = go (cases_sized t)
  where
    fits : Record e → Within e → t ≡ text e → lacking (length t) room 0 0 0 0 t ≡ None → count e ≤ room
    fits r w is free =
        let passed = passed_root e r w in
        (none_lacks (length t) room (subst (λ x. Passed x passed.0 0 (count e) []) (sym is) passed.1) free).0

    sized : Sized t → (l : Option ℕ) → lacking (length t) room 0 0 0 0 t ≡ l → placing l (verdict t) ≡ accepted e → Record e × CSexp t e × Within e × Sized t × (count e ≤ room)
    sized s (Some at) l q = cc
    sized s None l q =
        let k = accepted_text t e q in
        let c = (accepted_canonical t e).0 q in
        (k.0, c.0, c.1, s, fits k.0 k.1 k.3 l)

    go : Sized t ⊎ (Sized t → ⊥) → Record e × CSexp t e × Within e × Sized t × (count e ≤ room)
    go (inl s) = sized s _ refl (sym (load_sized room t s) ∙ p)
    go (inr n) = let q : rejected TextLength ≡ accepted e = sym (load_unsized room t n) ∙ p in cc

pub canonical_loaded : (room : ℕ) (t : List ℕ) (e : Elements) → CSexp t e → Within e → Sized t → count e ≤ room → load_verdict room t ≡ accepted e
canonical_loaded room t e derived within sized few =
    let is : verdict t ≡ accepted e = (accepted_canonical t e).1 derived within sized in
    let k = accepted_text t e is in
    let passed = passed_root e k.0 within in
    load_sized room t sized
    ∙ ap₂ placing (passed_lacking (length t) room (subst (λ x. Passed x passed.0 0 (count e) []) (sym k.3) passed.1) few) is
