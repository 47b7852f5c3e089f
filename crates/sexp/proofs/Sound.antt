-- What is read from a text is within the limits, and the text is its text. Assumes nothing.
use Rattle.std.proofs.Common.{◌≡◌, ℕ, zero, suc, ◌+◌, ◌-◌, ◌<◌, ◌≤◌, Bool, true, false, ◌⊎◌, List, [], ◌∷◌, ◌++◌, length, drop, sym, refl, ap, ◌∙◌, subst, ap₂, inl, inr, arith}
use Rattle.sexp.specs.declared.refusals.Refusal.{Refusal}
use Rattle.sexp.specs.declared.refusals.Refusal.TheVariants.{TextLength}
use Rattle.sexp.specs.Elements.{octets, Elements, none, atom, list, Record, count, depth, ShortAtoms, Within, Sized}
use Rattle.sexp.specs.Text.{text_then, text}
use Rattle.sexp.specs.Grammar.{Decimal}
use Rattle.sexp.specs.Faults.{Due}
use Rattle.sexp.specs.Reading.{Lexeme, lexeme, Reading, refused, read, before, nested, onward, opened, closed, complete, reading, concluded, verdict, accepted, rejected}
use Rattle.sexp.proofs.Lexing.{first_same, Told, told, over_true, over_false}
use Rattle.sexp.proofs.Steps.{behind_string, step_opening, step_closing, token_string, step_fault, step_early, step_whole, cases_sized, verdict_sized, verdict_unsized}
use Rattle.sexp.proofs.Decimal.{decimal_text}

-- the text of what is left of each open list, the innermost first: each closes the one before it, and the first has a ")" in front too
abbrev pub trail : List Elements → List ℕ
trail [] = []
trail (e ∷ es) = 41 ∷ text_then e (trail es)

-- what is left has no list too deep and no atom too long
abbrev pub Fine : List Elements → Type 0
Fine [] = Unit {0}
Fine (e ∷ es) = (length es + depth e ≤ 32) × ShortAtoms e × Fine es

abbrev pub total : List Elements → ℕ
total [] = 0
total (e ∷ es) = count e + total es

-- of the root all is left, where no element has begun, and else nothing
abbrev pub Outer : ℕ → List Elements → Type 0
Outer c [] = ⊥
Outer c (e ∷ []) = (0 < c → e ≡ none) × (c ≡ 0 → Record e)
Outer c (e ∷ (f ∷ fs)) = Outer c (f ∷ fs)

pub record Sound (skip d c : ℕ) (t : List ℕ) (rests : List Elements) : Type 0 where
  pub front : 41 ∷ drop skip t ≡ trail rests
  pub lists : length rests ≡ suc d
  pub fine : Fine rests
  pub few : c + total rests ≤ 4096
  pub outer : Outer c rests

outer_down : (c : ℕ) (rests : List Elements) → 0 < c → Outer (c + 1) rests → Outer c rests
outer_down c [] p h = h
outer_down c (e ∷ []) p h = ((λ _. h.0 (omega arith)), (λ z. absurd (omega arith)))
outer_down c (e ∷ (f ∷ fs)) p h = outer_down c (f ∷ fs) p h

-- the results of the steps, taken apart
read_same : {r s : List Elements} → read r ≡ read s → r ≡ s
read_same p = cc

not_read : {r : Refusal} {s : List Elements} → refused r ≡ read s → ⊥
not_read p = let z : ◌≡◌ {A = ℕ} 0 1 = cc in omega arith

opened_read : (R : Reading) (rests : List Elements) → opened R ≡ read rests → (r : List Elements) × (R ≡ read r) × (nested r ≡ rests)
opened_read (refused x) rests p = absurd (not_read p)
opened_read (read r) rests p = (r, refl, read_same p)

closed_read : (R : Reading) (rests : List Elements) → closed R ≡ read rests → (r : List Elements) × (R ≡ read r) × (none ∷ r ≡ rests)
closed_read (refused x) rests p = absurd (not_read p)
closed_read (read r) rests p = (r, refl, read_same p)

onward_read : (e : Elements) (R : Reading) (rests : List Elements) → onward e R ≡ read rests → (r : List Elements) × (R ≡ read r) × (before e r ≡ rests)
onward_read e (refused x) rests p = absurd (not_read p)
onward_read e (read r) rests p = (r, refl, read_same p)

-- one token more in front
module _ (d c : ℕ) (started : 0 < d → 0 < c) where
  sound_opening : (rest : List ℕ) (r : List Elements) → Due d c → Sound 0 (d + 1) (c + 1) rest r → Sound 0 d c (40 ∷ rest) (nested r)
  sound_opening rest [] due s = absurd s.outer
  sound_opening rest (inner ∷ []) due s = absurd (omega (arith, s.lists))
  sound_opening rest (inner ∷ (x ∷ es)) due s =
      record {
        front = ap (λ (y : List ℕ). 41 ∷ (40 ∷ drop 1 y)) s.front;
        lists = omega (arith, s.lists);
        fine = (omega (arith, s.fine.0, s.fine.2.0), (s.fine.1, s.fine.2.1), s.fine.2.2);
        few = omega (arith, s.few);
        outer = outermost es s.lists s.outer;
      }
    where
      outermost : (es : List Elements) → length (inner ∷ (x ∷ es)) ≡ suc (d + 1) → Outer (c + 1) (x ∷ es) → Outer c (list inner x ∷ es)
      outermost [] l h = ((λ p. absurd (omega arith)), (λ z. h.0 (omega arith)))
      outermost (f ∷ fs) l h = outer_down c (f ∷ fs) (started (omega arith)) h

  sound_closing : (rest : List ℕ) (r : List Elements) → 0 < d → d ≤ 32 → Sound 0 (d - 1) c rest r → Sound 0 d c (41 ∷ rest) (none ∷ r)
  sound_closing rest [] p deep s = absurd s.outer
  sound_closing rest (e ∷ es) p deep s =
      record {
        front = ap (41 ∷◌) s.front;
        lists = omega (arith, s.lists);
        fine = (omega (arith, s.lists), tt, s.fine);
        few = omega (arith, s.few);
        outer = s.outer;
      }

  sound_string : (o : ℕ) (rest ds os behind : List ℕ) (r : List Elements) → o ∷ rest ≡ ds ++ (58 ∷ (os ++ behind)) → Decimal ds (length os) → length os ≤ 1024 → Due d c → d < 32 → Sound (length ds + length os) d (c + 1) rest r → Sound 0 d c (o ∷ rest) (before (atom (octets os) none) r)
  sound_string o rest ds os behind [] p v l due deep s = absurd s.outer
  sound_string o rest ds os behind (e ∷ es) p v l due deep s =
      record {
        front = ap (41 ∷◌) (p ∙ ap₂ (λ (x y : List ℕ). x ++ (58 ∷ (os ++ y))) (decimal_text v (omega arith)) (sym (behind_string o rest ds os behind p) ∙ ap (drop 1) s.front));
        lists = s.lists;
        fine = (omega (arith, s.lists, s.fine.0), (l, s.fine.1), s.fine.2);
        few = omega (arith, s.few);
        outer = outermost es s.lists s.outer;
      }
    where
      outermost : (es : List Elements) → length (e ∷ es) ≡ suc d → Outer (c + 1) (e ∷ es) → Outer c (atom (octets os) e ∷ es)
      outermost [] k h = ((λ p. absurd (omega arith)), (λ z. h.0 (omega arith)))
      outermost (f ∷ fs) k h = outer_down c (f ∷ fs) (started (omega arith)) h

-- what reading gives from an offset on
abbrev ReadsSoundly : List ℕ → Type 0
ReadsSoundly t = (end skip d c at : ℕ) (rests : List Elements) → d ≤ 32 → c ≤ 4096 → (0 < d → 0 < c) → reading end skip d c at t ≡ read rests → Sound skip d c t rests

sound_end : (end d c at : ℕ) (rests : List Elements) → d ≤ 32 → c ≤ 4096 → reading end 0 d c at [] ≡ read rests → Sound 0 d c [] rests
sound_end end d c at rests deep many p = go (complete d c) refl
  where
    go : (b : Bool) → complete d c ≡ b → Sound 0 d c [] rests
    go true e =
        let over : Due d c → ⊥ = over_true d c e in
        let zero-lists : d ≡ 0 = grind arith in
        let begun : 0 < c = grind arith in
        rw (← read_same (sym (step_whole end d c at over) ∙ p)) (record { front = refl; lists = omega arith; fine = (omega arith, tt, tt); few = omega arith; outer = ((λ _. refl), (λ z. absurd (omega arith))) })
    go false e = absurd (not_read (sym (step_early end d c at (over_false d c e)) ∙ p))

sound_token : (o : ℕ) (rest : List ℕ) → ReadsSoundly rest → (end d c at : ℕ) (rests : List Elements) → d ≤ 32 → c ≤ 4096 → (0 < d → 0 < c) → reading end 0 d c at (o ∷ rest) ≡ read rests → Sound 0 d c (o ∷ rest) rests
sound_token o rest ih end d c at rests deep many started p = go (told end at d c o rest) refl
  where
    go : {x : Lexeme} → Told end at d c (o ∷ rest) x → lexeme end d c at (o ∷ rest) ≡ x → Sound 0 d c (o ∷ rest) rests
    go (Told.opening tail f due room) e =
        let (r, q, n) = opened_read _ rests (sym (step_opening end d c at (o ∷ rest) e) ∙ p) in
        rw (first_same f) (subst (Sound 0 d c (40 ∷ rest)) n
        (sound_opening d c started rest r due (ih end 0 (d + 1) (c + 1) (at + 1) r (omega arith) (omega arith) (λ _. omega arith) q)))
    go (Told.closing tail f h) e =
        let (r, q, n) = closed_read _ rests (sym (step_closing end d c at (o ∷ rest) e) ∙ p) in
        rw (first_same f) (subst (Sound 0 d c (41 ∷ rest)) n
        (sound_closing d c started rest r h deep (ih end 0 (d - 1) c (at + 1) r (omega arith) many (λ k. started (omega arith)) q)))
    go (Told.string ds os tail f v l due room) e =
        let (r, q, n) = onward_read (atom (octets os) none) _ rests (sym (token_string end d c at o rest os (length ds + length os) e) ∙ p) in
        subst (Sound 0 d c (o ∷ rest)) n
        (sound_string d c started o rest ds os tail r f v l due room.0 (ih end (length ds + length os) d (c + 1) (at + 1) r deep (omega arith) (λ _. omega arith) q))
    go (Told.fault {r} f) e = absurd (not_read (sym (step_fault end d c at (o ∷ rest) r (omega arith) e) ∙ p))

sound : (t : List ℕ) → ReadsSoundly t
sound [] end zero d c at rests deep many started p = sound_end end d c at rests deep many p
sound [] end (suc skip) d c at rests deep many started p = absurd (not_read p)
sound (o ∷ rest) end zero d c at rests deep many started p = sound_token o rest (sound rest) end d c at rests deep many started p
sound (o ∷ rest) end (suc skip) d c at rests deep many started p =
    let s = sound rest end skip d c (at + 1) rests deep many started p in
    record { front = s.front; lists = s.lists; fine = s.fine; few = s.few; outer = s.outer }

-- the root: what is read is a record within the limits, and the text is its text
root : (e : Elements) (t : List ℕ) → Sound 0 0 0 t (e ∷ []) → Record e × Within e × (t ≡ text e)
root e t s = (s.outer.1 refl, record { few = omega (arith, s.few); shallow = omega (arith, s.fine.0); short = s.fine.1 }, ap (drop 1) s.front)

pub accepted_text : (t : List ℕ) (e : Elements) → verdict t ≡ accepted e → Record e × Within e × Sized t × (t ≡ text e)
accepted_text t e p = go (cases_sized t)
  where
    read_text : (R : Reading) → reading (length t) 0 0 0 0 t ≡ R → concluded R ≡ accepted e → Record e × Within e × (t ≡ text e)
    read_text (refused r) q c = let z : ◌≡◌ {A = ℕ} 0 1 = cc in absurd (omega arith)
    read_text (read []) q c = absurd (sound t (length t) 0 0 0 0 [] (omega arith) (omega arith) (λ k. k) q).outer
    read_text (read (f ∷ (x ∷ es))) q c = absurd (omega (arith, (sound t (length t) 0 0 0 0 (f ∷ (x ∷ es)) (omega arith) (omega arith) (λ k. k) q).lists))
    read_text (read (f ∷ [])) q c =
        let same : f ≡ e = cc in
        rw same at (root f t (sound t (length t) 0 0 0 0 (f ∷ []) (omega arith) (omega arith) (λ k. k) q))

    go : Sized t ⊎ (Sized t → ⊥) → Record e × Within e × Sized t × (t ≡ text e)
    go (inl s) = let k = read_text (reading (length t) 0 0 0 0 t) refl (sym (verdict_sized t s) ∙ p) in (k.0, k.1, s, k.2)
    go (inr n) = let q : rejected TextLength ≡ accepted e = sym (verdict_unsized t n) ∙ p in let z : ◌≡◌ {A = ℕ} 0 1 = cc in absurd (omega arith)
