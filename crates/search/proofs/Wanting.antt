-- The length that a new segment is to take while four lengths are laid: there is one, since a pattern has at most four segments. Assumes nothing.
use Rattle.std.proofs.Common.{◌≡◌, ℕ, suc, ◌+◌, ◌<◌, ◌≤◌, false, List, [], ◌∷◌, ◌++◌, length, get_or, append-nil, sym, ap, ◌∙◌, arith}
use Rattle.std.proofs.Math.Seq.{get_or-append_seam}
use Rattle.sexp.specs.Elements.{Elements, none, ◌then◌}
use Rattle.rules.specs.declared.signs.Sign.{Sign}
use Rattle.rules.specs.declared.signs.Sign.TheVariants.{Variable, Segment}
use Rattle.rules.specs.Patterns.{Pattern, slot, Slot, slots, firsts, names, segments}
use Rattle.rules.specs.Bindings.{binding, bound, width, lengths}
use Rattle.rules.specs.Goals.{Goal, goal_slots, is_bound, unbound}
use Rattle.rules.proofs.Names.{firsts-new}
use Rattle.rules.proofs.Books.{lengths_segments}
use Rattle.search.specs.States.{choice, State, state}
use Rattle.search.specs.Covering.{along, Tight, Covers}
use Rattle.search.proofs.Covering.{covers_laid}

-- the segments of one list of names and of another
segments-append : (ss ts : List Slot) → segments (ss ++ ts) ≡ segments ss + segments ts
segments-append [] ts = omega arith
segments-append (s ∷ ss) ts = go s.sign (segments-append ss ts)
  where
    go : (sign : Sign) → segments (ss ++ ts) ≡ segments ss + segments ts → elim sign [ Variable ↦ segments (ss ++ ts) | Segment ↦ suc (segments (ss ++ ts)) ] ≡ elim sign [ Variable ↦ segments ss | Segment ↦ suc (segments ss) ] + segments ts
    go Variable h = h
    go Segment h = omega (arith, h)

-- with a new segment to come, fewer than four are bound
pub few_bound : {p : Pattern} {ks : List ℕ} {s : State} {name : List ℕ} {q : Pattern} {es : Elements} {gs : List Goal} → segments (names p) ≤ 4 → s.goals ≡ (slot Segment name q, es) ∷ gs → is_bound name s.bound ≡ false →
    Tight p ks s → length (lengths s.bound) < 4
few_bound {p} {s} {name} {q} {es} {gs} few g k t = omega (arith, few, lengths_segments s.bound, ap segments all, segments-append (bound s.bound) (new ∷ others))
  where
    new : Slot
    new = record { sign = Segment; name = name }

    others : List Slot
    others = unbound (s.bound ++ (binding Segment name none ∷ [])) (firsts (slots q ++ goal_slots gs))

    all : bound s.bound ++ (new ∷ others) ≡ names p
    all = ap (bound s.bound ++◌) (sym (firsts-new s.bound (binding Segment name none) (slots q ++ goal_slots gs) k)) ∙ (ap (λ x. bound s.bound ++ unbound s.bound (firsts (goal_slots x))) (sym g) ∙ t.named)

-- the next one of four lengths behind fewer
next_of : (ks ls left : List ℕ) (d : ℕ) → ks ≡ ls ++ left → length ls < length ks → (rest : List ℕ) × (ks ≡ ls ++ (get_or ks (length ls) d ∷ rest))
next_of ks ls [] d e l = absurd (omega (arith, ap length (e ∙ append-nil ls)))
next_of ks ls (x ∷ rest) d e l = (rest, e ∙ ap (λ y. ls ++ (y ∷ rest)) (sym (ap (λ z. get_or z (length ls) d) e ∙ get_or-append_seam ls x rest d)))

-- the next one of four lengths, while they are laid and a new segment is to come
pub next_length : {p : Pattern} {ks : List ℕ} {s : State} {name : List ℕ} {q : Pattern} {es : Elements} {gs : List Goal} (d : ℕ) → segments (names p) ≤ 4 → s.goals ≡ (slot Segment name q, es) ∷ gs → is_bound name s.bound ≡ false →
    Tight p ks s → (rest : List ℕ) × (ks ≡ lengths s.bound ++ (get_or ks (length (lengths s.bound)) d ∷ rest))
next_length {ks} {s} d few g k t = next_of ks (lengths s.bound) t.left d t.parts (omega (arith, t.long, few_bound few g k t))

-- a new segment that takes it
pub covers_next : {p : Pattern} {e : Elements} {ks : List ℕ} {s : State} {name : List ℕ} {q : Pattern} {es front rest : Elements} {gs : List Goal} (d : ℕ) → segments (names p) ≤ 4 →
    s.goals ≡ (slot Segment name q, es) ∷ gs → is_bound name s.bound ≡ false → es ≡ front then rest → width front ≡ get_or ks (length (lengths s.bound)) d →
    Covers p e (along ks) s → Covers p e (along ks) (state (s.bound ++ (binding Segment name front ∷ [])) ((q, rest) ∷ gs) (choice s.bound name front q rest gs ∷ s.choices))
covers_next {s} d few g k f w h =
    let t = next_length d few g k h.laid in
    covers_laid t.0 g k f (t.1 ∙ ap (λ x. lengths s.bound ++ (x ∷ t.0)) (sym w)) h
