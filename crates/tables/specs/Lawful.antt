-- No two elements of a table share a place. Assumes nothing.
use Rattle.std.proofs.Common.{◌≡◌, ℕ, ◌+◌, ◌<◌, ◌≤◌, List, [], ◌∷◌, ◌++◌, sym, refl, ap, ◌∙◌, subst, arith}
use Rattle.sexp.specs.Elements.{Elements, none, atom, list, count, Record, Within}
use Rattle.holder.specs.Placed.{erase, places, Absent, Apart, Lawful}
use Rattle.tables.specs.Places.{number}
use Rattle.tables.specs.Planted.{planted}

pub erase_planted : (index end : ℕ) (es : Elements) → erase (planted index end es) ≡ es
erase_planted index end none = refl
erase_planted index end (atom a es) = ap (atom a) (erase_planted (index + 1) end es)
erase_planted index end (list inner es) =
    ap (λ x. list x (erase (planted (index + 1 + count inner) end es))) (erase_planted (index + 1) (index + 1 + count inner) inner) ∙ ap (list inner) (erase_planted (index + 1 + count inner) end es)

absent_append : (p : ℕ) (xs ys : List ℕ) → Absent p xs → Absent p ys → Absent p (xs ++ ys)
absent_append p [] ys h k = k
absent_append p (x ∷ xs) ys h k = (h.0, absent_append p xs ys h.1 k)

-- the places of elements from an index on are those of no node in front of it
absent_before : (i j index end : ℕ) (es : Elements) → i < index → index + count es ≤ 65536 → Absent (number i j) (places (planted index end es))
absent_before i j index end none h l = tt
absent_before i j index end (atom a es) h l = (λ e. absurd (omega arith), absent_before i j (index + 1) end es (omega arith) (omega arith))
absent_before i j index end (list inner es) h l =
    (λ e. absurd (omega arith), absent_append (number i j) (places (planted (index + 1) (index + 1 + count inner) inner)) (places (planted (index + 1 + count inner) end es)) (absent_before i j (index + 1) (index + 1 + count inner) inner (omega arith) (omega arith)) (absent_before i j (index + 1 + count inner) end es (omega arith) (omega arith)))

-- places of nodes in front of an index
pub data Before (index : ℕ) : List ℕ → Type 0 where
  no_place : Before index []
  one_place : (i j : ℕ) {ps : List ℕ} → i < index → Before index ps → Before index (number i j ∷ ps)

before_append : (index : ℕ) (xs ys : List ℕ) → Before index xs → Before index ys → Before index (xs ++ ys)
before_append index _ ys no_place k = k
before_append index _ ys (one_place i j {ps} l h) k = one_place i j l (before_append index ps ys h k)

planted_before : (most index end : ℕ) (es : Elements) → index + count es ≤ most → Before most (places (planted index end es))
planted_before most index end none l = no_place
planted_before most index end (atom a es) l = one_place index end (omega arith) (planted_before most (index + 1) end es (omega arith))
planted_before most index end (list inner es) l =
    one_place index end (omega arith) (before_append most (places (planted (index + 1) (index + 1 + count inner) inner)) (places (planted (index + 1 + count inner) end es)) (planted_before most (index + 1) (index + 1 + count inner) inner (omega arith)) (planted_before most (index + 1 + count inner) end es (omega arith)))

apart_append : (index end : ℕ) (es : Elements) (xs : List ℕ) → index + count es ≤ 65536 → Before index xs → Apart xs → Apart (places (planted index end es)) → Apart (xs ++ places (planted index end es))
apart_append index end es _ l no_place a b = b
apart_append index end es _ l (one_place i j {ps} h before) a b =
    (absent_append (number i j) ps (places (planted index end es)) a.0 (absent_before i j index end es h l), apart_append index end es ps l before a.1 b)

apart_planted : (index end : ℕ) (es : Elements) → index + count es ≤ 65536 → Apart (places (planted index end es))
apart_planted index end none l = tt
apart_planted index end (atom a es) l = (absent_before index end (index + 1) end es (omega arith) (omega arith), apart_planted (index + 1) end es (omega arith))
apart_planted index end (list inner es) l =
    let behind = index + 1 + count inner in (
      absent_append (number index end) (places (planted (index + 1) behind inner)) (places (planted behind end es)) (absent_before index end (index + 1) behind inner (omega arith) (omega arith)) (absent_before index end behind end es (omega arith) (omega arith)),
      apart_append behind end es (places (planted (index + 1) behind inner)) (omega arith) (planted_before behind (index + 1) behind inner (omega arith)) (apart_planted (index + 1) behind inner (omega arith)) (apart_planted behind end es (omega arith)),
    )

pub planted_lawful : (end : ℕ) (e : Elements) → Record e → Within e → Lawful (planted 0 end e)
planted_lawful end e root within =
    let same : e ≡ erase (planted 0 end e) = sym (erase_planted 0 end e) in
    record { root = subst Record same root; within = subst Within same within; apart = apart_planted 0 end e (omega (arith, within.few)) }
