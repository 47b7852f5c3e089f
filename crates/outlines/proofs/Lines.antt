-- Lines added one behind another. Assumes nothing.
use Rattle.std.proofs.Common.{◌≡◌, ℕ, zero, suc, ◌+◌, ◌*◌, ◌<◌, List, [], ◌∷◌, ◌++◌, length, get_or, take, replicate, None, refl, sym, ap, ◌∙◌, append_assoc, arith}
use Rattle.std.specs.List.{flat_map}
use Rattle.std.specs.Prelude.{slice_get}
use Rattle.std.proofs.lemmas.List.{flat_map_more, take_more, replicate-append-replicate}
use Rattle.holder.specs.Placed.{Placed, nothing, atom_at, list_at, erase, Stands}
use Rattle.outlines.specs.Escapes.{shown}
use Rattle.outlines.specs.Outline.{list_line}

-- a list that holds an element is not empty
pub filled : (r : Placed) → Stands r → list_line (erase r) ≡ 108 ∷ (105 ∷ (115 ∷ (116 ∷ (10 ∷ []))))
filled nothing s = absurd s
filled (atom_at p a es) s = refl
filled (list_at p inner es) s = refl

-- one octet more
pub shown_more : (start before after os : List ℕ) (i : ℕ) → i < length os → before ≡ start ++ flat_map shown (take i os) → after ≡ before ++ shown (get_or os i 0) → after ≡ start ++ flat_map shown (take (i + 1) os)
shown_more start before after os i h so_far is =
    is ∙ rw so_far (flat_map_more shown start (take i os) (get_or os i 0)) ∙ ap (λ xs. start ++ flat_map shown xs) (sym (take_more os i 0 h))

-- an octet stands at each index below the length
pub found : (os : List ℕ) (i : ℕ) → i < length os → slice_get os i ≡ None → ⊥
found [] i h e = absurd (omega arith)
found (o ∷ os) zero h e = let z : ◌≡◌ {A = ℕ} 0 1 = cc in absurd (omega arith)
found (o ∷ os) (suc i) h e = found os i (omega arith) e

-- two spaces more
pub spaces_more : (start : List ℕ) (n : ℕ) → (start ++ replicate (2 * n) 32) ++ (32 ∷ (32 ∷ [])) ≡ start ++ replicate (2 * (n + 1)) 32
spaces_more start n =
    let two : List ℕ = 32 ∷ (32 ∷ []) in
    let more : replicate {A = ℕ} (2 * n) 32 ++ two ≡ replicate (2 * (n + 1)) 32 = replicate-append-replicate (2 * n) 2 32 ∙ ap (λ k. replicate k 32) (omega arith) in
    append_assoc start (replicate (2 * n) 32) two ∙ ap (start ++◌) more
