-- One text put behind another.
use Rattle.std.proofs.Common.{◌≡◌, ℕ, ◌+◌, ◌-◌, ◌<◌, ◌≤◌, List, [], ◌∷◌, ◌++◌, suc, length, get_or, take, drop, set, sym, refl, ap, ◌∙◌, append_assoc, append-nil, arith, length-append, length-take, length-drop}
use Rattle.std.proofs.lemmas.List.{drop-drop, drop_all, take_all, take_more, set_split}
use Rattle.std.proofs.lemmas.Slice.{drop-append-drop}
use Rattle.std.proofs.Math.Seq.{take-append_seam, drop-append_seam}
use borrow.Rule.Slice.PartMut.{put_mid, mid_of}
use Rattle.holder.specs.Walks.{put_front}

-- a text put into the part of an output behind what was put before
pub put_then : (s t old out new : List ℕ) (at : ℕ) → at ≡ length s → out ≡ put_front s old → new ≡ put_front t (mid_of at (length out - at) out) → put_mid at (length out - at) out new ≡ put_front (s ++ t) old
put_then s t old out new at e so_far is =
    let k = length out - at in
    let first : take at out ≡ s = rw (so_far, e) (take-append_seam s (drop (length s) old)) in
    let last : drop at out ≡ drop (length s) old = rw (so_far, e) (drop-append_seam s (drop (length s) old)) in
    let n : length out ≡ length s + length (drop (length s) old) = rw so_far (length-append s (drop (length s) old)) in
    let all : take k (drop (length s) old) ≡ drop (length s) old = take_all k (drop (length s) old) (omega arith) in
    let no_more : drop k (drop (length s) old) ≡ [] = drop_all k (drop (length s) old) (omega arith) in
    let put : new ≡ t ++ drop (length s + length t) old = is ∙ rw (last, all, drop-drop (length t) (length s) old) refl in
    rw (first, last, no_more, put, append-nil (t ++ drop (length s + length t) old), length-append s t) (sym (append_assoc s t (drop (length s + length t) old)))

-- an octet put behind what was put before
pub put_octet : (s old out : List ℕ) (x at : ℕ) → at ≡ length s → at < length out → out ≡ put_front s old → set out at x ≡ put_front (s ++ (x ∷ [])) old
put_octet s old out x at e h so_far =
    let first : take at out ≡ s = rw (so_far, e) (take-append_seam s (drop (length s) old)) in
    let last : drop (suc at) out ≡ drop (suc at) old = rw (so_far, e) (drop-append-drop (length s) old s (suc (length s)) (omega arith) refl) in
    let n : length (s ++ (x ∷ [])) ≡ suc at = omega (arith, length-append s (x ∷ [])) in
    set_split out at x h ∙ rw (first, last, n) (sym (append_assoc s (x ∷ []) (drop (suc at) old)))

-- one of some octets more, at its index
pub put_more : (os old out : List ℕ) (i v : ℕ) → i < length os → i < length out → out ≡ take i os ++ drop i old → v ≡ get_or os i 0 → set out i v ≡ take (i + 1) os ++ drop (i + 1) old
put_more os old out i v h k so_far is =
    let e : length (take i os) ≡ i = omega (arith, length-take i os) in
    let n : length (take i os ++ (v ∷ [])) ≡ i + 1 = omega (arith, length-append (take i os) (v ∷ [])) in
    put_octet (take i os) old out v i (sym e) k (so_far ∙ rw e refl) ∙ rw (n, take_more os i 0 h, is) refl

-- a text put into a part of the output, as long as it, behind what was put before
pub put_part : (s t old out : List ℕ) (at n : ℕ) → at ≡ length s → n ≡ length t → out ≡ put_front s old → put_mid at n out t ≡ put_front (s ++ t) old
put_part s t old out at n e k so_far =
    let first : take at out ≡ s = rw (so_far, e) (take-append_seam s (drop (length s) old)) in
    let last : drop at out ≡ drop (length s) old = rw (so_far, e) (drop-append_seam s (drop (length s) old)) in
    let behind : drop n (drop (length s) old) ≡ drop (length s + length t) old = drop-drop n (length s) old ∙ ap (λ m. drop (length s + m) old) k in
    rw (first, last, behind, length-append s t) (sym (append_assoc s t (drop (length s + length t) old)))

-- an atom's length, a colon and its octets, put one behind another
pub put_atom : (d os old copy new : List ℕ) (k n : ℕ) → k ≡ length d → copy ≡ put_front d old → length d + 1 + length os ≤ length old → new ≡ os → n ≡ length os → put_mid (k + 1) ((k + 1 + n) - (k + 1)) (set copy k 58) new ≡ put_front (d ++ (58 ∷ os)) old
put_atom d os old copy new k n is so_far room put wide =
    let l : length copy ≡ length d + length (drop (length d) old) = rw so_far (length-append d (drop (length d) old)) in
    let colon = put_octet d old copy 58 k is (omega (arith, length-drop (length d) old)) so_far in
    let size : (k + 1 + n) - (k + 1) ≡ length os = omega arith in
    ap (put_mid (k + 1) ((k + 1 + n) - (k + 1)) (set copy k 58)) put
    ∙ (put_part (d ++ (58 ∷ [])) os old (set copy k 58) (k + 1) ((k + 1 + n) - (k + 1)) (omega (arith, length-append d (58 ∷ []))) size colon
    ∙ rw (append_assoc d (58 ∷ []) os) refl)

-- one octet put at the front
pub put_first : (x : ℕ) (old : List ℕ) → 1 ≤ length old → set old 0 x ≡ put_front (x ∷ []) old
put_first x [] h = absurd (omega arith)
put_first x (o ∷ old) h = refl
