-- Octets read one by one from a text that shows them. Assumes nothing.
use Rattle.std.proofs.Common.{◌≡◌, ℕ, ◌<◌, List, [], ◌∷◌, ◌++◌, length, Some, None, Bor, sym, ap, ◌∙◌, append_assoc, append-nil, arith, rules}
use Rattle.std.specs.Prelude.{All}
use Rattle.std.specs.List.{flat_map}
use Rattle.std.proofs.lemmas.List.{length-append}
use Rattle.std.proofs.lemmas.List.Concat.{flat_map-cons}
use Rattle.std.proofs.lemmas.List.Elements.{All-head, All-tail}
use Rattle.outlines.specs.Escapes.{shown}
use Rattle.kandrivo.specs.Words.{ReadsFirst}

-- what the rest of a text shows, where those in front of it are read
pub record Left (read octets rest : List ℕ) : Type 0 where
  pub left : List ℕ
  pub all : octets ≡ read ++ left
  pub octet : All (λ o. o < 256) left
  pub shows : rest ≡ flat_map shown left

-- of any octets that it shows
abbrev pub Reads : (text read rest : List ℕ) → Type 0
Reads text read rest = (octets : List ℕ) → All (λ o. o < 256) octets → text ≡ flat_map shown octets → Left read octets rest

-- an octet is shown by something
some_shown : (o : ℕ) → 0 < length (shown o)
some_shown o = search rules

-- one more is read
pub next_read : {read octets rest : List ℕ} {o : ℕ} (behind : Bor (List ℕ)) → ReadsFirst rest (Some (o, behind)) → 0 < length rest → Left read octets rest → Left (read ++ (o ∷ [])) octets behind.now
next_read {read} {octets} {rest} {o} behind first some l = go l.left l.all l.octet l.shows
  where
    go : (left : List ℕ) → octets ≡ read ++ left → All (λ o. o < 256) left → rest ≡ flat_map shown left → Left (read ++ (o ∷ [])) octets behind.now
    go [] a p s = absurd (omega (arith, ap length s))
    go (x ∷ xs) a p s =
        let f = first x (flat_map shown xs) (All-head (λ o. o < 256) x xs p) (s ∙ flat_map-cons shown x xs) in
        record { left = xs; all = rw (append_assoc, f.0) a; octet = All-tail (λ o. o < 256) x xs p; shows = f.1 }

-- none is left where none is read
pub none_read : {read octets rest : List ℕ} → ReadsFirst rest None → 0 < length rest → Left read octets rest → ⊥
none_read {read} {octets} {rest} first some l = go l.left l.octet l.shows
  where
    go : (left : List ℕ) → All (λ o. o < 256) left → rest ≡ flat_map shown left → ⊥
    go [] p s = omega (arith, ap length s)
    go (x ∷ xs) p s = first x (flat_map shown xs) (All-head (λ o. o < 256) x xs p) (s ∙ flat_map-cons shown x xs)

-- and all are read where nothing is left
pub all_read : {read octets rest : List ℕ} → length rest ≡ 0 → Left read octets rest → read ≡ octets
all_read {read} {octets} {rest} none l = go l.left l.all l.shows
  where
    go : (left : List ℕ) → octets ≡ read ++ left → rest ≡ flat_map shown left → read ≡ octets
    go [] a s = sym (a ∙ append-nil read)
    go (x ∷ xs) a s = absurd (omega (arith, some_shown x, ap length (s ∙ flat_map-cons shown x xs), length-append (shown x) (flat_map shown xs)))
