-- Octets as a text shows them, read back. Assumes nothing.
use Rattle.std.specs.Prelude.{◌≡◌, ℕ, ◌<◌, List, ◌++◌, Option, Some, None, Vec, All}
use Rattle.std.specs.Global.{Global}
use Rattle.std.specs.Borrow.{Bor}
use Rattle.std.specs.List.{flat_map}
use Rattle.outlines.specs.Escapes.{hex_digit, shown}

-- the digit that an octet shows
abbrev pub ReadsDigit : (octet : ℕ) → Option ℕ → Type 0
ReadsDigit octet r = (d : ℕ) → d < 16 → octet ≡ hex_digit d → r ≡ Some d

-- the octet that a text shows first, and the text behind it
abbrev pub IsFirst : Option (ℕ × Bor (List ℕ)) → (octet : ℕ) → (behind : List ℕ) → Type 0
IsFirst (Some t) octet behind = (t.0 ≡ octet) × (t.1.now ≡ behind)
IsFirst None octet behind = ⊥

abbrev pub ReadsFirst : List ℕ → Option (ℕ × Bor (List ℕ)) → Type 0
ReadsFirst text r = (octet : ℕ) (behind : List ℕ) → octet < 256 → text ≡ shown octet ++ behind → IsFirst r octet behind

-- all octets that it shows
abbrev pub AreOctets : Option (Vec ℕ Global) → List ℕ → Type 0
AreOctets (Some v) octets = v.items ≡ octets
AreOctets None octets = ⊥

abbrev pub ReadsShown : List ℕ → Option (Vec ℕ Global) → Type 0
ReadsShown text r = (octets : List ℕ) → All (λ o. o < 256) octets → text ≡ flat_map shown octets → AreOctets r octets
