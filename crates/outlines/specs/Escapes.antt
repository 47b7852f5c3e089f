-- Octets as they are shown. Assumes nothing.
use Rattle.std.specs.Prelude.{ℕ, ◌+◌, ◌-◌, ◌/◌, ◌%◌, ◌&&◌, List, [], ◌∷◌, nat_le, nat_lt, ◌==◌, if◌then◌else◌}

-- a digit from 0 to 15, as one of 0 to 9 and a to f
abbrev pub hex_digit : ℕ → ℕ
hex_digit d = if nat_lt d 10 then 48 + d else 97 + (d - 10)

-- an octet as it is shown: a backslash as two, a printable one of ASCII as itself, any other as \x and two digits
abbrev pub shown : ℕ → List ℕ
shown o =
    if o == 92 then 92 ∷ (92 ∷ [])
    else (if nat_le 32 o && nat_le o 126 then o ∷ []
    else 92 ∷ (120 ∷ (hex_digit (o / 16) ∷ (hex_digit (o % 16) ∷ []))))
