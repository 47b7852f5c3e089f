-- Names in a memory, as a list of slots. Assumes nothing.
use Rattle.std.proofs.Common.{◌≡◌, ℕ, suc, ◌+◌, ◌<◌, ◌≤◌, Bool, true, cond, false, List, [], ◌∷◌, ◌++◌, length, map, take, slice_set, Option, Some, None, refl, ap, ◌∙◌, arith}
use Rattle.std.specs.Borrow.{Bor}
use Rattle.std.specs.List.{find, filter}
use Rattle.std.specs.Option.{option_map}
use Rattle.std.specs.Str.{bytes_eq}
use Rattle.std.proofs.lemmas.Bool.{le-leb}
use Rattle.std.proofs.lemmas.List.{take_more_set, length-map, length-take-le}
use Rattle.rules.specs.declared.signs.Sign.{Sign}
use Rattle.rules.specs.declared.signs.Sign.TheVariants.{Variable, Segment}
use Rattle.rules.specs.Patterns.{Slot, segments}
use Rattle.books.specs.Scanning.{is_segment, sign_of, crowded}
use Rattle.books.specs.declared.names.Name.{Name}
use Rattle.books.specs.Listed.{slot_of}

map_end : (ns : List Name) (n : Name) → map slot_of (ns ++ (n ∷ [])) ≡ map slot_of ns ++ (slot_of n ∷ [])
map_end [] n = refl
map_end (m ∷ ns) n = ap (slot_of m ∷◌) (map_end ns n)

-- one name more
pub added : (ns : List Name) (count : ℕ) (n : Name) → count < length ns → map slot_of (take (count + 1) (slice_set ns count n)) ≡ map slot_of (take count ns) ++ (slot_of n ∷ [])
added ns count n h = ap (map slot_of) (take_more_set ns count n h) ∙ map_end (take count ns) n

-- how many names there are
pub length_first : (ns : List Name) (count : ℕ) → count ≤ 16 → length ns ≡ 16 → length (map slot_of (take count ns)) ≡ count
length_first ns count h e = length-map (take count ns) slot_of ∙ length-take-le count ns (omega arith)

-- the sign of the first name of these octets
sign_found : (octets : List ℕ) (ns : List Name) → sign_of octets (map slot_of ns) ≡ option_map (λ n. n.sign) (find (λ n. bytes_eq octets n.octets.now) ns)
sign_found octets [] = refl
sign_found octets (n ∷ ns) = go (bytes_eq octets n.octets.now) (sign_found octets ns)
  where
    go : (b : Bool) → sign_of octets (map slot_of ns) ≡ option_map (λ m. m.sign) (find (λ m. bytes_eq octets m.octets.now) ns)
        → cond b (Some n.sign) (sign_of octets (map slot_of ns)) ≡ option_map (λ m. m.sign) (cond b (Some n) (find (λ m. bytes_eq octets m.octets.now) ns))
    go true e = refl
    go false e = e

pub sign_told : (octets : List ℕ) (ns : List Name) (names : List Slot) (found : Option (Bor Name)) → option_map (λ n. n.now) found ≡ find (λ n. bytes_eq octets n.octets.now) ns
    → map slot_of ns ≡ names → option_map (λ n. n.now.sign) found ≡ sign_of octets names
sign_told octets ns names found is all = rw (← all, sign_found octets ns, ← is) (go found)
  where
    go : (o : Option (Bor Name)) → option_map (λ n. n.now.sign) o ≡ option_map (λ n. n.sign) (option_map (λ n. n.now) o)
    go None = refl
    go (Some n) = refl

-- the segments among them
pub segments_found : (ns : List Name) → segments (map slot_of ns) ≡ length (filter (λ n. is_segment n.sign) ns)
segments_found [] = refl
segments_found (n ∷ ns) = go n.sign (segments_found ns)
  where
    go : (s : Sign) → segments (map slot_of ns) ≡ length (filter (λ m. is_segment m.sign) ns)
        → elim s [ Variable ↦ segments (map slot_of ns) | Segment ↦ suc (segments (map slot_of ns)) ] ≡ length (cond (is_segment s) (n ∷ filter (λ m. is_segment m.sign) ns) (filter (λ m. is_segment m.sign) ns))
    go Variable e = e
    go Segment e = ap suc e

-- at 16 names any further one passes a limit
pub full : (sign : Sign) (names : List Slot) → 16 ≤ length names → crowded sign names ≡ true
full sign names h = rw (le-leb 16 (length names) h) refl
