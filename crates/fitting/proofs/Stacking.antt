-- Stacks: the last entry taken off, and two stacks of one height seen as one of pairs. Assumes nothing.
use Rattle.std.proofs.Common.{◌≡◌, ℕ, zero, suc, ◌+◌, ◌<◌, ◌≤◌, List, [], ◌∷◌, ◌++◌, length, take, get_or, min, reverse, Some, None, refl, sym, ap, ap₂, ◌∙◌, subst, arith}
use Rattle.std.specs.Prelude.{slice_get, Ok, Err, Result}
use Rattle.std.specs.List.{zip}
use Rattle.std.specs.Result.{IsErr}
use Rattle.std.proofs.lemmas.List.{take_more, reverse-append, length-reverse}
use Rattle.std.proofs.lemmas.Slice.Zip.{length-zip}
use Rattle.fitting.specs.declared.stacks.Full.{Full}
use Rattle.fitting.specs.Stacked.{Stacked}
use Rattle.fitting.specs.Stacks.{Pushes}

-- the last of so many entries comes first, and then those below it
pub last_first : {T : Type 0} (xs : List T) (n : ℕ) (x : T) → n < length xs → reverse (take (n + 1) xs) ≡ get_or xs n x ∷ reverse (take n xs)
last_first xs n x h = ap reverse (take_more xs n x h) ∙ reverse-append (take n xs) (get_or xs n x ∷ [])

-- pairs of an entry of each stack
pub zip-append : {A B : Type 0} (xs us : List A) (ys vs : List B) → length xs ≡ length ys → zip (xs ++ us) (ys ++ vs) ≡ zip xs ys ++ zip us vs
zip-append [] us [] vs e = refl
zip-append [] us (y ∷ ys) vs e = absurd (omega arith)
zip-append (x ∷ xs) us [] vs e = absurd (omega arith)
zip-append (x ∷ xs) us (y ∷ ys) vs e = ap ((x, y) ∷◌) (zip-append xs us ys vs (omega arith))

pub reverse-zip : {A B : Type 0} (xs : List A) (ys : List B) → length xs ≡ length ys → reverse (zip xs ys) ≡ zip (reverse xs) (reverse ys)
reverse-zip [] [] e = refl
reverse-zip [] (y ∷ ys) e = absurd (omega arith)
reverse-zip (x ∷ xs) [] e = absurd (omega arith)
reverse-zip {A} {B} (x ∷ xs) (y ∷ ys) e =
    let one : List A = x ∷ [] in
    let other : List B = y ∷ [] in
    let same : length xs ≡ length ys = omega arith in
    reverse-append ((x, y) ∷ []) (zip xs ys) ∙ ap (λ l. l ++ ((x, y) ∷ [])) (reverse-zip xs ys same) ∙ sym (zip-append (reverse xs) one (reverse ys) other (length-reverse xs ∙ same ∙ sym (length-reverse ys))) ∙ sym (ap₂ zip (reverse-append one xs) (reverse-append other ys))

-- an index counts from the bottom of both stacks
pub bottom_pair : {A B : Type 0} (xs : List A) (ys : List B) (es : List (A × B)) (i : ℕ) → length xs ≡ length ys → zip xs ys ≡ es → slice_get (reverse es) i ≡ slice_get (zip (reverse xs) (reverse ys)) i
bottom_pair xs ys es i same is = ap (λ l. slice_get l i) (ap reverse (sym is) ∙ reverse-zip xs ys same)

-- what stands in both lists at an index
pub get_pair : {A B : Type 0} (xs : List A) (ys : List B) (i : ℕ) (x : A) (y : B) → slice_get xs i ≡ Some x → slice_get ys i ≡ Some y → slice_get (zip xs ys) i ≡ Some (x, y)
get_pair [] ys i x y e f = cc
get_pair (u ∷ xs) [] i x y e f = cc
get_pair (u ∷ xs) (v ∷ ys) zero x y e f = cc
get_pair (u ∷ xs) (v ∷ ys) (suc i) x y e f = get_pair xs ys i x y e f

-- a list that ends before an index has no pair there
pub get_no_first : {A B : Type 0} (xs : List A) (ys : List B) (i : ℕ) → slice_get xs i ≡ None → slice_get (zip xs ys) i ≡ None
get_no_first [] ys i e = refl
get_no_first (u ∷ xs) [] i e = refl
get_no_first (u ∷ xs) (v ∷ ys) zero e = cc
get_no_first (u ∷ xs) (v ∷ ys) (suc i) e = get_no_first xs ys i e

pub get_no_second : {A B : Type 0} (xs : List A) (ys : List B) (i : ℕ) → slice_get ys i ≡ None → slice_get (zip xs ys) i ≡ None
get_no_second [] ys i e = refl
get_no_second (u ∷ xs) [] i e = refl
get_no_second (u ∷ xs) (v ∷ ys) zero e = cc
get_no_second (u ∷ xs) (v ∷ ys) (suc i) e = get_no_second xs ys i e

-- two stacks of one height as one
abbrev pub paired : {A B : Type 0} → Stacked A → Stacked B → Stacked (A × B)
paired m p = record { entries = zip m.entries p.entries; room = min m.room p.room }

pub length-paired : {A B : Type 0} (m : Stacked A) (p : Stacked B) → length m.entries ≡ length p.entries → (length (paired m p).entries ≡ length m.entries) × (length (paired m p).entries ≡ length p.entries)
length-paired m p same = let long = length-zip m.entries p.entries in (omega (arith, long, same), omega (arith, long, same))

-- no pair is put on where either stack is full; otherwise it is put on both
pub push_none : {A B : Type 0} (m : Stacked A) (p : Stacked B) (s : Stacked (A × B)) → length m.entries ≡ length p.entries → paired m p ≡ s → p.room ≤ length p.entries → s.room ≤ length s.entries
push_none m p s same is full = subst (λ s. s.room ≤ length s.entries) is (omega (arith, (length-paired m p same).1, full))

pub push_first : {A B : Type 0} (m n : Stacked A) (p : Stacked B) (s : Stacked (A × B)) (x : A) (y : B) (r : Result (Unit {0}) Full) → length m.entries ≡ length p.entries → paired m p ≡ s → (m.room ≤ length m.entries) × (n ≡ m) → IsErr r → Pushes s (x, y) (paired n p) r
push_first m n p s x y (Ok done) same is h failed = absurd cc
push_first m n p s x y (Err full) same is h failed =
    subst (λ s. Pushes s (x, y) (paired n p) (Err full)) is (omega (arith, (length-paired m p same).0, h.0), ap (λ m. paired m p) h.1)

pub push_both : {A B : Type 0} (m n : Stacked A) (p q : Stacked B) (s : Stacked (A × B)) (x : A) (y : B) (r : Result (Unit {0}) Full) → length m.entries ≡ length p.entries → paired m p ≡ s → length p.entries < p.room → Pushes m x n (Ok tt) → Pushes p y q r → Pushes s (x, y) (paired n q) r
push_both m n p q s x y (Ok _) same is room h k =
    subst (λ s. Pushes s (x, y) (paired n q) (Ok _)) is (omega (arith, length-paired m p same, h.0, k.0), ap₂ paired h.1 k.1)
push_both m n p q s x y (Err full) same is room h k = absurd (omega (arith, room, k.0))
