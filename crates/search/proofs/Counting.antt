-- How many fits a book and a record have: their keys are numbers below a limit, ascending, so there are no more of them. Assumes nothing.
use Rattle.std.proofs.Common.{◌≡◌, ℕ, zero, suc, ◌+◌, ◌*◌, ◌^◌, ◌<◌, ◌≤◌, inl, inr, ⊎_elim, Bool, true, false, cond, List, [], ◌∷◌, ◌++◌, length, take, bytes_eq, length-append, length-take-le, sym, refl, ap, ◌∙◌, subst, arith}
use Rattle.sexp.specs.Elements.{Elements, count}
use Rattle.rules.specs.declared.signs.Sign.{Sign}
use Rattle.rules.specs.declared.signs.Sign.TheVariants.{Variable, Segment}
use Rattle.rules.specs.Patterns.{Pattern, done, constant, slot, group, Slot, slots, without, firsts, Rule}
use Rattle.rules.specs.Bindings.{Binding, value, fill, bound, width, lengths}
use Rattle.rules.specs.Fits.{Fit, Numbered, BookFit}
use Rattle.rules.specs.Keys.{Key, key, four, Smaller, here, later, Before}
use Rattle.rules.specs.Complete.{In, InOrder, Complete}
use Rattle.sexp.proofs.Runs.{count-then}
use Rattle.rules.proofs.Names.{name_sym, in_without, in_firsts, value_first}
use Rattle.rules.proofs.Runs.{width_count}
use Rattle.rules.proofs.Orders.{in_either, before_tells}
use Rattle.search.specs.Books.{OfBookFit}
use Rattle.search.proofs.Asking.{rule_number}

-- what a name of a pattern stands for has no more elements than the filled pattern
value_count : (bs : List Binding) (p : Pattern) (s : Slot) → In s (slots p) → count (value s.name bs) ≤ count (fill bs p)
value_count bs done s i = absurd i
value_count bs (constant a p) s i = omega (arith, value_count bs p s i)
value_count bs (slot sign name p) s i = ⊎_elim
    (λ q. omega (arith, count-then (value name bs) (fill bs p), ap (λ (x : Slot). count (value x.name bs)) q))
    (λ j. omega (arith, count-then (value name bs) (fill bs p), value_count bs p s j))
    i
value_count bs (group inner p) s i = ⊎_elim
    (λ j. omega (arith, value_count bs inner s j))
    (λ j. omega (arith, value_count bs p s j))
    (in_either s (slots inner) (slots p) i)

-- the names of these slots are different
abbrev Different : List Slot → Type 0
Different [] = Unit {0}
Different (s ∷ ss) = ((t : Slot) → In t ss → bytes_eq s.name t.name ≡ false) × Different ss

-- they stay so without some
different_without : (name : List ℕ) (ss : List Slot) → Different ss → Different (without name ss)
different_without name [] d = tt
different_without name (s ∷ ss) d = go (bytes_eq name s.name) (different_without name ss d.1)
  where
    go : (t : Bool) → Different (without name ss) → Different (cond t (without name ss) (s ∷ without name ss))
    go true ih = ih
    go false ih = ((λ t i. d.0 t (in_without name ss t i).0), ih)

-- the first occurrences are of different names
firsts_different : (ss : List Slot) → Different (firsts ss)
firsts_different [] = tt
firsts_different (s ∷ ss) = ((λ t i. (in_without s.name (firsts ss) t i).1), different_without s.name (firsts ss) (firsts_different ss))

-- each number of a list is at most n
abbrev pub UpTo : ℕ → List ℕ → Type 0
UpTo n [] = Unit {0}
UpTo n (l ∷ ls) = (l ≤ n) × UpTo n ls

-- each length of bindings of different names is that of what a name stands for
lengths_up_to : (n : ℕ) (bs : List Binding) → Different (bound bs) → ((s : Slot) → In s (bound bs) → width (value s.name bs) ≤ n) → UpTo n (lengths bs)
lengths_up_to n [] d h = tt
lengths_up_to n (x ∷ bs) d h = go x.slot.sign (subst (λ y. width y ≤ n) (value_first x bs) (h x.slot (inl refl))) (lengths_up_to n bs d.1 rest)
  where
    rest : (s : Slot) → In s (bound bs) → width (value s.name bs) ≤ n
    rest s i = rw (name_sym s.name x.slot.name ∙ d.0 s i) at (h s (inr i))

    go : (sign : Sign) → width x.run ≤ n → UpTo n (lengths bs) → UpTo n (elim sign [ Variable ↦ lengths bs | Segment ↦ width x.run ∷ lengths bs ])
    go Variable w u = u
    go Segment w u = (w, u)

-- so the lengths of a fit are at most as many as the record has elements
pub fit_lengths : {p : Pattern} {e : Elements} {bs : List Binding} → Fit p e bs → UpTo (count e) (lengths bs)
fit_lengths {p} {e} {bs} f = lengths_up_to (count e) bs
    (subst Different (sym f.names) (firsts_different (slots p)))
    (λ s i. let o = value_count bs p s (in_firsts (slots p) s (subst (In s) f.names i)) in omega (arith, width_count (value s.name bs), o, ap count f.fills))

-- four lengths are within what the lengths are within
up_to_four : (n : ℕ) (ls : List ℕ) → UpTo n ls → UpTo n (four ls)
up_to_four n ls u = taken 4 (ls ++ (0 ∷ (0 ∷ (0 ∷ (0 ∷ []))))) (behind ls u)
  where
    behind : (ms : List ℕ) → UpTo n ms → UpTo n (ms ++ (0 ∷ (0 ∷ (0 ∷ (0 ∷ [])))))
    behind [] v = (omega arith, (omega arith, (omega arith, (omega arith, tt))))
    behind (m ∷ ms) v = (v.0, behind ms v.1)

    taken : (k : ℕ) (ms : List ℕ) → UpTo n ms → UpTo n (take k ms)
    taken zero ms v = tt
    taken (suc k) [] v = tt
    taken (suc k) (m ∷ ms) v = (v.0, taken k ms v.1)

-- the digits of a number in base 4,097, behind those of the number v
abbrev digits : ℕ → List ℕ → ℕ
digits v [] = v
digits v (l ∷ ls) = digits (v * 4097 + l) ls

-- a smaller beginning makes a smaller number
digits_begin : (v w : ℕ) (ms ns : List ℕ) → UpTo 4096 ms → length ms ≡ length ns → v < w → digits v ms < digits w ns
digits_begin v w [] [] u q l = l
digits_begin v w [] (n ∷ ns) u q l = absurd (omega arith)
digits_begin v w (m ∷ ms) [] u q l = absurd (omega arith)
digits_begin v w (m ∷ ms) (n ∷ ns) u q l = digits_begin (v * 4097 + m) (w * 4097 + n) ms ns u.1 (omega arith) (omega (arith, u.0))

-- and so do smaller digits
digits_smaller : {ms ns : List ℕ} → Smaller ms ns → (v : ℕ) → UpTo 4096 ms → length ms ≡ length ns → digits v ms < digits v ns
digits_smaller (here {m} {n} {ms} {ns} h) v u q = digits_begin (v * 4097 + m) (v * 4097 + n) ms ns u.1 (omega arith) (omega arith)
digits_smaller (later {n} s) v u q = digits_smaller s (v * 4097 + n) u.1 (omega arith)

-- the number of a fit's key
abbrev number : Numbered → ℕ
number f = digits f.rule (four (lengths f.bindings))

-- fits with lengths up to 4,096, of the first 64 rules
abbrev Small : List Numbered → Type 0
Small [] = Unit {0}
Small (f ∷ fs) = ((f.rule ≤ 64) × UpTo 4096 (four (lengths f.bindings))) × Small fs

-- a key has four lengths
four_long : (ls : List ℕ) → length (four ls) ≡ 4
four_long ls = length-take-le 4 _ (omega (arith, length-append ls (0 ∷ (0 ∷ (0 ∷ (0 ∷ []))))))

-- an earlier key has a smaller number
number_before : (f g : Numbered) → UpTo 4096 (four (lengths f.bindings)) → Before (key f) (key g) → number f < number g
number_before f g u b = ⊎_elim
    (λ l. digits_begin f.rule g.rule (four (lengths f.bindings)) (four (lengths g.bindings)) u same l)
    (λ s. subst (λ x. number f < digits x (four (lengths g.bindings))) s.0 (digits_smaller s.1 f.rule u same))
    (before_tells b)
  where
    same : length (four (lengths f.bindings)) ≡ length (four (lengths g.bindings))
    same = four_long (lengths f.bindings) ∙ sym (four_long (lengths g.bindings))

-- and each number is below a limit
abbrev limit : ℕ
limit = digits 65 (0 ∷ (0 ∷ (0 ∷ (0 ∷ []))))

number_below : (f : Numbered) → f.rule ≤ 64 → UpTo 4096 (four (lengths f.bindings)) → number f < limit
number_below f l u = digits_begin f.rule 65 (four (lengths f.bindings)) (0 ∷ (0 ∷ (0 ∷ (0 ∷ [])))) u (four_long (lengths f.bindings)) (omega arith)

-- fits in order have ascending numbers, so there are no more of them than numbers from the first one's to the limit
in_order_count : (f : Numbered) (fs : List Numbered) → InOrder (f ∷ fs) → Small (f ∷ fs) → number f + length (f ∷ fs) ≤ limit
in_order_count f [] o s = omega (arith, number_below f s.0.0 s.0.1)
in_order_count f (g ∷ fs) o s = omega (arith, number_before f g s.0.1 o.0.0, in_order_count g fs o.1 s.1)

-- a list of such fits
small_all : (fs : List Numbered) → ((f : Numbered) → In f fs → (f.rule ≤ 64) × UpTo 4096 (four (lengths f.bindings))) → Small fs
small_all [] h = tt
small_all (f ∷ fs) h = (h f (inl refl), small_all fs (λ g i. h g (inr i)))

-- a greater limit
up_to_more : (m n : ℕ) (ls : List ℕ) → m ≤ n → UpTo m ls → UpTo n ls
up_to_more m n [] l u = tt
up_to_more m n (x ∷ ls) l u = (omega (arith, u.0), up_to_more m n ls l u.1)

-- a key that belongs to a fit has the number of a rule, and four lengths within the record's elements
pub key_within : (book : List Rule) (e : Elements) (k : Key) → OfBookFit book e k → (1 ≤ k.rule) × (k.rule ≤ length book) × (length k.lengths ≡ 4) × UpTo (count e) k.lengths
key_within book e k h = subst (λ (l : Key). (1 ≤ l.rule) × (l.rule ≤ length book) × (length l.lengths ≡ 4) × UpTo (count e) l.lengths) h.2 (n.0, n.1, four_long (lengths h.0.bindings), up_to_four (count e) (lengths h.0.bindings) (fit_lengths h.1.2))
  where
    n : (1 ≤ h.0.rule) × (h.0.rule ≤ length book)
    n = rule_number book h.0.rule h.1.0 h.1.1

-- a complete list is short, where the book has at most 64 rules and the record at most 4,096 elements
pub complete_short : {book : List Rule} {e : Elements} {fits : List Numbered} → length book ≤ 64 → count e ≤ 4096 → Complete book e fits → length fits < 2 ^ 63
complete_short {book} {e} {fits} rules elements c = go fits c.in_order (small_all fits (λ f i. small f (c.only f i)))
  where
    small : (f : Numbered) → BookFit book e f → (f.rule ≤ 64) × UpTo 4096 (four (lengths f.bindings))
    small f b = let w = key_within book e (key f) (f, b, refl) in (omega (arith, rules, w.1), up_to_more (count e) 4096 (four (lengths f.bindings)) elements w.3)

    go : (fs : List Numbered) → InOrder fs → Small fs → length fs < 2 ^ 63
    go [] o s = omega arith
    go (f ∷ fs) o s = omega (arith, in_order_count f fs o s)
