-- The order of keys, and lists in order: no key comes before itself, and of two keys one alone comes first. Assumes nothing.
use Rattle.std.proofs.Common.{◌≡◌, ℕ, zero, suc, ◌≤◌, ◌<◌, ◌⊎◌, inl, inr, ⊎_elim, List, [], ◌∷◌, ◌++◌, length, take, sym, refl, ap, ap₂, ◌∙◌, subst, arith}
use Rattle.rules.specs.Fits.{Numbered}
use Rattle.rules.specs.Keys.{Key, key, four, Smaller, here, later, Before, by_rule, by_lengths}
use Rattle.rules.specs.Complete.{In, BeforeAll, InOrder}

-- one list in another
pub in_left : {A : Type 0} (x : A) (xs ys : List A) → In x xs → In x (xs ++ ys)
in_left x [] ys h = absurd h
in_left x (y ∷ xs) ys h = ⊎_elim inl (λ t. inr (in_left x xs ys t)) h

pub in_right : {A : Type 0} (x : A) (xs ys : List A) → In x ys → In x (xs ++ ys)
in_right x [] ys h = h
in_right x (y ∷ xs) ys h = inr (in_right x xs ys h)

pub in_either : {A : Type 0} (x : A) (xs ys : List A) → In x (xs ++ ys) → In x xs ⊎ In x ys
in_either x [] ys h = inr h
in_either x (y ∷ xs) ys h = ⊎_elim (λ e. inl (inl e)) (λ t. ⊎_elim (λ i. inl (inr i)) inr (in_either x xs ys t)) h

-- lengths
pub smaller_apart : {ms ns : List ℕ} → Smaller ms ns → ms ≡ ns → ⊥
smaller_apart (here {m} {n} h) p = let q : m ≡ n = cc in omega arith
smaller_apart (later s) p = smaller_apart s cc

pub smaller_one_way : {ms ns xs ys : List ℕ} → Smaller ms ns → Smaller xs ys → ns ≡ xs → ys ≡ ms → ⊥
smaller_one_way (here {m} {n} h) (here {m = x} {n = y} k) p q = let a : n ≡ x = cc in let b : y ≡ m = cc in omega arith
smaller_one_way (here {m} {n} h) (later {n = x} s) p q = let a : n ≡ x = cc in let b : x ≡ m = cc in omega arith
smaller_one_way (later {n} s) (here {m = x} {n = y} k) p q = let a : n ≡ x = cc in let b : y ≡ n = cc in omega arith
smaller_one_way (later {ms} {ns} s) (later {ms = xs} {ns = ys} t) p q = let a : ns ≡ xs = cc in let b : ys ≡ ms = cc in smaller_one_way s t a b

pub smaller_behind : (zs : List ℕ) {ms ns : List ℕ} → Smaller ms ns → Smaller (zs ++ ms) (zs ++ ns)
smaller_behind [] s = s
smaller_behind (z ∷ zs) s = later (smaller_behind zs s)

-- filled up to k lengths, they are in the same order
pub smaller_take : {ms ns : List ℕ} → Smaller ms ns → (k : ℕ) (zs ys : List ℕ) → length ms ≤ k → Smaller (take k (ms ++ zs)) (take k (ns ++ ys))
smaller_take (here {ms} h) zero zs ys l = absurd (omega arith)
smaller_take (here h) (suc k) zs ys l = here h
smaller_take (later {ms} s) zero zs ys l = absurd (omega arith)
smaller_take (later s) (suc k) zs ys l = later (smaller_take s k zs ys (omega arith))

pub smaller_four : {ms ns : List ℕ} → Smaller ms ns → length ms ≤ 4 → Smaller (four ms) (four ns)
smaller_four s l = smaller_take s 4 _ _ l

-- keys
pub before_tells : {j k : Key} → Before j k → (j.rule < k.rule) ⊎ ((j.rule ≡ k.rule) × Smaller j.lengths k.lengths)
before_tells (by_rule h) = inl h
before_tells (by_lengths s) = inr (refl, s)

pub before_apart : (j k : Key) → Before j k → j ≡ k → ⊥
before_apart j k b p = ⊎_elim (λ h. let q : j.rule ≡ k.rule = ap (λ (x : Key). x.rule) p in omega arith) (λ s. smaller_apart s.1 (ap (λ (x : Key). x.lengths) p)) (before_tells b)

pub before_one_way : (j k : Key) → Before j k → Before k j → ⊥
before_one_way j k b c = ⊎_elim
    (λ h. ⊎_elim (λ i. omega arith) (λ t. let q : k.rule ≡ j.rule = t.0 in omega arith) (before_tells c))
    (λ s. ⊎_elim (λ i. let q : j.rule ≡ k.rule = s.0 in omega arith) (λ t. smaller_one_way s.1 t.1 refl refl) (before_tells c))
    (before_tells b)

-- all behind a key
pub before_all : (k : Key) (fs : List Numbered) → ((f : Numbered) → In f fs → Before k (key f)) → BeforeAll k fs
before_all k [] h = tt
before_all k (f ∷ fs) h = (h f (inl refl), before_all k fs (λ g i. h g (inr i)))

pub before_each : (k : Key) (fs : List Numbered) → BeforeAll k fs → (f : Numbered) → In f fs → Before k (key f)
before_each k [] h f i = absurd i
before_each k (g ∷ fs) h f i = ⊎_elim (λ e. subst (λ x. Before k (key x)) (sym e) h.0) (before_each k fs h.1 f) i

pub order_append : (fs gs : List Numbered) → InOrder fs → InOrder gs → ((f g : Numbered) → In f fs → In g gs → Before (key f) (key g)) → InOrder (fs ++ gs)
order_append [] gs h k b = k
order_append (f ∷ fs) gs h k b = (
  before_all (key f) (fs ++ gs) (λ g i. ⊎_elim (before_each (key f) fs h.0 g) (b f g (inl refl)) (in_either g fs gs i)),
  order_append fs gs h.1 k (λ x y i j. b x y (inr i) j),
)

-- in a list in order, one key is one fit
pub one_of_key : (fs : List Numbered) → InOrder fs → (f g : Numbered) → In f fs → In g fs → key f ≡ key g → f ≡ g
one_of_key [] o f g i j p = absurd i
one_of_key (h ∷ fs) o f g i j p = ⊎_elim
    (λ a. ⊎_elim (λ b. a ∙ sym b) (λ b. absurd (before_apart (key h) (key g) (before_each (key h) fs o.0 g b) (ap key (sym a) ∙ p))) j)
    (λ a. ⊎_elim (λ b. absurd (before_apart (key h) (key f) (before_each (key h) fs o.0 f a) (ap key (sym b) ∙ sym p))) (λ b. one_of_key fs o.1 f g a b p) j)
    i

-- two lists in order that hold the same are equal
pub one_list : (fs gs : List Numbered) → InOrder fs → InOrder gs → ((f : Numbered) → In f fs → In f gs) → ((f : Numbered) → In f gs → In f fs) → fs ≡ gs
one_list [] [] o q h k = refl
one_list [] (g ∷ gs) o q h k = absurd (k g (inl refl))
one_list (f ∷ fs) [] o q h k = absurd (h f (inl refl))
one_list (f ∷ fs) (g ∷ gs) o q h k = ap₂ ◌∷◌ first (one_list fs gs o.1 q.1 (λ x i. rest_of first x i (h x (inr i))) (λ x i. rest_back first x i (k x (inr i))))
  where
    first : f ≡ g
    first = ⊎_elim (λ e. e) (λ i. ⊎_elim sym (λ j. absurd (before_one_way (key f) (key g) (before_each (key f) fs o.0 g j) (before_each (key g) gs q.0 f i))) (k g (inl refl))) (h f (inl refl))

    rest_of : f ≡ g → (x : Numbered) → In x fs → In x (g ∷ gs) → In x gs
    rest_of p x i j = ⊎_elim (λ e. absurd (before_apart (key f) (key x) (before_each (key f) fs o.0 x i) (ap key (p ∙ sym e)))) (λ t. t) j

    rest_back : f ≡ g → (x : Numbered) → In x gs → In x (f ∷ fs) → In x fs
    rest_back p x i j = ⊎_elim (λ e. absurd (before_apart (key g) (key x) (before_each (key g) gs q.0 x i) (ap key (sym p ∙ sym e)))) (λ t. t) j
