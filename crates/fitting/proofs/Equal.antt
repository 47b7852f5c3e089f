-- The same calls tell the same of equal records, places aside. Assumes nothing.
use Rattle.std.proofs.Common.{Bor, ◌≡◌, ℕ, ◌⊎◌, inl, inr, ⊎_elim, Bool, true, false, List, [], ◌∷◌, Vec, Global, sym, refl, ap, ◌∙◌, subst, arith}
use Rattle.std.proofs.lemmas.Option.{slice_get_within}
use Rattle.sexp.specs.Elements.{Elements}
use Rattle.sexp.specs.Text.{text}
use Rattle.holder.specs.Placed.{Placed}
use Rattle.rules.specs.Patterns.{Pattern, Rule, slots}
use Rattle.rules.specs.Bindings.{Binding, fill}
use Rattle.rules.specs.Fits.{IsRule, Numbered}
use Rattle.rules.specs.Complete.{Complete}
use Rattle.rules.proofs.Orders.{in_left, in_right}
use Rattle.search.proofs.Asking.{one_rule}
use Rattle.search.proofs.Telling.{complete_one}
use Rattle.fitting.specs.declared.runs.Memory.{Memory}
use Rattle.fitting.specs.declared.runs.Call.{Call}
use Rattle.fitting.specs.declared.runs.Call.TheVariants.{Show}
use Rattle.fitting.specs.declared.runs.Answer.{Answer}
use Rattle.fitting.specs.declared.runs.Answer.TheVariants.{Fit, End, Shown, Written, Rewound, Refused}
use Rattle.fitting.specs.Occurs.{Occurs, FirstAt, here, past_constant, past_name, in_list, past_list}
use Rattle.fitting.specs.Law.{FromShow, unknown, nothing, some, IsText, FromWrite, large, short, written, FitStands, Tells, fit, all, next_refused, show, write, show_none, write_none, show_refused, write_refused, rewind, Run, more, FollowsTheList, Same, AllSame, SameCall, both_next, both_show, both_write, both_rewind, SameCalls, EqualRecordsTellTheSame}

-- a name that has a first occurrence occurs
pub first_occurs : {m : List Binding} {name : List ℕ} {p : Pattern} {r x : Placed} → FirstAt m name p r x → Occurs name p
first_occurs (here sign p r) = (sign, inl refl)
first_occurs (past_constant a f) = first_occurs f
first_occurs (past_name sign o n f) = let t = first_occurs f in (t.0, inr t.1)
first_occurs {name} (in_list {inner} p f) = let t = first_occurs f in (t.0, in_left (record { sign = t.0; name = name }) (slots inner) (slots p) t.1)
first_occurs {name} (past_list inner {p} n f) = let t = first_occurs f in (t.0, in_right (record { sign = t.0; name = name }) (slots inner) (slots p) t.1)

-- what show tells of one fit is the same in each record, but for the place
same_show : {tree other : Placed} {r : Rule} {f : Numbered} {name : List ℕ} {a b : Answer} → FromShow tree r f name a → FromShow other r f name b → Same a b
same_show (unknown n) (unknown k) = refl
same_show (unknown n) (nothing o w) = absurd (n o)
same_show (unknown n) (some f w p) = absurd (n (first_occurs f))
same_show (nothing o w) (unknown n) = absurd (n o)
same_show (nothing o w) (nothing i v) = refl
same_show (nothing o w) (some f v p) = absurd (omega arith)
same_show (some f w p) (unknown n) = absurd (n (first_occurs f))
same_show (some f w p) (nothing o v) = absurd (omega arith)
same_show (some f w p) (some g v q) = refl

-- an answer that is a text is written
is_text : (t : List ℕ) (a : Answer) → IsText t a → (octets : Vec ℕ Global) × (a ≡ Written octets) × (octets.items ≡ t)
is_text t (Fit rule count) h = absurd h
is_text t (End count) h = absurd h
is_text t (Shown place elements) h = absurd h
is_text t (Written octets) h = (octets, refl, h)
is_text t Rewound h = absurd h
is_text t (Refused k) h = absurd h

-- two texts are the same
same_text : (t : List ℕ) (a b : Answer) → IsText t a → IsText t b → Same a b
same_text t a b h k =
    let x = is_text t a h in
    let y = is_text t b k in
    subst (λ (c : Answer). Same c b) (sym x.1) (subst (Same (Written x.0)) (sym y.1) (x.2 ∙ sym y.2))

-- what write tells of one result, into an output of one length, is the same
same_write : {e : Elements} {octets : ℕ} {a b : Answer} → FromWrite e octets a → FromWrite e octets b → Same a b
same_write (large t) (large u) = refl
same_write (large t) (short n l) = absurd (n t)
same_write (large t) (written b n l u) = absurd (n t)
same_write (short n l) (large t) = absurd (n t)
same_write (short n l) (short k i) = refl
same_write (short n l) (written b k i u) = absurd (omega arith)
same_write (written a n l t) (large u) = absurd (n u)
same_write (written a n l t) (short k i) = absurd (omega arith)
same_write {e} (written a n l t) (written b k i u) = same_text (text e) a b t u

-- one fit of one rule stands
pub one_stands : {book : List Rule} {tree other : Placed} {fits : List Numbered} {told : ℕ} {ended : Bool} {f g : Numbered} {r q : Rule} →
    FitStands book tree fits told ended f r → FitStands book other fits told ended g q → (f ≡ g) × (r ≡ q)
one_stands {book} {fits} {f} {g} {r} {q} x y = (same, one_rule book f.rule r q x.rule (subst (λ (h : Numbered). IsRule book h.rule q) (sym same) y.rule))
  where
    last : x.last ≡ y.last
    last = omega (arith, x.is_last, y.is_last)

    same : f ≡ g
    same = cc (x.is, y.is, last)

-- and none where nothing was told yet, or the end
pub none_stands : {book : List Rule} {tree : Placed} {fits : List Numbered} {told : ℕ} {ended : Bool} {f : Numbered} {r : Rule} → FitStands book tree fits told ended f r → (told ≡ 0) ⊎ (ended ≡ true) → ⊥
none_stands x h = ⊎_elim (λ p. absurd (omega (arith, x.is_last))) (λ p. absurd (cc (x.not_ended))) h

-- a call tells the same of equal records, and leaves as many told
pub same_tells : {book : List Rule} {tree other : Placed} {fits : List Numbered} {told : ℕ} {ended : Bool} {c : Call} {a b : Answer} {m n : ℕ} {s t : Bool} →
    Tells book tree fits told ended c a m s → Tells book other fits told ended c b n t → Same a b × (m ≡ n) × (s ≡ t)
same_tells (fit {f} k p) (fit {f = g} l q) =
    let same : f ≡ g = cc in
    ((ap (λ (x : Numbered). x.rule) same, refl), refl, refl)
same_tells {fits} {told} (fit {f} k p) (all l q) = absurd (omega (arith, slice_get_within fits told f p))
same_tells (fit k p) (next_refused l) = absurd (k l)
same_tells {fits} {told} (all k p) (fit {f} l q) = absurd (omega (arith, slice_get_within fits told f q))
same_tells (all k p) (all l q) = (refl, refl, refl)
same_tells (all k p) (next_refused l) = absurd (k l)
same_tells (next_refused k) (fit l q) = absurd (l k)
same_tells (next_refused k) (all l q) = absurd (l k)
same_tells (next_refused k) (next_refused l) = (refl, refl, refl)
same_tells {other} (show {name} f r k x h) (show {a = b} g q l y i) =
    let o = one_stands x y in
    (same_show h (subst (λ (z : Rule). FromShow other z f name.now b) (sym o.1) (subst (λ (z : Numbered). FromShow other q z name.now b) (sym o.0) i)), refl, refl)
same_tells (show f r k x h) (show_none l i) = absurd (none_stands x i)
same_tells (show f r k x h) (show_refused l) = absurd (k l)
same_tells (show_none k h) (show f r l x i) = absurd (none_stands x h)
same_tells (show_none k h) (show_none l i) = (refl, refl, refl)
same_tells (show_none k h) (show_refused l) = absurd (k l)
same_tells (show_refused k) (show f r l x i) = absurd (l k)
same_tells (show_refused k) (show_none l i) = absurd (l k)
same_tells (show_refused k) (show_refused l) = (refl, refl, refl)
same_tells (write {octets} f r k x h) (write {a = b} g q l y i) =
    let o = one_stands x y in
    (same_write h (subst (λ (z : Rule). FromWrite (fill f.bindings z.template) octets b) (sym o.1) (subst (λ (z : Numbered). FromWrite (fill z.bindings q.template) octets b) (sym o.0) i)), refl, refl)
same_tells (write f r k x h) (write_none l i) = absurd (none_stands x i)
same_tells (write f r k x h) (write_refused l) = absurd (k l)
same_tells (write_none k h) (write f r l x i) = absurd (none_stands x h)
same_tells (write_none k h) (write_none l i) = (refl, refl, refl)
same_tells (write_none k h) (write_refused l) = absurd (k l)
same_tells (write_refused k) (write f r l x i) = absurd (l k)
same_tells (write_refused k) (write_none l i) = absurd (l k)
same_tells (write_refused k) (write_refused l) = (refl, refl, refl)
same_tells rewind rewind = (tt, refl, refl)

-- what one of two calls that are the same tells, so does the other
shows_same : {book : List Rule} {tree : Placed} {fits : List Numbered} {told n : ℕ} {ended t : Bool} {name other : Bor (List ℕ)} {m : Memory} {a : Answer} →
    name.now ≡ other.now → Tells book tree fits told ended (Show other m) a n t → Tells book tree fits told ended (Show name m) a n t
shows_same {tree} {a} e (show f r k x h) = show f r k x (subst (λ os. FromShow tree r f os a) (sym e) h)
shows_same e (show_none k h) = show_none k h
shows_same e (show_refused k) = show_refused k

call_same : {book : List Rule} {tree : Placed} {fits : List Numbered} {told n : ℕ} {ended t : Bool} {c d : Call} {a : Answer} →
    SameCall c d → Tells book tree fits told ended d a n t → Tells book tree fits told ended c a n t
call_same both_next x = x
call_same (both_show e) x = shows_same e x
call_same both_write x = x
call_same both_rewind x = x

calls_same : {book : List Rule} {tree : Placed} {fits : List Numbered} {told : ℕ} {ended : Bool} {calls again : List Call} {xs : List Answer} →
    SameCalls calls again → Run book tree fits told ended again xs → Run book tree fits told ended calls xs
calls_same {calls = []} s nothing = nothing
calls_same {calls = []} s (more now ends x r) = absurd s
calls_same {calls = c ∷ cs} s nothing = absurd s
calls_same {calls = c ∷ cs} s (more now ends x r) = more now ends (call_same s.0 x) (calls_same s.1 r)

-- and so do the calls of a list, one after another
pub same_run : {book : List Rule} {tree other : Placed} {fits : List Numbered} {told : ℕ} {ended : Bool} {calls : List Call} {xs ys : List Answer} →
    Run book tree fits told ended calls xs → Run book other fits told ended calls ys → AllSame xs ys
same_run nothing nothing = tt
same_run {book} {other} {fits} (more {cs} now ends x r) (more {rest} n e y q) =
    let t = same_tells x y in
    (t.0, same_run r (subst (λ k. Run book other fits k ends cs rest) (sym t.1) (subst (λ k. Run book other fits n k cs rest) (sym t.2) q)))

-- so it is with whole runs, whose lists of fits are one
pub equal_records : (book : List Rule) (tree : Placed) (calls : List Call) (answers : List Answer) → FollowsTheList book tree calls answers → EqualRecordsTellTheSame book tree calls answers
equal_records book tree calls answers f other again told e s g =
    let same : g.fits ≡ f.fits = complete_one g.complete (subst (λ x. Complete book x f.fits) (sym e) f.complete) in
    same_run f.run (calls_same s (subst (λ x. Run book other x 0 false again told) same g.run))
