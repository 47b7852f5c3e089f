-- What the calls of a job tell, where the job stands in the complete list of fits. Assumes nothing.
use Rattle.std.proofs.Common.{◌≡◌, ℕ, zero, suc, ◌+◌, ◌<◌, ◌≤◌, ◌⊎◌, ◌↔◌, inl, inr, ⊎_elim, Bool, true, false, List, length, drop, min, Option, Result, Some, None, slice_get, Bor, sym, refl, ap, ◌∙◌, subst, subst₂, arith}
use Rattle.std.proofs.lemmas.Option.{slice_get_within}
use Rattle.std.proofs.lemmas.Bool.{cases_lt}
use Rattle.std.proofs.Math.Seq.{take-append_seam}
use Rattle.sexp.specs.declared.refusals.Refusal.{Refusal}
use Rattle.sexp.specs.Elements.{Elements, count}
use Rattle.sexp.specs.Text.{text}
use Rattle.holder.specs.Placed.{Placed, erase}
use Rattle.rules.specs.Patterns.{Rule}
use Rattle.rules.specs.Fits.{IsRule, Numbered, BookFit}
use Rattle.rules.specs.Keys.{Key as FitKey, key}
use Rattle.rules.specs.Complete.{Complete}
use Rattle.search.specs.Books.{BookPosition, first, past, LeastPast}
use Rattle.search.proofs.Telling.{Told, told_next, told_all, get_in, one_fit}
use Rattle.search.proofs.Counting.{complete_short}
use Rattle.fitting.specs.declared.jobs.Job.{Job}
use Rattle.fitting.specs.declared.jobs.Position.{Position}
use Rattle.fitting.specs.declared.jobs.Position.TheVariants.{Start, At, End as AtEnd}
use Rattle.fitting.specs.declared.keys.Key.{Key}
use Rattle.fitting.specs.declared.runs.Memory.{Memory}
use Rattle.fitting.specs.declared.runs.Call.{Call}
use Rattle.fitting.specs.declared.runs.Call.TheVariants.{Next, Show, Write}
use Rattle.fitting.specs.declared.runs.Answer.{Answer}
use Rattle.fitting.specs.declared.runs.Answer.TheVariants.{Fit, End}
use Rattle.fitting.specs.Keys.{key_of, key_told}
use Rattle.fitting.specs.Jobs.{Small, Following, counted, Nexts, refused, moves, Standing, Shows, unknown as shows_unknown, nothing as shows_nothing, some as shows_some, ShowTells, small, no_fit, fit as fit_shown, moved, told_next as next_told, Writes, large as writes_large, short as writes_short, laid, WriteTells}
use Rattle.fitting.specs.Calls.{started, AsSmall, next_answer, show_answer, IsWritten}
use Rattle.fitting.specs.Law.{IsSmall, FromShow, unknown, nothing, some, IsText, FromWrite, large, short, written, FitStands, Tells, fit, all, next_refused, show, write, show_none, write_none, show_refused, write_refused}
use Rattle.fitting.proofs.Following.{counted_more}

-- a position in a list of fits, of which the first `told` were told, and perhaps the end
abbrev pub PositionAt : List Numbered → ℕ → Bool → Position → Type 0
PositionAt fits told ended Start = (told ≡ 0) × (ended ≡ false)
PositionAt fits told ended (At k) = Told fits told (past (key_of k)) × (ended ≡ false)
PositionAt fits told ended AtEnd = (told ≡ length fits) × (ended ≡ true)

-- a job stands there, and counts those that were told
pub record JobAt (fits : List Numbered) (told : ℕ) (ended : Bool) (job : Job) : Type 0 where
  pub count : job.count ≡ told
  pub position : PositionAt fits told ended job.position

-- none of the fits is told
pub started_at : (fits : List Numbered) → JobAt fits 0 false started
started_at fits = record { count = refl; position = (refl, refl) }

-- the marks and places are as small as the memory, where a call is handed up to 256 of each
pub handed : (m : Memory) (marks places : ℕ) → marks ≡ min m.marks 256 → places ≡ min m.places 256 → AsSmall marks places m
handed m marks places p q = (go marks m.marks p, go places m.places q)
  where
    go : (n k : ℕ) → n ≡ min k 256 → (n < 256) ↔ (k < 256)
    go n k p = ((λ h. omega arith), (λ h. omega arith))

small_memory : {marks places : ℕ} {m : Memory} → AsSmall marks places m → Small marks places → IsSmall m
small_memory s x = ⊎_elim (λ l. inl (s.0.0 l)) (λ l. inr (s.1.0 l)) x

enough_memory : {marks places : ℕ} {m : Memory} → AsSmall marks places m → (Small marks places → ⊥) → IsSmall m → ⊥
enough_memory s n x = n (⊎_elim (λ l. inl (s.0.1 l)) (λ l. inr (s.1.1 l)) x)

-- what a list has behind the fits told: the next fit, with this key, or none
abbrev Onward : List Numbered → ℕ → Option Key → Type 0
Onward fits told (Some k) = (f : Numbered) × (slice_get fits told ≡ Some f) × (key_of k ≡ key f)
Onward fits told None = told ≡ length fits

-- it is what is the least behind the position
onward : {book : List Rule} {e : Elements} {fits : List Numbered} (told : ℕ) (ended : Bool) (position : Position) (next : Option Key) →
    Complete book e fits → PositionAt fits told ended position → Following book e position next → Onward fits told next
onward {book} {e} {fits} told ended position next c = past_any position next
  where
    goes : (p : BookPosition) (n : Option Key) → Told fits told p → LeastPast book e p (key_told n) → Onward fits told n
    goes p (Some k) t l = told_next told p (key_of k) c t l
    goes p None t l = told_all told p c t l

    past_any : (p : Position) (n : Option Key) → PositionAt fits told ended p → Following book e p n → Onward fits told n
    past_any Start n h l = goes first n (subst (λ k. Told fits k first) (sym h.0) refl) l
    past_any (At k) n h l = goes (past (key_of k)) n h.0 l
    past_any AtEnd (Some k) h l = absurd cc
    past_any AtEnd None h l = h.0

-- a call tells what it does by the list, and leaves the job in the list
pub record Made (book : List Rule) (tree : Placed) (fits : List Numbered) (told : ℕ) (ended : Bool) (c : Call) (a : Answer) (job : Job) : Type 0 where
  pub now : ℕ
  pub ends : Bool
  pub tells : Tells book tree fits told ended c a now ends
  pub at : JobAt fits now ends job

-- next goes on along the list
pub next_tells : {book : List Rule} {tree : Placed} {fits : List Numbered} {told : ℕ} {ended : Bool} {job job' : Job} {marks places : ℕ} {m : Memory} {r : Result (Option ℕ × ℕ) Refusal} →
    length book ≤ 64 → count (erase tree) ≤ 4096 → Complete book (erase tree) fits → JobAt fits told ended job → AsSmall marks places m →
    Nexts book (erase tree) marks places job r job' → Made book tree fits told ended (Next m) (next_answer r) job'
next_tells {told} {ended} rules elements c j s (refused x) = record { now = told; ends = ended; tells = next_refused (small_memory s x); at = j }
next_tells {book} {tree} {fits} {told} {ended} {job} {m} rules elements c j s (moves n next f) = go next (onward told ended job.position next c j.position f)
  where
    enough : IsSmall m → ⊥
    enough = enough_memory s n

    go : (next : Option Key) → Onward fits told next → Made book tree fits told ended (Next m) (next_answer (next_told job next)) (moved job next)
    go (Some k) t =
        let rule : k.rule ≡ t.0.rule = ap (λ (x : FitKey). x.rule) t.2 in
        let more : counted job.count ≡ told + 1 = ap counted j.count ∙ counted_more told (omega (arith, slice_get_within fits told t.0 t.1, complete_short rules elements c)) in
        record {
          now = told + 1;
          ends = false;
          tells = subst₂ (λ x y. Tells book tree fits told ended (Next m) (Fit x y) (told + 1) false) (sym rule) (sym more) (fit enough t.1);
          at = record { count = more; position = (subst (λ x. Told fits x (past (key_of k))) one (told_one t.0 t.1 (ap past t.2)), refl) };
        }
      where
        one : suc told ≡ told + 1
        one = omega arith

        told_one : (f : Numbered) → slice_get fits told ≡ Some f → past (key_of k) ≡ past (key f) → Told fits (suc told) (past (key_of k))
        told_one f p q = (f, p, q)
    go None t = record {
      now = told;
      ends = true;
      tells = subst (λ x. Tells book tree fits told ended (Next m) (End x) told true) (sym j.count) (all enough t);
      at = record { count = j.count; position = (t, refl) };
    }

-- the fit that stands by the key of a job
abbrev pub fit_standing : {book : List Rule} {e : Elements} {position : Position} → Standing book e position → Numbered
fit_standing s = record { rule = s.at.rule; bindings = s.bindings }

-- stands by the list too: it was told last
pub stands : {book : List Rule} {tree : Placed} {fits : List Numbered} {told : ℕ} {ended : Bool} {job : Job} →
    Complete book (erase tree) fits → JobAt fits told ended job → (s : Standing book (erase tree) job.position) → FitStands book tree fits told ended (fit_standing s) s.rule
stands {book} {tree} {fits} {told} {ended} {job} c j s = go told refl (subst (PositionAt fits told ended) s.is j.position)
  where
    go : (n : ℕ) → told ≡ n → PositionAt fits n ended (At s.at) → FitStands book tree fits told ended (fit_standing s) s.rule
    go zero p h = absurd cc
    go (suc n) p h =
        let f : Numbered = h.0.0 in
        let same : key (fit_standing s) ≡ key f = s.its_key ∙ cc (h.0.2) in
        record {
          last = n;
          is_last = p;
          not_ended = h.1;
          is = h.0.1 ∙ ap Some (sym (one_fit (fit_standing s) f c s.fit (c.only f (get_in fits n f h.0.1)) same));
          rule = s.numbered;
        }

-- and what stands by the list stands by the key, with this rule and these bindings
pub record StandsByKey (book : List Rule) (e : Elements) (position : Position) (f : Numbered) (r : Rule) : Type 0 where
  pub stands : Standing book e position
  pub fit : fit_standing stands ≡ f
  pub rule : stands.rule ≡ r

pub stands_by_key : {book : List Rule} {tree : Placed} {fits : List Numbered} {told : ℕ} {ended : Bool} {job : Job} {f : Numbered} {r : Rule} →
    Complete book (erase tree) fits → JobAt fits told ended job → FitStands book tree fits told ended f r → StandsByKey book (erase tree) job.position f r
stands_by_key {book} {tree} {fits} {told} {ended} {job} {f} {r} c j s = go job.position j.position
  where
    at_key : (k : Key) → Told fits (suc s.last) (past (key_of k)) → StandsByKey book (erase tree) (At k) f r
    at_key k t =
        let same : t.0 ≡ f = cc (t.1, s.is) in
        let told_key : key_of k ≡ key t.0 = cc (t.2) in
        let its : key_of k ≡ key f = told_key ∙ ap key same in
        let rule : k.rule ≡ f.rule = ap (λ (x : FitKey). x.rule) its in
        let fits_key : record { rule = k.rule; bindings = f.bindings } ≡ f = ap (λ n. record { rule = n; bindings = f.bindings }) rule in
        let stands : Standing book (erase tree) (At k) = record {
          at = k;
          is = refl;
          rule = r;
          bindings = f.bindings;
          numbered = subst (λ n. IsRule book n r) (sym rule) s.rule;
          fit = subst (BookFit book (erase tree)) (sym fits_key) (c.only f (get_in fits s.last f s.is));
          its_key = ap key fits_key ∙ sym its;
        } in
        record { stands = stands; fit = fits_key; rule = refl }

    go : (p : Position) → PositionAt fits told ended p → StandsByKey book (erase tree) p f r
    go Start h = absurd (omega (arith, h.0, s.is_last))
    go (At k) h = at_key k (subst (λ n. Told fits n (past (key_of k))) s.is_last h.0)
    go AtEnd h = absurd (cc (h.1, s.not_ended))

-- where none stands by the key, nothing was told yet, or the end was
pub nothing_stands : {book : List Rule} (tree : Placed) {fits : List Numbered} {told : ℕ} {ended : Bool} {job : Job} →
    Complete book (erase tree) fits → JobAt fits told ended job → (Standing book (erase tree) job.position → ⊥) → (told ≡ 0) ⊎ (ended ≡ true)
nothing_stands {book} tree {fits} {told} {ended} {job} c j n = go job.position j.position n
  where
    last_told : (n : ℕ) (k : Key) → told ≡ n → Told fits n (past (key_of k)) → ended ≡ false → Standing book (erase tree) (At k)
    last_told zero k p t e = absurd cc
    last_told (suc n) k p t e =
        let f : Numbered = t.0 in
        let b : BookFit book (erase tree) f = c.only f (get_in fits n f t.1) in
        let at : JobAt fits told ended (record { position = At k; count = told }) = record { count = refl; position = (subst (λ x. Told fits x (past (key_of k))) (sym p) t, e) } in
        let stands : FitStands book tree fits told ended f b.0 = record { last = n; is_last = p; not_ended = e; is = t.1; rule = b.1 } in
        (stands_by_key c at stands).stands

    go : (p : Position) → PositionAt fits told ended p → (Standing book (erase tree) p → ⊥) → (told ≡ 0) ⊎ (ended ≡ true)
    go Start h n = inl h.0
    go (At k) h n = absurd (n (last_told told k refl h.0 h.1))
    go AtEnd h n = inr h.1

from_show : {tree : Placed} {name : List ℕ} {q : Rule} {f : Numbered} {r : Result (Option ℕ × ℕ) Refusal} → Shows tree name q f.bindings r → FromShow tree q f name (show_answer r)
from_show (shows_unknown n) = unknown n
from_show (shows_nothing o w) = nothing o w
from_show (shows_some f w p) = some f w p

-- show tells of the fit that stands
pub show_tells : {book : List Rule} {tree : Placed} {fits : List Numbered} {told : ℕ} {ended : Bool} {job : Job} {marks places : ℕ} {m : Memory} {name : Bor (List ℕ)} {r : Result (Option ℕ × ℕ) Refusal} →
    Complete book (erase tree) fits → JobAt fits told ended job → AsSmall marks places m → ShowTells book tree marks places job.position name.now r →
    Tells book tree fits told ended (Show name m) (show_answer r) told ended
show_tells c j s (small x) = show_refused (small_memory s x)
show_tells {tree} c j s (no_fit n k) = show_none (enough_memory s n) (nothing_stands tree c j k)
show_tells c j s (fit_shown n k h) = show (fit_standing k) k.rule (enough_memory s n) (stands c j k) (from_show h)

-- no text within the limits has more octets than the longest output, so an output cut to it tells the same
from_write : {e : Elements} {out new : List ℕ} {r : Result ℕ Refusal} (octets : ℕ) → length out ≡ min octets 32768 → Writes e out r new → (a : Answer) → IsWritten r new a → FromWrite e octets a
from_write {e} octets o (writes_large t) a w = subst (FromWrite e octets) (sym w) (large t)
from_write {e} {out} octets o (writes_short n l) a w = subst (FromWrite e octets) (sym w) (short n (⊎_elim (λ h. absurd (n (inr (inr h)))) (λ h. omega arith) (cases_lt 32768 (length (text e)))))
from_write {e} {out} octets o (laid n l) a w = written a n (omega arith) (subst (λ t. IsText t a) (take-append_seam (text e) (drop (length (text e)) out)) w)

-- write tells of the fit that stands, where the output has, or of as many as a text can have
pub write_tells : {book : List Rule} {tree : Placed} {fits : List Numbered} {told : ℕ} {ended : Bool} {job : Job} {marks places octets : ℕ} {m : Memory} {out new : List ℕ} {r : Result ℕ Refusal} →
    Complete book (erase tree) fits → JobAt fits told ended job → AsSmall marks places m → length out ≡ min octets 32768 → WriteTells book (erase tree) marks places job.position out r new →
    (a : Answer) → IsWritten r new a → Tells book tree fits told ended (Write octets m) a told ended
write_tells {book} {tree} {fits} {told} {ended} {octets} {m} c j s o (small x) a w = subst (λ y. Tells book tree fits told ended (Write octets m) y told ended) (sym w) (write_refused (small_memory s x))
write_tells {book} {tree} {fits} {told} {ended} {octets} {m} c j s o (no_fit n k) a w = subst (λ y. Tells book tree fits told ended (Write octets m) y told ended) (sym w) (write_none (enough_memory s n) (nothing_stands tree c j k))
write_tells {octets} c j s o (fit_shown n k h) a w = write (fit_standing k) k.rule (enough_memory s n) (stands c j k) (from_write octets o h a w)
