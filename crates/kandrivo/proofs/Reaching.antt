-- How a job on a book and a record goes through the complete list of their fits, with memory that suffices. Assumes nothing.
use Rattle.std.proofs.Common.{◌≡◌, ℕ, ◌+◌, ◌-◌, ◌<◌, ◌≤◌, inl, inr, Bool, true, false, List, length, take, drop, Vec, Global, Option, Result, Ok, Err, sym, refl, ◌∙◌, subst, subst₂, arith}
use Rattle.std.proofs.lemmas.Option.{slice_get_within}
use Rattle.std.proofs.Math.Seq.{take-append_seam}
use Rattle.sexp.specs.declared.refusals.Refusal.{Refusal}
use Rattle.sexp.specs.Elements.{Elements, count}
use Rattle.sexp.specs.Text.{text}
use Rattle.holder.specs.Placed.{Placed, erase}
use Rattle.rules.specs.Complete.{Complete}
use Rattle.rules.specs.Fits.{Numbered}
use Rattle.rules.specs.Lawful.{LawfulBook}
use Rattle.rules.specs.Patterns.{Rule}
use Rattle.rules.proofs.Books.{enumerate}
use Rattle.fitting.specs.declared.jobs.Job.{Job}
use Rattle.fitting.specs.declared.jobs.Position.{Position}
use Rattle.fitting.specs.declared.jobs.Position.TheVariants.{Start, At, End as AtEnd}
use Rattle.fitting.specs.declared.runs.Memory.{Memory}
use Rattle.fitting.specs.declared.runs.Call.TheVariants.{Next}
use Rattle.fitting.specs.declared.runs.Answer.{Answer}
use Rattle.fitting.specs.declared.runs.Answer.TheVariants.{Fit as FitAnswer, End as EndAnswer, Refused}
use Rattle.fitting.specs.Calls.{next_answer, AsSmall}
use Rattle.fitting.specs.Jobs.{Nexts, refused, moves, moved, told_next, Writes, large as writes_large, short as writes_short, laid, WriteTells, small, no_fit, fit as fit_shown}
use Rattle.fitting.specs.Law.{IsSmall, Tells, fit as fit_told, all as all_told, next_refused}
use Rattle.fitting.proofs.Handing.{lawful_complete}
use Rattle.fitting.proofs.Telling.{PositionAt, JobAt, Made, next_tells, fit_standing, stands as is_standing, nothing_stands}
use Rattle.kandrivo.specs.declared.fits.Told.{Told}
use Rattle.kandrivo.specs.declared.fits.Told.TheVariants.{Fit, End}
use Rattle.kandrivo.specs.Fits.{Reached, is_end, reached, IsReached, TellsNext, fit, end, GoesOn, TextOf, written, large, TellsText, stands, none, GivesText}

-- all the memory that a call can need
abbrev pub all_memory : Memory
all_memory = record { marks = 256; places = 256 }

not_small : IsSmall all_memory → ⊥
not_small s = omega arith

-- a position at the end is that
ended_is : (fits : List Numbered) (told : ℕ) (ended : Bool) (p : Position) → PositionAt fits told ended p → ended ≡ is_end p
ended_is fits told ended Start h = h.1
ended_is fits told ended (At k) h = h.1
ended_is fits told ended AtEnd h = h.1

-- what next tells, as an answer
abbrev pub said : Told → Answer
said (Fit rule n) = FitAnswer rule n
said (End n) = EndAnswer n

not_refused : {k : Refusal} (t : Told) → Refused k ≡ said t → ⊥
not_refused (Fit rule n) e = cc
not_refused (End n) e = cc

-- what the law says of next
from_law : {book : List Rule} {tree : Placed} {fits : List Numbered} {told now : ℕ} {ended ends : Bool} {a : Answer} (t : Told) → Tells book tree fits told ended (Next all_memory) a now ends → a ≡ said t → TellsNext fits told t now ends
from_law {fits} {told} (Fit rule n) (fit_told {f = f} s g) e =
    let r : f.rule ≡ rule = cc in
    let m : told + 1 ≡ n = cc in
    subst₂ (λ x y. TellsNext fits told (Fit x y) (told + 1) false) r m (fit g)
from_law (Fit rule n) (all_told s l) e = absurd cc
from_law {fits} {told} (End n) (all_told s l) e = let m : told ≡ n = cc in subst (λ x. TellsNext fits told (End x) told true) m (end l)
from_law (End n) (fit_told s g) e = absurd cc
from_law t (next_refused s) e = absurd (not_small s)

-- next goes on along the list
pub goes_on : {book : List Rule} {tree : Placed} {job job' : Job} {marks places : ℕ} {r : Result (Option ℕ × ℕ) Refusal} {t : Told} → count (erase tree) ≤ 4096 → IsReached book tree job →
    Nexts book (erase tree) marks places job r job' → next_answer r ≡ said t → IsReached book tree job' × GoesOn (reached book tree job) t (reached book tree job')
goes_on {t} few i (refused s) e = absurd (not_refused t e)
goes_on {book} {tree} {job} {job'} {marks} {places} {r} {t} few i (moves n next f) e = (
  record {
    lawful = i.lawful;
    at = λ fits c. let m = made fits c in subst₂ (λ told ended. JobAt fits told ended (moved job next)) (sym m.at.count) (ended_is fits m.now m.ends (moved job next).position m.at.position) m.at;
  },
  record {
    rules = refl;
    tree = refl;
    tells = λ fits c. let m = made fits c in
        subst₂ (λ told ended. TellsNext fits job.count t told ended) (sym m.at.count) (ended_is fits m.now m.ends (moved job next).position m.at.position) (from_law t m.tells e);
  },
)
  where
    as_small : AsSmall marks places all_memory
    as_small = (((λ l. absurd (n (inl l))), (λ l. omega arith)), ((λ l. absurd (n (inr l))), (λ l. omega arith)))

    made : (fits : List Numbered) → Complete book (erase tree) fits → Made book tree fits job.count (is_end job.position) (Next all_memory) (next_answer (told_next job next)) (moved job next)
    made fits c = next_tells i.lawful.few few c (i.at fits c) as_small (moves n next f)

-- what stands at the front of an output that was written, as a text of its own; or why nothing was written
abbrev pub Cut : Result ℕ Refusal → List ℕ → Result (Vec ℕ Global) Refusal → Type 0
Cut (Ok n) new t = (v : Vec ℕ Global) × (t ≡ Ok v) × (v.items ≡ take n new)
Cut (Err k) new t = t ≡ Err k

-- an output of as many octets as a text can have is never too short
text_of : {e : Elements} {out new : List ℕ} {r : Result ℕ Refusal} {t : Result (Vec ℕ Global) Refusal} → length out ≡ 32768 → Writes e out r new → Cut r new t → TextOf e t
text_of {e} o (writes_large l) w = subst (TextOf e) (sym w) (large l)
text_of o (writes_short n l) w = absurd (n (inr (inr (omega arith))))
text_of {e} {out} o (laid n l) w = subst (TextOf e) (sym w.1) (written n (w.2 ∙ take-append_seam (text e) (drop (length (text e)) out)))

-- the text of the fit that stands in the list
pub gives_text : {book : List Rule} {tree : Placed} {job : Job} {marks places : ℕ} {out new : List ℕ} {r : Result ℕ Refusal} {t : Result (Vec ℕ Global) Refusal} →
    IsReached book tree job → marks ≡ 256 → places ≡ 256 → length out ≡ 32768 → WriteTells book (erase tree) marks places job.position out r new → Cut r new t → GivesText (reached book tree job) t
gives_text i m p o (small (inl x)) w fits c = absurd (omega arith)
gives_text i m p o (small (inr x)) w fits c = absurd (omega arith)
gives_text {book} {tree} {job} i m p o (no_fit n k) w fits c = subst (TellsText (reached book tree job) fits) (sym w) (none (nothing_stands tree c (i.at fits c) k))
gives_text i m p o (fit_shown n k h) w fits c = stands (fit_standing k) k.rule (is_standing c (i.at fits c) k) (text_of o h w)

-- the complete list where a job is
abbrev pub list_at : Reached → List Numbered
list_at r = enumerate r.rules (erase r.tree)

pub complete_at : (r : Reached) → LawfulBook r.rules → Complete r.rules (erase r.tree) (list_at r)
complete_at r lawful = lawful_complete r.rules (erase r.tree) lawful

-- what next tells by it
pub told_by_list : {old new : Reached} {t : Told} → LawfulBook new.rules → GoesOn old t new → TellsNext (list_at old) old.told t new.told new.ended
told_by_list {old} lawful g = g.tells (list_at old) (complete_at old (subst LawfulBook g.rules lawful))

-- how many fits are left
abbrev pub fits_left : Reached → ℕ
fits_left r = length (list_at r) - r.told

-- each one that is told leaves one fewer
pub one_fewer : {old new : Reached} {rule n : ℕ} → LawfulBook new.rules → GoesOn old (Fit rule n) new → fits_left new < fits_left old
one_fewer {old} {new} {rule} {n} lawful g = rw (g.rules, g.tree) (go (Fit rule n) refl (told_by_list lawful g))
  where
    go : {fits : List Numbered} {told now : ℕ} {ends : Bool} (t : Told) → t ≡ Fit rule n → TellsNext fits told t now ends → length fits - now < length fits - told
    go {fits} {told} t e (fit {f = f} g) = omega (arith, slice_get_within fits told f g)
    go t e (end l) = absurd cc
