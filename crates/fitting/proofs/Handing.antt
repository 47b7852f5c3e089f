-- What a call of a run hands over and answers, and how the run goes on, call by call. Assumes nothing.
use Rattle.std.proofs.Common.{◌≡◌, ℕ, suc, ◌+◌, ◌<◌, ◌≤◌, List, [], ◌∷◌, ◌++◌, length, take, get_or, min, Result, Option, Bor, sym, ap, ◌∙◌, subst, subst₂, arith}
use Rattle.std.proofs.lemmas.List.{length-take-le, take_all}
use Rattle.std.proofs.Math.Seq.{take-append_seam, take-suc}
use Rattle.sexp.specs.declared.refusals.Refusal.{Refusal}
use Rattle.sexp.specs.Elements.{Elements, count}
use Rattle.holder.specs.Placed.{Placed, erase}
use Rattle.rules.specs.Complete.{Complete, FewSegments}
use Rattle.rules.specs.Lawful.{LawfulRules, LawfulBook}
use Rattle.rules.specs.Patterns.{Rule}
use Rattle.rules.proofs.Books.{enumerate, enumerate_complete}
use Rattle.fitting.specs.declared.jobs.Job.{Job}
use Rattle.fitting.specs.declared.runs.Memory.{Memory}
use Rattle.fitting.specs.declared.runs.Call.{Call}
use Rattle.fitting.specs.declared.runs.Call.TheVariants.{Next, Show, Write}
use Rattle.fitting.specs.declared.runs.Answer.{Answer}
use Rattle.fitting.specs.Jobs.{Nexts, ShowTells, WriteTells}
use Rattle.fitting.specs.Calls.{AsSmall, next_answer, show_answer, IsWritten, CallTells, next_told, show_told, write_told}
use Rattle.fitting.specs.Law.{FollowsTheList}
use Rattle.fitting.proofs.Running.{SoFar, so_far_more, follows}
use Rattle.fitting.proofs.Telling.{handed}

-- of 256 items, as many as the memory of a call, up to all
first_items : {A : Type 0} (items : List A) (i n : ℕ) → 256 ≤ length items → i ≡ min n 256 → length (take i items) ≡ min n 256
first_items items i n l p = length-take-le i items (grind (arith, p, l)) ∙ p

-- so what it is handed is as small as that memory
pub handed_first : {A B : Type 0} {m : Memory} {i j : ℕ} (marks : List A) (places : List B) → 256 ≤ length marks → 256 ≤ length places →
    i ≡ min m.marks 256 → j ≡ min m.places 256 → AsSmall (length (take i marks)) (length (take j places)) m
handed_first {m} {i} {j} marks places k l p q =
    handed m (length (take i marks)) (length (take j places)) (first_items marks i m.marks k p) (first_items places j m.places l q)

-- the answer to each call
pub next_as : {book : List Rule} {tree : Placed} {job job' : Job} {m : Memory} {marks places : ℕ} {r : Result (Option ℕ × ℕ) Refusal} {a : Answer} →
    AsSmall marks places m → Nexts book (erase tree) marks places job r job' → a ≡ next_answer r → CallTells book tree job (Next m) a job'
next_as {book} {tree} {job} {job'} {m} s h e = subst (λ x. CallTells book tree job (Next m) x job') (sym e) (next_told s h)

pub show_as : {book : List Rule} {tree : Placed} {job : Job} {m : Memory} {name : Bor (List ℕ)} {marks places : ℕ} {r : Result (Option ℕ × ℕ) Refusal} {a : Answer} →
    AsSmall marks places m → ShowTells book tree marks places job.position name.now r → a ≡ show_answer r → CallTells book tree job (Show name m) a job
show_as {book} {tree} {job} {m} {name} s h e = subst (λ x. CallTells book tree job (Show name m) x job) (sym e) (show_told s h)

pub write_as : {book : List Rule} {tree : Placed} {job : Job} {m : Memory} {octets marks places : ℕ} {r : Result ℕ Refusal} {a : Answer} (out new : List ℕ) →
    AsSmall marks places m → length out ≡ min octets 32768 → WriteTells book (erase tree) marks places job.position out r new → IsWritten r new a → CallTells book tree job (Write octets m) a job
write_as out new s o h w = write_told s o h w

-- what stands in a vector behind a borrow of it all, cut to its first n items
pub whole_written : {A : Type 0} {k : ℕ} {new : List A} (n : ℕ) (items rest : List A) → new ≡ take n (take k (items ++ rest)) → length items ≡ k → new ≡ take n items
whole_written n items rest p q = p ∙ ap (take n) (ap (λ j. take j (items ++ rest)) (sym q) ∙ take-append_seam items rest)

-- each rule of a lawful book has few segments
few_segments : (book : List Rule) → LawfulRules book → FewSegments book
few_segments [] l = tt
few_segments (r ∷ book) l = (l.0.segments_few, few_segments book l.1)

-- so there is a complete list of its fits
pub lawful_complete : (book : List Rule) (e : Elements) → LawfulBook book → Complete book e (enumerate book e)
lawful_complete book e l = enumerate_complete book e (few_segments book l.each)

-- the first items, and one more
one_more : {A : Type 0} (items : List A) (i : ℕ) (d : A) → i < length items → take (i + 1) items ≡ take i items ++ (get_or items i d ∷ [])
one_more items i d l = let next : i + 1 ≡ suc i = omega arith in ap (λ n. take n items) next ∙ take-suc items i d l

-- one more of the calls is made
pub call_made : {book : List Rule} {tree : Placed} {answers answers' : List Answer} {job job' : Job} {a : Answer} {i : ℕ} (calls : List Call) (d : Call) →
    LawfulBook book → count (erase tree) ≤ 4096 → i < length calls → answers' ≡ answers ++ (a ∷ []) →
    SoFar book tree (enumerate book (erase tree)) (take i calls) answers job → CallTells book tree job (get_or calls i d) a job' →
    SoFar book tree (enumerate book (erase tree)) (take (i + 1) calls) answers' job'
call_made {book} {tree} {job'} {i} calls d lawful few l p s t =
    subst₂ (λ cs told. SoFar book tree (enumerate book (erase tree)) cs told job') (sym (one_more calls i d l)) (sym p)
    (so_far_more lawful.few few (lawful_complete book (erase tree) lawful) s t)

-- and when all are, the run follows the list
pub calls_made : {book : List Rule} {tree : Placed} {calls : List Call} {answers : List Answer} {job : Job} {i : ℕ} →
    LawfulBook book → length calls ≤ i → SoFar book tree (enumerate book (erase tree)) (take i calls) answers job → FollowsTheList book tree calls answers
calls_made {book} {tree} {calls} {answers} {i} lawful l s =
    subst (λ cs. FollowsTheList book tree cs answers) (take_all i calls l) (follows (lawful_complete book (erase tree) lawful) s)
