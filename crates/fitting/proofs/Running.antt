-- Runs, call by call: what the calls made so far told, and where the job stands now. Assumes nothing.
use Rattle.std.proofs.Common.{ℕ, ◌≤◌, Bool, false, List, [], ◌∷◌, ◌++◌, length}
use Rattle.sexp.specs.Elements.{count}
use Rattle.holder.specs.Placed.{Placed, erase}
use Rattle.rules.specs.Patterns.{Rule}
use Rattle.rules.specs.Fits.{Numbered}
use Rattle.rules.specs.Complete.{Complete}
use Rattle.fitting.specs.declared.jobs.Job.{Job}
use Rattle.fitting.specs.declared.runs.Call.{Call}
use Rattle.fitting.specs.declared.runs.Answer.{Answer}
use Rattle.fitting.specs.Law.{Tells, rewind, Run, nothing, more, FollowsTheList}
use Rattle.fitting.specs.Calls.{started, CallTells, next_told, show_told, write_told, rewind_told}
use Rattle.fitting.proofs.Telling.{JobAt, started_at, Made, next_tells, show_tells, write_tells}

-- each tells what it does by the list, and leaves the job in the list
pub call_tells : {book : List Rule} {tree : Placed} {fits : List Numbered} {told : ℕ} {ended : Bool} {job job' : Job} {c : Call} {a : Answer} →
    length book ≤ 64 → count (erase tree) ≤ 4096 → Complete book (erase tree) fits → JobAt fits told ended job → CallTells book tree job c a job' → Made book tree fits told ended c a job'
call_tells rules elements c j (next_told s h) = next_tells rules elements c j s h
call_tells {told} {ended} rules elements c j (show_told s h) = record { now = told; ends = ended; tells = show_tells c j s h; at = j }
call_tells {told} {ended} {a} rules elements c j (write_told s o h w) = record { now = told; ends = ended; tells = write_tells c j s o h a w; at = j }
call_tells {fits} rules elements c j rewind_told = record { now = 0; ends = false; tells = rewind; at = started_at fits }

-- the calls of a list, one after another, and how many are told at its end, and whether the end is
pub data RunTo (book : List Rule) (tree : Placed) (fits : List Numbered) : ℕ → Bool → List Call → List Answer → ℕ → Bool → Type 0 where
  none_made : {told : ℕ} {ended : Bool} → RunTo book tree fits told ended [] [] told ended
  one_made : {told : ℕ} {ended : Bool} {c : Call} {cs : List Call} {a : Answer} {rest : List Answer} {last : ℕ} {at_end : Bool} (now : ℕ) (ends : Bool) →
      Tells book tree fits told ended c a now ends → RunTo book tree fits now ends cs rest last at_end → RunTo book tree fits told ended (c ∷ cs) (a ∷ rest) last at_end

-- it is a run
pub run_made : {book : List Rule} {tree : Placed} {fits : List Numbered} {told last : ℕ} {ended at_end : Bool} {calls : List Call} {answers : List Answer} →
    RunTo book tree fits told ended calls answers last at_end → Run book tree fits told ended calls answers
run_made none_made = nothing
run_made (one_made now ends t r) = more now ends t (run_made r)

-- and can be extended at its end
pub run_extended : {book : List Rule} {tree : Placed} {fits : List Numbered} {told last now : ℕ} {ended at_end ends : Bool} {calls : List Call} {answers : List Answer} {c : Call} {a : Answer} →
    RunTo book tree fits told ended calls answers last at_end → Tells book tree fits last at_end c a now ends → RunTo book tree fits told ended (calls ++ (c ∷ [])) (answers ++ (a ∷ [])) now ends
run_extended {now} {ends} none_made t = one_made now ends t none_made
run_extended (one_made now ends u r) t = one_made now ends u (run_extended r t)

-- the calls made so far on a job, from its opening, told these answers, and the job stands where they leave it
pub record SoFar (book : List Rule) (tree : Placed) (fits : List Numbered) (calls : List Call) (answers : List Answer) (job : Job) : Type 0 where
  pub told : ℕ
  pub ended : Bool
  pub run : RunTo book tree fits 0 false calls answers told ended
  pub at : JobAt fits told ended job

-- none are made on an opened job
pub so_far_none : (book : List Rule) (tree : Placed) (fits : List Numbered) → SoFar book tree fits [] [] started
so_far_none book tree fits = record { told = 0; ended = false; run = none_made; at = started_at fits }

-- one more is made
pub so_far_more : {book : List Rule} {tree : Placed} {fits : List Numbered} {calls : List Call} {answers : List Answer} {job job' : Job} {c : Call} {a : Answer} →
    length book ≤ 64 → count (erase tree) ≤ 4096 → Complete book (erase tree) fits → SoFar book tree fits calls answers job → CallTells book tree job c a job' →
    SoFar book tree fits (calls ++ (c ∷ [])) (answers ++ (a ∷ [])) job'
so_far_more rules elements c s t =
    let m = call_tells rules elements c s.at t in
    record { told = m.now; ended = m.ends; run = run_extended s.run m.tells; at = m.at }

-- and when all are made, the run follows the list
pub follows : {book : List Rule} {tree : Placed} {fits : List Numbered} {calls : List Call} {answers : List Answer} {job : Job} →
    Complete book (erase tree) fits → SoFar book tree fits calls answers job → FollowsTheList book tree calls answers
follows {fits} c s = record { fits = fits; complete = c; run = run_made s.run }
