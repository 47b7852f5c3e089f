-- What a call of a run tells and leaves. Assumes nothing.
use Rattle.std.specs.Prelude.{◌≡◌, ℕ, ◌<◌, ◌↔◌, min, List, length, take, Option, Some, None, Ok, Err, Result}
use Rattle.std.specs.Borrow.{Bor}
use Rattle.sexp.specs.declared.refusals.Refusal.{Refusal}
use Rattle.holder.specs.Placed.{Placed, erase}
use Rattle.rules.specs.Patterns.{Rule}
use Rattle.fitting.specs.declared.jobs.Job.{Job}
use Rattle.fitting.specs.declared.jobs.Position.TheVariants.{Start}
use Rattle.fitting.specs.declared.runs.Memory.{Memory}
use Rattle.fitting.specs.declared.runs.Call.{Call}
use Rattle.fitting.specs.declared.runs.Call.TheVariants.{Next, Show, Write, Rewind}
use Rattle.fitting.specs.declared.runs.Answer.{Answer}
use Rattle.fitting.specs.declared.runs.Answer.TheVariants.{Fit, End, Shown, Rewound, Refused}
use Rattle.fitting.specs.Jobs.{Nexts, ShowTells, WriteTells}
use Rattle.fitting.specs.Law.{IsText}

-- a job at the start: opened, or rewound
abbrev pub started : Job
started = record { position = Start; count = 0 }

-- the marks and places handed over are as small as the memory of a call
abbrev pub AsSmall : (marks places : ℕ) → Memory → Type 0
AsSmall marks places m = ((marks < 256) ↔ (m.marks < 256)) × ((places < 256) ↔ (m.places < 256))

-- the answer to next
abbrev pub fit_or_end : Option ℕ → ℕ → Answer
fit_or_end (Some rule) n = Fit rule n
fit_or_end None n = End n

abbrev pub next_answer : Result (Option ℕ × ℕ) Refusal → Answer
next_answer (Ok t) = fit_or_end t.0 t.1
next_answer (Err k) = Refused k

-- the answer to show
abbrev pub show_answer : Result (Option ℕ × ℕ) Refusal → Answer
show_answer (Ok t) = Shown t.0 t.1
show_answer (Err k) = Refused k

-- an answer to write: refused, or so many octets of the new output, written
abbrev pub IsWritten : Result ℕ Refusal → List ℕ → Answer → Type 0
IsWritten (Ok n) new a = IsText (take n new) a
IsWritten (Err k) new a = a ≡ Refused k

-- what each call tells and leaves: an opened or rewound job is at the start, and only next and rewind move it
pub data CallTells (book : List Rule) (tree : Placed) (job : Job) : Call → Answer → Job → Type 0 where
  next_told : {m : Memory} {marks places : ℕ} {r : Result (Option ℕ × ℕ) Refusal} {job' : Job} →
      AsSmall marks places m → Nexts book (erase tree) marks places job r job' → CallTells book tree job (Next m) (next_answer r) job'
  show_told : {m : Memory} {name : Bor (List ℕ)} {marks places : ℕ} {r : Result (Option ℕ × ℕ) Refusal} →
      AsSmall marks places m → ShowTells book tree marks places job.position name.now r → CallTells book tree job (Show name m) (show_answer r) job
  write_told : {m : Memory} {octets marks places : ℕ} {out new : List ℕ} {r : Result ℕ Refusal} {a : Answer} →
      AsSmall marks places m → length out ≡ min octets 32768 → WriteTells book (erase tree) marks places job.position out r new → IsWritten r new a → CallTells book tree job (Write octets m) a job
  rewind_told : CallTells book tree job Rewind Rewound started
