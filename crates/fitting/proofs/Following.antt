-- Where next moves a job. Assumes nothing.
use Rattle.std.proofs.Common.{◌≡◌, ℕ, ◌+◌, ◌^◌, ◌<◌, ◌≤◌, Bool, true, false, cond, nat_lt, List, Option, Some, None, Ok, refl, subst, arith}
use Rattle.std.proofs.lemmas.Bool.{lt-ltb, ltb-true}
use Rattle.sexp.specs.Elements.{Elements}
use Rattle.rules.specs.Patterns.{Rule}
use Rattle.search.specs.Books.{first, past, LeastPast}
use Rattle.fitting.specs.declared.jobs.Job.{Job}
use Rattle.fitting.specs.declared.jobs.Position.{Position}
use Rattle.fitting.specs.declared.jobs.Position.TheVariants.{Start, At, End}
use Rattle.fitting.specs.declared.keys.Key.{Key}
use Rattle.fitting.specs.Keys.{key_of, key_told}
use Rattle.fitting.specs.Jobs.{Small, Following, counted, moved, Nexts, moves}

module _ (book : List Rule) (e : Elements) {position : Position} (next : Option Key) where
  -- what a search behind a position finds follows it
  pub follows-start : position ≡ Start → LeastPast book e first (key_told next) → Following book e position next
  follows-start is h = rw is h

  pub follows-at : (k : Key) → position ≡ At k → LeastPast book e (past (key_of k)) (key_told next) → Following book e position next
  follows-at k is h = rw is h

  pub follows-end : position ≡ End → next ≡ None → Following book e position next
  follows-end is h = rw is h

-- one more is counted below 2^63, and none from there on
pub counted_more : (n : ℕ) → n < 2 ^ 63 → counted n ≡ n + 1
counted_more n l = rw (lt-ltb n (2 ^ 63) l) refl

pub counted_same : (n : ℕ) → 2 ^ 63 ≤ n → counted n ≡ n
counted_same n l = go (nat_lt n (2 ^ 63)) refl
  where
    go : (t : Bool) → nat_lt n (2 ^ 63) ≡ t → cond t (n + 1) n ≡ n
    go true e = absurd (omega (arith, ltb-true n (2 ^ 63) e, l))
    go false e = refl

-- a job that stands at the key that follows, and has counted it, has moved
pub moves-next : {book : List Rule} {e : Elements} {marks places : ℕ} {job to : Job} {next : Option Key} (k : Key) → (Small marks places → ⊥) → Following book e job.position next → next ≡ Some k → moved job (Some k) ≡ to →
    Nexts book e marks places job (Ok (Some k.rule, to.count)) to
moves-next {book} {e} {marks} {places} {job} k large follows is at = subst (λ (x : Job). Nexts book e marks places job (Ok (Some k.rule, x.count)) x) at (moves large (Some k) (subst (Following book e job.position) is follows))

-- and at the end where none follows
pub moves-end : {book : List Rule} {e : Elements} {marks places : ℕ} {job : Job} {next : Option Key} → (Small marks places → ⊥) → Following book e job.position next → next ≡ None →
    Nexts book e marks places job (Ok (None, job.count)) (moved job None)
moves-end {book} {e} {job = job} large follows is = moves large None (subst (Following book e job.position) is follows)
