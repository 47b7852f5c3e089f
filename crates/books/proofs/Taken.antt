-- The rules that a draft and a book keep by their places.
use Rattle.std.proofs.Common.{◌≡◌, ℕ, ◌+◌, ◌<◌, ◌≤◌, true, List, [], ◌∷◌, ◌++◌, length, take, Option, Some, None, Ok, Err, Result, sym, refl, ap, ◌∙◌, subst, arith}
use Rattle.std.specs.Prelude.{map}
use Rattle.std.proofs.Math.ListN.{set}
use Rattle.std.proofs.lemmas.List.{length-map, length-take, take_more_set, length-set, map-append}
use Rattle.std.proofs.lemmas.Bool.{lt-leb, le-leb}
use Rattle.sexp.specs.declared.refusals.Refusal.{Refusal}
use Rattle.sexp.specs.declared.refusals.Refusal.TheVariants.{BookFull, NoRule}
use Rattle.sexp.specs.Reading.{verdict}
use Rattle.holder.specs.Placed.{Placed, nothing, atom_at, list_at, front, behind, Stands}
use Rattle.texts.specs.Label.{accepts}
use Rattle.texts.specs.Walked.{run_from}
use Rattle.rules.specs.Patterns.{Rule}
use Rattle.books.specs.Drafts.{Drafted, rule_verdict, take_verdict, numbered, taking, skipped, TakeRefusedAsListed}
use Rattle.rules.specs.Lawful.{LawfulRules, LawfulBook}
use Rattle.books.specs.Meant.{rule_at, run_from_next, NextStands, AllTaken, Keeps}
use Rattle.books.proofs.Runs.{stands_next, passed_run}
use Rattle.books.proofs.Faults.{take_listed}
use Rattle.books.proofs.Lawful.{verdict_lawful}

module _ (t : List ℕ) where
  rules_lawful : (ps : List ℕ) → AllTaken t ps → LawfulRules (map (rule_at t) ps)
  rules_lawful [] all = tt
  rules_lawful (p ∷ ps) all = (verdict_lawful (run_from t p) (rule_at t p) all.0, rules_lawful ps all.1)

  all_more : (ps : List ℕ) (p : ℕ) → AllTaken t ps → rule_verdict (run_from t p) ≡ Ok (rule_at t p) → AllTaken t (ps ++ (p ∷ []))
  all_more [] p all e = (e, tt)
  all_more (q ∷ ps) p all e = (all.0, all_more ps p all.1 e)

module _ {t ps : List ℕ} {n : ℕ} (kept : Keeps t ps n) where
  -- a book of them is lawful
  pub book_lawful : LawfulBook (map (rule_at t) (take n ps))
  book_lawful =
      record { few = omega (arith, length-map (take n ps) (rule_at t), length-take n ps, kept.few); each = rules_lawful t (take n ps) kept.each }

  -- as many rules as places
  number : length (map (rule_at t) (take n ps)) ≡ n
  number = omega (arith, length-map (take n ps) (rule_at t), length-take n ps, kept.few, kept.room)

  -- one more is taken, the one at p
  module _ (p : ℕ) (few : n < 64) (e : rule_verdict (run_from t p) ≡ Ok (rule_at t p)) where
    more_places : take (n + 1) (set ps n p) ≡ take n ps ++ (p ∷ [])
    more_places = take_more_set ps n p (omega (arith, kept.room, few))

    pub keeps_more : Keeps t (set ps n p) (n + 1)
    keeps_more =
        record {
          few = omega arith;
          room = length-set ps n p ∙ kept.room;
          each = subst (AllTaken t) (sym more_places) (all_more t (take n ps) p kept.each e);
        }

    rules_more : map (rule_at t) (take (n + 1) (set ps n p)) ≡ map (rule_at t) (take n ps) ++ (rule_at t p ∷ [])
    rules_more = ap (map (rule_at t)) more_places ∙ map-append (rule_at t) (take n ps) (p ∷ [])

-- the verdict on the next rule of a draft: none is left
left_none : (d : Drafted) → d.left ≡ nothing → take_verdict d ≡ Err NoRule
left_none d e = rw (e, take_verdict) refl

-- 64 are taken
left_full : (d : Drafted) (r : Placed) → d.left ≡ r → Stands r → 64 ≤ length d.taken → take_verdict d ≡ Err BookFull
left_full d nothing e s full = absurd s
left_full d (atom_at p a es) e s full = rw (e, take_verdict, le-leb 64 (length d.taken) full) refl
left_full d (list_at p inner es) e s full = rw (e, take_verdict, le-leb 64 (length d.taken) full) refl

-- its own
left_one : (d : Drafted) (r : Placed) → d.left ≡ r → Stands r → length d.taken < 64 → take_verdict d ≡ rule_verdict r
left_one d nothing e s few = absurd s
left_one d (atom_at p a es) e s few = rw (e, take_verdict, lt-leb 64 (length d.taken) few) refl
left_one d (list_at p inner es) e s few = rw (e, take_verdict, lt-leb 64 (length d.taken) few) refl

-- an answer is refused as listed
listed : (d : Drafted) (v : Result Rule Refusal) → take_verdict d ≡ v → TakeRefusedAsListed d (numbered d v)
listed d v e = subst (λ w. TakeRefusedAsListed d (numbered d w)) e (take_listed d)

-- what a draft means that keeps these
abbrev drafted : (t ps : List ℕ) → ℕ → Option ℕ → Drafted
drafted t ps n next = record { taken = map (rule_at t) (take n ps); left = run_from_next t next }

module _ {t ps : List ℕ} {n : ℕ} (kept : Keeps t ps n) {next : Option ℕ} where
  -- nothing is next
  pub none_refused : next ≡ None → TakeRefusedAsListed (drafted t ps n next) (Err NoRule)
  none_refused e = listed (drafted t ps n next) (Err NoRule) (left_none (drafted t ps n next) (ap (run_from_next t) e))

  -- p is next
  module _ {p : ℕ} (is : next ≡ Some p) (held : NextStands t next) where
    left : run_from_next t next ≡ run_from t p
    left = ap (run_from_next t) is

    stands : Stands (run_from t p)
    stands = stands_next t next p is held

    -- it is passed by
    pub passed_one : (ok : accepts (verdict t) ≡ true) (later : Option ℕ) → later ≡ front (behind (run_from t p))
        → drafted t ps n later ≡ skipped (drafted t ps n next)
    passed_one ok later f =
        let rest = passed_run t ok next p is held later f in
        λ i. record { taken = map (rule_at t) (take n ps); left = rest i }

    pub full_refused : 64 ≤ n → TakeRefusedAsListed (drafted t ps n next) (Err BookFull)
    full_refused full =
        listed (drafted t ps n next) (Err BookFull) (left_full (drafted t ps n next) (run_from t p) left stands (omega (arith, number kept)))

    module _ (few : n < 64) where
      verdict_one : take_verdict (drafted t ps n next) ≡ rule_verdict (run_from t p)
      verdict_one = left_one (drafted t ps n next) (run_from t p) left stands (omega (arith, number kept))

      pub fault_refused : (k : Refusal) → rule_verdict (run_from t p) ≡ Err k → TakeRefusedAsListed (drafted t ps n next) (Err k)
      fault_refused k e = listed (drafted t ps n next) (Err k) (verdict_one ∙ e)

      module _ (e : rule_verdict (run_from t p) ≡ Ok (rule_at t p)) where
        pub not_refused : TakeRefusedAsListed (drafted t ps n next) (Ok (n + 1))
        not_refused =
            subst (λ (m : ℕ). TakeRefusedAsListed (drafted t ps n next) (Ok (m + 1))) (number kept)
            (listed (drafted t ps n next) (Ok (rule_at t p)) (verdict_one ∙ e))

        pub taken_one : (ok : accepts (verdict t) ≡ true) (later : Option ℕ) → later ≡ front (behind (run_from t p))
            → drafted t (set ps n p) (n + 1) later ≡ taking (drafted t ps n next) (take_verdict (drafted t ps n next))
        taken_one ok later f =
            let rules = rules_more kept p few e in
            let rest = passed_run t ok next p is held later f in
            rw (verdict_one ∙ e) (λ i. record { taken = rules i; left = rest i })
