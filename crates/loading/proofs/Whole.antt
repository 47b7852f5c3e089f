-- The load of a whole text: what its answer is, and what that says. Assumes nothing.
use Rattle.std.proofs.Common.{Bor, ◌≡◌, ℕ, ◌+◌, ◌-◌, ◌<◌, ◌≤◌, true, false, List, [], ◌∷◌, length, take, drop, Some, None, Ok, Err, OnErr, Option, Result, sym, refl, ap, ◌∙◌, subst, ap₂, arith, length-drop}
use Rattle.std.proofs.lemmas.List.{drop_all}
use Rattle.std.proofs.lemmas.Bool.Decides.{nat_tests}
use Rattle.sexp.specs.declared.refusals.Refusal.{Refusal}
use Rattle.sexp.specs.declared.refusals.Refusal.TheVariants.{TextLength, Malformed}
use Rattle.sexp.specs.declared.tokens.Cursor.{Cursor}
use Rattle.sexp.specs.Checks.{reading_from}
use Rattle.sexp.specs.Elements.{Elements, none, Record, count}
use Rattle.sexp.specs.Reading.{complete, missized, fault, lexeme, refused, read, onward, Reading, reading, Verdict, verdict, accepted, rejected, concluded}
use Rattle.sexp.proofs.Branches.{at_complete}
use Rattle.sexp.proofs.Canonical.{short_held, sexp_text}
use Rattle.sexp.proofs.Lexing.{over_true}
use Rattle.sexp.proofs.Runs.{then-none}
use Rattle.sexp.proofs.Steps.{step_fault, step_whole}
use Rattle.sexp.proofs.Whole.{some_elements}
use Rattle.tables.specs.declared.nodes.Node.{Node}
use Rattle.tables.specs.Nodes.{Lays, Table}
use Rattle.loading.specs.declared.loading.Loader.{Loader}
use Rattle.loading.specs.Fills.{placed, loading_at, loading_from, Fills, Fails}
use Rattle.loading.specs.Lacking.{lacking, placing, load_verdict}
use Rattle.loading.specs.Laid.{nodes_from}
use Rattle.loading.specs.Loads.{told, marked, Tabled, LoadedExactly, UnloadedAsListed}
use Rattle.loading.proofs.Lacks.{lack_fault}
use Rattle.loading.proofs.Laid.{nodes_lay}
use Rattle.loading.proofs.Listed.{unloaded_listed, listed_unloaded, loaded_canonical, canonical_loaded}

placing_concluded : (l : Option ℕ) (r : Reading) → placing l (concluded r) ≡ concluded (placed l r)
placing_concluded (Some at) r = refl
placing_concluded None r = refl

-- where the load of a text begins
abbrev pub start : Bor (List ℕ) → Cursor
start text = record { text = text; at = 0; depth = 0; count = 0 }

pub unsized : (room : ℕ) (t : List ℕ) → missized t ≡ true → load_verdict room t ≡ rejected TextLength
unsized room t e = rw (e, load_verdict) refl

module _ (text : Bor (List ℕ)) (sized : missized text.now ≡ false) (from : Loader) (root : from.cursor ≡ start text) where
  abbrev room : ℕ
  room = length from.nodes.now - from.mark.now.used

  is_loaded : load_verdict room text.now ≡ concluded (loading_from from)
  is_loaded =
      let own : verdict text.now ≡ concluded (reading_from (start text)) = rw (sized, verdict) refl in
      let first : Option ℕ = lacking (length text.now) room 0 0 0 0 text.now in
      let is : load_verdict room text.now ≡ placing first (verdict text.now) = rw (sized, load_verdict) refl in
      is ∙ ap (placing first) own ∙ placing_concluded first (reading_from (start text)) ∙ ap (λ c. concluded (loading_at room c)) (sym root)

  stopped : (k : Refusal) → loading_from from ≡ refused k → load_verdict room text.now ≡ rejected k
  stopped k e = is_loaded ∙ ap concluded e

  pub faulty : (to : Loader) (k : Refusal) → Fails from to k → load_verdict room text.now ≡ rejected k
  faulty to k f = stopped k f.refuses

  module _ (to : Loader) (e : Elements) (record_root : Record e) (passed : Fills from to e) where
    same : to.cursor.text ≡ text
    same = passed.same ∙ ap (λ (c : Cursor). c.text) root

    over : complete to.cursor.depth to.cursor.count ≡ true
    over = let some = some_elements e record_root in let l = passed.level in let c = passed.counted in let d = ap (λ (c : Cursor). c.depth) root in grind (arith, nat_tests)

    pub whole : length text.now ≤ to.cursor.at → load_verdict room text.now ≡ accepted e
    whole past =
        let end : drop to.cursor.at to.cursor.text.now ≡ [] = drop_all to.cursor.at to.cursor.text.now (omega (arith, past, ap (λ x. length x.now) same)) in
        let ends : loading_from to ≡ read (none ∷ []) =
        ap (λ t. placed (lacking (length to.cursor.text.now) (length to.nodes.now - to.mark.now.used) 0 to.cursor.depth to.cursor.count to.cursor.at t) (reading (length to.cursor.text.now) 0 to.cursor.depth to.cursor.count to.cursor.at t)) end
        ∙ step_whole (length to.cursor.text.now) to.cursor.depth to.cursor.count to.cursor.at (over_true to.cursor.depth to.cursor.count over) in
        is_loaded ∙ ap concluded (passed.goes_on ∙ ap (onward e) ends) ∙ ap accepted (then-none e)

    pub trailing : to.cursor.at < length text.now → load_verdict room text.now ≡ rejected (Malformed to.cursor.at)
    trailing more =
        let within : to.cursor.at < length to.cursor.text.now = omega (arith, more, ap (λ x. length x.now) same) in
        let token : lexeme (length to.cursor.text.now) to.cursor.depth to.cursor.count to.cursor.at (drop to.cursor.at to.cursor.text.now) ≡ fault (Malformed to.cursor.at) = at_complete to.cursor _ within refl over in
        let stops : loading_from to ≡ refused (Malformed to.cursor.at) =
        ap₂ placed
        (lack_fault (length to.cursor.text.now) (length to.nodes.now - to.mark.now.used) to.cursor.depth to.cursor.count to.cursor.at (drop to.cursor.at to.cursor.text.now) (Malformed to.cursor.at) token)
        (step_fault (length to.cursor.text.now) to.cursor.depth to.cursor.count to.cursor.at (drop to.cursor.at to.cursor.text.now) (Malformed to.cursor.at) (simp length-drop (omega arith)) token) in
        stopped (Malformed to.cursor.at) (passed.goes_on ∙ ap (onward e) stops)

    -- the nodes are those of the record's text
    pub laid : take (count e) (drop from.mark.now.used to.nodes.now) ≡ nodes_from 0 e
    laid = passed.laid ∙ ap (λ (c : Cursor). nodes_from c.at e) root

-- what is promised of a load
module _ (room : ℕ) (t : List ℕ) (old : ℕ) (before : List Node) where
  abbrev pub Promised : (used : ℕ) (after : List Node) → Result ℕ Refusal → Type 0
  Promised used after r =
      record {
        answer : r ≡ told old (load_verdict room t);
        mark : used ≡ marked old (load_verdict room t);
        back : OnErr r (used ≡ old);
        kept : take old after ≡ take old before;
        table : Tabled t old after (load_verdict room t);
        loaded : LoadedExactly room t old used after r;
        refused : UnloadedAsListed room t r;
      }

  unloaded : (r : Result ℕ Refusal) → r ≡ told old (load_verdict room t) → UnloadedAsListed room t r
  unloaded r v k = ((λ e. unloaded_listed room t k (go (load_verdict room t) (sym v ∙ e))), (λ listed. v ∙ ap (told old) (listed_unloaded room t k listed)))
    where
      go : (w : Verdict) → told old w ≡ Err k → w ≡ rejected k
      go (accepted e) a = cc
      go (rejected j) a = let same : j ≡ k = cc in ap rejected same

  -- where it is refused; the nodes afterwards are those that the load left
  refused_so : (k : Refusal) → load_verdict room t ≡ rejected k → (used : ℕ) (after : List Node) → used ≡ old → take old after ≡ take old before → Promised used after (Err k)
  refused_so k v used after m kept =
      let answer : Err k ≡ told old (load_verdict room t) = sym (ap (told old) v) in
      record {
        answer = answer;
        mark = m ∙ sym (ap (marked old) v);
        back = m;
        kept = kept;
        table = subst (Tabled t old after) (sym v) tt;
        loaded = ((λ first e. let z : ◌≡◌ {A = Result ℕ Refusal} (Err k) (Ok first) = e in cc), (λ e derived within sized few. let z : rejected k ≡ accepted e = sym v ∙ canonical_loaded room t e derived within sized few in cc));
        refused = unloaded (Err k) answer;
      }

  pub refused_promised : (k : Refusal) → load_verdict room t ≡ rejected k → (r : Result ℕ Refusal) → r ≡ Err k → (used : ℕ) (after nodes : List Node) → used ≡ old → after ≡ nodes → take old nodes ≡ take old before → Promised used after r
  refused_promised k v r is used after nodes m same kept = subst (Promised used after) (sym is) (refused_so k v used after m (ap (take old) same ∙ kept))

  -- where it is loaded
  loaded_so : (e : Elements) → load_verdict room t ≡ accepted e → (used : ℕ) (after : List Node) → used ≡ old + count e → take old after ≡ take old before → take (count e) (drop old after) ≡ nodes_from 0 e → Promised used after (Ok old)
  loaded_so e v used after m kept nodes =
      let answer : Ok old ≡ told old (load_verdict room t) = sym (ap (told old) v) in
      let k = loaded_canonical room t e v in
      let lays : Lays t (nodes_from 0 e) e = nodes_lay t 0 e [] (sexp_text k.1 (short_held e k.2.short)) in
      let table : Table t (take (count e) (drop old after)) e = record { lays = subst (λ ns. Lays t ns e) (sym nodes) lays; root = k.0; within = k.2 } in
      record {
        answer = answer;
        mark = m ∙ sym (ap (marked old) v);
        back = tt;
        kept = kept;
        table = subst (Tabled t old after) (sym v) (nodes, table);
        loaded = (
          (λ first q.
              let same : first ≡ old = cc in
              (same, record { root = e; derived = k.1; within = k.2; sized = k.3; fits = k.4; mark = m; nodes = nodes; table = table })),
          (λ f derived within sized few. refl),
        );
        refused = unloaded (Ok old) answer;
      }

  pub loaded_promised : (e : Elements) → load_verdict room t ≡ accepted e → (used : ℕ) (after nodes : List Node) → used ≡ old + count e → after ≡ nodes → take old nodes ≡ take old before → take (count e) (drop old nodes) ≡ nodes_from 0 e → Promised used after (Ok old)
  loaded_promised e v used after nodes m same kept laid = subst (λ (ns : List Node). Promised used ns (Ok old)) (sym same) (loaded_so e v used nodes m kept laid)
