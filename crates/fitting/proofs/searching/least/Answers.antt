use Rattle.std.proofs.Common.{◌∙◌, if◌then◌else◌, Some, None, sym, ap, ap₂}
use Rattle.holder.specs.Placed.{erase}
use Rattle.fitting.specs.declared.searching.Search.{Search}
use Rattle.fitting.specs.Moves.{position_of}
use Rattle.fitting.specs.Finding.{pattern_at}
use Rattle.fitting.proofs.Numbers.{zeros}
use Rattle.fitting.proofs.Backing.{retreats_like}
use Rattle.fitting.proofs.Seeking.{seeks_like}
use Rattle.fitting.proofs.Finding.{begins_cursor, begins_like, lawful_like, least_like, least_first, least_next, least_last}
use Rattle.fitting.proofs.searching.least.Goals as goal
use Rattle.fitting.proofs.searching.least.Goals.{then-retreat, else-retreat}

pub walk-requires-clause-cursor : goal.walk-requires-clause-cursor
walk-requires-clause-cursor g c =
    let h = c.new-search-in-Some.ensures in
    let s = c.new-search-in-Some.result in
    begins_cursor (g.H.Holder.meaning s.«record».now) s c.args.pattern
    (ap (λ tr. tr.entries) h.trail ∙ c.requires.empty)
    (begins_like (ap (λ r. (g.H.Holder.meaning r.now).tree) (sym h.holder)) h.begins)
    (lawful_like (ap (λ t. t.text.now) (sym h.text)) c.requires.pattern)

pub seek-is_found-requires-clause-cursor : goal.seek-is_found-requires-clause-cursor
seek-is_found-requires-clause-cursor g c =
    let h = c.new-search.ensures in
    let s = c.new-search.result in
    begins_cursor (g.H.Holder.meaning s.«record».now) s c.args.pattern
    (ap (λ tr. tr.entries) h.trail ∙ c.requires.empty)
    (begins_like (ap (λ r. (g.H.Holder.meaning r.now).tree) (sym h.holder)) h.begins)
    (lawful_like (ap (λ t. t.text.now) (sym h.text)) c.requires.pattern)

pub returns-in-None : goal.returns-in-None
returns-in-None g c =
    let h = c.new-search.ensures in
    let s = c.new-search.result in
    least_like (ap (λ t. pattern_at t.text.now c.args.pattern) h.text) (ap (λ r. erase (g.H.Holder.meaning r.now).tree) h.holder) (ap position_of (sym c.in-None.is)) (sym c.found.ensures)
    (least_first (g.H.Holder.meaning s.«record».now) s c.args.pattern
    (ap (λ tr. tr.entries) h.trail ∙ c.requires.empty)
    (begins_like (ap (λ r. (g.H.Holder.meaning r.now).tree) (sym h.holder)) h.begins)
    (lawful_like (ap (λ t. t.text.now) (sym h.text)) c.requires.pattern)
    (λ i. rw h.lengths (zeros 4 i))
    c.seek-is_found.ensures)

pub returns-after-retreat : goal.returns-after-retreat
returns-after-retreat g c =
    let h = c.new-search-in-Some.ensures in
    let s = c.new-search-in-Some.result in
    let empty = ap (λ tr. tr.entries) h.trail ∙ c.requires.empty in
    let begins = begins_like (ap (λ r. (g.H.Holder.meaning r.now).tree) (sym h.holder)) h.begins in
    let lawful = lawful_like (ap (λ t. t.text.now) (sym h.text)) c.requires.pattern in
    elim c.if-retreat.branch [
      | then-retreat w ↦
          let r = retreats_like (ap (λ r. (g.H.Holder.meaning r.now).tree) c.walk.ensures.holder) w.if-retreat.ensures in
          least_like (ap (λ t. pattern_at t.text.now c.args.pattern) h.text) (ap (λ r. erase (g.H.Holder.meaning r.now).tree) h.holder) (ap position_of (ap Some h.lengths ∙ sym c.in-Some.is))
          (ap₂ (λ b (t : Search g.row.H.Denot). if b then Some t.lengths else None) (sym w.is_found-is) (sym w.search-is) ∙ sym c.found-in-Some.ensures)
          (least_next (g.H.Holder.meaning s.«record».now) s c.args.pattern empty begins lawful c.walk.ensures r
          (seeks_like (ap (λ r. (g.H.Holder.meaning r.now).tree) (r.holder ∙ c.walk.ensures.holder)) w.seek-is_found-then-retreat.ensures))
      | else-retreat w ↦
          let r = retreats_like (ap (λ r. (g.H.Holder.meaning r.now).tree) c.walk.ensures.holder) w.if-retreat.ensures in
          least_like (ap (λ t. pattern_at t.text.now c.args.pattern) h.text) (ap (λ r. erase (g.H.Holder.meaning r.now).tree) h.holder) (ap position_of (ap Some h.lengths ∙ sym c.in-Some.is))
          (sym (c.found-in-Some.ensures ∙ ap (λ b. if b then Some c.if-retreat.search.lengths else None) (w.is_found-is ∙ w.if-retreat.false)))
          (least_last (g.H.Holder.meaning s.«record».now) s c.args.pattern empty begins lawful c.walk.ensures r)
    ]
