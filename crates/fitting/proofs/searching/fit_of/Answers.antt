use Rattle.std.proofs.Common.{◌∙◌, sym, ap}
use Rattle.holder.specs.Placed.{erase}
use Rattle.fitting.specs.Finding.{pattern_at}
use Rattle.fitting.proofs.Finding.{begins_cursor, begins_like, lawful_like, has_fit, has_fit_like, no_fit, no_fit_like}
use Rattle.fitting.proofs.searching.fit_of.Goals as goal

pub stands-requires-clause-cursor : goal.stands-requires-clause-cursor
stands-requires-clause-cursor g c =
    let h = c.new-search.ensures in
    let s = c.new-search.result in
    begins_cursor (g.H.Holder.meaning s.«record».now) s c.args.pattern
    (ap (λ tr. tr.entries) h.trail ∙ c.requires.empty)
    (begins_like (ap (λ r. (g.H.Holder.meaning r.now).tree) (sym h.holder)) h.begins)
    (lawful_like (ap (λ t. t.text.now) (sym h.text)) c.requires.pattern)

pub returns-then-stands-clause-fit : goal.returns-then-stands-clause-fit
returns-then-stands-clause-fit g c =
    let h = c.new-search.ensures in
    let s = c.new-search.result in
    has_fit_like (ap (λ t. pattern_at t.text.now c.args.pattern) h.text) (ap (λ r. (g.H.Holder.meaning r.now).tree) h.holder) h.lengths
    (has_fit (g.H.Holder.meaning s.«record».now) s c.args.pattern
    (ap (λ tr. tr.entries) h.trail ∙ c.requires.empty)
    (begins_like (ap (λ r. (g.H.Holder.meaning r.now).tree) (sym h.holder)) h.begins)
    (lawful_like (ap (λ t. t.text.now) (sym h.text)) c.requires.pattern)
    c.if-stands.ensures)

pub returns-else-stands-clause-fit : goal.returns-else-stands-clause-fit
returns-else-stands-clause-fit g c =
    let h = c.new-search.ensures in
    let s = c.new-search.result in
    no_fit_like (ap (λ t. pattern_at t.text.now c.args.pattern) h.text) (ap (λ r. erase (g.H.Holder.meaning r.now).tree) h.holder) h.lengths
    (no_fit (g.H.Holder.meaning s.«record».now) s c.args.pattern
    (ap (λ tr. tr.entries) h.trail ∙ c.requires.empty)
    (begins_like (ap (λ r. (g.H.Holder.meaning r.now).tree) (sym h.holder)) h.begins)
    (lawful_like (ap (λ t. t.text.now) (sym h.text)) c.requires.pattern)
    c.if-stands.ensures)
