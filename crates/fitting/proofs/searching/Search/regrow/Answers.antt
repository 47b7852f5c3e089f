use Rattle.std.proofs.Common.{◌≡◌, ◌<◌, ◌∷◌, true, subst, arith}
use Rattle.holder.specs.Placed.{run_at, front as place_of, behind}
use Rattle.texts.specs.Label.{text_tree}
use Rattle.fitting.specs.declared.searching.Search.{Search}
use Rattle.fitting.specs.Moves.{Retreats}
use Rattle.fitting.proofs.Retreating.{segment_laid, segment_short, regrown_retreats, regrown_is}
use Rattle.fitting.proofs.searching.Search.regrow.Goals as goal
use Rattle.fitting.proofs.searching.Search.regrow.Goals.{then-mark-eq0, else-mark-eq0}

pub overflow_add-length : goal.overflow_add-length
overflow_add-length g c =
    let r = c.requires in
    let s = segment_laid _ _ c.args.mark c.args.place _ r.segment r.entry in
    omega (arith, segment_short _ (g.H.Holder.meaning c.args.self.now.«record».now) c.args.mark c.args.place _ s)

pub returns : goal.returns
returns g c =
    let r = c.requires in
    let s = c.args.self.now in
    let is_next : c.args.mark.length ≡ 0 → c.if-mark-eq0.first ≡ c.args.next = elim c.if-mark-eq0.branch [ then-mark-eq0 w ↦ λ e. w.first-is | else-mark-eq0 w ↦ λ e. absurd (w.if-mark-eq0.false e) ] in
    let is_place : 0 < c.args.mark.length → c.if-mark-eq0.first ≡ c.args.place = elim c.if-mark-eq0.branch [ then-mark-eq0 w ↦ λ l. absurd (omega arith) | else-mark-eq0 w ↦ λ l. w.first-is ] in
    subst
    (λ (t : Search g.row.H.Denot). Retreats (g.H.Holder.meaning s.«record».now).tree s ((c.args.mark, c.args.place) ∷ s.trail.entries) t true)
    (regrown_is s c.mark.new.self c.args.mark c.if-mark-eq0.first c.next_after-self.result c.next_after-behind.result c.fill.new.self c.mark.ensures r.sound.four r.few (c.fill.ensures.after (λ y e. e)))
    (regrown_retreats {m = g.H.Holder.meaning s.«record».now} (record {
      sound = r.sound;
      entry = r.entry;
      segment = r.segment;
      left = r.left;
      few = r.few;
      digit = r.length;
      from_next = is_next;
      from_place = is_place;
      is_after = c.next_after-behind.ensures;
      is_pattern = subst (λ (t : Search g.row.H.Denot). c.next_after-self.result ≡ place_of (behind (run_at c.args.mark.pattern (text_tree t.text.text.now)))) c.mark.ensures c.next_after-self.ensures;
    }))
