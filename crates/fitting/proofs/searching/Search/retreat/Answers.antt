use Rattle.std.proofs.Common.{rules, ◌≡◌, true, false, sym, subst, ap}
use denote.Enum.Bare.{sameb, same_true}
use Rattle.fitting.specs.contracts.marks.Laid.{the_type}
use Rattle.fitting.specs.declared.marks.Laid.{Laid}
use Rattle.fitting.specs.declared.marks.Laid.TheVariants.{Segment}
use Rattle.fitting.proofs.Backing.{segment_off, sound_on, backed_other, backed_none, backed_some, backed_end, sound_like, retreats_like}
use Rattle.fitting.proofs.searching.Search.retreat.Goals as goal

is_segment : (l : Laid) → true ≡ sameb the_type l Segment → l ≡ Segment
is_segment l e = same_true the_type (search rules) _ _ (sym e)

no_segment : (l : Laid) → false ≡ sameb the_type l Segment → l ≡ Segment → ⊥
no_segment l e is = let h : false ≡ sameb the_type Segment Segment = subst (λ l. false ≡ sameb the_type l Segment) is e in cc

pub overflow_sub-self : goal.overflow_sub-self
overflow_sub-self g c =
    let s = c.loop-mark.self in
    let l = is_segment c.in-Some.mark.laid c.if-eq.ensures in
    (segment_off _ s s.cursor c.in-Some.mark c.in-Some.place c.pop.new.self l (sound_on s.cursor c.in-Some.mark c.in-Some.place c.pop.new.self c.in-Some.ensures c.loop-mark.invariant)).some

pub regrow-requires-clause-sound : goal.regrow-requires-clause-sound
regrow-requires-clause-sound g c =
    let s = c.loop-mark.self in
    let l = is_segment c.in-Some.mark.laid c.if-eq.ensures in
    let k = segment_off _ s _ c.in-Some.mark c.in-Some.place c.pop.new.self l (sound_on s.cursor c.in-Some.mark c.in-Some.place c.pop.new.self c.in-Some.ensures c.loop-mark.invariant) in
    sound_like (ap (λ r. (g.H.Holder.meaning r.now).tree) (sym c.loop-mark.invariant.holder)) k.sound

pub regrow-requires-clause-length : goal.regrow-requires-clause-length
regrow-requires-clause-length g c =
    let s = c.loop-mark.self in
    let l = is_segment c.in-Some.mark.laid c.if-eq.ensures in
    (segment_off _ s s.cursor c.in-Some.mark c.in-Some.place c.pop.new.self l (sound_on s.cursor c.in-Some.mark c.in-Some.place c.pop.new.self c.in-Some.ensures c.loop-mark.invariant)).digit

pub returns-in-Some-behind : goal.returns-in-Some-behind
returns-in-Some-behind g c =
    backed_some _ c.in-Some.mark c.in-Some.place c.pop.new.self c.in-Some.ensures c.loop-mark.invariant
    (retreats_like (ap (λ r. (g.H.Holder.meaning r.now).tree) c.loop-mark.invariant.holder) c.regrow.ensures)

pub loop-mark-preserved-in_default-behind : goal.loop-mark-preserved-in_default-behind
loop-mark-preserved-in_default-behind g c =
    backed_none _ c.in-Some.mark c.in-Some.place c.pop.new.self c.in-Some.ensures c.loop-mark.invariant (is_segment c.in-Some.mark.laid c.if-eq.ensures) c.in_default-behind.is

pub loop-mark-preserved : goal.loop-mark-preserved
loop-mark-preserved g c = backed_other _ c.in-Some.mark c.in-Some.place c.pop.new.self c.in-Some.ensures c.loop-mark.invariant (no_segment c.in-Some.mark.laid c.if-eq.ensures)

pub returns : goal.returns
returns g c = let h = c.in_default.ensures in backed_end _ c.pop.new.self h.0 h.1 c.loop-mark.invariant
