use Rattle.std.proofs.Common.{◌∙◌, refl}
use Rattle.fitting.specs.Calls.{rewind_told}
use Rattle.fitting.proofs.Handing.{handed_first, next_as, show_as, write_as, whole_written}
use Rattle.fitting.proofs.runs.make_call.Goals as goal
use Rattle.fitting.proofs.runs.make_call.Goals.{in-Ok-Some-default, in-Ok-None-default, in-Err, in-Ok, in-Err-show, in-Ok-written, in-Err-written}

pub returns-in-Rewind : goal.returns-in-Rewind
returns-in-Rewind g c = rw (c.in-Rewind.is, c.rewind.ensures) rewind_told

pub returns-after-next : goal.returns-after-next
returns-after-next g c =
    let small = handed_first c.args.marks.now c.args.places.now c.requires.marks c.requires.places c.min.ensures c.min-in-Next.ensures in
    rw (c.in-Next.is)
    (next_as small c.next.ensures (elim c.match-next.branch [
      | in-Ok-Some-default w ↦ rw (w.result-is, w.in-Ok-Some-default.is, w.in-Ok-Some-default.field-0-0-is) refl
      | in-Ok-None-default w ↦ rw (w.result-is, w.in-Ok-None-default.is, w.in-Ok-None-default.field-0-0-is) refl
      | in-Err w ↦ rw (w.result-is, w.in-Err.is) refl
    ]))

pub returns-after-show : goal.returns-after-show
returns-after-show g c =
    let small = handed_first c.args.marks.now c.args.places.now c.requires.marks c.requires.places c.min-in-Show.ensures c.min-in-Show-2.ensures in
    rw (c.in-Show.is)
    (show_as small c.show.ensures (elim c.match-show.branch [
      | in-Ok w ↦ rw (w.result-is, w.in-Ok.is) refl
      | in-Err-show w ↦ rw (w.result-is, w.in-Err-show.is) refl
    ]))

pub returns-after-written : goal.returns-after-written
returns-after-written g c =
    let small = handed_first c.args.marks.now c.args.places.now c.requires.marks c.requires.places c.min-in-Write.ensures c.min-in-Write-2.ensures in
    let octets = c.as_mut_slice.ensures.len ∙ c.in_ok-text-in-Write.ensures.len ∙ c.min-in-Write-3.ensures in
    let whole = c.write-written.auto.output ∙ c.as_mut_slice.ensures.len in
    rw (c.in-Write.is)
    (write_as c.as_mut_slice.result.now c.write-written.new.output small octets c.write-written.ensures (elim c.match-written.branch [
      | in-Ok-written w ↦ rw (w.result-is, w.in-Ok-written.is) (whole_written w.in-Ok-written.length c.write-written.new.output _ w.truncate.ensures.items whole)
      | in-Err-written w ↦ rw (w.result-is, w.in-Err-written.is) refl
    ]))
