use Rattle.std.proofs.Common.{Some, None, sym, ◌∙◌}
use Rattle.holder.proofs.Walk.{list_stands}
use Rattle.fitting.specs.Entries.{Entry}
use Rattle.fitting.proofs.Closing.{got_at, none_left, closes_full, closes_some, closes_at, closes_done, closes_on}
use Rattle.fitting.proofs.searching.Search.close.Goals as goal

pub returns-then-is_some : goal.returns-then-is_some
returns-then-is_some g c =
    let from = c.args.self.now in
    closes_full (g.H.Holder.meaning from.record.now) from c.requires.sound c.requires.cursor c.requires.ended (sym c.is_some.ensures ∙ c.if-is_some.true)

pub unreachable-requires : goal.unreachable-requires
unreachable-requires g c =
    let from = c.args.self.now in
    closes_some (g.H.Holder.meaning from.record.now) from c.requires.sound c.requires.cursor c.requires.ended (got_at from.trail.entries from.cursor.around c.from.result c.get.result None c.from.ensures c.get.ensures c.in_default.is)

pub next_after-requires : goal.next_after-requires
next_after-requires g c =
    let from = c.args.self.now in
    let e : Entry = (c.in-Some.list, c.in-Some.place) in
    let got = got_at from.trail.entries from.cursor.around c.from.result c.get.result (Some e) c.from.ensures c.get.ensures c.in-Some.is in
    list_stands _ (closes_at (g.H.Holder.meaning from.record.now) from c.requires.sound c.requires.cursor c.requires.ended e got).pattern

pub next_after-requires-2 : goal.next_after-requires-2
next_after-requires-2 g c =
    let from = c.args.self.now in
    let e : Entry = (c.in-Some.list, c.in-Some.place) in
    let got = got_at from.trail.entries from.cursor.around c.from.result c.get.result (Some e) c.from.ensures c.get.ensures c.in-Some.is in
    list_stands _ (closes_at (g.H.Holder.meaning from.record.now) from c.requires.sound c.requires.cursor c.requires.ended e got).place

pub returns-then-list-eq0 : goal.returns-then-list-eq0
returns-then-list-eq0 g c =
    let from = c.args.self.now in
    let m = g.H.Holder.meaning from.record.now in
    let e : Entry = (c.in-Some.list, c.in-Some.place) in
    let got = got_at from.trail.entries from.cursor.around c.from.result c.get.result (Some e) c.from.ensures c.get.ensures c.in-Some.is in
    let a = closes_at m from c.requires.sound c.requires.cursor c.requires.ended e got in
    let nothing = none_left from.cursor.element (sym c.is_some.ensures ∙ c.if-is_some.false) in
    rw (c.next_after.ensures, c.next_after-2.ensures) (closes_done m from c.requires.sound c.requires.cursor c.requires.ended nothing e a c.if-list-eq0.true)

pub returns-else-list-eq0 : goal.returns-else-list-eq0
returns-else-list-eq0 g c =
    let from = c.args.self.now in
    let m = g.H.Holder.meaning from.record.now in
    let e : Entry = (c.in-Some.list, c.in-Some.place) in
    let got = got_at from.trail.entries from.cursor.around c.from.result c.get.result (Some e) c.from.ensures c.get.ensures c.in-Some.is in
    let a = closes_at m from c.requires.sound c.requires.cursor c.requires.ended e got in
    let nothing = none_left from.cursor.element (sym c.is_some.ensures ∙ c.if-is_some.false) in
    rw (c.next_after.ensures, c.next_after-2.ensures) (closes_on m from c.requires.sound c.requires.cursor c.requires.ended nothing e a c.if-list-eq0.false)
