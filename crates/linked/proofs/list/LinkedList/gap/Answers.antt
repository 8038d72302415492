use Rattle.std.proofs.Common.{Some}
use Rattle.linked.proofs.Gaps.{gap_tells, walk_less, walk_on, walk_there, walk_end}
use Rattle.linked.proofs.list.LinkedList.gap.Goals as goal

pub loop-after-smaller : goal.loop-after-smaller
loop-after-smaller c = walk_less c.args.self.now.nodes.now c.loop-after.after c.in-Some.i c.in-Some.is c.loop-after.invariant.0

pub loop-after-preserved : goal.loop-after-preserved
loop-after-preserved c =
    let l = c.args.self.now in
    walk_on l.nodes.now l.used c.args.place l.first c.loop-after.before c.loop-after.after c.in-Some.i c.in-Some.is c.loop-after.invariant (cc)

pub returns-then-not-is_before : goal.returns-then-not-is_before
returns-then-not-is_before c =
    let l = c.args.self.now in
    let stands = walk_there l.nodes.now l.used c.args.place l.first c.loop-after.before c.loop-after.after c.in-Some.i c.in-Some.is c.loop-after.invariant (cc) in
    let t = gap_tells l.nodes.now l.first c.args.place l.used (record { before = c.loop-after.before; after = Some c.in-Some.i }) l.room l.chained.inside stands in
    record { stands = stands; before = t.prior; after = t.later; reaches = t.reaches; answer = t.answer }

pub returns-in_default : goal.returns-in_default
returns-in_default c =
    let l = c.args.self.now in
    let stands = walk_end l.nodes.now l.used c.args.place l.first c.loop-after.before c.loop-after.after c.in_default.is c.loop-after.invariant in
    let t = gap_tells l.nodes.now l.first c.args.place l.used (record { before = c.loop-after.before; after = c.loop-after.after }) l.room l.chained.inside stands in
    record { stands = stands; before = t.prior; after = t.later; reaches = t.reaches; answer = t.answer }
