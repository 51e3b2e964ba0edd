use Rattle.std.proofs.Common.{IfOk, arith, false, get_or, length, subst, sym, ◌<◌, ◌∙◌, ◌≡◌, ℕ, ap}
use Rattle.std.proofs.lemmas.Result.{IfOk-weaker}
use Rattle.tl_tree.proofs.Over.{stands-open}
use Rattle.tl_tree.proofs.Popped.{first-there}
use Rattle.tl_tree.proofs.There.{adopted-closed, frame-closed, path-closed, there-within}
use Rattle.tl_tree.specs.Inner.Active.{active_of, listed_of}
use Rattle.tl_tree.specs.Inner.Adopted.{IsAdopted, clones_in, frame_at}
use Rattle.tl_tree.specs.Inner.Frames.{path_of}
use Rattle.tl_tree.specs.Inner.Store.{Grows}
use Rattle.tl_tree.specs.Inner.Tallied.{IsTallied}
use Rattle.tl_tree.specs.declared.store.Store.{Store}
use Rattle.tl_tree.proofs.adoption.adopt_whole.Goals as goal

pub adopt_far-requires-clause-some : goal.adopt_far-requires-clause-some
adopt_far-requires-clause-some c =
    let p = c.args.path.now in
    let within = c.requires.block in
    subst (λ (n : ℕ). 0 < n) (sym c.in_ok-block.ensures.place)
    (first-there p.gaps.marks.items p.frames.items c.args.block p.gaps.first c.requires.some (omega arith))

pub adopt_far-requires-clause-block : goal.adopt_far-requires-clause-block
adopt_far-requires-clause-block c =
    let p = c.args.path.now in
    let stands = stands-open p c.args.block c.requires.open c.requires.block in
    let less = there-within p.gaps.marks.items p.frames.items c.args.block c.requires.block stands in
    omega (arith, less, c.in_ok-block.ensures.place, ap length c.in_ok-block.ensures.frames)

pub adopt_far-requires-clause-tallied : goal.adopt_far-requires-clause-tallied
adopt_far-requires-clause-tallied c =
    subst (λ (s : Store). IsTallied s c.args.active.now) (sym c.close_gaps.ensures.store) c.requires.tallied

pub returns-clause-ok : goal.returns-clause-ok
returns-clause-ok c =
    let p = c.args.path.now in
    let m = c.close_gaps.new.self in
    let q = c.adopt_far.new.path in
    let list = c.adopt_far.new.active in
    let own = listed_of p.store c.args.own in
    let entries = active_of p.store c.args.active.now in
    let b = c.args.is_fostering in
    let k = c.in_ok-block.block in
    let stands = stands-open p c.args.block c.requires.open c.requires.block in
    let path = path-closed p m c.in_ok-block.ensures.whole c.close_gaps.ensures.store c.in_ok-block.ensures.frames in
    let frame = frame-closed p m c.args.block k c.requires.block stands c.close_gaps.ensures.store c.in_ok-block.ensures.frames c.in_ok-block.ensures.place in
    IfOk-weaker c.adopt_far.result _ _
    (λ made done. adopted-closed b own p m q list entries c.args.block k made path c.close_gaps.ensures.next frame done)
    (subst (λ (s : Store). IfOk c.adopt_far.result (λ made. IsAdopted b (listed_of s c.args.own) (frame_at m k) (clones_in (listed_of s c.args.own) (frame_at m k) (path_of m) (active_of s c.args.active.now) m.next) m q list made)) c.close_gaps.ensures.store c.adopt_far.ensures.ok)
