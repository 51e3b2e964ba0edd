use Rattle.std.proofs.Common.{Bool, IsTrue, List, Some, ap, arith, drop, false, get_or, length, nat_lt, subst, sym, take, ℕ, ◌+◌, ◌++◌, ◌-◌, ◌<◌, ◌≡◌, ◌∙◌}
use Rattle.std.proofs.lemmas.Bool.{ltb-true}
use Rattle.std.proofs.lemmas.Result.{on_ok_weaker}
use Rattle.std.specs.List.{list_all}
use Rattle.tl_dom_spec.specs.Path as dom
use Rattle.tl_tree.proofs.AdoptedOver.{over-renewed, over-top}
use Rattle.tl_tree.proofs.Ancestor.{on-ok-any}
use Rattle.tl_tree.proofs.Built.{on-ok-both}
use Rattle.tl_tree.proofs.FrameParts.{grows-on}
use Rattle.tl_tree.proofs.Grown.{tag-at-grown}
use Rattle.tl_tree.proofs.Inserted.{tag-number-grown}
use Rattle.tl_tree.proofs.Over.{stands-open}
use Rattle.tl_tree.proofs.StoodIn.{clones-same, free-from, numbers-before}
use Rattle.tl_tree.specs.Inner.Adopted.{clones_at, frame_at, is_inside, numbers_in, renewed}
use Rattle.tl_tree.specs.Inner.Frames.{around, frames_of}
use Rattle.tl_tree.specs.Inner.Store.{is_tag_number, tag_at}
use Rattle.tl_tree.specs.declared.store.Store.{Store}
use Rattle.tl_tree.proofs.path.FramePath.renew_over.Goals as goal

pub settle_between-requires-clause-here : goal.settle_between-requires-clause-here
settle_between-requires-clause-here c = c.requires.here

pub stand_clones-requires-clause-within : goal.stand_clones-requires-clause-within
stand_clones-requires-clause-within c =
    omega (arith, c.requires.within, c.in_ok-settle_between.ensures.len)

pub stand_clones-requires-clause-gone : goal.stand_clones-requires-clause-gone
stand_clones-requires-clause-gone c = c.in_ok-settle_between.ensures.gone

pub stand_clones-requires-clause-next : goal.stand_clones-requires-clause-next
stand_clones-requires-clause-next c =
    omega (arith, c.requires.next, c.settle_between.ensures.next)

pub stand_clones-requires-clause-new : goal.stand_clones-requires-clause-new
stand_clones-requires-clause-new c = λ n least.
    let p = c.args.self.now in
    let first = c.args.first in
    free-from c.settle_between.new.self first n
    (subst (λ (ks : List ℕ). IsTrue (list_all (λ (k : ℕ). nat_lt k first) ks)) (sym c.in_ok-settle_between.ensures.numbers) (numbers-before p first c.requires.new))
    least

pub turn-requires-clause-some : goal.turn-requires-clause-some
turn-requires-clause-some c = omega (arith, c.requires.order)

pub turn-requires-clause-index : goal.turn-requires-clause-index
turn-requires-clause-index c =
    omega (arith, c.requires.order, c.requires.within, c.in_ok-settle_between.ensures.len, c.stand_clones.ensures.len)

pub turn-requires-clause-tag : goal.turn-requires-clause-tag
turn-requires-clause-tag c =
    subst (λ (s : Store). IsTrue (is_tag_number s c.args.tag)) (sym c.stand_clones.ensures.store)
    (tag-number-grown c.args.self.now.store c.settle_between.new.self.store c.settle_between.ensures.grows c.args.tag c.requires.tag)

pub returns-clause-path : goal.returns-clause-path
returns-clause-path c =
    let p = c.args.self.now in
    let r = c.settle_between.new.self in
    let s = c.stand_clones.new.self in
    let t = c.turn.new.self in
    let block = c.args.block in
    let i = block - 1 in
    let order = c.requires.order in
    let is : i + 1 ≡ block = omega arith in
    let fs = frames_of s in
    let places = c.args.clones.now in
    let ancestor = dom.popped_while (is_inside (Some (frame_at p c.args.place).number)) (around p block) in
    let stands : get_or p.gaps.marks.items block false ≡ false = stands-open p block c.requires.open c.requires.within in
    let tag = ap (λ (own : Store). tag_at own c.args.tag) c.stand_clones.ensures.store ∙ tag-at-grown p.store r.store c.settle_between.ensures.grows c.args.tag (ltb-true c.args.tag (length p.store.tags.items) c.requires.tag) in
    let next = c.stand_clones.ensures.next ∙ c.settle_between.ensures.next in
    let path : around s i ≡ clones_at (frames_of p) c.args.first places ++ ancestor =
    c.stand_clones.ensures.path i is
    ∙ (ap (λ clones. clones ++ around r (c.args.place + 1)) (clones-same (frames_of r) (frames_of p) c.args.first places c.in_ok-settle_between.ensures.tags)
    ∙ ap (λ outer. clones_at (frames_of p) c.args.first places ++ outer) c.in_ok-settle_between.ensures.path) in
    on-ok-both c.turn.result
    (λ gaps frames.
    over-renewed p s t block i p.next (tag_at s.store c.args.tag) (tag_at p.store c.args.tag) (clones_at (frames_of p) c.args.first places ++ ancestor) c.requires.within is stands
    (c.stand_clones.ensures.len ∙ c.in_ok-settle_between.ensures.len)
    (c.stand_clones.ensures.marks ∙ c.in_ok-settle_between.ensures.marks)
    (c.stand_clones.ensures.behind ∙ c.in_ok-settle_between.ensures.behind)
    path gaps
    (frames ∙ ap (λ (n : ℕ). take i fs ++ renewed n (tag_at s.store c.args.tag) (drop (i + 1) fs)) next)
    tag)
    c.turn.ensures.gaps c.turn.ensures.frames

pub returns-clause-top : goal.returns-clause-top
returns-clause-top c =
    let p = c.args.self.now in
    let r = c.settle_between.new.self in
    let a = c.args.place in
    let order = c.requires.order in
    let within = c.requires.within in
    let len = c.in_ok-settle_between.ensures.len in
    let shape = c.in_ok-settle_between.ensures.shape in
    let opened = ap (λ (f : dom.Frame). f.is_open) shape ∙ c.requires.around in
    let less : a < length r.frames.items = omega arith in
    on-ok-any c.turn.result
    (over-top p r a (dom.popped_while (is_inside (Some (frame_at p a).number)) (around p c.args.block)) less (stands-open r a opened less) c.in_ok-settle_between.ensures.path shape)

pub returns-clause-next : goal.returns-clause-next
returns-clause-next c =
    on_ok_weaker c.turn.result (λ e. e ∙ ap (λ n. n + 1) (c.stand_clones.ensures.next ∙ c.settle_between.ensures.next)) c.turn.ensures.next

pub returns-clause-more : goal.returns-clause-more
returns-clause-more c = omega (arith, c.turn.ensures.more, c.stand_clones.ensures.next, c.settle_between.ensures.next)

pub returns-clause-grows : goal.returns-clause-grows
returns-clause-grows c =
    grows-on c.args.self.now.store c.settle_between.new.self.store c.turn.new.self.store c.settle_between.ensures.grows (c.turn.ensures.store ∙ c.stand_clones.ensures.store)
