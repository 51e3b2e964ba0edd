use Rattle.std.proofs.Common.{IsTrue, ap, arith, drop, length, refl, sym, subst, take, ◌+◌, ◌++◌, ◌≡◌, ◌∙◌}
use Rattle.std.proofs.lemmas.Bool.{lt-ltb}
use Rattle.tl_dom_spec.specs.Adoption.{Clones, cloned, entry_moved, inside_of, outside_of}
use Rattle.tl_dom_spec.specs.Path.{Path, elements}
use Rattle.tl_tree.proofs.ActiveNumbers.{active-grown}
use Rattle.tl_tree.proofs.Adopted.{cloned-first, cloned-next, made-all, path-adopted}
use Rattle.tl_tree.proofs.Cloned.{made-length}
use Rattle.tl_tree.proofs.FrameParts.{grows-on}
use Rattle.tl_tree.proofs.Grown.{grows_refl}
use Rattle.tl_tree.proofs.Readopted.{outside-part}
use Rattle.tl_tree.proofs.Tallies.{tallied-grown}
use Rattle.tl_tree.specs.Inner.Active.{active_of, listed_of}
use Rattle.tl_tree.specs.Inner.Adopted.{IsFirst, adopted_entries, adopted_path, clones_in, frame_at, outer_in, renewed}
use Rattle.tl_tree.specs.Inner.Frames.{frames_of, path_of}
use Rattle.tl_tree.specs.Inner.Store.{Grows, is_tag_number, tag_at}
use Rattle.tl_tree.specs.Inner.Tallied.{IsTallied}
use Rattle.tl_tree.specs.declared.store.Store.{Store}
use Rattle.tl_tree.proofs.adoption.adopt_far.Goals as goal

pub overflow_add-block : goal.overflow_add-block
overflow_add-block c =
    let p = c.args.path.now in
    let q = c.add_clones.new.path in
    let own = q.frames.ok.0 in
    let small = q.frames.small in
    let many = made-length c.args.block p q _ _ 0 c.in_ok-made.made c.in_ok-made.ensures.ok in
    omega arith

pub renew-requires-clause-index : goal.renew-requires-clause-index
renew-requires-clause-index c =
    let p = c.args.path.now in
    let q = c.add_clones.new.path in
    let many = made-length c.args.block p q _ _ 0 c.in_ok-made.made c.in_ok-made.ensures.ok in
    omega arith

pub settle_outside-requires-clause-within : goal.settle_outside-requires-clause-within
settle_outside-requires-clause-within c =
    let p = c.args.path.now in
    let q = c.add_clones.new.path in
    let many = made-length c.args.block p q _ _ 0 c.in_ok-made.made c.in_ok-made.ensures.ok in
    let more = c.in_ok-renew.ensures.len in
    omega arith

pub returns-clause-ok : goal.returns-clause-ok
returns-clause-ok c =
    let p = c.args.path.now in
    let q = c.add_clones.new.path in
    let r = c.renew.new.self in
    let t = c.settle_outside.new.self in
    let n = c.args.block in
    let m = c.in_ok-made.made in
    let mid = c.add_clones.new.active in
    let list = c.list_new.new.active in
    let own = listed_of p.store c.args.own in
    let block = frame_at p n in
    let path = path_of p in
    let entries = active_of p.store c.args.active.now in
    let made = c.in_ok-made.ensures.ok in
    let all = clones_in own block path entries p.next in
    let stored = c.add_clones.ensures.store in
    let whole : all ≡ record { frames = made.clones; entries = active_of q.store mid; next = q.next } =
    ap (λ (out : Path). cloned 0 (elements (inside_of own.number out)) entries p.next) (outside-part p block.number n c.requires.whole c.requires.block refl)
    ∙ made-all n p q _ (active_of q.store mid) q.next 0 m made in
    let count : m ≡ length made.clones = made.count ∙ omega arith in
    let renewed_as =
    c.in_ok-renew.ensures.frames
    ∙ ap (λ (s : Store). take (n + m) (frames_of q) ++ renewed q.next (tag_at s c.args.own.tag) (drop (n + m) (frames_of q))) stored in
    let grows = subst (λ (s : Store). Grows s t.store) (c.renew.ensures.store ∙ stored) c.settle_outside.ensures.grows in
    let least = c.list_new.ensures.tag (length p.store.tags.items) (omega (arith, c.add_clones.ensures.tag, c.requires.listed)) c.requires.own in
    let is_first = subst (λ (cl : Clones). IsFirst p.next cl.frames) whole (cloned-first 0 (elements (inside_of own.number (outside_of block.number path))) entries p.next) in
    let listed = c.in_ok-list_new.ensures.active p.store made.clones count is_first in
    let next = ap (λ (cl : Clones). cl.next) whole in
    let size = ap (λ (cl : Clones). length cl.frames) whole in
    let sum = cloned-next 0 (elements (inside_of own.number (outside_of block.number path))) entries p.next in
    record {
      path =
          path-adopted p q t c.args.is_fostering own n (n + m) q.next made.clones (active_of q.store mid) c.common_ancestor-ancestor.result (frames_of r) c.requires.whole c.in_ok-settle_outside.ensures.whole c.requires.block (omega arith)
          made.frames renewed_as c.in_ok-settle_outside.ensures.frames c.common_ancestor-ancestor.ensures
          ∙ ap (λ (cl : Clones). adopted_path c.args.is_fostering own block cl (outer_in own block path) path) (sym whole);
      active =
          active-grown p.store t.store grows list least
          ∙ (listed
          ∙ (ap (λ (s : Store). entry_moved own.number q.next own.tag made.clones (active_of s mid)) (sym stored)
          ∙ ap (adopted_entries own) (sym whole)));
      next =
          c.settle_outside.ensures.next ∙ (c.in_ok-renew.ensures.next ∙ omega arith);
      made = omega arith;
    }

pub returns-in_err-settle_outside-clause-tallied : goal.returns-in_err-settle_outside-clause-tallied
returns-in_err-settle_outside-clause-tallied c =
    let p = c.args.path.now in
    let r = c.renew.new.self in
    let t = c.settle_outside.new.self in
    let list = c.list_new.new.active in
    let least = c.list_new.ensures.tag (length p.store.tags.items) (omega (arith, c.add_clones.ensures.tag, c.requires.listed)) c.requires.own in
    let many = ap (λ (s : Store). length s.tags.items) (c.renew.ensures.store ∙ c.add_clones.ensures.store) in
    tallied-grown r.store t.store c.settle_outside.ensures.grows list (omega (arith, many, least)) c.list_new.ensures.tallied

pub returns-clause-tallied : goal.returns-clause-tallied
returns-clause-tallied c =
    let p = c.args.path.now in
    let r = c.renew.new.self in
    let t = c.settle_outside.new.self in
    let list = c.list_new.new.active in
    let least = c.list_new.ensures.tag (length p.store.tags.items) (omega (arith, c.add_clones.ensures.tag, c.requires.listed)) c.requires.own in
    let many = ap (λ (s : Store). length s.tags.items) (c.renew.ensures.store ∙ c.add_clones.ensures.store) in
    tallied-grown r.store t.store c.settle_outside.ensures.grows list (omega (arith, many, least)) c.list_new.ensures.tallied

pub add_clones-requires-clause-numbered : goal.add_clones-requires-clause-numbered
add_clones-requires-clause-numbered c = c.requires.numbered

pub add_clones-requires-clause-listed : goal.add_clones-requires-clause-listed
add_clones-requires-clause-listed c = c.requires.listed

pub add_clones-requires-clause-tallied : goal.add_clones-requires-clause-tallied
add_clones-requires-clause-tallied c = c.requires.tallied

pub renew-requires-clause-tag : goal.renew-requires-clause-tag
renew-requires-clause-tag c =
    let s = c.args.path.now.store in
    let tag = c.args.own.tag in
    subst (λ (t : Store). IsTrue (is_tag_number t tag)) (sym c.add_clones.ensures.store) (lt-ltb tag (length s.tags.items) c.requires.own)

pub list_new-requires-clause-new : goal.list_new-requires-clause-new
list_new-requires-clause-new c = c.add_clones.ensures.numbered

pub list_new-requires-clause-listed : goal.list_new-requires-clause-listed
list_new-requires-clause-listed c =
    let many = ap (λ (s : Store). length s.tags.items) (c.renew.ensures.store ∙ c.add_clones.ensures.store) in
    omega (arith, many, c.add_clones.ensures.tag, c.requires.listed)

pub list_new-requires-clause-own : goal.list_new-requires-clause-own
list_new-requires-clause-own c =
    let many = ap (λ (s : Store). length s.tags.items) (c.renew.ensures.store ∙ c.add_clones.ensures.store) in
    omega (arith, many, c.requires.own)

pub list_new-requires-clause-tallied : goal.list_new-requires-clause-tallied
list_new-requires-clause-tallied c =
    let mid = c.add_clones.new.active in
    subst (λ (s : Store). IsTallied s mid) (sym c.renew.ensures.store) c.add_clones.ensures.tallied

pub settle_outside-requires-clause-some : goal.settle_outside-requires-clause-some
settle_outside-requires-clause-some c = c.requires.some

pub returns-in_err-made-clause-grows : goal.returns-in_err-made-clause-grows
returns-in_err-made-clause-grows c =
    let s = c.args.path.now.store in
    grows-on s s c.add_clones.new.path.store (grows_refl s) c.add_clones.ensures.store

pub returns-in_err-renew-clause-grows : goal.returns-in_err-renew-clause-grows
returns-in_err-renew-clause-grows c =
    let s = c.args.path.now.store in
    grows-on s s c.renew.new.self.store (grows_refl s) (c.renew.ensures.store ∙ c.add_clones.ensures.store)

pub returns-in_err-list_new-clause-grows : goal.returns-in_err-list_new-clause-grows
returns-in_err-list_new-clause-grows c =
    let s = c.args.path.now.store in
    grows-on s s c.renew.new.self.store (grows_refl s) (c.renew.ensures.store ∙ c.add_clones.ensures.store)

pub returns-in_err-renew-clause-tallied : goal.returns-in_err-renew-clause-tallied
returns-in_err-renew-clause-tallied c =
    let mid = c.add_clones.new.active in
    subst (λ (s : Store). IsTallied s mid) (sym c.renew.ensures.store) c.add_clones.ensures.tallied

pub returns-in_err-settle_outside-clause-grows : goal.returns-in_err-settle_outside-clause-grows
returns-in_err-settle_outside-clause-grows c =
    let t = c.settle_outside.new.self.store in
    subst (λ (s : Store). Grows s t) (c.renew.ensures.store ∙ c.add_clones.ensures.store) c.settle_outside.ensures.grows

pub returns-clause-grows : goal.returns-clause-grows
returns-clause-grows c =
    let t = c.settle_outside.new.self.store in
    subst (λ (s : Store). Grows s t) (c.renew.ensures.store ∙ c.add_clones.ensures.store) c.settle_outside.ensures.grows

pub returns-in_err-list_new-clause-listed : goal.returns-in_err-list_new-clause-listed
returns-in_err-list_new-clause-listed c =
    let least =
    c.list_new.ensures.tag (length c.args.path.now.store.tags.items) (omega (arith, c.add_clones.ensures.tag, c.requires.listed)) c.requires.own in
    least

pub returns-in_err-settle_outside-clause-listed : goal.returns-in_err-settle_outside-clause-listed
returns-in_err-settle_outside-clause-listed c =
    let least =
    c.list_new.ensures.tag (length c.args.path.now.store.tags.items) (omega (arith, c.add_clones.ensures.tag, c.requires.listed)) c.requires.own in
    least

pub returns-clause-listed : goal.returns-clause-listed
returns-clause-listed c =
    let least =
    c.list_new.ensures.tag (length c.args.path.now.store.tags.items) (omega (arith, c.add_clones.ensures.tag, c.requires.listed)) c.requires.own in
    least

pub returns-in_err-made-clause-listed : goal.returns-in_err-made-clause-listed
returns-in_err-made-clause-listed c = omega (arith, c.add_clones.ensures.tag, c.requires.listed)

pub returns-in_err-renew-clause-listed : goal.returns-in_err-renew-clause-listed
returns-in_err-renew-clause-listed c = omega (arith, c.add_clones.ensures.tag, c.requires.listed)

pub returns-in_err-renew-clause-more : goal.returns-in_err-renew-clause-more
returns-in_err-renew-clause-more c = omega (arith, c.add_clones.ensures.more, c.renew.ensures.more)

pub returns-in_err-renew-clause-numbered : goal.returns-in_err-renew-clause-numbered
returns-in_err-renew-clause-numbered c = omega (arith, c.add_clones.ensures.numbered, c.renew.ensures.more)

pub returns-in_err-list_new-clause-more : goal.returns-in_err-list_new-clause-more
returns-in_err-list_new-clause-more c = omega (arith, c.add_clones.ensures.more, c.renew.ensures.more)

pub returns-in_err-list_new-clause-numbered : goal.returns-in_err-list_new-clause-numbered
returns-in_err-list_new-clause-numbered c = omega (arith, c.list_new.ensures.number, c.in_ok-renew.ensures.next)

pub returns-in_err-settle_outside-clause-more : goal.returns-in_err-settle_outside-clause-more
returns-in_err-settle_outside-clause-more c = omega (arith, c.add_clones.ensures.more, c.renew.ensures.more, c.settle_outside.ensures.next)

pub returns-in_err-settle_outside-clause-numbered : goal.returns-in_err-settle_outside-clause-numbered
returns-in_err-settle_outside-clause-numbered c = omega (arith, c.list_new.ensures.number, c.in_ok-renew.ensures.next, c.settle_outside.ensures.next)

pub returns-clause-more : goal.returns-clause-more
returns-clause-more c = omega (arith, c.add_clones.ensures.more, c.renew.ensures.more, c.settle_outside.ensures.next)

pub returns-clause-numbered : goal.returns-clause-numbered
returns-clause-numbered c = omega (arith, c.list_new.ensures.number, c.in_ok-renew.ensures.next, c.settle_outside.ensures.next)
