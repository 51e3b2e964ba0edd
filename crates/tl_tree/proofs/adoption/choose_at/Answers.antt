use Rattle.std.proofs.Common.{List, ap, arith, length, length-append, refl, subst, suc, sym, ◌+◌, ◌++◌, ◌<◌, ◌≡◌, ◌∷◌, ◌∙◌, [], ℕ}
use Rattle.std.proofs.lemmas.Bool.{le-ltb, lt-ltb}
use Rattle.tl_dom_spec.specs.Adoption.{Clones, cloned}
use Rattle.tl_dom_spec.specs.Formatting.{is_listed, relisted, unlisted}
use Rattle.tl_dom_spec.specs.Path as dom
use Rattle.tl_tree.proofs.Chosen.{clones-more, inward-behind, inward-more}
use Rattle.tl_tree.proofs.Cloned.{cloned-many, cloned-one, cloned-passed, with-closed}
use Rattle.tl_tree.proofs.Furthest.{frame-there}
use Rattle.tl_tree.proofs.Sought.{is-opened, is-shut}
use Rattle.tl_tree.specs.Inner.Active.{active_of}
use Rattle.tl_tree.specs.Inner.Adopted.{AreInward, after_clones, clones_at, frame_at}
use Rattle.tl_tree.specs.Inner.Frames.{frames_of}
use Rattle.tl_tree.specs.Inner.Tallied.{IsTallied}
use Rattle.tl_tree.specs.declared.store.Store.{Store}
use Rattle.tl_tree.proofs.adoption.choose_at.Goals as goal

pub returns-then-not-frame-clause-ok : goal.returns-then-not-frame-clause-ok
returns-then-not-frame-clause-ok c = λ fs all first is e.
    let p = c.args.path.now in
    let f = c.index-frame.result.now in
    let there = frame-there p c.args.index f c.index-frame.ensures c.requires.within in
    let closed = ap (λ (own : dom.Frame). own.is_open) there ∙ is-shut f.is_open c.if-not-frame.true in
    e
    ∙ ap (λ own. after_clones (clones_at (frames_of p) first c.args.clones.now.items) (cloned c.args.seen own (active_of p.store c.args.active.now) p.next)) (with-closed (frame_at p c.args.index) fs closed)

pub returns-then-not-frame-clause-inward : goal.returns-then-not-frame-clause-inward
returns-then-not-frame-clause-inward c = λ most h inward.
    inward-more (c.args.index + 1) c.args.index most c.args.clones.now.items (omega arith) inward

pub returns-then-not-is_listed-clause-ok : goal.returns-then-not-is_listed-clause-ok
returns-then-not-is_listed-clause-ok c = λ fs all first is e.
    let p = c.args.path.now in
    let f = c.index-frame.result.now in
    let there = frame-there p c.args.index f c.index-frame.ensures c.requires.within in
    let entries = active_of p.store c.args.active.now in
    let opened = ap (λ (own : dom.Frame). own.is_open) there ∙ is-opened f.is_open c.if-not-frame.false in
    let none = ap (λ (own : dom.Frame). is_listed own.number entries) there ∙ (sym (c.is_listed.ensures p.store) ∙ c.if-not-is_listed.true) in
    e
    ∙ ap (after_clones (clones_at (frames_of p) first c.args.clones.now.items))
    (cloned-passed c.args.seen (c.args.seen + 1) (frame_at p c.args.index) fs entries p.next opened none (omega arith))

pub returns-then-not-is_listed-clause-inward : goal.returns-then-not-is_listed-clause-inward
returns-then-not-is_listed-clause-inward c = λ most h inward.
    inward-more (c.args.index + 1) c.args.index most c.args.clones.now.items (omega arith) inward

pub returns-then-seen-gt2-clause-ok : goal.returns-then-seen-gt2-clause-ok
returns-then-seen-gt2-clause-ok c = λ fs all first is e.
    let p = c.args.path.now in
    let f = c.index-frame.result.now in
    let there = frame-there p c.args.index f c.index-frame.ensures c.requires.within in
    let entries = active_of p.store c.args.active.now in
    let opened = ap (λ (own : dom.Frame). own.is_open) there ∙ is-opened f.is_open c.if-not-frame.false in
    let some = ap (λ (own : dom.Frame). is_listed own.number entries) there ∙ (sym (c.is_listed.ensures p.store) ∙ c.if-not-is_listed.false) in
    let others = c.unlist.ensures.active p.store ∙ ap (λ (own : dom.Frame). unlisted own.number entries) (sym there) in
    e
    ∙ ap (after_clones (clones_at (frames_of p) first c.args.clones.now.items))
    (cloned-many c.args.seen (c.args.seen + 1) (frame_at p c.args.index) fs entries (active_of p.store c.unlist.new.self) p.next opened some (lt-ltb 2 c.args.seen c.if-seen-gt2.true) (omega arith) others)

pub returns-then-seen-gt2-clause-inward : goal.returns-then-seen-gt2-clause-inward
returns-then-seen-gt2-clause-inward c = λ most h inward.
    inward-more (c.args.index + 1) c.args.index most c.args.clones.now.items (omega arith) inward

pub returns-clause-ok : goal.returns-clause-ok
returns-clause-ok c = λ fs all first is e.
    let p = c.args.path.now in
    let q = c.take_number.new.self in
    let f = c.index-frame.result.now in
    let there = frame-there p c.args.index f c.index-frame.ensures c.requires.within in
    let own = frame_at p c.args.index in
    let entries = active_of p.store c.args.active.now in
    let places = c.args.clones.now.items in
    let opened = ap (λ (one : dom.Frame). one.is_open) there ∙ is-opened f.is_open c.if-not-frame.false in
    let some = ap (λ (one : dom.Frame). is_listed one.number entries) there ∙ (sym (c.is_listed.ensures p.store) ∙ c.if-not-is_listed.false) in
    let number = c.in_ok-number.ensures.number in
    let others =
    ap (λ (s : Store). active_of s c.relist.new.self) c.take_number.ensures.store
    ∙ (c.relist.ensures.active p.store
    ∙ (ap (λ (n : ℕ). relisted f.number n entries) number
    ∙ ap (λ (one : dom.Frame). relisted one.number p.next entries) (sym there))) in
    let next : q.next ≡ suc p.next = c.in_ok-number.ensures.next ∙ omega arith in
    let rest = cloned (c.args.seen + 1) fs (active_of q.store c.relist.new.self) q.next in
    e
    ∙ (ap (after_clones (clones_at (frames_of p) first places))
    (cloned-one c.args.seen (c.args.seen + 1) own fs entries (active_of q.store c.relist.new.self) p.next q.next opened some (le-ltb 2 c.args.seen c.if-seen-gt2.false) (omega arith) others next)
    ∙ (clones-more (frames_of p) first p.next c.args.index places rest is
    ∙ ap (λ clones. after_clones (clones_at (frames_of p) first clones) rest) (sym c.in_ok-push.ensures.items)))

pub returns-clause-inward : goal.returns-clause-inward
returns-clause-inward c = λ most h inward.
    subst (λ (places : List ℕ). AreInward c.args.index most places) (sym c.in_ok-push.ensures.items)
    (inward-behind c.args.index most c.args.clones.now.items h inward)

pub returns-clause-count : goal.returns-clause-count
returns-clause-count c = λ first is.
    omega (arith, c.in_ok-number.ensures.next, is, ap length c.in_ok-push.ensures.items, length-append c.args.clones.now.items (c.args.index ∷ []))

pub returns-in_err-number-clause-tallied : goal.returns-in_err-number-clause-tallied
returns-in_err-number-clause-tallied c =
    subst (λ (s : Store). IsTallied s c.args.active.now) (sym c.take_number.ensures.store) c.requires.tallied

pub returns-in_err-push-clause-tallied : goal.returns-in_err-push-clause-tallied
returns-in_err-push-clause-tallied c =
    subst (λ (s : Store). IsTallied s c.args.active.now) (sym c.take_number.ensures.store) c.requires.tallied

pub returns-clause-tallied : goal.returns-clause-tallied
returns-clause-tallied c =
    subst (λ (s : Store). IsTallied s c.relist.new.self) (sym c.take_number.ensures.store) (c.relist.ensures.tallied c.args.path.now.store c.requires.tallied)
