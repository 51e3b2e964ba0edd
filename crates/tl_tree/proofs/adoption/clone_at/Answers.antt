use Rattle.std.proofs.Common.{ap, arith, length, refl, subst, suc, sym, ◌<◌, ◌≡◌, ◌∙◌}
use Rattle.std.proofs.lemmas.Bool.{le-ltb, lt-ltb}
use Rattle.tl_dom_spec.specs.Adoption.{cloned}
use Rattle.tl_dom_spec.specs.Formatting.{is_listed, relisted, unlisted}
use Rattle.tl_dom_spec.specs.Path as dom
use Rattle.tl_tree.proofs.Cloned.{cloned-many, cloned-one, cloned-passed, made-none, made-one, new-clone, with-closed}
use Rattle.tl_tree.proofs.Furthest.{frame-there}
use Rattle.tl_tree.proofs.Sought.{is-opened, is-shut}
use Rattle.tl_tree.specs.Inner.Active.{active_of}
use Rattle.tl_tree.specs.Inner.Adopted.{frame_at}
use Rattle.tl_tree.specs.Inner.Tallied.{IsTallied}
use Rattle.tl_tree.specs.declared.adoption.Between.{Between}
use Rattle.tl_tree.specs.declared.store.Store.{Store}
use Rattle.tl_tree.proofs.adoption.clone_at.Goals as goal

pub returns-then-not-frame-clause-ok : goal.returns-then-not-frame-clause-ok
returns-then-not-frame-clause-ok c = λ fs.
    let p = c.args.path.now in
    let f = c.index-frame.result.now in
    let within : c.args.index < length p.frames.items = omega arith in
    let there = frame-there p c.args.index f c.index-frame.ensures within in
    let entries = active_of p.store c.args.active.now in
    let closed = ap (λ (own : dom.Frame). own.is_open) there ∙ is-shut f.is_open c.if-not-frame.true in
    made-none c.args.block p _ _ c.args.between.made c.args.between.made
    (ap (λ all. cloned c.args.between.seen all entries p.next) (with-closed (frame_at p c.args.index) fs closed)) refl

pub returns-then-not-is_listed-clause-ok : goal.returns-then-not-is_listed-clause-ok
returns-then-not-is_listed-clause-ok c = λ fs.
    let p = c.args.path.now in
    let f = c.index-frame.result.now in
    let within : c.args.index < length p.frames.items = omega arith in
    let there = frame-there p c.args.index f c.index-frame.ensures within in
    let entries = active_of p.store c.args.active.now in
    let opened = ap (λ (own : dom.Frame). own.is_open) there ∙ is-opened f.is_open c.if-not-frame.false in
    let none = ap (λ (own : dom.Frame). is_listed own.number entries) there ∙ (sym (c.is_listed.ensures p.store) ∙ c.if-not-is_listed.true) in
    let seen : c.passed.result.seen ≡ suc c.args.between.seen = ap (λ (b : Between). b.seen) c.passed.ensures ∙ omega arith in
    made-none c.args.block p _ _ c.args.between.made c.passed.result.made
    (cloned-passed c.args.between.seen c.passed.result.seen (frame_at p c.args.index) fs entries p.next opened none seen)
    (ap (λ (b : Between). b.made) c.passed.ensures)

pub returns-then-between-gt2-clause-ok : goal.returns-then-between-gt2-clause-ok
returns-then-between-gt2-clause-ok c = λ fs.
    let p = c.args.path.now in
    let f = c.index-frame.result.now in
    let within : c.args.index < length p.frames.items = omega arith in
    let there = frame-there p c.args.index f c.index-frame.ensures within in
    let entries = active_of p.store c.args.active.now in
    let opened = ap (λ (own : dom.Frame). own.is_open) there ∙ is-opened f.is_open c.if-not-frame.false in
    let some = ap (λ (own : dom.Frame). is_listed own.number entries) there ∙ (sym (c.is_listed.ensures p.store) ∙ c.if-not-is_listed.false) in
    let after = c.passed-then-between-gt2.result in
    let is = c.passed-then-between-gt2.ensures in
    let seen : after.seen ≡ suc c.args.between.seen = ap (λ (b : Between). b.seen) is ∙ omega arith in
    let others = c.unlist.ensures.active p.store ∙ ap (λ (own : dom.Frame). unlisted own.number entries) (sym there) in
    made-none c.args.block p _ _ c.args.between.made after.made
    (cloned-many c.args.between.seen after.seen (frame_at p c.args.index) fs entries (active_of p.store c.unlist.new.self) p.next opened some (lt-ltb 2 c.args.between.seen c.if-between-gt2.true) seen others)
    (ap (λ (b : Between). b.made) is)

pub returns-clause-ok : goal.returns-clause-ok
returns-clause-ok c = λ fs.
    let p = c.args.path.now in
    let q = c.insert_frame.new.self in
    let f = c.index-frame.result.now in
    let within : c.args.index < length p.frames.items = omega arith in
    let there = frame-there p c.args.index f c.index-frame.ensures within in
    let own = frame_at p c.args.index in
    let entries = active_of p.store c.args.active.now in
    let opened = ap (λ (own : dom.Frame). own.is_open) there ∙ is-opened f.is_open c.if-not-frame.false in
    let some = ap (λ (own : dom.Frame). is_listed own.number entries) there ∙ (sym (c.is_listed.ensures p.store) ∙ c.if-not-is_listed.false) in
    let after = c.cloned.result in
    let seen : after.seen ≡ suc c.args.between.seen = ap (λ (b : Between). b.seen) c.cloned.ensures ∙ omega arith in
    let others =
    ap (λ (s : Store). active_of s c.relist.new.self) c.insert_frame.ensures.store
    ∙ (c.relist.ensures.active p.store ∙ ap (λ (own : dom.Frame). relisted own.number p.next entries) (sym there)) in
    let next : q.next ≡ suc p.next = c.in_ok-insert_frame.ensures.next ∙ omega arith in
    made-one c.args.block p q (dom.new_frame p.next own.tag dom.here) _ _ c.args.between.made after.made
    (new-clone p q c.args.block f own there c.in_ok-insert_frame.ensures.frames)
    (cloned-one c.args.between.seen after.seen own fs entries (active_of q.store c.relist.new.self) p.next q.next opened some (le-ltb 2 c.args.between.seen c.if-between-gt2.false) seen others next)
    (ap (λ (b : Between). b.made) c.cloned.ensures)

pub returns-in_err-insert_frame-clause-tallied : goal.returns-in_err-insert_frame-clause-tallied
returns-in_err-insert_frame-clause-tallied c =
    subst (λ (s : Store). IsTallied s c.args.active.now) (sym c.insert_frame.ensures.store) c.requires.tallied

pub returns-clause-tallied : goal.returns-clause-tallied
returns-clause-tallied c =
    subst (λ (s : Store). IsTallied s c.relist.new.self) (sym c.insert_frame.ensures.store) (c.relist.ensures.tallied c.args.path.now.store c.requires.tallied)
