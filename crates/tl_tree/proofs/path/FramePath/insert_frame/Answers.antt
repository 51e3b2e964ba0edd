use Rattle.std.proofs.Common.{Bool, IsTrue, List, arith, is_ok, length, refl, subst, sym, ◌+◌, ◌≤◌, true, min, ◌<◌}
use Rattle.std.proofs.lemmas.Bool.{lt-ltb}
use Rattle.std.specs.List.{insert, list_all}
use Rattle.tl_tree.proofs.Entering.{opens-inserted}
use Rattle.tl_tree.proofs.Listed.{all-weaker}
use Rattle.tl_tree.proofs.Numbers.{all-insert, distinct-insert, either, insert-longer}
use Rattle.tl_tree.proofs.Readopted.{inserted}
use Rattle.tl_tree.proofs.Within.{lt-more}
use Rattle.tl_tree.specs.Inner.Entered.{entered, entered_of}
use Rattle.tl_tree.specs.Inner.Framed.{are_distinct, is_before}
use Rattle.tl_tree.specs.Inner.Frames.{is_frame}
use Rattle.tl_tree.specs.Inner.Gone.{are_shut}
use Rattle.tl_tree.specs.declared.frame.Frame.{Frame}
use Rattle.tl_tree.specs.declared.frame.Place.TheVariants.{Here}
use Rattle.tl_tree.proofs.Placed.{here-inserted}
use Rattle.tl_tree.proofs.path.FramePath.insert_frame.Goals as goal

pub invariant_of-self-clause-within : goal.invariant_of-self-clause-within
invariant_of-self-clause-within c =
    let p = c.args.self.now in
    let xs = p.frames.items in
    let f : Frame = record c.args.frame { number = p.next; place = Here; is_open = true } in
    either (λ (ys : List Frame). IsTrue (list_all (is_frame p) ys)) (is_ok c.insert.result) (insert xs c.args.place f) xs c.insert.new.self.items c.insert.ensures.items
    (all-insert (is_frame p) c.args.place xs f p.within c.requires.within) p.within

pub invariant_of-self-clause-distinct : goal.invariant_of-self-clause-distinct
invariant_of-self-clause-distinct c =
    let p = c.args.self.now in
    let xs = p.frames.items in
    let f : Frame = record c.args.frame { number = p.next; place = Here; is_open = true } in
    either (λ (ys : List Frame). IsTrue (are_distinct ys)) (is_ok c.insert.result) (insert xs c.args.place f) xs c.insert.new.self.items c.insert.ensures.items
    (distinct-insert xs c.args.place p.next f p.distinct p.numbered (omega arith)) p.distinct

pub invariant_of-self-clause-numbered : goal.invariant_of-self-clause-numbered
invariant_of-self-clause-numbered c =
    let p = c.args.self.now in
    let xs = p.frames.items in
    let f : Frame = record c.args.frame { number = p.next; place = Here; is_open = true } in
    let test = is_before (p.next + 1) in
    let old = all-weaker (is_before p.next) test (λ g h. lt-more g.number p.next (p.next + 1) h (omega arith)) xs p.numbered in
    either (λ (ys : List Frame). IsTrue (list_all test ys)) (is_ok c.insert.result) (insert xs c.args.place f) xs c.insert.new.self.items c.insert.ensures.items
    (all-insert test c.args.place xs f old (lt-ltb p.next (p.next + 1) (omega arith))) old

pub invariant_of-self-clause-some : goal.invariant_of-self-clause-some
invariant_of-self-clause-some c =
    let p = c.args.self.now in
    let xs = p.frames.items in
    let f : Frame = record c.args.frame { number = p.next; place = Here; is_open = true } in
    let longer = either (λ (ys : List Frame). length xs ≤ length ys) (is_ok c.insert.result) (insert xs c.args.place f) xs c.insert.new.self.items c.insert.ensures.items (insert-longer c.args.place xs f) (omega arith) in
    let some = p.some in
    omega arith

pub invariant_of-self-clause-shut : goal.invariant_of-self-clause-shut
invariant_of-self-clause-shut c =
    subst (λ (marks : List Bool). IsTrue (are_shut marks c.insert.new.self.items)) (sym c.requires.whole) refl

pub invariant_of-self-clause-known : goal.invariant_of-self-clause-known
invariant_of-self-clause-known c =
    let p = c.args.self.now in
    let f : Frame = record c.args.frame { number = p.next; place = Here; is_open = true } in
    opens-inserted (entered_of p.store) (is_ok c.insert.result) c.args.place p.frames.items c.insert.new.self.items f (entered p.scopes) (entered c.cut.new.self) c.cut.ensures c.insert.ensures.items p.known

pub returns-clause-frames : goal.returns-clause-frames
returns-clause-frames c =
    let p = c.args.self.now in
    inserted p _ c.args.place (record c.args.frame { number = p.next; place = Here; is_open = true }) c.in_ok-insert.ensures.items refl

pub invariant_of-self-clause-near : goal.invariant_of-self-clause-near
invariant_of-self-clause-near c =
    let p = c.args.self.now in
    let xs = p.frames.items in
    let own = p.frames.ok.0 in
    let f : Frame = record c.args.frame { number = p.next; place = Here; is_open = true } in
    let m = c.placed_around-self.result in
    let around : c.args.place < p.placed → min p.placed (length xs) < m = λ (h : c.args.place < p.placed).
    (let less = c.placed_around-self.ensures.around h in omega arith) in
    let least : min p.placed (length xs) ≤ m = (let most = c.placed_around-self.ensures.least in omega arith) in
    here-inserted (is_ok c.insert.result) xs c.insert.new.self.items c.args.place p.placed m f c.insert.ensures.items refl c.placed_around-self.ensures.inside around least p.near
