use Rattle.std.proofs.Common.{Bool, IsTrue, List, is_ok, arith, length, length-append, refl, subst, sym, ◌+◌, ◌++◌, ◌<◌}
use Rattle.std.specs.List.{list_all}
use Rattle.tl_tree.proofs.Entering.{opens-appended}
use Rattle.tl_tree.proofs.Numbers.{all-append, either}
use Rattle.tl_tree.specs.Inner.Entered.{entered, entered_of}
use Rattle.tl_tree.specs.Inner.Framed.{are_distinct, is_before}
use Rattle.tl_tree.specs.Inner.Frames.{is_frame}
use Rattle.tl_tree.specs.Inner.Gone.{are_shut}
use Rattle.tl_tree.specs.declared.frame.Frame.{Frame}
use Rattle.tl_tree.proofs.Placed.{HereFrom, here-appended, here-none}
use Rattle.tl_tree.proofs.path.FramePath.put_back.Goals as goal

pub invariant_of-self-clause-within : goal.invariant_of-self-clause-within
invariant_of-self-clause-within c =
    let p = c.args.self.now in
    let xs = p.frames.items in
    either (λ (ys : List Frame). IsTrue (list_all (is_frame p) ys)) (is_ok c.extend_from_slice.result) (xs ++ c.args.aside.now) xs c.extend_from_slice.new.self.items c.extend_from_slice.ensures.items
    (all-append (is_frame p) xs c.args.aside.now p.within c.requires.within) p.within

pub invariant_of-self-clause-distinct : goal.invariant_of-self-clause-distinct
invariant_of-self-clause-distinct c =
    let p = c.args.self.now in
    let xs = p.frames.items in
    either (λ (ys : List Frame). IsTrue (are_distinct ys)) (is_ok c.extend_from_slice.result) (xs ++ c.args.aside.now) xs c.extend_from_slice.new.self.items c.extend_from_slice.ensures.items
    c.requires.distinct p.distinct

pub invariant_of-self-clause-numbered : goal.invariant_of-self-clause-numbered
invariant_of-self-clause-numbered c =
    let p = c.args.self.now in
    let xs = p.frames.items in
    let test = is_before p.next in
    either (λ (ys : List Frame). IsTrue (list_all test ys)) (is_ok c.extend_from_slice.result) (xs ++ c.args.aside.now) xs c.extend_from_slice.new.self.items c.extend_from_slice.ensures.items
    (all-append test xs c.args.aside.now p.numbered c.requires.numbered) p.numbered

pub invariant_of-self-clause-some : goal.invariant_of-self-clause-some
invariant_of-self-clause-some c =
    let p = c.args.self.now in
    let xs = p.frames.items in
    let many = length-append xs c.args.aside.now in
    let some = p.some in
    either (λ (ys : List Frame). length p.gaps.marks.items < length ys) (is_ok c.extend_from_slice.result) (xs ++ c.args.aside.now) xs c.extend_from_slice.new.self.items c.extend_from_slice.ensures.items
    (omega arith) p.some

pub invariant_of-self-clause-shut : goal.invariant_of-self-clause-shut
invariant_of-self-clause-shut c =
    subst (λ (marks : List Bool). IsTrue (are_shut marks c.extend_from_slice.new.self.items)) (sym c.requires.whole) refl

pub invariant_of-self-clause-known : goal.invariant_of-self-clause-known
invariant_of-self-clause-known c =
    let p = c.args.self.now in
    opens-appended (entered_of p.store) (is_ok c.extend_from_slice.result) p.frames.items c.extend_from_slice.new.self.items c.args.aside.now (entered p.scopes) c.extend_from_slice.ensures.items p.known

pub invariant_of-self-clause-near : goal.invariant_of-self-clause-near
invariant_of-self-clause-near c =
    let p = c.args.self.now in
    let xs = p.frames.items in
    let own = p.frames.ok.0 in
    let len = c.len.ensures in
    let n = c.len.result + c.args.placed in
    either (λ (ys : List Frame). HereFrom n ys) (is_ok c.extend_from_slice.result) (xs ++ c.args.aside.now) xs c.extend_from_slice.new.self.items c.extend_from_slice.ensures.items
    (here-appended xs c.args.aside.now c.args.placed n (omega arith) c.requires.near) (here-none n xs (omega arith))
