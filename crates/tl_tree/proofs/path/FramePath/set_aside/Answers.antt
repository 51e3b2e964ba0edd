use Rattle.std.proofs.Common.{Bool, IsTrue, List, ap, arith, length, refl, subst, sym, ◌<◌}
use Rattle.std.specs.List.{list_all}
use Rattle.std.proofs.lemmas.List.{length-take-le}
use Rattle.tl_tree.proofs.Entering.{opens-parted}
use Rattle.tl_tree.proofs.Listed.{all-take}
use Rattle.tl_tree.proofs.Numbered.{distinct-take}
use Rattle.tl_tree.proofs.Numbers.{either-front}
use Rattle.tl_tree.specs.Inner.Entered.{entered, entered_of}
use Rattle.tl_tree.specs.Inner.Framed.{are_distinct, is_before}
use Rattle.tl_tree.specs.Inner.Frames.{is_frame}
use Rattle.tl_tree.specs.Inner.Gone.{are_shut}
use Rattle.tl_tree.specs.declared.frame.Frame.{Frame}
use Rattle.tl_tree.proofs.Placed.{HereFrom, here-front}
use Rattle.tl_tree.proofs.path.FramePath.set_aside.Goals as goal

pub invariant_of-self-clause-within : goal.invariant_of-self-clause-within
invariant_of-self-clause-within c =
    let p = c.args.self.now in
    either-front (λ (ys : List Frame). IsTrue (list_all (is_frame p) ys)) (λ v. v.items) c.split_off.result c.args.place p.frames c.split_off.new.self c.split_off.ensures.items c.split_off.ensures.err
    (all-take (is_frame p) c.args.place p.frames.items p.within) p.within

pub invariant_of-self-clause-distinct : goal.invariant_of-self-clause-distinct
invariant_of-self-clause-distinct c =
    let p = c.args.self.now in
    either-front (λ (ys : List Frame). IsTrue (are_distinct ys)) (λ v. v.items) c.split_off.result c.args.place p.frames c.split_off.new.self c.split_off.ensures.items c.split_off.ensures.err
    (distinct-take p.frames.items c.args.place p.distinct) p.distinct

pub invariant_of-self-clause-numbered : goal.invariant_of-self-clause-numbered
invariant_of-self-clause-numbered c =
    let p = c.args.self.now in
    either-front (λ (ys : List Frame). IsTrue (list_all (is_before p.next) ys)) (λ v. v.items) c.split_off.result c.args.place p.frames c.split_off.new.self c.split_off.ensures.items c.split_off.ensures.err
    (all-take (is_before p.next) c.args.place p.frames.items p.numbered) p.numbered

pub invariant_of-self-clause-some : goal.invariant_of-self-clause-some
invariant_of-self-clause-some c =
    let p = c.args.self.now in
    let many = length-take-le c.args.place p.frames.items c.requires.within in
    let some = c.requires.some in
    let none = ap length c.requires.whole in
    either-front (λ (ys : List Frame). length p.gaps.marks.items < length ys) (λ v. v.items) c.split_off.result c.args.place p.frames c.split_off.new.self c.split_off.ensures.items c.split_off.ensures.err
    (omega arith) p.some

pub invariant_of-self-clause-shut : goal.invariant_of-self-clause-shut
invariant_of-self-clause-shut c =
    subst (λ (marks : List Bool). IsTrue (are_shut marks c.split_off.new.self.items)) (sym c.requires.whole) refl

pub invariant_of-self-clause-known : goal.invariant_of-self-clause-known
invariant_of-self-clause-known c =
    let p = c.args.self.now in
    opens-parted (entered_of p.store) (λ v. v.items) c.split_off.result c.args.place p.frames c.split_off.new.self (entered p.scopes) (entered c.cut.new.self) c.cut.ensures c.split_off.ensures.items c.split_off.ensures.err p.known

pub invariant_of-self-clause-near : goal.invariant_of-self-clause-near
invariant_of-self-clause-near c =
    let p = c.args.self.now in
    either-front (λ (ys : List Frame). HereFrom p.placed ys) (λ v. v.items) c.split_off.result c.args.place p.frames c.split_off.new.self c.split_off.ensures.items c.split_off.ensures.err
    (here-front p.frames.items c.args.place p.placed p.near) p.near
