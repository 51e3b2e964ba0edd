use Rattle.std.proofs.Common.{IsTrue, arith, get_or, nat_lt, refl, subst, sym, ℕ}
use Rattle.std.proofs.lemmas.List.{length-set}
use Rattle.tl_tree.proofs.Entering.{known-written}
use Rattle.tl_tree.proofs.Gone.{shut-set}
use Rattle.tl_tree.proofs.Numbered.{distinct-set}
use Rattle.tl_tree.proofs.Written.{all-at, all-set}
use Rattle.tl_tree.specs.Inner.Framed.{is_before}
use Rattle.tl_tree.specs.Inner.Frames.{is_frame}
use Rattle.tl_tree.proofs.Placed.{here-set}
use Rattle.tl_tree.proofs.path.FramePath.write.Goals as goal

pub invariant_of-self-clause-within : goal.invariant_of-self-clause-within
invariant_of-self-clause-within c =
    let p = c.args.self.now in
    all-set (is_frame p) p.frames.items c.args.index c.args.frame p.within c.requires.within

pub invariant_of-self-clause-distinct : goal.invariant_of-self-clause-distinct
invariant_of-self-clause-distinct c =
    let p = c.args.self.now in
    distinct-set p.frames.items c.args.index c.args.frame c.requires.number p.distinct

pub invariant_of-self-clause-numbered : goal.invariant_of-self-clause-numbered
invariant_of-self-clause-numbered c =
    let p = c.args.self.now in
    let old = get_or p.frames.items c.args.index c.args.frame in
    let before = all-at (is_before p.next) p.frames.items c.args.index old c.args.frame refl c.requires.index p.numbered in
    all-set (is_before p.next) p.frames.items c.args.index c.args.frame p.numbered
    (subst (λ (k : ℕ). IsTrue (nat_lt k p.next)) (sym c.requires.number) before)

pub invariant_of-self-clause-some : goal.invariant_of-self-clause-some
invariant_of-self-clause-some c =
    let p = c.args.self.now in
    let many = length-set p.frames.items c.args.index c.args.frame in
    let some = p.some in
    omega arith

pub invariant_of-self-clause-shut : goal.invariant_of-self-clause-shut
invariant_of-self-clause-shut c =
    let p = c.args.self.now in
    shut-set p.gaps.marks.items p.frames.items c.args.index c.args.frame c.requires.open p.shut

pub invariant_of-self-clause-known : goal.invariant_of-self-clause-known
invariant_of-self-clause-known c =
    known-written c.args.self.now c.args.index c.args.frame c.requires.number c.requires.role

pub invariant_of-self-clause-near : goal.invariant_of-self-clause-near
invariant_of-self-clause-near c =
    let p = c.args.self.now in
    here-set p.frames.items c.args.index p.placed c.placed_with-self.result c.args.frame c.placed_with-self.ensures.least c.placed_with-self.ensures.own p.near
