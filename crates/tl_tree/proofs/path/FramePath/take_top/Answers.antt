use Rattle.std.proofs.Common.{◌-◌, ◌∙◌, Bool, IsTrue, List, ap, arith, length, refl, subst, sym, take, ℕ}
use Rattle.std.proofs.lemmas.List.{length-take-le}
use Rattle.tl_tree.proofs.Gone.{shut-take, take-nil}
use Rattle.tl_tree.specs.Inner.Gone.{are_shut}
use Rattle.tl_tree.proofs.Entering.{opens-cut}
use Rattle.tl_tree.proofs.Listed.{all-take}
use Rattle.tl_tree.proofs.Numbered.{distinct-take}
use Rattle.tl_tree.proofs.Written.{taken-top}
use Rattle.tl_tree.specs.Inner.Entered.{entered, entered_of}
use Rattle.tl_tree.specs.Inner.Framed.{is_before}
use Rattle.tl_tree.specs.Inner.Frames.{is_frame}
use Rattle.tl_tree.proofs.Placed.{here-cut}
use Rattle.tl_tree.proofs.path.FramePath.take_top.Goals as goal

pub invariant_of-self-clause-within : goal.invariant_of-self-clause-within
invariant_of-self-clause-within c =
    let p = c.args.self.now in
    rw c.truncate.ensures.items (all-take (is_frame p) c.cut-left.result p.frames.items p.within)

pub invariant_of-self-clause-distinct : goal.invariant_of-self-clause-distinct
invariant_of-self-clause-distinct c =
    let p = c.args.self.now in
    rw c.truncate.ensures.items (distinct-take p.frames.items c.cut-left.result p.distinct)

pub invariant_of-self-clause-numbered : goal.invariant_of-self-clause-numbered
invariant_of-self-clause-numbered c =
    let p = c.args.self.now in
    rw c.truncate.ensures.items (all-take (is_before p.next) c.cut-left.result p.frames.items p.numbered)

pub invariant_of-self-clause-some : goal.invariant_of-self-clause-some
invariant_of-self-clause-some c =
    let p = c.args.self.now in
    let own = p.frames.ok.0 in
    let within = c.cut-left.ensures.within in
    let front = length-take-le c.cut-left.result p.frames.items (omega arith) in
    let many = ap length c.truncate.ensures.items in
    let less = c.cut-left.ensures.less in
    omega arith

pub invariant_of-self-clause-shut : goal.invariant_of-self-clause-shut
invariant_of-self-clause-shut c =
    let p = c.args.self.now in
    let marks = c.cut-left.new.self.marks.items in
    subst (λ (ms : List Bool). IsTrue (are_shut ms c.truncate.new.self.items)) (sym c.cut-left.ensures.marks)
    (rw c.truncate.ensures.items (shut-take p.gaps.marks.items p.frames.items (length marks) c.cut-left.result p.shut))

pub cut-left-requires-clause-within : goal.cut-left-requires-clause-within
cut-left-requires-clause-within c =
    let p = c.args.self.now in
    let some = p.some in
    omega arith

pub returns-clause-whole : goal.returns-clause-whole
returns-clause-whole c = λ none.
    c.cut-left.ensures.marks ∙ (ap (take (length c.cut-left.new.self.marks.items)) none ∙ take-nil (length c.cut-left.new.self.marks.items))

pub returns-clause-shorter : goal.returns-clause-shorter
returns-clause-shorter c =
    let p = c.args.self.now in
    let own = p.frames.ok.0 in
    let within = c.cut-left.ensures.within in
    let front = length-take-le c.cut-left.result p.frames.items (omega arith) in
    let many = ap length c.truncate.ensures.items in
    omega arith

pub returns-clause-frames : goal.returns-clause-frames
returns-clause-frames c =
    let p = c.args.self.now in
    let own = p.frames.ok.0 in
    let within = c.cut-left.ensures.within in
    let front = length-take-le c.cut-left.result p.frames.items (omega arith) in
    c.truncate.ensures.items
    ∙ ap (λ (n : ℕ). take n p.frames.items) (sym (ap length c.truncate.ensures.items ∙ front))

pub invariant_of-self-clause-known : goal.invariant_of-self-clause-known
invariant_of-self-clause-known c =
    let p = c.args.self.now in
    opens-cut (entered_of p.store) c.cut-left.result p.frames.items c.truncate.new.self.items (entered p.scopes) (entered c.cut.new.self) c.cut.ensures c.truncate.ensures.items p.known

pub returns-clause-path : goal.returns-clause-path
returns-clause-path c =
    let p = c.args.self.now in
    let own = p.frames.ok.0 in
    taken-top p _ (c.len-last.result - 1) c.cut-left.result c.index-frame.result.now (omega arith) c.index-frame.ensures c.cut-left.ensures.there c.truncate.ensures.items c.cut-left.ensures.within refl

pub invariant_of-self-clause-near : goal.invariant_of-self-clause-near
invariant_of-self-clause-near c =
    let p = c.args.self.now in
    rw c.truncate.ensures.items (here-cut p.frames.items c.cut-left.result p.placed c.min-self.result c.min-self.ensures p.near)
