use Rattle.std.proofs.Common.{arith, false, subst, sym, take, ℕ, ◌≡◌}
use Rattle.std.specs.List.{list_any}
use Rattle.tl_tree.proofs.Entering.{known-number, none-known, number-read}
use Rattle.tl_tree.specs.Inner.Entered.{entered}
use Rattle.tl_tree.specs.Inner.Framed.{is_numbered}
use Rattle.tl_tree.proofs.path.FramePath.find.Goals as goal

pub returns-in-Some-clause-some : goal.returns-in-Some-clause-some
returns-in-Some-clause-some c =
    let p = c.args.self.now in
    known-number p.store p.frames.items (entered p.scopes) c.in-Some.index c.args.number p.known c.in-Some.ensures.some

pub loop-index-init : goal.loop-index-init
loop-index-init c =
    let p = c.args.self.now in
    let number = c.args.number in
    subst (λ (n : ℕ). list_any (is_numbered number) (take n p.frames.items) ≡ false) (sym c.len-index.ensures)
    (none-known p.store p.frames.items (entered p.scopes) number p.known (c.place_of.ensures.none c.in_default.is))

pub returns-then-index-number-clause-some : goal.returns-then-index-number-clause-some
returns-then-index-number-clause-some c =
    let p = c.args.self.now in
    let own = p.frames.ok.0 in
    number-read p.frames.items c.loop-index.index c.args.number c.index.result.now c.index.ensures (omega arith) c.if-index-number.true
