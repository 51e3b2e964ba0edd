use Rattle.std.proofs.Common.{ap, arith, drop, length, map, suc, sym, take, ◌+◌, ◌<◌, ◌++◌, ◌≡◌, ◌∙◌, ℕ, List}
use Rattle.tl_dom_spec.specs.Path as dom
use Rattle.tl_tree.proofs.Placed.{moved-none}
use Rattle.tl_tree.proofs.Readopted.{changed-next}
use Rattle.tl_tree.proofs.Written.{frames-length}
use Rattle.tl_tree.specs.Inner.Adopted.{moved}
use Rattle.tl_tree.specs.Inner.Frames.{frames_of}
use Rattle.tl_tree.proofs.path.FramePath.move_places.Goals as goal

pub loop-self-preserved : goal.loop-self-preserved
loop-self-preserved c =
    let p = c.loop-self.self in
    let q = c.move_place.new.self in
    let i = c.loop-self.index in
    let change = moved c.args.block c.args.new in
    let many = frames-length p in
    let below : i < length p.frames.items = c.may_be_placed.ensures.yes c.loop-self-test.true in
    let next : i + 1 ≡ suc i = omega arith in
    let done : ℕ → List dom.Frame → List dom.Frame = λ n fs. take n fs ++ map change (drop n fs) in
    record {
      len = c.move_place.ensures.len ∙ c.loop-self.invariant.len;
      rest =
          ap (λ n. done n (frames_of q)) next
          ∙ (ap (done (suc i)) c.move_place.ensures.frames
          ∙ (changed-next i change (frames_of p) (omega arith) ∙ c.loop-self.invariant.rest));
      next = c.move_place.ensures.next ∙ c.loop-self.invariant.next;
      gaps = c.move_place.ensures.gaps ∙ c.loop-self.invariant.gaps;
      store = c.move_place.ensures.store ∙ c.loop-self.invariant.store;
    }

pub returns-clause-frames : goal.returns-clause-frames
returns-clause-frames c =
    let p = c.loop-self.self in
    sym (moved-none p c.loop-self.index c.args.block c.args.new (c.may_be_placed.ensures.no c.loop-self-test.false))
    ∙ c.loop-self.invariant.rest
