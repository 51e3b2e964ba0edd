use Rattle.std.proofs.Common.{Bool, ap, arith, cond, false, get_or, inl, inr, length, nat_eq, refl, sym, true, Some, ℕ, ◌+◌, ◌-◌, ◌<◌, ◌≡◌, ◌∙◌}
use Rattle.std.proofs.lemmas.Bool.{cases_lt, eq-eqb}
use Rattle.tl_dom_spec.specs.Path as dom
use Rattle.tl_tree.proofs.Ancestor.{drop-beyond, gone-next, settled-all, settled-next, stood-before}
use Rattle.tl_tree.proofs.Fostered.{around-gone}
use Rattle.tl_tree.proofs.Grown.{grows_refl, grows_trans}
use Rattle.tl_tree.specs.Inner.Adopted.{frame_at, is_inside}
use Rattle.tl_tree.specs.Inner.Frames.{around, frames_of}
use Rattle.tl_tree.proofs.path.FramePath.settle_between.Goals as goal

pub loop-left-init : goal.loop-left-init
loop-left-init c =
    let order = c.requires.order in
    record {
      least = omega arith;
      most = omega arith;
      rest = refl;
      gone = λ n least less. absurd (omega arith);
      here = c.requires.here;
      marks = refl;
      behind = refl;
      shape = refl;
      numbers = refl;
      tags = refl;
      len = refl;
      next = refl;
      grows = grows_refl c.args.self.now.store;
    }

pub settle_in_place-requires-clause-here : goal.settle_in_place-requires-clause-here
settle_in_place-requires-clause-here c =
    let least = c.loop-left.invariant.least in
    let some = c.loop-left-test.true in
    c.loop-left.invariant.here (c.loop-left.left - 1) (omega arith) (omega arith) (sym c.has.ensures ∙ c.if-not-has.true)

pub settle_in_place-requires-clause-stands : goal.settle_in_place-requires-clause-stands
settle_in_place-requires-clause-stands c =
    sym c.has.ensures ∙ c.if-not-has.true

pub loop-left-preserved-in-Continue-1 : goal.loop-left-preserved-in-Continue-1
loop-left-preserved-in-Continue-1 c =
    let p = c.args.self.now in
    let r = c.loop-left.self in
    let q = c.settle_in_place.new.self in
    let a = c.args.place in
    let m = c.loop-left.left - 1 in
    let least = c.loop-left.invariant.least in
    let most = c.loop-left.invariant.most in
    let some = c.loop-left-test.true in
    let len = c.loop-left.invariant.len in
    let within = c.requires.within in
    let new-len = c.in_ok-settle_in_place.ensures.len in
    let next : m + 1 ≡ c.loop-left.left = omega arith in
    let stands = sym c.has.ensures ∙ c.if-not-has.true in
    record {
      least = omega arith;
      most = omega arith;
      rest =
          settled-next p r q a m (omega arith) (omega arith) stands c.loop-left.invariant.shape c.in_ok-settle_in_place.ensures.path
          ∙ (ap (λ (i : ℕ). dom.popped_while (is_inside (Some (frame_at p a).number)) (around r i)) next ∙ c.loop-left.invariant.rest);
      gone = λ n first less. c.in_ok-settle_in_place.ensures.gone n ∙ elim (cases_lt m n) [
        | inl more ↦ gone-next (nat_eq n m) (get_or r.gaps.marks.items n false) (c.loop-left.invariant.gone n (omega arith) less)
        | inr same ↦ ap (λ (b : Bool). cond b true (get_or r.gaps.marks.items n false)) (eq-eqb n m (omega arith))
      ];
      here = λ n inside less e.
          ap (λ (f : dom.Frame). f.place) (c.in_ok-settle_in_place.ensures.shapes n less)
          ∙ c.loop-left.invariant.here n inside (omega arith) (stood-before (nat_eq n m) (get_or r.gaps.marks.items n false) (sym (c.in_ok-settle_in_place.ensures.gone n) ∙ e));
      marks = drop-beyond q.gaps.marks.items r.gaps.marks.items (m + 1) c.args.block (omega arith) c.in_ok-settle_in_place.ensures.marks ∙ c.loop-left.invariant.marks;
      behind = drop-beyond (frames_of q) (frames_of r) (m + 1) c.args.block (omega arith) c.in_ok-settle_in_place.ensures.behind ∙ c.loop-left.invariant.behind;
      shape = c.in_ok-settle_in_place.ensures.shapes a (omega arith) ∙ c.loop-left.invariant.shape;
      numbers = c.in_ok-settle_in_place.ensures.numbers ∙ c.loop-left.invariant.numbers;
      tags = c.in_ok-settle_in_place.ensures.tags ∙ c.loop-left.invariant.tags;
      len = new-len ∙ len;
      next = c.settle_in_place.ensures.next ∙ c.loop-left.invariant.next;
      grows = grows_trans p.store r.store q.store c.loop-left.invariant.grows c.settle_in_place.ensures.grows;
    }

pub loop-left-preserved : goal.loop-left-preserved
loop-left-preserved c =
    let p = c.args.self.now in
    let r = c.loop-left.self in
    let a = c.args.place in
    let m = c.loop-left.left - 1 in
    let least = c.loop-left.invariant.least in
    let most = c.loop-left.invariant.most in
    let some = c.loop-left-test.true in
    let len = c.loop-left.invariant.len in
    let within = c.requires.within in
    let next : m + 1 ≡ c.loop-left.left = omega arith in
    let gone : get_or r.gaps.marks.items m false ≡ true = sym c.has.ensures ∙ c.if-not-has.false in
    let test = is_inside (Some (frame_at p a).number) in
    record {
      least = omega arith;
      most = omega arith;
      rest =
          sym (ap (dom.popped_while test) (around-gone r m (omega arith) gone))
          ∙ (ap (λ (i : ℕ). dom.popped_while test (around r i)) next ∙ c.loop-left.invariant.rest);
      gone = λ n first less. elim (cases_lt m n) [
        | inl more ↦ c.loop-left.invariant.gone n (omega arith) less
        | inr same ↦ (let is : n ≡ m = omega arith in ap (λ (i : ℕ). get_or r.gaps.marks.items i false) is ∙ gone)
      ];
      here = λ n inside less e. c.loop-left.invariant.here n inside (omega arith) e;
      marks = c.loop-left.invariant.marks;
      behind = c.loop-left.invariant.behind;
      shape = c.loop-left.invariant.shape;
      numbers = c.loop-left.invariant.numbers;
      tags = c.loop-left.invariant.tags;
      len = len;
      next = c.loop-left.invariant.next;
      grows = c.loop-left.invariant.grows;
    }

pub returns-clause-path : goal.returns-clause-path
returns-clause-path c =
    let p = c.args.self.now in
    let r = c.loop-left.self in
    let a = c.args.place in
    let least = c.loop-left.invariant.least in
    let end = c.loop-left-test.false in
    let len = c.loop-left.invariant.len in
    let within = c.requires.within in
    let order = c.requires.order in
    let last : a + 1 ≡ c.loop-left.left = omega arith in
    sym (settled-all p r a (omega arith) c.requires.around c.loop-left.invariant.shape)
    ∙ (ap (λ (i : ℕ). dom.popped_while (is_inside (Some (frame_at p a).number)) (around r i)) last ∙ c.loop-left.invariant.rest)

pub returns-clause-gone : goal.returns-clause-gone
returns-clause-gone c = λ n inside less.
    let least = c.loop-left.invariant.least in
    let end = c.loop-left-test.false in
    c.loop-left.invariant.gone n (omega arith) less
