use Rattle.std.proofs.Common.{List, ap, arith, get_or, length, refl, subst, sym, ◌+◌, ◌-◌, ◌<◌, ◌≡◌, ◌∙◌, [], ℕ}
use Rattle.std.proofs.lemmas.List.{append-nil}
use Rattle.tl_dom_spec.specs.Adoption.{Clones, cloned}
use Rattle.tl_dom_spec.specs.Path.{Frame, Path, document}
use Rattle.tl_tree.proofs.Ancestor.{apart}
use Rattle.tl_tree.proofs.Chosen.{between-next, between-none, frames-same}
use Rattle.tl_tree.specs.Inner.Active.{active_of}
use Rattle.tl_tree.specs.Inner.Adopted.{AreInward, after_clones, clones_at, elements_between, frame_at, with_element}
use Rattle.tl_tree.specs.Inner.Frames.{frames_of}
use Rattle.tl_tree.proofs.adoption.choose_clones.Goals as goal

pub loop-left-preserved : goal.loop-left-preserved
loop-left-preserved c =
    let p = c.args.path.now in
    let q = c.loop-left.path in
    let r = c.choose_at.new.path in
    let place = c.args.place in
    let k = (frame_at p (place + 1)).number in
    let left = c.loop-left.left in
    let m = left - 1 in
    let some = c.loop-left-test.true in
    let least = c.loop-left.invariant.least in
    let most = c.loop-left.invariant.most in
    let few = c.loop-left.invariant.few in
    let block = c.requires.block in
    let seen = c.in_ok-seen.ensures.seen in
    let next : m + 1 ≡ left = omega arith in
    let same = frames-same p q c.loop-left.invariant.frames c.loop-left.invariant.store in
    let places = c.loop-left.clones.items in
    let entries = active_of q.store c.loop-left.active in
    let done : List Frame → List Frame → Clones = λ fs els. after_clones (clones_at fs p.next places) (cloned c.loop-left.seen els entries q.next) in
    let between : elements_between k p left ≡ with_element (frame_at p m) (elements_between k p m) =
    ap (elements_between k p) (sym next) ∙ between-next k p m (omega arith) (apart p (place + 1) m (omega arith) (omega arith)) in
    let all = cloned 0 (elements_between k p c.args.block) (active_of p.store c.args.active.now) p.next in
    let before : all ≡ done (frames_of q) (with_element (frame_at q m) (elements_between k p m)) =
    c.loop-left.invariant.chosen
    ∙ (ap (done (frames_of p)) between
    ∙ ap (λ fs. done fs (with_element (get_or fs m document) (elements_between k p m))) (sym same)) in
    let after = c.in_ok-seen.ensures.ok (elements_between k p m) all p.next c.loop-left.invariant.count before in
    record {
      least = omega arith;
      most = omega arith;
      few = omega arith;
      chosen =
          after
          ∙ ap (λ fs. after_clones (clones_at fs p.next c.choose_at.new.clones.items) (cloned c.in_ok-seen.seen (elements_between k p m) (active_of r.store c.choose_at.new.active) r.next)) same;
      inward =
          c.in_ok-seen.ensures.inward c.args.block (omega arith)
          (subst (λ (n : ℕ). AreInward n c.args.block places) (sym next) c.loop-left.invariant.inward);
      count = c.in_ok-seen.ensures.count p.next c.loop-left.invariant.count;
      frames = c.choose_at.ensures.frames ∙ c.loop-left.invariant.frames;
      gaps = c.choose_at.ensures.gaps ∙ c.loop-left.invariant.gaps;
      store = c.choose_at.ensures.store ∙ c.loop-left.invariant.store;
      numbered = c.choose_at.ensures.numbered;
      tag = c.choose_at.ensures.tag ∙ c.loop-left.invariant.tag;
      tallied = c.choose_at.ensures.tallied;
    }

pub returns-clause-ok : goal.returns-clause-ok
returns-clause-ok c =
    let p = c.args.path.now in
    let q = c.loop-left.path in
    let place = c.args.place in
    let k = (frame_at p (place + 1)).number in
    let left = c.loop-left.left in
    let least = c.loop-left.invariant.least in
    let end = c.loop-left-test.false in
    let order = c.requires.order in
    let block = c.requires.block in
    let places = c.loop-left.clones.items in
    let entries = active_of q.store c.loop-left.active in
    let last : left ≡ (place + 1) + 1 = omega arith in
    let none : elements_between k p left ≡ [] = ap (elements_between k p) last ∙ between-none p (place + 1) (omega arith) c.requires.stands in
    c.loop-left.invariant.chosen
    ∙ (ap (λ fs. after_clones (clones_at (frames_of p) p.next places) (cloned c.loop-left.seen fs entries q.next)) none
    ∙ ap (λ (all : Path). record { frames = all; entries = entries; next = q.next }) (append-nil (clones_at (frames_of p) p.next places)))

pub returns-clause-inward : goal.returns-clause-inward
returns-clause-inward c =
    let least = c.loop-left.invariant.least in
    let end = c.loop-left-test.false in
    let last : c.loop-left.left ≡ c.args.place + 2 = omega arith in
    subst (λ (n : ℕ). AreInward n c.args.block c.loop-left.clones.items) last c.loop-left.invariant.inward
