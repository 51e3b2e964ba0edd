use Rattle.std.proofs.Common.{[], IsTrue, List, arith, is_ok, ◌+◌, ◌++◌, ◌∙◌, ◌∷◌, false, ◌<◌, ◌≡◌}
use Rattle.std.proofs.lemmas.Bool.{lt-ltb, ltb-true}
use Rattle.tl_tree.proofs.Entering.{opens-pushed}
use Rattle.tl_tree.proofs.Gone.{shut-push}
use Rattle.tl_tree.proofs.Inserted.{pushed-ok}
use Rattle.tl_tree.proofs.Numbers.{either}
use Rattle.tl_tree.specs.Inner.Gone.{are_shut}
use Rattle.tl_tree.proofs.Listed.{all-pushed, all-weaker, appended-longer}
use Rattle.tl_tree.proofs.Numbered.{distinct-pushed}
use Rattle.tl_tree.proofs.Within.{lt-more}
use Rattle.tl_tree.proofs.Written.{of-parts}
use Rattle.tl_tree.specs.Inner.Entered.{entered, entered_of}
use Rattle.tl_tree.specs.Inner.Framed.{is_before, goes_here}
use Rattle.tl_tree.specs.Inner.Frames.{is_frame}
use Rattle.tl_tree.specs.declared.frame.Frame.{Frame}
use Rattle.std.proofs.Common.{length, true}
use Rattle.tl_tree.proofs.Placed.{here-pushed}
use Rattle.tl_tree.proofs.path.FramePath.push.Goals as goal

pub invariant_of-self-clause-within : goal.invariant_of-self-clause-within
invariant_of-self-clause-within c =
    let p = c.args.self.now in
    let f : Frame = record { number = p.next; tag = c.args.tag; children = 0; late = 0; waiting = 0; place = c.args.place; is_open = true } in
    all-pushed (is_frame p) (is_ok c.push.result) p.frames.items c.push.new.self.items f c.push.ensures.items p.within
    (of-parts p.store f (ltb-true c.args.tag (length p.store.tags.items) c.requires) (omega arith) (omega arith) (omega arith))

pub invariant_of-self-clause-distinct : goal.invariant_of-self-clause-distinct
invariant_of-self-clause-distinct c =
    let p = c.args.self.now in
    let f : Frame = record { number = p.next; tag = c.args.tag; children = 0; late = 0; waiting = 0; place = c.args.place; is_open = true } in
    distinct-pushed (is_ok c.push.result) p.frames.items c.push.new.self.items p.next f c.push.ensures.items p.distinct p.numbered (omega arith)

pub invariant_of-self-clause-numbered : goal.invariant_of-self-clause-numbered
invariant_of-self-clause-numbered c =
    let p = c.args.self.now in
    let f : Frame = record { number = p.next; tag = c.args.tag; children = 0; late = 0; waiting = 0; place = c.args.place; is_open = true } in
    all-pushed (is_before (p.next + 1)) (is_ok c.push.result) p.frames.items c.push.new.self.items f c.push.ensures.items
    (all-weaker (is_before p.next) (is_before (p.next + 1)) (λ g h. lt-more g.number p.next (p.next + 1) h (omega arith)) p.frames.items p.numbered)
    (lt-ltb p.next (p.next + 1) (omega arith))

pub invariant_of-self-clause-some : goal.invariant_of-self-clause-some
invariant_of-self-clause-some c =
    let p = c.args.self.now in
    let f : Frame = record { number = p.next; tag = c.args.tag; children = 0; late = 0; waiting = 0; place = c.args.place; is_open = true } in
    let longer = appended-longer (is_ok c.push.result) p.frames.items c.push.new.self.items (f ∷ []) c.push.ensures.items in
    let some = p.some in
    omega arith

pub invariant_of-self-clause-known : goal.invariant_of-self-clause-known
invariant_of-self-clause-known c =
    let p = c.args.self.now in
    let f : Frame = record { number = p.next; tag = c.args.tag; children = 0; late = 0; waiting = 0; place = c.args.place; is_open = true } in
    opens-pushed (entered_of p.store) (is_ok c.push.result) p.frames.items c.push.new.self.items f (entered p.scopes) c.push.ensures.items p.known

pub invariant_of-self-clause-shut : goal.invariant_of-self-clause-shut
invariant_of-self-clause-shut c =
    let p = c.args.self.now in
    let marks = p.gaps.marks.items in
    let xs = p.frames.items in
    let f : Frame = record { number = p.next; tag = c.args.tag; children = 0; late = 0; waiting = 0; place = c.args.place; is_open = true } in
    let some = p.some in
    either (λ (ys : List Frame). IsTrue (are_shut marks ys)) (is_ok c.push.result) (xs ++ f ∷ []) xs c.push.new.self.items c.push.ensures.items
    (shut-push marks xs (f ∷ []) (omega arith) p.shut) p.shut

pub returns-clause-ok : goal.returns-clause-ok
returns-clause-ok c =
    pushed-ok c.enter_frames.result c.args.self.now c.enter_frames.new.self c.args.self.now.next c.args.tag c.args.place (c.enter_frames.ensures.frames ∙ c.in_ok-push.ensures.items) c.enter_frames.ensures.store c.enter_frames.ensures.gaps

pub invariant_of-self-clause-near : goal.invariant_of-self-clause-near
invariant_of-self-clause-near c =
    let p = c.args.self.now in
    let own = p.frames.ok.0 in
    let f : Frame = record { number = p.next; tag = c.args.tag; children = 0; late = 0; waiting = 0; place = c.args.place; is_open = true } in
    let inside : goes_here c.args.place ≡ false → length p.frames.items < c.placed_with-self.result = λ (e : goes_here c.args.place ≡ false).
    (let less = c.placed_with-self.ensures.own e in omega arith) in
    here-pushed (is_ok c.push.result) p.frames.items c.push.new.self.items p.placed c.placed_with-self.result f c.push.ensures.items c.placed_with-self.ensures.least inside p.near
