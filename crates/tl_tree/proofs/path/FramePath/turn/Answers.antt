use Rattle.std.proofs.Common.{Bool, IsTrue, List, ap, arith, get_or, length, map, refl, set, subst, suc, sym, true, ◌+◌, ◌<◌, ◌≡◌, ◌∙◌, ℕ, false}
use Rattle.std.proofs.lemmas.Bool.{lt-ltb, ltb-true, false≢true}
use Rattle.std.proofs.lemmas.List.{length-set}
use Rattle.std.specs.List.{list_all}
use Rattle.tl_tree.proofs.Entering.{Opens}
use Rattle.tl_tree.proofs.Listed.{all-weaker}
use Rattle.tl_tree.proofs.Marks.{shut-stands}
use Rattle.tl_tree.proofs.Readopted.{nothing-in}
use Rattle.tl_tree.proofs.Turned.{all-two, distinct-two, known-two, next-free, set-two, turned-frames}
use Rattle.tl_tree.proofs.Within.{lt-more}
use Rattle.tl_tree.proofs.Written.{all-at, of-parts, parts-of}
use Rattle.tl_tree.specs.Inner.Entered.{entered, entered_of}
use Rattle.tl_tree.specs.Inner.Framed.{are_distinct, is_before, goes_here}
use Rattle.tl_tree.specs.Inner.Frames.{frames_of, is_frame}
use Rattle.tl_tree.specs.Inner.Gone.{are_shut}
use Rattle.tl_tree.specs.declared.frame.Frame.{Frame}
use Rattle.tl_tree.specs.declared.frame.Place.TheVariants.{Here}
use Rattle.tl_tree.specs.declared.gaps.Gaps.{Gaps}
use Rattle.tl_tree.proofs.Placed.{here-set}
use Rattle.tl_tree.proofs.path.FramePath.turn.Goals as goal

pub turn_known-requires-clause-new : goal.turn_known-requires-clause-new
turn_known-requires-clause-new c = next-free c.args.self.now

pub invariant_of-self-clause-within : goal.invariant_of-self-clause-within
invariant_of-self-clause-within c =
    let p = c.args.self.now in
    let xs = p.frames.items in
    let n = c.args.index in
    let b = c.index-block.result.now in
    let x : Frame = record b { children = 0; late = 0; waiting = 0; place = Here } in
    let y : Frame = record b { number = p.next; tag = c.args.tag; place = Here; is_open = true } in
    let within : suc n < length xs = omega (arith, c.requires.index) in
    let parts = parts-of p.store b (all-at (is_frame p) xs (n + 1) b b c.index-block.ensures c.requires.index p.within) in
    subst (λ (ys : List Frame). IsTrue (list_all (is_frame p) ys)) (sym (set-two xs n (n + 1) x y (omega arith) within))
    (all-two (is_frame p) n x y xs p.within
    (of-parts p.store x parts.tag (omega arith) (omega arith) (omega arith))
    (of-parts p.store y (ltb-true c.args.tag (length p.store.tags.items) c.requires.tag) parts.children parts.late parts.waiting))

pub invariant_of-self-clause-distinct : goal.invariant_of-self-clause-distinct
invariant_of-self-clause-distinct c =
    let p = c.args.self.now in
    let xs = p.frames.items in
    let n = c.args.index in
    let b = c.index-block.result.now in
    let x : Frame = record b { children = 0; late = 0; waiting = 0; place = Here } in
    let y : Frame = record b { number = p.next; tag = c.args.tag; place = Here; is_open = true } in
    let within : suc n < length xs = omega (arith, c.requires.index) in
    let next : n + 1 ≡ suc n = omega arith in
    let is = c.index-block.ensures ∙ ap (λ (k : ℕ). get_or xs k b) next in
    subst (λ (ys : List Frame). IsTrue (are_distinct ys)) (sym (set-two xs n (n + 1) x y next within))
    (distinct-two xs n p.next x y b p.distinct p.numbered (ap (λ (f : Frame). f.number) is) (omega arith) within)

pub invariant_of-self-clause-numbered : goal.invariant_of-self-clause-numbered
invariant_of-self-clause-numbered c =
    let p = c.args.self.now in
    let xs = p.frames.items in
    let n = c.args.index in
    let b = c.index-block.result.now in
    let x : Frame = record b { children = 0; late = 0; waiting = 0; place = Here } in
    let y : Frame = record b { number = p.next; tag = c.args.tag; place = Here; is_open = true } in
    let within : suc n < length xs = omega (arith, c.requires.index) in
    let test = is_before (p.next + 1) in
    let old = all-weaker (is_before p.next) test (λ g h. lt-more g.number p.next (p.next + 1) h (omega arith)) xs p.numbered in
    subst (λ (ys : List Frame). IsTrue (list_all test ys)) (sym (set-two xs n (n + 1) x y (omega arith) within))
    (all-two test n x y xs old (all-at test xs (n + 1) b b c.index-block.ensures c.requires.index old) (lt-ltb p.next (p.next + 1) (omega arith)))

pub invariant_of-self-clause-known : goal.invariant_of-self-clause-known
invariant_of-self-clause-known c =
    let p = c.args.self.now in
    let xs = p.frames.items in
    let n = c.args.index in
    let b = c.index-block.result.now in
    let x : Frame = record b { children = 0; late = 0; waiting = 0; place = Here } in
    let y : Frame = record b { number = p.next; tag = c.args.tag; place = Here; is_open = true } in
    let within : suc n < length xs = omega (arith, c.requires.index) in
    let next : n + 1 ≡ suc n = omega arith in
    let is = c.index-block.ensures ∙ ap (λ (k : ℕ). get_or xs k b) next in
    let new = entered c.turn_known.new.self in
    subst (λ (ys : List Frame). Opens new (map (entered_of p.store) ys)) (sym (set-two xs n (n + 1) x y next within))
    (known-two p n x y b c.role_at-role.result new within is refl refl c.role_at-role.ensures c.turn_known.ensures)

pub invariant_of-self-clause-some : goal.invariant_of-self-clause-some
invariant_of-self-clause-some c =
    let p = c.args.self.now in
    let xs = p.frames.items in
    let ms = p.gaps.marks.items in
    let n = c.args.index in
    let b = c.index-block.result.now in
    let x : Frame = record b { children = 0; late = 0; waiting = 0; place = Here } in
    let y : Frame = record b { number = p.next; tag = c.args.tag; place = Here; is_open = true } in
    let one = ap length c.stand.ensures in
    let two = ap length c.stand-2.ensures in
    let first = length-set ms (n + 1) false in
    let second = length-set (set ms (n + 1) false) n false in
    let own = length-set xs (n + 1) y in
    let both = length-set (set xs (n + 1) y) n x in
    let third = ap (λ (all : List Bool). length (set all n false)) c.stand.ensures in
    let some = p.some in
    omega arith

pub invariant_of-self-clause-shut : goal.invariant_of-self-clause-shut
invariant_of-self-clause-shut c =
    let p = c.args.self.now in
    let xs = p.frames.items in
    let ms = p.gaps.marks.items in
    let n = c.args.index in
    let b = c.index-block.result.now in
    let x : Frame = record b { children = 0; late = 0; waiting = 0; place = Here } in
    let y : Frame = record b { number = p.next; tag = c.args.tag; place = Here; is_open = true } in
    subst (λ (all : List Bool). IsTrue (are_shut all (set (set xs (n + 1) y) n x))) (sym (c.stand-2.ensures ∙ ap (λ (all : List Bool). set all n false) c.stand.ensures))
    (shut-stands (set ms (n + 1) false) n (set xs (n + 1) y) x (shut-stands ms (n + 1) xs y p.shut))

pub returns-clause-gaps : goal.returns-clause-gaps
returns-clause-gaps c =
    ap (λ (g : Gaps). g.marks.items) c.move_places.ensures.gaps
    ∙ (c.stand-2.ensures ∙ ap (λ (all : List Bool). set all c.args.index false) c.stand.ensures)

pub returns-clause-frames : goal.returns-clause-frames
returns-clause-frames c =
    let p = c.args.self.now in
    let xs = p.frames.items in
    let n = c.args.index in
    let b = c.index-block.result.now in
    let x : Frame = record b { children = 0; late = 0; waiting = 0; place = Here } in
    let y : Frame = record b { number = p.next; tag = c.args.tag; place = Here; is_open = true } in
    let within : suc n < length xs = omega (arith, c.requires.index) in
    let next : n + 1 ≡ suc n = omega arith in
    let is = c.index-block.ensures ∙ ap (λ (k : ℕ). get_or xs k b) next in
    turned-frames p _ n (n + 1) (n + 2) p.next c.args.tag x y b (frames_of c.move_places.new.self) c.move_places.ensures.frames refl refl next (omega arith) within is (nothing-in p.store b) refl

pub invariant_of-self-clause-near : goal.invariant_of-self-clause-near
invariant_of-self-clause-near c =
    let p = c.args.self.now in
    let xs = p.frames.items in
    let n = c.args.index in
    let b = c.index-block.result.now in
    let x : Frame = record b { children = 0; late = 0; waiting = 0; place = Here } in
    let y : Frame = record b { number = p.next; tag = c.args.tag; place = Here; is_open = true } in
    here-set (set xs (n + 1) y) n p.placed p.placed x (omega arith) (λ (e : goes_here Here ≡ false). absurd (false≢true (sym e)))
    (here-set xs (n + 1) p.placed p.placed y (omega arith) (λ (e : goes_here Here ≡ false). absurd (false≢true (sym e))) p.near)
