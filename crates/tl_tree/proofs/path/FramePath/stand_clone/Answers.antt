use Rattle.std.proofs.Common.{Bool, IsTrue, List, ap, arith, get_or, length, refl, set, subst, suc, sym, true, ◌+◌, ◌<◌, ◌≡◌, ◌∙◌, ℕ, false}
use Rattle.std.proofs.lemmas.Bool.{false≢true, lt-ltb, ne_eqb}
use Rattle.std.proofs.lemmas.List.{length-set}
use Rattle.tl_tree.proofs.Marks.{shut-stands}
use Rattle.tl_tree.proofs.Placed.{here-set}
use Rattle.tl_tree.proofs.StoodIn.{any-set, distinct-new, known-one, none-entered, stood-anew}
use Rattle.tl_tree.proofs.Written.{all-at, all-set, of-parts, parts-of}
use Rattle.tl_tree.specs.Inner.Adopted.{anew, frame_at}
use Rattle.tl_tree.specs.Inner.Entered.{entered}
use Rattle.tl_tree.specs.Inner.Framed.{goes_here, is_before}
use Rattle.tl_tree.specs.Inner.Frames.{changed, frames_of, is_frame}
use Rattle.tl_tree.specs.Inner.Gone.{are_shut}
use Rattle.tl_tree.specs.declared.frame.Frame.{Frame}
use Rattle.tl_tree.specs.declared.frame.Place.TheVariants.{Here}
use Rattle.tl_tree.proofs.path.FramePath.stand_clone.Goals as goal

pub replace_known-requires-clause-new : goal.replace_known-requires-clause-new
replace_known-requires-clause-new c = none-entered c.args.self.now c.args.number c.requires.new

pub invariant_of-self-clause-within : goal.invariant_of-self-clause-within
invariant_of-self-clause-within c =
    let p = c.args.self.now in
    let xs = p.frames.items in
    let b = c.index-inside.result.now in
    let x : Frame = record { number = c.args.number; tag = b.tag; children = 0; late = 0; waiting = 0; place = Here; is_open = true } in
    let parts = parts-of p.store b (all-at (is_frame p) xs (c.args.place + 1) b b c.index-inside.ensures c.requires.within p.within) in
    all-set (is_frame p) xs c.args.place x p.within (of-parts p.store x parts.tag (omega arith) (omega arith) (omega arith))

pub invariant_of-self-clause-distinct : goal.invariant_of-self-clause-distinct
invariant_of-self-clause-distinct c =
    let p = c.args.self.now in
    let b = c.index-inside.result.now in
    distinct-new p.frames.items c.args.place (record { number = c.args.number; tag = b.tag; children = 0; late = 0; waiting = 0; place = Here; is_open = true }) c.requires.new p.distinct

pub invariant_of-self-clause-numbered : goal.invariant_of-self-clause-numbered
invariant_of-self-clause-numbered c =
    let p = c.args.self.now in
    let b = c.index-inside.result.now in
    all-set (is_before p.next) p.frames.items c.args.place (record { number = c.args.number; tag = b.tag; children = 0; late = 0; waiting = 0; place = Here; is_open = true }) p.numbered (lt-ltb c.args.number p.next c.requires.number)

pub invariant_of-self-clause-known : goal.invariant_of-self-clause-known
invariant_of-self-clause-known c =
    let p = c.args.self.now in
    let n = c.args.place in
    let b = c.index-inside.result.now in
    let x : Frame = record { number = c.args.number; tag = b.tag; children = 0; late = 0; waiting = 0; place = Here; is_open = true } in
    let within : suc n < length p.frames.items = omega (arith, c.requires.within) in
    let next : n + 1 ≡ suc n = omega arith in
    let is = c.index-inside.ensures ∙ ap (λ (k : ℕ). get_or p.frames.items k b) next in
    known-one p n c.args.number x b (entered c.replace_known.new.self) within is refl refl c.replace_known.ensures

pub invariant_of-self-clause-some : goal.invariant_of-self-clause-some
invariant_of-self-clause-some c =
    let p = c.args.self.now in
    let n = c.args.place in
    let b = c.index-inside.result.now in
    let x : Frame = record { number = c.args.number; tag = b.tag; children = 0; late = 0; waiting = 0; place = Here; is_open = true } in
    let one = ap length c.stand.ensures in
    let first = length-set p.gaps.marks.items n false in
    let own = length-set p.frames.items n x in
    let some = p.some in
    omega arith

pub invariant_of-self-clause-shut : goal.invariant_of-self-clause-shut
invariant_of-self-clause-shut c =
    let p = c.args.self.now in
    let n = c.args.place in
    let b = c.index-inside.result.now in
    let x : Frame = record { number = c.args.number; tag = b.tag; children = 0; late = 0; waiting = 0; place = Here; is_open = true } in
    subst (λ (all : List Bool). IsTrue (are_shut all (set p.frames.items n x))) (sym c.stand.ensures)
    (shut-stands p.gaps.marks.items n p.frames.items x p.shut)

pub invariant_of-self-clause-near : goal.invariant_of-self-clause-near
invariant_of-self-clause-near c =
    let p = c.args.self.now in
    let b = c.index-inside.result.now in
    here-set p.frames.items c.args.place p.placed p.placed (record { number = c.args.number; tag = b.tag; children = 0; late = 0; waiting = 0; place = Here; is_open = true }) (omega arith) (λ (e : goes_here Here ≡ false). absurd (false≢true (sym e))) p.near

pub returns-clause-frames : goal.returns-clause-frames
returns-clause-frames c =
    let p = c.args.self.now in
    let n = c.args.place in
    let b = c.index-inside.result.now in
    let x : Frame = record { number = c.args.number; tag = b.tag; children = 0; late = 0; waiting = 0; place = Here; is_open = true } in
    let within : suc n < length p.frames.items = omega (arith, c.requires.within) in
    let next : suc n ≡ n + 1 = omega arith in
    let is = c.index-inside.ensures ∙ ap (λ (k : ℕ). get_or p.frames.items k b) (sym next) in
    stood-anew p _ n c.args.number x b refl refl within is refl
    ∙ ap (λ (k : ℕ). changed n (anew c.args.number (frame_at p k).tag) (frames_of p)) next

pub returns-clause-others : goal.returns-clause-others
returns-clause-others c = λ m none other.
    let p = c.args.self.now in
    let b = c.index-inside.result.now in
    any-set p.frames.items c.args.place m (record { number = c.args.number; tag = b.tag; children = 0; late = 0; waiting = 0; place = Here; is_open = true }) none (ne_eqb c.args.number m (λ (same : c.args.number ≡ m). other (sym same)))

pub returns-clause-len : goal.returns-clause-len
returns-clause-len c =
    let p = c.args.self.now in
    let b = c.index-inside.result.now in
    length-set p.frames.items c.args.place (record { number = c.args.number; tag = b.tag; children = 0; late = 0; waiting = 0; place = Here; is_open = true })
