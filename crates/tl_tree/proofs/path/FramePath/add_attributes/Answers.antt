use Rattle.std.proofs.Common.{List, arith, length, subst, sym, ◌<◌}
use Rattle.std.proofs.lemmas.Bool.{lt-ltb, ltb-true}
use Rattle.tl_dom_spec.specs.Builder.{with_more}
use Rattle.tl_tree.proofs.Numbered.{absent-number, found-within}
use Rattle.tl_tree.proofs.Stacked.{merged-path, merged-role}
use Rattle.tl_tree.proofs.Written.{all-at, parts-of}
use Rattle.tl_tree.specs.Inner.Frames.{is_frame}
use Rattle.tl_tree.specs.Inner.Stack.{retagged_by}
use Rattle.tl_tree.specs.Inner.Store.{tag_at}
use Rattle.tl_tree.specs.declared.frame.Frame.{Frame}
use Rattle.tl_tree.proofs.path.FramePath.add_attributes.Goals as goal
use Rattle.tl_tree.proofs.path.FramePath.add_attributes.Goals.{In-Some}

pub returns-in_default-clause-path : goal.returns-in_default-clause-path
returns-in_default-clause-path c =
    let p = c.args.self.now in
    absent-number p c.args.number (retagged_by (with_more (tag_at p.store c.args.other).attributes)) (c.find.ensures.none c.in_default.is)

found-there : (c : In-Some) → c.in-Some.index < length c.args.self.now.frames.items
found-there c =
    found-within c.args.self.now.frames.items c.in-Some.index c.args.number c.in-Some.ensures.some

pub index-requires : goal.index-requires
index-requires c =
    let own = c.args.self.now.frames.ok.0 in
    let h = found-there (goal.at.index-requires c).In-Some in
    omega (arith, own, h)

pub add_merged_tag-requires-clause-own : goal.add_merged_tag-requires-clause-own
add_merged_tag-requires-clause-own c =
    let p = c.args.self.now in
    let f = c.index.result.now in
    lt-ltb f.tag (length p.store.tags.items)
    (parts-of p.store f (all-at (is_frame p) p.frames.items c.in-Some.index f f c.index.ensures (found-there (goal.at.add_merged_tag-requires-clause-own c).In-Some) p.within)).tag

pub retag-requires-clause-index : goal.retag-requires-clause-index
retag-requires-clause-index c =
    subst (λ (frames : List Frame). c.in-Some.index < length frames) (sym c.add_merged_tag.ensures.frames) (found-there (goal.at.retag-requires-clause-index c).In-Some)

pub retag-requires-clause-role : goal.retag-requires-clause-role
retag-requires-clause-role c =
    let p = c.args.self.now in
    let f = c.index.result.now in
    let there = found-there (goal.at.retag-requires-clause-role c).In-Some in
    merged-role p c.add_merged_tag.new.self c.in-Some.index f c.in_ok-tag.tag (tag_at p.store c.args.other).attributes c.add_merged_tag.ensures.grows c.add_merged_tag.ensures.frames c.index.ensures there
    (parts-of p.store f (all-at (is_frame p) p.frames.items c.in-Some.index f f c.index.ensures there p.within)).tag
    (ltb-true c.in_ok-tag.tag (length c.add_merged_tag.new.self.store.tags.items) c.in_ok-tag.ensures.within) c.in_ok-tag.ensures.stands

pub returns-clause-path : goal.returns-clause-path
returns-clause-path c =
    merged-path c.args.self.now c.add_merged_tag.new.self c.retag.new.self c.args.number c.in-Some.index c.index.result.now c.in_ok-tag.tag (tag_at c.args.self.now.store c.args.other).attributes c.add_merged_tag.ensures.grows c.add_merged_tag.ensures.frames c.in-Some.ensures.some c.index.ensures (found-there (goal.at.returns-clause-path c).In-Some) c.in_ok-tag.ensures.stands c.add_merged_tag.ensures.gaps c.retag.ensures.gaps c.retag.ensures.frames
