use Rattle.std.proofs.Common.{◌≡◌, ◌<◌, ◌≤◌, ◌+◌, ℕ, List, Some, length, length-drop, drop, take, refl, arith}
use Rattle.std.proofs.lemmas.List.{take_rest}
use Rattle.tl_html_tokens.specs.Inner.Through.{through}
use Rattle.tl_html_tokens.specs.declared.stage.Tag.{Tag}
use Rattle.tl_html_tokens.specs.declared.stage.Stage.TheVariants.{AfterValue, BeforeKey}
use Rattle.tl_html_tokens.proofs.Through.{join, one}
use Rattle.tl_html_tokens.proofs.attributes.attributes_in_front.Goals as goal

pub past_end-requires-clause-passed : goal.past_end-requires-clause-passed
past_end-requires-clause-passed c =
    let s : List ℕ = c.args.text.now in
    let tag : Tag = c.args.tag in
    let some : 0 < c.attribute_len-len.result = (let ne = c.if-len-eq0.false in omega arith) in
    let one_more = rw take_rest at (c.attribute_len-len.ensures.attribute tag some) in
    join (BeforeKey tag) (BeforeKey tag) (AfterValue tag) c.loop-tag.at c.attribute_len-len.result s c.loop-tag.invariant.within c.loop-tag.invariant.through one_more

pub loop-tag-preserved : goal.loop-tag-preserved
loop-tag-preserved c =
    let s : List ℕ = c.args.text.now in
    let tag : Tag = c.args.tag in
    let at : ℕ = c.loop-tag.at in
    let len : ℕ = c.attribute_len-len.result in
    let some : 0 < len = (let ne = c.if-len-eq0.false in omega arith) in
    let one_more = rw take_rest at (c.attribute_len-len.ensures.attribute tag some) in
    let fits : len ≤ length (drop at s) = rw take_rest at c.attribute_len-len.ensures.within in
    let drops = length-drop at s in
    let inv = c.loop-tag.invariant.within in
    let inside : at + len < length s = (let ne = c.if-at-text.false in omega arith) in
    let passed = join (BeforeKey tag) (BeforeKey tag) (AfterValue tag) at len s inv c.loop-tag.invariant.through one_more in
    record {
      through = join (BeforeKey tag) (AfterValue tag) (BeforeKey tag) (at + len) 1 s (omega arith) passed
          (one (AfterValue tag) (BeforeKey tag) s (at + len) 32 inside c.if-text-at-ne32.false refl);
      within = omega arith;
    }
