use Rattle.std.proofs.Common.{◌≡◌, ◌∙◌, ℕ, List, true, sym}
use Rattle.tl_patch.specs.StartTags.{IsStartTagAlone, is_start_tag}
use Rattle.tl_patch.proofs.Begins.{begins, start_alone}
use Rattle.tl_patch.proofs.parts.start_tag_name_end.Goals as goal

pub returns-clause-some : goal.returns-clause-some
returns-clause-some c =
    let tag : List ℕ = c.args.bytes.now in
    let is : is_start_tag tag ≡ true = sym c.in_ok-is_alone.ensures ∙ c.if-not-is_alone.false in
    let a : IsStartTagAlone tag = start_alone tag is in
    c.start_name_end.ensures.some ∙ begins tag a.tokens a.whole a.start ∙ sym is
