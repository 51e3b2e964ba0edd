use Rattle.std.proofs.Common.{sym, subst}
use Rattle.tl_patch_elements.specs.Inner.Finding.{Finds}
use Rattle.tl_patch_elements.proofs.finder.Finder.push_end.Goals as goal

pub returns : goal.returns
returns c = λ mode tokens whole end.
    subst (Finds c.args.self.now c.push_end_tag.new.self c.args.at) (sym (c.in_ok-parts.ensures.end mode tokens whole end))
    c.in_ok-push_end_tag.ensures
