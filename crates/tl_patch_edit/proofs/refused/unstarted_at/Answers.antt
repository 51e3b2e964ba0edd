use Rattle.std.proofs.Common.{List, subst, sym, ℕ}
use Rattle.std.specs.List.{All}
use Rattle.tl_patch_edit.specs.Errors.{LacksStartTag}
use Rattle.tl_patch_edit.proofs.Apart.{all_lack, if_ok}
use Rattle.tl_patch_edit.proofs.refused.unstarted_at.Goals as goal

pub returns-clause-lack : goal.returns-clause-lack
returns-clause-lack c =
    let page : List ℕ = c.args.page.now in
    let places : List ℕ = c.args.places.now in
    if_ok _ _ c.all_unstarted.result (λ found e. subst (All (LacksStartTag page places)) (sym e) (all_lack page places)) c.all_unstarted.ensures
