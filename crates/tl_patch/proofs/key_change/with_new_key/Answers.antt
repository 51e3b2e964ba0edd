use Rattle.std.proofs.Common.{◌≡◌, ◌&&◌, ℕ, Bool, true, List, subst, IfOk, is_some}
use Rattle.std.proofs.lemmas.Bool.{and_from}
use Rattle.tl_patch.specs.Places.{begins_start_tag}
use Rattle.tl_patch_spec.specs.Markup.{is_key, is_without_nul}
use Rattle.tl_patch.specs.StartTags.{IsStartTagAlone}
use Rattle.tl_patch.proofs.Begins.{begins, start_alone}
use Rattle.tl_patch.proofs.Fresh.{fresh}
use Rattle.tl_patch.proofs.Puts.{found}
use Rattle.tl_patch.proofs.key_change.with_new_key.Goals as goal

pub returns-clause-changed : goal.returns-clause-changed
returns-clause-changed c =
    found c.with_attribute.result _ _
    (λ new a. fresh c.args.tag.now new.items c.args.key.now c.args.value.now c.args.start c.requires.tag c.requires.start c.requires.absent c.requires.key c.requires.value a)
    c.with_attribute.ensures.added

pub returns-clause-some : goal.returns-clause-some
returns-clause-some c =
    let key : List ℕ = c.args.key.now in
    let value : List ℕ = c.args.value.now in
    let tag : List ℕ = c.args.tag.now in
    let a : IsStartTagAlone tag = start_alone tag c.requires.tag in
    let start : begins_start_tag tag ≡ true = begins tag a.tokens a.whole a.start in
    let all : (is_key key && (is_without_nul value && begins_start_tag tag)) ≡ true =
    and_from (is_key key) _ c.requires.key (and_from (is_without_nul value) _ c.requires.value start) in
    subst (λ (v : Bool). IfOk c.with_attribute.result (λ found. is_some found ≡ v)) all c.with_attribute.ensures.some
