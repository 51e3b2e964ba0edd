use Rattle.std.proofs.Common.{[], ap, map, refl, reverse, ◌∙◌, ◌∷◌, List}
use Rattle.std.proofs.lemmas.List.{map-append, reverse-append}
use Rattle.tl_dom_spec.specs.Builder as dom
use Rattle.tl_tree.specs.Inner.Builders.{builder_of, token_of}
use Rattle.tl_tree.specs.Inner.Modes.{mode_of}
use Rattle.tl_tree.proofs.builder.Builder.push_template_mode.Goals as goal

pub returns-clause-ok : goal.returns-clause-ok
unfolding builder_of
returns-clause-ok c =
    let b = c.args.self.now in
    let modes = b.templates.items in
    ap (λ (own : List dom.Mode). record (builder_of b) { templates = own })
    (ap (λ all. reverse (map mode_of all)) c.in_ok-push.ensures.items
    ∙ (ap reverse (map-append mode_of modes (c.args.mode ∷ []))
    ∙ reverse-append (map mode_of modes) (mode_of c.args.mode ∷ [])))

pub returns-clause-token : goal.returns-clause-token
unfolding token_of
returns-clause-token c = refl

pub returns-in_err-push-clause-token : goal.returns-in_err-push-clause-token
unfolding token_of
returns-in_err-push-clause-token c = refl
