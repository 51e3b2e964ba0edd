use Rattle.std.proofs.Common.{Bool, None, Option, Some, ap, false, if◌then◌else◌, refl, true, ◌∙◌, ◌∷◌, ◌≡◌, ℕ}
use Rattle.std.proofs.lemmas.Result.{on_ok_weaker}
use Rattle.std.specs.Bool.{then_some}
use Rattle.tl_dom_spec.specs.Builder as dom
use Rattle.tl_tree.proofs.Contexts.{stands-in}
use Rattle.tl_tree.specs.Contexts.{context_of}
use Rattle.tl_tree.specs.Inner.Builders.{Said, builder_of}
use Rattle.tl_tree.proofs.builder.Builder.stand_in.Goals as goal

form-of : (is_in_form : Bool) → then_some {T = ℕ} is_in_form 0 ≡ (if is_in_form then Some 0 else None)
form-of true = refl
form-of false = refl

pub returns-clause-ok : goal.returns-clause-ok
returns-clause-ok c =
    let inside = builder_of c.read_in.new.self in
    let templated = builder_of c.enter_template.new.self in
    on_ok_weaker c.reset_insertion_mode.result
    (λ e.
    stands-in (context_of c.args.context) (builder_of c.args.self.now) (builder_of c.insert_root.new.self) inside templated
    (builder_of c.set_form.new.self) (builder_of c.set_quirks.new.self) (builder_of c.reset_insertion_mode.new.self)
    c.in_ok-insert_root.ensures.ok c.in_ok-read_in.ensures.ok
    (c.in_ok-enter_template.ensures.ok
    ∙ ap (λ (is : Bool). record inside { templates = if is then dom.in_template ∷ inside.templates else inside.templates }) c.is_template.ensures)
    (c.set_form.ensures.ok ∙ ap (λ (form : Option ℕ). record templated { form = form }) (c.then_some.ensures ∙ form-of c.args.context.is_in_form))
    c.set_quirks.ensures.ok e)
    c.reset_insertion_mode.ensures.ok

pub returns-clause-page : goal.returns-clause-page
returns-clause-page c =
    ap (λ (said : Said). said.page)
    (c.reset_insertion_mode.ensures.token
    ∙ (c.set_quirks.ensures.token
    ∙ (c.set_form.ensures.token
    ∙ (c.enter_template.ensures.token ∙ (c.read_in.ensures.token ∙ c.insert_root.ensures.token)))))
