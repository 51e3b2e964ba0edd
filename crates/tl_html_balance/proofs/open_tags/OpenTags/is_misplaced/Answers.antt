use Rattle.std.proofs.Common.{ap, ◌∙◌, sym, not, is_some}
use Rattle.tl_html_spec.specs.Balanced.{depth, never}
use Rattle.tl_html_balance.specs.Classes.{is}
use Rattle.tl_html_balance.specs.declared.class.TheConstants as class
use Rattle.tl_html_balance.specs.View.{name_of, open_names}
use Rattle.tl_html_balance.proofs.Tokens.{IsPlain, misplaced-body, misplaced-form, misplaced-head, misplaced-html, misplaced-part, well-placed}
use Rattle.tl_html_balance.proofs.open_tags.OpenTags.is_misplaced.Goals as goal

pub returns-then-is : goal.returns-then-is
returns-then-is c =
    misplaced-html (name_of c.args.name.now) (open_names c.args.self.now) c.has_other.result (sym c.is.ensures ∙ c.if-is.true)
    (c.has_other.ensures ∙ ap (λ names. is_some (depth (λ x. not (is 0 x)) never names)) c.all.ensures)

pub returns-then-is-2 : goal.returns-then-is-2
returns-then-is-2 c =
    misplaced-head (name_of c.args.name.now) (open_names c.args.self.now) c.has_other-then-is-2.result (sym c.is-else-is.ensures ∙ c.if-is-2.true)
    (c.has_other-then-is-2.ensures ∙ ap (λ names. is_some (depth (λ x. not (is class.HTML x)) never names)) c.all-then-is-2.ensures)

pub returns-then-is-3 : goal.returns-then-is-3
returns-then-is-3 c =
    misplaced-body (name_of c.args.name.now) (open_names c.args.self.now) c.has_other-then-is-3.result (sym c.is-else-is-2.ensures ∙ c.if-is-3.true)
    (c.has_other-then-is-3.ensures ∙ ap (λ names. is_some (depth (λ x. not (is class.HTML_OR_HEAD x)) never names)) c.all-then-is-3.ensures)

pub returns-then-is-4 : goal.returns-then-is-4
returns-then-is-4 c =
    misplaced-form (name_of c.args.name.now) (open_names c.args.self.now) c.is_some.result (sym c.is-else-is-3.ensures ∙ c.if-is-4.true)
    (c.is_some.ensures ∙ ap is_some (c.depth.ensures.value ∙ ap (depth (is class.FORM) (is class.TEMPLATE)) c.all-then-is-4.ensures))

pub returns-then-is-5 : goal.returns-then-is-5
returns-then-is-5 c =
    let plain : IsPlain (name_of c.args.name.now) = record {
      html = sym c.is.ensures ∙ c.if-is.false;
      head = sym c.is-else-is.ensures ∙ c.if-is-2.false;
      body = sym c.is-else-is-2.ensures ∙ c.if-is-3.false;
      form = sym c.is-else-is-3.ensures ∙ c.if-is-4.false;
    } in
    misplaced-part (name_of c.args.name.now) (open_names c.args.self.now) c.is_none.result plain (sym c.is-else-is-4.ensures ∙ c.if-is-5.true)
    (ap is_some (sym (c.depth-then-is-5.ensures.value ∙ ap (depth (is class.TABLE_BOUND) (is 0)) c.all-then-is-5.ensures)) ∙ c.is_none.ensures)

pub returns-else-is-5 : goal.returns-else-is-5
returns-else-is-5 c =
    let plain : IsPlain (name_of c.args.name.now) = record {
      html = sym c.is.ensures ∙ c.if-is.false;
      head = sym c.is-else-is.ensures ∙ c.if-is-2.false;
      body = sym c.is-else-is-2.ensures ∙ c.if-is-3.false;
      form = sym c.is-else-is-3.ensures ∙ c.if-is-4.false;
    } in
    well-placed (name_of c.args.name.now) (open_names c.args.self.now) plain (sym c.is-else-is-4.ensures ∙ c.if-is-5.false)
