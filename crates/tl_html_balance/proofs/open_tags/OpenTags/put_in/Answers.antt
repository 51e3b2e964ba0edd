use Rattle.std.proofs.Common.{ap, ◌∙◌, sym}
use Rattle.tl_html_spec.specs.Balanced.{depth}
use Rattle.tl_html_balance.specs.Classes.{is}
use Rattle.tl_html_balance.specs.declared.class.TheConstants as class
use Rattle.tl_html_balance.specs.View.{name_of, open_names}
use Rattle.tl_html_balance.proofs.Tokens.{puts-break, puts-closed, puts-foreign, puts-other, puts-paragraph}
use Rattle.tl_html_balance.proofs.open_tags.OpenTags.put_in.Goals as goal

pub returns-then-is : goal.returns-then-is
returns-then-is c =
    puts-break (name_of c.args.name.now) (open_names c.args.self.now) (sym c.is.ensures ∙ c.if-is.true)

pub returns-then-not-is : goal.returns-then-not-is
returns-then-not-is c =
    puts-other (name_of c.args.name.now) (open_names c.args.self.now) (sym c.is.ensures ∙ c.if-is.false) (sym c.is-2.ensures ∙ c.if-not-is.true)

pub returns-then-is_foreign : goal.returns-then-is_foreign
returns-then-is_foreign c =
    puts-foreign (name_of c.args.name.now) (open_names c.args.self.now) (sym c.is.ensures ∙ c.if-is.false) (sym c.is-2.ensures ∙ c.if-not-is.false) (sym c.is_foreign.ensures ∙ c.if-is_foreign.true)

pub returns-in-Some : goal.returns-in-Some
returns-in-Some c =
    puts-closed (name_of c.args.name.now) (open_names c.args.self.now) _ (sym c.is.ensures ∙ c.if-is.false) (sym c.is-2.ensures ∙ c.if-not-is.false) (sym c.is_foreign.ensures ∙ c.if-is_foreign.false)
    (c.in-Some.ensures.value ∙ ap (depth (is class.P) (is class.BUTTON_SCOPE)) c.all.ensures)

pub returns-in-None : goal.returns-in-None
returns-in-None c =
    puts-paragraph (name_of c.args.name.now) (open_names c.args.self.now) (sym c.is.ensures ∙ c.if-is.false) (sym c.is-2.ensures ∙ c.if-not-is.false) (sym c.is_foreign.ensures ∙ c.if-is_foreign.false)
    (c.in-None.ensures.value ∙ ap (depth (is class.P) (is class.BUTTON_SCOPE)) c.all.ensures)
