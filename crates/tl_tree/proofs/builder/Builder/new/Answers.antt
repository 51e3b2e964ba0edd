use Rattle.std.proofs.Common.{None, false, true, ◌∙◌}
use Rattle.tl_tree.proofs.Built.{known-new, started}
use Rattle.tl_tree.specs.Inner.Builders.{builder_of, token_of}
use Rattle.tl_tree.specs.declared.builder.Builder.{Builder}
use Rattle.tl_tree.specs.declared.mode.Mode.TheVariants.{Initial}
use Rattle.tl_html_tokens.specs.declared.mode.Mode.TheVariants.{Data}
use Rattle.tl_tree.proofs.builder.Builder.new.Goals as goal

pub invariant_of-result : goal.invariant_of-result
invariant_of-result c =
    record { known = known-new c.add_doctype.new.self c.new-active.result c.new-active.result.greatest_number c.new-active.result.greatest_tag c.in_ok-doctype.doctype (c.new-active.ensures.tallied c.add_doctype.new.self.store) c.new-active.ensures.number c.new-active.ensures.tag (c.add_doctype.ensures.next ∙ c.in_ok-path.ensures.next) c.in_ok-doctype.ensures.within }

pub returns-clause-start : goal.returns-clause-start
unfolding builder_of
returns-clause-start c =
    let b : Builder = record {
      path = c.add_doctype.new.self;
      active = c.new-active.result;
      mode = Initial;
      original = Initial;
      templates = c.new-templates.result;
      form = None;
      has_head = false;
      is_frameset_ok = true;
      is_fostering = false;
      is_quirks = false;
      skips = false;
      pending = c.new-pending.result;
      context = None;
      reads = Data;
      tokens = 0;
      added = 0;
      excess = 0;
      marks = 0;
      flags = c.args.flags;
      tag = 0;
      text = record { start = 0; len = 0 };
      doctype = c.in_ok-doctype.doctype;
      source = 0;
      hint = 0;
      known = known-new c.add_doctype.new.self c.new-active.result c.new-active.result.greatest_number c.new-active.result.greatest_tag c.in_ok-doctype.doctype (c.new-active.ensures.tallied c.add_doctype.new.self.store) c.new-active.ensures.number c.new-active.ensures.tag (c.add_doctype.ensures.next ∙ c.in_ok-path.ensures.next) c.in_ok-doctype.ensures.within;
    } in
    started b (c.add_doctype.ensures.path ∙ c.in_ok-path.ensures.path) (c.new-active.ensures.active c.add_doctype.new.self.store) (c.add_doctype.ensures.next ∙ c.in_ok-path.ensures.next) c.new-templates.ensures.items c.new-pending.ensures.items

pub returns-clause-page : goal.returns-clause-page
unfolding token_of
returns-clause-page c = c.add_doctype.ensures.grows.page ∙ c.in_ok-path.ensures.page
