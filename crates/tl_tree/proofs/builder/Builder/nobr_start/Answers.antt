use Rattle.std.proofs.Common.{List, ap, ◌∙◌, ℕ}
use Rattle.tl_dom_spec.specs.Body.{nobr_ended}
use Rattle.tl_dom_spec.specs.Builder as dom
use Rattle.tl_dom_spec.specs.Formatting.{insert_formatting_element, reconstruct_formatting}
use Rattle.tl_tree.proofs.Built.{on-ok-is}
use Rattle.tl_tree.specs.Inner.Builders.{builder_of, token_of}
use Rattle.tl_tree.proofs.builder.Builder.nobr_start.Goals as goal

pub returns-clause-ok : goal.returns-clause-ok
returns-clause-ok c =
    let b = builder_of c.args.self.now in
    let t = (token_of c.args.self.now).tag in
    let opened : List ℕ → dom.Builder = λ name. insert_formatting_element t (nobr_ended name (reconstruct_formatting b)) in
    on-ok-is c.nobr_opened.result (builder_of c.nobr_opened.new.self) (opened c.deref.result.now) (opened t.name)
    (ap opened (c.deref.ensures.value ∙ c.in_ok-name.ensures)) c.nobr_opened.ensures.ok
