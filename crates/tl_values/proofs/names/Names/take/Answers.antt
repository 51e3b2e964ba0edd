use Rattle.std.proofs.Common.{None, ap, string_bytes, sym, ◌∙◌, ◌≡◌}
use Rattle.std.specs.BTreeMap.{get_by_text}
use Rattle.tl_values.proofs.Kept.{free_kept}
use Rattle.tl_values.proofs.names.Names.take.Goals as goal

pub returns-in_ok-put-in-None-clause-kept : goal.returns-in_ok-put-in-None-clause-kept
returns-in_ok-put-in-None-clause-kept c = λ used k.
    let none : get_by_text c.args.self.now.taken (string_bytes c.args.name) ≡ None =
    ap (get_by_text c.args.self.now.taken) (sym c.as_str.ensures.value) ∙ sym c.get.ensures.value ∙ sym c.copied.ensures ∙ c.in-None.is in
    free_kept c.args.self.now c.put.new.self used (string_bytes c.args.name) (string_bytes c.in_ok-clone-in-None.field-0) k none c.in_ok-clone-in-None.ensures.cases c.in_ok-put-in-None.ensures.put c.in_ok-put-in-None.ensures.len
