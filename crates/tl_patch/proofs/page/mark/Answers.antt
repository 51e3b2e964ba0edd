use Rattle.std.proofs.Common.{◌∙◌, Bool, take, ap, sym, if◌then◌else◌}
use Rattle.tl_patch.proofs.page.mark.Goals as goal

pub returns-else-starts_with : goal.returns-else-starts_with
returns-else-starts_with c = sym (ap (λ (v : Bool). take (if v then 3 else 0) c.args.page.now) (sym c.starts_with.ensures.value ∙ c.if-starts_with.false))
