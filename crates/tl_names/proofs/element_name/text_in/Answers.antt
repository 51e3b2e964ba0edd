use Rattle.std.proofs.Common.{◌∙◌, ap, sym}
use Rattle.std.proofs.lemmas.Option.{slice_get-map}
use Rattle.std.specs.Borrow.{Bor}
use Rattle.std.specs.Option.{option_copied}
use Rattle.std.specs.Prelude.{List, ℕ}
use Rattle.tl_names.proofs.ElementNames.{looked_up}
use Rattle.tl_names.proofs.element_name.text_in.Goals as goal

pub returns : goal.returns
returns c =
    ap option_copied (c.copied.ensures ∙ looked_up c.args.names.now c.args.place c.get.result c.get.ensures.lookup.1 c.get.ensures.lookup.3)
    ∙ sym (slice_get-map (λ (own : Bor (List ℕ)). own.now) c.args.names.now c.args.place)
