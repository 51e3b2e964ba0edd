use Rattle.std.proofs.Common.{get_or, refl}
use Rattle.std.proofs.lemmas.Option.{slice_get-get_or}
use Rattle.tl_patch_edit.proofs.raw_text.begin_of.Goals as goal

pub returns : goal.returns
returns c = (get_or c.args.tokens.now c.args.number _, slice_get-get_or c.args.tokens.now c.args.number _ c.requires, refl)
