use Rattle.std.proofs.Common.{List, subst}
use Rattle.tl_patch_edit.specs.Inner.Parts.{SayOtherwise, SaySame, parts_view}
use Rattle.tl_patch_edit.specs.declared.part.Part.{Part}
use Rattle.tl_patch_edit.proofs.Edited.{read_is, read_not}
use Rattle.tl_patch_edit.proofs.edit.is_read_as.Goals as goal

pub returns-clause-is : goal.returns-clause-is
returns-clause-is c = λ e ss h.
    read_is c.args.text.now (parts_view c.args.wanted.now) (parts_view c.in_ok-parts.parts.items)
    (subst (λ (xs : List Part). SaySame (parts_view c.args.wanted.now) (parts_view xs)) c.as_slice-2.ensures.value (c.in_ok-is_it.ensures.same e)) c.in_ok-parts.ensures ss h

pub returns-clause-not : goal.returns-clause-not
returns-clause-not c = λ e ss h.
    read_not c.args.text.now (parts_view c.args.wanted.now) (parts_view c.in_ok-parts.parts.items)
    (subst (λ (xs : List Part). SayOtherwise (parts_view c.args.wanted.now) (parts_view xs)) c.as_slice-2.ensures.value (c.in_ok-is_it.ensures.otherwise e)) c.in_ok-parts.ensures ss h
